-- What a node answers to an order to move.
use Rattle.std.specs.Prelude.{ℕ, Bool, ◌==◌, Option, Some, None, if◌then◌else◌}
use Rattle.call_forward.specs.declared.state.State.{State}
use Rattle.call_forward.specs.declared.state.State.TheVariants.{Running, Waiting, Asking}
use Rattle.migrate_proto.specs.declared.go.GoAnswer.{GoAnswer}
use Rattle.migrate_proto.specs.declared.go.GoAnswer.TheVariants.{Begin, Keep, There, Moving, Missed}

-- a process with a move under way refuses another, also one to where it is
abbrev pub go_answer : Option State → Bool → ℕ → ℕ → GoAnswer
go_answer None kept here to = Missed
go_answer (Some (Asking target line)) kept here to = Moving
go_answer (Some Running) kept here to = (if kept then Moving else (if to == here then There else Begin))
go_answer (Some Waiting) kept here to = (if kept then Moving else (if to == here then There else Keep))
