-- The schedule of a run: the steps of the one-node machine that its own events tell, in their order. No other is looked for.
use Rattle.std.specs.Prelude.{ℕ, ℤ, Option, Some, None, List, [], ◌∷◌, ◌++◌}
use Rattle.protocol.specs.Ops.{Ops}
use Rattle.protocol.specs.Deeds.{Text, Finish, Manner, Did, Broke, Fell, Paused, Deed, Run, Kill, Other, Steps, Served, Noted}
use Rattle.run_laws.specs.Machine.{ReplyGiven, Step, Launch, Raise, Feed, Eof, Advance, Do, Break, Take, Fall, MachineState, empty, play}

-- what a served call does, and the signal that is taken after it
abbrev pub call_step : Manner → ℕ → List Step
call_step Did p = Do p ∷ []
call_step Broke p = Break p ∷ []
call_step Fell p = Fall p ∷ []
call_step Paused p = []

abbrev pub take_step : Option ℕ → ℕ → List Step
take_step None p = []
take_step (Some signal) p = Take p ∷ []

abbrev pub steps_of : Deed → List Step
steps_of (Run line i p) = Launch i ∷ []
steps_of (Kill line p signal poked) = Raise p signal ∷ []
steps_of (Other line (Text i)) = Feed i ∷ []
steps_of (Other line Finish) = Eof ∷ []
steps_of (Steps p k) = Advance p k ∷ []
steps_of (Served p manner number value child signal ends more poked) = call_step manner p ++ take_step signal p
steps_of _ = []

-- the events stand the newest first, the steps the oldest first
abbrev pub schedule : List Noted → List Step
schedule [] = []
schedule (e ∷ before) = schedule before ++ steps_of e.what

-- the replies that the events tell
abbrev pub told_so : ℕ → Option ℕ → Option ℤ → List ReplyGiven → List ReplyGiven
told_so p (Some number) (Some value) rs = record { pid = p; number = number; value = value } ∷ rs
told_so p _ _ rs = rs

abbrev pub told_by : Deed → List ReplyGiven → List ReplyGiven
told_by (Served p manner number value child signal ends more poked) rs = told_so p number value rs
told_by _ rs = rs

abbrev pub told : List Noted → List ReplyGiven
told [] = []
told (e ∷ before) = told_by e.what (told before)

-- the machine after these events
abbrev pub machine_at : (O : Ops) → List Noted → Option (MachineState O)
machine_at O es = play O (schedule es)

-- where the events play no machine, the empty one
abbrev pub machine_or : (O : Ops) → Option (MachineState O) → MachineState O
machine_or O None = empty O
machine_or O (Some m) = m

abbrev pub the_machine : (O : Ops) → List Noted → MachineState O
the_machine O es = machine_or O (machine_at O es)

-- there is such a thing, and it is so
abbrev pub With : {A : Type 0} → Option A → (A → Type 0) → Type 0
With None P = ⊥
With (Some a) P = P a
