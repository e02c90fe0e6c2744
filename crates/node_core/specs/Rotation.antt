-- Which kind of turn comes without a letter.
use Rattle.std.specs.Prelude.{ℕ, Bool, true, false, cond, Option, Some, None, is_some}
use Rattle.node_core.specs.declared.rotation.Kind.{Kind}
use Rattle.node_core.specs.declared.rotation.Kind.TheVariants.{Retry, Context, Line, Half}
use Rattle.node_core.specs.declared.rotation.Rotation.{Rotation}
use Rattle.node_core.specs.declared.rotation.Ready.{Ready}

abbrev pub kind_after : Kind → Kind
kind_after Retry = Context
kind_after Context = Line
kind_after Line = Half
kind_after Half = Retry

abbrev pub if_ready : Bool → Kind → Option Kind
if_ready true kind = Some kind
if_ready false kind = None

-- the kind that is taken where the scan comes to this one: a half that is due since sixteen quanta goes before a context
abbrev pub taken_at : Kind → Ready → Option Kind
taken_at Retry ready = if_ready ready.retry Retry
taken_at Context ready = cond ready.late (Some Half) (if_ready (is_some ready.context) Context)
taken_at Line ready = if_ready ready.line Line
taken_at Half ready = if_ready ready.half Half

abbrev pub or_else : Option Kind → Option Kind → Option Kind
or_else None other = other
or_else (Some kind) other = Some kind

-- the scan goes once over all kinds, from the one after the last taken
abbrev pub picked : Kind → Ready → Option Kind
picked last ready =
    or_else (taken_at (kind_after last) ready)
    (or_else (taken_at (kind_after (kind_after last)) ready)
    (or_else (taken_at (kind_after (kind_after (kind_after last))) ready)
    (taken_at (kind_after (kind_after (kind_after (kind_after last)))) ready)))

-- the scan goes on from the kind that was taken, and among the contexts from the pid that was
abbrev pub pid_after : ℕ → Kind → Option ℕ → ℕ
pid_after after Context (Some pid) = pid
pid_after after _ _ = after

abbrev pub rotated : Rotation → Kind → Option ℕ → Rotation
rotated r kind context = record { last = kind; after = pid_after r.after kind context }
