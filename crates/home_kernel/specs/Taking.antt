-- What the taking of a signal tells.
use Rattle.std.specs.Prelude.{◌≡◌, ℕ, List, Option, Some, None}
use Rattle.call_table.specs.declared.request.Taken.{Taken}
use Rattle.signal_set.specs.Signals.{SignalState, Took}
use Rattle.kernel_spec.specs.Pids.{set_pid}
use Rattle.kernel_spec.specs.Processes.{ProcessTable, take_at, with_left}

-- none is taken and nothing changes, or this is how it is taken and these are the signals afterwards
abbrev pub TakesOne : Option Taken → Option Took → SignalState → SignalState → Type 0
TakesOne None took old new = (took ≡ None) × (new ≡ old)
TakesOne (Some taken) took old new = took ≡ Some (record { taken = taken; left = new })

-- the same by pid
abbrev pub TakesOf : Option Taken → Option Took → List SignalState → ℕ → List SignalState → Type 0
TakesOf None took old pid new = (took ≡ None) × (new ≡ old)
TakesOf (Some taken) took old pid new = (left : SignalState) × (took ≡ Some (record { taken = taken; left = left })) × (new ≡ set_pid old pid left)

-- and of all processes
abbrev pub TakesAt : Option Taken → ProcessTable → ℕ → Option Took → ProcessTable → Type 0
TakesAt None old pid took new = (took ≡ None) × (new ≡ old)
TakesAt (Some taken) old pid took new = (left : SignalState) × (took ≡ Some (record { taken = taken; left = left })) × (new ≡ with_left old pid left)
