-- What a pass leaves behind a line.
use Rattle.std.specs.Prelude.{◌≡◌, ℕ, List, ◌++◌, Option, Some, None, Result, Ok, Err}
use Rattle.rv_asm.specs.declared.fault.FaultKind.{FaultKind}

-- the bytes stand at the end, or the fault is told
abbrev pub Emits : Result (List ℕ) FaultKind → Option FaultKind → List ℕ → List ℕ → Type 0
Emits (Ok bytes) fault old new = (fault ≡ None) × (new ≡ old ++ bytes)
Emits (Err kind) fault old new = fault ≡ Some kind
