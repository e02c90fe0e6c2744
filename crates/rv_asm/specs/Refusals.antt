-- How a fault is told.
use Rattle.std.specs.Prelude.{◌≡◌, ℕ, List, Result, Ok, Err, ⊤}
use Rattle.rv_asm.specs.Faults.{number_of_kind}
use Rattle.rv_asm.specs.declared.fault.Fault.{Fault}
use Rattle.rv_asm.specs.declared.fault.AsmError.{AsmError}
use Rattle.rv_asm.specs.declared.fault.AsmError.TheVariants.{Source, NoMemory}

abbrev pub refusal_of : Fault → AsmError
refusal_of fault = Source fault.line (number_of_kind fault.kind)

-- the error tells the fault that there is, or that memory was not found
abbrev pub Tells : Result (List ℕ) Fault → AsmError → Type 0
Tells (Ok file) error = ⊥
Tells (Err fault) error = error ≡ refusal_of fault

abbrev pub IsRefusal : Result (List ℕ) Fault → AsmError → Type 0
IsRefusal outcome (Source line kind) = Tells outcome (Source line kind)
IsRefusal outcome NoMemory = ⊤
