-- The script that bytes write, or its first fault.
use Rattle.std.specs.Prelude.{◌≡◌, ℕ, ◌+◌, Bool, nat_lt, List, [], ◌∷◌, ◌++◌, length, Option, Some, None, Result, Ok, Err, if◌then◌else◌}
use Rattle.std.specs.Str.Lines.{lines}
use Rattle.call_table.specs.declared.limit.TheConstants.{SCRIPT_BYTES}
use Rattle.node_event.specs.declared.script.Order.{Order}
use Rattle.node_event.specs.declared.script.ScriptLine.{ScriptLine}
use Rattle.shell_text.specs.declared.fault.FaultKind.{FaultKind}
use Rattle.shell_text.specs.declared.fault.ScriptError.{ScriptError}
use Rattle.shell_text.specs.declared.fault.ScriptError.TheVariants.{Fault, NoMemory}
use Rattle.shell_text.specs.declared.script.Reader.{Reader}
use Rattle.shell_text.specs.Faults.{number_of_kind}
use Rattle.shell_text.specs.Orders.{is_run_line, line_order}

-- no line was read
abbrev pub fresh : Reader
fresh = record { number = 0; runs = 0; script = [] }

-- the orders so far and that of the line of this number
abbrev pub and_order : List ScriptLine → ℕ → Option Order → List ScriptLine
and_order script number None = script
and_order script number (Some made) = script ++ record { line = number; order = made } ∷ []

-- what was read, and a line of which this is said
abbrev pub with_order : Reader → Bool → Result (Option Order) FaultKind → Result Reader ScriptError
with_order r is_run (Err kind) = Err (Fault (r.number + 1) (number_of_kind kind))
with_order r is_run (Ok made) = Ok (record {
  number = r.number + 1;
  runs = if is_run then r.runs + 1 else r.runs;
  script = and_order r.script (r.number + 1) made;
})

abbrev pub line_read : ℕ → List ℕ → Reader → Result Reader ScriptError
line_read nodes line r = with_order r (is_run_line line) (line_order nodes (r.number + 1) r.runs line)

abbrev pub on_ok : {A B E : Type 0} → (A → Result B E) → Result A E → Result B E
on_ok f (Ok a) = f a
on_ok f (Err e) = Err e

-- one line after the other, up to the first faulty one
abbrev pub read_lines : ℕ → List (List ℕ) → Reader → Result Reader ScriptError
read_lines nodes [] r = Ok r
read_lines nodes (line ∷ rest) r = on_ok (read_lines nodes rest) (line_read nodes line r)

abbrev pub script_read : Result Reader ScriptError → Result (List ScriptLine) ScriptError
script_read (Ok r) = Ok r.script
script_read (Err e) = Err e

abbrev pub script_of : ℕ → List ℕ → Result (List ScriptLine) ScriptError
script_of nodes bytes =
    if nat_lt SCRIPT_BYTES (length bytes) then Err (Fault 0 1) else script_read (read_lines nodes (lines bytes) fresh)

-- a fault is the answer, and want of memory says nothing
abbrev pub IsFaultOf : {A : Type 0} → Result A ScriptError → ScriptError → Type 0
IsFaultOf answer (Fault line kind) = answer ≡ Err (Fault line kind)
IsFaultOf answer NoMemory = Unit {0}
