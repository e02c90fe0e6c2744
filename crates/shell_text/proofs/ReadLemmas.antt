-- One line after the other.
use Rattle.std.proofs.Common.{◌≡◌, ℕ, List, [], ◌∷◌, ap, ◌∙◌, Result, Ok}
use Rattle.shell_text.specs.declared.fault.ScriptError.{ScriptError}
use Rattle.shell_text.specs.declared.fault.ScriptError.TheVariants.{Fault, NoMemory}
use Rattle.shell_text.specs.declared.script.Reader.{Reader}
use Rattle.shell_text.specs.Script.{line_read, on_ok, read_lines, script_read, IsFaultOf}

pub read_more : (nodes : ℕ) (whole : Result Reader ScriptError) (rest behind : List (List ℕ)) (line : List ℕ) (r next : Reader) → whole ≡ read_lines nodes rest r → rest ≡ line ∷ behind → line_read nodes line r ≡ Ok next → whole ≡ read_lines nodes behind next
read_more nodes whole rest behind line r next w e h = w ∙ ap (λ ls. read_lines nodes ls r) e ∙ ap (on_ok (read_lines nodes behind)) h

pub read_fault : (nodes : ℕ) (whole : Result Reader ScriptError) (rest behind : List (List ℕ)) (line : List ℕ) (r : Reader) (e : ScriptError) → whole ≡ read_lines nodes rest r → rest ≡ line ∷ behind → IsFaultOf (line_read nodes line r) e → IsFaultOf whole e
read_fault nodes whole rest behind line r (Fault l k) w s h = w ∙ ap (λ ls. read_lines nodes ls r) s ∙ ap (on_ok (read_lines nodes behind)) h
read_fault nodes whole rest behind line r NoMemory w s h = tt

pub read_end : (nodes : ℕ) (whole : Result Reader ScriptError) (rest : List (List ℕ)) (r : Reader) → whole ≡ read_lines nodes rest r → rest ≡ [] → whole ≡ Ok r
read_end nodes whole rest r w e = w ∙ ap (λ ls. read_lines nodes ls r) e

pub script_fault : (r : Result Reader ScriptError) (e : ScriptError) → IsFaultOf r e → IsFaultOf (script_read r) e
script_fault r (Fault l k) h = ap script_read h
script_fault r NoMemory h = tt
