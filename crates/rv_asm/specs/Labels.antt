-- What a table of labels names.
use Rattle.std.specs.Prelude.{ℕ, List, nat_eq, Option, Some, None, if◌then◌else◌}
use Rattle.std.specs.Borrow.{Bor}
use Rattle.std.specs.Cmp.Lexicographic.{pointwise}
use Rattle.std.specs.HashMap.{HashMap, get_by}
use Rattle.std.specs.Str.{bytes_eq}
use Rattle.rv_asm.specs.Keywords.{or_else}
use Rattle.rv_asm.specs.declared.layout.Definition.{Definition}

abbrev pub found_in : {S : Type 0} → HashMap (Bor (List ℕ)) Definition S → List ℕ → Option Definition
found_in labels name = get_by (λ k. pointwise nat_eq name k.now) labels

-- what the name names with this label added behind the others
abbrev pub found_or : Option Definition → List ℕ → Definition → List ℕ → Option Definition
found_or earlier label definition name = or_else earlier (if bytes_eq label name then Some definition else None)

-- the same with the label that a line may have
abbrev pub found_or_here : Option Definition → Option (List ℕ) → Definition → List ℕ → Option Definition
found_or_here earlier None definition name = earlier
found_or_here earlier (Some label) definition name = found_or earlier label definition name
