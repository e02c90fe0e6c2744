-- A table of labels, line by line.
use Rattle.std.proofs.Common.{◌≡◌, ℕ, ◌+◌, ◌<◌, List, [], ◌∷◌, length, drop, refl, ap, sym, ◌∙◌, arith, Option, Some, None, Bool, true, false, cond}
use Rattle.std.specs.Prelude.{is_some}
use Rattle.std.specs.Str.{bytes_eq}
use Rattle.std.proofs.lemmas.Slice.Eq.{bytes_eq-Decides}
use Rattle.rv_asm.specs.Keywords.{or_else}
use Rattle.rv_asm.specs.Layout.{defined_from, after_line}
use Rattle.rv_asm.specs.Labels.{found_or, found_or_here}
use Rattle.rv_asm.specs.declared.layout.Definition.{Definition}
use Rattle.rv_asm.specs.declared.layout.Place.{Place}
use Rattle.rv_asm.specs.declared.line.Line.{Line}

-- where the old table lacks the key, the new one has what was added
pub added : (o p : Option Definition) (b : Bool) (d : Definition) → p ≡ cond b (Some d) o → (b ≡ true → is_some o ≡ false) → p ≡ or_else o (cond b (Some d) None)
added None p true d e h = e
added None p false d e h = e
added (Some x) p true d e h = let k = h refl in cc
added (Some x) p false d e h = e

-- the table lacks each name that is the label
pub lacks : (f : List ℕ → Option Definition) (label name : List ℕ) → is_some (f label) ≡ false → bytes_eq label name ≡ true → is_some (f name) ≡ false
lacks f label name h e = let same : label ≡ name = (bytes_eq-Decides label name).0 e in rw (← same) h

or_else-cond : (o rest : Option Definition) (b : Bool) (d : Definition) → or_else o (cond b (Some d) rest) ≡ or_else (or_else o (cond b (Some d) None)) rest
or_else-cond None rest true d = refl
or_else-cond None rest false d = refl
or_else-cond (Some x) rest b d = refl

here_or_later : (o : Option Definition) (label : Option (List ℕ)) (n : ℕ) (place : Place) (line : Line) (lines : List Line) (name : List ℕ) → label ≡ line.label → or_else o (defined_from n place (line ∷ lines) name) ≡ or_else (found_or_here o label (record { line = n; address = place.address }) name) (defined_from (n + 1) (after_line place line.body) lines name)
here_or_later o None n place line lines name e = rw (← e)
here_or_later o (Some label) n place line lines name e =
    rw (← e) (or_else-cond o (defined_from (n + 1) (after_line place line.body) lines name) (bytes_eq label name) (record { line = n; address = place.address }))

-- the step of the pass: what all lines define, where these were seen
pub defined_next : (whole o p : Option Definition) (n : ℕ) (place : Place) (line : Line) (lines : List Line) (name : List ℕ) → whole ≡ or_else o (defined_from n place (line ∷ lines) name) → p ≡ found_or_here o line.label (record { line = n; address = place.address }) name → whole ≡ or_else p (defined_from (n + 1) (after_line place line.body) lines name)
defined_next whole o p n place line lines name e h = e ∙ here_or_later o line.label n place line lines name refl ∙ ap (λ q. or_else q (defined_from (n + 1) (after_line place line.body) lines name)) (sym h)
