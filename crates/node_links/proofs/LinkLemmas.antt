-- A link of which both ends are at hand.
use Rattle.std.proofs.Common.{◌≡◌, ℕ, ◌+◌, ◌<◌, ◌≤◌, ◌==◌, ◌++◌, true, false, List, [], ◌∷◌, sym, ap, ◌∙◌, arith, length, length-append}
use Rattle.std.proofs.lemmas.Bool.{eqb-true, eq-eqb, ne_eqb}
use Rattle.std.proofs.lemmas.List.{append-nil}
use mathlib.Core.List.{IsPrefix}
use Rattle.call_forward.specs.declared.letter.Letter.{Letter}
use Rattle.node_links.specs.Meetings.{IsMet}

module _ {A : Type 0} where
  -- a letter less is known where one was taken
  pub known_less : (xs ys : List A) (x : A) → IsPrefix xs (x ∷ ys) → length xs ≤ length ys + 1
  known_less xs ys x p = omega (arith, ap length p.1, length-append xs p.0)

  pub none_lies : (given lies put : List A) (n : ℕ) → given ++ lies ≡ put → n ≡ length lies → (n == 0) ≡ true → given ≡ put
  none_lies given [] put n e k t = sym (append-nil given) ∙ e
  none_lies given (x ∷ lies) put n e k t = absurd (omega (arith, k, eqb-true n 0 t))

  pub lies_none : (given lies put : List A) (n : ℕ) → given ++ lies ≡ put → n ≡ length lies → given ≡ put → (n == 0) ≡ true
  lies_none given lies put n e k same = eq-eqb n 0 (omega (arith, k, ap length e, length-append given lies, ap length same))

  -- what is counted as lying there
  pub lies_count : (given lies put : List A) → given ++ lies ≡ put → length given + length lies ≡ length put
  lies_count given lies put e = sym (length-append given lies) ∙ ap length e

pub has_room : (free : ℕ) → 0 < free → (free == 0) ≡ false
has_room free less = ne_eqb free 0 (λ e. omega (arith, e, less))

-- what the two ends of a link say of it
pub met : (put : List Letter) (free : ℕ) (given lies : List Letter) → given ++ lies ≡ put → (given ≡ put → 0 < free) → IsMet put (free == 0) given (length lies)
met put free given lies e r = record { order = (lies, e); count = lies_count given lies put e; room = λ s. has_room free (r s) }
