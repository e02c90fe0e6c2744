-- A table that is cut short, for this crate and its callers.
use Rattle.std.proofs.Common.{◌≡◌, ℕ, zero, suc, ◌+◌, ◌≤◌, Bool, cond, List, [], ◌∷◌, length, take, Option, Some, None, refl, sym, ap, ◌∙◌, arith, length-take}
use Rattle.std.proofs.lemmas.List.{take_all, take-map}
use Rattle.std.proofs.lemmas.List.Sums.{sum_by-cons}
use Rattle.std.specs.List.{count_by}
use Rattle.slab.specs.Slab.{Slab}
use Rattle.id_table.specs.Places.{at_id, lowest_free, filled, without}
use Rattle.id_table.specs.Keys.{value_under, values_under, IsKeyed}

pub at_take : {T : Type 0} (n : ℕ) (places : List (Option T)) (id : ℕ) (x : T) → at_id (take n places) id ≡ Some x → at_id places id ≡ Some x
at_take zero places id x e = absurd (cc)
at_take (suc n) [] id x e = absurd (cc)
at_take (suc n) (p ∷ places) zero x e = e
at_take (suc n) (p ∷ places) (suc id) x e = at_take n places id x e

pub count_take : {T : Type 0} (f : Option T → Bool) (n : ℕ) (places : List (Option T)) → count_by f (take n places) ≤ count_by f places
count_take f zero places = omega arith
count_take f (suc n) [] = omega arith
count_take f (suc n) (p ∷ places) =
    omega (arith, count_take f n places, sum_by-cons (λ o. cond (f o) 1 0) p (take n places), sum_by-cons (λ o. cond (f o) 1 0) p places)

-- the value that was put last is taken back
pub undone : {T : Type 0} (places : List (Option T)) (value : T) → take (length places) (without (filled places value) (lowest_free places)) ≡ places
undone [] value = refl
undone (None ∷ places) value = ap (λ ps. None ∷ ps) (take_all (length places) places (omega arith))
undone (Some x ∷ places) value = ap (λ ps. Some x ∷ ps) (undone places value)

pub keyed_short : {T : Type 0} (slots : Slab T) (keys : List (Option ℕ)) (n : ℕ) → IsKeyed slots keys → IsKeyed slots (take n keys)
keyed_short slots keys n k = record {
  present = λ id key e. k.present id key (at_take n keys id key e);
  distinct = λ id other key e f. k.distinct id other key (at_take n keys id key e) (at_take n keys other key f);
  few = omega (arith, k.few, length-take n keys);
}

pub values_short : {T : Type 0} (slots : Slab T) (keys : List (Option ℕ)) (n : ℕ) → values_under slots (take n keys) ≡ take n (values_under slots keys)
values_short slots keys n = sym (take-map (value_under slots) n keys)
