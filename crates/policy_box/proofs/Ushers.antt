-- The best choice fits its sight.
use Rattle.std.proofs.Common.{◌≡◌, ◌≢◌, ℕ, zero, suc, ◌+◌, inl, inr, Bool, true, false, cond, nat_lt, nat_le, List, [], ◌∷◌, Option, Some, None, slice_get, refl, sym, ap, subst, arith}
use Rattle.std.specs.Prelude.{Contains}
use Rattle.std.specs.List.{filter}
use Rattle.std.specs.Bool.{MatchBool}
use Rattle.std.proofs.lemmas.List.Elements.{All-contains}
use Rattle.call_table.specs.declared.process.Entry.{Entry}
use Rattle.mem_usher.specs.declared.sight.Sight.{Sight}
use Rattle.mem_usher.specs.declared.sight.Choice.{Choice}
use Rattle.mem_usher.specs.Best.{Movable}
use Rattle.mem_usher.specs.Choices.{Answers, IsLeaving, IsUshering, IsBalancing, IsBestChoice, reserve_of, shortage_of}
use Rattle.mem_usher.proofs.Only.{choices_same}
use Rattle.policy_box.specs.Policies.{IsInRange, Fits}

contains_more : {X : Type 0} (xs : List X) (y x : X) → Contains xs x → Contains (y ∷ xs) x
contains_more xs y x h = (suc h.0, omega arith, h.2)

contains_got : {X : Type 0} (xs : List X) (k : ℕ) (x : X) → slice_get xs k ≡ Some x → Contains xs x
contains_got [] k x e = absurd cc
contains_got (y ∷ xs) zero x e = (0, omega arith, cc)
contains_got (y ∷ xs) (suc k) x e = contains_more xs y x (contains_got xs k x e)

kept_contained : {X : Type 0} (p : X → Bool) (xs : List X) (k : ℕ) (x : X) → slice_get (filter p xs) k ≡ Some x → Contains xs x
kept_contained p [] k x e = absurd cc
kept_contained p (y ∷ xs) k x e = go (p y) k e (λ j f. kept_contained p xs j x f)
  where
    go : (b : Bool) (k : ℕ) → slice_get (cond b (y ∷ filter p xs) (filter p xs)) k ≡ Some x → ((j : ℕ) → slice_get (filter p xs) j ≡ Some x → Contains xs x) → Contains (y ∷ xs) x
    go true zero e r = (0, omega arith, cc)
    go true (suc k) e r = contains_more xs y x (r k e)
    go false k e r = contains_more xs y x (r k e)

leaving_movable : (shortage : ℕ) (movable : List Movable) (p : Movable) → IsLeaving shortage movable p → Contains movable p
leaving_movable shortage movable p (inl b) = kept_contained (λ q. nat_le shortage q.1) movable b.at p b.stands
leaving_movable shortage movable p (inr b) = contains_got movable b.1.at p b.1.stands

fits_by : (sight : Sight) (p : Movable) (e : Entry) (choice : Choice) → IsInRange sight → Contains sight.movable p → Contains sight.known e → choice ≡ record { pid = p.0; to = e.node } → Fits sight choice
fits_by sight p e choice r m k is = subst (Fits sight) (sym is) (record {
  pages = p.1;
  movable = m;
  entry = e;
  known = k;
  target = refl;
  other = All-contains (λ x. x.node ≢ sight.node) sight.known e r.others k;
})

pub best_fits : (sight : Sight) (choice : Choice) → IsInRange sight → IsBestChoice sight choice → Fits sight choice
best_fits sight choice r = go (nat_lt sight.free (reserve_of sight))
  where
    go : (b : Bool) → MatchBool b (IsUshering sight choice) (IsBalancing sight choice) → Fits sight choice
    go true u = fits_by sight u.process u.target choice r (leaving_movable (shortage_of sight) sight.movable u.process u.leaves) (kept_contained (λ e. nat_le (u.process.1 + reserve_of sight) e.free) sight.known u.takes.at u.target u.takes.stands) u.is
    go false u = fits_by sight u.process u.target choice r (contains_got sight.movable u.leaves.at u.process u.leaves.stands) (contains_got sight.known u.takes.at u.target u.takes.stands) u.is

-- and there is one answer
pub one_answer : (sight : Sight) (a b : Option Choice) → Answers (IsBestChoice sight) a → Answers (IsBestChoice sight) b → a ≡ b
one_answer sight None None p q = refl
one_answer sight None (Some b) p q = absurd (p b q)
one_answer sight (Some a) None p q = absurd (q a p)
one_answer sight (Some a) (Some b) p q = ap Some (choices_same sight a b p q)
