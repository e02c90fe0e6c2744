-- Vectors that are made of honest entries.
use Rattle.std.proofs.Common.{◌≡◌, ℕ, zero, suc, List, [], ◌∷◌, Option, Some, None, take, ap, subst}
use Rattle.call_table.specs.declared.process.Entry.{Entry}
use Rattle.load_gossip.specs.Vectors.{no_places, renewed, merged}
use Rattle.load_gossip.specs.Honest.{Usage, IsHonest, AreHonest, IsMade, fresh, renews, hears}

none_stand : (usage : Usage) → AreHonest usage []
none_stand usage k entry s = cc

honest_more : (usage : Usage) (place : Option Entry) (places : List (Option Entry)) → ((entry : Entry) → place ≡ Some entry → IsHonest usage entry) → AreHonest usage places → AreHonest usage (place ∷ places)
honest_more usage place places h r zero entry s = h entry (cc)
honest_more usage place places h r (suc k) entry s = r k entry s

honest_head : (usage : Usage) (place : Option Entry) (places : List (Option Entry)) → AreHonest usage (place ∷ places) → (entry : Entry) → place ≡ Some entry → IsHonest usage entry
honest_head usage place places h entry e = h 0 entry (ap Some e)

honest_rest : (usage : Usage) (place : Option Entry) (places : List (Option Entry)) → AreHonest usage (place ∷ places) → AreHonest usage places
honest_rest usage place places h k entry s = h (suc k) entry s

is_nothing : (usage : Usage) (entry : Entry) → None ≡ Some entry → IsHonest usage entry
is_nothing usage entry e = cc

nones : ℕ → List (Option Entry)
nones zero = []
nones (suc n) = None ∷ nones n

honest_nones : (usage : Usage) (n : ℕ) → AreHonest usage (nones n)
unfolding nones
honest_nones usage zero = none_stand usage
honest_nones usage (suc n) = honest_more usage None (nones n) (is_nothing usage) (honest_nones usage n)

honest_fresh : (usage : Usage) → AreHonest usage no_places
unfolding nones
honest_fresh usage = honest_nones usage 8

honest_renewed : (usage : Usage) (own : Entry) (places : List (Option Entry)) → IsHonest usage own → AreHonest usage places → AreHonest usage (renewed own places)
honest_renewed usage own [] h r = r
honest_renewed usage own (place ∷ places) h r =
    honest_more usage (Some own) places (λ entry e. let s : own ≡ entry = cc in subst (IsHonest usage) s h) (honest_rest usage place places r)

honest_take : (usage : Usage) (n : ℕ) (places : List (Option Entry)) → AreHonest usage places → AreHonest usage (take n places)
honest_take usage zero places r = none_stand usage
honest_take usage (suc n) [] r = none_stand usage
honest_take usage (suc n) (place ∷ places) r =
    honest_more usage place (take n places) (honest_head usage place places r) (honest_take usage n places (honest_rest usage place places r))

honest_merged : (usage : Usage) (xs ys : List (Option Entry)) → AreHonest usage xs → AreHonest usage ys → AreHonest usage (merged xs ys)
honest_merged usage [] ys r s = none_stand usage
honest_merged usage (x ∷ xs) [] r s = none_stand usage
honest_merged usage (x ∷ xs) (y ∷ ys) r s =
    honest_more usage x (y ∷ merged xs ys) (honest_head usage x xs r)
    (honest_more usage y (merged xs ys) (honest_head usage y ys s) (honest_merged usage xs ys (honest_rest usage x xs r) (honest_rest usage y ys s)))

pub honest_made : (usage : Usage) (places : List (Option Entry)) → IsMade usage places → AreHonest usage places
honest_made usage _ fresh = honest_fresh usage
honest_made usage _ (renews own places h m) = honest_renewed usage own places h (honest_made usage places m)
honest_made usage _ (hears places other m n) =
    honest_merged usage (take 4 places) (take 4 other) (honest_take usage 4 places (honest_made usage places m)) (honest_take usage 4 other (honest_made usage other n))
