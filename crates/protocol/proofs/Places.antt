-- Which nodes the places of a vector name.
use Rattle.std.proofs.Common.{ℕ, zero, suc, ◌<◌, inl, inr, Option, Some, None, List, [], ◌∷◌, arith}
use Rattle.protocol.specs.Gossip.{Entry, FarPlaces, NearPlaces, renewed, first_places, woven}

pub not_far : (nodes : ℕ) (places : List (Option Entry)) → NearPlaces nodes places → FarPlaces nodes places → ⊥
not_far nodes [] near far = far
not_far nodes (None ∷ rest) near far = not_far nodes rest near far
not_far nodes (Some e ∷ rest) near (inl x) = omega (arith, near.0, x)
not_far nodes (Some e ∷ rest) near (inr x) = not_far nodes rest near.1 x

pub near_renewed : (nodes : ℕ) (own : Entry) (v : List (Option Entry)) → own.node < nodes → NearPlaces nodes v → NearPlaces nodes (renewed own v)
near_renewed nodes own [] less near = tt
near_renewed nodes own (None ∷ rest) less near = (less, near)
near_renewed nodes own (Some e ∷ rest) less near = (less, near.1)

pub near_first : (nodes k : ℕ) (v : List (Option Entry)) → NearPlaces nodes v → NearPlaces nodes (first_places k v)
near_first nodes zero v near = tt
near_first nodes (suc k) [] near = tt
near_first nodes (suc k) (None ∷ rest) near = near_first nodes k rest near
near_first nodes (suc k) (Some e ∷ rest) near = (near.0, near_first nodes k rest near.1)

pub near_woven : (nodes : ℕ) (xs ys : List (Option Entry)) → NearPlaces nodes xs → NearPlaces nodes ys → NearPlaces nodes (woven xs ys)
near_woven nodes [] ys a b = tt
near_woven nodes (x ∷ xs) [] a b = tt
near_woven nodes (None ∷ xs) (None ∷ ys) a b = near_woven nodes xs ys a b
near_woven nodes (None ∷ xs) (Some e ∷ ys) a b = (b.0, near_woven nodes xs ys a b.1)
near_woven nodes (Some e ∷ xs) (None ∷ ys) a b = (a.0, near_woven nodes xs ys a.1 b)
near_woven nodes (Some e ∷ xs) (Some f ∷ ys) a b = (a.0, (b.0, near_woven nodes xs ys a.1 b.1))
