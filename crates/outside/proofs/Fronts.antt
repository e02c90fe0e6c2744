-- What a bounded reader gives is the front of what its reader has left.
use Rattle.std.proofs.Common.{◌≡◌, ◌∙◌, ap, subst, ℕ, List, [], ◌++◌, take, Option, Some, None, IfSome}
use Rattle.std.specs.Option.{option_map}

front_at : (left : Option (List ℕ)) (old bytes : List ℕ) (limit n : ℕ) → IfSome (option_map (take limit) left) (λ xs. bytes ≡ old ++ xs) → limit ≡ n → old ≡ [] → IfSome left (λ xs. bytes ≡ take n xs)
front_at None old bytes limit n h l e = tt
front_at (Some xs) old bytes limit n h l e = h ∙ ap (λ o. o ++ take limit xs) e ∙ ap (λ k. take k xs) l

pub front_of : {R : Type 0} (remaining : R → Option (List ℕ)) (inner reader : R) (old bytes : List ℕ) (limit n : ℕ) → IfSome (option_map (take limit) (remaining inner)) (λ xs. bytes ≡ old ++ xs) → inner ≡ reader → limit ≡ n → old ≡ [] → IfSome (remaining reader) (λ xs. bytes ≡ take n xs)
front_of remaining inner reader old bytes limit n h i l e =
    subst (λ r. IfSome (remaining r) (λ xs. bytes ≡ take n xs)) i (front_at (remaining inner) old bytes limit n h l e)
