-- Reading on by one byte.
use Rattle.std.proofs.Common.{◌≡◌, ℕ, suc, ◌+◌, ◌-◌, ◌<◌, List, [], ◌∷◌, ◌++◌, length, take, set, refl, ap, ◌∙◌, sym, arith, append_assoc, Some, Result, Ok, Err}
use Rattle.std.proofs.lemmas.List.{take_more_set}
use Rattle.page_set.specs.Pages.{PageMap, byte_at, bytes_along, with_front, behind}

behind_more : (front : List ℕ) (b at : ℕ) (rest : Result (List ℕ) ℕ) → behind front (with_front (Some b) at rest) ≡ behind (front ++ b ∷ []) rest
behind_more front b at (Ok bytes) = ap (λ (xs : List ℕ). Ok xs) (sym (append_assoc front (b ∷ []) bytes))
behind_more front b at (Err addr) = refl

bytes_more : (next : ℕ → ℕ) (pages : PageMap) (right at n k b : ℕ) → n ≡ suc k → byte_at pages right at ≡ Some b → bytes_along next pages right at n ≡ with_front (Some b) at (bytes_along next pages right (next at) k)
bytes_more next pages right at n k b e h = ap (bytes_along next pages right at) e ∙ ap (λ o. with_front o at (bytes_along next pages right (next at) k)) h

pub read_more : (next : ℕ → ℕ) (pages : PageMap) (right at : ℕ) (into : List ℕ) (i n b : ℕ) → byte_at pages right at ≡ Some b → i < n → n ≡ length into → behind (take i into) (bytes_along next pages right at (n - i)) ≡ behind (take (i + 1) (set into i b)) (bytes_along next pages right (next at) (n - (i + 1)))
read_more next pages right at into i n b h lt len =
    let k = n - (i + 1) in
    let is : n - i ≡ suc k = omega arith in
    let within : i < length into = omega arith in
    ap (behind (take i into)) (bytes_more next pages right at (n - i) k b is h)
    ∙ behind_more (take i into) b at (bytes_along next pages right (next at) k)
    ∙ ap (λ front. behind front (bytes_along next pages right (next at) k)) (sym (take_more_set into i b within))
