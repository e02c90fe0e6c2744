-- Four parts, one pushed behind the other.
use Rattle.std.proofs.Common.{◌≡◌, ℕ, List, ◌++◌, ap, ◌∙◌, append_assoc}

pub four_parts : (a b c d two three four : List ℕ) → two ≡ a ++ b → three ≡ two ++ c → four ≡ three ++ d → four ≡ a ++ (b ++ (c ++ d))
four_parts a b c d two three four first second third =
    third ∙ (ap (λ (xs : List ℕ). xs ++ d) (second ∙ ap (λ (xs : List ℕ). xs ++ c) first)
    ∙ (append_assoc (a ++ b) c d ∙ append_assoc a b (c ++ d)))
