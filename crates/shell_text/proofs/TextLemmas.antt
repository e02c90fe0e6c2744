-- Allowed bytes are ASCII, and so are the parts of a line of them.
use Rattle.std.proofs.Common.{◌≡◌, ℕ, zero, suc, ◌<◌, List, [], ◌∷◌, take, drop, Bool, true, false, ◌&&◌, arith, refl}
use Rattle.std.specs.List.{list_all}
use Rattle.std.specs.Str.{IsAscii, IsUtf8}
use Rattle.std.proofs.lemmas.Bool.Decides.{nat_tests}
use Rattle.std.proofs.lemmas.Str.{IsUtf8-from_ascii}
use Rattle.shell_text.specs.Lexing.{is_text_byte}

text_byte_low : (b : ℕ) → is_text_byte b ≡ true → b < 128
text_byte_low b h = grind (arith, nat_tests)

first_of_both : (a b : Bool) → (a && b) ≡ true → a ≡ true
first_of_both true b h = refl
first_of_both false b h = h

second_of_both : (a b : Bool) → (a && b) ≡ true → b ≡ true
second_of_both true b h = h
second_of_both false b h = cc

both : (a b : Bool) → a ≡ true → b ≡ true → (a && b) ≡ true
both true b h k = k
both false b h k = cc

text_ascii : (xs : List ℕ) → list_all is_text_byte xs ≡ true → IsAscii xs
text_ascii [] h i = omega arith
text_ascii (x ∷ xs) h zero = text_byte_low x (first_of_both (is_text_byte x) (list_all is_text_byte xs) h)
text_ascii (x ∷ xs) h (suc i) = text_ascii xs (second_of_both (is_text_byte x) (list_all is_text_byte xs) h) i

pub text_utf8 : (xs : List ℕ) → list_all is_text_byte xs ≡ true → IsUtf8 xs
text_utf8 xs h = IsUtf8-from_ascii xs (text_ascii xs h)

pub text_take : (n : ℕ) (xs : List ℕ) → list_all is_text_byte xs ≡ true → list_all is_text_byte (take n xs) ≡ true
text_take zero xs h = refl
text_take (suc n) [] h = refl
text_take (suc n) (x ∷ xs) h =
    both (is_text_byte x) (list_all is_text_byte (take n xs)) (first_of_both (is_text_byte x) (list_all is_text_byte xs) h)
    (text_take n xs (second_of_both (is_text_byte x) (list_all is_text_byte xs) h))

pub text_drop : (n : ℕ) (xs : List ℕ) → list_all is_text_byte xs ≡ true → list_all is_text_byte (drop n xs) ≡ true
text_drop zero xs h = h
text_drop (suc n) [] h = refl
text_drop (suc n) (x ∷ xs) h = text_drop n xs (second_of_both (is_text_byte x) (list_all is_text_byte xs) h)
