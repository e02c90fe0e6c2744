-- The first word of a line, and those behind it.
use Rattle.std.proofs.Common.{◌≡◌, ℕ, suc, ◌+◌, ◌<◌, List, [], ◌∷◌, length, take, drop, refl, ap, sym, ◌∙◌, subst, arith, Bool, true, false, cond, eqb, not, inl, inr}
use Rattle.std.specs.List.{slice_split, prefix_len, position_or_len, onto_first, filter, list_all}
use Rattle.std.proofs.lemmas.Bool.{cases_Bool, ne_eqb}
use Rattle.std.proofs.lemmas.List.{length-drop}
use Rattle.shell_text.specs.Lexing.{is_blank, is_text_byte, is_word, words_of, past_blanks, behind_first}
use Rattle.shell_text.proofs.TextLemmas.{text_take, text_drop}

take_one_more : (n b : ℕ) (bs : List ℕ) → take (1 + n) (b ∷ bs) ≡ b ∷ take n bs
take_one_more n b bs = let e : 1 + n ≡ suc n = omega arith in ap (λ k. take k (b ∷ bs)) e

drop_one_more : (n b : ℕ) (bs : List ℕ) → drop (1 + n) (b ∷ bs) ≡ drop n bs
drop_one_more n b bs = let e : 1 + n ≡ suc n = omega arith in ap (λ k. drop k (b ∷ bs)) e

-- blanks before the first word do not count
words_past_blanks : (bytes : List ℕ) → words_of (past_blanks bytes) ≡ words_of bytes
words_past_blanks [] = refl
words_past_blanks (b ∷ bs) =
    elim (cases_Bool (is_blank b)) as (λ _. words_of (past_blanks (b ∷ bs)) ≡ words_of (b ∷ bs)) [
      | inl t ↦ rw t (ap words_of (drop_one_more (prefix_len is_blank bs) b bs) ∙ words_past_blanks bs)
      | inr f ↦ rw f (rw f refl)
    ]

-- the first part of a line, and the rest as words
record Parted (bs : List ℕ) : Type 0 where
  tail : List (List ℕ)
  parts : slice_split is_blank bs ≡ take (position_or_len is_blank bs) bs ∷ tail
  words : filter is_word tail ≡ words_of (behind_first bs)

parted : (bs : List ℕ) → Parted bs
parted [] = record { tail = []; parts = refl; words = refl }
parted (b ∷ bs) =
    elim (cases_Bool (is_blank b)) as (λ _. Parted (b ∷ bs)) [
      | inl t ↦ record { tail = slice_split is_blank bs; parts = rw t refl; words = rw t (rw t refl) }
      | inr f ↦ let more = parted bs in record {
        tail = more.tail;
        parts = rw f (ap (onto_first b) more.parts ∙ ap (λ x. x ∷ more.tail) (sym (take_one_more (position_or_len is_blank bs) b bs)));
        words = rw f (more.words ∙ ap words_of (sym (drop_one_more (position_or_len is_blank bs) b bs)));
      }
    ]

longer : (bytes : List ℕ) → 0 < length bytes → is_word bytes ≡ true
longer bytes h = ap not (ne_eqb (length bytes) 0 (λ z. omega arith))

-- a byte that is no blank begins a word
word_first : (b : ℕ) (bs : List ℕ) → is_blank b ≡ false → words_of (b ∷ bs) ≡ take (position_or_len is_blank (b ∷ bs)) (b ∷ bs) ∷ words_of (behind_first (b ∷ bs))
word_first b bs f =
    let more = parted (b ∷ bs) in
    let first : is_word (take (position_or_len is_blank (b ∷ bs)) (b ∷ bs)) ≡ true =
    rw f (ap is_word (take_one_more (position_or_len is_blank bs) b bs) ∙ longer (b ∷ take (position_or_len is_blank bs) bs) (omega arith)) in
    ap (filter is_word) more.parts ∙ ap (λ t. cond t (take (position_or_len is_blank (b ∷ bs)) (b ∷ bs) ∷ filter is_word more.tail) (filter is_word more.tail)) first
    ∙ ap (λ ws. take (position_or_len is_blank (b ∷ bs)) (b ∷ bs) ∷ ws) more.words

-- no blank stands first
Unblank : List ℕ → Type 0
Unblank [] = Unit {0}
Unblank (b ∷ bs) = is_blank b ≡ false

unblank_by : (t : Bool) (b : ℕ) (bs : List ℕ) → is_blank b ≡ t → Unblank (past_blanks bs) → Unblank (drop (cond t (1 + prefix_len is_blank bs) 0) (b ∷ bs))
unfolding Unblank
unblank_by true b bs e h = subst Unblank (sym (drop_one_more (prefix_len is_blank bs) b bs)) h
unblank_by false b bs e h = e

unblank : (bytes : List ℕ) → Unblank (past_blanks bytes)
unfolding Unblank
unblank [] = tt
unblank (b ∷ bs) = unblank_by (is_blank b) b bs refl (unblank bs)

word_at : (front word rest : List ℕ) (k : ℕ) → Unblank front → eqb (length front) 0 ≡ false → k ≡ position_or_len is_blank front → word ≡ take k front → rest ≡ drop k front → words_of front ≡ word ∷ words_of rest
unfolding Unblank
word_at [] word rest k u n e w r = cc
word_at (b ∷ bs) word rest k u n e w r = rw (w, r, e) (word_first b bs u)

pub next_some : (bytes front word rest : List ℕ) (k : ℕ) (t : Bool) → front ≡ past_blanks bytes → t ≡ eqb (length front) 0 → t ≡ false → k ≡ position_or_len is_blank front → word ≡ take k front → rest ≡ drop k front → words_of bytes ≡ word ∷ words_of rest
next_some bytes front word rest k t f z n e w r =
    sym (words_past_blanks bytes) ∙ ap words_of (sym f) ∙ word_at front word rest k (subst Unblank (sym f) (unblank bytes)) (sym z ∙ n) e w r

no_word : (front : List ℕ) → eqb (length front) 0 ≡ true → words_of front ≡ []
no_word [] h = refl
no_word (b ∷ bs) h = let f = ne_eqb (length (b ∷ bs)) 0 (λ z. omega arith) in cc

pub next_none : (bytes front : List ℕ) (t : Bool) → front ≡ past_blanks bytes → t ≡ eqb (length front) 0 → t ≡ true → words_of bytes ≡ []
next_none bytes front t f z n = sym (words_past_blanks bytes) ∙ ap words_of (sym f) ∙ no_word front (sym z ∙ n)

positive : (front : List ℕ) → Unblank front → eqb (length front) 0 ≡ false → 0 < position_or_len is_blank front
unfolding Unblank
positive [] u n = cc
positive (b ∷ bs) u n = rw u (omega arith)

pub next_shorter : (bytes front rest : List ℕ) (k : ℕ) (t : Bool) → front ≡ past_blanks bytes → t ≡ eqb (length front) 0 → t ≡ false → k ≡ position_or_len is_blank front → length rest + k ≡ length front → length rest < length bytes
next_shorter bytes front rest k t f z n e r =
    let some = positive front (subst Unblank (sym f) (unblank bytes)) (sym z ∙ n) in
    let whole = ap length f ∙ length-drop (prefix_len is_blank bytes) bytes in omega arith

pub next_text : (bytes front word rest : List ℕ) (k : ℕ) → front ≡ past_blanks bytes → word ≡ take k front → rest ≡ drop k front → list_all is_text_byte bytes ≡ true → (list_all is_text_byte word ≡ true) × (list_all is_text_byte rest ≡ true)
next_text bytes front word rest k f w r h =
    let all : list_all is_text_byte front ≡ true = rw f (text_drop (prefix_len is_blank bytes) bytes h) in
    (rw w (text_take k front all), rw r (text_drop k front all))
