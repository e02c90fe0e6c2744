-- The start stack, word after word.
use Rattle.std.proofs.Common.{◌≡◌, ℕ, zero, suc, ◌+◌, ◌-◌, ◌*◌, ◌/◌, ◌%◌, ◌^◌, ◌<◌, ◌≤◌, List, [], ◌∷◌, ◌++◌, refl, ap, ◌∙◌, sym, arith, length, drop, get_or, append_assoc, length-append, append-nil}
use Rattle.std.proofs.lemmas.List.{at_drop_more, at_drop_all}
use Rattle.std.specs.Int.{w32, to_le_bytes}
use Rattle.elf_load.specs.Image.{words_bytes, words_start, address_table, table_start, start_size}

length_front : (w : List ℕ) (ws : List (List ℕ)) → length (words_bytes (w ∷ ws)) ≡ length w + 1 + length (words_bytes ws)
length_front w ws = length-append (w ++ 0 ∷ []) (words_bytes ws) ∙ ap (λ n. n + length (words_bytes ws)) (length-append w (0 ∷ []))

pub size_is : (words : List (List ℕ)) → length (words_bytes words) + 4 * (length words + 1) ≡ start_size words
size_is [] = refl
size_is (w ∷ ws) = omega (arith, length_front w ws, size_is ws)

pub words_more : (ws : List (List ℕ)) (i : ℕ) (d : List ℕ) → i < length ws → length (words_bytes (drop i ws)) ≡ length (get_or ws i d) + 1 + length (words_bytes (drop (i + 1) ws))
words_more ws i d h = at_drop_more (λ l. length (words_bytes l)) ws i d h ∙ length_front (get_or ws i d) (drop (i + 1) ws)

pub words_all : (ws : List (List ℕ)) (i : ℕ) → length ws ≤ i → length (words_bytes (drop i ws)) ≡ 0
words_all ws i h = at_drop_all (λ l. length (words_bytes l)) ws i h

pub table_more : (front : List ℕ) (ws : List (List ℕ)) (addr i : ℕ) (d : List ℕ) → i < length ws → front ++ address_table addr (drop i ws) ≡ (front ++ to_le_bytes w32 addr) ++ address_table (addr + length (get_or ws i d) + 1) (drop (i + 1) ws)
table_more front ws addr i d h = ap (λ xs. front ++ xs) (at_drop_more (address_table addr) ws i d h) ∙ sym (append_assoc front (to_le_bytes w32 addr) _)

pub table_all : (front : List ℕ) (ws : List (List ℕ)) (addr i : ℕ) → length ws ≤ i → front ++ address_table addr (drop i ws) ≡ front ++ to_le_bytes w32 0
table_all front ws addr i h = ap (λ xs. front ++ xs) (at_drop_all (address_table addr) ws i h)

pub pushed_more : (front : List ℕ) (ws : List (List ℕ)) (i : ℕ) (d : List ℕ) → i < length ws → front ++ words_bytes (drop i ws) ≡ ((front ++ get_or ws i d) ++ 0 ∷ []) ++ words_bytes (drop (i + 1) ws)
pushed_more front ws i d h =
    ap (λ xs. front ++ xs) (at_drop_more words_bytes ws i d h)
    ∙ sym (append_assoc front (get_or ws i d ++ 0 ∷ []) (words_bytes (drop (i + 1) ws)))
    ∙ ap (λ xs. xs ++ words_bytes (drop (i + 1) ws)) (sym (append_assoc front (get_or ws i d) (0 ∷ [])))

pub pushed_all : (front : List ℕ) (ws : List (List ℕ)) (i : ℕ) → length ws ≤ i → front ++ words_bytes (drop i ws) ≡ front
pushed_all front ws i h = ap (λ xs. front ++ xs) (at_drop_all words_bytes ws i h) ∙ append-nil front

pub few_words : (words : List (List ℕ)) → start_size words ≤ 8192 → length words < 2048
few_words words h = omega (arith, size_is words)
