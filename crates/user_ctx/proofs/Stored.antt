-- What a store leaves of the bytes of other addresses.
use Rattle.std.proofs.Common.{◌≡◌, ◌≢◌, inl, inr, ℕ, zero, suc, ◌+◌, ◌/◌, ◌%◌, ◌^◌, ◌<◌, ◌≤◌, List, [], ◌∷◌, refl, ap, ◌∙◌, sym, arith, length, Option, Some, None, Result, Ok, Err}
use Rattle.std.specs.FinMap as map
use Rattle.std.proofs.lemmas.Bool.Decides.{eqb_tells}
use Rattle.std.proofs.lemmas.List.{get_or-set_other}
use Rattle.page_set.specs.Pages.{Page, PageMap, byte_of, byte_at, bytes_at, with_front, number_of, loaded, page_with_byte, changed_page, with_byte, with_bytes, where_granted, stored, bytes_1, bytes_2, bytes_4}
use Rattle.user_spec.specs.declared.effect.Width.{Width}
use Rattle.user_spec.specs.declared.effect.Width.TheVariants.{One, Two, Four}
use Rattle.user_spec.specs.Instruction.{store_as}
use Rattle.user_ctx.specs.Windows.{word_of, SameWords, SameBut, IsClear}
use Rattle.page_set.proofs.Maps.{get_inserted, get_inserted_other}

-- another byte of the page
offset_other : (page : Page) (right at b offset : ℕ) → offset ≢ at → byte_of right offset (Some (page_with_byte at b page)) ≡ byte_of right offset (Some page)
offset_other page right at b offset h = rw (get_or-set_other page.bytes at offset b 0 h) refl

offset_differs : (a q : ℕ) → q ≢ a → q / 4096 ≡ a / 4096 → q % 4096 ≢ a % 4096
offset_differs a q h e = λ o. h (omega arith)

changed_other : (m : PageMap) (right a b q : ℕ) (o : Option Page) → map.get m (a / 4096) ≡ o → q ≢ a → byte_at (changed_page m (a / 4096) (page_with_byte (a % 4096) b) o) right q ≡ byte_at m right q
changed_other m right a b q None is h = refl
changed_other m right a b q (Some page) is h =
    let new = page_with_byte (a % 4096) b page in
    elim (eqb_tells (q / 4096) (a / 4096)) as (λ _. byte_at (map.insert m (a / 4096) new) right q ≡ byte_at m right q) [
      | inl e ↦
          ap (λ n. byte_of right (q % 4096) (map.get (map.insert m (a / 4096) new) n)) e.1
          ∙ ap (byte_of right (q % 4096)) (get_inserted m (a / 4096) new)
          ∙ offset_other page right (a % 4096) b (q % 4096) (offset_differs a q h e.1)
          ∙ ap (byte_of right (q % 4096)) (sym is)
          ∙ ap (λ n. byte_of right (q % 4096) (map.get m n)) (sym e.1)
      | inr e ↦ ap (byte_of right (q % 4096)) (get_inserted_other m (a / 4096) (q / 4096) new e.1)
    ]

byte_other : (m : PageMap) (right a b q : ℕ) → q ≢ a → byte_at (with_byte m a b) right q ≡ byte_at m right q
byte_other m right a b q h = changed_other m right a b q (map.get m (a / 4096)) refl h

bytes_other : (bs : List ℕ) (m : PageMap) (right a q : ℕ) → a < 2 ^ 32 → ((j : ℕ) → j < length bs → q ≢ (a + j) % 2 ^ 32) → byte_at (with_bytes m a bs) right q ≡ byte_at m right q
bytes_other [] m right a q lt h = refl
bytes_other (b ∷ bs) m right a q lt h =
    bytes_other bs (with_byte m a b) right ((a + 1) % 2 ^ 32) q (omega arith) (λ j within e. h (suc j) (omega arith) (omega arith))
    ∙ byte_other m right a b q (λ e. h 0 (omega arith) (omega arith))

-- bytes that are the same one by one
bytes_same : (n : ℕ) (old new : PageMap) (right a : ℕ) → a + n ≤ 2 ^ 32 → ((i : ℕ) → i < n → byte_at new right (a + i) ≡ byte_at old right (a + i)) → bytes_at new right a n ≡ bytes_at old right a n
bytes_same zero old new right a lt h = refl
bytes_same (suc zero) old new right a lt h =
    let here : a + 0 ≡ a = omega arith in
    ap (λ o. with_front o a (Ok [])) (ap (byte_at new right) (sym here) ∙ h 0 (omega arith) ∙ ap (byte_at old right) here)
bytes_same (suc (suc n)) old new right a lt h =
    let here : a + 0 ≡ a = omega arith in
    let next : (a + 1) % 2 ^ 32 ≡ a + 1 = omega arith in
    let after = λ (i : ℕ) (within : i < suc n). (let there : a + suc i ≡ a + 1 + i = omega arith in ap (byte_at new right) (sym there) ∙ h (suc i) (omega arith) ∙ ap (byte_at old right) there) in
    ap (λ o. with_front o a (bytes_at new right ((a + 1) % 2 ^ 32) (suc n))) (ap (byte_at new right) (sym here) ∙ h 0 (omega arith) ∙ ap (byte_at old right) here)
    ∙ ap (λ at. with_front (byte_at old right a) a (bytes_at new right at (suc n))) next
    ∙ ap (with_front (byte_at old right a) a) (bytes_same (suc n) old new right (a + 1) (omega arith) after)
    ∙ ap (λ at. with_front (byte_at old right a) a (bytes_at old right at (suc n))) (sym next)

-- an address in a word that a store of at most four bytes touches
touches : (addr j at i : ℕ) → addr < 2 ^ 32 → j < 4 → at % 4 ≡ 0 → at < 2 ^ 32 → i < 4 → at ≢ word_of addr → at ≢ word_of ((addr + 3) % 2 ^ 32) → at + i ≢ (addr + j) % 2 ^ 32
touches addr j at i lt few aligned range within first last e = grind arith

word_other : (bs : List ℕ) (m : PageMap) (addr at : ℕ) → addr < 2 ^ 32 → length bs ≤ 4 → at % 4 ≡ 0 → at < 2 ^ 32 → at ≢ word_of addr → at ≢ word_of ((addr + 3) % 2 ^ 32) → loaded (with_bytes m addr bs) at 4 1 ≡ loaded m at 4 1
word_other bs m addr at lt few aligned range first last =
    ap number_of (bytes_same 4 m (with_bytes m addr bs) 1 at (omega arith) (λ i within. bytes_other bs m 1 addr (at + i) lt (λ j some. touches addr j at i lt (omega arith) aligned range within first last)))

granted : (r : Result (List ℕ) ℕ) (m new : PageMap) → where_granted r m ≡ Ok new → new ≡ m
granted (Ok bytes) m new e = cc
granted (Err addr) m new e = cc

stored_other : (bs : List ℕ) (old new : PageMap) (addr at : ℕ) → length bs ≤ 4 → stored old addr bs ≡ Ok new → addr < 2 ^ 32 → at % 4 ≡ 0 → at < 2 ^ 32 → at ≢ word_of addr → at ≢ word_of ((addr + 3) % 2 ^ 32) → loaded new at 4 1 ≡ loaded old at 4 1
stored_other bs old new addr at few e lt aligned range first last =
    ap (λ m. loaded m at 4 1) (granted (bytes_at old 2 addr (length bs)) (with_bytes old addr bs) new e)
    ∙ word_other bs old addr at lt few aligned range first last

-- a store leaves the words that it does not touch
pub store_other : (width : Width) (old new : PageMap) (addr value at : ℕ) → store_as width old addr value ≡ Ok new → addr < 2 ^ 32 → at % 4 ≡ 0 → at < 2 ^ 32 → at ≢ word_of addr → at ≢ word_of ((addr + 3) % 2 ^ 32) → loaded new at 4 1 ≡ loaded old at 4 1
store_other One old new addr value at = stored_other (bytes_1 value) old new addr at (omega arith)
store_other Two old new addr value at = stored_other (bytes_2 value) old new addr at (omega arith)
store_other Four old new addr value at = stored_other (bytes_4 value) old new addr at (omega arith)

pub stored_but : (width : Width) (old new : PageMap) (addr value : ℕ) → store_as width old addr value ≡ Ok new → addr < 2 ^ 32 → SameBut addr 0 (2 ^ 32) old new
stored_but width old new addr value e lt = record { each = λ at al low high first last. store_other width old new addr value at e lt al high first last }

pub within_but : (width : Width) (old new : PageMap) (addr value low end : ℕ) → store_as width old addr value ≡ Ok new → addr < 2 ^ 32 → end ≤ 2 ^ 32 → SameBut addr low end old new
within_but width old new addr value low end e lt most = record { each = λ at al above below first last. store_other width old new addr value at e lt al (omega arith) first last }

pub clear_same : (width : Width) (old new : PageMap) (addr value low end : ℕ) → store_as width old addr value ≡ Ok new → IsClear addr low end → end ≤ 2 ^ 32 → SameWords low end old new
clear_same width old new addr value low end e c most = record {
  each = λ at al above below.
      let apart = c.each at above below al in
      store_other width old new addr value at e c.range al (omega arith) apart.0 apart.1;
}

pub same_words : (low end : ℕ) (old new : PageMap) → new ≡ old → SameWords low end old new
same_words low end old new e = record { each = λ at al above below. ap (λ m. loaded m at 4 1) e }

pub same_on : (low end : ℕ) (a b c : PageMap) → SameWords low end a b → SameWords low end b c → SameWords low end a c
same_on low end a b c h k = record { each = λ at al above below. k.each at al above below ∙ h.each at al above below }

pub but_on : (addr low end : ℕ) (a b c : PageMap) → SameWords low end a b → SameBut addr low end b c → SameBut addr low end a c
but_on addr low end a b c h k = record { each = λ at al above below first last. k.each at al above below first last ∙ h.each at al above below }
