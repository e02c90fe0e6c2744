-- Writes leave each page its rights, and as many pages.
use Rattle.std.proofs.Common.{◌≡◌, ◌≢◌, ◌⊎◌, inl, inr, ℕ, zero, suc, ◌+◌, ◌/◌, ◌%◌, ◌^◌, List, [], ◌∷◌, refl, ap, ◌∙◌, sym, Bool, cond, true, false, Option, Some, None, Result, Ok, Err, ◌==◌, ◌&&◌, is_some, bit_and, slice_index, slice_set}
use Rattle.std.specs.Prelude.{is_ok}
use Rattle.std.specs.Option.{option_map}
use Rattle.std.specs.Ordering.{nat_cmp}
use Rattle.std.specs.Cmp.{nat_cmp_total}
use Rattle.std.specs.FinMap as map
use Rattle.std.proofs.lemmas.Bool.Decides.{eqb_tells}
use Rattle.page_set.specs.Pages.{Page, PageMap, byte_of, byte_at, with_front, flat_at, page_with_byte, changed_page, with_byte, with_bytes, bytes_4}
use Rattle.page_set.proofs.Maps.{get_inserted, get_inserted_other}
use Rattle.user_spec.specs.Words.{sum_of}
use Rattle.user_spec.specs.Request.{has_frame_room, frame_at, with_words}

abbrev pub rights : PageMap → ℕ → Option ℕ
rights m q = option_map (λ (p : Page). p.rights) (map.get m q)

abbrev Keeps : PageMap → PageMap → Type 0
Keeps old new = (q : ℕ) → rights new q ≡ rights old q

abbrev rights_of : Option Page → Option ℕ
rights_of o = option_map (λ (p : Page). p.rights) o

changed_at : (m : PageMap) (n q offset b : ℕ) (o : Option Page) → map.get m n ≡ o → rights (changed_page m n (page_with_byte offset b) o) q ≡ rights m q
changed_at m n q offset b None e = refl
changed_at m n q offset b (Some p) e =
    elim (eqb_tells q n) as (λ _. rights (map.insert m n (page_with_byte offset b p)) q ≡ rights m q) [
      | inl h ↦ ap (rights (map.insert m n (page_with_byte offset b p))) h.1 ∙ ap rights_of (get_inserted m n (page_with_byte offset b p)) ∙ sym (ap (rights m) h.1 ∙ ap rights_of e)
      | inr h ↦ ap rights_of (get_inserted_other m n q (page_with_byte offset b p) h.1)
    ]

keeps_byte : (m : PageMap) (addr b : ℕ) → Keeps m (with_byte m addr b)
keeps_byte m addr b q = changed_at m (addr / 4096) q (addr % 4096) b (map.get m (addr / 4096)) refl

keeps_bytes : (m : PageMap) (addr : ℕ) (bs : List ℕ) → Keeps m (with_bytes m addr bs)
keeps_bytes m addr [] q = refl
keeps_bytes m addr (b ∷ bs) q = keeps_bytes (with_byte m addr b) ((addr + 1) % 2 ^ 32) bs q ∙ keeps_byte m addr b q

-- ---- whether a range has a right

abbrev granted : ℕ → Option ℕ → Bool
granted right None = false
granted right (Some rights) = bit_and rights right == right

test_some : (b : Bool) (x : ℕ) → is_some (cond b (Some x) None) ≡ b
test_some true x = refl
test_some false x = refl

some_byte : (right offset : ℕ) (o : Option Page) → is_some (byte_of right offset o) ≡ granted right (rights_of o)
some_byte right offset None = refl
some_byte right offset (Some p) = test_some (bit_and p.rights right == right) (slice_index p.bytes offset)

front_ok : (o : Option ℕ) (addr : ℕ) (rest : Result (List ℕ) ℕ) → is_ok (with_front o addr rest) ≡ (is_some o && is_ok rest)
front_ok None addr rest = refl
front_ok (Some b) addr (Ok bytes) = refl
front_ok (Some b) addr (Err first) = refl

byte_granted : (m : PageMap) (right addr : ℕ) → is_some (byte_at m right addr) ≡ granted right (rights m (addr / 4096))
byte_granted m right addr = some_byte right (addr % 4096) (map.get m (addr / 4096))

same_ok : (old new : PageMap) → Keeps old new → (right addr n : ℕ) → is_ok (flat_at new right addr n) ≡ is_ok (flat_at old right addr n)
same_ok old new k right addr zero = refl
same_ok old new k right addr (suc n) =
    front_ok (byte_at new right addr) addr (flat_at new right (addr + 1) n)
    ∙ ap (λ b. b && is_ok (flat_at new right (addr + 1) n)) (byte_granted new right addr ∙ ap (granted right) (k (addr / 4096)) ∙ sym (byte_granted old right addr))
    ∙ ap (λ b. is_some (byte_at old right addr) && b) (same_ok old new k right (addr + 1) n)
    ∙ sym (front_ok (byte_at old right addr) addr (flat_at old right (addr + 1) n))

pub same_room : (m : PageMap) (addr : ℕ) (bs : List ℕ) (sp : ℕ) → has_frame_room (with_bytes m addr bs) sp ≡ has_frame_room m sp
unfolding has_frame_room
same_room m addr bs sp = same_ok m (with_bytes m addr bs) (keeps_bytes m addr bs) 2 (frame_at sp) 132

-- ---- how many pages

len_changed : (m : PageMap) (n offset b : ℕ) (o : Option Page) → map.get m n ≡ o → map.len (changed_page m n (page_with_byte offset b) o) ≡ map.len m
len_changed m n offset b None e = refl
len_changed m n offset b (Some p) e = map.len-insert nat_cmp_total m n (page_with_byte offset b p) ∙ ap (λ o. cond (is_some o) (map.len m) (map.len m + 1)) e

pub len_bytes : (m : PageMap) (addr : ℕ) (bs : List ℕ) → map.len (with_bytes m addr bs) ≡ map.len m
len_bytes m addr [] = refl
len_bytes m addr (b ∷ bs) = len_bytes (with_byte m addr b) ((addr + 1) % 2 ^ 32) bs ∙ len_changed m (addr / 4096) (addr % 4096) b (map.get m (addr / 4096)) refl

pub len_words : (m : PageMap) (addr : ℕ) (ws : List ℕ) → map.len (with_words m addr ws) ≡ map.len m
unfolding with_words
len_words m addr [] = refl
len_words m addr (w ∷ ws) = len_words (with_bytes m addr (bytes_4 w)) (sum_of addr 4) ws ∙ len_bytes m addr (bytes_4 w)
