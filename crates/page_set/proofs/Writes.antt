-- Bytes written to one page, and to one after another.
use Rattle.std.proofs.Common.{◌≡◌, ◌≢◌, inl, inr, ℕ, suc, ◌+◌, ◌/◌, ◌%◌, ◌^◌, ◌<◌, ◌≤◌, List, [], ◌∷◌, ◌++◌, refl, ap, ◌∙◌, sym, arith, true, false, Option, Some, None, Ok, Err, length, take, drop}
use Rattle.std.proofs.lemmas.List.{take-append-drop, length-take-le, length-drop, drop-drop}
use Rattle.std.specs.Option.{option_map}
use Rattle.std.specs.Cmp.{nat_cmp_total}
use Rattle.std.specs.FinMap as map
use Rattle.std.proofs.lemmas.Bool.Decides.{eqb_tells}
use Rattle.page_set.specs.Pages.{Page, PageMap, changed_page, page_with_byte, with_byte, with_bytes, where_granted, stored}
use Rattle.page_set.specs.declared.frame.Frame.{Frame}
use Rattle.page_set.specs.Tree.{Tree, frame_at, page_of, pages_of, pages_by, grants, has_right, edited, set_part, written, IsEdited}
use Rattle.page_set.proofs.Maps.{get_pages_of, get_pages_by, below_put, pages_edited, get_inserted, get_inserted_other, get_removed, get_removed_other, same_pages}
use Rattle.page_set.proofs.Accesses.{grants_0, reads, reads_by, reads_none, next_page, next_at, next_addr}

false_true : false ≡ true → ⊥
false_true e = cc

pub edited_granted : (right : ℕ) (edit : Frame → Frame) (f : Frame) → grants right f ≡ true → edited right edit (Some f) ≡ Some (edit f)
edited_granted right edit f g = rw g refl

pub edited_refused : (right : ℕ) (edit : Frame → Frame) (o : Option Frame) → has_right right o ≡ false → edited right edit o ≡ o
edited_refused right edit None g = refl
edited_refused right edit (Some f) g = rw g refl

pub removed_none : (m : PageMap) (k : ℕ) → map.get m k ≡ None → map.remove m k ≡ m
removed_none m k none = map.same_map nat_cmp_total map.nat_cmp-IsAntisymmetric _ _ (λ q.
    elim (eqb_tells q k) as (λ _. map.get (map.remove m k) q ≡ map.get m q) [
      | inl e ↦ ap (map.get (map.remove m k)) e.1 ∙ get_removed m k ∙ sym (ap (map.get m) e.1 ∙ none)
      | inr e ↦ get_removed_other m k q e.1
    ])

inserted_twice : (m : PageMap) (k : ℕ) (a b : Page) → map.insert (map.insert m k a) k b ≡ map.insert m k b
inserted_twice m k a b = map.same_map nat_cmp_total map.nat_cmp-IsAntisymmetric _ _ (λ q.
    elim (eqb_tells q k) as (λ _. map.get (map.insert (map.insert m k a) k b) q ≡ map.get (map.insert m k b) q) [
      | inl e ↦ ap (map.get (map.insert (map.insert m k a) k b)) e.1 ∙ get_inserted (map.insert m k a) k b ∙ sym (ap (map.get (map.insert m k b)) e.1 ∙ get_inserted m k b)
      | inr e ↦ get_inserted_other (map.insert m k a) k q b e.1 ∙ get_inserted_other m k q a e.1 ∙ sym (get_inserted_other m k q b e.1)
    ])

with_byte_is : (m : PageMap) (addr b : ℕ) (page : Page) → map.get m (addr / 4096) ≡ Some page → with_byte m addr b ≡ map.insert m (addr / 4096) (page_with_byte (addr % 4096) b page)
with_byte_is m addr b page is = ap (changed_page m (addr / 4096) (page_with_byte (addr % 4096) b)) is

with_byte_none : (m : PageMap) (addr b : ℕ) → map.get m (addr / 4096) ≡ None → with_byte m addr b ≡ m
with_byte_none m addr b is = ap (changed_page m (addr / 4096) (page_with_byte (addr % 4096) b)) is

abbrev page_with_set : ℕ → List ℕ → Page → Page
page_with_set at bs page = record page { bytes = set_part page.bytes at bs }

-- bytes written to one page
writes : (b : ℕ) (bs : List ℕ) (m : PageMap) (addr : ℕ) (page : Page) → map.get m (addr / 4096) ≡ Some page → addr < 2 ^ 32 → addr % 4096 + suc (length bs) ≤ 4096 → with_bytes m addr (b ∷ bs) ≡ map.insert m (addr / 4096) (page_with_set (addr % 4096) (b ∷ bs) page)
writes b [] m addr page is lt h = with_byte_is m addr b page is
writes b (c ∷ bs) m addr page is lt h =
    let once = page_with_byte (addr % 4096) b page in
    ap (λ a. with_bytes (with_byte m addr b) a (c ∷ bs)) (next_addr addr (length bs) lt h)
    ∙ ap (λ m. with_bytes m (addr + 1) (c ∷ bs)) (with_byte_is m addr b page is)
    ∙ writes c bs (map.insert m (addr / 4096) once) (addr + 1) once (ap (map.get (map.insert m (addr / 4096) once)) (next_page addr (length bs) h) ∙ get_inserted m (addr / 4096) once) (omega arith) (omega arith)
    ∙ ap (λ k. map.insert (map.insert m (addr / 4096) once) k (page_with_set ((addr + 1) % 4096) (c ∷ bs) once)) (next_page addr (length bs) h)
    ∙ inserted_twice m (addr / 4096) once _
    ∙ ap (λ at. map.insert m (addr / 4096) (page_with_set at (c ∷ bs) once)) (next_at addr (length bs) h)

-- and to one that is not mapped
writes_none : (b : ℕ) (bs : List ℕ) (m : PageMap) (addr : ℕ) → map.get m (addr / 4096) ≡ None → addr < 2 ^ 32 → addr % 4096 + suc (length bs) ≤ 4096 → with_bytes m addr (b ∷ bs) ≡ m
writes_none b [] m addr is lt h = with_byte_none m addr b is
writes_none b (c ∷ bs) m addr is lt h =
    ap (λ a. with_bytes (with_byte m addr b) a (c ∷ bs)) (next_addr addr (length bs) lt h)
    ∙ ap (λ m. with_bytes m (addr + 1) (c ∷ bs)) (with_byte_none m addr b is)
    ∙ writes_none c bs m (addr + 1) (ap (map.get m) (next_page addr (length bs) h) ∙ is) (omega arith) (omega arith)

edited_by : (old new : ℕ → Option Frame) (addr b : ℕ) (bs : List ℕ) (f : Frame) → old (addr / 4096) ≡ Some f → addr < 2 ^ 32 → addr % 4096 + suc (length bs) ≤ 4096 → new (addr / 4096) ≡ Some (written (addr % 4096) (b ∷ bs) f) → ((q : ℕ) → q ≢ addr / 4096 → new q ≡ old q) → pages_by new ≡ with_bytes (pages_by old) addr (b ∷ bs)
edited_by old new addr b bs f is lt h here others =
    below_put (λ n. option_map page_of (old n)) (λ n. option_map page_of (new n)) (2 ^ 20) (addr / 4096) (option_map page_of (Some (written (addr % 4096) (b ∷ bs) f))) (omega arith) (ap (option_map page_of) here) (λ q ne. ap (option_map page_of) (others q ne))
    ∙ sym (writes b bs (pages_by old) addr (page_of f) (get_pages_by old (addr / 4096) (omega arith) ∙ ap (option_map page_of) is) lt h)

edited_some : (old new : Tree) (addr right b : ℕ) (bs : List ℕ) (f : Frame) → frame_at old (addr / 4096) ≡ Some f → grants right f ≡ true → addr < 2 ^ 32 → addr % 4096 + suc (length bs) ≤ 4096 → IsEdited old new (addr / 4096) (edited right (written (addr % 4096) (b ∷ bs)) (Some f)) → pages_of new ≡ with_bytes (pages_of old) addr (b ∷ bs)
edited_some old new addr right b bs f is g lt h e = edited_by (frame_at old) (frame_at new) addr b bs f is lt h (e.here ∙ edited_granted right (written (addr % 4096) (b ∷ bs)) f g) e.others

edited_none : (old new : Tree) (addr b : ℕ) (bs : List ℕ) → frame_at old (addr / 4096) ≡ None → addr < 2 ^ 32 → addr % 4096 + suc (length bs) ≤ 4096 → IsEdited old new (addr / 4096) None → pages_of new ≡ with_bytes (pages_of old) addr (b ∷ bs)
edited_none old new addr b bs is lt h e =
    let absent : map.get (pages_of old) (addr / 4096) ≡ None = get_pages_of old (addr / 4096) (omega arith) ∙ ap (option_map page_of) is in
    pages_edited old new (addr / 4096) None (omega arith) e
    ∙ removed_none (pages_of old) (addr / 4096) absent
    ∙ sym (writes_none b bs (pages_of old) addr absent lt h)

-- ---- stores

stores_at : (old new : Tree) (addr b : ℕ) (bs : List ℕ) (o : Option Frame) → frame_at old (addr / 4096) ≡ o → has_right 2 o ≡ true → addr < 2 ^ 32 → addr % 4096 + suc (length bs) ≤ 4096 → IsEdited old new (addr / 4096) (edited 2 (written (addr % 4096) (b ∷ bs)) o) → stored (pages_of old) addr (b ∷ bs) ≡ Ok (pages_of new)
stores_at old new addr b bs None is g lt h e = absurd (false_true g)
stores_at old new addr b bs (Some f) is g lt h e =
    ap (λ r. where_granted r (with_bytes (pages_of old) addr (b ∷ bs))) (reads (suc (length bs)) old 2 addr f is g lt h)
    ∙ ap (λ (m : PageMap). Ok m) (sym (edited_some old new addr 2 b bs f is g lt h e))

pub stores_by : (old new : ℕ → Option Frame) (addr : ℕ) (bs : List ℕ) (f : Frame) → old (addr / 4096) ≡ Some f → grants 2 f ≡ true → addr < 2 ^ 32 → 0 < length bs → addr % 4096 + length bs ≤ 4096 → new (addr / 4096) ≡ Some (written (addr % 4096) bs f) → ((q : ℕ) → q ≢ addr / 4096 → new q ≡ old q) → stored (pages_by old) addr bs ≡ Ok (pages_by new)
stores_by old new addr [] f is g lt some h here others = absurd (omega arith)
stores_by old new addr (b ∷ bs) f is g lt some h here others =
    ap (λ r. where_granted r (with_bytes (pages_by old) addr (b ∷ bs))) (reads_by (suc (length bs)) old 2 addr f is g lt h)
    ∙ ap (λ (m : PageMap). Ok m) (sym (edited_by old new addr b bs f is lt h here others))

-- bytes stored to one page that can be written
pub stores : (old new : Tree) (addr at : ℕ) (bs : List ℕ) → at ≡ addr % 4096 → addr < 2 ^ 32 → 0 < length bs → at + length bs ≤ 4096 → has_right 2 (frame_at old (addr / 4096)) ≡ true → IsEdited old new (addr / 4096) (edited 2 (written at bs) (frame_at old (addr / 4096))) → stored (pages_of old) addr bs ≡ Ok (pages_of new)
stores old new addr at [] a lt some h g e = absurd (omega arith)
stores old new addr at (b ∷ bs) a lt some h g e = stores_at old new addr b bs (frame_at old (addr / 4096)) refl g lt (omega arith) (record { here = e.here ∙ ap (λ x. edited 2 (written x (b ∷ bs)) (frame_at old (addr / 4096))) a; others = e.others })

-- and to one that cannot
pub stores_none : (old : Tree) (addr : ℕ) (bs : List ℕ) → addr < 2 ^ 32 → 0 < length bs → has_right 2 (frame_at old (addr / 4096)) ≡ false → stored (pages_of old) addr bs ≡ Err addr
stores_none old addr [] lt some g = absurd (omega arith)
stores_none old addr (b ∷ bs) lt some g = ap (λ r. where_granted r (with_bytes (pages_of old) addr (b ∷ bs))) (reads_none old 2 addr (length bs) lt g)

-- nothing was written
pub keeps : (old new : Tree) (page : ℕ) (edit : Frame → Frame) (right : ℕ) → has_right right (frame_at old page) ≡ false → IsEdited old new page (edited right edit (frame_at old page)) → pages_of new ≡ pages_of old
keeps old new page edit right g e = same_pages old new (λ q. elim (eqb_tells q page) as (λ _. frame_at new q ≡ frame_at old q) [
  | inl s ↦ ap (frame_at new) s.1 ∙ e.here ∙ edited_refused right edit (frame_at old page) g ∙ ap (frame_at old) (sym s.1)
  | inr s ↦ e.others q s.1
])

-- ---- writes, whatever the rights

wrote_at : (old new : Tree) (addr b : ℕ) (bs : List ℕ) (o : Option Frame) → frame_at old (addr / 4096) ≡ o → addr < 2 ^ 32 → addr % 4096 + suc (length bs) ≤ 4096 → IsEdited old new (addr / 4096) (edited 0 (written (addr % 4096) (b ∷ bs)) o) → pages_of new ≡ with_bytes (pages_of old) addr (b ∷ bs)
wrote_at old new addr b bs None is lt h e = edited_none old new addr b bs is lt h e
wrote_at old new addr b bs (Some f) is lt h e = edited_some old new addr 0 b bs f is (grants_0 f) lt h e

pub wrote : (old new : Tree) (addr at : ℕ) (bs : List ℕ) → at ≡ addr % 4096 → addr < 2 ^ 32 → 0 < length bs → at + length bs ≤ 4096 → IsEdited old new (addr / 4096) (edited 0 (written at bs) (frame_at old (addr / 4096))) → pages_of new ≡ with_bytes (pages_of old) addr bs
wrote old new addr at [] a lt some h e = absurd (omega arith)
wrote old new addr at (b ∷ bs) a lt some h e = wrote_at old new addr b bs (frame_at old (addr / 4096)) refl lt (omega arith) (record { here = e.here ∙ ap (λ x. edited 0 (written x (b ∷ bs)) (frame_at old (addr / 4096))) a; others = e.others })

pub wrote_byte : (old new : Tree) (addr b : ℕ) → addr < 2 ^ 32 → IsEdited old new (addr / 4096) (edited 0 (written (addr % 4096) (b ∷ [])) (frame_at old (addr / 4096))) → pages_of new ≡ with_byte (pages_of old) addr b
wrote_byte old new addr b lt e = wrote_at old new addr b [] (frame_at old (addr / 4096)) refl lt (omega arith) e

with_bytes_append : (xs ys : List ℕ) (m : PageMap) (addr : ℕ) → addr < 2 ^ 32 → with_bytes m addr (xs ++ ys) ≡ with_bytes (with_bytes m addr xs) ((addr + length xs) % 2 ^ 32) ys
with_bytes_append [] ys m addr lt = let here : addr ≡ (addr + length {A = ℕ} []) % 2 ^ 32 = omega arith in ap (λ a. with_bytes m a ys) here
with_bytes_append (x ∷ xs) ys m addr lt =
    let there : ((addr + 1) % 2 ^ 32 + length xs) % 2 ^ 32 ≡ (addr + length (x ∷ xs)) % 2 ^ 32 = omega arith in
    with_bytes_append xs ys (with_byte m addr x) ((addr + 1) % 2 ^ 32) (omega arith)
    ∙ ap (λ a. with_bytes (with_bytes (with_byte m addr x) ((addr + 1) % 2 ^ 32) xs) a ys) there

-- one piece more of bytes that are written page by page
pub piece_more : (m : PageMap) (at i count : ℕ) (bytes : List ℕ) → at < 2 ^ 32 → i + count ≤ length bytes → with_bytes m at (drop i bytes) ≡ with_bytes (with_bytes m at (take count (drop i bytes))) ((at + count) % 2 ^ 32) (drop (i + count) bytes)
piece_more m at i count bytes lt h =
    let long : length (take count (drop i bytes)) ≡ count = length-take-le count (drop i bytes) (omega (arith, length-drop i bytes)) in
    ap (with_bytes m at) (sym (take-append-drop count (drop i bytes)))
    ∙ with_bytes_append (take count (drop i bytes)) (drop count (drop i bytes)) m at lt
    ∙ ap (λ k. with_bytes (with_bytes m at (take count (drop i bytes))) ((at + k) % 2 ^ 32) (drop count (drop i bytes))) long
    ∙ ap (with_bytes (with_bytes m at (take count (drop i bytes))) ((at + count) % 2 ^ 32)) (drop-drop count i bytes)

pub write_more : (old new : Tree) (at done count : ℕ) (bytes piece : List ℕ) → at < 2 ^ 32 → done + count ≤ length bytes → 0 < count → at % 4096 + count ≤ 4096 → piece ≡ take count (drop done bytes) → IsEdited old new (at / 4096) (edited 0 (written (at % 4096) piece) (frame_at old (at / 4096))) → with_bytes (pages_of new) ((at + count) % 2 ^ 32) (drop (done + count) bytes) ≡ with_bytes (pages_of old) at (drop done bytes)
write_more old new at done count bytes piece lt within some h is e =
    let long : length piece ≡ count = ap length is ∙ length-take-le count (drop done bytes) (omega (arith, length-drop done bytes)) in
    let after = λ (m : PageMap). with_bytes m ((at + count) % 2 ^ 32) (drop (done + count) bytes) in
    ap after (wrote old new at (at % 4096) piece refl lt (omega (arith, long)) (omega (arith, long)) e ∙ ap (with_bytes (pages_of old) at) is)
    ∙ sym (piece_more (pages_of old) at done count bytes lt within)
