-- Pages mapped, unmapped and given rights.
use Rattle.std.proofs.Common.{List, length, ◌+◌, arith, ◌≡◌, ℕ, ◌/◌, ◌%◌, ◌^◌, ◌<◌, ◌≤◌, refl, ap, ◌∙◌, sym, true, false, Option, Some, None, is_some, IsSome}
use Rattle.std.specs.Option.{option_map}
use Rattle.std.specs.FinMap as map
use Rattle.page_set.specs.Pages.{WellFormed, page_with_part, Page, PageMap, put_page, changed_page, page_with_rights}
use Rattle.page_set.specs.declared.frame.Frame.{Frame}
use Rattle.page_set.specs.Tree.{edited, written, Tree, frame_at, frame_in, leaf_at, page_at, page_of, pages_of, with_rights, IsEdited}
use Rattle.page_set.proofs.Maps.{get_pages_of, get_above, pages_edited, same_pages}
use Rattle.page_set.proofs.Writes.{removed_none, edited_granted}
use Rattle.page_set.proofs.Accesses.{grants_0}
use Rattle.page_set.proofs.Parts.{set_part_is}

pub mapped : (old mid new : Tree) (page : ℕ) (f : Frame) (p : Page) → page < 2 ^ 20 → ((q : ℕ) → frame_at mid q ≡ frame_at old q) → IsEdited mid new page (Some f) → page_of f ≡ p → pages_of new ≡ map.insert (pages_of old) page p
mapped old mid new page f p lt same e is = pages_edited mid new page (Some f) lt e ∙ ap (λ m. map.insert m page (page_of f)) (same_pages old mid same) ∙ ap (map.insert (pages_of old) page) is

pub unmapped : (old new : Tree) (page : ℕ) → page < 2 ^ 20 → IsEdited old new page None → pages_of new ≡ map.remove (pages_of old) page
unmapped old new page lt e = pages_edited old new page None lt e

pub not_mapped : (tree : Tree) (page : ℕ) → page < 2 ^ 20 → frame_at tree page ≡ None → pages_of tree ≡ map.remove (pages_of tree) page
not_mapped tree page lt e = sym (removed_none (pages_of tree) page (get_pages_of tree page lt ∙ ap (option_map page_of) e))

pub not_mapped_above : (tree : Tree) (page : ℕ) → 2 ^ 20 ≤ page → pages_of tree ≡ map.remove (pages_of tree) page
not_mapped_above tree page le = sym (removed_none (pages_of tree) page (get_above (page_at tree) (2 ^ 20) page le))

pub is_mapped_above : (tree : Tree) (page : ℕ) → 2 ^ 20 ≤ page → is_some (map.get (pages_of tree) page) ≡ false
is_mapped_above tree page le = ap is_some (get_above (page_at tree) (2 ^ 20) page le)

pub absent_above : (tree : Tree) (page : ℕ) → 2 ^ 20 ≤ page → map.get (pages_of tree) page ≡ None
absent_above tree page le = get_above (page_at tree) (2 ^ 20) page le

is_some_map : (o : Option Frame) → is_some (option_map page_of o) ≡ is_some o
is_some_map None = refl
is_some_map (Some f) = refl

pub is_mapped_page : (tree : Tree) (page : ℕ) → page < 2 ^ 20 → is_some (map.get (pages_of tree) page) ≡ is_some (frame_at tree page)
is_mapped_page tree page lt = ap is_some (get_pages_of tree page lt) ∙ is_some_map (frame_at tree page)

false_true : false ≡ true → ⊥
false_true e = cc

leaf_some : (o : Option _) (j : ℕ) → is_some (frame_in o j) ≡ true → IsSome o
leaf_some None j h = absurd (false_true h)
leaf_some (Some l) j h = refl

pub leaf_there : (tree : Tree) (page : ℕ) → is_some (frame_at tree page) ≡ true → IsSome (leaf_at tree (page / 1024))
leaf_there tree page h = leaf_some (leaf_at tree (page / 1024)) (page % 1024) h

rights_of : (m : PageMap) (page rights : ℕ) (o : Option Frame) → map.get m page ≡ option_map page_of o → put_page m page (option_map page_of (option_map (with_rights rights) o)) ≡ changed_page m page (page_with_rights rights) (option_map page_of o)
rights_of m page rights None h = removed_none m page h
rights_of m page rights (Some f) h = refl

pub more_rights : (old new : Tree) (page rights : ℕ) → page < 2 ^ 20 → IsEdited old new page (option_map (with_rights rights) (frame_at old page)) → pages_of new ≡ changed_page (pages_of old) page (page_with_rights rights) (map.get (pages_of old) page)
more_rights old new page rights lt e =
    pages_edited old new page (option_map (with_rights rights) (frame_at old page)) lt e
    ∙ rights_of (pages_of old) page rights (frame_at old page) (get_pages_of old page lt)
    ∙ ap (changed_page (pages_of old) page (page_with_rights rights)) (sym (get_pages_of old page lt))

-- ---- bytes put into a page

filled_at : (old new : Tree) (page at : ℕ) (bs : List ℕ) (o : Option Frame) → frame_at old page ≡ o → page < 2 ^ 20 → WellFormed (pages_of old) → at + length bs ≤ 4096 → IsEdited old new page (edited 0 (written at bs) o) → pages_of new ≡ changed_page (pages_of old) page (page_with_part at bs) (option_map page_of o)
filled_at old new page at bs None is lt well h e =
    pages_edited old new page None lt e ∙ removed_none (pages_of old) page (get_pages_of old page lt ∙ ap (option_map page_of) is)
filled_at old new page at bs (Some f) is lt well h e =
    let there : map.get (pages_of old) page ≡ Some (page_of f) = get_pages_of old page lt ∙ ap (option_map page_of) is in
    let long : length f.bytes ≡ 4096 = (well.each page (page_of f) there).size in
    let done : IsEdited old new page (Some (written at bs f)) = record { here = e.here ∙ edited_granted 0 (written at bs) f (grants_0 f); others = e.others } in
    pages_edited old new page (Some (written at bs f)) lt done
    ∙ ap (λ bytes. map.insert (pages_of old) page (record { bytes = bytes; rights = f.rights })) (sym (set_part_is bs f.bytes at (omega (arith, long))))

pub filled : (old new : Tree) (page at : ℕ) (bs : List ℕ) → page < 2 ^ 20 → WellFormed (pages_of old) → at + length bs ≤ 4096 → IsEdited old new page (edited 0 (written at bs) (frame_at old page)) → pages_of new ≡ changed_page (pages_of old) page (page_with_part at bs) (map.get (pages_of old) page)
filled old new page at bs lt well h e =
    filled_at old new page at bs (frame_at old page) refl lt well h e ∙ ap (changed_page (pages_of old) page (page_with_part at bs)) (sym (get_pages_of old page lt))
