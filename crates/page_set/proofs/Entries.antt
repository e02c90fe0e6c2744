-- Cached frames, in front of the tree.
use Rattle.std.proofs.Common.{◌≡◌, ◌≢◌, inl, inr, ℕ, zero, suc, ◌+◌, ◌-◌, ◌/◌, ◌%◌, ◌^◌, ◌<◌, ◌≤◌, List, [], ◌∷◌, refl, ap, ◌∙◌, sym, subst, arith, Bool, true, false, Option, Some, None, Ok, IsSome, is_some, length, set, replicate, slice_index_or}
use Rattle.std.specs.Prelude.{◌==◌, not}
use Rattle.std.specs.List.{slice_get}
use Rattle.std.specs.Option.{option_map}
use Rattle.std.proofs.lemmas.Bool.Decides.{nat_tests, eqb_tells}
use Rattle.std.proofs.lemmas.List.{length-set, length-replicate}
use Rattle.std.proofs.lemmas.Option.{none-some, same_Some}
use Rattle.page_set.specs.Pages.{PageMap, loaded, stored, little}
use Rattle.page_set.specs.declared.frame.Frame.{Frame}
use Rattle.page_set.specs.declared.entry.Entry.{Entry}
use Rattle.page_set.specs.Tree.{Tree, frame_at, leaf_at, pages_of, part, grants, has_right, edited, written, IsCounted, IsEdited, LeavesStay}
use Rattle.page_set.specs.Entries.{frame_of_entry, frame_or, cached_frame, cached_pages, IsBare, IsHeld, HoldsAs, Holds, AreCached, IsFound, Wrote, IsWritten, IsUncached, IsPutBack, ArePutBack, AreMoved, IsTaken}
use Rattle.page_set.proofs.Maps.{alike_pages}
use Rattle.page_set.proofs.Trees.{slice_get_set, slice_get_set_other}
use Rattle.page_set.proofs.Accesses.{loads_by, loads_alike}
use Rattle.page_set.proofs.Writes.{stores_by, edited_granted, edited_refused}
use Rattle.page_set.proofs.Edits.{leaf_there}
use Rattle.page_set.proofs.Kept.{same_kept, stored_kept}

-- ---- lists

got : {A : Type 0} (xs : List A) (i : ℕ) (d : A) → i < length xs → slice_get xs i ≡ Some (slice_index_or xs i d)
got [] i d h = absurd (omega arith)
got (x ∷ xs) zero d h = refl
got (x ∷ xs) (suc i) d h = got xs i d (omega arith)

got_replicated : {A : Type 0} (n i : ℕ) (x y : A) → slice_get (replicate n x) i ≡ Some y → y ≡ x
got_replicated zero i x y h = absurd (none-some y h)
got_replicated (suc n) zero x y h = sym (same_Some x y h)
got_replicated (suc n) (suc i) x y h = got_replicated n i x y h

-- ---- one entry

is_same : (a b : ℕ) → a ≡ b → (a == b) ≡ true
is_same a b h = grind (arith, nat_tests)

is_other : (a b : ℕ) → a ≢ b → (a == b) ≡ false
is_other a b h = grind (arith, nat_tests)

frame_here : (entry : Entry) (page : ℕ) (o : Option Frame) → entry.readable ≡ page → frame_or (Some entry) page o ≡ frame_of_entry entry
frame_here entry page o h = rw (is_same entry.readable page h) refl

frame_there : (entry : Entry) (page : ℕ) (o : Option Frame) → entry.readable ≢ page → frame_or (Some entry) page o ≡ o
frame_there entry page o h = rw (is_other entry.readable page h) refl

frame_bare : (entry : Entry) (page : ℕ) (o : Option Frame) → page < 2 ^ 20 → 2 ^ 20 ≤ entry.readable → frame_or (Some entry) page o ≡ o
frame_bare entry page o lt le = frame_there entry page o (λ e. absurd (omega (arith, e, lt, le)))

held : (tree : Tree) (place : ℕ) (entry : Entry) (f : Frame) → frame_of_entry entry ≡ Some f → Holds tree place entry → IsHeld tree place entry.readable entry.writable f
held tree place entry f is h = subst (HoldsAs tree place entry.readable entry.writable) is h

bare : (tree : Tree) (place : ℕ) (entry : Entry) → frame_of_entry entry ≡ None → Holds tree place entry → IsBare entry.readable entry.writable
bare tree place entry is h = subst (HoldsAs tree place entry.readable entry.writable) is h

holds_stay : (old new : Tree) (place r w : ℕ) (o : Option Frame) → LeavesStay old new → HoldsAs old place r w o → HoldsAs new place r w o
holds_stay old new place r w None stay h = h
holds_stay old new place r w (Some f) stay h = record { number = h.number; ending = h.ending; leaf = stay.each (r / 1024) h.leaf; read = h.read; write = h.write }

holds_written : (tree : Tree) (place r w at : ℕ) (bs : List ℕ) (o : Option Frame) → HoldsAs tree place r w o → HoldsAs tree place r w (option_map (written at bs) o)
holds_written tree place r w at bs None h = h
holds_written tree place r w at bs (Some f) h = record { number = h.number; ending = h.ending; leaf = h.leaf; read = h.read; write = h.write }

holds_same : (tree : Tree) (place r w r2 w2 : ℕ) (o o2 : Option Frame) → r2 ≡ r → w2 ≡ w → o2 ≡ o → HoldsAs tree place r w o → HoldsAs tree place r2 w2 o2
holds_same tree place r w r2 w2 o o2 er ew eo h =
    subst (HoldsAs tree place r2 w2) (sym eo) (subst (λ x. HoldsAs tree place r2 x o) (sym ew) (subst (λ x. HoldsAs tree place x w o) (sym er) h))

-- ---- the entries

there : (entries : List Entry) (tree : Tree) (page : ℕ) (entry : Entry) → AreCached entries tree → entry ≡ slice_index_or entries (page % 16) entry → slice_get entries (page % 16) ≡ Some entry
there entries tree page entry cached is = got entries (page % 16) entry (omega (arith, cached.long)) ∙ ap Some (sym is)

cached_stay : (entries : List Entry) (old new : Tree) → AreCached entries old → LeavesStay old new → AreCached entries new
cached_stay entries old new cached stay = record { long = cached.long; each = λ i entry is. holds_stay old new i entry.readable entry.writable (frame_of_entry entry) stay (cached.each i entry is) }

cached_set : (old new : List Entry) (tree : Tree) (place : ℕ) (entry : Entry) → place < 16 → AreCached old tree → Holds tree place entry → new ≡ set old place entry → AreCached new tree
cached_set old new tree place entry lt cached h e = record {
  long = ap length e ∙ length-set old place entry ∙ cached.long;
  each = λ i other is. elim (eqb_tells i place) as (λ _. Holds tree i other) [
    | inl s ↦
        let same : entry ≡ other = same_Some entry other (sym (slice_get_set old place entry (omega (arith, cached.long))) ∙ ap (λ xs. slice_get xs place) (sym e) ∙ ap (slice_get new) (sym s.1) ∙ is) in
        subst (Holds tree i) same (subst (λ k. Holds tree k entry) (sym s.1) h)
    | inr s ↦ cached.each i other (sym (slice_get_set_other old place i entry s.1) ∙ ap (λ xs. slice_get xs i) (sym e) ∙ is)
  ];
}

frame_set : (old new : List Entry) (tree : Tree) (page place : ℕ) (entry : Entry) → place < length old → page % 16 ≡ place → new ≡ set old place entry → cached_frame new tree page ≡ frame_or (Some entry) page (frame_at tree page)
frame_set old new tree page place entry lt s e =
    ap (λ o. frame_or o page (frame_at tree page)) (ap (slice_get new) s ∙ ap (λ xs. slice_get xs place) e ∙ slice_get_set old place entry lt)

frame_set_other : (old new : List Entry) (tree : Tree) (page place : ℕ) (entry : Entry) → page % 16 ≢ place → new ≡ set old place entry → cached_frame new tree page ≡ frame_or (slice_get old (page % 16)) page (frame_at tree page)
frame_set_other old new tree page place entry s e =
    ap (λ o. frame_or o page (frame_at tree page)) (ap (λ xs. slice_get xs (page % 16)) e ∙ slice_get_set_other old place (page % 16) entry s)

-- no entry is of a page
pub none_cached : (entries : List Entry) (tree : Tree) (entry : Entry) → entries ≡ replicate 16 entry → frame_of_entry entry ≡ None → 2 ^ 20 < entry.readable → 2 ^ 20 < entry.writable → AreCached entries tree
none_cached entries tree entry e none r w = record {
  long = ap length e ∙ length-replicate 16 entry;
  each = λ i other is.
      let same : other ≡ entry = got_replicated 16 i entry other (ap (λ xs. slice_get xs i) (sym e) ∙ is) in
      subst (Holds tree i) (sym same) (subst (HoldsAs tree i entry.readable entry.writable) (sym none) (record { unreadable = r; unwritable = w }));
}

bare_at : (entries : List Entry) (tree : Tree) (q : ℕ) (o : Option Entry) → q < 2 ^ 20 → ((entry : Entry) → o ≡ Some entry → 2 ^ 20 ≤ entry.readable) → slice_get entries (q % 16) ≡ o → cached_frame entries tree q ≡ frame_at tree q
bare_at entries tree q None lt h is = ap (λ o. frame_or o q (frame_at tree q)) is
bare_at entries tree q (Some entry) lt h is = ap (λ o. frame_or o q (frame_at tree q)) is ∙ frame_bare entry q (frame_at tree q) lt (h entry refl)

-- no entry is of a page
all_bare : (entries : List Entry) (tree : Tree) → ((i : ℕ) (entry : Entry) → i < 16 → slice_get entries i ≡ Some entry → 2 ^ 20 ≤ entry.readable) → cached_pages entries tree ≡ pages_of tree
all_bare entries tree h = alike_pages (frame_at tree) (cached_frame entries tree) (λ q lt. bare_at entries tree q (slice_get entries (q % 16)) lt (λ entry is. h (q % 16) entry (omega arith) is) refl)

pub none_same : (entries : List Entry) (tree : Tree) (entry : Entry) → entries ≡ replicate 16 entry → 2 ^ 20 ≤ entry.readable → cached_pages entries tree ≡ pages_of tree
none_same entries tree entry e r = all_bare entries tree (λ i other lt is.
    let same : other ≡ entry = got_replicated 16 i entry other (ap (λ xs. slice_get xs i) (sym e) ∙ is) in
    subst (λ (x : Entry). 2 ^ 20 ≤ x.readable) (sym same) r)

-- ---- loads

found : (entries : List Entry) (tree : Tree) (page : ℕ) (entry : Entry) (f : Frame) → AreCached entries tree → entry ≡ slice_index_or entries (page % 16) entry → entry.readable ≡ page → frame_of_entry entry ≡ Some f → IsFound entries tree page f
found entries tree page entry f cached is r fr =
    let at : slice_get entries (page % 16) ≡ Some entry = there entries tree page entry cached is in
    record {
      there = ap (λ o. frame_or o page (frame_at tree page)) at ∙ frame_here entry page (frame_at tree page) r ∙ fr;
      read = (held tree (page % 16) entry f fr (cached.each (page % 16) entry at)).read;
    }

pub not_bare : (entries : List Entry) (tree : Tree) (page last : ℕ) (entry : Entry) → AreCached entries tree → last ≤ 2 ^ 20 → entry ≡ slice_index_or entries (page % 16) entry → entry.readable ≡ last → frame_of_entry entry ≡ None → ⊥
not_bare entries tree page last entry cached lt is r none =
    let b : IsBare entry.readable entry.writable = bare tree (page % 16) entry none (cached.each (page % 16) entry (there entries tree page entry cached is)) in
    absurd (omega (arith, lt, r, b.unreadable))

-- bytes that end in a page with the entry of the one in which they begin are in one page
in_one_page : (addr more last : ℕ) → addr < 2 ^ 32 → more < 4096 → last ≡ (addr + more) / 4096 → last % 16 ≡ addr / 4096 % 16 → (last ≡ addr / 4096) × (addr % 4096 + more < 4096)
in_one_page addr more last lt le is ends = (omega (arith, lt, le, is, ends), omega (arith, lt, le, is, ends))

found_within : (entries : List Entry) (tree : Tree) (addr more last : ℕ) (entry : Entry) (f : Frame) → AreCached entries tree → addr < 2 ^ 32 → more < 4096 → last ≡ (addr + more) / 4096 → entry ≡ slice_index_or entries (addr / 4096 % 16) entry → entry.readable ≡ last → frame_of_entry entry ≡ Some f → (last ≡ addr / 4096) × (addr % 4096 + more < 4096)
found_within entries tree addr more last entry f cached lt le l is r fr =
    let place = addr / 4096 % 16 in
    let h : IsHeld tree place entry.readable entry.writable f = held tree place entry f fr (cached.each place entry (there entries tree (addr / 4096) entry cached is)) in
    in_one_page addr more last lt le l (ap (λ k. k % 16) (sym r) ∙ h.ending)

pub found_at : (entries : List Entry) (tree : Tree) (addr more last : ℕ) (entry : Entry) (f : Frame) → AreCached entries tree → addr < 2 ^ 32 → more < 4096 → last ≡ (addr + more) / 4096 → entry ≡ slice_index_or entries (addr / 4096 % 16) entry → entry.readable ≡ last → frame_of_entry entry ≡ Some f → (IsFound entries tree (addr / 4096) f) × (addr % 4096 + more < 4096)
found_at entries tree addr more last entry f cached lt le l is r fr =
    let one : (last ≡ addr / 4096) × (addr % 4096 + more < 4096) = found_within entries tree addr more last entry f cached lt le l is r fr in
    (found entries tree (addr / 4096) entry f cached is (r ∙ one.0) fr, one.1)

pub cached_loads : (n : ℕ) (entries : List Entry) (tree : Tree) (addr : ℕ) (f : Frame) (w : ℕ) → IsFound entries tree (addr / 4096) f → addr < 2 ^ 32 → addr % 4096 + n ≤ 4096 → w ≡ little (part n f.bytes (addr % 4096)) → loaded (cached_pages entries tree) addr n 4 ≡ Ok w
cached_loads n entries tree addr f w is lt h e = loads_by n (cached_frame entries tree) 4 addr f w is.there is.read lt h e

-- ---- stores

frame_is : (tree : Tree) (place r w : ℕ) (o : Option Frame) → HoldsAs tree place r w o → w ≤ 2 ^ 20 → IsSome o
frame_is tree place r w None h lt = absurd (omega (arith, lt, h.unwritable))
frame_is tree place r w (Some f) h lt = refl

pub writable_there : (entries : List Entry) (tree : Tree) (page : ℕ) (entry : Entry) → AreCached entries tree → entry ≡ slice_index_or entries (page % 16) entry → entry.writable ≤ 2 ^ 20 → IsSome (frame_of_entry entry)
writable_there entries tree page entry cached is lt =
    frame_is tree (page % 16) entry.readable entry.writable (frame_of_entry entry) (cached.each (page % 16) entry (there entries tree page entry cached is)) lt

ends_in : (tree : Tree) (place r w : ℕ) (o : Option Frame) → HoldsAs tree place r w o → w ≤ 2 ^ 20 → w % 16 ≡ place
ends_in tree place r w None h lt = absurd (omega (arith, lt, h.unwritable))
ends_in tree place r w (Some f) h lt = ap (λ k. k % 16) (h.write lt).0 ∙ h.ending

-- bytes that end in the page of the entry that can be written lie in one page
written_within : (entries : List Entry) (tree : Tree) (addr n last : ℕ) (entry : Entry) → AreCached entries tree → addr < 2 ^ 32 → 0 < n → n ≤ 4096 → last ≡ (addr + (n - 1)) / 4096 → entry ≡ slice_index_or entries (addr / 4096 % 16) entry → entry.writable ≡ last → (last ≡ addr / 4096) × (addr % 4096 + n ≤ 4096)
written_within entries tree addr n last entry cached lt some few l is w =
    let place = addr / 4096 % 16 in
    let low : entry.writable ≤ 2 ^ 20 = omega (arith, lt, few, w, l) in
    let ends : entry.writable % 16 ≡ place = ends_in tree place entry.readable entry.writable (frame_of_entry entry) (cached.each place entry (there entries tree (addr / 4096) entry cached is)) low in
    let one : (last ≡ addr / 4096) × (addr % 4096 + (n - 1) < 4096) = in_one_page addr (n - 1) last lt (omega (arith, some, few)) l (ap (λ k. k % 16) (sym w) ∙ ends) in
    (one.0, omega (arith, some, one.1))

pub write_fits : (entries : List Entry) (tree : Tree) (addr at n last : ℕ) (entry : Entry) → AreCached entries tree → addr < 2 ^ 32 → at ≡ addr % 4096 → 0 < n → n ≤ 4096 → last ≡ (addr + (n - 1)) / 4096 → entry ≡ slice_index_or entries (addr / 4096 % 16) entry → entry.writable ≡ last → at + n ≤ 4096
write_fits entries tree addr at n last entry cached lt a some few l is w =
    omega (arith, a, (written_within entries tree addr n last entry cached lt some few l is w).1)

pub stored_cached : (b : Bool) (old new : List Entry) (tree : Tree) (page last at : ℕ) (bs : List ℕ) (entry entry2 : Entry) → Wrote b last at bs entry entry2 → AreCached old tree → entry ≡ slice_index_or old (page % 16) entry → new ≡ set old (page % 16) entry2 → AreCached new tree
stored_cached true old new tree page last at bs entry entry2 w cached is e =
    cached_set old new tree (page % 16) entry2 (omega arith) cached
    (holds_same tree (page % 16) entry.readable entry.writable entry2.readable entry2.writable (option_map (written at bs) (frame_of_entry entry)) (frame_of_entry entry2) w.readable w.writable w.frame
    (holds_written tree (page % 16) entry.readable entry.writable at bs (frame_of_entry entry) (cached.each (page % 16) entry (there old tree page entry cached is))))
    e
stored_cached false old new tree page last at bs entry entry2 w cached is e =
    cached_set old new tree (page % 16) entry2 (omega arith) cached (subst (Holds tree (page % 16)) (sym w) (cached.each (page % 16) entry (there old tree page entry cached is))) e

wrote_page : (old new : List Entry) (tree : Tree) (addr at : ℕ) (bs : List ℕ) (entry entry2 : Entry) (o : Option Frame) → frame_of_entry entry ≡ o → IsWritten (addr / 4096) at bs entry entry2 → AreCached old tree → addr < 2 ^ 32 → at ≡ addr % 4096 → 0 < length bs → at + length bs ≤ 4096 → slice_get old (addr / 4096 % 16) ≡ Some entry → new ≡ set old (addr / 4096 % 16) entry2 → HoldsAs tree (addr / 4096 % 16) entry.readable entry.writable o → stored (cached_pages old tree) addr bs ≡ Ok (cached_pages new tree)
wrote_page old new tree addr at bs entry entry2 None fr w cached lt a some h here e holds = absurd (omega (arith, lt, w.number, holds.unwritable))
wrote_page old new tree addr at bs entry entry2 (Some f) fr w cached lt a some h here e holds =
    let page = addr / 4096 in
    let place = addr / 4096 % 16 in
    let long : place < length old = omega (arith, cached.long) in
    let low : entry.writable ≤ 2 ^ 20 = omega (arith, lt, w.number) in
    let r : entry.readable ≡ page = sym (holds.write low).0 ∙ w.number in
    let r2 : entry2.readable ≡ page = w.readable ∙ r in
    stores_by (cached_frame old tree) (cached_frame new tree) addr bs f
    (ap (λ o. frame_or o page (frame_at tree page)) here ∙ frame_here entry page (frame_at tree page) r ∙ fr)
    (holds.write low).1
    lt some (omega (arith, a, h))
    (frame_set old new tree page place entry2 long refl e ∙ frame_here entry2 page (frame_at tree page) r2 ∙ w.frame ∙ ap (option_map (written at bs)) fr ∙ ap (λ k. Some (written k bs f)) a)
    (λ q ne. elim (eqb_tells (q % 16) place) as (λ _. cached_frame new tree q ≡ cached_frame old tree q) [
      | inl s ↦
          frame_set old new tree q place entry2 long s.1 e ∙ frame_there entry2 q (frame_at tree q) (λ x. ne (sym (sym r2 ∙ x)))
          ∙ sym (ap (λ o. frame_or o q (frame_at tree q)) (ap (slice_get old) s.1 ∙ here) ∙ frame_there entry q (frame_at tree q) (λ x. ne (sym (sym r ∙ x))))
      | inr s ↦ frame_set_other old new tree q place entry2 s.1 e
    ])

true_false : true ≡ false → ⊥
true_false e = cc

false_true : false ≡ true → ⊥
false_true e = cc

pub stored_is : (b : Bool) (old new : List Entry) (tree : Tree) (addr last at : ℕ) (bs : List ℕ) (entry entry2 : Entry) → Wrote b last at bs entry entry2 → AreCached old tree → addr < 2 ^ 32 → at ≡ addr % 4096 → 0 < length bs → length bs ≤ 4096 → last ≡ (addr + (length bs - 1)) / 4096 → entry ≡ slice_index_or old (addr / 4096 % 16) entry → new ≡ set old (addr / 4096 % 16) entry2 → b ≡ true → stored (cached_pages old tree) addr bs ≡ Ok (cached_pages new tree)
stored_is true old new tree addr last at bs entry entry2 w cached lt a some few l is e t =
    let here : slice_get old (addr / 4096 % 16) ≡ Some entry = there old tree (addr / 4096) entry cached is in
    let one : (last ≡ addr / 4096) × (addr % 4096 + length bs ≤ 4096) = written_within old tree addr (length bs) last entry cached lt some few l is w.number in
    let here_written : IsWritten (addr / 4096) at bs entry entry2 = subst (λ page. IsWritten page at bs entry entry2) one.0 w in
    wrote_page old new tree addr at bs entry entry2 (frame_of_entry entry) refl here_written cached lt a some (omega (arith, a, one.1)) here e (cached.each (addr / 4096 % 16) entry here)
stored_is false old new tree addr last at bs entry entry2 w cached lt a some few l is e t = absurd (false_true t)

set_same : {A : Type 0} (xs : List A) (i : ℕ) (v : A) → slice_get xs i ≡ Some v → set xs i v ≡ xs
set_same [] i v h = absurd (none-some v h)
set_same (x ∷ xs) zero v h = ap (λ y. y ∷ xs) (sym (same_Some x v h))
set_same (x ∷ xs) (suc i) v h = ap (λ ys. x ∷ ys) (set_same xs i v h)

pub not_stored : (b : Bool) (old new : List Entry) (tree : Tree) (page last at : ℕ) (bs : List ℕ) (entry entry2 : Entry) → Wrote b last at bs entry entry2 → AreCached old tree → entry ≡ slice_index_or old (page % 16) entry → new ≡ set old (page % 16) entry2 → b ≡ false → cached_pages new tree ≡ cached_pages old tree
not_stored true old new tree page last at bs entry entry2 w cached is e t = absurd (true_false t)
not_stored false old new tree page last at bs entry entry2 w cached is e t =
    ap (λ xs. cached_pages xs tree) (e ∙ ap (set old (page % 16)) w ∙ set_same old (page % 16) entry (there old tree page entry cached is))

-- ---- pages that are not cached

pub uncached : (entries : List Entry) (tree : Tree) (page : ℕ) (entry : Entry) → AreCached entries tree → entry ≡ slice_index_or entries (page % 16) entry → entry.readable ≢ page → IsUncached entries page
uncached entries tree page entry cached is ne = record {
  each = λ o. ap (λ x. frame_or x page o) (there entries tree page entry cached is) ∙ frame_there entry page o ne;
}

pub uncached_loads : (n : ℕ) (entries : List Entry) (tree : Tree) (addr w : ℕ) → IsUncached entries (addr / 4096) → addr < 2 ^ 32 → addr % 4096 + n ≤ 4096 → loaded (pages_of tree) addr n 4 ≡ Ok w → loaded (cached_pages entries tree) addr n 4 ≡ Ok w
uncached_loads n entries tree addr w is lt h e = loads_alike n (frame_at tree) (cached_frame entries tree) 4 addr lt h (is.each (frame_at tree (addr / 4096))) ∙ e

pub uncached_cached : (entries : List Entry) (old new : Tree) → AreCached entries old → LeavesStay old new → AreCached entries new
uncached_cached entries old new cached stay = cached_stay entries old new cached stay

uncached_wrote : (entries : List Entry) (old new : Tree) (addr at : ℕ) (bs : List ℕ) (o : Option Frame) → frame_at old (addr / 4096) ≡ o → has_right 2 o ≡ true → IsUncached entries (addr / 4096) → addr < 2 ^ 32 → at ≡ addr % 4096 → 0 < length bs → at + length bs ≤ 4096 → IsEdited old new (addr / 4096) (edited 2 (written at bs) o) → stored (cached_pages entries old) addr bs ≡ Ok (cached_pages entries new)
uncached_wrote entries old new addr at bs None fr g is lt a some h edit = absurd (false_true g)
uncached_wrote entries old new addr at bs (Some f) fr g is lt a some h edit =
    stores_by (cached_frame entries old) (cached_frame entries new) addr bs f
    (is.each (frame_at old (addr / 4096)) ∙ fr) g lt some (omega (arith, a, h))
    (is.each (frame_at new (addr / 4096)) ∙ edit.here ∙ edited_granted 2 (written at bs) f g ∙ ap (λ k. Some (written k bs f)) a)
    (λ q ne. ap (frame_or (slice_get entries (q % 16)) q) (edit.others q ne))

pub uncached_stored : (entries : List Entry) (old new : Tree) (addr at : ℕ) (bs : List ℕ) → IsUncached entries (addr / 4096) → addr < 2 ^ 32 → at ≡ addr % 4096 → 0 < length bs → at + length bs ≤ 4096 → has_right 2 (frame_at old (addr / 4096)) ≡ true → IsEdited old new (addr / 4096) (edited 2 (written at bs) (frame_at old (addr / 4096))) → stored (cached_pages entries old) addr bs ≡ Ok (cached_pages entries new)
uncached_stored entries old new addr at bs is lt a some h g edit = uncached_wrote entries old new addr at bs (frame_at old (addr / 4096)) refl g is lt a some h edit

pub uncached_kept : (entries : List Entry) (old new : Tree) (page at : ℕ) (bs : List ℕ) → has_right 2 (frame_at old page) ≡ false → IsEdited old new page (edited 2 (written at bs) (frame_at old page)) → cached_pages entries new ≡ cached_pages entries old
uncached_kept entries old new page at bs g edit = alike_pages (cached_frame entries old) (cached_frame entries new) (λ q lt.
    ap (frame_or (slice_get entries (q % 16)) q) (elim (eqb_tells q page) as (λ _. frame_at new q ≡ frame_at old q) [
      | inl s ↦ ap (frame_at new) s.1 ∙ edit.here ∙ edited_refused 2 (written at bs) (frame_at old page) g ∙ ap (frame_at old) (sym s.1)
      | inr s ↦ edit.others q s.1
    ]))

-- ---- back into the tree

pub number_below : (entries : List Entry) (tree : Tree) (place : ℕ) (entry d : Entry) (f : Frame) → place < 16 → AreCached entries tree → entry ≡ slice_index_or entries place d → frame_of_entry entry ≡ Some f → entry.readable < 2 ^ 32
number_below entries tree place entry d f lt cached is fr =
    let h : IsHeld tree place entry.readable entry.writable f = held tree place entry f fr (cached.each place entry (got entries place d (omega (arith, lt, cached.long)) ∙ ap Some (sym is))) in
    omega (arith, h.number)

pub has_leaf : (entries : List Entry) (tree : Tree) (place : ℕ) (entry d : Entry) (f : Frame) → place < 16 → AreCached entries tree → entry ≡ slice_index_or entries place d → frame_of_entry entry ≡ Some f → IsSome (leaf_at tree (entry.readable / 1024))
has_leaf entries tree place entry d f lt cached is fr =
    (held tree place entry f fr (cached.each place entry (got entries place d (omega (arith, lt, cached.long)) ∙ ap Some (sym is)))).leaf

bare_holds : (tree : Tree) (place : ℕ) (entry : Entry) → frame_of_entry entry ≡ None → 2 ^ 20 < entry.readable → 2 ^ 20 < entry.writable → Holds tree place entry
bare_holds tree place entry none r w = subst (HoldsAs tree place entry.readable entry.writable) (sym none) (record { unreadable = r; unwritable = w })

put_bare : (old new : List Entry) (place : ℕ) (b entry : Entry) → place < length old → new ≡ set old place b → 2 ^ 20 ≤ b.readable → slice_get new place ≡ Some entry → 2 ^ 20 ≤ entry.readable
put_bare old new place b entry lt e r is =
    let same : b ≡ entry = same_Some b entry (sym (slice_get_set old place b lt) ∙ ap (λ xs. slice_get xs place) (sym e) ∙ is) in
    subst (λ (x : Entry). 2 ^ 20 ≤ x.readable) same r

pub put_back_none : (old new : List Entry) (tree : Tree) (place : ℕ) (entry b d : Entry) → place < 16 → AreCached old tree → entry ≡ slice_index_or old place d → frame_of_entry entry ≡ None → frame_of_entry b ≡ None → 2 ^ 20 < b.readable → 2 ^ 20 < b.writable → new ≡ set old place b → IsPutBack place old tree new tree
put_back_none old new tree place entry b d lt cached is none bn br bw e =
    let long : place < length old = omega (arith, lt, cached.long) in
    let here : slice_get old place ≡ Some entry = got old place d long ∙ ap Some (sym is) in
    let was : IsBare entry.readable entry.writable = bare tree place entry none (cached.each place entry here) in
    record {
      cached = cached_set old new tree place b lt cached (bare_holds tree place b bn br bw) e;
      same = alike_pages (cached_frame old tree) (cached_frame new tree) (λ q lq. elim (eqb_tells (q % 16) place) as (λ _. cached_frame new tree q ≡ cached_frame old tree q) [
        | inl s ↦
            frame_set old new tree q place b long s.1 e ∙ frame_bare b q (frame_at tree q) lq (omega (arith, br))
            ∙ sym (ap (λ o. frame_or o q (frame_at tree q)) (ap (slice_get old) s.1 ∙ here) ∙ frame_bare entry q (frame_at tree q) lq (omega (arith, was.unreadable)))
        | inr s ↦ frame_set_other old new tree q place b s.1 e
      ]);
      bare = λ other got. put_bare old new place b other long e (omega (arith, br)) got;
      others = λ j ne. ap (λ xs. slice_get xs j) e ∙ slice_get_set_other old place j b ne;
    }

pub put_back_bare : (entries : List Entry) (tree : Tree) (place : ℕ) (d : Entry) → place < 16 → AreCached entries tree → 2 ^ 20 ≤ (slice_index_or entries place d).readable → IsPutBack place entries tree entries tree
put_back_bare entries tree place d lt cached r = record {
  cached = cached;
  same = refl;
  bare = λ other is. subst (λ (x : Entry). 2 ^ 20 ≤ x.readable) (same_Some (slice_index_or entries place d) other (sym (got entries place d (omega (arith, lt, cached.long))) ∙ is)) r;
  others = λ j ne. refl;
}

put_frame : (tree tree2 : Tree) (q : ℕ) (entry : Entry) (f : Frame) → frame_of_entry entry ≡ Some f → IsEdited tree tree2 entry.readable (Some f) → frame_at tree2 q ≡ frame_or (Some entry) q (frame_at tree q)
put_frame tree tree2 q entry f fr edit = elim (eqb_tells q entry.readable) as (λ _. frame_at tree2 q ≡ frame_or (Some entry) q (frame_at tree q)) [
  | inl s ↦ ap (frame_at tree2) s.1 ∙ edit.here ∙ sym (frame_here entry q (frame_at tree q) (sym s.1) ∙ fr)
  | inr s ↦ edit.others q s.1 ∙ sym (frame_there entry q (frame_at tree q) (λ x. s.1 (sym x)))
]

pub put_back_some : (old new : List Entry) (tree tree2 : Tree) (place : ℕ) (entry b d : Entry) (f : Frame) → place < 16 → AreCached old tree → entry ≡ slice_index_or old place d → frame_of_entry entry ≡ Some f → frame_of_entry b ≡ None → 2 ^ 20 < b.readable → 2 ^ 20 < b.writable → new ≡ set old place b → IsEdited tree tree2 entry.readable (Some f) → LeavesStay tree tree2 → IsPutBack place old tree new tree2
put_back_some old new tree tree2 place entry b d f lt cached is fr bn br bw e edit stay =
    let long : place < length old = omega (arith, lt, cached.long) in
    let here : slice_get old place ≡ Some entry = got old place d long ∙ ap Some (sym is) in
    let was : IsHeld tree place entry.readable entry.writable f = held tree place entry f fr (cached.each place entry here) in
    record {
      cached = cached_set old new tree2 place b lt (cached_stay old tree tree2 cached stay) (bare_holds tree2 place b bn br bw) e;
      same = alike_pages (cached_frame old tree) (cached_frame new tree2) (λ q lq. elim (eqb_tells (q % 16) place) as (λ _. cached_frame new tree2 q ≡ cached_frame old tree q) [
        | inl s ↦
            frame_set old new tree2 q place b long s.1 e ∙ frame_bare b q (frame_at tree2 q) lq (omega (arith, br))
            ∙ put_frame tree tree2 q entry f fr edit
            ∙ sym (ap (λ o. frame_or o q (frame_at tree q)) (ap (slice_get old) s.1 ∙ here))
        | inr s ↦ frame_set_other old new tree2 q place b s.1 e ∙ ap (frame_or (slice_get old (q % 16)) q) (edit.others q (λ x. s.1 (ap (λ k. k % 16) x ∙ was.ending)))
      ]);
      bare = λ other got. put_bare old new place b other long e (omega (arith, br)) got;
      others = λ j ne. ap (λ xs. slice_get xs j) e ∙ slice_get_set_other old place j b ne;
    }

pub put_none : (entries : List Entry) (tree : Tree) → AreCached entries tree → ArePutBack 0 entries tree entries tree
put_none entries tree cached = record { cached = cached; same = refl; bare = λ i entry lt is. absurd (omega (arith, lt)) }

pub put_more : (n : ℕ) (old mid new : List Entry) (tree tree1 tree2 : Tree) → ArePutBack n old tree mid tree1 → IsPutBack n mid tree1 new tree2 → ArePutBack (n + 1) old tree new tree2
put_more n old mid new tree tree1 tree2 front one = record {
  cached = one.cached;
  same = one.same ∙ front.same;
  bare = λ i entry lt is. elim (eqb_tells i n) as (λ _. 2 ^ 20 ≤ entry.readable) [
    | inl s ↦ one.bare entry (ap (slice_get new) (sym s.1) ∙ is)
    | inr s ↦ front.bare i entry (omega (arith, lt, s.1)) (sym (one.others i s.1) ∙ is)
  ];
}

pub put_all : (n : ℕ) (old new : List Entry) (tree tree2 : Tree) → ArePutBack n old tree new tree2 → 16 ≤ n → pages_of tree2 ≡ cached_pages old tree
put_all n old new tree tree2 all le = sym (all_bare new tree2 (λ i entry lt is. all.bare i entry (omega (arith, lt, le)) is)) ∙ all.same

-- ---- out of the tree

pub readable_leaf : (tree : Tree) (page : ℕ) (f : Frame) → frame_at tree page ≡ Some f → IsSome (leaf_at tree (page / 1024))
readable_leaf tree page f is = leaf_there tree page (ap is_some is)

pub taken : (page : ℕ) (old new : Tree) (entry : Entry) (f : Frame) → frame_at old page ≡ Some f → grants 4 f ≡ true → frame_of_entry entry ≡ frame_at old page → entry.readable ≡ page → (entry.writable ≤ 2 ^ 20 → (entry.writable ≡ page) × (grants 2 f ≡ true)) → IsEdited old new page None → LeavesStay old new → IsTaken page old new entry
taken page old new entry f is g fr r w edit stay = record {
  readable = r;
  frame = fr;
  read = ap (has_right 4) is ∙ g;
  write = λ lt. ((w lt).0, ap (has_right 2) is ∙ (w lt).1);
  leaf = readable_leaf old page f is;
  edited = edit;
  leaves = stay;
}

taken_holds : (page : ℕ) (old new : Tree) (entry : Entry) (o : Option Frame) → page < 2 ^ 20 → IsTaken page old new entry → frame_at old page ≡ o → has_right 4 o ≡ true → Holds new (page % 16) entry
taken_holds page old new entry None lt t is g = absurd (false_true g)
taken_holds page old new entry (Some f) lt t is g =
    let P : Option Frame → Type 0 = HoldsAs new (page % 16) entry.readable entry.writable in
    subst P (sym (t.frame ∙ is)) (record {
      number = omega (arith, lt, t.readable);
      ending = ap (λ k. k % 16) t.readable;
      leaf = ap (λ k. is_some (leaf_at new (k / 1024))) t.readable ∙ t.leaves.each (page / 1024) t.leaf;
      read = g;
      write = λ low. ((t.write low).0 ∙ sym t.readable, sym (ap (has_right 2) is) ∙ (t.write low).1);
    })

fetched_frame : (old new : Tree) (page q : ℕ) (entry : Entry) → IsTaken page old new entry → frame_or (Some entry) q (frame_at new q) ≡ frame_at old q
fetched_frame old new page q entry t = elim (eqb_tells q page) as (λ _. frame_or (Some entry) q (frame_at new q) ≡ frame_at old q) [
  | inl s ↦ frame_here entry q (frame_at new q) (t.readable ∙ sym s.1) ∙ t.frame ∙ ap (frame_at old) (sym s.1)
  | inr s ↦ frame_there entry q (frame_at new q) (λ x. s.1 (sym x ∙ t.readable)) ∙ t.edited.others q s.1
]

pub fetched_none : (place : ℕ) (old new : List Entry) (tree tree1 tree2 : Tree) → IsPutBack place old tree new tree1 → tree2 ≡ tree1 → AreMoved old tree new tree2
fetched_none place old new tree tree1 tree2 back e = record {
  cached = subst (AreCached new) (sym e) back.cached;
  same = ap (cached_pages new) e ∙ back.same;
}

pub fetched : (page : ℕ) (old mid new : List Entry) (tree tree1 tree2 : Tree) (entry : Entry) → page < 2 ^ 20 → IsPutBack (page % 16) old tree mid tree1 → IsTaken page tree1 tree2 entry → new ≡ set mid (page % 16) entry → AreMoved old tree new tree2
fetched page old mid new tree tree1 tree2 entry lt back t e =
    let place = page % 16 in
    let long : place < length mid = omega (arith, back.cached.long) in
    record {
      cached = cached_set mid new tree2 place entry (omega arith) (cached_stay mid tree1 tree2 back.cached t.leaves) (taken_holds page tree1 tree2 entry (frame_at tree1 page) lt t refl t.read) e;
      same = alike_pages (cached_frame mid tree1) (cached_frame new tree2) (λ q lq. elim (eqb_tells (q % 16) place) as (λ _. cached_frame new tree2 q ≡ cached_frame mid tree1 q) [
        | inl s ↦
            frame_set mid new tree2 q place entry long s.1 e
            ∙ fetched_frame tree1 tree2 page q entry t
            ∙ sym (bare_at mid tree1 q (slice_get mid (q % 16)) lq (λ other is. back.bare other (ap (slice_get mid) (sym s.1) ∙ is)) refl)
        | inr s ↦ frame_set_other mid new tree2 q place entry s.1 e ∙ ap (frame_or (slice_get mid (q % 16)) q) (t.edited.others q (λ x. s.1 (ap (λ k. k % 16) x)))
      ]) ∙ back.same;
    }

-- ---- what is kept of the pages

-- after a store that may have been refused
pub kept_cached : (b : Bool) (old new : PageMap) (addr n : ℕ) (bs : List ℕ) → (b ≡ true → stored old addr bs ≡ Ok new) → (b ≡ false → new ≡ old) → IsCounted n old → IsCounted n new
kept_cached true old new addr n bs is not kept = stored_kept old new addr n bs (is refl) kept
kept_cached false old new addr n bs is not kept = same_kept old new n (not refl) kept
