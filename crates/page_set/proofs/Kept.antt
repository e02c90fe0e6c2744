-- What is kept of every set of pages: the count, and that each page is one.
use Rattle.std.proofs.Common.{◌≡◌, ◌⊎◌, inl, inr, ℕ, zero, suc, ◌+◌, ◌-◌, ◌/◌, ◌%◌, ◌^◌, ◌<◌, ◌≤◌, List, [], ◌∷◌, refl, ap, ◌∙◌, sym, arith, cond, true, false, Option, Some, None, Result, Ok, Err, is_some, IsSome, length, subst}
use Rattle.std.proofs.lemmas.List.{length-set, length-replicate}
use Rattle.std.proofs.lemmas.Nat.{or_lt}
use Rattle.std.proofs.lemmas.Bool.Decides.{eqb_tells}
use Rattle.std.specs.Ordering.{nat_cmp}
use Rattle.std.specs.Cmp.{nat_cmp_total}
use Rattle.std.specs.FinMap as map
use Rattle.std.specs.Prelude.{MatchResult, OnErr}
use Rattle.page_set.specs.Pages.{page_with_part, Page, PageMap, IsPage, WellFormed, zero_page, with_byte, with_bytes, changed_page, page_with_byte, page_with_rights, stored, copied_in, where_granted, bytes_at, flat_at, wrapped}
use Rattle.page_set.specs.Tree.{Tree, page_at, map_below, pages_of, IsCounted}
use Rattle.page_set.proofs.Parts.{set_part_is, length-set_part}
use Rattle.page_set.proofs.Maps.{get_inserted, get_inserted_other, get_removed, get_removed_other, get_above}

some_none : (p : Page) → (let o : Option Page = None in o ≡ Some p) → ⊥
some_none p e = cc

some_some : (a b : Page) → Some a ≡ Some b → a ≡ b
some_some a b e = cc

true_false : true ≡ false → ⊥
true_false e = cc

-- ---- no page

none_below : (n : ℕ) → map_below (page_at []) n ≡ map.empty
unfolding map_below
none_below zero = refl
none_below (suc n) = none_below n

pub no_pages : (tree : Tree) → tree ≡ [] → pages_of tree ≡ map.empty
no_pages tree e = ap pages_of e ∙ none_below (2 ^ 20)

none_counted : IsCounted 0 map.empty
none_counted = record {
  counted = sym (map.len-empty nat_cmp Page);
  well_formed = record { each = λ n page is. absurd (some_none page (sym (map.get-empty nat_cmp n) ∙ is)) };
}

pub none_kept : (tree : Tree) → tree ≡ [] → IsCounted 0 (pages_of tree)
none_kept tree e = subst (IsCounted 0) (sym (no_pages tree e)) none_counted

pub same_kept : (old new : PageMap) (n : ℕ) → new ≡ old → IsCounted n old → IsCounted n new
same_kept old new n e kept = subst (IsCounted n) (sym e) kept

-- ---- one page more, changed, or less

well_inserted : (m : PageMap) (k : ℕ) (p : Page) → IsPage k p → WellFormed m → WellFormed (map.insert m k p)
well_inserted m k p one well = record {
  each = λ q page is. elim (eqb_tells q k) as (λ _. IsPage q page) [
    | inl e ↦ let same : p ≡ page = some_some p page (sym (get_inserted m k p) ∙ ap (map.get (map.insert m k p)) (sym e.1) ∙ is) in subst (IsPage q) same (let P : ℕ → Type 0 = λ n. IsPage n p in subst P (sym e.1) one)
    | inr e ↦ well.each q page (sym (get_inserted_other m k q p e.1) ∙ is)
  ];
}

well_removed : (m : PageMap) (k : ℕ) → WellFormed m → WellFormed (map.remove m k)
well_removed m k well = record {
  each = λ q page is. elim (eqb_tells q k) as (λ _. IsPage q page) [
    | inl e ↦ absurd (some_none page (sym (get_removed m k) ∙ ap (map.get (map.remove m k)) (sym e.1) ∙ is))
    | inr e ↦ well.each q page (sym (get_removed_other m k q e.1) ∙ is)
  ];
}

zero_page_is : (k rights : ℕ) → k < 2 ^ 20 → rights < 8 → IsPage k (zero_page rights)
zero_page_is k rights lt r = record { number = lt; size = length-replicate {A = ℕ} 4096 0; rights = r }

one_more : (m : PageMap) (k n : ℕ) (p : Page) → map.get m k ≡ None → n ≡ map.len m → n + 1 ≡ map.len (map.insert m k p)
one_more m k n p none is = sym (map.len-insert nat_cmp_total m k p ∙ ap (λ o. cond (is_some o) (map.len m) (map.len m + 1)) none ∙ ap (λ x. x + 1) (sym is))

zero_counted : (m : PageMap) (k rights n : ℕ) → map.get m k ≡ None → k < 2 ^ 20 → rights < 8 → IsCounted n m → IsCounted (n + 1) (map.insert m k (zero_page rights))
zero_counted m k rights n none lt r kept = record {
  counted = one_more m k n (zero_page rights) none kept.counted;
  well_formed = well_inserted m k (zero_page rights) (zero_page_is k rights lt r) kept.well_formed;
}

pub zero_kept : (old new : PageMap) (k rights n : ℕ) → new ≡ map.insert old k (zero_page rights) → map.get old k ≡ None → k < 2 ^ 20 → rights < 8 → IsCounted n old → IsCounted (n + 1) new
zero_kept old new k rights n e none lt r kept = subst (IsCounted (n + 1)) (sym e) (zero_counted old k rights n none lt r kept)

as_many : (m : PageMap) (k : ℕ) (p q : Page) → map.get m k ≡ Some p → map.len (map.insert m k q) ≡ map.len m
as_many m k p q h = map.len-insert nat_cmp_total m k q ∙ ap (λ o. cond (is_some o) (map.len m) (map.len m + 1)) h

-- an edit that makes a page of a page
record IsEdit (edit : Page → Page) : Type 0 where
  is : (n : ℕ) (p : Page) → IsPage n p → IsPage n (edit p)

changed_counted : (m : PageMap) (k n : ℕ) (edit : Page → Page) (o : Option Page) → IsEdit edit → map.get m k ≡ o → IsCounted n m → IsCounted n (changed_page m k edit o)
changed_counted m k n edit None ok e kept = kept
changed_counted m k n edit (Some p) ok e kept = record {
  counted = kept.counted ∙ sym (as_many m k p (edit p) e);
  well_formed = well_inserted m k (edit p) (ok.is k p (kept.well_formed.each k p e)) kept.well_formed;
}

byte_edit : (at b : ℕ) → IsEdit (page_with_byte at b)
byte_edit at b = record { is = λ n p one. record { number = one.number; size = length-set p.bytes at b ∙ one.size; rights = one.rights } }

rights_edit : (rights : ℕ) → rights < 8 → IsEdit (page_with_rights rights)
rights_edit rights lt = record { is = λ n p one. record { number = one.number; size = one.size; rights = or_lt 3 p.rights rights one.rights lt } }

pub rights_kept : (old new : PageMap) (k rights n : ℕ) → new ≡ changed_page old k (page_with_rights rights) (map.get old k) → rights < 8 → IsCounted n old → IsCounted n new
rights_kept old new k rights n e lt kept = subst (IsCounted n) (sym e) (changed_counted old k n (page_with_rights rights) (map.get old k) (rights_edit rights lt) refl kept)

byte_counted : (m : PageMap) (addr b n : ℕ) → IsCounted n m → IsCounted n (with_byte m addr b)
byte_counted m addr b n kept = changed_counted m (addr / 4096) n (page_with_byte (addr % 4096) b) (map.get m (addr / 4096)) (byte_edit (addr % 4096) b) refl kept

pub byte_kept : (old new : PageMap) (addr b n : ℕ) → new ≡ with_byte old addr b → IsCounted n old → IsCounted n new
byte_kept old new addr b n e kept = subst (IsCounted n) (sym e) (byte_counted old addr b n kept)

part_edit : (at : ℕ) (bs : List ℕ) → at + length bs ≤ 4096 → IsEdit (page_with_part at bs)
part_edit at bs h = record { is = λ n p one. record { number = one.number; size = ap length (set_part_is bs p.bytes at (omega (arith, one.size))) ∙ length-set_part bs p.bytes at ∙ one.size; rights = one.rights } }

pub part_kept : (old new : PageMap) (k at n : ℕ) (bs : List ℕ) → new ≡ changed_page old k (page_with_part at bs) (map.get old k) → at + length bs ≤ 4096 → IsCounted n old → IsCounted n new
part_kept old new k at n bs e h kept = subst (IsCounted n) (sym e) (changed_counted old k n (page_with_part at bs) (map.get old k) (part_edit at bs h) refl kept)

bytes_counted : (m : PageMap) (addr n : ℕ) (bs : List ℕ) → IsCounted n m → IsCounted n (with_bytes m addr bs)
bytes_counted m addr n [] kept = kept
bytes_counted m addr n (b ∷ bs) kept = bytes_counted (with_byte m addr b) ((addr + 1) % 2 ^ 32) n bs (byte_counted m addr b n kept)

pub bytes_kept : (old new : PageMap) (addr n : ℕ) (bs : List ℕ) → new ≡ with_bytes old addr bs → IsCounted n old → IsCounted n new
bytes_kept old new addr n bs e kept = subst (IsCounted n) (sym e) (bytes_counted old addr n bs kept)

one_less : (m : PageMap) (k n : ℕ) → is_some (map.get m k) ≡ true → n ≡ map.len m → n - 1 ≡ map.len (map.remove m k)
one_less m k n some is = sym (map.len-remove nat_cmp_total m k ∙ ap (λ b. cond b (map.len m - 1) (map.len m)) some ∙ ap (λ x. x - 1) (sym is))

pub less_kept : (old new : PageMap) (k n : ℕ) → new ≡ map.remove old k → is_some (map.get old k) ≡ true → IsCounted n old → IsCounted (n - 1) new
less_kept old new k n e some kept = subst (IsCounted (n - 1)) (sym e) (record { counted = one_less old k n some kept.counted; well_formed = well_removed old k kept.well_formed })

none_less : (m : PageMap) (k n : ℕ) → is_some (map.get m k) ≡ false → n ≡ map.len m → n ≡ map.len (map.remove m k)
none_less m k n none is = sym (map.len-remove nat_cmp_total m k ∙ ap (λ b. cond b (map.len m - 1) (map.len m)) none ∙ sym is)

pub no_less_kept : (old new : PageMap) (k n : ℕ) → new ≡ map.remove old k → is_some (map.get old k) ≡ false → IsCounted n old → IsCounted n new
no_less_kept old new k n e none kept = subst (IsCounted n) (sym e) (record { counted = none_less old k n none kept.counted; well_formed = well_removed old k kept.well_formed })

pub filled : (m : PageMap) (k : ℕ) → is_some (map.get m k) ≡ true → map.len m ≡ 0 → ⊥
filled m k some none = true_false (sym some ∙ ap (λ m. is_some (map.get m k)) (map.empty_of_len m none) ∙ ap is_some (map.get-empty nat_cmp k))

pub above_none : (n : ℕ) → (n ≡ 0 → ⊥) → 1 ≤ n
above_none zero h = absurd (h refl)
above_none (suc n) h = omega arith

pub some_there : (old : PageMap) (k n : ℕ) → is_some (map.get old k) ≡ true → IsCounted n old → 1 ≤ n
some_there old k n some kept = above_none n (λ z. filled old k some (sym kept.counted ∙ z))

-- ---- stores

ok_ok : (a b : PageMap) → (let r : Result PageMap ℕ = Ok a in r ≡ Ok b) → a ≡ b
ok_ok a b e = cc

err_ok : (a : ℕ) (m : PageMap) → (let r : Result PageMap ℕ = Err a in r ≡ Ok m) → ⊥
err_ok a m e = cc

granted_kept : (r : Result (List ℕ) ℕ) (old new : PageMap) (addr n : ℕ) (bs : List ℕ) → where_granted r (with_bytes old addr bs) ≡ Ok new → IsCounted n old → IsCounted n new
granted_kept (Ok _) old new addr n bs e kept = subst (IsCounted n) (ok_ok (with_bytes old addr bs) new e) (bytes_counted old addr n bs kept)
granted_kept (Err a) old new addr n bs e kept = absurd (err_ok a new e)

pub stored_kept : (old new : PageMap) (addr n : ℕ) (bs : List ℕ) → stored old addr bs ≡ Ok new → IsCounted n old → IsCounted n new
stored_kept old new addr n bs e kept = granted_kept (bytes_at old 2 addr (length bs)) old new addr n bs e kept

pub store_kept : {T E : Type 0} (Q : E → Type 0) (r : Result T E) (old new : PageMap) (addr n : ℕ) (bs : List ℕ) → MatchResult r (λ _. stored old addr bs ≡ Ok new) Q → OnErr r (new ≡ old) → IsCounted n old → IsCounted n new
store_kept Q (Ok _) old new addr n bs h same kept = granted_kept (bytes_at old 2 addr (length bs)) old new addr n bs h kept
store_kept Q (Err _) old new addr n bs h same kept = same_kept old new n same kept

pub copy_kept : {T E : Type 0} (Q : E → Type 0) (r : Result T E) (old new : PageMap) (addr n : ℕ) (bs : List ℕ) → MatchResult r (λ _. copied_in old addr bs ≡ Ok new) Q → OnErr r (new ≡ old) → IsCounted n old → IsCounted n new
copy_kept Q (Ok _) old new addr n bs h same kept = granted_kept (wrapped (flat_at old 2 addr (length bs))) old new addr n bs h kept
copy_kept Q (Err _) old new addr n bs h same kept = same_kept old new n same kept

-- ---- a mapped page is below 2 ^ 20

lt_or_le : (q n : ℕ) → (q < n) ⊎ (n ≤ q)
lt_or_le q n = grind arith

none_some : (let o : Option Page = None in IsSome o) → ⊥
none_some h = cc

number_at : (tree : Tree) (page : ℕ) → IsSome (map.get (pages_of tree) page) → (page < 2 ^ 20) ⊎ (2 ^ 20 ≤ page) → page < 2 ^ 20
number_at tree page some (inl lt) = lt
number_at tree page some (inr le) = absurd (none_some (rw (get_above (page_at tree) (2 ^ 20) page le) at some))

pub number_below : (tree : Tree) (page : ℕ) → IsSome (map.get (pages_of tree) page) → page < 2 ^ 20
number_below tree page some = number_at tree page some (lt_or_le page (2 ^ 20))
