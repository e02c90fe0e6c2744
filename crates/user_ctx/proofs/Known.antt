-- What is known of the heap, and a break.
use Rattle.std.proofs.Common.{◌≡◌, inl, inr, ℕ, ◌+◌, ◌-◌, ◌/◌, ◌%◌, ◌≤◌, refl, ap, ◌∙◌, sym, arith, Option, Some, None, true, false, is_some, min, max}
use Rattle.std.specs.Prelude.{bit_and, bit_or, ◌==◌}
use Rattle.std.specs.Int.Bits.{or_add_and}
use Rattle.std.proofs.lemmas.Nat.{and_or_self}
use Rattle.std.proofs.lemmas.Bool.Decides.{nat_tests}
use Rattle.std.specs.Option.{option_map}
use Rattle.std.specs.FinMap as map
use Rattle.page_set.specs.Pages.{Page, PageMap}
use Rattle.user_spec.specs.User.{UserState}
use Rattle.user_spec.specs.Request.{page_above, without_pages, with_heap_pages, lacks_page}
use Rattle.user_ctx.specs.Heap.{mapped_in, with_lacking, broken, rights_at, is_heap_page, IsHeap}
use Rattle.user_ctx.proofs.Maps.{lt_or_le, same, heap_page, page_or_zeros, heap_in, heap_out, without_in, without_out, lacking_in, lacking_out, there, all_there}
use Rattle.user_ctx.proofs.Heaps.{mapped_split, mapped_full, mapped_free, broken_below, broken_in, broken_above, broken_far}
use Rattle.user_ctx.proofs.Breaks.{IsCounted}

-- ---- one page

abbrev rights_of : Option Page → Option ℕ
rights_of o = option_map (λ p. p.rights) o

some_page : (o : Option Page) → is_heap_page (rights_of o) ≡ true → is_some o ≡ true
some_page None h = absurd (let e : false ≡ true = h in cc)
some_page (Some p) h = refl

is_six : (n : ℕ) → (n == 6) ≡ true → n ≡ 6
is_six n h = grind (arith, nat_tests)

stays : (o : Option Page) → is_heap_page (rights_of o) ≡ true → Some (heap_page o) ≡ o
stays None h = absurd (let e : false ≡ true = h in cc)
stays (Some p) h =
    let six : bit_and p.rights 6 ≡ 6 = is_six (bit_and p.rights 6) h in
    let e : bit_or p.rights 6 ≡ p.rights = omega (arith, or_add_and p.rights 6) in
    ap (λ r. Some (let q : Page = record p { rights = r } in q)) e

none_page : (o : Option Page) → rights_of o ≡ None → o ≡ None
none_page None h = refl
none_page (Some p) h = absurd (let e : (let x : Option ℕ = Some p.rights in x ≡ None) = h in cc)

six_six : (n : ℕ) → n ≡ 6 → (n == 6) ≡ true
six_six n h = grind (arith, nat_tests)

becomes : (o : Option Page) → is_heap_page (rights_of (Some (heap_page o))) ≡ true
becomes None = refl
becomes (Some p) = six_six (bit_and (bit_or p.rights 6) 6) (and_or_self 6 p.rights)

zeros_keep : (o : Option Page) → is_some o ≡ true → Some (page_or_zeros o) ≡ o
zeros_keep None h = absurd (let e : false ≡ true = h in cc)
zeros_keep (Some p) h = refl

-- ---- counting

pub counted : (u : UserState) (full bare a low end high k gone count : ℕ) → IsHeap u.base u.brk full bare u.pages → u.base ≤ a → a ≤ 0x70000000 → end ≡ page_above a → low ≡ min full end → high ≡ max bare end → k ≡ mapped_in u.pages low (end - low) → k ≤ end - low → gone ≡ mapped_in u.pages end (high - end) → gone ≤ map.len u.pages → count ≡ map.len u.pages → IsCounted u a end (end - low - k) gone count
counted u full bare a low end high k gone count h la ha e l g ki km gi gm c =
    let first : ℕ = u.base / 4096 in
    let fl : first ≤ low = omega arith in
    let le : low ≤ end = omega arith in
    let hm : high ≤ 0x70000 = omega arith in
    let front : mapped_in u.pages first (low - first) ≡ low - first = mapped_full (low - first) u.pages first (λ q x y. some_page (map.get u.pages q) (h.mapped q x (omega arith))) in
    let join : low - first + (end - low) ≡ end - first = omega arith in
    let at : first + (low - first) ≡ low = omega arith in
    let two : mapped_in u.pages first (end - first) ≡ mapped_in u.pages first (low - first) + mapped_in u.pages low (end - low) = ap (mapped_in u.pages first) (sym join) ∙ mapped_split (low - first) (end - low) u.pages first ∙ ap (λ x. mapped_in u.pages first (low - first) + mapped_in u.pages x (end - low)) at in
    let back : mapped_in u.pages high (0x70000 - high) ≡ 0 = mapped_free (0x70000 - high) u.pages high (λ q x y. none_page (map.get u.pages q) (h.free q (omega arith) (omega arith))) in
    let join2 : high - end + (0x70000 - high) ≡ 0x70000 - end = omega arith in
    let at2 : end + (high - end) ≡ high = omega arith in
    let two2 : mapped_in u.pages end (0x70000 - end) ≡ mapped_in u.pages end (high - end) + mapped_in u.pages high (0x70000 - high) = ap (mapped_in u.pages end) (sym join2) ∙ mapped_split (high - end) (0x70000 - high) u.pages end ∙ ap (λ x. mapped_in u.pages end (high - end) + mapped_in u.pages x (0x70000 - high)) at2 in
    record {
      low = la;
      high = ha;
      end_is = e;
      lacking_is = omega (arith, two, front);
      gone_is = omega (arith, two2, back);
      gone_most = gm;
      count_is = c;
    }

-- ---- the break

pub part_there : (m : PageMap) (first full low end : ℕ) → first ≤ full → first ≤ end → low ≡ min full end → lacks_page m first (end - first) ≡ false → lacks_page m low (end - low) ≡ false
part_there m first full low end f e l h = all_there (end - low) m low (λ q x y. there (end - first) m first q h (omega arith) (omega arith))

part_broken_at : (base brk full bare low end high : ℕ) (m : PageMap) (q : ℕ) → IsHeap base brk full bare m → base / 4096 ≤ end → end ≤ 0x70000 → low ≡ min full end → high ≡ max bare end → map.get (with_heap_pages (without_pages m end (high - end)) low (end - low)) q ≡ map.get (broken m (base / 4096) end) q
part_broken_at base brk full bare low end high m q h fe lim l g =
    let first : ℕ = base / 4096 in
    let w : PageMap = without_pages m end (high - end) in
    elim (lt_or_le q first) as (λ _. map.get (with_heap_pages w low (end - low)) q ≡ map.get (broken m first end) q) [
      | inl a ↦ heap_out (end - low) w low q (inl (omega arith)) ∙ without_out (high - end) m end q (inl (omega arith)) ∙ sym (broken_below m first end q fe a)
      | inr a ↦ elim (lt_or_le q low) as (λ _. map.get (with_heap_pages w low (end - low)) q ≡ map.get (broken m first end) q) [
        | inl b ↦ heap_out (end - low) w low q (inl b) ∙ without_out (high - end) m end q (inl (omega arith)) ∙ sym (stays (map.get m q) (h.mapped q a (omega arith))) ∙ sym (broken_in m first end q a (omega arith))
        | inr b ↦ elim (lt_or_le q end) as (λ _. map.get (with_heap_pages w low (end - low)) q ≡ map.get (broken m first end) q) [
          | inl d ↦ heap_in (end - low) w low q b (omega arith) ∙ ap (λ o. Some (heap_page o)) (without_out (high - end) m end q (inl d)) ∙ sym (broken_in m first end q a d)
          | inr d ↦ heap_out (end - low) w low q (inr (omega arith)) ∙ (elim (lt_or_le q high) as (λ _. map.get w q ≡ map.get (broken m first end) q) [
            | inl x ↦ without_in (high - end) m end q d (omega arith) ∙ sym (broken_above m first end q fe d (omega arith))
            | inr x ↦ without_out (high - end) m end q (inr (omega arith)) ∙ (elim (lt_or_le q 0x70000) as (λ _. map.get m q ≡ map.get (broken m first end) q) [
              | inl y ↦ none_page (map.get m q) (h.free q (omega arith) y) ∙ sym (broken_above m first end q fe d y)
              | inr y ↦ sym (broken_far m first end q fe lim y)
            ])
          ])
        ]
      ]
    ]

-- the part that changes makes the break
pub part_broken : (base brk full bare low end high : ℕ) (m : PageMap) → IsHeap base brk full bare m → base / 4096 ≤ end → end ≤ 0x70000 → low ≡ min full end → high ≡ max bare end → with_heap_pages (without_pages m end (high - end)) low (end - low) ≡ broken m (base / 4096) end
part_broken base brk full bare low end high m h fe lim l g = same _ _ (λ q. part_broken_at base brk full bare low end high m q h fe lim l g)

pub heap_broken : (base a end : ℕ) (m new : PageMap) → base % 4096 ≡ 0 → base ≤ a → a ≤ 0x70000000 → end ≡ page_above a → new ≡ broken m (base / 4096) end → IsHeap base a end end new
heap_broken base a end m new al low high e is = record {
  aligned = al;
  low = low;
  high = high;
  first = omega arith;
  full_most = omega arith;
  bare_most = omega arith;
  mapped = λ q x y. ap (λ z. is_heap_page (rights_at z q)) is ∙ ap (λ o. is_heap_page (rights_of o)) (broken_in m (base / 4096) end q x y) ∙ becomes (map.get m q);
  free = λ q x y. ap (λ z. rights_at z q) is ∙ ap rights_of (broken_above m (base / 4096) end q (omega arith) x y);
}

-- ---- mapping first

part_lacking_at : (base brk full bare low end : ℕ) (m : PageMap) (q : ℕ) → IsHeap base brk full bare m → base / 4096 ≤ end → low ≡ min full end → map.get (with_lacking m low (end - low)) q ≡ map.get (with_lacking m (base / 4096) (end - base / 4096)) q
part_lacking_at base brk full bare low end m q h fe l =
    let first : ℕ = base / 4096 in
    let part : PageMap = with_lacking m low (end - low) in
    let whole : PageMap = with_lacking m first (end - first) in
    elim (lt_or_le q first) as (λ _. map.get part q ≡ map.get whole q) [
      | inl a ↦ lacking_out (end - low) m low q (inl (omega arith)) ∙ sym (lacking_out (end - first) m first q (inl a))
      | inr a ↦ elim (lt_or_le q low) as (λ _. map.get part q ≡ map.get whole q) [
        | inl b ↦ lacking_out (end - low) m low q (inl b) ∙ sym (zeros_keep (map.get m q) (some_page (map.get m q) (h.mapped q a (omega arith)))) ∙ sym (lacking_in (end - first) m first q a (omega arith))
        | inr b ↦ elim (lt_or_le q end) as (λ _. map.get part q ≡ map.get whole q) [
          | inl d ↦ lacking_in (end - low) m low q b (omega arith) ∙ sym (lacking_in (end - first) m first q a (omega arith))
          | inr d ↦ lacking_out (end - low) m low q (inr (omega arith)) ∙ sym (lacking_out (end - first) m first q (inr (omega arith)))
        ]
      ]
    ]

pub part_lacking : (base brk full bare low end : ℕ) (m : PageMap) → IsHeap base brk full bare m → base / 4096 ≤ end → low ≡ min full end → with_lacking m low (end - low) ≡ with_lacking m (base / 4096) (end - base / 4096)
part_lacking base brk full bare low end m h fe l = same _ _ (λ q. part_lacking_at base brk full bare low end m q h fe l)

pub heap_lacking : (base brk full bare low end high : ℕ) (m new : PageMap) → IsHeap base brk full bare m → base / 4096 ≤ end → end ≤ 0x70000 → low ≡ min full end → high ≡ max bare end → new ≡ with_lacking m low (end - low) → IsHeap base brk full high new
heap_lacking base brk full bare low end high m new h fe lim l g is = record {
  aligned = h.aligned;
  low = h.low;
  high = h.high;
  first = h.first;
  full_most = h.full_most;
  bare_most = omega arith;
  mapped = λ q x y. ap (λ z. is_heap_page (rights_at z q)) is ∙ (elim (lt_or_le q low) as (λ _. is_heap_page (rights_at (with_lacking m low (end - low)) q) ≡ true) [
    | inl a ↦ ap (λ o. is_heap_page (rights_of o)) (lacking_out (end - low) m low q (inl a)) ∙ h.mapped q x y
    | inr a ↦ ap (λ o. is_heap_page (rights_of o)) (lacking_out (end - low) m low q (inr (omega arith))) ∙ h.mapped q x y
  ]);
  free = λ q x y. ap (λ z. rights_at z q) is ∙ ap rights_of (lacking_out (end - low) m low q (inr (omega arith))) ∙ h.free q (omega arith) y;
}
