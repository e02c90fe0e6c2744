-- A process whose break is moved.
use Rattle.std.proofs.Common.{◌≡◌, ℕ, ◌-◌, ◌/◌, ◌≤◌, ap, ◌∙◌, sym, arith, true, false, min, max}
use Rattle.page_set.specs.Pages.{PageMap}
use Rattle.user_spec.specs.User.{UserState}
use Rattle.user_spec.specs.Request.{page_above, without_pages, with_heap_pages, lacks_page, is_break, break_maps, with_break}
use Rattle.user_ctx.specs.Heap.{with_lacking, broken, IsHeap, mapped_for}
use Rattle.user_ctx.proofs.Breaks.{limits, lacks_not}
use Rattle.user_ctx.proofs.Calls.{broken_is}
use Rattle.user_ctx.proofs.Known.{part_there, part_broken, heap_broken, part_lacking, heap_lacking}

-- what a break that can be had tells
pub record IsAt (u : UserState) (a end : ℕ) : Type 0 where
  pub low : u.base ≤ a
  pub high : a ≤ 0x70000000
  pub first : u.base / 4096 ≤ end
  pub most : end ≤ 0x70000

pub is_at : (u v : UserState) (a end : ℕ) → u ≡ v → is_break v a ≡ true → end ≡ page_above a → IsAt u a end
is_at u v a end is h e =
    let l : (u.base ≤ a) × (a ≤ 0x70000000) = limits u a (ap (λ x. is_break x a) is ∙ h) in
    record { low = l.0; high = l.1; first = omega arith; most = omega arith }

-- ---- mapping

pub mapped_heap : (u v : UserState) (full bare a end low high : ℕ) (new : PageMap) → u ≡ v → is_break v a ≡ true → end ≡ page_above a → low ≡ min full end → high ≡ max bare end → IsHeap u.base u.brk full bare u.pages → new ≡ with_lacking u.pages low (end - low) → IsHeap u.base u.brk full high new
mapped_heap u v full bare a end low high new is h e l g known n =
    let at : IsAt u a end = is_at u v a end is h e in
    heap_lacking u.base u.brk full bare low end high u.pages new known at.first at.most l g n

pub mapped_is : (u v : UserState) (full bare a end low : ℕ) (new : PageMap) → u ≡ v → is_break v a ≡ true → end ≡ page_above a → low ≡ min full end → IsHeap u.base u.brk full bare u.pages → new ≡ with_lacking u.pages low (end - low) → record u { pages = new } ≡ mapped_for v a
mapped_is u v full bare a end low new is h e l known n =
    let at : IsAt u a end = is_at u v a end is h e in
    ap (λ p. let x : UserState = record u { pages = p } in x) (n ∙ part_lacking u.base u.brk full bare low end u.pages known at.first l ∙ ap (λ k. with_lacking u.pages (u.base / 4096) (k - u.base / 4096)) e)
    ∙ ap (λ x. mapped_for x a) is

-- ---- the break

pub moved_there : (u v : UserState) (full bare a end low : ℕ) → u ≡ v → (is_break v a ≡ true) × (break_maps v a ≡ false) → end ≡ page_above a → low ≡ min full end → IsHeap u.base u.brk full bare u.pages → lacks_page u.pages low (end - low) ≡ false
moved_there u v full bare a end low is h e l known =
    let at : IsAt u a end = is_at u v a end is h.0 e in
    let k : lacks_page u.pages (u.base / 4096) (page_above a - u.base / 4096) ≡ false = lacks_not u a (ap (λ x. is_break x a) is ∙ h.0, ap (λ x. break_maps x a) is ∙ h.1) in
    part_there u.pages (u.base / 4096) full low end known.first at.first l (ap (λ x. lacks_page u.pages (u.base / 4096) (x - u.base / 4096)) e ∙ k)

moved_broken : (u v : UserState) (full bare a end low high : ℕ) (new : PageMap) → u ≡ v → is_break v a ≡ true → end ≡ page_above a → low ≡ min full end → high ≡ max bare end → IsHeap u.base u.brk full bare u.pages → new ≡ with_heap_pages (without_pages u.pages end (high - end)) low (end - low) → new ≡ broken u.pages (u.base / 4096) end
moved_broken u v full bare a end low high new is h e l g known n =
    let at : IsAt u a end = is_at u v a end is h e in
    n ∙ part_broken u.base u.brk full bare low end high u.pages known at.first at.most l g

pub moved_heap : (u v : UserState) (full bare a end low high : ℕ) (new : PageMap) → u ≡ v → is_break v a ≡ true → end ≡ page_above a → low ≡ min full end → high ≡ max bare end → IsHeap u.base u.brk full bare u.pages → new ≡ with_heap_pages (without_pages u.pages end (high - end)) low (end - low) → IsHeap u.base a end end new
moved_heap u v full bare a end low high new is h e l g known n =
    let at : IsAt u a end = is_at u v a end is h e in
    heap_broken u.base a end u.pages new known.aligned at.low at.high e (moved_broken u v full bare a end low high new is h e l g known n)

pub moved_is : (u v : UserState) (full bare a end low high : ℕ) (new : PageMap) → u ≡ v → is_break v a ≡ true → end ≡ page_above a → low ≡ min full end → high ≡ max bare end → IsHeap u.base u.brk full bare u.pages → new ≡ with_heap_pages (without_pages u.pages end (high - end)) low (end - low) → record u { pages = new; brk = a } ≡ with_break v a
moved_is u v full bare a end low high new is h e l g known n =
    ap (λ p. let x : UserState = record u { pages = p; brk = a } in x) (moved_broken u v full bare a end low high new is h e l g known n ∙ ap (broken u.pages (u.base / 4096)) e)
    ∙ sym (broken_is u a (ap (λ x. is_break x a) is ∙ h))
    ∙ ap (λ x. with_break x a) is
