-- Whether a break can be had.
use Rattle.std.proofs.Common.{◌≡◌, ◌≢◌, ◌⊎◌, inl, inr, ℕ, ◌+◌, ◌-◌, ◌/◌, ◌<◌, ◌≤◌, refl, ap, ◌∙◌, sym, arith, Bool, true, false, nat_le, ◌&&◌, not}
use Rattle.std.proofs.lemmas.Bool.Decides.{nat_tests}
use Rattle.std.specs.Prelude.{◌==◌}
use Rattle.std.specs.FinMap as map
use Rattle.call_table.specs.declared.limit.TheConstants.{PAGES}
use Rattle.page_set.specs.Pages.{PageMap}
use Rattle.user_spec.specs.User.{UserState}
use Rattle.user_spec.specs.Request.{page_above, without_pages, pages_with_break, is_break, break_maps, lacks_page}
use Rattle.user_ctx.specs.Heap.{mapped_in, mapped_for}
use Rattle.user_ctx.proofs.Heaps.{break_len, len_at_least, lacks_tells, broken_same, lacking_all}

abbrev tests : ℕ → ℕ → ℕ → Bool
tests base a n = not (a == 0) && (nat_le base a && (nat_le a 0x70000000 && nat_le n PAGES))

tests_yes : (base a n : ℕ) → a ≢ 0 → base ≤ a → a ≤ 0x70000000 → n ≤ PAGES → tests base a n ≡ true
tests_yes base a n h i j k = grind (arith, nat_tests)

tests_many : (base a n : ℕ) → PAGES < n → tests base a n ≡ false
tests_many base a n h = grind (arith, nat_tests)

tests_tell : (base a n : ℕ) → tests base a n ≡ true → (base ≤ a) × (a ≤ 0x70000000)
tests_tell base a n h = grind (arith, nat_tests)

pub limits : (u : UserState) (a : ℕ) → is_break u a ≡ true → (u.base ≤ a) × (a ≤ 0x70000000)
limits u a h = tests_tell u.base a (map.len (pages_with_break u.pages u.base a)) h

pub page_above_most : (a : ℕ) → a ≤ 0x70000000 → page_above a ≤ 0x70000
page_above_most a h = omega arith

pub page_above_least : (base a : ℕ) → base ≤ a → base / 4096 ≤ page_above a
page_above_least base a h = omega arith

-- the pages of a break, counted before it: those of its range that lack, and those above that go
pub record IsCounted (u : UserState) (a end lacking gone count : ℕ) : Type 0 where
  pub low : u.base ≤ a
  pub high : a ≤ 0x70000000
  pub end_is : end ≡ page_above a
  pub lacking_is : lacking + mapped_in u.pages (u.base / 4096) (end - u.base / 4096) ≡ end - u.base / 4096
  pub gone_is : gone ≡ mapped_in u.pages end (0x70000 - end)
  pub gone_most : gone ≤ map.len u.pages
  pub count_is : count ≡ map.len u.pages

len_is : (u : UserState) (a end lacking gone count : ℕ) → IsCounted u a end lacking gone count → map.len (pages_with_break u.pages u.base a) ≡ count - gone + lacking
len_is u a end lacking gone count c =
    let low : u.base / 4096 ≤ end = omega arith in
    let high : end ≤ 0x70000 = omega arith in
    let l : map.len (pages_with_break u.pages u.base a) + mapped_in u.pages end (0x70000 - end) + mapped_in u.pages (u.base / 4096) (end - u.base / 4096) ≡ map.len u.pages + (end - u.base / 4096) = break_len u.pages u.base a (u.base / 4096) end refl c.end_is low high in
    omega (arith, l)

pub too_many : (u v : UserState) → u ≡ v → (a end lacking gone count : ℕ) → IsCounted u a end lacking gone count → PAGES < count - gone + lacking → is_break v a ≡ false
too_many u v is a end lacking gone count c n = ap (λ x. is_break x a) (sym is) ∙ tests_many u.base a (map.len (pages_with_break u.pages u.base a)) (omega (arith, len_is u a end lacking gone count c))

pub too_wide : (u v : UserState) → u ≡ v → (a end : ℕ) → end ≡ page_above a → PAGES < end - u.base / 4096 → is_break v a ≡ false
too_wide u v is a end e n =
    let w : PageMap = without_pages u.pages (page_above a) (0x70000 - page_above a) in
    let l : page_above a - u.base / 4096 ≤ map.len (pages_with_break u.pages u.base a) = len_at_least (page_above a - u.base / 4096) w (u.base / 4096) in
    ap (λ x. is_break x a) (sym is) ∙ tests_many u.base a (map.len (pages_with_break u.pages u.base a)) (omega (arith, l))

not_too_many : (u : UserState) (a end lacking gone count : ℕ) → IsCounted u a end lacking gone count → a ≢ 0 → count - gone + lacking ≤ PAGES → is_break u a ≡ true
not_too_many u a end lacking gone count c z n = tests_yes u.base a (map.len (pages_with_break u.pages u.base a)) z c.low c.high (omega (arith, len_is u a end lacking gone count c))

lacks_none : (b : Bool) (k n lacking : ℕ) → ((b ≡ true) × (k < n)) ⊎ ((b ≡ false) × (k ≡ n)) → lacking + k ≡ n → lacking ≡ 0 → b ≡ false
lacks_none b k n lacking (inl h) s e = absurd (omega arith)
lacks_none b k n lacking (inr h) s e = h.0

lacks_some : (b : Bool) (k n lacking : ℕ) → ((b ≡ true) × (k < n)) ⊎ ((b ≡ false) × (k ≡ n)) → lacking + k ≡ n → lacking ≢ 0 → b ≡ true
lacks_some b k n lacking (inl h) s e = h.0
lacks_some b k n lacking (inr h) s e = absurd (e (omega arith))

maps_is : (u : UserState) (a end : ℕ) (b : Bool) → end ≡ page_above a → is_break u a ≡ true → lacks_page u.pages (u.base / 4096) (end - u.base / 4096) ≡ b → break_maps u a ≡ b
maps_is u a end b e h l = ap (λ x. x && lacks_page u.pages (u.base / 4096) (page_above a - u.base / 4096)) h ∙ ap (λ x. lacks_page u.pages (u.base / 4096) (x - u.base / 4096)) (sym e) ∙ l

pub fits : (u v : UserState) → u ≡ v → (a end lacking gone count : ℕ) → IsCounted u a end lacking gone count → a ≢ 0 → count - gone + lacking ≤ PAGES → lacking ≡ 0 → (is_break v a ≡ true) × (break_maps v a ≡ false)
fits u v is a end lacking gone count c z n e =
    let b : is_break u a ≡ true = not_too_many u a end lacking gone count c z n in
    (ap (λ x. is_break x a) (sym is) ∙ b, ap (λ x. break_maps x a) (sym is) ∙ maps_is u a end false c.end_is b (lacks_none _ _ _ lacking (lacks_tells (end - u.base / 4096) u.pages (u.base / 4096)) c.lacking_is e))

pub maps : (u v : UserState) → u ≡ v → (a end lacking gone count : ℕ) → IsCounted u a end lacking gone count → a ≢ 0 → count - gone + lacking ≤ PAGES → lacking ≢ 0 → (is_break v a ≡ true) × (break_maps v a ≡ true)
maps u v is a end lacking gone count c z n e =
    let b : is_break u a ≡ true = not_too_many u a end lacking gone count c z n in
    (ap (λ x. is_break x a) (sym is) ∙ b, ap (λ x. break_maps x a) (sym is) ∙ maps_is u a end true c.end_is b (lacks_some _ _ _ lacking (lacks_tells (end - u.base / 4096) u.pages (u.base / 4096)) c.lacking_is e))

-- ---- mapping first

pub same_pages : (u : UserState) (a : ℕ) → is_break u a ≡ true → pages_with_break (mapped_for u a).pages u.base a ≡ pages_with_break u.pages u.base a
same_pages u a h =
    let l : (u.base ≤ a) × (a ≤ 0x70000000) = limits u a h in
    broken_same u.pages (u.base / 4096) (page_above a) (page_above_least u.base a l.0) (page_above_most a l.1)

pub break_after : (u : UserState) (a : ℕ) → is_break u a ≡ true → is_break (mapped_for u a) a ≡ true
break_after u a h = ap (λ x. tests u.base a (map.len x)) (same_pages u a h) ∙ h

pub fits_after : (u v : UserState) (a : ℕ) → is_break u a ≡ true → v ≡ mapped_for u a → (is_break v a ≡ true) × (break_maps v a ≡ false)
fits_after u v a h is =
    let b : is_break (mapped_for u a) a ≡ true = break_after u a h in
    let m : break_maps (mapped_for u a) a ≡ false = ap (λ x. x && lacks_page (mapped_for u a).pages (u.base / 4096) (page_above a - u.base / 4096)) b ∙ lacking_all u.pages (u.base / 4096) (page_above a - u.base / 4096) in
    (ap (λ x. is_break x a) is ∙ b, ap (λ x. break_maps x a) is ∙ m)

pub lacks_not : (u : UserState) (a : ℕ) → (is_break u a ≡ true) × (break_maps u a ≡ false) → lacks_page u.pages (u.base / 4096) (page_above a - u.base / 4096) ≡ false
lacks_not u a h = sym (ap (λ x. x && lacks_page u.pages (u.base / 4096) (page_above a - u.base / 4096)) h.0) ∙ h.1
