-- The pages that segments touch, mapped segment after segment.
use Rattle.std.proofs.Common.{◌≡◌, ◌≢◌, ◌⊎◌, inl, inr, ℕ, zero, suc, ◌+◌, ◌-◌, ◌*◌, ◌/◌, ◌^◌, ◌<◌, ◌≤◌, List, [], ◌∷◌, refl, ap, ◌∙◌, sym, arith, Bool, cond, true, false, ◌&&◌, ◌||◌, nat_le, nat_lt, Option, Some, None, length, take, drop, get_or, subst}
use Rattle.std.specs.Ordering.{nat_cmp}
use Rattle.std.specs.Cmp.{nat_cmp_total}
use Rattle.std.specs.List.{list_any}
use Rattle.std.specs.FinMap as map
use Rattle.std.proofs.lemmas.List.{take_all}
use Rattle.std.proofs.lemmas.List.Folds.{list_any_more, list_any_at}
use Rattle.std.proofs.lemmas.Bool.Decides.{eqb_tells, nat_tests}
use Rattle.page_set.specs.Pages.{Page, PageMap}
use Rattle.elf_load.specs.declared.image.Header.{Header}
use Rattle.user_spec.specs.Request.{page_above}
use Rattle.elf_load.specs.Image.{is_segment, end_of, touches, touched, is_stack_page, is_start_page, is_out_of_range, start_page, pages_below}
use Rattle.elf_load.specs.Parts.{from_to, IsPart, Added, IsWhole}
use Rattle.elf_load.proofs.Maps.{get_below, get_above}

false_true : false ≡ true → ⊥
false_true e = cc

and_left : (a b : Bool) → (a && b) ≡ true → a ≡ true
and_left true b e = refl
and_left false b e = e

or_cases : (a b : Bool) → (a || b) ≡ true → (a ≡ true) ⊎ (b ≡ true)
or_cases true b e = inl refl
or_cases false b e = inr e

or_second : (a b : Bool) → b ≡ true → (a || b) ≡ true
or_second true b e = refl
or_second false b e = e

or_first : (a b : Bool) → a ≡ true → (a || b) ≡ true
or_first true b e = refl
or_first false b e = absurd (false_true e)

-- ---- one segment

pub touch_none : (f : ℕ → Option Page) (m : PageMap) (h : Header) → IsPart f m → is_segment h ≡ false → Added f (touches h) m m
touch_none f m h part none = record {
  part = part;
  done = λ q is. absurd (false_true (sym none ∙ and_left (is_segment h) _ is));
  kept = λ q is. is;
}

second_of : (a b : Bool) → a ≡ true → (a && b) ≡ b
second_of true b e = refl
second_of false b e = absurd (false_true e)

pub touch_all : (f : ℕ → Option Page) (old new : PageMap) (h : Header) → is_segment h ≡ true → Added f (from_to (h.addr / 4096) (page_above (end_of h))) old new → Added f (touches h) old new
touch_all f old new h is a = record {
  part = a.part;
  done = λ q t. a.done q (sym (second_of (is_segment h) (from_to (h.addr / 4096) (page_above (end_of h)) q) is) ∙ t);
  kept = a.kept;
}

range_end : (s low : Bool) (e : ℕ) → (s && (low || nat_lt 0x70000000 e)) ≡ false → s ≡ true → e ≤ 0x70000000
range_end s low e out is = grind (arith, nat_tests)

pub end_within : (h : Header) → is_out_of_range h ≡ false → is_segment h ≡ true → end_of h ≤ 0x70000000
end_within h out is = range_end (is_segment h) (nat_lt h.addr 0x1000) (end_of h) out is

in_between : (a b q : ℕ) → a ≤ q → q < b → (nat_le a q && nat_lt q b) ≡ true
in_between a b q low high = grind (arith, nat_tests)

pub is_touched : (h : Header) (q : ℕ) → is_segment h ≡ true → h.addr / 4096 ≤ q → q < page_above (end_of h) → touches h q ≡ true
is_touched h q is low high = second_of (is_segment h) _ is ∙ in_between (h.addr / 4096) (page_above (end_of h)) q low high

-- ---- all segments

pub touched_none : (f : ℕ → Option Page) (m : PageMap) → IsPart f m → Added f (touched []) m m
touched_none f m part = record { part = part; done = λ q is. absurd (false_true is); kept = λ q is. is }

pub touched_more : (f : ℕ → Option Page) (old mid new : PageMap) (hs : List Header) (i : ℕ) (d : Header) → i < length hs → Added f (touched (take i hs)) old mid → Added f (touches (get_or hs i d)) mid new → Added f (touched (take (i + 1) hs)) old new
touched_more f old mid new hs i d lt a b = record {
  part = b.part;
  done = λ q is. elim (or_cases (touched (take i hs) q) (touches (get_or hs i d) q) (sym (list_any_more (λ h. touches h q) hs i d lt) ∙ is)) as (λ _. map.get new q ≡ f q) [
    | inl before ↦ b.kept q (a.done q before)
    | inr now ↦ b.done q now
  ];
  kept = λ q is. b.kept q (a.kept q is);
}

pub touched_all : (f : ℕ → Option Page) (old new : PageMap) (hs : List Header) (i : ℕ) → length hs ≤ i → Added f (touched (take i hs)) old new → Added f (touched hs) old new
touched_all f old new hs i le a = let P : List Header → Type 0 = λ l. Added f (touched l) old new in subst P (take_all i hs le) a

none_true : (b : Bool) → (b ≡ true → ⊥) → b ≡ false
none_true true h = absurd (h refl)
none_true false h = refl

true_false : true ≡ false → ⊥
true_false e = cc

pub in_range : (hs : List Header) (i : ℕ) (d : Header) → i < length hs → list_any is_out_of_range hs ≡ false → is_out_of_range (get_or hs i d) ≡ false
in_range hs i d lt none = none_true (is_out_of_range (get_or hs i d)) (λ e. true_false (sym (list_any_at is_out_of_range hs i d lt e) ∙ none))

pub start_of : (hs : List Header) (i : ℕ) (d : Header) (q : ℕ) → i < length hs → touches (get_or hs i d) q ≡ true → is_start_page hs q ≡ true
start_of hs i d q lt t = or_second (is_stack_page q) (touched hs q) (list_any_at (λ h. touches h q) hs i d lt t)

-- ---- the whole

pub empty_part : (f : ℕ → Option Page) (m : PageMap) → m ≡ map.empty → IsPart f m
empty_part f m e = record {
  each = λ q. inl (ap (λ x. map.get x q) e ∙ map.get-empty nat_cmp q);
  few = omega (arith, ap map.len e ∙ map.len-empty nat_cmp Page);
}

pub stack_start : (hs : List Header) (q : ℕ) → 0x7fff0 ≤ q → q < 0x80000 → is_start_page hs q ≡ true
stack_start hs q low high = or_first (is_stack_page q) (touched hs q) (in_between 0x7fff0 0x80000 q low high)

lt_or_le : (q n : ℕ) → (q < n) ⊎ (n ≤ q)
lt_or_le q n = grind arith

-- a page that is done, or that the function does not have
done_or_none : (b : Bool) (o p : Option Page) → (b ≡ true → o ≡ p) → (b ≡ false → p ≡ None) → (lt : Type 0) → (o ≡ None) ⊎ (lt × (o ≡ p)) → o ≡ p
done_or_none true o p done none lt fine = done refl
done_or_none false o p done none lt (inl e) = e ∙ sym (none refl)
done_or_none false o p done none lt (inr e) = e.1

above_none : (f : ℕ → Option Page) (m : PageMap) (q : ℕ) → 2 ^ 20 ≤ q → (map.get m q ≡ None) ⊎ ((q < 2 ^ 20) × (map.get m q ≡ f q)) → map.get m q ≡ None
above_none f m q h (inl e) = e
above_none f m q h (inr e) = let no = e.0 in absurd (omega arith)

either : (f : ℕ → Option Page) (empty mid new : PageMap) (hs : List Header) (q : ℕ) → Added f (from_to 0x7fff0 0x80000) empty mid → Added f (touched hs) mid new → is_start_page hs q ≡ true → map.get new q ≡ f q
either f empty mid new hs q a b is =
    elim (or_cases (is_stack_page q) (touched hs q) is) as (λ _. map.get new q ≡ f q) [
      | inl s ↦ b.kept q (a.done q s)
      | inr t ↦ b.done q t
    ]

no_page : (file : List ℕ) (hs : List Header) (before : ℕ → ℕ) (q : ℕ) → is_start_page hs q ≡ false → start_page file hs before q ≡ None
no_page file hs before q e = rw e refl

pub whole_is : (file : List ℕ) (hs : List Header) (before : ℕ → ℕ) (empty mid new : PageMap) → Added (start_page file hs before) (from_to 0x7fff0 0x80000) empty mid → Added (start_page file hs before) (touched hs) mid new → IsWhole (start_page file hs before) new
whole_is file hs before empty mid new a b =
    let f = start_page file hs before in
    record {
      whole = map.same_map nat_cmp_total map.nat_cmp-IsAntisymmetric new (pages_below f (2 ^ 20)) (λ q.
          elim (lt_or_le q (2 ^ 20)) as (λ _. map.get new q ≡ map.get (pages_below f (2 ^ 20)) q) [
            | inl lt ↦ done_or_none (is_start_page hs q) (map.get new q) (f q) (either f empty mid new hs q a b) (no_page file hs before q) (q < 2 ^ 20) (b.part.each q) ∙ sym (get_below f (2 ^ 20) q lt)
            | inr le ↦ above_none f new q le (b.part.each q) ∙ sym (get_above f (2 ^ 20) q le)
          ]);
      few = b.part.few;
    }
