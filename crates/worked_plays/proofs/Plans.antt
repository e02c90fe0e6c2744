-- A plan is one.
use Rattle.std.proofs.Common.{◌≡◌, ◌≤◌, ◌<◌, ℕ, zero, suc, ◌+◌, Bool, true, false, cond, Option, Some, None, List, [], ◌∷◌, length, slice_get, refl, sym, ap, ◌∙◌, subst, arith, is_some}
use Rattle.std.specs.FinMap as map
use Rattle.std.specs.Ordering.{nat_cmp}
use Rattle.std.specs.Cmp.{nat_cmp_total}
use Rattle.call_table.specs.Calls.{is_signal_number}
use Rattle.node_event.specs.declared.script.Order.{Order}
use Rattle.node_event.specs.declared.script.Order.TheVariants as order
use Rattle.node_event.specs.declared.script.ScriptLine.{ScriptLine}
use Rattle.page_set.specs.Pages.{Page, PageMap}
use Rattle.user_spec.specs.User.{UserState, need_of_user}
use Rattle.node_machine.specs.Plan.{Plan, IsPlan, IsLoaded}
use Rattle.worked_plays.specs.Programs.{Memory, pages_of, image_page, stack_page, user_of, hello, hello_script, hello_plan}

one_more : (b : Bool) (n : ℕ) → cond b n (n + 1) ≤ n + 1
one_more true n = omega arith
one_more false n = omega arith

inserted : (m : PageMap) (k : ℕ) (p : Page) → map.len (map.insert m k p) ≤ map.len m + 1
inserted m k p = subst (λ (n : ℕ). n ≤ map.len m + 1) (sym (map.len-insert nat_cmp_total m k p)) (one_more (is_some (map.get m k)) (map.len m))

few_pages : (m : Memory) → map.len (pages_of m) ≤ 1024
few_pages m =
    let none : PageMap = map.empty in
    let a : map.len none ≡ 0 = map.len-empty nat_cmp Page in
    let b = inserted none 16 (image_page m.image) in
    let c = inserted (map.insert none 16 (image_page m.image)) 524287 (stack_page m.stack) in
    omega (arith, a, b, c)

the_line : (k : ℕ) (s : ScriptLine) → slice_get hello_script k ≡ Some s → record { line = 1; order = order.Run [] } ≡ s
the_line zero s e = cc
the_line (suc k) s e = absurd cc

the_user : (i : ℕ) (u : UserState) → slice_get (user_of hello ∷ []) i ≡ Some u → user_of hello ≡ u
the_user zero u e = cc
the_user (suc i) u e = absurd cc

pub hello_is : IsPlan hello_plan
hello_is = record {
  nodes = omega arith;
  quantum = omega arith;
  rising = rises;
  targets = λ k s p to e f. absurd (no_move p to (ap (λ (x : ScriptLine). x.order) (the_line k s e) ∙ f));
  signals = λ k s p g e f. absurd (no_kill p g (ap (λ (x : ScriptLine). x.order) (the_line k s e) ∙ f));
  images = refl;
  loaded = λ i u e. subst IsLoaded (the_user i u e) (record { fresh = refl; heap = refl; registers = refl; pages = few_pages hello.memory });
}
  where
    rises : (k : ℕ) (a b : ScriptLine) → slice_get hello_script k ≡ Some a → slice_get hello_script (suc k) ≡ Some b → a.line < b.line
    rises zero a b e f = absurd cc
    rises (suc k) a b e f = absurd cc

    no_move : (p to : ℕ) → order.Run [] ≡ order.Move p to → ⊥
    no_move p to e = cc

    no_kill : (p g : ℕ) → order.Run [] ≡ order.Kill p g → ⊥
    no_kill p g e = cc
