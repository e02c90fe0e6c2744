-- What holds of every home holds after a turn.
use Rattle.std.proofs.Common.{◌≡◌, ◌≢◌, ◌⊎◌, inl, inr, ℕ, zero, suc, ◌+◌, ◌<◌, ◌≤◌, ◌==◌, ◌&&◌, ◌||◌, not, cond, min, nat_le, Bool, true, false, List, [], ◌∷◌, ◌++◌, length, Option, Some, None, is_some, is_none, slice_get, slice_index, refl, ap, sym, subst, ◌∙◌, arith}
use Rattle.std.specs.Option.{option_map, option_map_or}
use Rattle.std.proofs.lemmas.Bool.{cases_eq}
use Rattle.std.proofs.lemmas.Bool.Decides.{nat_tests}
use Rattle.std.proofs.lemmas.List.{length_push, length-set}
use Rattle.std.proofs.lemmas.Option.{slice_get_past, slice_get_within}
use Rattle.call_table.specs.declared.request.Request.{Request}
use Rattle.call_table.specs.declared.request.Answer.{Answer}
use Rattle.call_table.specs.declared.request.Kind.{Kind}
use Rattle.call_table.specs.declared.request.Kind.TheVariants.{Plain, Fork, Return}
use Rattle.call_table.specs.declared.process.End.TheVariants as ends
use Rattle.proc_tree.specs.declared.process.Process.{Process}
use Rattle.proc_tree.specs.Processes.{is_live as is_live_process}
use Rattle.proc_tree.specs.Tree.{live_at}
use Rattle.kernel_spec.specs.Pids.{at_pid, set_pid, replaced_pid, changed_pid}
use Rattle.kernel_spec.specs.Kernel.{KernelState, Called, AfterTake, Input, given, is_live, with_end, with_raised, with_process, deliverable, take_result}
use Rattle.kernel_spec.specs.Calls.{call_result}
use Rattle.kernel_spec.specs.Others.{LeavesOthers, LeavesProcesses, is_at, child_after, counted as counted_pids}
use Rattle.kernel_spec.proofs.PlaceLemmas.{changed_other, changed_here, at_push, at_last}
use Rattle.kernel_spec.proofs.CallFacts.{end_leaves, call_leaves}
use Rattle.kernel_spec.proofs.KernelFacts.{none_at_zero, take_leaves, given_raise, live_raise, given_launch, live_launch}
use Rattle.user_spec.specs.Fits.{fits_request}
use Rattle.deputy.specs.declared.row.Row.{Row}
use Rattle.deputy.specs.declared.row.HeldCall.{HeldCall}
use Rattle.deputy.specs.declared.asks.Asks.{Asks}
use Rattle.deputy.specs.Rows.{HomeState, held_of, held_at, new_row, holding, counted, moved, is_fork_kind, is_fork, with_born}
use Rattle.deputy.specs.Calls.{Turned, First, did, broke, fell, paused, broken_by, first_by, first_of, last_by, last_of, counted_rows, served_rows, answered, call_asks, pause_asks, held_turn, call_turn, fits_call, may_ask, next_ready}
use Rattle.deputy.specs.Moves.{landed_rows, told_turn, killed_in}
use Rattle.deputy.specs.Rules.{CanWait, IsHome}

-- ---- lists

length-replaced : {A : Type 0} (xs : List A) (p : ℕ) (o : Option A) → length (replaced_pid xs p o) ≡ length xs
length-replaced xs p None = refl
length-replaced xs zero (Some x) = refl
length-replaced xs (suc i) (Some x) = length-set xs i x

length-changed : {A : Type 0} (change : A → A) (xs : List A) (p : ℕ) → length (changed_pid change xs p) ≡ length xs
length-changed change xs p = length-replaced xs p (option_map change (at_pid xs p))

abbrev pub one_if : Bool → ℕ
one_if true = 1
one_if false = 0

length-born : (forked : Bool) (from : ℕ) (rows : List Row) → length (with_born forked from rows) ≡ length rows + one_if forked
length-born true from rows = length_push rows (new_row from)
length-born false from rows = same_and_none (length rows)
  where
    same_and_none : (n : ℕ) → n ≡ n + 0
    same_and_none n = omega arith

length-counted : (number : Option ℕ) (p : ℕ) (rows : List Row) → length (counted_rows number p rows) ≡ length rows
length-counted None p rows = refl
length-counted (Some n) p rows = length-changed counted rows p

both : (a b : Bool) → (a && b) ≡ true → (a ≡ true) × (b ≡ true)
both true true h = (refl, refl)
both true false h = absurd (cc)
both false b h = absurd (cc)

none_is : {A : Type 0} (o : Option A) → is_none o ≡ true → o ≡ None
none_is None h = refl
none_is (Some x) h = absurd (cc)

-- ---- whose calls wait

-- a row more holds no call
held_born : (forked : Bool) (from : ℕ) (rows : List Row) (q : ℕ) (call : HeldCall) → held_at (with_born forked from rows) q ≡ Some call → held_at rows q ≡ Some call
held_born false from rows q call h = h
held_born true from rows q call h = by_place (cases_eq q (length rows + 1))
  where
    by_place : (q ≡ length rows + 1) ⊎ (q ≢ length rows + 1) → held_at rows q ≡ Some call
    by_place (inl e) =
        let last : held_at (rows ++ new_row from ∷ []) q ≡ None = ap (held_at (rows ++ new_row from ∷ [])) e ∙ ap held_of (at_last rows (new_row from)) in
        absurd (cc)
    by_place (inr ne) = ap held_of (sym (at_push rows (new_row from) q ne)) ∙ h

counted_holds_none : (o : Option Row) → held_of (option_map counted o) ≡ None
counted_holds_none None = refl
counted_holds_none (Some row) = refl

-- after one is served, the others that wait are the same
held_others : (number : Option ℕ) (p : ℕ) (rows : List Row) (q : ℕ) (call : HeldCall) → (number ≡ None → held_at rows p ≡ None)
    → held_at (counted_rows number p rows) q ≡ Some call → (q ≢ p) × (held_at rows q ≡ Some call)
held_others None p rows q call free h =
    let none : held_at rows p ≡ None = free refl in
    ((λ e. absurd (let here : held_at rows q ≡ None = ap (held_at rows) e ∙ none in cc)), h)
held_others (Some n) p rows q call free h = by_place (cases_eq q p)
  where
    by_place : (q ≡ p) ⊎ (q ≢ p) → (q ≢ p) × (held_at rows q ≡ Some call)
    by_place (inl e) =
        let none : held_at (changed_pid counted rows p) q ≡ None = ap (held_at (changed_pid counted rows p)) e ∙ (ap held_of (changed_here counted rows p) ∙ counted_holds_none (at_pid rows p)) in
        absurd (cc)
    by_place (inr ne) = (ne, ap held_of (sym (changed_other counted rows p q ne)) ∙ h)

-- ---- who lives

-- what a step of p keeps: one more pid where it made a child, and whoever else lives
pub record Keeps (k new : KernelState) (p : ℕ) (forked : Bool) : Type 0 where
  pub count : given new ≡ given k + one_if forked
  pub live : (q : ℕ) → q ≢ p → is_live k q ≡ true → is_live new q ≡ true

past_dead : (tree : List Process) → live_at tree (length tree + 1) ≡ false
past_dead tree =
    let e : length tree + 1 ≡ suc (length tree) = omega arith in
    let none : slice_get tree (length tree) ≡ None = slice_get_past tree (length tree) (omega arith) in
    ap (live_at tree) e ∙ ap (λ o. option_map_or is_live_process o false) none

no_child : (k : KernelState) (q : ℕ) → is_live k q ≡ true → (given k + 1 == q) ≡ false
no_child k q h = by_place (cases_eq q (given k + 1))
  where
    by_place : (q ≡ given k + 1) ⊎ (q ≢ given k + 1) → (given k + 1 == q) ≡ false
    by_place (inl e) = let dead : is_live k q ≡ false = ap (is_live k) e ∙ past_dead k.processes.tree in absurd (cc)
    by_place (inr ne) = grind (arith, nat_tests)

kept_none : (k new : KernelState) (p : ℕ) (raised : Option ℕ) → LeavesOthers k new p None raised → Keeps k new p false
kept_none k new p raised l = record {
  count = l.count ∙ omega arith;
  live = λ q ne h. l.live q ne refl ∙ h;
}

kept_same : (k : KernelState) (p : ℕ) → Keeps k k p false
kept_same k p = record { count = omega arith; live = λ q ne h. h }

kept_by : (kind : Kind) (k new : KernelState) (p : ℕ) (raised : Option ℕ) → LeavesOthers k new p (child_after kind (given k)) raised → Keeps k new p (is_fork_kind kind)
kept_by Plain k new p raised l = kept_none k new p raised l
kept_by Return k new p raised l = kept_none k new p raised l
kept_by Fork k new p raised l = record {
  count = l.count;
  live = λ q ne h. l.live q ne (no_child k q h) ∙ h;
}

called_keeps : (k : KernelState) (p : ℕ) (r : Request) (called : Called) → call_result k p r ≡ Some called → Keeps k called.kernel p (is_fork_kind called.answer.kind)
called_keeps k p r called h = let l = call_leaves k p r called h in kept_by called.answer.kind k called.kernel p called.raised l.others

abbrev pub KeepsFirst : KernelState → ℕ → Option First → Type 0
KeepsFirst k p None = Unit {0}
KeepsFirst k p (Some first) = Keeps k first.kernel p (is_fork first.answer)

pub first_keeps : (k : KernelState) (p : ℕ) (r : Request) → KeepsFirst k p (first_of k p r)
first_keeps k p r = by_number (r.number == 0)
  where
    by_signal : (o : Option ℕ) → KeepsFirst k p (broken_by o k)
    by_signal None = tt
    by_signal (Some s) = kept_same k p

    by_called : (o : Option Called) → call_result k p r ≡ o → KeepsFirst k p (first_by o k p)
    by_called None h = by_signal (deliverable k p)
    by_called (Some called) h = called_keeps k p r called h

    by_number : (b : Bool) → KeepsFirst k p (cond b (Some (fell k p (slice_index r.args 0))) (first_by (call_result k p r) k p))
    by_number true = kept_none k _ p _ (end_leaves k p (ends.Signal (slice_index r.args 0)))
    by_number false = by_called (call_result k p r) refl

last_keeps : (k : KernelState) (p : ℕ) (room : Bool) → Keeps k (last_of k p room).kernel p false
last_keeps k p room = by_taken (take_result k p room) refl
  where
    by_taken : (o : Option AfterTake) → take_result k p room ≡ o → Keeps k (last_by o k).kernel p false
    by_taken None h = kept_same k p
    by_taken (Some after) h = kept_none k after.kernel p after.raised (take_leaves k p room after h)

then_keeps : (k mid new : KernelState) (p : ℕ) (forked : Bool) → Keeps k mid p forked → Keeps mid new p false → Keeps k new p forked
then_keeps k mid new p forked a b = record {
  count = let x = a.count in let y = b.count in omega (arith, x, y);
  live = λ q ne h. b.live q ne (a.live q ne h);
}

-- ---- homes

served_home : (k new : KernelState) (rows : List Row) (settled : Bool) (asks : Asks) (answer : Option Answer) → IsHome k rows settled → Keeps k new asks.pid (is_fork answer)
    → (asks.number ≡ None → held_at rows asks.pid ≡ None) → IsHome new (served_rows asks answer rows) false
served_home k new rows settled asks answer h keeps free = record {
  each =
      let a = length-counted asks.number asks.pid (with_born (is_fork answer) asks.from rows) in
      let b = length-born (is_fork answer) asks.from rows in
      let c = h.each in
      let d = keeps.count in
      omega (arith, a, b, c, d);
  held = λ q call is.
      let others = held_others asks.number asks.pid (with_born (is_fork answer) asks.from rows) q call (free_born (is_fork answer)) is in
      let waits = h.held q call (held_born (is_fork answer) asks.from rows q call others.1) in
      record { live = keeps.live q others.0 waits.live; call = waits.call; fits = waits.fits };
  rests = λ e. absurd (cc);
}
  where
    none_born : (forked : Bool) → held_at rows asks.pid ≡ None → held_at (with_born forked asks.from rows) asks.pid ≡ None
    none_born forked e = by_held (held_at (with_born forked asks.from rows) asks.pid) refl
      where
        by_held : (o : Option HeldCall) → held_at (with_born forked asks.from rows) asks.pid ≡ o → o ≡ None
        by_held None is = refl
        by_held (Some call) is = let was = held_born forked asks.from rows asks.pid call is in absurd (cc)

    free_born : (forked : Bool) → asks.number ≡ None → held_at (with_born forked asks.from rows) asks.pid ≡ None
    free_born forked e = none_born forked (free e)

pub answered_home : (k : KernelState) (rows : List Row) (settled : Bool) (asks : Asks) (first : First) → IsHome k rows settled → Keeps k first.kernel asks.pid (is_fork first.answer)
    → (asks.number ≡ None → held_at rows asks.pid ≡ None) → IsHome (answered asks first rows).home.kernel (answered asks first rows).home.rows false
answered_home k rows settled asks first h keeps free =
    served_home k (last_of first.kernel asks.pid asks.room).kernel rows settled asks first.answer h
    (then_keeps k first.kernel (last_of first.kernel asks.pid asks.room).kernel asks.pid (is_fork first.answer) keeps (last_keeps first.kernel asks.pid asks.room)) free

-- a call more waits
holding_held : (call : HeldCall) (o : Option Row) (is : HeldCall) → held_of (option_map (holding call) o) ≡ Some is → is ≡ call
holding_held call None is h = absurd (cc)
holding_held call (Some row) is h = cc

held_home : (k : KernelState) (rows : List Row) (settled : Bool) (p : ℕ) (call : HeldCall) → IsHome k rows settled → CanWait k p call.request → IsHome k (changed_pid (holding call) rows p) false
held_home k rows settled p call h waits = record {
  each = length-changed (holding call) rows p ∙ h.each;
  held = λ q other is. by_place q other is (cases_eq q p);
  rests = λ e. absurd (cc);
}
  where
    by_place : (q : ℕ) (other : HeldCall) → held_at (changed_pid (holding call) rows p) q ≡ Some other → (q ≡ p) ⊎ (q ≢ p) → CanWait k q other.request
    by_place q other is (inl e) =
        let here : held_of (option_map (holding call) (at_pid rows p)) ≡ Some other = ap held_of (sym (changed_here (holding call) rows p)) ∙ (ap (held_at (changed_pid (holding call) rows p)) (sym e) ∙ is) in
        let same : other ≡ call = holding_held call (at_pid rows p) other here in
        subst (λ n. CanWait k n other.request) (sym e) (subst (λ (c : HeldCall). CanWait k p c.request) (sym same) waits)
    by_place q other is (inr ne) = h.held q other (ap held_of (sym (changed_other (holding call) rows p q ne)) ∙ is)

-- a call that is to wait is no fault
waits_call : (k : KernelState) (p : ℕ) (r : Request) → first_of k p r ≡ None → (r.number == 0) ≡ false
waits_call k p r h = by_number (r.number == 0) h
  where
    by_number : (b : Bool) → cond b (Some (fell k p (slice_index r.args 0))) (first_by (call_result k p r) k p) ≡ None → b ≡ false
    by_number true h = absurd (cc)
    by_number false h = refl

pub called_home : (h : HomeState) (settled : Bool) (from pid : ℕ) (r : Request) (t : Turned) → IsHome h.kernel h.rows settled → fits_call h pid r ≡ true
    → call_turn (first_of h.kernel pid r) h from pid r ≡ t → IsHome t.home.kernel t.home.rows false
called_home h settled from pid r t is fits e = subst (λ (x : Turned). IsHome x.home.kernel x.home.rows false) e (by_first (first_of h.kernel pid r) refl (first_keeps h.kernel pid r))
  where
    by_first : (o : Option First) → first_of h.kernel pid r ≡ o → KeepsFirst h.kernel pid o → IsHome (call_turn o h from pid r).home.kernel (call_turn o h from pid r).home.rows false
    by_first None none keeps =
        let parts = both (may_ask h pid) (fits_request r) fits in
        let live = both (is_live h.kernel pid) (is_none (held_at h.rows pid)) parts.0 in
        held_home h.kernel h.rows settled pid (record { from = from; request = r }) is (record { live = live.0; call = waits_call h.kernel pid r none; fits = parts.1 })
    by_first (Some first) some keeps = answered_home h.kernel h.rows settled (call_asks from pid r) first is keeps (λ e. absurd (cc))

pub paused_home : (h : HomeState) (settled : Bool) (from pid : ℕ) (room : Bool) (t : Turned) → IsHome h.kernel h.rows settled → may_ask h pid ≡ true
    → answered (pause_asks from pid room) (paused h.kernel) h.rows ≡ t → IsHome t.home.kernel t.home.rows false
paused_home h settled from pid room t is fits e =
    subst (λ (x : Turned). IsHome x.home.kernel x.home.rows false) e
    (answered_home h.kernel h.rows settled (pause_asks from pid room) (paused h.kernel) is (kept_same h.kernel pid) (λ none. none_is (held_at h.rows pid) (both (is_live h.kernel pid) (is_none (held_at h.rows pid)) fits).1))

-- ---- what is typed, raised, launched or told

pub unsettled : (k : KernelState) (rows : List Row) (settled : Bool) → IsHome k rows settled → IsHome k rows false
unsettled k rows settled h = record { each = h.each; held = h.held; rests = λ e. absurd (cc) }

pub input_home : (k : KernelState) (input : Input) (rows : List Row) (settled : Bool) → IsHome k rows settled → IsHome (record k { input = input }) rows false
input_home k input rows settled h = record {
  each = h.each;
  held = λ q call is. let w = h.held q call is in record { live = w.live; call = w.call; fits = w.fits };
  rests = λ e. absurd (cc);
}

pub raised_home : (k : KernelState) (rows : List Row) (settled : Bool) (pid signal : ℕ) → IsHome k rows settled → IsHome (with_raised k pid signal) rows false
raised_home k rows settled pid signal h = record {
  each = h.each ∙ sym (given_raise k pid signal);
  held = λ q call is. let w = h.held q call is in record { live = live_raise k pid signal q ∙ w.live; call = w.call; fits = w.fits };
  rests = λ e. absurd (cc);
}

not_next : (k : KernelState) (q : ℕ) → is_live k q ≡ true → q ≢ given k + 1
not_next k q h e = let dead : is_live k q ≡ false = ap (is_live k) e ∙ past_dead k.processes.tree in absurd (cc)

pub launched_home : (k : KernelState) (rows : List Row) (settled : Bool) → IsHome k rows settled → IsHome (with_process k) (rows ++ new_row 0 ∷ []) false
launched_home k rows settled h = record {
  each = let a = length_push rows (new_row 0) in let b = h.each in let c = given_launch k in omega (arith, a, b, c);
  held = λ q call is.
      let w = h.held q call (held_born true 0 rows q call is) in
      record { live = live_launch k q (not_next k q w.live) ∙ w.live; call = w.call; fits = w.fits };
  rests = λ e. absurd (cc);
}

moved_holds : (place hops : ℕ) (o : Option Row) → held_of (option_map (moved place hops) o) ≡ held_of o
moved_holds place hops None = refl
moved_holds place hops (Some row) = refl

held_moved : (rows : List Row) (pid place hops q : ℕ) → held_at (changed_pid (moved place hops) rows pid) q ≡ held_at rows q
held_moved rows pid place hops q = by_place (cases_eq q pid)
  where
    by_place : (q ≡ pid) ⊎ (q ≢ pid) → held_at (changed_pid (moved place hops) rows pid) q ≡ held_at rows q
    by_place (inl e) = ap (held_at (changed_pid (moved place hops) rows pid)) e ∙ (ap held_of (changed_here (moved place hops) rows pid) ∙ (moved_holds place hops (at_pid rows pid) ∙ ap (held_at rows) (sym e)))
    by_place (inr ne) = ap held_of (changed_other (moved place hops) rows pid q ne)

moved_home : (k : KernelState) (rows : List Row) (settled : Bool) (pid place hops : ℕ) → IsHome k rows settled → IsHome k (changed_pid (moved place hops) rows pid) false
moved_home k rows settled pid place hops h = record {
  each = length-changed (moved place hops) rows pid ∙ h.each;
  held = λ q call is. h.held q call (sym (held_moved rows pid place hops q) ∙ is);
  rests = λ e. absurd (cc);
}

pub told_home : (h : HomeState) (settled later : Bool) (at pid source hops : ℕ) (line : Option ℕ) (t : Turned) → IsHome h.kernel h.rows settled → told_turn later h at pid source hops line ≡ t
    → IsHome t.home.kernel t.home.rows false
told_home h settled later at pid source hops line t is e = subst (λ (x : Turned). IsHome x.home.kernel x.home.rows false) e (by_later later)
  where
    by_later : (b : Bool) → IsHome h.kernel (landed_rows b at pid hops h.rows) false
    by_later true = moved_home h.kernel h.rows settled pid at hops is
    by_later false = unsettled h.kernel h.rows settled is

pub killed_home : (h : HomeState) (settled : Bool) (pid signal line : ℕ) (t : Turned) → IsHome h.kernel h.rows settled → killed_in h pid signal line ≡ t → IsHome t.home.kernel t.home.rows false
killed_home h settled pid signal line t is e = subst (λ (x : Turned). IsHome x.home.kernel x.home.rows false) e (raised_home h.kernel h.rows settled pid signal is)

-- ---- what a call that fits has

pub record MayAsk (h : HomeState) (pid : ℕ) : Type 0 where
  pub live : is_live h.kernel pid ≡ true
  pub free : held_at h.rows pid ≡ None
  pub low : 1 ≤ pid
  pub given_is : pid ≤ given h.kernel

live_low : (k : KernelState) (pid : ℕ) → is_live k pid ≡ true → 1 ≤ pid
live_low k zero h = let none = none_at_zero k in absurd (cc)
live_low k (suc i) h = omega arith

live_given : (k : KernelState) (pid : ℕ) → is_live k pid ≡ true → pid ≤ given k
live_given k zero h = omega arith
live_given k (suc i) h = by_process (slice_get k.processes.tree i) refl h
  where
    by_process : (o : Option Process) → slice_get k.processes.tree i ≡ o → option_map_or is_live_process o false ≡ true → suc i ≤ given k
    by_process None here h = absurd (cc)
    by_process (Some p) here h = let within = slice_get_within k.processes.tree i p here in omega (arith, within)

pub asks_with : (h : HomeState) (pid : ℕ) → may_ask h pid ≡ true → MayAsk h pid
asks_with h pid e =
    let parts = both (is_live h.kernel pid) (is_none (held_at h.rows pid)) e in
    record { live = parts.0; free = none_is (held_at h.rows pid) parts.1; low = live_low h.kernel pid parts.0; given_is = live_given h.kernel pid parts.0 }

pub calls_with : (h : HomeState) (pid : ℕ) (r : Request) → fits_call h pid r ≡ true → MayAsk h pid × (fits_request r ≡ true)
calls_with h pid r e = let parts = both (may_ask h pid) (fits_request r) e in (asks_with h pid parts.0, parts.1)

-- home as it was seen before
pub held_view : (h : HomeState) (k : KernelState) (rows : List Row) (settled : Bool) → record { kernel = k; rows = rows } ≡ h → IsHome k rows settled
    → (pid : ℕ) (call : HeldCall) → held_at h.rows pid ≡ Some call → CanWait h.kernel pid call.request
held_view h k rows settled e is = subst (λ (x : HomeState). (pid : ℕ) (call : HeldCall) → held_at x.rows pid ≡ Some call → CanWait x.kernel pid call.request) e is.held

pub settled_home : (k : KernelState) (rows : List Row) (settled : Bool) → IsHome k rows settled → next_ready (record { kernel = k; rows = rows }) ≡ None → IsHome k rows true
settled_home k rows settled h none = record { each = h.each; held = h.held; rests = λ e. none }
