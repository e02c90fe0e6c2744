-- A call that can go on is served, and home is in order afterwards.
use Rattle.std.proofs.Common.{◌≡◌, ℕ, zero, suc, ◌+◌, arith, slice_get, ◌==◌, ◌||◌, cond, Bool, true, false, List, [], ◌∷◌, Option, Some, None, is_some, slice_index, refl, ap, sym, subst, ◌∙◌}
use Rattle.std.specs.Prelude.{MatchOption}
use Rattle.std.specs.List.{find}
use Rattle.call_table.specs.declared.request.Request.{Request}
use Rattle.kernel_spec.specs.Kernel.{KernelState, Called, deliverable}
use Rattle.kernel_spec.specs.Calls.{call_result}
use Rattle.deputy.specs.declared.row.Row.{Row}
use Rattle.deputy.specs.declared.row.HeldCall.{HeldCall}
use Rattle.deputy.specs.Rows.{HomeState, held_of, held_at, held_one, held_from, held_pids}
use Rattle.deputy.specs.Calls.{First, fell, broken_by, first_by, first_of, call_asks, answered, can_go_on, goes_on, next_ready, Retried, nothing, retry_turn, retry_call, retry_by, retried_in}
use Rattle.deputy.specs.Rules.{CanWait, IsHome}
use Rattle.deputy.proofs.Keeping.{KeepsFirst, first_keeps, answered_home, unsettled}

first_is : (a b : ℕ) → Some a ≡ Some b → a ≡ b
first_is a b h = cc

found_by : (test : ℕ → Bool) (b : Bool) (x y : ℕ) (ys : List ℕ) → test y ≡ b → (find test ys ≡ Some x → test x ≡ true) → cond b (Some y) (find test ys) ≡ Some x → test x ≡ true
found_by test true x y ys t rest e = ap test (sym (first_is y x e)) ∙ t
found_by test false x y ys t rest e = rest e

-- what is found passes the test
found : (test : ℕ → Bool) (xs : List ℕ) (x : ℕ) → find test xs ≡ Some x → test x ≡ true
found test [] x h = absurd (cc)
found test (y ∷ ys) x h = found_by test (test y) x y ys refl (λ e. found test ys x e) h

pub can_wait : (k : KernelState) (rows : List Row) (settled : Bool) (pid : ℕ) → IsHome k rows settled → MatchOption (held_at rows pid) (Unit {0}) (λ call. CanWait k pid call.request)
can_wait k rows settled pid h = by_held (held_at rows pid) refl
  where
    by_held : (o : Option HeldCall) → held_at rows pid ≡ o → MatchOption o (Unit {0}) (λ call. CanWait k pid call.request)
    by_held None e = tt
    by_held (Some call) e = h.held pid call e

pub retried_home : (h : HomeState) (settled : Bool) (pid : ℕ) (t : Retried) → IsHome h.kernel h.rows settled → retry_call (held_at h.rows pid) h pid ≡ t → IsHome t.home.kernel t.home.rows false
retried_home h settled pid t is e = subst (λ (x : Retried). IsHome x.home.kernel x.home.rows false) e (by_held (held_at h.rows pid))
  where
    by_first : (call : HeldCall) (o : Option First) → KeepsFirst h.kernel pid o → IsHome (retry_turn o h pid call).home.kernel (retry_turn o h pid call).home.rows false
    by_first call None keeps = unsettled h.kernel h.rows settled is
    by_first call (Some first) keeps = answered_home h.kernel h.rows settled (call_asks call.from pid call.request) first is keeps (λ e. absurd (cc))

    by_held : (o : Option HeldCall) → IsHome (retry_call o h pid).home.kernel (retry_call o h pid).home.rows false
    by_held None = unsettled h.kernel h.rows settled is
    by_held (Some call) = by_first call (first_of h.kernel pid call.request) (first_keeps h.kernel pid call.request)

-- one that can go on comes to something
comes : (k : KernelState) (pid : ℕ) (r : Request) → (r.number == 0) ≡ false → (is_some (call_result k pid r) || is_some (deliverable k pid)) ≡ true → is_some (first_of k pid r) ≡ true
comes k pid r call h = ap (λ b. is_some (cond b (Some (fell k pid (slice_index r.args 0))) (first_by (call_result k pid r) k pid))) call ∙ by_called (call_result k pid r) h
  where
    by_signal : (o : Option ℕ) → is_some o ≡ true → is_some (broken_by o k) ≡ true
    by_signal None h = absurd (cc)
    by_signal (Some s) h = refl

    by_called : (o : Option Called) → (is_some o || is_some (deliverable k pid)) ≡ true → is_some (first_by o k pid) ≡ true
    by_called None h = by_signal (deliverable k pid) h
    by_called (Some called) h = refl

pub ready_served : (h : HomeState) (settled : Bool) (pid : ℕ) → IsHome h.kernel h.rows settled → next_ready h ≡ Some pid → is_some (retry_call (held_at h.rows pid) h pid).acted ≡ true
ready_served h settled pid is e = by_held (held_at h.rows pid) refl (found (goes_on h) (held_pids h.rows) pid e)
  where
    by_first : (call : HeldCall) (o : Option First) → is_some o ≡ true → is_some (retry_turn o h pid call).acted ≡ true
    by_first call None h = absurd (cc)
    by_first call (Some first) h = refl

    by_held : (o : Option HeldCall) → held_at h.rows pid ≡ o → can_go_on h.kernel pid o ≡ true → is_some (retry_call o h pid).acted ≡ true
    by_held None here ready = absurd (cc)
    by_held (Some call) here ready =
        let waits = is.held pid call here in
        by_first call (first_of h.kernel pid call.request) (comes h.kernel pid call.request waits.call ready)

pub retried_some : (h now : HomeState) (settled : Bool) (pid : ℕ) (t : Retried) → h ≡ now → IsHome h.kernel h.rows settled → next_ready h ≡ Some pid → retry_call (held_at h.rows pid) h pid ≡ t
    → is_some t.acted ≡ is_some (next_ready now)
retried_some h now settled pid t same is next e =
    ap (λ (x : Retried). is_some x.acted) (sym e) ∙ (ready_served h settled pid is next ∙ (ap is_some (sym next) ∙ ap (λ x. is_some (next_ready x)) same))

-- ---- where none can go on

first_fails : (test : ℕ → Bool) (x : ℕ) (xs : List ℕ) → find test (x ∷ xs) ≡ None → test x ≡ false
first_fails test x xs h = by_test (test x) h
  where
    by_test : (b : Bool) → cond b (Some x) (find test xs) ≡ None → b ≡ false
    by_test true h = absurd (cc)
    by_test false h = refl

tail_fails : (test : ℕ → Bool) (x : ℕ) (xs : List ℕ) → find test (x ∷ xs) ≡ None → find test xs ≡ None
tail_fails test x xs h = by_test (test x) h
  where
    by_test : (b : Bool) → cond b (Some x) (find test xs) ≡ None → find test xs ≡ None
    by_test true h = absurd (cc)
    by_test false h = h

rest_fails : (test : ℕ → Bool) (o : Option HeldCall) (n : ℕ) (ws : List ℕ) → find test (held_one n o ws) ≡ None → find test ws ≡ None
rest_fails test None n ws h = h
rest_fails test (Some call) n ws h = tail_fails test n ws h

-- each pid whose call waits is listed
found_in : (test : ℕ → Bool) (rows : List Row) (n i : ℕ) (call : HeldCall) → held_of (slice_get rows i) ≡ Some call → find test (held_from n rows) ≡ None → test (n + i) ≡ false
found_in test [] n i call here none = absurd (cc)
found_in test (row ∷ rows) n zero call here none =
    let one : held_from n (row ∷ rows) ≡ n ∷ held_from (n + 1) rows = ap (λ o. held_one n o (held_from (n + 1) rows)) here in
    let e : n + 0 ≡ n = omega arith in
    ap test e ∙ first_fails test n (held_from (n + 1) rows) (ap (find test) (sym one) ∙ none)
found_in test (row ∷ rows) n (suc i) call here none =
    let e : n + suc i ≡ n + 1 + i = omega arith in
    ap test e ∙ found_in test rows (n + 1) i call here (rest_fails test row.held n (held_from (n + 1) rows) none)

pub none_ready : (h : HomeState) (pid : ℕ) → next_ready h ≡ None → goes_on h pid ≡ false
none_ready h zero none = refl
none_ready h (suc i) none = by_held (held_of (slice_get h.rows i)) refl
  where
    by_held : (o : Option HeldCall) → held_of (slice_get h.rows i) ≡ o → goes_on h (suc i) ≡ false
    by_held None here = ap (can_go_on h.kernel (suc i)) here
    by_held (Some call) here = let e : suc i ≡ 1 + i = omega arith in ap (goes_on h) e ∙ found_in (goes_on h) h.rows 1 i call here none
