-- A turn without a letter: what is due, and that it is a turn by the laws.
use Rattle.std.proofs.Common.{◌≡◌, ◌≢◌, ◌⊎◌, inl, inr, ℕ, ◌+◌, ◌<◌, ◌≤◌, ◌==◌, ◌&&◌, ◌||◌, cond, not, nat_lt, Bool, true, false, Option, Some, None, List, [], ◌∷◌, length, slice_get, refl, sym, ap, ◌∙◌, subst, arith}
use Rattle.std.specs.Prelude.{◌-◌, ◌^◌, max, nat_le, is_some, is_none, MatchOption}
use Rattle.std.specs.Bool.{MatchBool}
use Rattle.std.specs.List.{find}
use Rattle.std.specs.Option.{option_map}
use Rattle.std.proofs.lemmas.Bool.Decides.{nat_tests}
use Rattle.call_forward.specs.declared.acted.Acted.{Acted}
use Rattle.node_event.specs.declared.script.Order.{Order}
use Rattle.node_event.specs.declared.script.Order.TheVariants as order
use Rattle.node_event.specs.declared.script.ScriptLine.{ScriptLine}
use Rattle.kernel_spec.specs.Kernel.{KernelState, Called, deliverable, given, is_live, has_room, with_process}
use Rattle.kernel_spec.specs.Calls.{call_result}
use Rattle.remote_ctx.specs.declared.context.Context as code_context
use Rattle.remote_ctx.specs.declared.context.Stance.{Stance}
use Rattle.remote_ctx.specs.declared.context.Stance.TheVariants as stance
use Rattle.remote_ctx.specs.Hosted.{lookup, is_running, runs_as, runs_at, IsNext, NonePasses}
use Rattle.remote_ctx.specs.Acting.{poked_as}
use Rattle.deputy.specs.declared.row.HeldCall.{HeldCall}
use Rattle.deputy.specs.Rows.{held_at, served_at, held_pids}
use Rattle.deputy.specs.Calls.{next_ready, goes_on, can_go_on}
use Rattle.deputy.proofs.Retrying.{none_ready}
use Rattle.protocol.specs.Home.{HasEnded, live_of, unheld}
use Rattle.protocol.specs.Notes.{State, Running, Body, Context, context, Called as LawCalled}
use Rattle.protocol.specs.Does.{EnabledHere, NoneRuns}
use Rattle.protocol.specs.Odd.{stamp_end}
use Rattle.protocol.specs.Rests.{Kind, Retry, RunOn, NextLine, SendHalf, MayGoOn, LineReady, Applies, Rests}
use Rattle.protocol.proofs.Talk.{numbers_same, same_numbers}
use Rattle.node_machine.specs.Plan.{Plan}
use Rattle.node_machine.specs.Machine.{Policy, machine, serve_at, acted as acted_by, launched}
use Rattle.node_core.specs.declared.node.Node.{Node}
use Rattle.node_core.specs.declared.rotation.Kind as code_kind
use Rattle.node_core.specs.declared.rotation.Kind.TheVariants as kind
use Rattle.node_core.specs.declared.rotation.Rotation.{Rotation}
use Rattle.node_core.specs.Locals.{local, slot_of, called_of, context_of, body_of, state_of}
use Rattle.node_core.specs.Suits.{Suits}
use Rattle.node_core.specs.Rotation.{picked, rotated}
use Rattle.node_core.specs.declared.rotation.Ready.{Ready}
use Rattle.node_core.specs.Kinds.{CallsWait, LineFails, TaskFails, KindFails, IsReady, has_ended, is_enabled, line_enabled, CarriesOut, RunsContext, ContextActs, TaskActs, LineActs, task_of, task_at, OnHosted}
use Rattle.node_core.specs.Kinds as kinds
use Rattle.node_core.specs.Turns.{Made}
use Rattle.node_core.specs.Turning.{Picks, Lacks, Went}
use Rattle.node_core.proofs.Settling.{Acts, recorded_made}
use Rattle.node_core.proofs.Contexts.{sent_acts, heeded_acts, stepped_acts}
use Rattle.node_core.proofs.Firsts.{serve_is}
use Rattle.node_core.proofs.Home.{live_given, above_zero}
use Rattle.node_core.proofs.Living.{live_reversed}
use Rattle.node_core.proofs.Retrying.{retry_acts}
use Rattle.node_core.proofs.Launching.{AtLine, has_context, launch_acts}
use Rattle.node_core.proofs.Orders.{kill_acts, move_acts, feed_acts, end_acts, pass_acts}
use Rattle.node_core.proofs.Picking.{ReadyFor, picked_ready, picked_early, NoneReady, none_picked}
use Rattle.node_core.specs.Sight.{Answerer}
use Rattle.node_core.specs.Halves.{has_others, is_late, target_of}
use Rattle.node_core.proofs.Halving.{Gives, Due, due, due_late, due_found, half_ready, many_is}
use Rattle.node_core.proofs.Talking.{sends_acts}

-- ---- tests

and_first : (a b : Bool) → (a && b) ≡ true → a ≡ true
and_first true b e = refl
and_first false b e = absurd cc

and_second : (a b : Bool) → (a && b) ≡ true → b ≡ true
and_second true b e = e
and_second false b e = absurd cc

or_first : (a b : Bool) → (a || b) ≡ false → a ≡ false
or_first true b e = absurd cc
or_first false b e = refl

or_second : (a b : Bool) → (a || b) ≡ false → b ≡ false
or_second true b e = absurd cc
or_second false b e = e

or_true : (a b : Bool) → (a || b) ≡ true → (a ≡ true) ⊎ (b ≡ true)
or_true true b e = inl refl
or_true false b e = inr e

is_none_so : {A : Type 0} (o : Option A) → is_some o ≡ false → o ≡ None
is_none_so None e = refl
is_none_so (Some x) e = absurd cc

is_some_so : {A : Type 0} (o : Option A) → o ≢ None → is_some o ≡ true
is_some_so None ne = absurd (ne refl)
is_some_so (Some x) ne = refl

some_value : {A : Type 0} (o : Option A) → is_some o ≡ true → (x : A) × (o ≡ Some x)
some_value None e = absurd cc
some_value (Some x) e = (x, refl)

found_passes : (f : ℕ → Bool) (xs : List ℕ) (x : ℕ) → find f xs ≡ Some x → f x ≡ true
found_passes f [] x e = absurd cc
found_passes f (y ∷ ys) x e = go (λ h. found_passes f ys x h) (f y) refl e
  where
    go : (find f ys ≡ Some x → f x ≡ true) → (b : Bool) → f y ≡ b → cond b (Some y) (find f ys) ≡ Some x → f x ≡ true
    go more true t h = let same : y ≡ x = cc in sym (ap f same) ∙ t
    go more false t h = more h

below_is : (a b : ℕ) → nat_lt a b ≡ true → a < b
below_is a b e = grind (arith, nat_tests, e)

below_so : (a b : ℕ) → a < b → nat_lt a b ≡ true
below_so a b h = grind (arith, nat_tests, h)

-- ---- whether a line is enabled

ended_is : (k : KernelState) (p : ℕ) → has_ended k p ≡ true → ((1 ≤ p) × (p ≤ given k)) × (is_live k p ≡ false)
ended_is k p e =
    let a = and_first (nat_le 1 p) _ e in
    let b = and_first (nat_le p (given k)) _ (and_second (nat_le 1 p) _ e) in
    let c = and_second (nat_le p (given k)) _ (and_second (nat_le 1 p) _ e) in
    ((grind (arith, nat_tests, a), grind (arith, nat_tests, b)), not_true (is_live k p) c)
  where
    not_true : (x : Bool) → not x ≡ true → x ≡ false
    not_true true f = absurd cc
    not_true false f = refl

ended_so : (k : KernelState) (p : ℕ) → 1 ≤ p → p ≤ given k → is_live k p ≡ false → has_ended k p ≡ true
ended_so k p low high dead =
    let a : nat_le 1 p ≡ true = grind (arith, nat_tests, low) in
    let b : nat_le p (given k) ≡ true = grind (arith, nat_tests, high) in
    ap (λ x. x && (nat_le p (given k) && not (is_live k p))) a ∙ (ap (λ x. x && not (is_live k p)) b ∙ ap not dead)

module _ (policy : Policy) (plan : Plan) where
  ended_law : (k : KernelState) (p : ℕ) → has_ended k p ≡ true → HasEnded (machine policy plan) k p
  ended_law k p e = let x = ended_is k p e in record { given = x.0; dead = x.1 }

  law_ended : (k : KernelState) (p : ℕ) → HasEnded (machine policy plan) k p → has_ended k p ≡ true
  law_ended k p h = ended_so k p h.given.0 h.given.1 h.dead

  held_law : (o : Option HeldCall) → is_some o ≡ true → unheld (machine policy plan) (option_map (called_of policy plan) o) ≡ false
  held_law None e = absurd cc
  held_law (Some c) e = refl

  law_held : (o : Option HeldCall) → unheld (machine policy plan) (option_map (called_of policy plan) o) ≡ false → is_some o ≡ true
  law_held None e = absurd cc
  law_held (Some c) e = refl

  room_law : (k : KernelState) → has_room k ≡ true → launched k ≢ None
  room_law k e none = let z : Some (with_process k) ≡ None = sym (ap (λ b. cond b (Some (with_process k)) None) e) ∙ none in cc

  law_room : (k : KernelState) → launched k ≢ None → has_room k ≡ true
  law_room k ne = go (has_room k) refl
    where
      go : (b : Bool) → has_room k ≡ b → has_room k ≡ true
      go true e = e
      go false e = absurd (ne (ap (λ b. cond b (Some (with_process k)) None) e))

  enabled_law : (old : Node) (o : Order) → is_enabled o old ≡ true → EnabledHere (machine policy plan) o (local policy plan old)
  enabled_law old (order.Run words) e = room_law old.deputies.kernel e
  enabled_law old (order.Kill p s) e = tt
  enabled_law old (order.Move p to) e = tt
  enabled_law old (order.Feed text) e = tt
  enabled_law old order.Eof e = tt
  enabled_law old (order.Wait p) e = ended_law old.deputies.kernel p e
  enabled_law old (order.After p count) e = go (or_true (nat_le count (served_at old.deputies.rows p)) _ e)
    where
      go : (nat_le count (served_at old.deputies.rows p) ≡ true) ⊎ (has_ended old.deputies.kernel p ≡ true) → (count ≤ served_at old.deputies.rows p) ⊎ HasEnded (machine policy plan) old.deputies.kernel p
      go (inl f) = inl (grind (arith, nat_tests, f))
      go (inr f) = inr (ended_law old.deputies.kernel p f)
  enabled_law old (order.Held p) e = go (or_true (is_some (held_at old.deputies.rows p)) _ e)
    where
      go : (is_some (held_at old.deputies.rows p) ≡ true) ⊎ (has_ended old.deputies.kernel p ≡ true) → (unheld (machine policy plan) (slot_of policy plan old p).call ≡ false) ⊎ HasEnded (machine policy plan) old.deputies.kernel p
      go (inl f) = inl (held_law (held_at old.deputies.rows p) f)
      go (inr f) = inr (ended_law old.deputies.kernel p f)
  enabled_law old (order.Slots count) e = let r = live_reversed (is_live old.deputies.kernel) old.course.launched in let below = below_is (live_of (is_live old.deputies.kernel) old.course.launched) count e in omega (arith, r, below)

  or_left : (a b : Bool) → a ≡ true → (a || b) ≡ true
  or_left true b e = refl
  or_left false b e = absurd cc

  or_right : (a b : Bool) → b ≡ true → (a || b) ≡ true
  or_right true b e = refl
  or_right false b e = e

  law_enabled : (old : Node) (o : Order) → EnabledHere (machine policy plan) o (local policy plan old) → is_enabled o old ≡ true
  law_enabled old (order.Run words) e = law_room old.deputies.kernel e
  law_enabled old (order.Kill p s) e = refl
  law_enabled old (order.Move p to) e = refl
  law_enabled old (order.Feed text) e = refl
  law_enabled old order.Eof e = refl
  law_enabled old (order.Wait p) e = law_ended old.deputies.kernel p e
  law_enabled old (order.After p count) (inl e) = or_left (nat_le count (served_at old.deputies.rows p)) _ (grind (arith, nat_tests, e))
  law_enabled old (order.After p count) (inr e) = or_right (nat_le count (served_at old.deputies.rows p)) _ (law_ended old.deputies.kernel p e)
  law_enabled old (order.Held p) (inl e) = or_left (is_some (held_at old.deputies.rows p)) _ (law_held (held_at old.deputies.rows p) e)
  law_enabled old (order.Held p) (inr e) = or_right (is_some (held_at old.deputies.rows p)) _ (law_ended old.deputies.kernel p e)
  law_enabled old (order.Slots count) e = let r = live_reversed (is_live old.deputies.kernel) old.course.launched in below_so (live_of (is_live old.deputies.kernel) old.course.launched) count (omega (arith, r, e))

  -- ---- what is due of each kind

  -- a held call may go on where the code says so: no process 0 has one, and none is a fault
  served_by : (k : KernelState) (p : ℕ) (r : Rattle.call_table.specs.declared.request.Request.Request) → (p == 0) ≡ false → (r.number == 0) ≡ false → (is_some (call_result k p r) || is_some (deliverable k p)) ≡ true → (serve_at k p r ≢ None) ⊎ (deliverable k p ≢ None)
  served_by k p r low some e = go (or_true (is_some (call_result k p r)) (is_some (deliverable k p)) e)
    where
      serves : (o : Option Called) → is_some o ≡ true → option_map acted_by o ≢ None
      serves None f = absurd cc
      serves (Some c) f = λ none. cc

      go : (is_some (call_result k p r) ≡ true) ⊎ (is_some (deliverable k p) ≡ true) → (serve_at k p r ≢ None) ⊎ (deliverable k p ≢ None)
      go (inl f) = inl (λ none. serves (call_result k p r) f (sym (serve_is policy plan k p r low some) ∙ none))
      go (inr f) = inr (λ none. let z : true ≡ false = sym f ∙ ap is_some none in absurd cc)

  blocked_by : (k : KernelState) (p : ℕ) (r : Rattle.call_table.specs.declared.request.Request.Request) → (is_some (call_result k p r) || is_some (deliverable k p)) ≡ false → (serve_at k p r ≢ None) ⊎ (deliverable k p ≢ None) → ⊥
  blocked_by k p r e (inl serves) = serves (none_served ((p == 0) || (r.number == 0)) (call_result k p r) (or_first (is_some (call_result k p r)) (is_some (deliverable k p)) e))
    where
      none_served : (b : Bool) (o : Option Called) → is_some o ≡ false → cond b None (option_map acted_by o) ≡ None
      none_served true o f = refl
      none_served false None f = refl
      none_served false (Some c) f = absurd cc
  blocked_by k p r e (inr takes) = takes (is_none_so (deliverable k p) (or_second (is_some (call_result k p r)) (is_some (deliverable k p)) e))

  retry_due : (old : Node) (p : ℕ) → old.id ≡ 0 → ((pid : ℕ) (call : HeldCall) → held_at old.deputies.rows pid ≡ Some call → Rattle.deputy.specs.Rules.CanWait old.deputies.kernel pid call.request) → next_ready old.deputies ≡ Some p → Applies (machine policy plan) (Retry p) old.id (local policy plan old)
  retry_due old p home waits next = (home, go (held_at old.deputies.rows p) refl (found_passes (goes_on old.deputies) (held_pids old.deputies.rows) p next))
    where
      go : (c : Option HeldCall) → held_at old.deputies.rows p ≡ c → can_go_on old.deputies.kernel p (held_at old.deputies.rows p) ≡ true → MayGoOn (machine policy plan) (local policy plan old) p
      go None held e = let z : false ≡ true = sym (ap (can_go_on old.deputies.kernel p) held) ∙ e in absurd cc
      go (Some call) held e =
          let w = waits p call held in
          let pid = live_given old.deputies.kernel p w.live in
          record {
            call = called_of policy plan call;
            held = ap (option_map (called_of policy plan)) held;
            ready = served_by old.deputies.kernel p call.request (above_zero p pid.0) w.call (sym (ap (can_go_on old.deputies.kernel p) held) ∙ e);
          }

  no_retry : (old : Node) (p : ℕ) → next_ready old.deputies ≡ None → MayGoOn (machine policy plan) (local policy plan old) p → ⊥
  no_retry old p none m = go (held_at old.deputies.rows p) refl m.held
    where
      go : (c : Option HeldCall) → held_at old.deputies.rows p ≡ c → option_map (called_of policy plan) (held_at old.deputies.rows p) ≡ Some m.call → ⊥
      go None held e = let z : None ≡ Some m.call = sym (ap (option_map (called_of policy plan)) held) ∙ e in cc
      go (Some call) held e =
          let same : Some (called_of policy plan call) ≡ Some m.call = sym (ap (option_map (called_of policy plan)) held) ∙ e in
          let fails : can_go_on old.deputies.kernel p (Some call) ≡ false = sym (ap (can_go_on old.deputies.kernel p) held) ∙ none_ready old.deputies p none in
          blocked_by old.deputies.kernel p call.request fails (subst (λ (r : Rattle.call_table.specs.declared.request.Request.Request). (serve_at old.deputies.kernel p r ≢ None) ⊎ (deliverable old.deputies.kernel p ≢ None)) (sym (request_of_call same)) m.ready)
        where
          request_in : Option (LawCalled (machine policy plan)) → Rattle.call_table.specs.declared.request.Request.Request
          request_in None = call.request
          request_in (Some c) = c.request

          request_of_call : Some (called_of policy plan call) ≡ Some m.call → call.request ≡ m.call.request
          request_of_call same = ap request_in same

  runs_if : (o : Option code_context.Context) (b : Body (machine policy plan)) → option_map (context_of policy plan) o ≡ Some (context (machine policy plan) b Running) → runs_as o ≡ true
  runs_if None b e = absurd cc
  runs_if (Some c) b e = state_runs c.state (ap state_in e)
    where
      state_in : Option (Context (machine policy plan)) → Option State
      state_in None = None
      state_in (Some x) = Some x.state

      state_runs : (s : Stance) → Some (state_of s) ≡ Some Running → is_running s ≡ true
      state_runs stance.Running f = refl
      state_runs (stance.Waiting pause kept) f = absurd cc
      state_runs (stance.Asking to line) f = absurd cc

  runs_law : (o : Option code_context.Context) → runs_as o ≡ true → (b : Body (machine policy plan)) × (option_map (context_of policy plan) o ≡ Some (context (machine policy plan) b Running))
  runs_law None e = absurd cc
  runs_law (Some c) e = (body_of policy plan c, ap (λ s. Some (context (machine policy plan) (body_of policy plan c) (state_of s))) (running c.state e))
    where
      running : (s : Stance) → is_running s ≡ true → s ≡ stance.Running
      running stance.Running f = refl
      running (stance.Waiting pause kept) f = absurd cc
      running (stance.Asking to line) f = absurd cc

  -- ---- rests

  plan_line : (old : Node) → Suits plan old → old.id ≡ 0 → slice_get old.course.script old.course.done ≡ slice_get plan.script old.course.done
  plan_line old suits home = ap (λ script. slice_get script old.course.done) (suits.course home).script

  -- nothing that is ready: the node rests
  pub none_rests : (old : Node) → Suits plan old → Picks None old → Rests (machine policy plan) old.id (local policy plan old)
  none_rests old suits picks = go
    where
      none : NoneReady picks.ready
      none = none_picked old.rotation.last picks.ready picks.picked

      retries : old.id ≡ 0 → next_ready old.deputies ≡ None
      retries home = is_none_so (next_ready old.deputies) (sym (ap (λ b. b && is_some (next_ready old.deputies)) (same_numbers old.id 0 home)) ∙ (sym picks.is.retry ∙ none.retry))

      runs : NonePasses (λ q. runs_at q old.hosted)
      runs = subst (λ (o : Option ℕ). MatchOption o (NonePasses (λ q. runs_at q old.hosted)) (IsNext (λ q. runs_at q old.hosted) old.rotation.after)) none.context picks.is.context

      lines : old.id ≡ 0 → line_enabled (slice_get old.course.script old.course.done) old ≡ false
      lines home = sym (ap (λ b. b && line_enabled (slice_get old.course.script old.course.done) old) (same_numbers old.id 0 home)) ∙ (sym picks.is.line ∙ none.line)

      no_line : old.id ≡ 0 → LineReady (machine policy plan) (local policy plan old) → ⊥
      no_line home r =
          let here : slice_get old.course.script old.course.done ≡ Some r.line = plan_line old suits home ∙ r.next in
          let z : true ≡ false = sym (law_enabled old r.line.order r.enabled) ∙ (sym (ap (λ o. line_enabled o old) here) ∙ lines home) in absurd cc

      go : (k : Kind) → Applies (machine policy plan) k old.id (local policy plan old) → ⊥
      go (Retry p) (home, m) = no_retry old p (retries home) m
      go (RunOn p) (b, e) = let z : true ≡ false = sym (runs_if (lookup p old.hosted) b e) ∙ runs.none p in absurd cc
      go NextLine (home, r) = no_line home r
      go (SendHalf other) h =
          let found = due_found policy plan old (is_none picks.ready.context) other suits picks.most picks.is.counted (λ quiet. ap is_none none.context) h in
          let z : false ≡ true = sym none.half ∙ (picks.is.half ∙ found) in absurd cc

  -- where no context is next none runs
  none_runs : (old : Node) (o : Option ℕ) → MatchOption o (NonePasses (λ q. runs_at q old.hosted)) (IsNext (λ q. runs_at q old.hosted) old.rotation.after) → is_none o ≡ true → NoneRuns (machine policy plan) (local policy plan old)
  none_runs old None passes e = λ p b here. let z : true ≡ false = sym (runs_if (lookup p old.hosted) b here) ∙ passes.none p in absurd cc
  none_runs old (Some p) next e = absurd cc

  -- a half that is ready is due
  half_due : (old : Node) (ready : Ready) → Suits plan old → IsReady old ready → (ready.half ≡ true) ⊎ (ready.late ≡ true) → (has_others old ≡ true) × Due policy plan old (NoneRuns (machine policy plan) (local policy plan old))
  half_due old ready suits is (inl e) =
      let here = sym is.half ∙ e in
      (and_first (has_others old) _ here, due policy plan old (is_none ready.context) (NoneRuns (machine policy plan) (local policy plan old)) suits (none_runs old ready.context is.context) here)
  half_due old ready suits is (inr e) =
      let here = sym is.late ∙ e in
      (and_first (has_others old) (is_late old) here, due_late policy plan old (NoneRuns (machine policy plan) (local policy plan old)) suits here)

  -- something is: that kind applies
  pub some_applies : (old : Node) (k : code_kind.Kind) → Suits plan old → Picks (Some k) old → (law : Kind) × Applies (machine policy plan) law old.id (local policy plan old)
  some_applies old k suits picks = go k (picked_ready old.rotation.last k picks.ready picks.picked)
    where
      context : (o : Option ℕ) → MatchOption o (NonePasses (λ q. runs_at q old.hosted)) (IsNext (λ q. runs_at q old.hosted) old.rotation.after) → is_some o ≡ true → (law : Kind) × Applies (machine policy plan) law old.id (local policy plan old)
      context None m e = absurd cc
      context (Some p) m e = (RunOn p, runs_law (lookup p old.hosted) m.is)

      line : (o : Option ScriptLine) → slice_get old.course.script old.course.done ≡ o → old.id ≡ 0 → line_enabled o old ≡ true → (law : Kind) × Applies (machine policy plan) law old.id (local policy plan old)
      line None here home e = absurd cc
      line (Some s) here home e = (NextLine, (home, record { line = s; next = sym (plan_line old suits home) ∙ here; enabled = enabled_law old s.order e }))

      retry : (o : Option ℕ) → next_ready old.deputies ≡ o → is_some o ≡ true → old.id ≡ 0 → CallsWait old.deputies → (law : Kind) × Applies (machine policy plan) law old.id (local policy plan old)
      retry None next some home waits = absurd cc
      retry (Some p) next some home waits = (Retry p, retry_due old p home waits next)

      go : (k : code_kind.Kind) → ReadyFor picks.ready k → (law : Kind) × Applies (machine policy plan) law old.id (local policy plan old)
      go kind.Retry e =
          let both = sym picks.is.retry ∙ e in
          retry (next_ready old.deputies) refl (and_second (old.id == 0) _ both) (numbers_same old.id 0 (and_first (old.id == 0) _ both)) (picks.is.waits e)
      go kind.Context e = context picks.ready.context picks.is.context e
      go kind.Line e =
          let both = sym picks.is.line ∙ e in
          line (slice_get old.course.script old.course.done) refl (numbers_same old.id 0 (and_first (old.id == 0) _ both)) (and_second (old.id == 0) _ both)
      go kind.Half e = let h = half_due old picks.ready suits picks.is e in (SendHalf (target_of old), half_ready policy plan old suits picks.most picks.is.counted h.0 h.1)

  -- what is ready can be carried out
  pub none_lacks : (old : Node) → Suits plan old → Lacks old → ⊥
  none_lacks old suits l = go l.kind (picked_ready old.rotation.last l.kind l.picks.ready l.picks.picked) l.fails
    where
      ready : Ready
      ready = l.picks.ready

      launches : (s : ScriptLine) (words : List (List ℕ)) → slice_get old.course.script old.course.done ≡ Some s → s.order ≡ order.Run words → old.id ≡ 0 → has_room old.deputies.kernel ≡ true → (has_room old.deputies.kernel ≡ false) ⊎ (old.course.users ≡ []) → ⊥
      launches s words here is home room (inl none) = let z : true ≡ false = sym room ∙ none in absurd cc
      launches s words here is home room (inr none) = has_context policy plan old s words (record { suits = suits; home = home; line = here }) is none

      line_fails : (s : ScriptLine) (o : Order) → slice_get old.course.script old.course.done ≡ Some s → s.order ≡ o → old.id ≡ 0 → is_enabled o old ≡ true → LineFails (task_of o) old → ⊥
      line_fails s (order.Run words) here is home on f = launches s words here is home on f
      line_fails s (order.Kill p signal) here is home on f = f
      line_fails s (order.Move p to) here is home on f = f
      line_fails s (order.Feed text) here is home on f = f
      line_fails s order.Eof here is home on f = f
      line_fails s (order.Wait p) here is home on f = f
      line_fails s (order.After p count) here is home on f = f
      line_fails s (order.Held p) here is home on f = f
      line_fails s (order.Slots count) here is home on f = f

      line : (o : Option ScriptLine) → slice_get old.course.script old.course.done ≡ o → old.id ≡ 0 → line_enabled o old ≡ true → TaskFails (task_at o) old → ⊥
      line None here home on f = absurd cc
      line (Some s) here home on f = line_fails s s.order here refl home on f

      go : (k : code_kind.Kind) → ReadyFor ready k → KindFails k ready.context old → ⊥
      go kind.Retry e f = let z : true ≡ false = sym (and_second (old.id == 0) _ (sym l.picks.is.retry ∙ e)) ∙ ap is_some f in absurd cc
      go kind.Context e f = let z : true ≡ false = sym e ∙ ap is_some f in absurd cc
      go kind.Line e f =
          let both = sym l.picks.is.line ∙ e in
          line (slice_get old.course.script old.course.done) refl (numbers_same old.id 0 (and_first (old.id == 0) _ both)) (and_second (old.id == 0) _ both) f
      go kind.Half e f = f

  -- ---- a kind that is carried out

  acts_rotated : (old mid : Node) (stamp : ℕ) (acted : Acted) (r : Rotation) → Acts policy plan stamp None acted old mid → Acts policy plan stamp None acted old (record mid { rotation = r })
  acts_rotated old mid stamp acted r a =
      let s = a.suits in
      record {
        usual = a.usual;
        does = a.does;
        same = ap (λ (m : Node). record m { rotation = r }) a.same;
        suits = record { is_plan = s.is_plan; below = s.below; shape = s.shape; room = s.room; within = record { clock = s.within.clock; served = s.within.served; sent = s.within.sent; steps = s.within.steps }; course = s.course; chance = s.chance };
      }

  context_acts : (old mid : Node) (stamp p : ℕ) (acted : Acted) → Suits plan old → length old.journal.events < old.journal.room → stamp ≡ old.clock + 1 → (2 ≤ plan.nodes → old.talk.steps < 16) → runs_at p old.hosted ≡ true → ContextActs p acted old mid → Acts policy plan stamp None acted old mid
  context_acts old mid stamp p acted suits space at no_half runs c = subst (λ (n : ℕ). Acts policy plan n None acted old mid) (sym at) (go (poked_as (lookup p old.hosted)) refl c)
    where
      on : (h : List code_context.Context) → mid ≡ record old { hosted = h } → Acts policy plan (old.clock + 1) None acted old (record old { hosted = h }) → Acts policy plan (old.clock + 1) None acted old mid
      on h rest a = subst (λ (m : Node). Acts policy plan (old.clock + 1) None acted old m) (sym rest) a

      unpoked : poked_as (lookup p old.hosted) ≡ false → ((k : ℕ) × kinds.Steps k p acted old mid) ⊎ OnHosted (Rattle.remote_ctx.specs.Acting.Sends acted p) old mid → Acts policy plan (old.clock + 1) None acted old mid
      unpoked e (inl (k, s)) = stepped_acts policy plan old p k acted mid suits space runs e no_half s
      unpoked e (inr o) = on mid.hosted o.rest (sent_acts policy plan old p acted mid.hosted suits runs e o.does)

      go : (b : Bool) → poked_as (lookup p old.hosted) ≡ b → MatchBool b (OnHosted (Rattle.remote_ctx.specs.Acting.Heeds acted p) old mid) (((k : ℕ) × kinds.Steps k p acted old mid) ⊎ OnHosted (Rattle.remote_ctx.specs.Acting.Sends acted p) old mid) → Acts policy plan (old.clock + 1) None acted old mid
      go true e o = on mid.hosted o.rest (heeded_acts policy plan old p acted mid.hosted suits runs e o.does)
      go false e x = unpoked e x

  line_acts : (old mid : Node) (stamp : ℕ) (s : ScriptLine) (o : Order) (acted : Acted) → AtLine policy plan old s → s.order ≡ o → is_enabled o old ≡ true → stamp ≤ stamp_end + (length old.journal.events + 1) → LineActs s.line (task_of o) acted old mid → Acts policy plan stamp None acted old mid
  line_acts old mid stamp s (order.Run words) acted at is on early l = launch_acts policy plan old mid stamp s words acted at is early l
  line_acts old mid stamp s (order.Kill p signal) acted at is on early l = kill_acts policy plan old mid stamp s p signal acted at is early l
  line_acts old mid stamp s (order.Move p to) acted at is on early l = move_acts policy plan old mid stamp s p to acted at is early l
  line_acts old mid stamp s (order.Feed text) acted at is on early l = feed_acts policy plan old mid stamp s text acted at is early l
  line_acts old mid stamp s order.Eof acted at is on early l = end_acts policy plan old mid stamp s acted at is early l
  line_acts old mid stamp s (order.Wait p) acted at is on early l = pass_acts policy plan old mid stamp s (order.Wait p) acted at is refl tt refl (enabled_law old (order.Wait p) on) early l
  line_acts old mid stamp s (order.After p count) acted at is on early l = pass_acts policy plan old mid stamp s (order.After p count) acted at is refl tt refl (enabled_law old (order.After p count) on) early l
  line_acts old mid stamp s (order.Held p) acted at is on early l = pass_acts policy plan old mid stamp s (order.Held p) acted at is refl tt refl (enabled_law old (order.Held p) on) early l
  line_acts old mid stamp s (order.Slots count) acted at is on early l = pass_acts policy plan old mid stamp s (order.Slots count) acted at is refl tt refl (enabled_law old (order.Slots count) on) early l

  steps_few : (nodes steps : ℕ) → (nat_le 2 nodes && nat_le 16 steps) ≡ false → 2 ≤ nodes → steps < 16
  steps_few nodes steps e many = go (nat_le 2 nodes) (nat_le 16 steps) refl refl e
    where
      go : (a b : Bool) → nat_le 2 nodes ≡ a → nat_le 16 steps ≡ b → (a && b) ≡ false → steps < 16
      go true true f g h = absurd cc
      go true false f g h = grind (arith, nat_tests, g)
      go false b f g h = grind (arith, nat_tests, f, many)

  pub went_turn : (answers : Answerer) → Gives answers policy → (old new : Node) → Suits plan old → Went answers old new → Made policy plan None old new
  went_turn answers gives old new suits w = recorded_made policy plan old (record w.mid { rotation = rotated old.rotation w.kind w.picks.ready.context }) new w.stamp None w.acted suits (acts_rotated old w.mid w.stamp w.acted _ (go w.kind w.picks.picked (picked_ready old.rotation.last w.kind w.picks.ready w.picks.picked) w.carries)) at tt w.settled
    where
      few : old.journal.room ≤ 1048576
      few = let e = suits.room in let m = suits.shape.most_events in omega (arith, e, m)

      low : max old.clock 0 < 2 ^ 64 - 1
      low = let a = suits.within.clock in let b = w.space in let c = few in omega (arith, a, b, c)

      at : w.stamp ≡ old.clock + 1
      at = let e = w.stamp_is low in omega (arith, e)

      early : w.stamp ≤ stamp_end + (length old.journal.events + 1)
      early = let e = at in let a = suits.within.clock in omega (arith, e, a)

      home_by : (b : Bool) (flag : Bool) → flag ≡ ((old.id == 0) && b) → flag ≡ true → old.id ≡ 0
      home_by b flag is e = numbers_same old.id 0 (and_first (old.id == 0) b (sym is ∙ e))

      context : w.picks.ready.late ≡ false → (o : Option ℕ) → MatchOption o (NonePasses (λ q. runs_at q old.hosted)) (IsNext (λ q. runs_at q old.hosted) old.rotation.after) → RunsContext o w.acted old w.mid → Acts policy plan w.stamp None w.acted old w.mid
      context early_so None m r = absurd r
      context early_so (Some p) m r = context_acts old w.mid w.stamp p w.acted suits w.space at (λ many. steps_few old.shape.nodes old.talk.steps (sym w.picks.is.late ∙ early_so) (let n = suits.shape.nodes in omega (arith, n, many))) m.is r

      line : (o : Option ScriptLine) → slice_get old.course.script old.course.done ≡ o → old.id ≡ 0 → line_enabled o old ≡ true → TaskActs (task_at o) w.acted old w.mid → Acts policy plan w.stamp None w.acted old w.mid
      line None here home on l = absurd l
      line (Some s) here home on l = line_acts old w.mid w.stamp s s.order w.acted (record { suits = suits; home = home; line = here }) refl on early l

      go : (k : code_kind.Kind) → picked old.rotation.last w.picks.ready ≡ Some k → ReadyFor w.picks.ready k → CarriesOut answers w.stamp k w.picks.ready.context w.acted old w.mid → Acts policy plan w.stamp None w.acted old w.mid
      go kind.Retry p e c = retry_acts policy plan old w.mid w.stamp w.acted suits (home_by (is_some (next_ready old.deputies)) w.picks.ready.retry w.picks.is.retry e) early w.space c
      go kind.Context p e c = context (picked_early old.rotation.last w.picks.ready p) w.picks.ready.context w.picks.is.context c
      go kind.Line p e c = line (slice_get old.course.script old.course.done) refl (home_by (line_enabled (slice_get old.course.script old.course.done) old) w.picks.ready.line w.picks.is.line e) (and_second (old.id == 0) _ (sym w.picks.is.line ∙ e)) c
      go kind.Half p e c = let h = half_due old w.picks.ready suits w.picks.is e in sends_acts policy plan answers old w.mid w.stamp w.acted gives suits w.picks.most early (many_is policy plan old suits h.0) h.1 c
