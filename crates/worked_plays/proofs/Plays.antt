-- The one-node machine over user states of two pages, computed.
use Rattle.std.proofs.Common.{◌≡◌, ◌≢◌, ◌⊎◌, inl, inr, ℕ, zero, suc, ◌+◌, ◌==◌, ◌&&◌, not, Bool, true, false, cond, Option, Some, None, List, [], ◌∷◌, ◌++◌, length, map, slice_get, refl, sym, ap, ◌∙◌, subst, arith}
use Rattle.std.specs.Prelude.{nat_lt, option_and_then}
use Rattle.std.specs.Option.{option_map}
use Rattle.std.proofs.lemmas.Bool.Decides.{nat_tests}
use Rattle.call_table.specs.Calls.{is_signal_number}
use Rattle.call_table.specs.declared.error.TheConstants.{EINTR}
use Rattle.call_table.specs.declared.request.Request.{Request}
use Rattle.call_table.specs.declared.request.Answer.{Answer}
use Rattle.call_table.specs.declared.request.Taken.{Taken}
use Rattle.user_spec.specs.User.{UserState}
use Rattle.user_spec.specs.Request.{call_request, returned, forked}
use Rattle.user_spec.specs.Advance.{Went, AtCall, advance, advanced, request_of, asked_at}
use Rattle.user_spec.specs.Fits.{entered_by, has_room_at}
use Rattle.kernel_spec.specs.Pids.{at_pid, set_pid}
use Rattle.kernel_spec.specs.Kernel.{KernelState, AfterTake, no_process, given, is_live, has_room, with_process, with_raised, deliverable, take_result, value_answer, fed}
use Rattle.protocol.specs.Ops.{Acted, Took}
use Rattle.run_laws.specs.Machine.{ReplyGiven, Step, Launch, Raise, Feed, Eof, Advance, Do, Break, Take, Fall, MachineState, empty, with_user, with_kernel, with_reply, with_child, blocks, machine_step, machine_steps, play}
use Rattle.node_machine.specs.Plan.{Plan, texts, text_at, user_at}
use Rattle.node_machine.specs.Machine.{machine, serve_at, taken_at, fed_with, finished}
use Rattle.node_machine.specs.Policy.{never}
use Rattle.node_machine.proofs.Places.{set_at, push_at}
use Rattle.worked_plays.specs.Programs.{Small, user_of, plan_of}
use Rattle.worked_plays.proofs.Small.{many_steps, steps_go, asks_at, at_call, returned_at, returned_is, forked_at, has_room_in, room_here, entered_at, entered_is}
use Rattle.node_event.specs.declared.script.ScriptLine.{ScriptLine}

pub record SmallState : Type 0 where
  pub kernel : KernelState
  pub users : List Small
  pub replies : List ReplyGiven

module _ (script : List ScriptLine) (program : Small) where
  abbrev pub State : Type 0
  State = MachineState (machine never (plan_of script program))

  -- the state that it stands for
  abbrev pub big : SmallState → State
  big m = record { kernel = m.kernel; users = λ q. option_map user_of (at_pid m.users q); replies = m.replies }

  -- ---- one step, none where it fails or is not computed here

  abbrev pub launch_small : SmallState → Option SmallState
  launch_small m = cond (has_room m.kernel && (length m.users == given m.kernel)) (Some (record { kernel = with_process m.kernel; users = m.users ++ record program { pid = given m.kernel + 1 } ∷ []; replies = m.replies })) None

  abbrev pub on_live : ℕ → SmallState → (Small → Option SmallState) → Option SmallState
  on_live p m go = cond (is_live m.kernel p) (option_and_then go (at_pid m.users p)) None

  abbrev pub with_small : ℕ → SmallState → Small → SmallState
  with_small p m s = record m { users = set_pid m.users p s }

  abbrev pub reply_small : ℕ → Request → Answer → List ReplyGiven → List ReplyGiven
  reply_small p r a rs = record { pid = p; number = r.number; value = a.value } ∷ rs

  -- a child is the next pid
  abbrev pub child_small : Small → Option ℕ → SmallState → Option SmallState
  child_small s None m = Some m
  child_small s (Some c) m = cond (c == length m.users + 1) (Some (record m { users = m.users ++ forked_at s c ∷ [] })) None

  abbrev pub do_with : ℕ → SmallState → Small → Request → Option (Acted KernelState Answer) → Option SmallState
  do_with p m s r None = None
  do_with p m s r (Some d) = child_small s d.child (record { kernel = d.kernel; users = set_pid m.users p (returned_at s d.answer); replies = reply_small p r d.answer m.replies })

  abbrev pub do_small : ℕ → SmallState → Small → Option SmallState
  do_small p m s = option_and_then (λ r. cond (r.number == 0) None (do_with p m s r (serve_at m.kernel p r))) (asks_at s)

  abbrev pub break_with : ℕ → SmallState → Small → Request → Option (Acted KernelState Answer) → Option SmallState
  break_with p m s r (Some d) = None
  break_with p m s r None = Some (record { kernel = m.kernel; users = set_pid m.users p (returned_at s (value_answer EINTR)); replies = reply_small p r (value_answer EINTR) m.replies })

  abbrev pub break_small : ℕ → SmallState → Small → Option SmallState
  break_small p m s = option_and_then (λ r. cond (r.number == 0) None (option_and_then (λ signal. break_with p m s r (serve_at m.kernel p r)) (deliverable m.kernel p))) (asks_at s)

  abbrev pub take_small : ℕ → SmallState → Small → Option SmallState
  take_small p m s = option_and_then (λ signal. Some (record { kernel = (taken_at m.kernel p (has_room_in s)).kernel; users = set_pid m.users p (entered_at s (taken_at m.kernel p (has_room_in s)).taken); replies = m.replies })) (deliverable m.kernel p)

  abbrev pub steps_small : ℕ → ℕ → SmallState → Small → Option SmallState
  steps_small p k m s = option_map (with_small p m) (many_steps k s)

  abbrev pub small_step : Step → SmallState → Option SmallState
  small_step (Launch i) m = cond (i == 0) (launch_small m) None
  small_step (Raise p signal) m = cond (is_signal_number signal) (Some (record m { kernel = with_raised m.kernel p signal })) None
  small_step (Feed i) m = cond (nat_lt i (length (texts script))) (Some (record m { kernel = fed_with (text_at (texts script) i) m.kernel })) None
  small_step Eof m = Some (record m { kernel = finished m.kernel })
  small_step (Advance p k) m = cond (nat_lt 0 k) (on_live p m (steps_small p k m)) None
  small_step (Do p) m = on_live p m (do_small p m)
  small_step (Break p) m = on_live p m (break_small p m)
  small_step (Take p) m = option_and_then (take_small p m) (at_pid m.users p)
  small_step (Fall p) m = None

  abbrev pub small_steps : List Step → SmallState → Option SmallState
  small_steps [] m = Some m
  small_steps (s ∷ ss) m = option_and_then (small_steps ss) (small_step s m)

  abbrev pub nothing : SmallState
  nothing = record { kernel = no_process; users = []; replies = [] }

  -- ---- and it is the machine's

  abbrev Goes : Option State → Option SmallState → Type 0
  Goes a None = Unit {0}
  Goes a (Some n) = a ≡ Some (big n)

  moved : (a b : Option State) (o : Option SmallState) → a ≡ b → Goes b o → Goes a o
  moved a b None e g = tt
  moved a b (Some n) e g = e ∙ g

  test : (b : Bool) (a : Option State) (o : Option SmallState) → Goes a o → Goes (cond b a None) (cond b o None)
  test true a o g = g
  test false a o g = tt

  mapped : (b : Bool) (x : Small) (o : Option Small) → cond b (Some (user_of x)) (option_map user_of o) ≡ option_map user_of (cond b (Some x) o)
  mapped true x o = refl
  mapped false x o = refl

  -- another user state in the place of one, or behind the last
  put_small : (us : List Small) (p : ℕ) (s x : Small) (u : UserState) (q : ℕ) → at_pid us p ≡ Some s → u ≡ user_of x → cond (q == p) (Some u) (option_map user_of (at_pid us q)) ≡ option_map user_of (at_pid (set_pid us p x) q)
  put_small us p s x u q there e = ap (λ (y : UserState). cond (q == p) (Some y) (option_map user_of (at_pid us q))) e ∙ (mapped (q == p) x (at_pid us q) ∙ ap (option_map user_of) (set_at us p s x q there))

  more_small : (us : List Small) (n : ℕ) (x : Small) (q : ℕ) → n ≡ length us + 1 → cond (q == n) (Some (user_of x)) (option_map user_of (at_pid us q)) ≡ option_map user_of (at_pid (us ++ x ∷ []) q)
  more_small us n x q e = mapped (q == n) x (at_pid us q) ∙ ap (option_map user_of) (push_at us n x q e)

  joined : (m : State) (n : SmallState) → m.kernel ≡ n.kernel → ((q : ℕ) → m.users q ≡ option_map user_of (at_pid n.users q)) → m.replies ≡ n.replies → Some m ≡ Some (big n)
  joined m n kernel users replies = λ i. Some (record { kernel = kernel i; users = λ q. users q i; replies = replies i })

  same : (a b : ℕ) → (a == b) ≡ true → a ≡ b
  same a b e = grind (arith, nat_tests)

  and_parts : (a b : Bool) → (a && b) ≡ true → (a ≡ true) × (b ≡ true)
  and_parts true b e = (refl, e)
  and_parts false b e = absurd cc

  launched_goes : (m : SmallState) (a b : Bool) → has_room m.kernel ≡ a → (length m.users == given m.kernel) ≡ b → Goes (option_and_then (λ k. Some (with_user (machine never (plan_of script program)) (given m.kernel + 1) (user_of (record program { pid = given m.kernel + 1 })) (with_kernel (machine never (plan_of script program)) k (big m)))) (cond a (Some (with_process m.kernel)) None)) (cond (a && b) (Some (record { kernel = with_process m.kernel; users = m.users ++ record program { pid = given m.kernel + 1 } ∷ []; replies = m.replies })) None)
  launched_goes m true true e f = joined (with_user (machine never (plan_of script program)) (given m.kernel + 1) (user_of (record program { pid = given m.kernel + 1 })) (with_kernel (machine never (plan_of script program)) (with_process m.kernel) (big m))) _ refl (λ q. more_small m.users (given m.kernel + 1) (record program { pid = given m.kernel + 1 }) q (ap (λ (n : ℕ). n + 1) (sym (same (length m.users) (given m.kernel) f)))) refl
  launched_goes m true false e f = tt
  launched_goes m false b e f = tt

  launch_goes : (i : ℕ) (m : SmallState) (b : Bool) → (i == 0) ≡ b → Goes (machine_step (machine never (plan_of script program)) (Launch i) (big m)) (cond b (launch_small m) None)
  launch_goes i m false e = tt
  launch_goes i m true e =
      moved _ (machine_step (machine never (plan_of script program)) (Launch 0) (big m)) (launch_small m) (ap (λ (n : ℕ). machine_step (machine never (plan_of script program)) (Launch n) (big m)) (same i 0 e))
      (launched_goes m (has_room m.kernel) (length m.users == given m.kernel) refl refl)

  live_goes : (p : ℕ) (m : SmallState) (big_go : UserState → Option State) (go : Small → Option SmallState) → ((s : Small) → at_pid m.users p ≡ Some s → is_live m.kernel p ≡ true → Goes (big_go (user_of s)) (go s)) → Goes (cond (is_live m.kernel p) (option_and_then big_go (option_map user_of (at_pid m.users p))) None) (on_live p m go)
  live_goes p m big_go go h = by_live (is_live m.kernel p) refl
    where
      by_user : (o : Option Small) → at_pid m.users p ≡ o → is_live m.kernel p ≡ true → Goes (option_and_then big_go (option_map user_of o)) (option_and_then go o)
      by_user None e live = tt
      by_user (Some s) e live = h s e live

      by_live : (b : Bool) → is_live m.kernel p ≡ b → Goes (cond b (option_and_then big_go (option_map user_of (at_pid m.users p))) None) (cond b (option_and_then go (at_pid m.users p)) None)
      by_live true e = by_user (at_pid m.users p) refl e
      by_live false e = tt

  steps_goes : (p k : ℕ) (m : SmallState) (s : Small) → at_pid m.users p ≡ Some s → Goes (option_and_then (λ x. Some (with_user (machine never (plan_of script program)) p x (big m))) (advanced k (user_of s))) (steps_small p k m s)
  steps_goes p k m s there = go (many_steps k s) refl
    where
      go : (o : Option Small) → many_steps k s ≡ o → Goes (option_and_then (λ x. Some (with_user (machine never (plan_of script program)) p x (big m))) (advanced k (user_of s))) (option_map (with_small p m) o)
      go None e = tt
      go (Some t) e = ap (option_and_then (λ x. Some (with_user (machine never (plan_of script program)) p x (big m)))) (steps_go k s t e) ∙ joined (with_user (machine never (plan_of script program)) p (user_of t) (big m)) (with_small p m t) refl (λ q. put_small m.users p s t (user_of t) q there refl) refl

  -- what a process at a call asks
  asked_goes : (m : SmallState) (s : Small) (f : Request → Option State) (g : Request → Option SmallState) → ((r : Request) → Goes (f r) (g r)) → Goes (option_and_then f (request_of (user_of s))) (option_and_then g (asks_at s))
  asked_goes m s f g h = go (asks_at s) refl
    where
      go : (o : Option Request) → asks_at s ≡ o → Goes (option_and_then f (request_of (user_of s))) (option_and_then g o)
      go None e = tt
      go (Some r) e =
          let c = at_call s r e in
          moved _ (f r) (g r) (ap (λ (w : Went). option_and_then f (asked_at w (user_of s))) c.0 ∙ ap f c.1) (h r)

  child_goes : (s : Small) (o : Option ℕ) (M : State) (n : SmallState) → Some M ≡ Some (big n) → Goes (Some (with_child (machine never (plan_of script program)) (user_of s) o M)) (child_small s o n)
  child_goes s None M n e = e
  child_goes s (Some c) M n e = go (c == length n.users + 1) refl
    where
      is : M ≡ big n
      is = cc

      go : (b : Bool) → (c == length n.users + 1) ≡ b → Goes (Some (with_child (machine never (plan_of script program)) (user_of s) (Some c) M)) (cond b (Some (record n { users = n.users ++ forked_at s c ∷ [] })) None)
      go false f = tt
      go true f =
          ap (λ (x : State). let z : Option State = Some (with_user (machine never (plan_of script program)) c (forked (user_of s) c) x) in z) is
          ∙ joined (with_user (machine never (plan_of script program)) c (forked (user_of s) c) (big n)) (record n { users = n.users ++ forked_at s c ∷ [] }) refl (λ q. more_small n.users c (forked_at s c) q (same c (length n.users + 1) f)) refl

  done_goes : (p : ℕ) (m : SmallState) (s : Small) (r : Request) → at_pid m.users p ≡ Some s → (o : Option (Acted KernelState Answer)) → Goes (option_and_then (λ d. Some (with_child (machine never (plan_of script program)) (user_of s) d.child (with_user (machine never (plan_of script program)) p (returned (user_of s) d.answer) (with_reply (machine never (plan_of script program)) p r d.answer (with_kernel (machine never (plan_of script program)) d.kernel (big m)))))) o) (do_with p m s r o)
  done_goes p m s r there None = tt
  done_goes p m s r there (Some d) =
      child_goes s d.child (with_user (machine never (plan_of script program)) p (returned (user_of s) d.answer) (with_reply (machine never (plan_of script program)) p r d.answer (with_kernel (machine never (plan_of script program)) d.kernel (big m)))) (record { kernel = d.kernel; users = set_pid m.users p (returned_at s d.answer); replies = reply_small p r d.answer m.replies })
      (joined (with_user (machine never (plan_of script program)) p (returned (user_of s) d.answer) (with_reply (machine never (plan_of script program)) p r d.answer (with_kernel (machine never (plan_of script program)) d.kernel (big m)))) _ refl (λ q. put_small m.users p s (returned_at s d.answer) (returned (user_of s) d.answer) q there (returned_is s d.answer)) refl)

  not_zero : (b : Bool) (a : Option State) (o : Option SmallState) → Goes a o → Goes (cond b None a) (cond b None o)
  not_zero true a o g = tt
  not_zero false a o g = g

  broken_goes : (p : ℕ) (m : SmallState) (s : Small) (r : Request) → at_pid m.users p ≡ Some s → (o : Option (Acted KernelState Answer)) (d : Option ℕ) → Goes (option_and_then (λ signal. blocks (machine never (plan_of script program)) o (with_user (machine never (plan_of script program)) p (returned (user_of s) (value_answer EINTR)) (with_reply (machine never (plan_of script program)) p r (value_answer EINTR) (big m)))) d) (option_and_then (λ signal. break_with p m s r o) d)
  broken_goes p m s r there o None = tt
  broken_goes p m s r there (Some d) (Some signal) = tt
  broken_goes p m s r there None (Some signal) = joined (with_user (machine never (plan_of script program)) p (returned (user_of s) (value_answer EINTR)) (with_reply (machine never (plan_of script program)) p r (value_answer EINTR) (big m))) _ refl (λ q. put_small m.users p s (returned_at s (value_answer EINTR)) (returned (user_of s) (value_answer EINTR)) q there (returned_is s (value_answer EINTR))) refl

  take_goes : (p : ℕ) (m : SmallState) (d : Option ℕ) (o : Option Small) → at_pid m.users p ≡ o → Goes (option_and_then (λ signal. option_and_then (λ u. Some (with_user (machine never (plan_of script program)) p (entered_by u (taken_at m.kernel p (has_room_at u)).taken) (with_kernel (machine never (plan_of script program)) (taken_at m.kernel p (has_room_at u)).kernel (big m)))) (option_map user_of o)) d) (option_and_then (λ s. option_and_then (λ signal. Some (record { kernel = (taken_at m.kernel p (has_room_in s)).kernel; users = set_pid m.users p (entered_at s (taken_at m.kernel p (has_room_in s)).taken); replies = m.replies })) d) o)
  take_goes p m d None e = tt
  take_goes p m None (Some s) e = tt
  take_goes p m (Some signal) (Some s) e =
      ap (λ (b : Bool). let z : Option State = Some (with_user (machine never (plan_of script program)) p (entered_by (user_of s) (taken_at m.kernel p b).taken) (with_kernel (machine never (plan_of script program)) (taken_at m.kernel p b).kernel (big m))) in z) (room_here s)
      ∙ joined (with_user (machine never (plan_of script program)) p (entered_by (user_of s) (taken_at m.kernel p (has_room_in s)).taken) (with_kernel (machine never (plan_of script program)) (taken_at m.kernel p (has_room_in s)).kernel (big m))) _ refl (λ q. put_small m.users p s (entered_at s (taken_at m.kernel p (has_room_in s)).taken) (entered_by (user_of s) (taken_at m.kernel p (has_room_in s)).taken) q e (entered_is s (taken_at m.kernel p (has_room_in s)).taken)) refl

  step_goes : (step : Step) (m : SmallState) → Goes (machine_step (machine never (plan_of script program)) step (big m)) (small_step step m)
  step_goes (Launch i) m = launch_goes i m (i == 0) refl
  step_goes (Raise p signal) m = test (is_signal_number signal) _ (Some (record m { kernel = with_raised m.kernel p signal })) refl
  step_goes (Feed i) m = test (nat_lt i (length (texts script))) _ (Some (record m { kernel = fed_with (text_at (texts script) i) m.kernel })) refl
  step_goes Eof m = refl
  step_goes (Advance p k) m = test (nat_lt 0 k) _ (on_live p m (steps_small p k m)) (live_goes p m (λ u. option_and_then (λ x. Some (with_user (machine never (plan_of script program)) p x (big m))) (advanced k u)) (steps_small p k m) (λ s there live. steps_goes p k m s there))
  step_goes (Do p) m =
      live_goes p m (λ u. option_and_then (λ r. cond (r.number == 0) None (option_and_then (λ d. Some (with_child (machine never (plan_of script program)) u d.child (with_user (machine never (plan_of script program)) p (returned u d.answer) (with_reply (machine never (plan_of script program)) p r d.answer (with_kernel (machine never (plan_of script program)) d.kernel (big m)))))) (serve_at m.kernel p r))) (request_of u)) (do_small p m)
      (λ s there live. asked_goes m s _ (λ r. cond (r.number == 0) None (do_with p m s r (serve_at m.kernel p r))) (λ r. not_zero (r.number == 0) _ (do_with p m s r (serve_at m.kernel p r)) (done_goes p m s r there (serve_at m.kernel p r))))
  step_goes (Break p) m =
      live_goes p m (λ u. option_and_then (λ r. cond (r.number == 0) None (option_and_then (λ signal. blocks (machine never (plan_of script program)) (serve_at m.kernel p r) (with_user (machine never (plan_of script program)) p (returned u (value_answer EINTR)) (with_reply (machine never (plan_of script program)) p r (value_answer EINTR) (big m)))) (deliverable m.kernel p))) (request_of u)) (break_small p m)
      (λ s there live. asked_goes m s _ (λ r. cond (r.number == 0) None (option_and_then (λ signal. break_with p m s r (serve_at m.kernel p r)) (deliverable m.kernel p))) (λ r. not_zero (r.number == 0) _ (option_and_then (λ signal. break_with p m s r (serve_at m.kernel p r)) (deliverable m.kernel p)) (broken_goes p m s r there (serve_at m.kernel p r) (deliverable m.kernel p))))
  step_goes (Take p) m = take_goes p m (deliverable m.kernel p) (at_pid m.users p) refl
  step_goes (Fall p) m = tt

  steps_from : (steps : List Step) (m : SmallState) → Goes (machine_steps (machine never (plan_of script program)) steps (big m)) (small_steps steps m)
  steps_from [] m = refl
  steps_from (s ∷ steps) m = go (small_step s m) (step_goes s m) (λ n. steps_from steps n)
    where
      go : (o : Option SmallState) → Goes (machine_step (machine never (plan_of script program)) s (big m)) o → ((n : SmallState) → Goes (machine_steps (machine never (plan_of script program)) steps (big n)) (small_steps steps n)) → Goes (option_and_then (machine_steps (machine never (plan_of script program)) steps) (machine_step (machine never (plan_of script program)) s (big m))) (option_and_then (small_steps steps) o)
      go None g further = tt
      go (Some n) g further = moved _ (machine_steps (machine never (plan_of script program)) steps (big n)) (small_steps steps n) (ap (option_and_then (machine_steps (machine never (plan_of script program)) steps)) g) (further n)

  empty_is : empty (machine never (plan_of script program)) ≡ big nothing
  empty_is = λ i. record { kernel = no_process; users = λ q. none q i; replies = [] }
    where
      none : (q : ℕ) → None ≡ option_map user_of (at_pid (let us : List Small = [] in us) q)
      none zero = refl
      none (suc q) = refl

  -- what is computed here is what the machine plays
  pub plays : (steps : List Step) (n : SmallState) → small_steps steps nothing ≡ Some n → play (machine never (plan_of script program)) steps ≡ Some (big n)
  plays steps n e = ap (machine_steps (machine never (plan_of script program)) steps) empty_is ∙ subst (Goes (machine_steps (machine never (plan_of script program)) steps (big nothing))) e (steps_from steps nothing)
