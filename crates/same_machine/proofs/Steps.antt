-- Each step gives the same in both machines, and keeps a user state for each pid that was given.
use Rattle.std.proofs.Common.{◌≡◌, ◌≢◌, ◌⊎◌, inl, inr, ℕ, zero, suc, ◌+◌, ◌==◌, ◌&&◌, Bool, true, false, cond, not, Option, Some, None, List, [], ◌∷◌, ◌++◌, length, slice_get, refl, sym, ap, ◌∙◌, subst, arith, is_some}
use Rattle.std.specs.Prelude.{nat_lt, is_none, option_and_then, ℤ}
use Rattle.std.specs.Option.{option_map}
use Rattle.std.proofs.lemmas.Bool.Decides.{nat_tests}
use Rattle.std.proofs.lemmas.List.{length_push, append-nil}
use Rattle.call_table.specs.Calls.{is_signal_number}
use Rattle.call_table.specs.declared.error.TheConstants.{EINTR}
use Rattle.call_table.specs.declared.request.Request.{Request}
use Rattle.call_table.specs.declared.request.Answer.{Answer}
use Rattle.call_table.specs.declared.request.Kind.{Kind}
use Rattle.call_table.specs.declared.request.Kind.TheVariants.{Plain, Fork, Return}
use Rattle.call_table.specs.declared.process.End.TheVariants as ends
use Rattle.call_table.specs.declared.process.Reply3.{Reply3}
use Rattle.user_spec.specs.User.{UserState}
use Rattle.user_spec.specs.Request.{number_of, call_request, fault_request, returned, forked}
use Rattle.user_spec.specs.Advance.{Went, Done, AtCall, Faults, advance, advanced, request_of, asked_at}
use Rattle.user_spec.specs.Fits.{child_of, child_as, entered_by, has_room_at}
use Rattle.kernel_spec.specs.Pids.{at_pid, set_pid}
use Rattle.kernel_spec.specs.Kernel.{KernelState, Called, AfterTake, given, is_live, has_room, with_process, with_raised, with_end, deliverable, take_result, value_answer}
use Rattle.kernel_spec.specs.Calls.{call_result, broken}
use Rattle.kernel_spec.specs.Others.{child_after, counted as counted_by}
use Rattle.kernel_spec.proofs.PidLemmas.{length-set_pid}
use Rattle.kernel_spec.proofs.CallFacts.{call_leaves, end_leaves}
use Rattle.kernel_spec.proofs.KernelFacts.{given_launch, given_raise, deliverable_lives, take_leaves, take_of_none, take_of_some}
use Rattle.protocol.specs.Ops.{Ops, Acted}
use Rattle.run_laws.specs.Machine.{MachineState, launched, raised, fed, stepped, did, broke, took, fell, with_user, with_kernel, with_reply, with_child, blocks}
use Rattle.one_node.specs.Machine.{MachineState as OneState, live_user, with_answer, children, done_at, done_of, broken_at, broken_of, taken_of, with_taken, fallen, fault_of, signal_in, with_fall, steps_of, with_user as with_one, typed, asked_by, asked_of}
use Rattle.one_node.specs.Machine.{launched as one_launched, raised as one_raised, blocks as one_blocks, reply_of as one_reply, with_input}
use Rattle.node_machine.specs.Plan.{Plan, texts, text_at, user_at}
use Rattle.node_machine.specs.Machine.{Policy, machine, acted, serve_at, taken_at, took_as}
use Rattle.node_machine.proofs.Users.{call_number}
use Rattle.node_machine.proofs.Fitting.{serve_is, child_is}
use Rattle.same_machine.specs.Same.{seen_as, replies_of}
use Rattle.node_machine.proofs.Places.{set_at, push_at, At, Past, place, user_there, text_there}
use Rattle.same_machine.proofs.Lists.{reply_more}

-- a user state for each pid
abbrev pub Counted : OneState → Type 0
Counted m = length m.users ≡ given m.kernel

abbrev pub AllCounted : Option OneState → Type 0
AllCounted None = Unit {0}
AllCounted (Some m) = Counted m

-- a test of what is not zero
above_zero : (k : ℕ) → nat_lt 0 k ≡ not (k == 0)
above_zero zero = refl
above_zero (suc k) = grind (arith, nat_tests)

module _ (policy : Policy) (plan : Plan) where
  abbrev pub State : Type 0
  State = MachineState (machine policy plan)

  pub record Joined (a : Option State) (b : Option OneState) : Type 0 where
    pub same : a ≡ option_map (seen_as policy plan) b
    pub counted : AllCounted b

  neither : Joined None None
  neither = record { same = refl; counted = tt }

  moved : (a x : Option State) (b y : Option OneState) → a ≡ x → b ≡ y → Joined x y → Joined a b
  moved a x b y e f j = record { same = e ∙ (j.same ∙ sym (ap (option_map (seen_as policy plan)) f)); counted = subst AllCounted (sym f) j.counted }

  joined : (m : State) (n : OneState) → m.kernel ≡ n.kernel → ((q : ℕ) → m.users q ≡ at_pid n.users q) → m.replies ≡ replies_of n.replies → Counted n → Joined (Some m) (Some n)
  joined m n kernel users replies counted = record { same = λ i. Some (record { kernel = kernel i; users = λ q. users q i; replies = replies i }); counted = counted }

  -- ---- launches, signals and input

  launch_there : (m : OneState) → Counted m → (i : ℕ) (u : UserState) → slice_get plan.users i ≡ Some u → (b : Bool) → Joined (option_and_then (λ k. Some (with_user (machine policy plan) (given m.kernel + 1) (user_at plan.users i (given m.kernel + 1)) (with_kernel (machine policy plan) k (seen_as policy plan m)))) (cond b (Some (with_process m.kernel)) None)) (cond b (Some (record { kernel = with_process m.kernel; users = m.users ++ record u { pid = given m.kernel + 1 } ∷ []; replies = m.replies })) None)
  launch_there m counted i u there false = neither
  launch_there m counted i u there true =
      joined (with_user (machine policy plan) (given m.kernel + 1) (user_at plan.users i (given m.kernel + 1)) (with_kernel (machine policy plan) (with_process m.kernel) (seen_as policy plan m))) _ refl
      (λ q. ap (λ (x : UserState). cond (q == given m.kernel + 1) (Some x) (at_pid m.users q)) (user_there plan.users i (given m.kernel + 1) u there) ∙ push_at m.users (given m.kernel + 1) (record u { pid = given m.kernel + 1 }) q (ap (λ (n : ℕ). n + 1) (sym counted)))
      refl
      (length_push m.users _ ∙ (ap (λ (n : ℕ). n + 1) counted ∙ sym (given_launch m.kernel)))

  pub launch_same : (m : OneState) → Counted m → (i : ℕ) → Joined (launched (machine policy plan) i (seen_as policy plan m)) (one_launched (slice_get plan.users i) m)
  launch_same m counted i = go (place plan.users i)
    where
      go : ((u : UserState) × At plan.users i u) ⊎ Past plan.users i → Joined (launched (machine policy plan) i (seen_as policy plan m)) (one_launched (slice_get plan.users i) m)
      go (inl (u, a)) =
          moved _ _ _ _
          (ap (λ (b : Bool). cond b (option_and_then (λ k. Some (with_user (machine policy plan) (given m.kernel + 1) (user_at plan.users i (given m.kernel + 1)) (with_kernel (machine policy plan) k (seen_as policy plan m)))) (cond (has_room m.kernel) (Some (with_process m.kernel)) None)) None) a.below)
          (ap (λ (o : Option UserState). one_launched o m) a.is)
          (launch_there m counted i u a.is (has_room m.kernel))
      go (inr a) =
          moved _ _ _ _
          (ap (λ (b : Bool). cond b (option_and_then (λ k. Some (with_user (machine policy plan) (given m.kernel + 1) (user_at plan.users i (given m.kernel + 1)) (with_kernel (machine policy plan) k (seen_as policy plan m)))) (cond (has_room m.kernel) (Some (with_process m.kernel)) None)) None) a.above)
          (ap (λ (o : Option UserState). one_launched o m) a.none)
          neither

  pub raise_same : (m : OneState) → Counted m → (p s : ℕ) → Joined (raised (machine policy plan) p s (seen_as policy plan m)) (one_raised m p s)
  raise_same m counted p s = go (is_signal_number s)
    where
      go : (b : Bool) → Joined (cond b (Some (with_kernel (machine policy plan) (with_raised m.kernel p s) (seen_as policy plan m))) None) (cond b (Some (record m { kernel = with_raised m.kernel p s })) None)
      go false = neither
      go true = joined (with_kernel (machine policy plan) (with_raised m.kernel p s) (seen_as policy plan m)) _ refl (λ q. refl) refl (counted ∙ sym (given_raise m.kernel p s))

  pub feed_same : (m : OneState) → Counted m → (i : ℕ) → Joined (fed (machine policy plan) i (seen_as policy plan m)) (typed (slice_get (texts plan.script) i) m)
  feed_same m counted i = go (place (texts plan.script) i)
    where
      go : ((t : List ℕ) × At (texts plan.script) i t) ⊎ Past (texts plan.script) i → Joined (fed (machine policy plan) i (seen_as policy plan m)) (typed (slice_get (texts plan.script) i) m)
      go (inl (t, a)) =
          moved _ _ _ _
          ((λ j. cond (a.below j) (Some (with_kernel (machine policy plan) (record m.kernel { input = Rattle.kernel_spec.specs.Kernel.fed (text_there (texts plan.script) i t a.is j) m.kernel.input }) (seen_as policy plan m))) None))
          (ap (λ (o : Option (List ℕ)). typed o m) a.is)
          (joined (with_kernel (machine policy plan) (record m.kernel { input = Rattle.kernel_spec.specs.Kernel.fed t m.kernel.input }) (seen_as policy plan m)) _ refl (λ q. refl) refl counted)
      go (inr a) =
          moved _ _ _ _
          (ap (λ (b : Bool). cond b (Some (with_kernel (machine policy plan) (record m.kernel { input = Rattle.kernel_spec.specs.Kernel.fed (text_at (texts plan.script) i) m.kernel.input }) (seen_as policy plan m))) None) a.above)
          (ap (λ (o : Option (List ℕ)). typed o m) a.none)
          neither

  -- ---- steps of a process

  steps_there : (m : OneState) → Counted m → (p k : ℕ) (u : UserState) → at_pid m.users p ≡ Some u → (o : Option UserState) → Joined (option_and_then (λ x. Some (with_user (machine policy plan) p x (seen_as policy plan m))) o) (option_map (with_one m p) o)
  steps_there m counted p k u there None = neither
  steps_there m counted p k u there (Some x) = joined (with_user (machine policy plan) p x (seen_as policy plan m)) _ refl (λ q. set_at m.users p u x q there) refl (length-set_pid m.users p x ∙ counted)

  steps_user : (m : OneState) → Counted m → (p k : ℕ) (o : Option UserState) → at_pid m.users p ≡ o → Joined (option_and_then (λ u. option_and_then (λ x. Some (with_user (machine policy plan) p x (seen_as policy plan m))) (advanced k u)) o) (option_map (with_one m p) (option_and_then (advanced k) o))
  steps_user m counted p k None e = neither
  steps_user m counted p k (Some u) e = steps_there m counted p k u e (advanced k u)

  steps_live : (m : OneState) → Counted m → (p k : ℕ) (b : Bool) → Joined (cond b (option_and_then (λ u. option_and_then (λ x. Some (with_user (machine policy plan) p x (seen_as policy plan m))) (advanced k u)) (at_pid m.users p)) None) (option_map (with_one m p) (option_and_then (advanced k) (cond b (at_pid m.users p) None)))
  steps_live m counted p k false = neither
  steps_live m counted p k true = steps_user m counted p k (at_pid m.users p) refl

  pub steps_same : (m : OneState) → Counted m → (p k : ℕ) → Joined (stepped (machine policy plan) p k (seen_as policy plan m)) (steps_of m p k (live_user m p))
  steps_same m counted p k =
      moved _ _ _ _
      (ap (λ (b : Bool). cond b (cond (is_live m.kernel p) (option_and_then (λ u. option_and_then (λ x. Some (with_user (machine policy plan) p x (seen_as policy plan m))) (advanced k u)) (at_pid m.users p)) None) None) (above_zero k))
      refl
      (go (k == 0))
    where
      go : (b : Bool) → Joined (cond (not b) (cond (is_live m.kernel p) (option_and_then (λ u. option_and_then (λ x. Some (with_user (machine policy plan) p x (seen_as policy plan m))) (advanced k u)) (at_pid m.users p)) None) None) (cond b None (option_map (with_one m p) (option_and_then (advanced k) (live_user m p))))
      go true = neither
      go false = steps_live m counted p k (is_live m.kernel p)

  -- ---- what an answer makes

  -- no child, or the next one
  abbrev Born : UserState → ℕ → Option ℕ → List UserState → List UserState → Type 0
  Born u n o us xs = ((o ≡ None) × (us ≡ []) × (length xs ≡ n)) ⊎ ((o ≡ Some n) × (us ≡ forked u n ∷ []) × (n ≡ length xs + 1))

  with_children : (M : State) (k : KernelState) (xs us : List UserState) (rs : List Reply3) (u : UserState) (o : Option ℕ) → Born u (given k) o us xs → M.kernel ≡ k → ((q : ℕ) → M.users q ≡ at_pid xs q) → M.replies ≡ replies_of rs → Joined (Some (with_child (machine policy plan) u o M)) (Some (record { kernel = k; users = xs ++ us; replies = rs }))
  with_children M k xs us rs u o (inl (e, f, n)) kernel users replies =
      moved _ _ _ _
      (ap (λ (c : Option ℕ). let z : Option State = Some (with_child (machine policy plan) u c M) in z) e)
      (ap (λ (ys : List UserState). let z : Option OneState = Some (record { kernel = k; users = ys; replies = rs }) in z) (ap (λ (ys : List UserState). xs ++ ys) f ∙ append-nil xs))
      (joined M (record { kernel = k; users = xs; replies = rs }) kernel users replies n)
  with_children M k xs us rs u o (inr (e, f, n)) kernel users replies =
      moved _ _ _ _
      (ap (λ (c : Option ℕ). let z : Option State = Some (with_child (machine policy plan) u c M) in z) e)
      (ap (λ (ys : List UserState). let z : Option OneState = Some (record { kernel = k; users = xs ++ ys; replies = rs }) in z) f)
      (joined (with_user (machine policy plan) (given k) (forked u (given k)) M) (record { kernel = k; users = xs ++ forked u (given k) ∷ []; replies = rs }) kernel
      (λ q. ap (λ (x : Option UserState). cond (q == given k) (Some (forked u (given k))) x) (users q) ∙ push_at xs (given k) (forked u (given k)) q n)
      replies
      (length_push xs _ ∙ sym n))

  born : (m : OneState) → Counted m → (p : ℕ) (u : UserState) (r : Request) (c : Called) → call_result m.kernel p r ≡ Some c → Born u (given c.kernel) (child_of c.answer) (children c.answer.kind u (given c.kernel)) (set_pid m.users p (returned u c.answer))
  born m counted p u r c e = go c.answer.kind (child_is m.kernel p r c e) (call_leaves m.kernel p r c e).others.count
    where
      here : length (set_pid m.users p (returned u c.answer)) ≡ given m.kernel
      here = length-set_pid m.users p (returned u c.answer) ∙ counted

      go : (kind : Kind) → child_as kind c.answer.value ≡ child_after kind (given m.kernel) → given c.kernel ≡ counted_by (child_after kind (given m.kernel)) (given m.kernel) → Born u (given c.kernel) (child_as kind c.answer.value) (children kind u (given c.kernel)) (set_pid m.users p (returned u c.answer))
      go Plain child count = inl (refl, refl, here ∙ sym count)
      go Fork child count = inr (child ∙ ap (λ (n : ℕ). let z : Option ℕ = Some n in z) (sym count), refl, count ∙ ap (λ (n : ℕ). n + 1) (sym here))
      go Return child count = inl (refl, refl, here ∙ sym count)

  -- ---- calls

  abbrev done : ℕ → OneState → UserState → Request → Acted KernelState Answer → Option State
  done p m u r d = Some (with_child (machine policy plan) u d.child (with_user (machine policy plan) p (returned u d.answer) (with_reply (machine policy plan) p r d.answer (with_kernel (machine policy plan) d.kernel (seen_as policy plan m)))))

  do_result : (m : OneState) → Counted m → (p : ℕ) (u : UserState) (r : Request) → at_pid m.users p ≡ Some u → (o : Option Called) → call_result m.kernel p r ≡ o → Joined (option_and_then (done p m u r) (option_map acted o)) (option_map (with_answer m p u r) o)
  do_result m counted p u r there None e = neither
  do_result m counted p u r there (Some c) e =
      with_children (with_user (machine policy plan) p (returned u c.answer) (with_reply (machine policy plan) p r c.answer (with_kernel (machine policy plan) c.kernel (seen_as policy plan m)))) c.kernel (set_pid m.users p (returned u c.answer)) (children c.answer.kind u (given c.kernel)) (m.replies ++ one_reply p r c.answer ∷ []) u (child_of c.answer)
      (born m counted p u r c e) refl (λ q. set_at m.users p u (returned u c.answer) q there) (reply_more m.replies (one_reply p r c.answer))

  do_call : (m : OneState) → Counted m → (p : ℕ) (u : UserState) → is_live m.kernel p ≡ true → at_pid m.users p ≡ Some u → (number_of u == 0) ≡ false → Joined (cond (number_of u == 0) None (option_and_then (done p m u (call_request u)) (serve_at m.kernel p (call_request u)))) (option_map (with_answer m p u (call_request u)) (call_result m.kernel p (call_request u)))
  do_call m counted p u live there number =
      moved _ _ _ _
      (ap (λ (b : Bool). cond b None (option_and_then (done p m u (call_request u)) (serve_at m.kernel p (call_request u)))) number ∙ ap (option_and_then (done p m u (call_request u))) (serve_is m.kernel p (call_request u) live (not_zero number)))
      refl
      (do_result m counted p u (call_request u) there (call_result m.kernel p (call_request u)) refl)
    where
      not_zero : (number_of u == 0) ≡ false → number_of u ≢ 0
      not_zero e f = let z : true ≡ false = ap (λ (n : ℕ). n == 0) (sym f) ∙ e in cc

  abbrev do_asked : ℕ → OneState → UserState → Request → Option State
  do_asked p m u r = cond (r.number == 0) None (option_and_then (done p m u r) (serve_at m.kernel p r))

  do_went : (m : OneState) → Counted m → (p : ℕ) (u : UserState) → is_live m.kernel p ≡ true → at_pid m.users p ≡ Some u → (w : Went) → advance u ≡ w → Joined (option_and_then (do_asked p m u) (asked_at w u)) (done_at m p u (asked_by w u))
  do_went m counted p u live there (Done v) e = neither
  do_went m counted p u live there AtCall e = do_call m counted p u live there (call_number u e)
  do_went m counted p u live there (Faults s) e = neither

  do_user : (m : OneState) → Counted m → (p : ℕ) → is_live m.kernel p ≡ true → (o : Option UserState) → at_pid m.users p ≡ o → Joined (option_and_then (λ u. option_and_then (do_asked p m u) (request_of u)) o) (done_of m p o)
  do_user m counted p live None e = neither
  do_user m counted p live (Some u) e = do_went m counted p u live e (advance u) refl

  pub do_same : (m : OneState) → Counted m → (p : ℕ) → Joined (did (machine policy plan) p (seen_as policy plan m)) (done_of m p (live_user m p))
  do_same m counted p = go (is_live m.kernel p) refl
    where
      go : (b : Bool) → is_live m.kernel p ≡ b → Joined (cond b (option_and_then (λ u. option_and_then (do_asked p m u) (request_of u)) (at_pid m.users p)) None) (done_of m p (cond b (at_pid m.users p) None))
      go false e = neither
      go true e = do_user m counted p e (at_pid m.users p) refl

  -- ---- calls that are broken off

  abbrev cut : ℕ → OneState → UserState → Request → State
  cut p m u r = with_user (machine policy plan) p (returned u (value_answer EINTR)) (with_reply (machine policy plan) p r (value_answer EINTR) (seen_as policy plan m))

  break_result : (m : OneState) → Counted m → (p : ℕ) (u : UserState) (r : Request) → at_pid m.users p ≡ Some u → (o : Option Called) (d : Option ℕ) → Joined (option_and_then (λ s. blocks (machine policy plan) (option_map acted o) (cut p m u r)) d) (cond (is_none o && is_some d) (Some (with_answer m p u r (broken m.kernel))) None)
  break_result m counted p u r there None None = neither
  break_result m counted p u r there (Some c) None = neither
  break_result m counted p u r there (Some c) (Some s) = neither
  break_result m counted p u r there None (Some s) =
      with_children (cut p m u r) m.kernel (set_pid m.users p (returned u (value_answer EINTR))) [] (m.replies ++ one_reply p r (value_answer EINTR) ∷ []) u None
      (inl (refl, refl, length-set_pid m.users p (returned u (value_answer EINTR)) ∙ counted)) refl (λ q. set_at m.users p u (returned u (value_answer EINTR)) q there) (reply_more m.replies (one_reply p r (value_answer EINTR)))

  abbrev break_asked : ℕ → OneState → UserState → Request → Option State
  break_asked p m u r = cond (r.number == 0) None (option_and_then (λ s. blocks (machine policy plan) (serve_at m.kernel p r) (cut p m u r)) (deliverable m.kernel p))

  break_call : (m : OneState) → Counted m → (p : ℕ) (u : UserState) → is_live m.kernel p ≡ true → at_pid m.users p ≡ Some u → (number_of u == 0) ≡ false → Joined (break_asked p m u (call_request u)) (broken_at m p u (Some (call_request u)))
  break_call m counted p u live there number =
      moved _ _ _ _
      (ap (λ (b : Bool). cond b None (option_and_then (λ s. blocks (machine policy plan) (serve_at m.kernel p (call_request u)) (cut p m u (call_request u))) (deliverable m.kernel p))) number ∙ ap (λ (o : Option (Acted KernelState Answer)). option_and_then (λ s. blocks (machine policy plan) o (cut p m u (call_request u))) (deliverable m.kernel p)) (serve_is m.kernel p (call_request u) live (not_zero number)))
      refl
      (break_result m counted p u (call_request u) there (call_result m.kernel p (call_request u)) (deliverable m.kernel p))
    where
      not_zero : (number_of u == 0) ≡ false → number_of u ≢ 0
      not_zero e f = let z : true ≡ false = ap (λ (n : ℕ). n == 0) (sym f) ∙ e in cc

  break_went : (m : OneState) → Counted m → (p : ℕ) (u : UserState) → is_live m.kernel p ≡ true → at_pid m.users p ≡ Some u → (w : Went) → advance u ≡ w → Joined (option_and_then (break_asked p m u) (asked_at w u)) (broken_at m p u (asked_by w u))
  break_went m counted p u live there (Done v) e = neither
  break_went m counted p u live there AtCall e = break_call m counted p u live there (call_number u e)
  break_went m counted p u live there (Faults s) e = neither

  break_user : (m : OneState) → Counted m → (p : ℕ) → is_live m.kernel p ≡ true → (o : Option UserState) → at_pid m.users p ≡ o → Joined (option_and_then (λ u. option_and_then (break_asked p m u) (request_of u)) o) (broken_of m p o)
  break_user m counted p live None e = neither
  break_user m counted p live (Some u) e = break_went m counted p u live e (advance u) refl

  pub break_same : (m : OneState) → Counted m → (p : ℕ) → Joined (broke (machine policy plan) p (seen_as policy plan m)) (broken_of m p (live_user m p))
  break_same m counted p = go (is_live m.kernel p) refl
    where
      go : (b : Bool) → is_live m.kernel p ≡ b → Joined (cond b (option_and_then (λ u. option_and_then (break_asked p m u) (request_of u)) (at_pid m.users p)) None) (broken_of m p (cond b (at_pid m.users p) None))
      go false e = neither
      go true e = break_user m counted p e (at_pid m.users p) refl

  -- ---- signals that are taken

  take_made : (m : OneState) → Counted m → (p : ℕ) (u : UserState) → at_pid m.users p ≡ Some u → (o : Option AfterTake) → take_result m.kernel p (has_room_at u) ≡ o → (a : AfterTake) → o ≡ Some a → Joined (Some (with_user (machine policy plan) p (entered_by u (took_as m.kernel o).taken) (with_kernel (machine policy plan) (took_as m.kernel o).kernel (seen_as policy plan m)))) (option_map (with_taken m p u) o)
  take_made m counted p u there None e a f = absurd cc
  take_made m counted p u there (Some a) e b f = joined (with_user (machine policy plan) p (entered_by u a.taken) (with_kernel (machine policy plan) a.kernel (seen_as policy plan m))) _ refl (λ q. set_at m.users p u (entered_by u a.taken) q there) refl (length-set_pid m.users p (entered_by u a.taken) ∙ (counted ∙ sym (take_leaves m.kernel p (has_room_at u) a e).count))

  take_user : (m : OneState) → Counted m → (p s : ℕ) → deliverable m.kernel p ≡ Some s → (o : Option UserState) → at_pid m.users p ≡ o → Joined (option_and_then (λ u. Some (with_user (machine policy plan) p (entered_by u (taken_at m.kernel p (has_room_at u)).taken) (with_kernel (machine policy plan) (taken_at m.kernel p (has_room_at u)).kernel (seen_as policy plan m)))) o) (taken_of m p o)
  take_user m counted p s low None e = neither
  take_user m counted p s low (Some u) e = let t = take_of_some m.kernel p s (has_room_at u) low in take_made m counted p u e (take_result m.kernel p (has_room_at u)) refl _ t.2

  no_take : (m : OneState) (p : ℕ) → deliverable m.kernel p ≡ None → (o : Option UserState) → taken_of m p o ≡ None
  no_take m p low None = refl
  no_take m p low (Some u) = ap (option_map (with_taken m p u)) (take_of_none m.kernel p (has_room_at u) low)

  pub take_same : (m : OneState) → Counted m → (p : ℕ) → Joined (took (machine policy plan) p (seen_as policy plan m)) (taken_of m p (live_user m p))
  take_same m counted p = go (deliverable m.kernel p) refl
    where
      go : (d : Option ℕ) → deliverable m.kernel p ≡ d → Joined (option_and_then (λ s. option_and_then (λ u. Some (with_user (machine policy plan) p (entered_by u (taken_at m.kernel p (has_room_at u)).taken) (with_kernel (machine policy plan) (taken_at m.kernel p (has_room_at u)).kernel (seen_as policy plan m)))) (at_pid m.users p)) d) (taken_of m p (live_user m p))
      go None e = moved _ _ _ _ refl (no_take m p e (live_user m p)) neither
      go (Some s) e = moved _ _ _ _ refl (ap (λ (b : Bool). taken_of m p (cond b (at_pid m.users p) None)) (deliverable_lives m.kernel p s e)) (take_user m counted p s e (at_pid m.users p) refl)

  -- ---- faults

  abbrev fall_asked : ℕ → OneState → Request → Option State
  fall_asked p m r = cond (r.number == 0) (Some (with_kernel (machine policy plan) (with_end m.kernel p (ends.Signal (Rattle.std.specs.Prelude.slice_index r.args 0))) (seen_as policy plan m))) None

  fall_went : (m : OneState) → Counted m → (p : ℕ) (u : UserState) (w : Went) → advance u ≡ w → Joined (option_and_then (fall_asked p m) (asked_at w u)) (option_map (with_fall m p) (signal_in w))
  fall_went m counted p u (Done v) e = neither
  fall_went m counted p u AtCall e = moved _ _ _ _ (ap (λ (b : Bool). cond b (Some (with_kernel (machine policy plan) (with_end m.kernel p (ends.Signal (Rattle.std.specs.Prelude.slice_index (call_request u).args 0))) (seen_as policy plan m))) None) (call_number u e)) refl neither
  fall_went m counted p u (Faults s) e = joined (with_kernel (machine policy plan) (with_end m.kernel p (ends.Signal s)) (seen_as policy plan m)) _ refl (λ q. refl) refl (counted ∙ sym (end_leaves m.kernel p (ends.Signal s)).count)

  fall_user : (m : OneState) → Counted m → (p : ℕ) (o : Option UserState) → Joined (option_and_then (λ u. option_and_then (fall_asked p m) (request_of u)) o) (fallen m p o)
  fall_user m counted p None = neither
  fall_user m counted p (Some u) = fall_went m counted p u (advance u) refl

  pub fall_same : (m : OneState) → Counted m → (p : ℕ) → Joined (fell (machine policy plan) p (seen_as policy plan m)) (fallen m p (live_user m p))
  fall_same m counted p = go (is_live m.kernel p)
    where
      go : (b : Bool) → Joined (cond b (option_and_then (λ u. option_and_then (fall_asked p m) (request_of u)) (at_pid m.users p)) None) (fallen m p (cond b (at_pid m.users p) None))
      go false = neither
      go true = fall_user m counted p (at_pid m.users p)

  pub eof_same : (m : OneState) → Counted m → Joined (Some (with_kernel (machine policy plan) (record m.kernel { input = record m.kernel.input { ended = true } }) (seen_as policy plan m))) (Some (with_input m (record m.kernel.input { ended = true })))
  eof_same m counted = joined (with_kernel (machine policy plan) (record m.kernel { input = record m.kernel.input { ended = true } }) (seen_as policy plan m)) _ refl (λ q. refl) refl counted
