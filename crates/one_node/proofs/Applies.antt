-- What the calls on the system leave, as steps of the machine.
use Rattle.std.proofs.Common.{◌≡◌, ℕ, ◌-◌, ◌≤◌, List, [], ◌∷◌, ◌++◌, length, cond, ◌&&◌, slice_get, slice_set, refl, ap, ◌∙◌, sym, subst, Option, Some, None, Bool, true, false, is_none, is_some}
use Rattle.std.specs.Option.{option_map, option_and_then}
use Rattle.std.proofs.lemmas.List.{append-nil}
use Rattle.std.proofs.lemmas.Option.{none-some}
use Rattle.call_table.specs.declared.error.TheConstants.{EINTR}
use Rattle.call_table.specs.declared.process.End.TheVariants as ends
use Rattle.call_table.specs.declared.process.Reply3.{Reply3}
use Rattle.call_table.specs.declared.request.Request.{Request}
use Rattle.call_table.specs.declared.request.Answer.{Answer}
use Rattle.call_table.specs.declared.request.Taken.{Taken}
use Rattle.user_spec.specs.User.{UserState}
use Rattle.user_spec.specs.Request.{returned}
use Rattle.user_spec.specs.Advance.{Went, Done, AtCall, Faults, advance}
use Rattle.kernel_spec.specs.Pids.{at_pid, set_pid}
use Rattle.kernel_spec.specs.Kernel.{KernelState, Called, given, is_live, with_end, value_answer, deliverable, take_result, raised_by_end}
use Rattle.kernel_spec.specs.Calls.{call_result, broken}
use Rattle.user_ctx.specs.Calling.{AsksCall}
use Rattle.home_kernel.specs.Serving.{IsLive}
use Rattle.one_node.specs.Machine.{MachineState, live_user, asked_by, asked_of, reply_of, children, with_answer, done_of, done_at, blocks, broken_of, broken_at, user_taking, with_taken, taken_of, has_room_at, fault_of, with_fall, fallen, value_in, value_gained, Moves}
use Rattle.one_node.specs.Going.{copied_for, HasChild, child_in}
use Rattle.one_node.specs.Applying.{raised_in_call, raised_by_asked, raised_by_call, raised_in_take, raised_by_taken, raised_by_take, AppliedAs}
use Rattle.one_node.specs.declared.home.Applied.{Applied}
use Rattle.one_node.specs.declared.home.Applied.TheVariants.{Not, Did}
use Rattle.one_node.proofs.Lives.{state_of, user_here, dead, set_at, live_low}
use Rattle.one_node.proofs.Children.{has_child, child_is}

same_some : {A : Type 0} (x y : A) → ◌≡◌ {A = Option A} (Some x) (Some y) → x ≡ y
same_some x y h = cc

-- ---- the value that the replies gain

get_behind : (rs : List Reply3) (r : Reply3) → slice_get (rs ++ r ∷ []) (length rs) ≡ Some r
get_behind [] r = refl
get_behind (x ∷ rs) r = get_behind rs r

get_past : (rs : List Reply3) → slice_get rs (length rs) ≡ None
get_past [] = refl
get_past (x ∷ rs) = get_past rs

pub none_gained : (m n : MachineState) → n.replies ≡ m.replies → value_gained m n ≡ None
none_gained m n h = ap (λ rs. option_map value_in (slice_get rs (length m.replies))) h ∙ ap (option_map value_in) (get_past m.replies)

one_gained : (m n : MachineState) (r : Reply3) → n.replies ≡ m.replies ++ r ∷ [] → value_gained m n ≡ Some r.value
one_gained m n r h = ap (λ rs. option_map value_in (slice_get rs (length m.replies))) h ∙ ap (option_map value_in) (get_behind m.replies r)

-- ---- a step without a reply

moved_as : (m n : MachineState) (o : Option MachineState) (b : Bool) → Moves b o n → n.replies ≡ m.replies → AppliedAs (cond b (Did None None) Not) o None m n
moved_as m n o true h same = (h, refl, sym (none_gained m n same))
moved_as m n o false h same = h

pub applied_moved : (m n : MachineState) (o : Option MachineState) (b : Bool) (a : Applied) → a ≡ cond b (Did None None) Not → Moves b o n → n.replies ≡ m.replies → AppliedAs a o None m n
applied_moved m n o b a e h same = subst (λ x. AppliedAs x o None m n) (sym e) (moved_as m n o b h same)

-- one that was made
pub applied_did : (m n : MachineState) (o : Option MachineState) (raised at : Option ℕ) (a : Applied) → a ≡ Did raised None → o ≡ Some n → raised ≡ at → n.replies ≡ m.replies → AppliedAs a o at m n
applied_did m n o raised at a e made where_raised same =
    let own : AppliedAs (Did raised None) o at m n = (made, where_raised, sym (none_gained m n same)) in
    subst (λ x. AppliedAs x o at m n) (sym e) own

applied_reply : (m n : MachineState) (o : Option MachineState) (raised at : Option ℕ) (r : Reply3) (a : Applied) → a ≡ Did raised (Some r.value) → o ≡ Some n → raised ≡ at → n.replies ≡ m.replies ++ r ∷ [] → AppliedAs a o at m n
applied_reply m n o raised at r a e made where_raised more =
    let own : AppliedAs (Did raised (Some r.value)) o at m n = (made, where_raised, sym (one_gained m n r more)) in
    subst (λ x. AppliedAs x o at m n) (sym e) own

pub applied_not : (m n : MachineState) (o : Option MachineState) (at : Option ℕ) (a : Applied) → a ≡ Not → o ≡ None → AppliedAs a o at m n
applied_not m n o at a e none = subst (λ x. AppliedAs x o at m n) (sym e) (let own : AppliedAs Not o at m n = none in own)

-- ---- what a process asks

asked_as : (w : Went) (u : UserState) (o : Option Request) → advance u ≡ w → AsksCall o u → asked_by w u ≡ o
asked_as AtCall u None e h = absurd (h e)
asked_as AtCall u (Some asked) e h = ap (λ (r : Request). Some r) (sym h.1)
asked_as (Done v) u None e h = refl
asked_as (Done v) u (Some asked) e h = absurd (let f : Done v ≡ AtCall = sym e ∙ h.0 in cc)
asked_as (Faults signal) u None e h = refl
asked_as (Faults signal) u (Some asked) e h = absurd (let f : Faults signal ≡ AtCall = sym e ∙ h.0 in cc)

pub asked_is : (u : UserState) (o : Option Request) → AsksCall o u → asked_of u ≡ o
asked_is u o h = asked_as (advance u) u o refl h

pub asked_in : (k : KernelState) (users : List UserState) (replies : List Reply3) (m : MachineState) (pid i : ℕ) (o : Option Request) → state_of k users replies ≡ m → 1 ≤ pid → IsLive k pid → i ≡ pid - 1
    → option_and_then asked_of (slice_get users i) ≡ o → option_and_then asked_of (live_user m pid) ≡ o
asked_in k users replies m pid i o is low live at h = ap (option_and_then asked_of) (user_here k users replies m pid i is low live at) ∙ h

pub asked_dead : (m : MachineState) (pid : ℕ) → is_live m.kernel pid ≡ false → option_and_then asked_of (live_user m pid) ≡ None
asked_dead m pid h = ap (option_and_then asked_of) (dead m pid h)

lives_if : (b : Bool) (u : Option UserState) (r : Request) → option_and_then asked_of (cond b u None) ≡ Some r → b ≡ true
lives_if true u r h = refl
lives_if false u r h = absurd (none-some r h)

-- a process that asks is live
pub asked_lives : (m : MachineState) (pid : ℕ) (r : Request) → option_and_then asked_of (live_user m pid) ≡ Some r → is_live m.kernel pid ≡ true
asked_lives m pid r h = lives_if (is_live m.kernel pid) (at_pid m.users pid) r h

-- ---- a call that is served

done_on : (k after : KernelState) (us us1 : List UserState) (rs : List Reply3) (pid i newest : ℕ) (r : Request) (c : Called) (child : Option UserState) (o : Option UserState) → 1 ≤ pid → i ≡ pid - 1
    → option_and_then asked_of o ≡ Some r → call_result k pid r ≡ Some c → newest ≡ given c.kernel → option_and_then (copied_for r.number) o ≡ child
    → option_map (λ u. slice_set us i (returned u c.answer)) o ≡ Some us1
    → done_of (state_of k us rs) pid o ≡ Some (state_of c.kernel (us1 ++ child_in c.answer.kind child newest) (rs ++ reply_of pid r c.answer ∷ []))
done_on k after us us1 rs pid i newest r c child None low at asked called count copy gave = absurd (none-some r asked)
done_on k after us us1 rs pid i newest r c child (Some u) low at asked called count copy gave =
    let x = state_of k us rs in
    let ours : us1 ≡ set_pid us pid (returned u c.answer) = sym (same_some _ _ gave) ∙ set_at us pid i (returned u c.answer) low at in
    let theirs : child_in c.answer.kind child newest ≡ children c.answer.kind u (given c.kernel) =
    ap (λ y. child_in c.answer.kind y newest) (sym copy) ∙ child_is k pid r c u newest called ∙ ap (children c.answer.kind u) count in
    ap (done_at x pid u) asked
    ∙ ap (option_map (with_answer x pid u r)) called
    ∙ ap (λ ys. Some (state_of c.kernel (ys ++ children c.answer.kind u (given c.kernel)) (rs ++ reply_of pid r c.answer ∷ []))) (sym ours)
    ∙ ap (λ ys. Some (state_of c.kernel (us1 ++ ys) (rs ++ reply_of pid r c.answer ∷ []))) (sym theirs)

pub serves_in : (k after : KernelState) (us us1 : List UserState) (rs : List Reply3) (m n : MachineState) (pid i newest : ℕ) (r : Request) (a : Answer) (raised : Option ℕ) (child : Option UserState) (applied : Applied) → state_of k us rs ≡ m
    → option_and_then asked_of (live_user m pid) ≡ Some r → i ≡ pid - 1
    → call_result k pid r ≡ Some (record { kernel = after; answer = a; raised = raised }) → newest ≡ given after
    → option_and_then (copied_for r.number) (slice_get us i) ≡ child → option_map (λ u. slice_set us i (returned u a)) (slice_get us i) ≡ Some us1
    → n ≡ state_of after (us1 ++ child_in a.kind child newest) (rs ++ reply_of pid r a ∷ []) → applied ≡ Did raised (Some a.value)
    → AppliedAs applied (done_of m pid (live_user m pid)) (raised_by_call m pid) m n
serves_in k after us us1 rs m n pid i newest r a raised child applied is asked at called count copy gave new told =
    let kernel : k ≡ m.kernel = ap (λ (y : MachineState). y.kernel) is in
    let live : IsLive k pid = ap (λ y. is_live y pid) kernel ∙ asked_lives m pid r asked in
    let low : 1 ≤ pid = live_low k pid live in
    let here = user_here k us rs m pid i is low live at in
    let there : option_and_then asked_of (slice_get us i) ≡ Some r = ap (option_and_then asked_of) (sym here) ∙ asked in
    let made : done_of m pid (live_user m pid) ≡ Some n =
    ap (λ y. done_of y pid (live_user m pid)) (sym is) ∙ ap (done_of (state_of k us rs) pid) here
    ∙ done_on k after us us1 rs pid i newest r (record { kernel = after; answer = a; raised = raised }) child (slice_get us i) low at there called count copy gave
    ∙ ap (λ (y : MachineState). Some y) (sym new) in
    let at_other : raised ≡ raised_by_call m pid =
    sym (ap (raised_by_asked m.kernel pid) asked ∙ ap (λ y. raised_in_call (call_result y pid r)) (sym kernel) ∙ ap raised_in_call called) in
    applied_reply m n (done_of m pid (live_user m pid)) raised (raised_by_call m pid) (reply_of pid r a) applied told made at_other
    (ap (λ (y : MachineState). y.replies) new ∙ ap (λ (y : MachineState). y.replies ++ reply_of pid r a ∷ []) is)

-- where the call makes a child its copy is there
pub child_here : (k : KernelState) (us : List UserState) (rs : List Reply3) (m : MachineState) (pid i : ℕ) (r : Request) (c : Called) (child : Option UserState) → state_of k us rs ≡ m
    → option_and_then asked_of (live_user m pid) ≡ Some r → i ≡ pid - 1 → call_result k pid r ≡ Some c → option_and_then (copied_for r.number) (slice_get us i) ≡ child → HasChild c.answer.kind child
child_here k us rs m pid i r c child is asked at called copy =
    let kernel : k ≡ m.kernel = ap (λ (y : MachineState). y.kernel) is in
    let live : IsLive k pid = ap (λ y. is_live y pid) kernel ∙ asked_lives m pid r asked in
    let here = user_here k us rs m pid i is (live_low k pid live) live at in
    child_on k pid r c child (slice_get us i) (ap (option_and_then asked_of) (sym here) ∙ asked) called copy
  where
    child_on : (k : KernelState) (pid : ℕ) (r : Request) (c : Called) (child o : Option UserState) → option_and_then asked_of o ≡ Some r → call_result k pid r ≡ Some c → option_and_then (copied_for r.number) o ≡ child → HasChild c.answer.kind child
    child_on k pid r c child None asked called copy = absurd (none-some r asked)
    child_on k pid r c child (Some u) asked called copy = subst (HasChild c.answer.kind) copy (has_child k pid r c u called)

done_none : (m : MachineState) (pid : ℕ) (o : Option UserState) → option_and_then asked_of o ≡ None → done_of m pid o ≡ None
done_none m pid None h = refl
done_none m pid (Some u) h = ap (done_at m pid u) h

pub serves_not : (m n : MachineState) (pid : ℕ) → option_and_then asked_of (live_user m pid) ≡ None → AppliedAs Not (done_of m pid (live_user m pid)) (raised_by_call m pid) m n
serves_not m n pid h = done_none m pid (live_user m pid) h

done_blocked : (m : MachineState) (pid : ℕ) (r : Request) (o : Option UserState) → option_and_then asked_of o ≡ Some r → call_result m.kernel pid r ≡ None → done_of m pid o ≡ None
done_blocked m pid r None asked h = refl
done_blocked m pid r (Some u) asked h = ap (done_at m pid u) asked ∙ ap (option_map (with_answer m pid u r)) h

pub serves_blocked : (k : KernelState) (m n : MachineState) (pid : ℕ) (r : Request) → k ≡ m.kernel → option_and_then asked_of (live_user m pid) ≡ Some r → call_result k pid r ≡ None → AppliedAs Not (done_of m pid (live_user m pid)) (raised_by_call m pid) m n
serves_blocked k m n pid r kernel asked h = done_blocked m pid r (live_user m pid) asked (ap (λ y. call_result y pid r) (sym kernel) ∙ h)

-- ---- a call that is broken off

both_true : (a b : Bool) → a ≡ true → b ≡ true → (a && b) ≡ true
both_true a b p q = ap (λ x. x && b) p ∙ q

broken_on : (k : KernelState) (us us1 : List UserState) (rs : List Reply3) (pid i : ℕ) (r : Request) (o : Option UserState) → 1 ≤ pid → i ≡ pid - 1
    → option_and_then asked_of o ≡ Some r → (blocks k pid r && is_some (deliverable k pid)) ≡ true → option_map (λ u. slice_set us i (returned u (value_answer EINTR))) o ≡ Some us1
    → broken_of (state_of k us rs) pid o ≡ Some (state_of k us1 (rs ++ reply_of pid r (value_answer EINTR) ∷ []))
broken_on k us us1 rs pid i r None low at asked can gave = absurd (none-some r asked)
broken_on k us us1 rs pid i r (Some u) low at asked can gave =
    let x = state_of k us rs in
    let ours : us1 ≡ set_pid us pid (returned u (value_answer EINTR)) = sym (same_some _ _ gave) ∙ set_at us pid i (returned u (value_answer EINTR)) low at in
    ap (broken_at x pid u) asked
    ∙ ap (λ b. cond b (Some (with_answer x pid u r (broken k))) None) can
    ∙ ap (λ ys. Some (state_of k ys (rs ++ reply_of pid r (value_answer EINTR) ∷ []))) (append-nil (set_pid us pid (returned u (value_answer EINTR))) ∙ sym ours)

pub breaks_in : (k after : KernelState) (us us1 : List UserState) (rs : List Reply3) (m n : MachineState) (pid i : ℕ) (r : Request) (a : Answer) (applied : Applied) → state_of k us rs ≡ m
    → option_and_then asked_of (live_user m pid) ≡ Some r → i ≡ pid - 1 → is_none (call_result k pid r) ≡ true → is_some (deliverable k pid) ≡ true
    → a ≡ value_answer EINTR → after ≡ k → option_map (λ u. slice_set us i (returned u a)) (slice_get us i) ≡ Some us1
    → n ≡ state_of after us1 (rs ++ reply_of pid r a ∷ []) → applied ≡ Did None (Some a.value)
    → AppliedAs applied (broken_of m pid (live_user m pid)) None m n
breaks_in k after us us1 rs m n pid i r a applied is asked at waits can answer same gave new told =
    let kernel : k ≡ m.kernel = ap (λ (y : MachineState). y.kernel) is in
    let live : IsLive k pid = ap (λ y. is_live y pid) kernel ∙ asked_lives m pid r asked in
    let low : 1 ≤ pid = live_low k pid live in
    let here = user_here k us rs m pid i is low live at in
    let there : option_and_then asked_of (slice_get us i) ≡ Some r = ap (option_and_then asked_of) (sym here) ∙ asked in
    let gives : option_map (λ u. slice_set us i (returned u (value_answer EINTR))) (slice_get us i) ≡ Some us1 = subst (λ (y : Answer). option_map (λ u. slice_set us i (returned u y)) (slice_get us i) ≡ Some us1) answer gave in
    let made : broken_of m pid (live_user m pid) ≡ Some n =
    ap (λ y. broken_of y pid (live_user m pid)) (sym is) ∙ ap (broken_of (state_of k us rs) pid) here
    ∙ broken_on k us us1 rs pid i r (slice_get us i) low at there (both_true (blocks k pid r) (is_some (deliverable k pid)) waits can) gives
    ∙ ap (λ y. Some (state_of y us1 (rs ++ reply_of pid r (value_answer EINTR) ∷ []))) (sym same)
    ∙ ap (λ (y : Answer). Some (state_of after us1 (rs ++ reply_of pid r y ∷ []))) (sym answer)
    ∙ ap (λ (y : MachineState). Some y) (sym new) in
    applied_reply m n (broken_of m pid (live_user m pid)) None None (reply_of pid r a) applied told made refl
    (ap (λ (y : MachineState). y.replies) new ∙ ap (λ (y : MachineState). y.replies ++ reply_of pid r a ∷ []) is)

broken_none : (m : MachineState) (pid : ℕ) (o : Option UserState) → option_and_then asked_of o ≡ None → broken_of m pid o ≡ None
broken_none m pid None h = refl
broken_none m pid (Some u) h = ap (broken_at m pid u) h

pub breaks_not : (m n : MachineState) (pid : ℕ) → option_and_then asked_of (live_user m pid) ≡ None → AppliedAs Not (broken_of m pid (live_user m pid)) None m n
breaks_not m n pid h = broken_none m pid (live_user m pid) h

broken_cannot : (m : MachineState) (pid : ℕ) (r : Request) (o : Option UserState) → option_and_then asked_of o ≡ Some r → (blocks m.kernel pid r && is_some (deliverable m.kernel pid)) ≡ false → broken_of m pid o ≡ None
broken_cannot m pid r None asked h = refl
broken_cannot m pid r (Some u) asked h = ap (broken_at m pid u) asked ∙ ap (λ b. cond b (Some (with_answer m pid u r (broken m.kernel))) None) h

pub breaks_going : (k : KernelState) (m n : MachineState) (pid : ℕ) (r : Request) → k ≡ m.kernel → option_and_then asked_of (live_user m pid) ≡ Some r → is_none (call_result k pid r) ≡ false → AppliedAs Not (broken_of m pid (live_user m pid)) None m n
breaks_going k m n pid r kernel asked h =
    broken_cannot m pid r (live_user m pid) asked (ap (λ y. blocks y pid r && is_some (deliverable m.kernel pid)) (sym kernel) ∙ ap (λ b. b && is_some (deliverable m.kernel pid)) h)

right_false : (a b : Bool) → b ≡ false → (a && b) ≡ false
right_false true b h = h
right_false false b h = refl

pub breaks_unsignalled : (k : KernelState) (m n : MachineState) (pid : ℕ) (r : Request) → k ≡ m.kernel → option_and_then asked_of (live_user m pid) ≡ Some r → is_some (deliverable k pid) ≡ false → AppliedAs Not (broken_of m pid (live_user m pid)) None m n
breaks_unsignalled k m n pid r kernel asked h =
    broken_cannot m pid r (live_user m pid) asked (right_false (blocks m.kernel pid r) (is_some (deliverable m.kernel pid)) (ap (λ y. is_some (deliverable y pid)) (sym kernel) ∙ h))

-- ---- a signal that is taken

taken_on : (k after : KernelState) (us us1 : List UserState) (rs : List Reply3) (pid i : ℕ) (room : Bool) (taken : Taken) (raised : Option ℕ) (o : Option UserState) → 1 ≤ pid → i ≡ pid - 1
    → option_map has_room_at o ≡ Some room → take_result k pid room ≡ Some (record { kernel = after; taken = taken; raised = raised }) → option_map (λ u. slice_set us i (user_taking u taken)) o ≡ Some us1
    → (taken_of (state_of k us rs) pid o ≡ Some (state_of after us1 rs)) × (raised_by_taken k pid o ≡ raised)
taken_on k after us us1 rs pid i room taken raised None low at has took enters = absurd (none-some room has)
taken_on k after us us1 rs pid i room taken raised (Some u) low at has took enters =
    let x = state_of k us rs in
    let there : take_result k pid (has_room_at u) ≡ Some (record { kernel = after; taken = taken; raised = raised }) = ap (take_result k pid) (same_some _ _ has) ∙ took in
    let ours : set_pid us pid (user_taking u taken) ≡ us1 = sym (set_at us pid i (user_taking u taken) low at) ∙ same_some _ _ enters in
    (ap (option_map (with_taken x pid u)) there ∙ ap (λ ys. Some (state_of after ys rs)) ours, ap raised_in_take there)

pub takes_in : (k after : KernelState) (us us1 : List UserState) (rs : List Reply3) (m n : MachineState) (pid i : ℕ) (room : Bool) (taken : Taken) (raised : Option ℕ) (applied : Applied) → state_of k us rs ≡ m → 1 ≤ pid → IsLive k pid → i ≡ pid - 1
    → option_map has_room_at (slice_get us i) ≡ Some room → take_result k pid room ≡ Some (record { kernel = after; taken = taken; raised = raised })
    → option_map (λ u. slice_set us i (user_taking u taken)) (slice_get us i) ≡ Some us1 → n ≡ state_of after us1 rs → applied ≡ Did raised None
    → AppliedAs applied (taken_of m pid (live_user m pid)) (raised_by_take m pid) m n
takes_in k after us us1 rs m n pid i room taken raised applied is low live at has took enters new told =
    let kernel : k ≡ m.kernel = ap (λ (y : MachineState). y.kernel) is in
    let here = user_here k us rs m pid i is low live at in
    let t = taken_on k after us us1 rs pid i room taken raised (slice_get us i) low at has took enters in
    let made : taken_of m pid (live_user m pid) ≡ Some n = ap (λ y. taken_of y pid (live_user m pid)) (sym is) ∙ ap (taken_of (state_of k us rs) pid) here ∙ t.0 ∙ ap (λ (y : MachineState). Some y) (sym new) in
    let at_parent : raised ≡ raised_by_take m pid = sym (ap (λ y. raised_by_taken y pid (live_user m pid)) (sym kernel) ∙ ap (raised_by_taken k pid) here ∙ t.1) in
    applied_did m n (taken_of m pid (live_user m pid)) raised (raised_by_take m pid) applied told made at_parent
    (ap (λ (y : MachineState). y.replies) new ∙ ap (λ (y : MachineState). y.replies) is)

taken_none : (m : MachineState) (pid : ℕ) (room : Bool) (o : Option UserState) → option_map has_room_at o ≡ Some room → take_result m.kernel pid room ≡ None → taken_of m pid o ≡ None
taken_none m pid room None has h = refl
taken_none m pid room (Some u) has h = ap (λ b. option_map (with_taken m pid u) (take_result m.kernel pid b)) (same_some _ _ has) ∙ ap (option_map (with_taken m pid u)) h

pub takes_none : (k : KernelState) (us : List UserState) (rs : List Reply3) (m n : MachineState) (pid i : ℕ) (room : Bool) → state_of k us rs ≡ m → 1 ≤ pid → IsLive k pid → i ≡ pid - 1
    → option_map has_room_at (slice_get us i) ≡ Some room → take_result k pid room ≡ None → AppliedAs Not (taken_of m pid (live_user m pid)) (raised_by_take m pid) m n
takes_none k us rs m n pid i room is low live at has h =
    let kernel : k ≡ m.kernel = ap (λ (y : MachineState). y.kernel) is in
    taken_none m pid room (live_user m pid) (ap (option_map has_room_at) (user_here k us rs m pid i is low live at) ∙ has) (ap (λ y. take_result y pid room) (sym kernel) ∙ h)

pub takes_dead : (m n : MachineState) (pid : ℕ) → is_live m.kernel pid ≡ false → AppliedAs Not (taken_of m pid (live_user m pid)) (raised_by_take m pid) m n
takes_dead m n pid h = ap (taken_of m pid) (dead m pid h)

-- ---- a fault

pub falls_in : (k after : KernelState) (us us1 : List UserState) (rs : List Reply3) (m n : MachineState) (pid i signal : ℕ) (raised : Option ℕ) (applied : Applied) → state_of k us rs ≡ m → 1 ≤ pid → IsLive k pid → i ≡ pid - 1
    → option_and_then fault_of (slice_get us i) ≡ Some signal → us1 ≡ us → after ≡ with_end k pid (ends.Signal signal) → raised ≡ raised_by_end k pid → n ≡ state_of after us1 rs → applied ≡ Did raised None
    → AppliedAs applied (fallen m pid (live_user m pid)) (raised_by_end m.kernel pid) m n
falls_in k after us us1 rs m n pid i signal raised applied is low live at fault same ended where_raised new told =
    let kernel : k ≡ m.kernel = ap (λ (y : MachineState). y.kernel) is in
    let there : option_and_then fault_of (live_user m pid) ≡ Some signal = ap (option_and_then fault_of) (user_here k us rs m pid i is low live at) ∙ fault in
    let made : fallen m pid (live_user m pid) ≡ Some n =
    ap (option_map (with_fall m pid)) there
    ∙ ap (λ (y : MachineState). Some (with_fall y pid signal)) (sym is)
    ∙ ap (λ y. Some (state_of y us rs)) (sym ended)
    ∙ ap (λ ys. Some (state_of after ys rs)) (sym same)
    ∙ ap (λ (y : MachineState). Some y) (sym new) in
    applied_did m n (fallen m pid (live_user m pid)) raised (raised_by_end m.kernel pid) applied told made (where_raised ∙ ap (λ y. raised_by_end y pid) kernel)
    (ap (λ (y : MachineState). y.replies) new ∙ ap (λ (y : MachineState). y.replies) is)

pub falls_not : (k : KernelState) (us : List UserState) (rs : List Reply3) (m n : MachineState) (pid i : ℕ) → state_of k us rs ≡ m → 1 ≤ pid → IsLive k pid → i ≡ pid - 1
    → option_and_then fault_of (slice_get us i) ≡ None → AppliedAs Not (fallen m pid (live_user m pid)) (raised_by_end m.kernel pid) m n
falls_not k us rs m n pid i is low live at h =
    ap (λ o. option_map (with_fall m pid) (option_and_then fault_of o)) (user_here k us rs m pid i is low live at) ∙ ap (option_map (with_fall m pid)) h

pub falls_dead : (m n : MachineState) (pid : ℕ) → is_live m.kernel pid ≡ false → AppliedAs Not (fallen m pid (live_user m pid)) (raised_by_end m.kernel pid) m n
falls_dead m n pid h = ap (fallen m pid) (dead m pid h)
