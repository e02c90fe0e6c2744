-- The facts of the machine that the laws need.
use Rattle.std.proofs.Common.{◌≡◌, ◌≢◌, ℕ, zero, suc, ◌+◌, ◌≤◌, ◌<◌, ◌==◌, ◌||◌, List, length, slice_get, slice_index, refl, ap, ◌∙◌, sym, subst, arith, cond, Option, Some, None, Bool, true, false, is_some}
use Rattle.std.specs.Option.{option_map}
use Rattle.call_table.specs.Calls.{need_of}
use Rattle.call_table.specs.declared.call.TheConstants.{SIGRETURN}
use Rattle.call_table.specs.declared.error.TheConstants.{EINTR}
use Rattle.call_table.specs.declared.request.Request.{Request}
use Rattle.call_table.specs.declared.request.Answer.{Answer}
use Rattle.call_table.specs.declared.request.Taken.{Taken}
use Rattle.call_table.specs.declared.process.End.TheVariants as ends
use Rattle.node_event.specs.declared.script.Order.TheVariants as order
use Rattle.user_spec.specs.User.{UserState}
use Rattle.user_spec.specs.Request.{number_of, args_of, buffer_of, stack_pointer, has_buffer, returned, returned_pointer, has_frame_room, call_request, asked_args}
use Rattle.user_spec.specs.Advance.{request_of}
use Rattle.kernel_spec.specs.Processes.{heeding}
use Rattle.kernel_spec.specs.Kernel.{KernelState, Called, no_process, given, is_live, with_raised, deliverable, value_answer}
use Rattle.kernel_spec.specs.Calls.{call_result}
use Rattle.kernel_spec.proofs.KernelFacts.{none_at_zero, deliverable_lives, given_has_end, dead_after_end, given_raise, live_raise, quiet_hit}
use Rattle.protocol.specs.Gossip.{Sight, Choice}
use Rattle.protocol.specs.Deeds.{order_at}
use Rattle.protocol.specs.Ops.{Ops, Sound, Acted}
use Rattle.run_laws.specs.Going.{Able}
use Rattle.node_machine.specs.Plan.{Plan, IsPlan}
use Rattle.user_spec.specs.Fits.{fits_answer, has_room_at}
use Rattle.node_machine.specs.Machine.{Policy, machine, serve_at, taken_at, is_hit, acted}
use Rattle.node_machine.specs.Policy.{IsFitting}
use Rattle.node_machine.proofs.Scripts.{stands_once, found, has_image, has_text}
use Rattle.node_machine.proofs.Users.{Calls, asks_call, room_given, room_asked, args_kept, fits_asks, can_step, one_more, pid_loaded, pid_went, pid_as, pid_entered, pages_as, pages_entered}
use Rattle.node_machine.proofs.Signals.{fits_take}
use Rattle.node_machine.proofs.Fitting.{answer_fits_user, broken_fits}
use Rattle.node_machine.proofs.Calls.{Served, served, count_launch, live_launch, live_new, few_launch, count_serve, child_serve, live_serve, live_child, quiet_serve, few_serve, takes, quiet_end, live_end, count_end}

fits_serve : (k : KernelState) (p : ℕ) (u : UserState) (r : Request) (d : Acted KernelState Answer) → request_of u ≡ Some r → serve_at k p r ≡ Some d → fits_answer u d.answer ≡ true
fits_serve k p u r d asks e =
    let s = served k p r d e in
    ap (λ (x : Acted KernelState Answer). fits_answer u x.answer) (sym s.acts) ∙ answer_fits_user k p u r s.called (asks_call u r asks s.number) s.is

-- the room for a frame that a request tells is that after its return
room_serve : (k : KernelState) (p : ℕ) (u : UserState) (r : Request) (d : Acted KernelState Answer) → request_of u ≡ Some r → serve_at k p r ≡ Some d → taken_at d.kernel p (has_room_at (returned u d.answer)) ≡ taken_at d.kernel p r.room
room_serve k p u r d asks e = ap (taken_at d.kernel p) (room_given u d.answer (fits_serve k p u r d asks e) ∙ sym (room_asked u r (asks_call u r asks (served k p r d e).number)))

fits_broken : (k : KernelState) (p : ℕ) (u : UserState) (r : Request) → is_live k p ≡ true → request_of u ≡ Some r → r.number ≢ 0 → serve_at k p r ≡ None → fits_answer u (value_answer EINTR) ≡ true
fits_broken k p u r live asks number blocked = broken_fits k p u r live (asks_call u r asks number) number blocked

room_broken : (k : KernelState) (p : ℕ) (u : UserState) (r : Request) → is_live k p ≡ true → request_of u ≡ Some r → r.number ≢ 0 → serve_at k p r ≡ None → taken_at k p (has_room_at (returned u (value_answer EINTR))) ≡ taken_at k p r.room
room_broken k p u r live asks number blocked = ap (taken_at k p) (room_given u (value_answer EINTR) (fits_broken k p u r live asks number blocked) ∙ sym (room_asked u r (asks_call u r asks number)))

live_none : (q : ℕ) → is_live no_process q ≡ false
live_none zero = refl
live_none (suc i) = refl

pub sound : (policy : Policy) → IsFitting policy → (plan : Plan) → IsPlan plan → Sound (machine policy plan)
sound policy fit plan is = record {
  lines = stands_once plan.script is.rising;
  targets = λ line p to e. let f = found plan.script line (order.Move p to) e in is.targets f.0 f.1 p to f.2 f.3;
  some = is.nodes;
  count_new = refl;
  count_launch = count_launch;
  count_raise = given_raise;
  count_feed = λ k i. refl;
  count_finish = λ k. refl;
  count_serve = count_serve;
  child_serve = child_serve;
  count_take = λ k p b. (takes k p b).count;
  count_fall = λ k p r. count_end k p (ends.Signal (slice_index r.args 0));
  live_launch = live_launch;
  live_new = live_new;
  live_raise = live_raise;
  live_feed = λ k i q. refl;
  live_finish = λ k q. refl;
  live_serve = live_serve;
  live_empty = live_none;
  live_child = live_child;
  live_take = λ k p b q ne. (takes k p b).live q ne;
  live_fall = λ k p r q ne. live_end k p (ends.Signal (slice_index r.args 0)) q ne;
  dead_fall = λ k p r. dead_after_end k p (ends.Signal (slice_index r.args 0));
  ended = given_has_end;
  lowest_live = deliverable_lives;
  quiet_raise = λ k p s q h. quiet_hit k p s q (hit_at (is_hit k p s) p q ∙ h);
  quiet_serve = quiet_serve;
  quiet_take = λ k p b q ne raised. (takes k p b).quiet q ne raised;
  quiet_fall = λ k p r q ne raised. quiet_end k p (ends.Signal (slice_index r.args 0)) q ne raised;
  room_serve = room_serve;
  room_broken = λ k p s u r live low asks number blocked. room_broken k p u r live asks number blocked;
  pid_loaded = λ i p e. pid_loaded plan.users i p e;
  pid_went = pid_went;
  pid_given = λ u a. pid_as a.kind u a;
  pid_entered = pid_entered;
  pid_forked = λ u c. refl;
  chosen = λ s c e. (fit.movable s c e, fit.known s c e, fit.other s c e);
  fits_asks = fits_asks;
  fits_serve = λ k p u r d asks number e. fits_serve k p u r d asks e;
  fits_broken = λ k p s u r live low asks number blocked. fits_broken k p u r live asks number blocked;
  fits_take = λ k p s u e. fits_take k p u;
  few_launch = few_launch;
  few_serve = few_serve;
  pages_given = λ u a. pages_as a.kind u a;
  pages_entered = pages_entered;
}
  where
    hit_at : (b : Bool) (p q : ℕ) → Rattle.kernel_spec.specs.Others.is_at (cond b (Some p) None) q ≡ Rattle.protocol.specs.Ops.is_child (cond b (Some p) None) q
    hit_at true p q = refl
    hit_at false p q = refl

pub able : (policy : Policy) → ((s : Sight) → (c : Option Choice) × policy s c) → (plan : Plan) → IsPlan plan → Able (machine policy plan)
able policy answers plan is = record {
  rising = is.rising;
  image = λ k s e words f. has_image plan.script (length plan.users) is.images is.rising k s e words f;
  text = λ k s e bytes f. has_text plan.script is.rising k s e bytes f;
  signal = λ k s e p g f. is.signals k s p g e f;
  quantum = is.quantum;
  goes = can_step;
  more = one_more;
  answers = answers;
}
