-- Calls that end where the process runs.
use Rattle.std.proofs.Common.{◌≡◌, ◌≢◌, ℕ, ◌-◌, ◌<◌, refl, ap, ◌∙◌, sym, arith, Bool, true, false, nat_le, cond, ◌&&◌, ◌||◌, not, ◌/◌}
use Rattle.call_table.specs.Calls.{is_call, is_site_local}
use Rattle.std.proofs.lemmas.Bool.Decides.{nat_tests}
use Rattle.std.specs.Prelude.{slice_index, ◌==◌}
use Rattle.user_spec.specs.User.{UserState}
use Rattle.user_spec.specs.Request.{number_of, args_of, is_break, break_maps, with_break, is_local_call, local_call, with_value, with_brk, has_buffer, pages_with_break, page_above, lacks_page}
use Rattle.user_spec.specs.Instruction.{one_instruction}
use Rattle.user_spec.specs.declared.outcome.Outcome.{Outcome}
use Rattle.user_spec.specs.declared.outcome.Outcome.TheVariants as outcome
use Rattle.user_spec.specs.declared.outcome.Stop.TheVariants as stop
use Rattle.user_spec.specs.Advance.{Went, Done, AtCall, Faults, advance, core_of, at_call, counted, grows, is_call as is_at_ecall, went_by, Stepped, stepped, stepped_as}
use Rattle.call_table.specs.declared.call.TheConstants.{GETPID, BRK}
use Rattle.call_table.specs.declared.error.TheConstants.{ENOSYS, EFAULT}
use Rattle.std.specs.Int.{w32, cast_unsigned}
use Rattle.call_table.specs.declared.limit.TheConstants.{STEPS}
use Rattle.user_ctx.specs.Stopping.{IsAtEcall}
use Rattle.user_ctx.specs.Heap.{mapped_for}
use Rattle.user_ctx.proofs.Walks.{advance_is}
use Rattle.user_ctx.proofs.Breaks.{break_after, same_pages}

at_ecall : (u : UserState) → IsAtEcall u → advance u ≡ at_call u
at_ecall u h = advance_is u (one_instruction (core_of u)) h.room refl ∙ ap (λ o. went_by u o (one_instruction (core_of u)).core) h.ecall

abbrev maps_next : UserState → Bool
maps_next u = break_maps u (slice_index (args_of u) 0)

not_full : (n : ℕ) → n < STEPS → nat_le STEPS n ≡ false
not_full n h = grind (arith, nat_tests)

grows_at : (u : UserState) → IsAtEcall u → grows u ≡ ((number_of u == BRK) && maps_next u)
grows_at u h =
    ap (λ b. not b && (is_at_ecall (one_instruction (core_of u)).outcome && ((number_of u == BRK) && maps_next u))) (not_full u.count h.room)
    ∙ ap (λ o. is_at_ecall o && ((number_of u == BRK) && maps_next u)) h.ecall

other : (n : ℕ) → n ≢ BRK → (n == BRK) ≡ false
other n h = grind (arith, nat_tests)

still_at : (u : UserState) → IsAtEcall u → number_of u ≢ BRK → grows u ≡ false
still_at u h n = grows_at u h ∙ ap (λ b. b && maps_next u) (other (number_of u) n)

-- a step that is no growth
pub stepped_is : (u : UserState) (w : Went) → grows u ≡ false → advance u ≡ w → stepped u ≡ stepped_as w u
stepped_is u w g a = ap (λ b. cond b (let s : Stepped = record { stop = stop.Grows; user = u } in s) (stepped_as (advance u) u)) g ∙ ap (λ x. stepped_as x u) a

pub stepped_growth : (u : UserState) → grows u ≡ true → stepped u ≡ record { stop = stop.Grows; user = u }
stepped_growth u g = ap (λ b. cond b (let s : Stepped = record { stop = stop.Grows; user = u } in s) (stepped_as (advance u) u)) g

pub local : (u v : UserState) (value : ℕ) → IsAtEcall u → number_of u ≢ BRK → (is_local_call u ≡ true) × (local_call u ≡ with_value u value) → v ≡ counted (with_value u value) → stepped u ≡ record { stop = stop.Went; user = v }
local u v value h n l is = stepped_is u (Done v) (still_at u h n) (at_ecall u h ∙ ap (λ b. cond b (Done (counted (local_call u))) AtCall) l.0 ∙ ap (λ x. Done (counted x)) l.1 ∙ ap Done (sym is))

pub forwarded : (u : UserState) → IsAtEcall u → number_of u ≢ BRK → is_local_call u ≡ false → stepped u ≡ record { stop = stop.AtCall; user = u }
forwarded u h n l = stepped_is u AtCall (still_at u h n) (at_ecall u h ∙ ap (λ b. cond b (Done (counted (local_call u))) AtCall) l)

-- ---- brk

site_brk : (n : ℕ) (b : Bool) → n ≡ BRK → (((n == GETPID) || (n == BRK) || not (is_call n)) || b) ≡ true
site_brk n b e = ap (λ k. ((k == GETPID) || (k == BRK) || not (is_call k)) || b) e

brk_local : (u : UserState) → number_of u ≡ BRK → is_local_call u ≡ true
brk_local u n = site_brk (number_of u) (not (has_buffer u)) n

brk_value : (n : ℕ) (u a b : UserState) → n ≡ BRK → cond (n == GETPID) (with_value u u.pid) (cond (n == BRK) a b) ≡ a
brk_value n u a b e = ap (λ k. cond (k == GETPID) (with_value u u.pid) (cond (k == BRK) a b)) e

brk_call : (u : UserState) → number_of u ≡ BRK → local_call u ≡ with_brk (with_break u (slice_index (args_of u) 0))
brk_call u n = brk_value (number_of u) u (with_brk (with_break u (slice_index (args_of u) 0))) (cond (is_site_local (number_of u)) (with_value u (cast_unsigned w32 ENOSYS)) (with_value u (cast_unsigned w32 EFAULT))) n

pub brk_done : (u v : UserState) → IsAtEcall u → number_of u ≡ BRK → v ≡ counted (with_brk (with_break u (slice_index (args_of u) 0))) → advance u ≡ Done v
brk_done u v h n is =
    at_ecall u h ∙ ap (λ b. cond b (Done (counted (local_call u))) AtCall) (brk_local u n) ∙ ap (λ x. Done (counted x)) (brk_call u n) ∙ ap Done (sym is)

grows_brk : (u : UserState) (b : Bool) → IsAtEcall u → number_of u ≡ BRK → maps_next u ≡ b → grows u ≡ b
grows_brk u b h n e = grows_at u h ∙ ap (λ k. (k == BRK) && maps_next u) n ∙ e

not_broken : (u : UserState) (a : ℕ) → is_break u a ≡ false → with_break u a ≡ u
not_broken u a h = ap (λ b. cond b (record u { pages = pages_with_break u.pages u.base a; brk = a }) u) h

pub break_refused : (u v : UserState) (a : ℕ) → IsAtEcall u → number_of u ≡ BRK → a ≡ slice_index (args_of u) 0 → is_break u a ≡ false → v ≡ counted (with_brk u) → stepped u ≡ record { stop = stop.Went; user = v }
break_refused u v a h n e refused is =
    let refused2 : is_break u (slice_index (args_of u) 0) ≡ false = ap (is_break u) (sym e) ∙ refused in
    stepped_is u (Done v)
    (grows_brk u false h n (ap (λ b. b && lacks_page u.pages (u.base / 4096) (page_above (slice_index (args_of u) 0) - u.base / 4096)) refused2))
    (brk_done u v h n (is ∙ ap (λ x. counted (with_brk x)) (sym (not_broken u (slice_index (args_of u) 0) refused2))))

pub break_moved : (u w v : UserState) (a : ℕ) → IsAtEcall u → number_of u ≡ BRK → a ≡ slice_index (args_of u) 0 → (is_break u a ≡ true) × (break_maps u a ≡ false) → w ≡ with_break u a → v ≡ counted (with_brk w) → stepped u ≡ record { stop = stop.Went; user = v }
break_moved u w v a h n e fit moved is =
    stepped_is u (Done v)
    (grows_brk u false h n (ap (break_maps u) (sym e) ∙ fit.1))
    (brk_done u v h n (is ∙ ap (λ x. counted (with_brk x)) (moved ∙ ap (with_break u) e)))

pub break_grows : (u : UserState) (a : ℕ) → IsAtEcall u → number_of u ≡ BRK → a ≡ slice_index (args_of u) 0 → (is_break u a ≡ true) × (break_maps u a ≡ true) → stepped u ≡ record { stop = stop.Grows; user = u }
break_grows u a h n e fit = stepped_growth u (grows_brk u true h n (ap (break_maps u) (sym e) ∙ fit.1))

-- ---- growth

and_left : (a b : Bool) → (a && b) ≡ true → a ≡ true
and_left true b h = refl
and_left false b h = h

and_right : (a b : Bool) → (a && b) ≡ true → b ≡ true
and_right true b h = h
and_right false b h = absurd (let e : false ≡ true = h in cc)

not_le : (a b : ℕ) → not (nat_le a b) ≡ true → b < a
not_le a b h = grind (arith, nat_tests)

is_eighteen : (n : ℕ) → (n == BRK) ≡ true → n ≡ BRK
is_eighteen n h = grind (arith, nat_tests)

at_call_of : (o : Outcome) → is_at_ecall o ≡ true → o ≡ outcome.Call
at_call_of outcome.Done h = absurd (let e : false ≡ true = h in cc)
at_call_of outcome.Call h = refl
at_call_of (outcome.Fault signal) h = absurd (let e : false ≡ true = h in cc)

pub grows_at_break : (u : UserState) → grows u ≡ true → IsAtEcall u × (number_of u ≡ BRK) × (is_break u (slice_index (args_of u) 0) ≡ true)
grows_at_break u h =
    let inner : (is_at_ecall (one_instruction (core_of u)).outcome && ((number_of u == BRK) && maps_next u)) ≡ true = and_right (not (nat_le (STEPS) u.count)) (is_at_ecall (one_instruction (core_of u)).outcome && ((number_of u == BRK) && maps_next u)) h in
    let last : ((number_of u == BRK) && maps_next u) ≡ true = and_right (is_at_ecall (one_instruction (core_of u)).outcome) ((number_of u == BRK) && maps_next u) inner in
    let a = slice_index (args_of u) 0 in (
      record {
        room = not_le (STEPS) u.count (and_left (not (nat_le (STEPS) u.count)) (is_at_ecall (one_instruction (core_of u)).outcome && ((number_of u == BRK) && maps_next u)) h);
        ecall = at_call_of (one_instruction (core_of u)).outcome (and_left (is_at_ecall (one_instruction (core_of u)).outcome) ((number_of u == BRK) && maps_next u) inner);
      },
      is_eighteen (number_of u) (and_left (number_of u == BRK) (maps_next u) last),
      and_left (is_break u a) (lacks_page u.pages (u.base / 4096) (page_above a - u.base / 4096)) (and_right (number_of u == BRK) (maps_next u) last),
    )

pub broken_is : (u : UserState) (a : ℕ) → is_break u a ≡ true → with_break u a ≡ record u { pages = pages_with_break u.pages u.base a; brk = a }
broken_is u a h = ap (λ b. cond b (record u { pages = pages_with_break u.pages u.base a; brk = a }) u) h

same_after : (u : UserState) (a : ℕ) → is_break u a ≡ true → with_break (mapped_for u a) a ≡ with_break u a
same_after u a h =
    broken_is (mapped_for u a) a (break_after u a h)
    ∙ ap (λ x. record u { pages = x; brk = a }) (same_pages u a h)
    ∙ sym (broken_is u a h)

pub grown : (u m w v : UserState) (a : ℕ) → grows u ≡ true → a ≡ slice_index (args_of u) 0 → m ≡ mapped_for u a → w ≡ with_break m a → v ≡ counted (with_brk w) → advance u ≡ Done v
grown u m w v a g e mapped moved is =
    let h : IsAtEcall u × (number_of u ≡ BRK) × (is_break u (slice_index (args_of u) 0) ≡ true) = grows_at_break u g in
    let b : is_break u a ≡ true = ap (is_break u) e ∙ h.2 in
    brk_done u v h.0 h.1 (is ∙ ap (λ x. counted (with_brk x)) (moved ∙ ap (λ x. with_break x a) mapped ∙ same_after u a b ∙ ap (with_break u) e))

-- a growth is a step that is done
pub grows_done : (u : UserState) → grows u ≡ true → advance u ≡ Done (counted (local_call u))
grows_done u g =
    let h : IsAtEcall u × (number_of u ≡ BRK) × (is_break u (slice_index (args_of u) 0) ≡ true) = grows_at_break u g in
    at_ecall u h.0 ∙ ap (λ b. cond b (Done (counted (local_call u))) AtCall) (brk_local u h.1)

-- ---- a walk of one step

not_growth : (b : Bool) (u : UserState) → grows u ≡ b → ((v : UserState) → advance u ≢ Done v) → b ≡ false
not_growth false u e h = refl
not_growth true u e h = absurd (h (counted (local_call u)) (grows_done u e))

pub stepped_call : (u : UserState) → advance u ≡ AtCall → stepped u ≡ record { stop = stop.AtCall; user = u }
stepped_call u a = stepped_is u AtCall (not_growth (grows u) u refl (λ v e. let f : AtCall ≡ Done v = sym a ∙ e in cc)) a

pub stepped_fault : (u : UserState) (signal : ℕ) → advance u ≡ Faults signal → stepped u ≡ record { stop = stop.Fault signal; user = u }
stepped_fault u signal a = stepped_is u (Faults signal) (not_growth (grows u) u refl (λ v e. let f : Faults signal ≡ Done v = sym a ∙ e in cc)) a
