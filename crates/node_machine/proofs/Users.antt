-- Facts of user states: whose they are, how many pages they have, what they ask, and the room for a frame after a return.
use Rattle.std.proofs.Common.{◌≡◌, ◌≢◌, ◌⊎◌, inl, inr, ℕ, zero, suc, ◌+◌, ◌-◌, ◌≤◌, ◌<◌, ◌==◌, ◌&&◌, ◌||◌, not, nat_le, nat_lt, List, [], ◌∷◌, ◌++◌, length, slice_index, slice_set, slice_get, refl, ap, ◌∙◌, sym, subst, arith, cond, Option, Some, None, Bool, true, false, Result, Ok, Err}
use Rattle.std.specs.Prelude.{is_ok, pos, int_lt}
use Rattle.std.specs.Result.{result_unwrap_or}
use Rattle.std.specs.Int.{w32, cast_unsigned}
use Rattle.std.proofs.lemmas.Bool.Decides.{nat_tests}
use Rattle.call_table.specs.Calls.{is_site_local, is_signal_number, need_of, need_of_wait, need_of_name, need_of_read, need_of_write, need_of_pipe, need_of_return}
use Rattle.call_table.specs.declared.call.TheConstants.{GETPID, WAIT, OPEN, READ, WRITE, PIPE, UNLINK, SIGRETURN, FORK, BRK}
use Rattle.call_table.specs.declared.error.TheConstants.{ENOSYS, EFAULT}
use Rattle.call_table.specs.declared.limit.TheConstants.{STEPS}
use Rattle.call_table.specs.declared.signal.TheConstants.{SIGXCPU}
use Rattle.call_table.specs.declared.table.TheConstants.{RIGHT_READ}
use Rattle.call_table.specs.declared.request.Need.{Need}
use Rattle.call_table.specs.declared.request.Request.{Request}
use Rattle.call_table.specs.declared.request.Answer.{Answer}
use Rattle.call_table.specs.declared.request.Kind.{Kind}
use Rattle.call_table.specs.declared.request.Kind.TheVariants.{Plain, Fork, Return}
use Rattle.call_table.specs.declared.request.Taken.{Taken}
use Rattle.call_table.specs.declared.request.Taken.TheVariants.{Dies, Enters}
use Rattle.page_set.specs.Pages.{PageMap, flat_at, with_front, byte_at}
use Rattle.user_spec.specs.User.{UserState, with_register, need_of_user}
use Rattle.user_spec.specs.declared.outcome.Outcome.{Outcome}
use Rattle.user_spec.specs.declared.outcome.Outcome.TheVariants as outcome
use Rattle.user_spec.specs.Instruction.{Core, Ran, one_instruction}
use Rattle.user_spec.specs.Request.{number_of, args_of, stack_pointer, buffer_of, buffer_address, buffer_bytes, has_buffer, is_read, handed_bytes, frame_at, frame_words, frame_word, frame_registers, returned_pointer, has_frame_room, returned, returned_as, call_request, fault_request, asked_args, local_call, is_local_call, with_value, with_brk, with_break, is_break, pages_with_break}
use Rattle.user_spec.specs.Advance.{Went, Done, AtCall, Faults, advance, request_of, asked_at, with_core, went_of, went_by, at_call, core_of, advanced, on_done, counted}
use Rattle.node_machine.specs.Plan.{user_at}
use Rattle.user_spec.specs.Fits.{fits_request, fits_fault, fits_call, handed_len, read_len, fits_answer, fits_kind, has_room_at, entered_by}
use Rattle.node_machine.proofs.Pages.{same_room, len_bytes, len_words}
use Rattle.node_machine.proofs.Faulting.{FineWent, advance_fine}

-- ---- tests

pub and_left : (a b : Bool) → (a && b) ≡ true → a ≡ true
and_left true b e = refl
and_left false b e = absurd cc

pub and_right : (a b : Bool) → (a && b) ≡ true → b ≡ true
and_right true b e = e
and_right false b e = absurd cc

pub not_true : (b : Bool) → not b ≡ true → b ≡ false
not_true true e = absurd cc
not_true false e = refl

-- ---- the room for a frame

x2_stays : (xs : List ℕ) (v : ℕ) → slice_index (slice_set xs 9 v) 1 ≡ slice_index xs 1
x2_stays [] v = refl
x2_stays (a ∷ []) v = refl
x2_stays (a ∷ b ∷ xs) v = refl

pointer_at : (b : Bool) (x y : ℕ) → b ≡ false → cond b x y ≡ y
pointer_at true x y e = absurd cc
pointer_at false x y e = refl

-- but for the return from a handler the stack pointer stands after a call as before
kept_pointer : (u : UserState) → (number_of u == SIGRETURN) ≡ false → returned_pointer u ≡ stack_pointer u
kept_pointer u e = pointer_at (number_of u == SIGRETURN) (frame_word u.pages (stack_pointer u) 2) (stack_pointer u) e

plain_room : (u : UserState) (a : Answer) → has_room_at (returned_as Plain u a) ≡ has_frame_room u.pages (stack_pointer u)
plain_room u a =
    same_room u.pages (buffer_address (buffer_of u)) a.bytes (stack_pointer (returned_as Plain u a))
    ∙ ap (has_frame_room u.pages) (x2_stays u.registers (cast_unsigned w32 a.value))

fork_room : (u : UserState) (a : Answer) → has_room_at (returned_as Fork u a) ≡ has_frame_room u.pages (stack_pointer u)
fork_room u a = ap (has_frame_room u.pages) (x2_stays u.registers (cast_unsigned w32 a.value))

-- the second register of a frame
second : (pages : PageMap) (at : ℕ) → slice_index (frame_registers pages at 1 31) 1 ≡ frame_word pages at 2
unfolding frame_registers
second pages at = refl

return_room : (u : UserState) (a : Answer) → (number_of u == SIGRETURN) ≡ true → has_room_at (returned_as Return u a) ≡ has_frame_room u.pages (returned_pointer u)
return_room u a e = ap (has_frame_room u.pages) (second u.pages (stack_pointer u) ∙ sym (ap (λ b. cond b (frame_word u.pages (stack_pointer u) 2) (stack_pointer u)) e))

fork_is : (n : ℕ) → (n == FORK) ≡ true → (n == SIGRETURN) ≡ false
fork_is n e = grind (arith, nat_tests)

by_kind : (kind : Kind) (u : UserState) (a : Answer) → fits_kind kind u a ≡ true → has_room_at (returned_as kind u a) ≡ has_frame_room u.pages (returned_pointer u)
by_kind Plain u a fits = plain_room u a ∙ ap (has_frame_room u.pages) (sym (kept_pointer u (not_true _ (and_left (not (number_of u == SIGRETURN)) _ fits))))
by_kind Fork u a fits = fork_room u a ∙ ap (has_frame_room u.pages) (sym (kept_pointer u (fork_is (number_of u) (and_left (number_of u == FORK) _ fits))))
by_kind Return u a fits = return_room u a (and_left (number_of u == SIGRETURN) _ fits)

-- the room after an answer that fits is what the request told
pub room_given : (u : UserState) (a : Answer) → fits_answer u a ≡ true → has_room_at (returned u a) ≡ has_frame_room u.pages (returned_pointer u)
room_given u a fits = by_kind a.kind u a fits

-- ---- what is asked

-- at a forwarded call
pub record Calls (u : UserState) (r : Request) : Type 0 where
  pub at : advance u ≡ AtCall
  pub is : r ≡ call_request u
  pub forwarded : is_site_local (number_of u) ≡ false
  pub whole : has_buffer u ≡ true

local_parts : (a b : Bool) → (a || not b) ≡ false → (a ≡ false) × (b ≡ true)
local_parts true b e = absurd cc
local_parts false true e = (refl, refl)
local_parts false false e = absurd cc

call_here : (u : UserState) (b : Bool) → cond b (Done (counted (local_call u))) AtCall ≡ AtCall → b ≡ false
call_here u true e = absurd cc
call_here u false e = refl

by_outcome : (u : UserState) (o : Outcome) (c : Core) → went_by u o c ≡ AtCall → is_local_call u ≡ false
by_outcome u outcome.Done c e = absurd cc
by_outcome u outcome.Call c e = call_here u (is_local_call u) e
by_outcome u (outcome.Fault s) c e = absurd cc

not_local : (u : UserState) → advance u ≡ AtCall → is_local_call u ≡ false
not_local u e = go (nat_le STEPS u.count) e
  where
    go : (b : Bool) → cond b (Faults SIGXCPU) (went_of u (one_instruction (core_of u))) ≡ AtCall → is_local_call u ≡ false
    go true f = absurd cc
    go false f = by_outcome u (one_instruction (core_of u)).outcome (one_instruction (core_of u)).core f

pub asks_call : (u : UserState) (r : Request) → request_of u ≡ Some r → r.number ≢ 0 → Calls u r
asks_call u r asks number = go (advance u) refl asks
  where
    go : (w : Went) → advance u ≡ w → asked_at w u ≡ Some r → Calls u r
    go (Done v) e f = absurd cc
    go AtCall e f = let parts = local_parts (is_site_local (number_of u)) (has_buffer u) (not_local u e) in (let same : r ≡ call_request u = cc in record { at = e; is = same; forwarded = parts.0; whole = parts.1 })
    go (Faults s) e f = let same : 0 ≡ r.number = ap (λ (x : Request). x.number) (let z : fault_request s ≡ r = cc in z) in absurd (number (sym same))

-- a call's request tells the room after its return
pub room_asked : (u : UserState) (r : Request) → Calls u r → r.room ≡ has_frame_room u.pages (returned_pointer u)
room_asked u r c = ap (λ (x : Request). x.room) c.is

-- ---- whose user state it is

pid_break : (u : UserState) (b : Bool) (x : UserState) → x.pid ≡ u.pid → (cond b x u).pid ≡ u.pid
pid_break u true x e = e
pid_break u false x e = refl

broken_pid : (u : UserState) (a : ℕ) → (with_brk (with_break u a)).pid ≡ u.pid
broken_pid u a = pid_break u (is_break u a) (record u { pages = pages_with_break u.pages u.base a; brk = a }) refl

pid_local : (u : UserState) → (local_call u).pid ≡ u.pid
pid_local u = go (number_of u == GETPID) (number_of u == BRK) (is_site_local (number_of u))
  where
    go : (a b c : Bool) → (cond a (with_value u u.pid) (cond b (with_brk (with_break u (slice_index (args_of u) 0))) (cond c (with_value u (cast_unsigned w32 ENOSYS)) (with_value u (cast_unsigned w32 EFAULT))))).pid ≡ u.pid
    go true b c = refl
    go false true c = broken_pid u (slice_index (args_of u) 0)
    go false false true = refl
    go false false false = refl

pid_outcome : (u : UserState) (o : Outcome) (c : Core) (x : UserState) → went_by u o c ≡ Done x → x.pid ≡ u.pid
pid_outcome u outcome.Done c x e = let z : with_core u 1 c ≡ x = cc in ap (λ (k : UserState). k.pid) (sym z)
pid_outcome u outcome.Call c x e = go (is_local_call u) e
  where
    go : (b : Bool) → cond b (Done (counted (local_call u))) AtCall ≡ Done x → x.pid ≡ u.pid
    go true e = let z : counted (local_call u) ≡ x = cc in ap (λ (k : UserState). k.pid) (sym z) ∙ pid_local u
    go false e = absurd cc
pid_outcome u (outcome.Fault s) c x e = absurd cc

pid_step : (u : UserState) (x : UserState) → advance u ≡ Done x → x.pid ≡ u.pid
pid_step u x e = go (nat_le STEPS u.count) e
  where
    go : (b : Bool) → cond b (Faults SIGXCPU) (went_of u (one_instruction (core_of u))) ≡ Done x → x.pid ≡ u.pid
    go true f = absurd cc
    go false f = pid_outcome u (one_instruction (core_of u)).outcome (one_instruction (core_of u)).core x f

pub pid_went : (u x : UserState) (k : ℕ) → advanced k u ≡ Some x → x.pid ≡ u.pid
pid_went u x zero e = let z : u ≡ x = cc in ap (λ (k : UserState). k.pid) (sym z)
pid_went u x (suc k) e = go (advance u) refl e (λ y h. pid_went y x k h)
  where
    go : (w : Went) → advance u ≡ w → on_done w (advanced k) ≡ Some x → ((y : UserState) → advanced k y ≡ Some x → x.pid ≡ y.pid) → x.pid ≡ u.pid
    go (Done y) f e rest = rest y e ∙ pid_step u y f
    go AtCall f e rest = absurd cc
    go (Faults s) f e rest = absurd cc

pub pid_as : (kind : Kind) (u : UserState) (a : Answer) → (returned_as kind u a).pid ≡ u.pid
pid_as Plain u a = refl
pid_as Fork u a = refl
pid_as Return u a = refl

pub pid_entered : (u : UserState) (t : Taken) → (entered_by u t).pid ≡ u.pid
pid_entered u (Dies s) = refl
pid_entered u (Enters s h r m) = refl

none_below : (i : ℕ) → nat_lt i 0 ≡ true → ⊥
none_below i e = let z : i < 0 = grind (arith, nat_tests) in omega (arith, z)

pub pid_loaded : (us : List UserState) (i p : ℕ) → nat_lt i (length us) ≡ true → (user_at us i p).pid ≡ p
pid_loaded [] i p e = absurd (none_below i e)
pid_loaded (u ∷ us) zero p e = refl
pid_loaded (u ∷ us) (suc i) p e = pid_loaded us i p (less e)
  where
    less : nat_lt (suc i) (length (u ∷ us)) ≡ true → nat_lt i (length us) ≡ true
    less h = grind (arith, nat_tests)

-- ---- pages

pub pages_as : (kind : Kind) (u : UserState) (a : Answer) → need_of_user (returned_as kind u a) ≡ need_of_user u
pages_as Plain u a = len_bytes u.pages (buffer_address (buffer_of u)) a.bytes
pages_as Fork u a = refl
pages_as Return u a = refl

pub pages_entered : (u : UserState) (t : Taken) → need_of_user (entered_by u t) ≡ need_of_user u
pages_entered u (Dies s) = refl
pages_entered u (Enters signal handler restorer mask) = len_words u.pages (frame_at (stack_pointer u)) (frame_words u mask)

-- ---- a request fits

flat_len : (pages : PageMap) (right addr n : ℕ) (bytes : List ℕ) → flat_at pages right addr n ≡ Ok bytes → length bytes ≡ n
flat_len pages right addr zero bytes e = let z : [] ≡ bytes = cc in ap (λ (xs : List ℕ). length xs) (sym z)
flat_len pages right addr (suc n) bytes e = go (byte_at pages right addr) (flat_at pages right (addr + 1) n) e (λ rest f. flat_len pages right (addr + 1) n rest f)
  where
    go : (o : Option ℕ) (r : Result (List ℕ) ℕ) → with_front o addr r ≡ Ok bytes → ((rest : List ℕ) → r ≡ Ok rest → length rest ≡ n) → length bytes ≡ suc n
    go None r h further = absurd cc
    go (Some b) (Ok rest) h further = let z : b ∷ rest ≡ bytes = cc in (let y = further rest refl in ap (λ (xs : List ℕ). length xs) (sym z) ∙ grind (arith, y))
    go (Some b) (Err a) h further = absurd cc

unwrapped_len : (r : Result (List ℕ) ℕ) (n : ℕ) → is_ok r ≡ true → ((bytes : List ℕ) → r ≡ Ok bytes → length bytes ≡ n) → length (result_unwrap_or r []) ≡ n
unwrapped_len (Ok bytes) n e h = h bytes refl
unwrapped_len (Err a) n e h = absurd cc

-- the buffer that is read, and how much of it is handed over
handed_as : (o : Option Need) (pages : PageMap) → is_ok (buffer_bytes pages o) ≡ true → length (cond (is_read o && true) (result_unwrap_or (buffer_bytes pages o) []) []) ≡ read_len o
handed_as None pages e = refl
handed_as (Some need) pages e = go (is_read (Some need))
  where
    go : (b : Bool) → length (cond (b && true) (result_unwrap_or (buffer_bytes pages (Some need)) []) []) ≡ cond b need.len 0
    go true = unwrapped_len (flat_at pages need.right need.addr need.len) need.len e (λ bytes f. flat_len pages need.right need.addr need.len bytes f)
    go false = refl

no_handed : (b : Bool) (xs : List ℕ) → length (cond (b && false) xs []) ≡ 0
no_handed true xs = refl
no_handed false xs = refl

handed_by : (b : Bool) (o : Option Need) (pages : PageMap) → is_ok (buffer_bytes pages o) ≡ true → length (cond (is_read o && not b) (result_unwrap_or (buffer_bytes pages o) []) []) ≡ cond b 0 (read_len o)
handed_by true o pages e = no_handed (is_read o) _
handed_by false o pages e = handed_as o pages e

equal : (a b : ℕ) → a ≡ b → (a == b) ≡ true
equal a b e = grind (arith, nat_tests)

last_of : (b : Bool) (x y : Option Need) → b ≡ false → cond b x None ≡ cond b y None
last_of true x y e = absurd cc
last_of false x y e = refl

-- but for the return from a handler a buffer does not depend on the stack pointer
need_kept : (number : ℕ) (args : List ℕ) (sp : ℕ) → (number == SIGRETURN) ≡ false → need_of number args sp ≡ need_of number args 0
need_kept number args sp e =
    ap (λ (o : Option Need).
    cond (number == WAIT) (need_of_wait (slice_index args 0)) (
    cond (number == OPEN) (need_of_name (slice_index args 0) (slice_index args 1)) (
    cond (number == READ) (need_of_read (slice_index args 1) (slice_index args 2)) (
    cond (number == WRITE) (need_of_write (slice_index args 1) (slice_index args 2)) (
    cond (number == PIPE) (need_of_pipe (slice_index args 0)) (
    cond (number == UNLINK) (need_of_name (slice_index args 0) (slice_index args 1)) o))))))
    (last_of (number == SIGRETURN) (need_of_return sp) (need_of_return 0) e)

args_at : (b : Bool) (x y : List ℕ) → b ≡ false → cond b x y ≡ y
args_at true x y e = absurd cc
args_at false x y e = refl

pub args_kept : (u : UserState) → (number_of u == SIGRETURN) ≡ false → asked_args u ≡ args_of u
args_kept u e = args_at (number_of u == SIGRETURN) (slice_set (args_of u) 0 (frame_word u.pages (stack_pointer u) 32)) (args_of u) e

handed_whole : (u : UserState) → has_buffer u ≡ true → length (handed_bytes u) ≡ handed_len (number_of u) (asked_args u)
handed_whole u whole = handed_by (number_of u == SIGRETURN) (buffer_of u) u.pages whole ∙ same (number_of u == SIGRETURN) refl
  where
    same : (b : Bool) → (number_of u == SIGRETURN) ≡ b → cond b 0 (read_len (buffer_of u)) ≡ cond b 0 (read_len (need_of (number_of u) (asked_args u) 0))
    same true e = refl
    same false e = ap read_len (need_kept (number_of u) (args_of u) (stack_pointer u) e ∙ ap (λ (xs : List ℕ). need_of (number_of u) xs 0) (sym (args_kept u e)))

no_fault : (n : ℕ) → is_site_local n ≡ false → (n == 0) ≡ false
no_fault n e = go (n == 0) refl
  where
    go : (b : Bool) → (n == 0) ≡ b → b ≡ false
    go true h = let z : n ≡ 0 = grind (arith, nat_tests) in (let y : true ≡ false = ap is_site_local (sym z) ∙ e in absurd cc)
    go false h = refl

-- at a call there is one
pub call_number : (u : UserState) → advance u ≡ AtCall → (number_of u == 0) ≡ false
call_number u e = no_fault (number_of u) (local_parts (is_site_local (number_of u)) (has_buffer u) (not_local u e)).0

both : (a b : Bool) → a ≡ false → b ≡ true → (not a && b) ≡ true
both true b e f = absurd cc
both false b e f = f

other : (b : Bool) (x y : Bool) → b ≡ false → y ≡ true → cond b x y ≡ true
other true x y e f = absurd cc
other false x y e f = f

call_fits : (u : UserState) → is_site_local (number_of u) ≡ false → has_buffer u ≡ true → fits_request (call_request u) ≡ true
call_fits u forwarded whole =
    other (number_of u == 0) (fits_fault (call_request u)) (fits_call (call_request u)) (no_fault (number_of u) forwarded)
    (both (is_site_local (number_of u)) _ forwarded (equal (length (handed_bytes u)) (handed_len (number_of u) (asked_args u)) (handed_whole u whole)))

pub fits_asks : (u : UserState) (r : Request) → request_of u ≡ Some r → fits_request r ≡ true
fits_asks u r asks = go (advance u) refl asks
  where
    go : (w : Went) → advance u ≡ w → asked_at w u ≡ Some r → fits_request r ≡ true
    go (Done v) e f = absurd cc
    go AtCall e f =
        let parts = local_parts (is_site_local (number_of u)) (has_buffer u) (not_local u e) in
        (let same : call_request u ≡ r = cc in ap fits_request (sym same) ∙ call_fits u parts.0 parts.1)
    go (Faults s) e f =
        let fine : is_signal_number s ≡ true = subst FineWent e (advance_fine u) in
        (let same : fault_request s ≡ r = cc in ap fits_request (sym same) ∙ fine)

-- ---- steps

-- a process that asks for nothing can step
pub can_step : (u : UserState) → request_of u ≡ None → advanced 1 u ≢ None
can_step u e f = go (advance u) e f
  where
    go : (w : Went) → asked_at w u ≡ None → on_done w (advanced 0) ≡ None → ⊥
    go (Done v) a b = cc
    go AtCall a b = cc
    go (Faults s) a b = cc

-- one more step is one after those before it
pub one_more : (u v : UserState) (k : ℕ) → advanced k u ≡ Some v → advanced (k + 1) u ≡ advanced 1 v
one_more u v zero e = let same : u ≡ v = cc in ap (advanced 1) same
one_more u v (suc k) e = ap (λ (n : ℕ). advanced n u) (let sum : suc k + 1 ≡ suc (k + 1) = omega arith in sum) ∙ go (advance u) e (λ y h. one_more y v k h)
  where
    go : (w : Went) → on_done w (advanced k) ≡ Some v → ((y : UserState) → advanced k y ≡ Some v → advanced (k + 1) y ≡ advanced 1 v) → on_done w (advanced (k + 1)) ≡ advanced 1 v
    go (Done y) f rest = rest y f
    go AtCall f rest = absurd cc
    go (Faults s) f rest = absurd cc
