-- What a process can get: whether it is at a forwarded call, and the room for a frame after the return.
use Rattle.std.proofs.Common.{◌≡◌, ℕ, zero, suc, ◌+◌, ◌/◌, ◌%◌, ◌<◌, ◌≤◌, ◌==◌, ◌&&◌, ◌||◌, not, List, [], ◌∷◌, refl, ap, ◌∙◌, sym, subst, arith, Option, Some, None, Result, Ok, Err, Bool, true, false, cond, is_ok, slice_index, slice_set}
use Rattle.std.proofs.lemmas.Bool.Decides.{nat_tests}
use Rattle.std.specs.FinMap as map
use Rattle.call_table.specs.Calls.{is_site_local}
use Rattle.call_table.specs.declared.limit.TheConstants.{STEPS}
use Rattle.call_table.specs.declared.call.TheConstants.{FORK, SIGRETURN}
use Rattle.call_table.specs.declared.table.TheConstants.{RIGHT_WRITE, FRAME_SIZE}
use Rattle.call_table.specs.declared.request.Answer.{Answer}
use Rattle.call_table.specs.declared.request.Kind.{Kind}
use Rattle.call_table.specs.declared.request.Kind.TheVariants.{Plain, Fork, Return}
use Rattle.page_set.specs.Pages.{Page, PageMap, byte_of, byte_at, flat_at, with_front}
use Rattle.user_spec.specs.User.{UserState}
use Rattle.user_spec.specs.Request.{number_of, stack_pointer, frame_at, has_frame_room, frame_word, frame_registers, returned_pointer, is_local_call, has_buffer, local_call, returned, returned_as}
use Rattle.user_spec.specs.Instruction.{Core, next_effect, applied, with_loaded, with_stored, load_as, store_as}
use Rattle.user_spec.specs.declared.effect.Effect.{Effect}
use Rattle.user_spec.specs.declared.effect.Effect.TheVariants.{Sets, Loads, Stores, Calls, Raises}
use Rattle.user_spec.specs.Advance.{Done, AtCall, core_of, went_of, counted, asked_at, request_of}
use Rattle.user_spec.specs.Fits.{forwards, fits_answer, fits_kind, has_room_at}
use Rattle.user_ctx.specs.Calling.{is_calling}
use Rattle.user_ctx.specs.Heap.{rights_at}
use Rattle.user_ctx.proofs.Rights.{Keeps, keeps_bytes}
use Rattle.user_ctx.proofs.Walks.{advance_is, advance_full}

-- ---- a forwarded call

-- after its last step a process is at a fault
pub full_forwards : (u : UserState) → STEPS ≤ u.count → forwards (request_of u) ≡ false
full_forwards u h = ap (λ w. forwards (asked_at w u)) (advance_full u h)

loaded_forwards : (u : UserState) (rd : ℕ) (r : Result ℕ ℕ) (c : Core) → forwards (asked_at (went_of u (with_loaded rd r c)) u) ≡ false
loaded_forwards u rd (Ok value) c = refl
loaded_forwards u rd (Err addr) c = refl

stored_forwards : (u : UserState) (r : Result PageMap ℕ) (c : Core) → forwards (asked_at (went_of u (with_stored r c)) u) ≡ false
stored_forwards u (Ok pages) c = refl
stored_forwards u (Err addr) c = refl

-- a forwarded call has a number
numbered : (n : ℕ) (b : Bool) → (is_site_local n || not b) ≡ false → not (n == 0) ≡ true
numbered zero b h = absurd (let z : true ≡ false = h in cc)
numbered (suc n) b h = grind (arith, nat_tests)

call_forwards : (u : UserState) (b : Bool) → is_local_call u ≡ b → forwards (asked_at (cond b (Done (counted (local_call u))) AtCall) u) ≡ not b
call_forwards u true e = refl
call_forwards u false e = numbered (number_of u) (has_buffer u) e

effect_forwards : (e : Effect) (u : UserState) (c : Core) → forwards (asked_at (went_of u (applied e c)) u) ≡ (is_calling e && not (is_local_call u))
effect_forwards (Sets rd value next) u c = refl
effect_forwards (Loads rd addr form) u c = loaded_forwards u rd (load_as form c.pages addr) c
effect_forwards (Stores addr value width) u c = stored_forwards u (store_as width c.pages addr value) c
effect_forwards Calls u c = call_forwards u (is_local_call u) refl
effect_forwards (Raises signal) u c = refl

forwards_as : (u : UserState) (e : Effect) → u.count < STEPS → next_effect u.pc (0 ∷ u.registers) u.pages ≡ e → forwards (request_of u) ≡ (is_calling e && not (is_local_call u))
forwards_as u e lt is =
    ap (λ w. forwards (asked_at w u)) (advance_is u (applied e (core_of u)) lt (ap (λ x. applied x (core_of u)) is)) ∙ effect_forwards e u (core_of u)

pub next_forwards : (u v : UserState) (x : List ℕ) (e : Effect) → v ≡ u → v.count < STEPS → x ≡ 0 ∷ v.registers → e ≡ next_effect v.pc x v.pages → forwards (request_of u) ≡ (is_calling e && not (is_local_call u))
next_forwards u v x e is lt x0 next =
    subst (λ (y : UserState). forwards (request_of y) ≡ (is_calling e && not (is_local_call y))) is (forwards_as v e lt (ap (λ y. next_effect v.pc y v.pages) (sym x0) ∙ sym next))

-- ---- the room for a frame

abbrev has_byte : Option ℕ → Bool
has_byte None = false
has_byte (Some b) = true

ok_front : (o : Option ℕ) (at : ℕ) (r : Result (List ℕ) ℕ) → is_ok (with_front o at r) ≡ (has_byte o && is_ok r)
ok_front None at r = refl
ok_front (Some b) at (Ok bytes) = refl
ok_front (Some b) at (Err addr) = refl

abbrev rights_in : Option Page → Option ℕ
rights_in None = None
rights_in (Some p) = Some p.rights

rights_same : (o : Option Page) (m : PageMap) (q : ℕ) → map.get m q ≡ o → rights_at m q ≡ rights_in o
rights_same None m q e = ap (λ x. let f : Option Page → Option ℕ = rights_in in f x) e
rights_same (Some p) m q e = ap (λ x. let f : Option Page → Option ℕ = rights_in in f x) e

-- a byte is granted by the rights of its page alone
granted_by : (right offset : ℕ) (o p : Option Page) → rights_in o ≡ rights_in p → has_byte (byte_of right offset o) ≡ has_byte (byte_of right offset p)
granted_by right offset None None h = refl
granted_by right offset None (Some p) h = absurd cc
granted_by right offset (Some o) None h = absurd cc
granted_by right offset (Some o) (Some p) h = both (Rattle.std.specs.Prelude.bit_and o.rights right == right) (Rattle.std.specs.Prelude.bit_and p.rights right == right) (ap (λ r. Rattle.std.specs.Prelude.bit_and r right == right) (let e : o.rights ≡ p.rights = cc in e))
  where
    both : (a b : Bool) → a ≡ b → has_byte (cond a (Some (slice_index o.bytes offset)) None) ≡ has_byte (cond b (Some (slice_index p.bytes offset)) None)
    both true true e = refl
    both true false e = absurd cc
    both false true e = absurd cc
    both false false e = refl

byte_kept : (old new : PageMap) (right at : ℕ) → Keeps old new → has_byte (byte_at new right at) ≡ has_byte (byte_at old right at)
byte_kept old new right at k =
    granted_by right (at % 4096) (map.get new (at / 4096)) (map.get old (at / 4096)) (sym (rights_same (map.get new (at / 4096)) new (at / 4096) refl) ∙ k.each (at / 4096) ∙ rights_same (map.get old (at / 4096)) old (at / 4096) refl)

room_kept : (old new : PageMap) (right at n : ℕ) → Keeps old new → is_ok (flat_at new right at n) ≡ is_ok (flat_at old right at n)
room_kept old new right at zero k = refl
room_kept old new right at (suc n) k =
    ok_front (byte_at new right at) at (flat_at new right (at + 1) n)
    ∙ ap (λ b. b && is_ok (flat_at new right (at + 1) n)) (byte_kept old new right at k)
    ∙ ap (λ b. has_byte (byte_at old right at) && b) (room_kept old new right (at + 1) n k)
    ∙ sym (ok_front (byte_at old right at) at (flat_at old right (at + 1) n))

frame_room_kept : (old new : PageMap) (sp : ℕ) → Keeps old new → has_frame_room new sp ≡ has_frame_room old sp
unfolding has_frame_room
frame_room_kept old new sp k = room_kept old new RIGHT_WRITE (frame_at sp) FRAME_SIZE k

-- a value in a0 leaves the stack pointer
pointer_kept : (registers : List ℕ) (value : ℕ) → slice_index (slice_set registers 9 value) 1 ≡ slice_index registers 1
pointer_kept [] value = refl
pointer_kept (a ∷ []) value = refl
pointer_kept (a ∷ b ∷ registers) value = refl

-- the stack pointer of the frame
pointer_of_frame : (pages : PageMap) (at : ℕ) → slice_index (frame_registers pages at 1 31) 1 ≡ frame_word pages at 2
unfolding frame_registers
pointer_of_frame pages at = refl

left_true : (a b : Bool) → (a && b) ≡ true → a ≡ true
left_true true b h = refl
left_true false b h = h

is_false : (a b : Bool) → (not a && b) ≡ true → a ≡ false
is_false true b h = absurd (let z : false ≡ true = h in cc)
is_false false b h = refl

-- no fork is a return
fork_not_return : (n : ℕ) → (n == FORK) ≡ true → (n == SIGRETURN) ≡ false
fork_not_return n h = grind (arith, nat_tests)

other_pointer : (u : UserState) → (number_of u == SIGRETURN) ≡ false → returned_pointer u ≡ stack_pointer u
other_pointer u h = ap (λ b. cond b (frame_word u.pages (stack_pointer u) 2) (stack_pointer u)) h

frame_pointer : (u : UserState) → (number_of u == SIGRETURN) ≡ true → returned_pointer u ≡ frame_word u.pages (stack_pointer u) 2
frame_pointer u h = ap (λ b. cond b (frame_word u.pages (stack_pointer u) 2) (stack_pointer u)) h

room_as : (kind : Kind) (u : UserState) (a : Answer) → fits_kind kind u a ≡ true → has_room_at (returned_as kind u a) ≡ has_frame_room u.pages (returned_pointer u)
room_as Plain u a h =
    let v = returned_as Plain u a in
    let other : (number_of u == SIGRETURN) ≡ false = is_false _ _ h in
    ap (has_frame_room v.pages) (pointer_kept u.registers _)
    ∙ frame_room_kept u.pages v.pages (stack_pointer u) (keeps_bytes u.pages _ a.bytes)
    ∙ ap (has_frame_room u.pages) (sym (other_pointer u other))
room_as Fork u a h =
    let other : (number_of u == SIGRETURN) ≡ false = fork_not_return (number_of u) (left_true _ _ h) in
    ap (has_frame_room u.pages) (pointer_kept u.registers _ ∙ sym (other_pointer u other))
room_as Return u a h =
    ap (has_frame_room u.pages) (pointer_of_frame u.pages (stack_pointer u) ∙ sym (frame_pointer u (left_true _ _ h)))

-- the room after the return of a call
pub room_returned : (u : UserState) (a : Answer) → fits_answer u a ≡ true → has_room_at (returned u a) ≡ has_frame_room u.pages (returned_pointer u)
room_returned u a h = room_as a.kind u a h
