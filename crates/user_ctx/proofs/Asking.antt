-- What a process asks.
use Rattle.std.proofs.Common.{◌≡◌, ℕ, ◌<◌, ◌≤◌, List, ◌∷◌, refl, ap, ◌∙◌, sym, subst, Option, Some, None, Result, Ok, Err, Bool, true, false, not, ◌&&◌, cond}
use Rattle.std.specs.Prelude.{IsSome}
use Rattle.call_table.specs.declared.limit.TheConstants.{STEPS}
use Rattle.call_table.specs.declared.signal.TheConstants.{SIGSEGV, SIGXCPU}
use Rattle.call_table.specs.declared.request.Request.{Request}
use Rattle.user_spec.specs.User.{UserState}
use Rattle.user_spec.specs.Request.{number_of, asked_args, handed_bytes, returned_pointer, has_frame_room, is_local_call, local_call, call_request, fault_request}
use Rattle.user_spec.specs.Instruction.{Core, next_effect, applied, with_loaded, with_stored, load_as, store_as}
use Rattle.user_spec.specs.declared.effect.Effect.{Effect}
use Rattle.user_spec.specs.declared.effect.Effect.TheVariants.{Sets, Loads, Stores, Calls, Raises}
use Rattle.user_spec.specs.Advance.{Went, Done, AtCall, Faults, advance, core_of, went_of, counted, asked_at, request_of}
use Rattle.user_ctx.specs.Calling.{signal_of, AsksBy, is_calling, is_at}
use Rattle.user_ctx.proofs.Walks.{advance_is, advance_full}

pub asks_full : (u : UserState) → STEPS ≤ u.count → advance u ≡ Faults SIGXCPU
asks_full u h = advance_full u h

false_true : false ≡ true → ⊥
false_true e = cc

asks_loaded : (u : UserState) (rd : ℕ) (r : Result ℕ ℕ) (c : Core) → IsSome (asked_at (went_of u (with_loaded rd r c)) u) → went_of u (with_loaded rd r c) ≡ Faults SIGSEGV
asks_loaded u rd (Ok value) c h = absurd (false_true h)
asks_loaded u rd (Err addr) c h = refl

asks_stored : (u : UserState) (r : Result _ ℕ) (c : Core) → IsSome (asked_at (went_of u (with_stored r c)) u) → went_of u (with_stored r c) ≡ Faults SIGSEGV
asks_stored u (Ok pages) c h = absurd (false_true h)
asks_stored u (Err addr) c h = refl

asks_at : (u : UserState) (b : Bool) → IsSome (asked_at (cond b (Done (counted (local_call u))) AtCall) u) → cond b (Done (counted (local_call u))) AtCall ≡ AtCall
asks_at u true h = absurd (false_true h)
asks_at u false h = refl

abbrev Told : Option ℕ → Went → Type 0
Told None w = w ≡ AtCall
Told (Some signal) w = w ≡ Faults signal

-- an instruction that does not go
asks_effect : (e : Effect) (u : UserState) (c : Core) → IsSome (asked_at (went_of u (applied e c)) u) → Told (signal_of e) (went_of u (applied e c))
asks_effect (Sets rd value next) u c h = absurd (false_true h)
asks_effect (Loads rd addr form) u c h = asks_loaded u rd (load_as form c.pages addr) c h
asks_effect (Stores addr value width) u c h = asks_stored u (store_as width c.pages addr value) c h
asks_effect Calls u c h = asks_at u (is_local_call u) h
asks_effect (Raises signal) u c h = refl

told_advance : (o : Option ℕ) (u : UserState) (w : Went) → advance u ≡ w → Told o w → AsksBy o u
told_advance None u w e h = e ∙ h
told_advance (Some signal) u w e h = e ∙ h

asks_as : (u : UserState) (e : Effect) → u.count < STEPS → next_effect u.pc (0 ∷ u.registers) u.pages ≡ e → IsSome (request_of u) → AsksBy (signal_of e) u
asks_as u e lt is h =
    let w : Went = went_of u (applied e (core_of u)) in
    let a : advance u ≡ w = advance_is u (applied e (core_of u)) lt (ap (λ x. applied x (core_of u)) is) in
    told_advance (signal_of e) u w a (asks_effect e u (core_of u) (subst (λ (x : Went). IsSome (asked_at x u)) a h))

pub asks_next : (u v : UserState) (x : List ℕ) (e : Effect) (o : Option ℕ) → v ≡ u → v.count < STEPS → x ≡ 0 ∷ v.registers → e ≡ next_effect v.pc x v.pages → o ≡ signal_of e → IsSome (request_of u) → AsksBy o u
asks_next u v x e o is lt zero next told h =
    let known : IsSome (request_of v) = subst (λ (y : UserState). IsSome (request_of y)) (sym is) h in
    let q : AsksBy (signal_of e) v = asks_as v e lt (ap (λ y. next_effect v.pc y v.pages) (sym zero) ∙ sym next) known in
    subst (λ (y : UserState). AsksBy o y) is (subst (λ (y : Option ℕ). AsksBy y v) (sym told) q)

pub asks_call : (u : UserState) (r : Request) → advance u ≡ AtCall → r ≡ call_request u → request_of u ≡ Some r
asks_call u r a e = ap (λ w. asked_at w u) a ∙ ap (λ (x : Request). Some x) (sym e)

pub asks_fault : (u : UserState) (r : Request) (signal : ℕ) → advance u ≡ Faults signal → r ≡ fault_request signal → request_of u ≡ Some r
asks_fault u r signal a e = ap (λ w. asked_at w u) a ∙ ap (λ (x : Request). Some x) (sym e)

pub call_is : (u : UserState) (number : ℕ) (args bytes : List ℕ) (room : Bool) → number ≡ number_of u → args ≡ asked_args u → bytes ≡ handed_bytes u → room ≡ has_frame_room u.pages (returned_pointer u) → (let r : Request = record { number = number; args = args; bytes = bytes; room = room } in r ≡ call_request u)
call_is u number args bytes room n a b r =
    ap (λ x. let q : Request = record { number = x; args = args; bytes = bytes; room = room } in q) n
    ∙ ap (λ x. let q : Request = record { number = number_of u; args = x; bytes = bytes; room = room } in q) a
    ∙ ap (λ x. let q : Request = record { number = number_of u; args = asked_args u; bytes = x; room = room } in q) b
    ∙ ap (λ x. let q : Request = record { number = number_of u; args = asked_args u; bytes = handed_bytes u; room = x } in q) r

-- ---- whether it is at a forwarded call

at_loaded : (u : UserState) (rd : ℕ) (r : Result ℕ ℕ) (c : Core) → is_at (went_of u (with_loaded rd r c)) ≡ false
at_loaded u rd (Ok value) c = refl
at_loaded u rd (Err addr) c = refl

at_stored : (u : UserState) (r : Result _ ℕ) (c : Core) → is_at (went_of u (with_stored r c)) ≡ false
at_stored u (Ok pages) c = refl
at_stored u (Err addr) c = refl

at_if : (u : UserState) (b : Bool) → is_at (cond b (Done (counted (local_call u))) AtCall) ≡ not b
at_if u true = refl
at_if u false = refl

at_effect : (e : Effect) (u : UserState) (c : Core) → is_at (went_of u (applied e c)) ≡ (is_calling e && not (is_local_call u))
at_effect (Sets rd value next) u c = refl
at_effect (Loads rd addr form) u c = at_loaded u rd (load_as form c.pages addr) c
at_effect (Stores addr value width) u c = at_stored u (store_as width c.pages addr value) c
at_effect Calls u c = at_if u (is_local_call u)
at_effect (Raises signal) u c = refl

at_as : (u : UserState) (e : Effect) → u.count < STEPS → next_effect u.pc (0 ∷ u.registers) u.pages ≡ e → is_at (advance u) ≡ (is_calling e && not (is_local_call u))
at_as u e lt is =
    ap is_at (advance_is u (applied e (core_of u)) lt (ap (λ x. applied x (core_of u)) is)) ∙ at_effect e u (core_of u)

pub at_next : (u v : UserState) (x : List ℕ) (e : Effect) → v ≡ u → v.count < STEPS → x ≡ 0 ∷ v.registers → e ≡ next_effect v.pc x v.pages → is_at (advance u) ≡ (is_calling e && not (is_local_call u))
at_next u v x e is lt zero next =
    let P : UserState → Type 0 = λ y. is_at (advance y) ≡ (is_calling e && not (is_local_call y)) in
    subst P is (at_as v e lt (ap (λ y. next_effect v.pc y v.pages) (sym zero) ∙ sym next))

pub not_at_full : (u : UserState) → STEPS ≤ u.count → is_at (advance u) ≡ false
not_at_full u h = ap is_at (advance_full u h)

pub at_call_by : (w : Went) → is_at w ≡ true → w ≡ AtCall
at_call_by AtCall h = refl
at_call_by (Done v) h = absurd (false_true h)
at_call_by (Faults signal) h = absurd (false_true h)
