-- Quanta and steps, by how runs of a process come out.
use Rattle.std.proofs.Common.{◌≡◌, ◌≢◌, ℕ, zero, suc, ◌+◌, ◌-◌, ◌<◌, ◌≤◌, refl, ap, ◌∙◌, sym, subst, arith, Option, Some, None, Bool, true, false, nat_le, cond, ◌&&◌, ◌==◌, unwrap_or}
use Rattle.std.proofs.lemmas.Bool.Decides.{nat_tests}
use Rattle.std.proofs.lemmas.Option.{none-some}
use Rattle.user_spec.specs.declared.outcome.Stop.{Stop}
use Rattle.user_spec.specs.declared.outcome.Stop.TheVariants as stops
use Rattle.user_ctx.specs.Stopping.{StopsAt}
use Rattle.user_ctx.proofs.Calls.{grows_done}
use Rattle.one_node.specs.declared.going.Ran.TheVariants.{Steps, Asks}
use Rattle.one_node.specs.Going.{Gone, gone, gone_by, asks_of}
use Rattle.user_spec.specs.User.{UserState}
use Rattle.user_spec.specs.Request.{number_of}
use Rattle.user_spec.specs.Advance.{Went, Done, AtCall, Faults, advance, advanced, on_done, Walk, walked, walk_on, stays, one_more, quantum_of, grows, user_after, request_of, asked_at, asked_number}

-- what does not step does not grow
no_growth : (u : UserState) (b : Bool) → grows u ≡ b → ((v : UserState) → advance u ≢ Done v) → b ≡ false
no_growth u false e h = refl
no_growth u true e h = absurd (h _ (grows_done u e))

call_not_done : (u v : UserState) → advance u ≡ AtCall → advance u ≢ Done v
call_not_done u v h e = let x : AtCall ≡ Done v = sym h ∙ e in cc

fault_not_done : (u v : UserState) (signal : ℕ) → advance u ≡ Faults signal → advance u ≢ Done v
fault_not_done u v signal h e = let x : Faults signal ≡ Done v = sym h ∙ e in cc

-- ---- a walk that went

walk_of_growth : (b : Bool) (u : UserState) (w : Walk) → 0 < (cond b (stays u) w).went → b ≡ false
walk_of_growth false u w h = refl
walk_of_growth true u w h = absurd (omega (arith, h))

went_no_growth : (q : ℕ) (u : UserState) → 0 < (walked q u).went → grows u ≡ false
went_no_growth zero u h = absurd (omega (arith, h))
went_no_growth (suc q) u h = walk_of_growth (grows u) u (walk_on (advance u) u (walked q)) h

plain_quantum : (q : ℕ) (u : UserState) → grows u ≡ false → quantum_of q u ≡ walked q u
plain_quantum q u h = ap (λ b. cond (b && nat_le 1 q) (one_more (walked (q - 1) (user_after (advance u) u))) (walked q u)) h

-- some steps are a quantum
pub quantum_went : (q k : ℕ) (u v : UserState) → walked q u ≡ record { went = k; user = v } → 0 < k → quantum_of q u ≡ record { went = k; user = v }
quantum_went q k u v h low =
    let some : 0 < (walked q u).went = subst (λ (w : Walk). 0 < w.went) (sym h) low in
    plain_quantum q u (went_no_growth q u some) ∙ h

-- ---- a walk that did not go

on_still : (w : Went) (u : UserState) (go : UserState → Walk) → (walk_on w u go).went ≡ 0 → (walk_on w u go).user ≡ u
on_still (Done v) u go h = absurd (let x : (go v).went + 1 ≡ 0 = h in omega (arith, x))
on_still AtCall u go h = refl
on_still (Faults signal) u go h = refl

grow_still : (b : Bool) (u : UserState) (w : Walk) → (w.went ≡ 0 → w.user ≡ u) → (cond b (stays u) w).went ≡ 0 → (cond b (stays u) w).user ≡ u
grow_still true u w h e = refl
grow_still false u w h e = h e

still : (q : ℕ) (u : UserState) → (walked q u).went ≡ 0 → (walked q u).user ≡ u
still zero u h = refl
still (suc q) u h = grow_still (grows u) u (walk_on (advance u) u (walked q)) (on_still (advance u) u (walked q)) h

-- the process is as it was
pub stays_there : (q : ℕ) (u v : UserState) → walked q u ≡ record { went = 0; user = v } → v ≡ u
stays_there q u v h = ap (λ (w : Walk). w.user) (sym h) ∙ still q u (ap (λ (w : Walk). w.went) h)

pub asked_call : (u : UserState) → advance u ≡ AtCall → asked_number (request_of u) ≡ Some (number_of u)
asked_call u h = ap (λ w. asked_number (asked_at w u)) h

pub quantum_stops : (q : ℕ) (u v : UserState) → walked q u ≡ record { went = 0; user = v } → ((x : UserState) → advance v ≢ Done x) → (quantum_of q u).went ≡ 0
quantum_stops q u v h stop =
    let same = stays_there q u v h in
    let calm = no_growth u (grows u) refl (λ x e. stop x (ap advance same ∙ e)) in
    ap (λ (w : Walk). w.went) (plain_quantum q u calm ∙ h)

pub stops_at_call : (q : ℕ) (u v : UserState) → walked q u ≡ record { went = 0; user = v } → advance v ≡ AtCall → (quantum_of q u).went ≡ 0
stops_at_call q u v h stop = quantum_stops q u v h (λ x. call_not_done v x stop)

pub stops_at_fault : (q : ℕ) (u v : UserState) (signal : ℕ) → walked q u ≡ record { went = 0; user = v } → advance v ≡ Faults signal → (quantum_of q u).went ≡ 0
stops_at_fault q u v signal h stop = quantum_stops q u v h (λ x. fault_not_done v x signal stop)

pub asked_fault : (u v : UserState) (signal : ℕ) → v ≡ u → advance v ≡ Faults signal → asked_number (request_of u) ≡ Some 0
asked_fault u v signal same h = ap (λ x. asked_number (request_of x)) (sym same) ∙ ap (λ w. asked_number (asked_at w v)) h

-- ---- a quantum that begins with a growth

low_is : (q : ℕ) → 1 ≤ q → nat_le 1 q ≡ true
low_is q h = grind (arith, nat_tests)

pub quantum_grown : (q k : ℕ) (u v w x : UserState) → 1 ≤ q → walked q u ≡ record { went = 0; user = v } → grows v ≡ true → advance v ≡ Done w → walked (q - 1) w ≡ record { went = k; user = x } → quantum_of q u ≡ record { went = k + 1; user = x }
quantum_grown q k u v w x low h g e rest =
    let same = stays_there q u v h in
    let yes : (grows u && nat_le 1 q) ≡ true = ap (λ y. grows y && nat_le 1 q) (sym same) ∙ ap (λ b. b && nat_le 1 q) g ∙ low_is q low in
    let after : user_after (advance u) u ≡ w = ap (λ y. user_after (advance y) u) (sym same) ∙ ap (λ y. user_after y u) e in
    ap (λ b. cond b (one_more (walked (q - 1) (user_after (advance u) u))) (walked q u)) yes
    ∙ ap (λ y. one_more (walked (q - 1) y)) after
    ∙ ap one_more rest

-- ---- so many steps

added : (w : Went) (j k : ℕ) (v : UserState) → ((x : UserState) → advanced j x ≡ Some v → advanced (j + k) x ≡ advanced k v) → on_done w (advanced j) ≡ Some v → on_done w (advanced (j + k)) ≡ advanced k v
added (Done x) j k v ih h = ih x h
added AtCall j k v ih h = absurd (none-some v h)
added (Faults signal) j k v ih h = absurd (none-some v h)

same_some : {A : Type 0} (x y : A) → Some x ≡ Some y → x ≡ y
same_some x y h = cc

-- k steps more
pub advanced_on : (j k : ℕ) (u v : UserState) → advanced j u ≡ Some v → advanced (j + k) u ≡ advanced k v
advanced_on zero k u v h = let e : 0 + k ≡ k = omega arith in ap (λ n. advanced n u) e ∙ ap (advanced k) (same_some u v h)
advanced_on (suc j) k u v h = let e : suc j + k ≡ suc (j + k) = omega arith in ap (λ n. advanced n u) e ∙ added (advance u) j k v (λ x. advanced_on j k x v) h

on_step : (w : Went) (u : UserState) (k : ℕ) → ((v : UserState) → advanced (walked k v).went v ≡ Some (walked k v).user) → advance u ≡ w
    → advanced (walk_on w u (walked k)).went u ≡ Some (walk_on w u (walked k)).user
on_step (Done v) u k ih e =
    let more : (walked k v).went + 1 ≡ suc ((walked k v).went) = omega arith in
    ap (λ n. advanced n u) more ∙ ap (λ w. on_done w (advanced (walked k v).went)) e ∙ ih v
on_step AtCall u k ih e = refl
on_step (Faults signal) u k ih e = refl

if_grows : (b : Bool) (u : UserState) (w : Walk) → advanced w.went u ≡ Some w.user → advanced (cond b (stays u) w).went u ≡ Some (cond b (stays u) w).user
if_grows true u w h = refl
if_grows false u w h = h

walked_steps : (k : ℕ) (u : UserState) → advanced (walked k u).went u ≡ Some (walked k u).user
walked_steps zero u = refl
walked_steps (suc k) u = if_grows (grows u) u (walk_on (advance u) u (walked k)) (on_step (advance u) u k (λ v. walked_steps k v) refl)

-- a run leads to what is left of the steps
pub steps_left : (k n : ℕ) (u v : UserState) → walked k u ≡ record { went = n; user = v } → n ≤ k → advanced k u ≡ advanced (k - n) v
steps_left k n u v h most =
    let steps : advanced n u ≡ Some v = subst (λ (w : Walk). advanced w.went u ≡ Some w.user) h (walked_steps k u) in
    let e : n + (k - n) ≡ k = omega arith in
    ap (λ m. advanced m u) (sym e) ∙ advanced_on n (k - n) u v steps

-- one of them is a growth
pub one_left : (k : ℕ) (u v : UserState) → 0 < k → advance u ≡ Done v → advanced k u ≡ advanced (k - 1) v
one_left k u v low h =
    let e : k ≡ suc (k - 1) = omega arith in
    ap (λ m. advanced m u) e ∙ ap (λ w. on_done w (advanced (k - 1))) h

none_on : (w : Went) (go : UserState → Option UserState) → ((v : UserState) → w ≢ Done v) → on_done w go ≡ None
none_on (Done v) go never = absurd (never v refl)
none_on AtCall go never = refl
none_on (Faults signal) go never = refl

-- or does not go
pub none_left : (k : ℕ) (u : UserState) (w : Went) → 0 < k → advance u ≡ w → ((v : UserState) → w ≢ Done v) → advanced k u ≡ None
none_left k u w low h never =
    let e : k ≡ suc (k - 1) = omega arith in
    ap (λ m. advanced m u) e ∙ ap (λ x. on_done x (advanced (k - 1))) h ∙ none_on w (advanced (k - 1)) never

-- ---- how a turn of a process comes out

at_zero : (q n : ℕ) (u v : UserState) → walked q u ≡ record { went = n; user = v } → n ≡ 0 → walked q u ≡ record { went = 0; user = v }
at_zero q n u v h z = h ∙ ap (λ m. record { went = m; user = v }) z

stop_is : (a stop : Stop) (v : UserState) → stop ≡ a → a ≢ stops.Went → (stop ≢ stops.Went → StopsAt stop v) → StopsAt a v
stop_is a stop v e ne h = subst (λ s. StopsAt s v) e (h (λ w. ne (sym e ∙ w)))

pub call_not_went : stops.AtCall ≢ stops.Went
call_not_went h = cc

pub growth_not_went : stops.Grows ≢ stops.Went
growth_not_went h = cc

pub fault_not_went : (signal : ℕ) → stops.Fault signal ≢ stops.Went
fault_not_went signal h = cc

nonzero : (k : ℕ) → 0 < k → (k == 0) ≡ false
nonzero k h = grind (arith, nat_tests)

is_nothing : (k : ℕ) → k ≡ 0 → (k == 0) ≡ true
is_nothing k h = ap (λ n. n == 0) h

pub goes_steps : (q k : ℕ) (u v : UserState) → quantum_of q u ≡ record { went = k; user = v } → 0 < k → gone q u ≡ record { ran = Steps k; user = v }
goes_steps q k u v h low =
    ap (gone_by u) h
    ∙ ap (λ b. let g : Gone = cond b (record { ran = Asks (asks_of u); user = u }) (record { ran = Steps k; user = v }) in g) (nonzero k low)

goes_asks : (q number : ℕ) (u : UserState) → (quantum_of q u).went ≡ 0 → asks_of u ≡ number → gone q u ≡ record { ran = Asks number; user = u }
goes_asks q number u h asks =
    ap (λ b. let g : Gone = cond b (record { ran = Asks (asks_of u); user = u }) (record { ran = Steps (quantum_of q u).went; user = (quantum_of q u).user }) in g) (is_nothing (quantum_of q u).went h)
    ∙ ap (λ n. let g : Gone = record { ran = Asks n; user = u } in g) asks

asks_is : (u : UserState) (number : ℕ) → asked_number (request_of u) ≡ Some number → asks_of u ≡ number
asks_is u number h = ap (λ o. unwrap_or o 0) h

pub goes_went : (q k : ℕ) (u v : UserState) → walked q u ≡ record { went = k; user = v } → 0 < k → gone q u ≡ record { ran = Steps k; user = v }
goes_went q k u v h low = goes_steps q k u v (quantum_went q k u v h low) low

pub goes_growth : (q n k : ℕ) (u v w x : UserState) (stop : Stop) → 1 ≤ q → walked q u ≡ record { went = n; user = v } → n ≡ 0 → stop ≡ stops.Grows → (stop ≢ stops.Went → StopsAt stop v)
    → advance v ≡ Done w → walked (q - 1) w ≡ record { went = k; user = x } → gone q u ≡ record { ran = Steps (k + 1); user = x }
goes_growth q n k u v w x stop low h z e s d rest =
    goes_steps q (k + 1) u x (quantum_grown q k u v w x low (at_zero q n u v h z) (stop_is stops.Grows stop v e growth_not_went s) d rest) (omega arith)

pub goes_call : (q n : ℕ) (u v : UserState) (stop : Stop) → walked q u ≡ record { went = n; user = v } → n ≡ 0 → stop ≡ stops.AtCall → (stop ≢ stops.Went → StopsAt stop v)
    → (number : ℕ) → asked_number (request_of v) ≡ Some number → gone q u ≡ record { ran = Asks number; user = v }
goes_call q n u v stop h z e s number asked =
    let at = at_zero q n u v h z in
    let call = stop_is stops.AtCall stop v e call_not_went s in
    let same = stays_there q u v at in
    goes_asks q number u (stops_at_call q u v at call) (asks_is u number (ap (λ y. asked_number (request_of y)) (sym same) ∙ asked))
    ∙ ap (λ y. let g : Gone = record { ran = Asks number; user = y } in g) (sym same)

pub goes_fault : (q n signal : ℕ) (u v : UserState) (stop : Stop) → walked q u ≡ record { went = n; user = v } → n ≡ 0 → stop ≡ stops.Fault signal → (stop ≢ stops.Went → StopsAt stop v) → gone q u ≡ record { ran = Asks 0; user = v }
goes_fault q n signal u v stop h z e s =
    let at = at_zero q n u v h z in
    let fault = stop_is (stops.Fault signal) stop v e (fault_not_went signal) s in
    let same = stays_there q u v at in
    goes_asks q 0 u (stops_at_fault q u v signal at fault) (asks_is u 0 (asked_fault u v signal same fault))
    ∙ ap (λ y. let g : Gone = record { ran = Asks 0; user = y } in g) (sym same)

-- ---- what a process asks that makes no step

asked_some : (o : Option ℕ) (n : ℕ) → o ≡ Some n → o ≡ Some (unwrap_or o 0)
asked_some None n h = absurd (none-some n h)
asked_some (Some m) n h = refl

asks_on : (w : Went) (u : UserState) (go : UserState → Walk) → advance u ≡ w → (walk_on w u go).went ≡ 0 → asked_number (request_of u) ≡ Some (asks_of u)
asks_on (Done v) u go e h = absurd (let x : (go v).went + 1 ≡ 0 = h in omega (arith, x))
asks_on AtCall u go e h = asked_some (asked_number (request_of u)) (number_of u) (asked_call u e)
asks_on (Faults signal) u go e h = asked_some (asked_number (request_of u)) 0 (ap (λ w. asked_number (asked_at w u)) e)

asks_if : (b : Bool) (q : ℕ) (u : UserState) → 1 ≤ q → (cond (b && nat_le 1 q) (one_more (walked (q - 1) (user_after (advance u) u))) (cond b (stays u) (walk_on (advance u) u (walked (q - 1))))).went ≡ 0 → asked_number (request_of u) ≡ Some (asks_of u)
asks_if false q u low h = asks_on (advance u) u (walked (q - 1)) refl h
asks_if true q u low h =
    let at : nat_le 1 q ≡ true = low_is q low in
    let w = one_more (walked (q - 1) (user_after (advance u) u)) in
    let some : w.went ≡ 0 = subst (λ b. (cond b w (stays u)).went ≡ 0) at h in
    absurd (let x : (walked (q - 1) (user_after (advance u) u)).went + 1 ≡ 0 = some in omega (arith, x))

walked_if : (q : ℕ) (u : UserState) → 1 ≤ q → walked q u ≡ cond (grows u) (stays u) (walk_on (advance u) u (walked (q - 1)))
walked_if zero u low = absurd (omega (arith, low))
walked_if (suc q) u low = let e : q ≡ suc q - 1 = omega arith in ap (λ k. cond (grows u) (stays u) (walk_on (advance u) u (walked k))) e

pub asks_there : (q : ℕ) (u : UserState) → 1 ≤ q → (quantum_of q u).went ≡ 0 → asked_number (request_of u) ≡ Some (asks_of u)
asks_there q u low h =
    asks_if (grows u) q u low (subst (λ (w : Walk). (cond (grows u && nat_le 1 q) (one_more (walked (q - 1) (user_after (advance u) u))) w).went ≡ 0) (walked_if q u low) h)

-- ---- how steps come out

-- after a run of what was left
pub left_on : (k done n : ℕ) (first u v : UserState) → advanced k first ≡ advanced (k - done) u → walked (k - done) u ≡ record { went = n; user = v } → n ≤ k - done → advanced k first ≡ advanced (k - done - n) v
left_on k done n first u v left h most = left ∙ steps_left (k - done) n u v h most

pub all_went : (k done n : ℕ) (first u v : UserState) → advanced k first ≡ advanced (k - done) u → walked (k - done) u ≡ record { went = n; user = v } → n ≡ k - done → advanced k first ≡ Some v
all_went k done n first u v left h e =
    let z : k - done - n ≡ 0 = omega arith in
    left_on k done n first u v left h (omega arith) ∙ ap (λ m. advanced m v) z

pub grew : (k done n : ℕ) (first u v w : UserState) → advanced k first ≡ advanced (k - done) u → walked (k - done) u ≡ record { went = n; user = v } → n < k - done → advance v ≡ Done w
    → advanced k first ≡ advanced (k - (done + n + 1)) w
grew k done n first u v w left h short d =
    let e : k - done - n - 1 ≡ k - (done + n + 1) = omega arith in
    left_on k done n first u v left h (omega arith) ∙ one_left (k - done - n) v w (omega arith) d ∙ ap (λ m. advanced m w) e

pub stopped_at_call : (k done n : ℕ) (first u v : UserState) → advanced k first ≡ advanced (k - done) u → walked (k - done) u ≡ record { went = n; user = v } → n < k - done → advance v ≡ AtCall → advanced k first ≡ None
stopped_at_call k done n first u v left h short stop =
    left_on k done n first u v left h (omega arith) ∙ none_left (k - done - n) v AtCall (omega arith) stop (λ x e. cc)

pub stopped_at_fault : (k done n signal : ℕ) (first u v : UserState) → advanced k first ≡ advanced (k - done) u → walked (k - done) u ≡ record { went = n; user = v } → n < k - done → advance v ≡ Faults signal → advanced k first ≡ None
stopped_at_fault k done n signal first u v left h short stop =
    left_on k done n first u v left h (omega arith) ∙ none_left (k - done - n) v (Faults signal) (omega arith) stop (λ x e. cc)

-- a run that stopped
pub run_call : (stop : Stop) (v : UserState) → stop ≡ stops.AtCall → (stop ≢ stops.Went → StopsAt stop v) → advance v ≡ AtCall
run_call stop v e h = stop_is stops.AtCall stop v e call_not_went h

pub run_fault : (stop : Stop) (signal : ℕ) (v : UserState) → stop ≡ stops.Fault signal → (stop ≢ stops.Went → StopsAt stop v) → advance v ≡ Faults signal
run_fault stop signal v e h = stop_is (stops.Fault signal) stop v e (fault_not_went signal) h

pub is_short : (a stop : Stop) (n k : ℕ) → stop ≡ a → a ≢ stops.Went → (stop ≢ stops.Went → n < k) → n < k
is_short a stop n k e ne h = h (λ w. ne (sym e ∙ w))
