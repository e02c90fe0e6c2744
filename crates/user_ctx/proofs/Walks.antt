-- Steps of a process, from its instructions.
use Rattle.std.proofs.Common.{◌≡◌, ◌≢◌, ◌⊎◌, inl, inr, ℕ, zero, suc, ◌+◌, ◌-◌, ◌<◌, ◌≤◌, refl, ap, ◌∙◌, sym, subst, arith, Some, Bool, true, false, nat_le, nat_lt, cond, ◌&&◌, not, min}
use Rattle.std.proofs.lemmas.Option.{none-some, same_Some}
use Rattle.std.proofs.lemmas.Bool.Decides.{nat_tests}
use Rattle.user_spec.specs.User.{UserState}
use Rattle.user_spec.specs.Request.{number_of, args_of, break_maps}
use Rattle.user_spec.specs.Instruction.{Core, Ran, done, one_instruction, on_outcome, ran}
use Rattle.user_spec.specs.Advance.{Went, Done, AtCall, Faults, advance, core_of, with_core, went_of, grows, is_at_ecall, Stepped, stepped, stepped_as, Walk, walked, walk_on, stays, one_more}
use Rattle.std.specs.Prelude.{slice_index, ◌==◌}
use Rattle.user_spec.specs.declared.outcome.Stop.{Stop}
use Rattle.user_spec.specs.declared.outcome.Stop.TheVariants as stop
use Rattle.user_spec.specs.declared.outcome.Outcome.{Outcome}
use Rattle.user_spec.specs.declared.outcome.Outcome.TheVariants as outcome
use Rattle.call_table.specs.declared.limit.TheConstants.{STEPS}
use Rattle.call_table.specs.declared.signal.TheConstants.{SIGXCPU}
use Rattle.call_table.specs.declared.call.TheConstants.{BRK}
use Rattle.user_ctx.specs.Stopping.{StopsAt, after, Leads, EndsAs, limited}

-- ---- one step

not_full : (n : ℕ) → n < STEPS → nat_le STEPS n ≡ false
not_full n h = grind (arith, nat_tests)

full : (n : ℕ) → STEPS ≤ n → nat_le STEPS n ≡ true
full n h = grind (arith, nat_tests)

pub advance_is : (u : UserState) (r : Ran) → u.count < STEPS → one_instruction (core_of u) ≡ r → advance u ≡ went_of u r
advance_is u r h e = ap (λ b. cond b (Faults SIGXCPU) (went_of u (one_instruction (core_of u)))) (not_full u.count h) ∙ ap (went_of u) e

pub advance_full : (u : UserState) → STEPS ≤ u.count → advance u ≡ Faults SIGXCPU
advance_full u h = ap (λ b. cond b (Faults SIGXCPU) (went_of u (one_instruction (core_of u)))) (full u.count h)

and_false : (a : Bool) → (a && false) ≡ false
and_false true = refl
and_false false = refl

abbrev next_breaks : UserState → Bool
next_breaks u = (number_of u == BRK) && break_maps u (slice_index (args_of u) 0)

pub still : (u : UserState) (r : Ran) → one_instruction (core_of u) ≡ r → is_at_ecall r ≡ false → grows u ≡ false
still u r e h =
    ap (λ x. not (nat_le STEPS u.count) && (is_at_ecall x && next_breaks u)) e
    ∙ ap (λ b. not (nat_le STEPS u.count) && (b && next_breaks u)) h
    ∙ and_false (not (nat_le STEPS u.count))

-- ---- a walk

pub walk_one : (u v : UserState) (n : ℕ) → advance u ≡ Done v → grows u ≡ false → walked (suc n) u ≡ one_more (walked n v)
walk_one u v n a g = ap (λ b. cond b (stays u) (walk_on (advance u) u (walked n))) g ∙ ap (λ w. walk_on w u (walked n)) a

either_stays : (b : Bool) (u : UserState) (w : Walk) → w ≡ stays u → cond b (stays u) w ≡ stays u
either_stays true u w e = refl
either_stays false u w e = e

pub walk_stop : (n : ℕ) (u : UserState) (s : Stop) → StopsAt s u → walked n u ≡ stays u
walk_stop zero u s h = refl
walk_stop (suc n) u stop.Went h = absurd h
walk_stop (suc n) u stop.AtCall h = either_stays (grows u) u (walk_on (advance u) u (walked n)) (ap (λ w. walk_on w u (walked n)) h)
walk_stop (suc n) u stop.Grows h = ap (λ b. cond b (stays u) (walk_on (advance u) u (walked n))) h
walk_stop (suc n) u (stop.Fault signal) h = either_stays (grows u) u (walk_on (advance u) u (walked n)) (ap (λ w. walk_on w u (walked n)) h)

after_more : (k : ℕ) (w : Walk) → one_more (after k w) ≡ after (suc k) w
after_more k w = let e : k + w.went + 1 ≡ suc k + w.went = omega arith in ap (λ n. record w { went = n }) e

after_none : (w : Walk) → w ≡ after 0 w
after_none w = let e : w.went ≡ 0 + w.went = omega arith in ap (λ n. record w { went = n }) e

with_twice : (u : UserState) (k : ℕ) (c d : Core) → with_core (with_core u 1 c) k d ≡ with_core u (suc k) d
with_twice u k c d = let e : u.count + 1 + k ≡ u.count + suc k = omega arith in ap (λ n. record u { pc = d.pc; registers = d.registers; pages = d.pages; count = n }) e

with_none : (u : UserState) → u ≡ with_core u 0 (core_of u)
with_none u = let e : u.count ≡ u.count + 0 = omega arith in ap (λ n. record u { count = n }) e

lifted : (o : Outcome) (c : Core) (k m : ℕ) (u : UserState) (d : Core) → ((v : UserState) → ran k (core_of v) ≡ Some d → v.count + k ≤ STEPS → walked (k + m) v ≡ after k (walked m (with_core v k d))) → one_instruction (core_of u) ≡ record { outcome = o; core = c } → on_outcome o c (ran k) ≡ Some d → u.count + suc k ≤ STEPS → walked (suc (k + m)) u ≡ after (suc k) (walked m (with_core u (suc k) d))
lifted outcome.Done c k m u d ih is h le =
    walk_one u (with_core u 1 c) (k + m) (advance_is u (done c) (omega arith) is) (still u (done c) is refl)
    ∙ ap one_more (ih (with_core u 1 c) h (omega arith))
    ∙ after_more k (walked m (with_core (with_core u 1 c) k d))
    ∙ ap (λ x. after (suc k) (walked m x)) (with_twice u k c d)
lifted outcome.Call c k m u d ih is h le = absurd (none-some d h)
lifted (outcome.Fault signal) c k m u d ih is h le = absurd (none-some d h)

walk_ran : (k m : ℕ) (u : UserState) (d : Core) → ran k (core_of u) ≡ Some d → u.count + k ≤ STEPS → walked (k + m) u ≡ after k (walked m (with_core u k d))
walk_ran zero m u d h le =
    let e : 0 + m ≡ m = omega arith in
    ap (λ n. walked n u) e ∙ ap (walked m) (with_none u ∙ ap (with_core u 0) (same_Some (core_of u) d h)) ∙ after_none (walked m (with_core u 0 d))
walk_ran (suc k) m u d h le =
    let e : suc k + m ≡ suc (k + m) = omega arith in
    ap (λ n. walked n u) e ∙ lifted (one_instruction (core_of u)).outcome (one_instruction (core_of u)).core k m u d (λ v. walk_ran k m v d) refl h le

-- instructions that were done are steps
pub leads : (k : ℕ) (old u : UserState) (d : Core) → u ≡ old → ran k (core_of u) ≡ Some d → u.count + k ≤ STEPS → Leads k old (with_core u k d)
leads k old u d is h le = record { walks = λ m. ap (walked (k + m)) (sym is) ∙ walk_ran k m u d h le }

-- ---- how instructions end

ends_done : (b : Bool) (went most n count : ℕ) (u : UserState) → u.count ≡ count + went → most ≡ min n (STEPS - count) → count ≤ STEPS → went ≡ most → ((b ≡ true) × (most < n)) ⊎ ((b ≡ false) × (n ≤ most)) → EndsAs (limited outcome.Done b) went n u
ends_done true went most n count u c m le is (inl h) = (omega arith, advance_full u (omega arith))
ends_done true went most n count u c m le is (inr h) = absurd (let e : true ≡ false = h.0 in cc)
ends_done false went most n count u c m le is (inl h) = absurd (let e : false ≡ true = h.0 in cc)
ends_done false went most n count u c m le is (inr h) = omega arith

lt_tells : (a b : ℕ) → ((nat_lt a b ≡ true) × (a < b)) ⊎ ((nat_lt a b ≡ false) × (b ≤ a))
lt_tells a b = grind (arith, nat_tests)

pub ends : (o : Outcome) (went most n count : ℕ) (u : UserState) → u.count ≡ count + went → most ≡ min n (STEPS - count) → count ≤ STEPS → (o ≡ outcome.Done → went ≡ most) → (o ≢ outcome.Done → went < most) → (o ≢ outcome.Done → one_instruction (core_of u) ≡ record { outcome = o; core = core_of u }) → EndsAs (limited o (nat_lt most n)) went n u
ends outcome.Done went most n count u c m le whole short stops = ends_done (nat_lt most n) went most n count u c m le (whole refl) (lt_tells most n)
ends outcome.Call went most n count u c m le whole short stops =
    let lt : went < most = short (λ e. cc) in
    (omega arith, record { room = omega arith; ecall = ap (λ (r : Ran). r.outcome) (stops (λ e. cc)) })
ends (outcome.Fault signal) went most n count u c m le whole short stops =
    let lt : went < most = short (λ e. cc) in
    (omega arith, advance_is u (record { outcome = outcome.Fault signal; core = core_of u }) (omega arith) (stops (λ e. cc)))

-- ---- the loop over runs of instructions

after_after : (i k : ℕ) (w : Walk) → after i (after k w) ≡ after (i + k) w
after_after i k w = let e : i + (k + w.went) ≡ i + k + w.went = omega arith in ap (λ n. record w { went = n }) e

pub walked_on : (k went more : ℕ) (start u v : UserState) → went + more ≤ k → walked k start ≡ after went (walked (k - went) u) → Leads more u v → walked k start ≡ after (went + more) (walked (k - (went + more)) v)
walked_on k went more start u v le h l =
    let e : k - went ≡ more + (k - (went + more)) = omega arith in
    h ∙ ap (λ n. after went (walked n u)) e ∙ ap (after went) (l.walks (k - (went + more))) ∙ after_after went more (walked (k - (went + more)) v)

walked_one : (k went : ℕ) (start u v : UserState) → went < k → walked k start ≡ after went (walked (k - went) u) → (advance u ≡ Done v) × (grows u ≡ false) → walked k start ≡ after (went + 1) (walked (k - (went + 1)) v)
walked_one k went start u v lt h s =
    let e : k - went ≡ suc (k - (went + 1)) = omega arith in
    let f : went + ((walked (k - (went + 1)) v).went + 1) ≡ went + 1 + (walked (k - (went + 1)) v).went = omega arith in
    h ∙ ap (λ n. after went (walked n u)) e ∙ ap (after went) (walk_one u v (k - (went + 1)) s.0 s.1) ∙ ap (λ n. record (walked (k - (went + 1)) v) { went = n }) f

pub walked_stop : (k went : ℕ) (start u v : UserState) (s : Stop) → walked k start ≡ after went (walked (k - went) u) → StopsAt s u → v ≡ u → walked k start ≡ record { went = went; user = v }
walked_stop k went start u v s h stops is =
    let e : went + 0 ≡ went = omega arith in
    h ∙ ap (after went) (walk_stop (k - went) u s stops) ∙ ap (λ n. let w : Walk = record { went = n; user = u } in w) e ∙ ap (λ x. let w : Walk = record { went = went; user = x } in w) (sym is)

pub walked_whole : (k went : ℕ) (start u : UserState) → went ≡ k → walked k start ≡ after went (walked (k - went) u) → walked k start ≡ record { went = went; user = u }
walked_whole k went start u is h =
    let z : k - went ≡ 0 = omega arith in
    let e : went + 0 ≡ went = omega arith in
    h ∙ ap (λ n. after went (walked n u)) z ∙ ap (λ n. let w : Walk = record { went = n; user = u } in w) e

-- ---- what a step tells

told_at : (b : Bool) (w : Went) (u v : UserState) (s : Stop) → grows u ≡ b → advance u ≡ w → cond b (let x : Stepped = record { stop = stop.Grows; user = u } in x) (stepped_as w u) ≡ record { stop = s; user = v } → s ≢ stop.Went → StopsAt s u × (v ≡ u)
told_at true w u v s g a e ne = (subst (λ x. StopsAt x u) (ap (λ (x : Stepped). x.stop) e) g, sym (ap (λ (x : Stepped). x.user) e))
told_at false (Done x) u v s g a e ne = absurd (ne (sym (ap (λ (x : Stepped). x.stop) e)))
told_at false AtCall u v s g a e ne = (subst (λ x. StopsAt x u) (ap (λ (x : Stepped). x.stop) e) a, sym (ap (λ (x : Stepped). x.user) e))
told_at false (Faults signal) u v s g a e ne = (subst (λ x. StopsAt x u) (ap (λ (x : Stepped). x.stop) e) a, sym (ap (λ (x : Stepped). x.user) e))

went_at : (b : Bool) (w : Went) (u v : UserState) → grows u ≡ b → advance u ≡ w → cond b (let x : Stepped = record { stop = stop.Grows; user = u } in x) (stepped_as w u) ≡ record { stop = stop.Went; user = v } → (advance u ≡ Done v) × (grows u ≡ false)
went_at true w u v g a e = absurd (let f : stop.Grows ≡ stop.Went = ap (λ (x : Stepped). x.stop) e in cc)
went_at false (Done x) u v g a e = (a ∙ ap Done (ap (λ (x : Stepped). x.user) e), g)
went_at false AtCall u v g a e = absurd (let f : stop.AtCall ≡ stop.Went = ap (λ (x : Stepped). x.stop) e in cc)
went_at false (Faults signal) u v g a e = absurd (let f : stop.Fault signal ≡ stop.Went = ap (λ (x : Stepped). x.stop) e in cc)

pub stopped : (s : Stop) (k went : ℕ) (start u v : UserState) → s ≢ stop.Went → stepped u ≡ record { stop = s; user = v } → walked k start ≡ after went (walked (k - went) u) → (walked k start ≡ record { went = went; user = v }) × StopsAt s v
stopped s k went start u v ne h w =
    let told : StopsAt s u × (v ≡ u) = told_at (grows u) (advance u) u v s refl refl h ne in
    (walked_stop k went start u v s w told.0 told.1, subst (λ x. StopsAt s x) (sym told.1) told.0)

pub walked_step : (k went : ℕ) (start u v : UserState) → went < k → walked k start ≡ after went (walked (k - went) u) → stepped u ≡ record { stop = stop.Went; user = v } → walked k start ≡ after (went + 1) (walked (k - (went + 1)) v)
walked_step k went start u v lt h s = walked_one k went start u v lt h (went_at (grows u) (advance u) u v refl refl s)
