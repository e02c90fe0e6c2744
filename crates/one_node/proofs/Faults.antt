-- The fault of a process, by how its next step comes out.
use Rattle.std.proofs.Common.{◌≡◌, ◌≢◌, ℕ, refl, ap, ◌∙◌, sym, Some, None, Bool, true, false, cond}
use Rattle.std.proofs.lemmas.Option.{none-some}
use Rattle.user_spec.specs.User.{UserState}
use Rattle.user_spec.specs.Advance.{Went, Done, AtCall, Faults, advance, grows, stepped, Stepped, stepped_as}
use Rattle.user_spec.specs.declared.outcome.Stop.{Stop}
use Rattle.user_spec.specs.declared.outcome.Stop.TheVariants as stops
use Rattle.user_ctx.proofs.Calls.{grows_done}
use Rattle.one_node.specs.Machine.{fault_of, signal_in}

-- how a step came out, and the process after it
stop_of : (u v : UserState) (s : Stop) → stepped u ≡ record { stop = s; user = v } → (stepped u).stop ≡ s
stop_of u v s h = ap (λ (x : Stepped). x.stop) h

user_of : (u v : UserState) (s : Stop) → stepped u ≡ record { stop = s; user = v } → (stepped u).user ≡ v
user_of u v s h = ap (λ (x : Stepped). x.user) h

fault_as : (w : Went) (u : UserState) (signal : ℕ) → (stepped_as w u).stop ≡ stops.Fault signal → signal_in w ≡ Some signal
fault_as (Faults s) u signal h = let e : s ≡ signal = cc in ap (λ (x : ℕ). Some x) e
fault_as (Done v) u signal h = cc
fault_as AtCall u signal h = cc

fault_if : (b : Bool) (u : UserState) (signal : ℕ) → (let x : Stepped = cond b (record { stop = stops.Grows; user = u }) (stepped_as (advance u) u) in x.stop) ≡ stops.Fault signal → fault_of u ≡ Some signal
fault_if true u signal h = cc
fault_if false u signal h = fault_as (advance u) u signal h

no_fault_as : (w : Went) (u : UserState) → ((signal : ℕ) → (stepped_as w u).stop ≢ stops.Fault signal) → signal_in w ≡ None
no_fault_as (Faults s) u h = absurd (h s refl)
no_fault_as (Done v) u h = refl
no_fault_as AtCall u h = refl

no_fault_if : (b : Bool) (u : UserState) → grows u ≡ b → ((signal : ℕ) → (let x : Stepped = cond b (record { stop = stops.Grows; user = u }) (stepped_as (advance u) u) in x.stop) ≢ stops.Fault signal) → fault_of u ≡ None
no_fault_if true u g h = ap signal_in (grows_done u g)
no_fault_if false u g h = no_fault_as (advance u) u h

pub faults : (u v : UserState) (signal : ℕ) → stepped u ≡ record { stop = stops.Fault signal; user = v } → fault_of u ≡ Some signal
faults u v signal h = fault_if (grows u) u signal (stop_of u v (stops.Fault signal) h)

pub faults_not : (u v : UserState) (s : Stop) → stepped u ≡ record { stop = s; user = v } → ((signal : ℕ) → s ≢ stops.Fault signal) → fault_of u ≡ None
faults_not u v s h ne = no_fault_if (grows u) u refl (λ signal e. ne signal (sym (stop_of u v s h) ∙ e))

pub went_no_fault : (signal : ℕ) → stops.Went ≢ stops.Fault signal
went_no_fault signal e = cc

pub call_no_fault : (signal : ℕ) → stops.AtCall ≢ stops.Fault signal
call_no_fault signal e = cc

pub growth_no_fault : (signal : ℕ) → stops.Grows ≢ stops.Fault signal
growth_no_fault signal e = cc

-- a fault changes nothing
still_as : (w : Went) (u : UserState) (signal : ℕ) → signal_in w ≡ Some signal → (stepped_as w u).user ≡ u
still_as (Faults s) u signal h = refl
still_as (Done v) u signal h = absurd (none-some signal h)
still_as AtCall u signal h = refl

still_if : (b : Bool) (u : UserState) (signal : ℕ) → fault_of u ≡ Some signal → (let x : Stepped = cond b (record { stop = stops.Grows; user = u }) (stepped_as (advance u) u) in x.user) ≡ u
still_if true u signal h = refl
still_if false u signal h = still_as (advance u) u signal h

pub fault_stays : (u v : UserState) (signal : ℕ) → stepped u ≡ record { stop = stops.Fault signal; user = v } → v ≡ u
fault_stays u v signal h = sym (user_of u v (stops.Fault signal) h) ∙ still_if (grows u) u signal (faults u v signal h)
