-- The signals of one process that are taken from, among those of all.
use Rattle.std.proofs.Common.{◌≡◌, ℕ, zero, suc, ◌-◌, ◌<◌, ◌≤◌, List, length, set, get_or, slice_get, Option, Some, None, refl, sym, ap, ◌∙◌, arith}
use Rattle.std.specs.Option.{option_and_then}
use Rattle.std.proofs.lemmas.List.{set-get_or}
use Rattle.std.proofs.lemmas.Option.{slice_get_read}
use Rattle.call_table.specs.declared.request.Taken.{Taken}
use Rattle.signal_set.specs.Signals.{SignalState, Took}
use Rattle.kernel_spec.specs.Pids.{at_pid, set_pid}
use Rattle.home_kernel.specs.Taking.{TakesOne, TakesOf}

takes_in : (taken : Option Taken) (take : SignalState → Option Took) (xs : List SignalState) (i : ℕ) (own new : SignalState) → own ≡ get_or xs i own → slice_get xs i ≡ Some own → TakesOne taken (take own) own new → TakesOf taken (option_and_then take (slice_get xs i)) xs (suc i) (set xs i new)
takes_in None take xs i own new read here h = (ap (option_and_then take) here ∙ h.0, ap (set xs i) (h.1 ∙ read) ∙ set-get_or xs i own)
takes_in (Some taken) take xs i own new read here h = (new, ap (option_and_then take) here ∙ h, refl)

pub takes_of : (taken : Option Taken) (take : SignalState → Option Took) (xs : List SignalState) (pid : ℕ) (own new : SignalState) → 1 ≤ pid → pid ≤ length xs → own ≡ get_or xs (pid - 1) own → TakesOne taken (take own) own new → TakesOf taken (option_and_then take (at_pid xs pid)) xs pid (set xs (pid - 1) new)
takes_of taken take xs zero own new low high read h = absurd (omega (arith, low))
takes_of taken take xs (suc i) own new low high read h =
    let e : suc i - 1 ≡ i = omega arith in
    let here : own ≡ get_or xs i own = rw e at read in
    rw e (takes_in taken take xs i own new here (slice_get_read xs (length xs) i own refl (omega (arith, high)) here) h)
