-- A handler is entered only where there is room for its frame.
use Rattle.std.proofs.Common.{◌≡◌, ℕ, Bool, true, false, cond, not, ◌&&◌, Option, Some, None, refl}
use Rattle.std.specs.Option.{option_map, option_and_then}
use Rattle.call_table.specs.declared.request.Taken.{Taken}
use Rattle.call_table.specs.declared.request.Taken.TheVariants.{Dies, Enters}
use Rattle.signal_set.specs.declared.act.Act.{Act}
use Rattle.signal_set.specs.declared.act.Act.TheVariants.{Default, Ignore, Handler}
use Rattle.signal_set.specs.Signals.{SignalState, Took, took, act_of, lowest_deliverable, without_signal}
use Rattle.signal_set.specs.Acts.{taken_by}
use Rattle.kernel_spec.specs.Processes.{is_handled, taken_of, take_of, live_signals}
use Rattle.kernel_spec.specs.Kernel.{KernelState, AfterTake, after_took, after_taken}
use Rattle.user_spec.specs.User.{UserState}
use Rattle.user_spec.specs.Fits.{fits_taken, has_room_at}
use Rattle.node_machine.specs.Machine.{took_as, taken_at}

abbrev Suits : Bool → Taken → Type 0
Suits room (Dies signal) = Unit {0}
Suits room (Enters signal handler restorer mask) = room ≡ true

by_act : (room : Bool) (act : Act) (signal mask : ℕ) → (not room && is_handled act) ≡ false → Suits room (taken_by act signal mask)
by_act room Default signal mask e = tt
by_act room Ignore signal mask e = tt
by_act true (Handler entry restorer) signal mask e = refl
by_act false (Handler entry restorer) signal mask e = absurd cc

one_suits : (room : Bool) (state : SignalState) (signal : ℕ) → Suits room (taken_of room state signal).taken
one_suits room state signal = go (not room && is_handled (act_of state signal)) refl
  where
    go : (b : Bool) → (not room && is_handled (act_of state signal)) ≡ b → Suits room (cond b (record { taken = Dies 11; left = without_signal signal state }) (took state signal)).taken
    go true e = tt
    go false e = by_act room (act_of state signal) signal state.mask e

after_suits : (room : Bool) (k : KernelState) (p : ℕ) (t : Taken) → Suits room t → Suits room (after_taken k p t).taken
after_suits room k p (Dies signal) h = h
after_suits room k p (Enters signal handler restorer mask) h = h

lowest_suits : (room : Bool) (k : KernelState) (p : ℕ) (state : SignalState) (o : Option ℕ) → Suits room (took_as k (option_map (after_took k p) (option_map (taken_of room state) o))).taken
lowest_suits room k p state None = tt
lowest_suits room k p state (Some signal) = after_suits room _ p (taken_of room state signal).taken (one_suits room state signal)

signals_suit : (room : Bool) (k : KernelState) (p : ℕ) (o : Option SignalState) → Suits room (took_as k (option_map (after_took k p) (option_and_then (take_of room) o))).taken
signals_suit room k p None = tt
signals_suit room k p (Some state) = lowest_suits room k p state (lowest_deliverable state)

suited : (u : UserState) (t : Taken) → Suits (has_room_at u) t → fits_taken u t ≡ true
suited u (Dies signal) h = refl
suited u (Enters signal handler restorer mask) h = h

pub fits_take : (k : KernelState) (p : ℕ) (u : UserState) → fits_taken u (taken_at k p (has_room_at u)).taken ≡ true
fits_take k p u = suited u (taken_at k p (has_room_at u)).taken (signals_suit (has_room_at u) k p (live_signals k.processes p))
