-- A signal that is taken: a handler is entered only with room for its frame, and no pid is given.
use Rattle.std.proofs.Common.{◌≡◌, ℕ, refl, ◌∙◌, sym, subst, Option, Some, None, Bool, true, false, not, ◌&&◌, cond}
use Rattle.std.specs.Option.{option_map, option_and_then}
use Rattle.std.proofs.lemmas.Option.{none-some}
use Rattle.call_table.specs.declared.process.End.TheVariants.{Signal}
use Rattle.call_table.specs.declared.request.Taken.{Taken}
use Rattle.call_table.specs.declared.request.Taken.TheVariants.{Dies, Enters}
use Rattle.call_table.specs.declared.signal.TheConstants.{SIGSEGV}
use Rattle.signal_set.specs.Acts.{taken_by}
use Rattle.signal_set.specs.declared.act.Act.{Act}
use Rattle.signal_set.specs.declared.act.Act.TheVariants.{Default, Ignore, Handler}
use Rattle.signal_set.specs.Signals.{SignalState, Took, act_of, without_signal, took, lowest_deliverable}
use Rattle.kernel_spec.specs.Processes.{is_handled, taken_of, take_of, live_signals, with_left}
use Rattle.kernel_spec.specs.Kernel.{KernelState, AfterTake, given, after_taken, after_took, take_result}
use Rattle.kernel_spec.proofs.GivenLemmas.{given_end}
use Rattle.one_node.specs.Going.{IsEntry}

entry_act : (act : Act) (signal mask : ℕ) → IsEntry (taken_by act signal mask) → is_handled act ≡ true
entry_act Default signal mask h = absurd h
entry_act Ignore signal mask h = absurd h
entry_act (Handler entry restorer) signal mask h = refl

entry_of : (room b : Bool) (state : SignalState) (signal : ℕ) → is_handled (act_of state signal) ≡ b
    → IsEntry (let t : Took = cond (not room && b) (record { taken = Dies SIGSEGV; left = without_signal signal state }) (took state signal) in t.taken) → room ≡ true
entry_of true b state signal e h = refl
entry_of false true state signal e h = absurd h
entry_of false false state signal e h = let f : false ≡ true = sym e ∙ entry_act (act_of state signal) signal state.mask h in f

taken_after : (k : KernelState) (pid : ℕ) (taken : Taken) → (after_taken k pid taken).taken ≡ taken
taken_after k pid (Dies signal) = refl
taken_after k pid (Enters signal handler restorer mask) = refl

given_after : (k : KernelState) (pid : ℕ) (taken : Taken) → given (after_taken k pid taken).kernel ≡ given k
given_after k pid (Dies signal) = given_end k pid (Signal signal)
given_after k pid (Enters signal handler restorer mask) = refl

-- what holds of each signal that can be taken
pub record IsFit (k : KernelState) (room : Bool) (after : AfterTake) : Type 0 where
  pub room_for : IsEntry after.taken → room ≡ true
  pub count : given after.kernel ≡ given k

fit_of : (k : KernelState) (pid : ℕ) (room : Bool) (state : SignalState) (signal : ℕ) → IsFit k room (after_took k pid (taken_of room state signal))
fit_of k pid room state signal =
    let t = taken_of room state signal in
    let left : KernelState = record k { processes = with_left k.processes pid t.left } in
    record {
      room_for = λ h. entry_of room (is_handled (act_of state signal)) state signal refl (subst IsEntry (taken_after left pid t.taken) h);
      count = given_after left pid t.taken;
    }

some_fit : (k : KernelState) (pid : ℕ) (room : Bool) (state : SignalState) (lowest : Option ℕ) (after : AfterTake) → option_map (after_took k pid) (option_map (taken_of room state) lowest) ≡ Some after → IsFit k room after
some_fit k pid room state None after h = absurd (none-some after h)
some_fit k pid room state (Some signal) after h = let e : after_took k pid (taken_of room state signal) ≡ after = cc in subst (IsFit k room) e (fit_of k pid room state signal)

live_fit : (k : KernelState) (pid : ℕ) (room : Bool) (o : Option SignalState) (after : AfterTake) → option_map (after_took k pid) (option_and_then (take_of room) o) ≡ Some after → IsFit k room after
live_fit k pid room None after h = absurd (none-some after h)
live_fit k pid room (Some state) after h = some_fit k pid room state (lowest_deliverable state) after h

pub taken_fit : (k : KernelState) (pid : ℕ) (room : Bool) (after : AfterTake) → take_result k pid room ≡ Some after → IsFit k room after
taken_fit k pid room after h = live_fit k pid room (live_signals k.processes pid) after h
