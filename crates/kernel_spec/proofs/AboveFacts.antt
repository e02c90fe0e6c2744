-- Pids that were not given: nobody lives there, has an end or a signal, and nothing that is done there changes anything.
use Rattle.std.proofs.Common.{◌≡◌, ℕ, zero, suc, ◌<◌, ◌==◌, ◌&&◌, ◌||◌, not, Bool, true, false, cond, List, length, None, ap, ◌∙◌, arith}
use Rattle.std.specs.Option.{option_map_or, option_and_then}
use Rattle.std.proofs.lemmas.Option.{slice_get_past}
use Rattle.std.proofs.lemmas.Bool.{and_right, or_from, not_from_true, cond-false}
use Rattle.call_table.specs.Calls.{is_signal_number}
use Rattle.call_table.specs.declared.error.TheConstants.{ESRCH}
use Rattle.call_table.specs.declared.process.End.{End}
use Rattle.proc_tree.specs.Processes.{is_live as is_live_process, is_zombie, end_of}
use Rattle.proc_tree.specs.Tree.{live_at, zombie_at}
use Rattle.signal_set.specs.Signals.{lowest_deliverable}
use Rattle.kernel_spec.specs.Pids.{at_pid}
use Rattle.kernel_spec.specs.Processes.{has_done, kill_result}
use Rattle.kernel_spec.specs.Kernel.{KernelState, given, is_live, end_at, deliverable, with_end, with_raised, take_result}
use Rattle.kernel_spec.proofs.KernelFacts.{end_of_none, raise_at_none, take_of_none}

past : {A : Type 0} (xs : List A) (q : ℕ) → length xs < q → at_pid xs q ≡ None
past xs zero h = absurd (omega (arith, h))
past xs (suc i) h = slice_get_past xs i (omega (arith, h))

pub none_lives : (k : KernelState) (q : ℕ) → given k < q → is_live k q ≡ false
none_lives k q above = ap (λ o. option_map_or is_live_process o false) (past k.processes.tree q above)

pub none_ended : (k : KernelState) (q : ℕ) → given k < q → end_at k q ≡ None
none_ended k q above = ap (option_and_then end_of) (past k.processes.tree q above)

pub none_takes : (k : KernelState) (q : ℕ) → given k < q → deliverable k q ≡ None
none_takes k q above = ap (λ b. option_and_then lowest_deliverable (cond b (at_pid k.processes.signals q) None)) (none_lives k q above)

pub none_ends : (k : KernelState) (q : ℕ) (e : End) → given k < q → with_end k q e ≡ k
none_ends k q e above = end_of_none k q e (none_lives k q above)

pub none_raised : (k : KernelState) (q signal : ℕ) → given k < q → with_raised k q signal ≡ k
none_raised k q signal above = raise_at_none k q signal (none_lives k q above)

pub none_taken : (k : KernelState) (q : ℕ) (room : Bool) → given k < q → take_result k q room ≡ None
none_taken k q room above = take_of_none k q room (none_takes k q above)

pub none_killed : (k : KernelState) (p q signal : ℕ) → given k < q → is_signal_number signal ≡ true → kill_result k.processes p q signal ≡ has_done k.processes ESRCH
none_killed k p q signal above known =
    let no_zombie : zombie_at k.processes.tree q ≡ false = ap (λ o. option_map_or is_zombie o false) (past k.processes.tree q above) in
    let nobody : (live_at k.processes.tree q || zombie_at k.processes.tree q) ≡ false = or_from _ _ (none_lives k q above) no_zombie in
    let fine : (not (signal == 0) && not (is_signal_number signal)) ≡ false = and_right _ _ (not_from_true _ known) in
    cond-false _ _ _ fine ∙ cond-false _ _ _ nobody
