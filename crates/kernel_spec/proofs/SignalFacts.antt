-- Which signal each process can take, after each step on processes.
use Rattle.std.proofs.Common.{◌≡◌, ◌≢◌, ℕ, zero, suc, ◌+◌, ◌==◌, Bool, true, false, cond, List, [], ◌∷◌, ◌++◌, length, set, Option, Some, None, slice_get, refl, ap, sym, inl, inr, ◌∙◌}
use Rattle.std.specs.Option.{option_map, option_and_then}
use Rattle.std.proofs.lemmas.Bool.{cases_Bool, eqb-false, not-false}
use Rattle.call_table.specs.declared.process.End.{End}
use Rattle.call_table.specs.declared.signal.TheConstants.{SIGCHLD}
use Rattle.signal_set.specs.Acts.{ignores}
use Rattle.signal_set.specs.Signals.{SignalState, lowest_deliverable, raised, act_of}
use Rattle.proc_tree.specs.Tree.{live_at, parent_of}
use Rattle.kernel_spec.specs.Pids.{at_pid, replaced_pid, changed_pid}
use Rattle.kernel_spec.specs.Processes.{ProcessTable, live_signals, heeds, heeding, with_signal, raised_at, lowest_at, parent_raised, ended_in, joined, with_left}
use Rattle.kernel_spec.specs.Calls.{inherited}
use Rattle.kernel_spec.specs.Others.{is_at}
use Rattle.kernel_spec.proofs.PlaceLemmas.{changed_other, set_pid_other, set_same}
use Rattle.kernel_spec.proofs.GivenLemmas.{tree_raised}
use Rattle.kernel_spec.proofs.TreeFacts.{live_ended, live_joined}

-- the signal that one can take, by whether it lives and by its signals
abbrev lowest_by : Bool → Option SignalState → Option ℕ
lowest_by lives o = option_and_then lowest_deliverable (cond lives o None)

pub lowest_same : (p new : ProcessTable) (q : ℕ) → live_at new.tree q ≡ live_at p.tree q → at_pid new.signals q ≡ at_pid p.signals q → lowest_at new q ≡ lowest_at p q
lowest_same p new q live signals = ap (λ b. lowest_by b (at_pid new.signals q)) live ∙ ap (lowest_by (live_at p.tree q)) signals

-- ---- raising

-- a signal that is ignored changes nothing
raised_same : (state : SignalState) (signal : ℕ) → ignores (act_of state signal) signal ≡ true → raised state signal ≡ state
raised_same state signal ignored = ap (λ b. record state { pending = cond b state.pending (set state.pending signal true) }) ignored

ignored_in : (xs : List SignalState) (i signal : ℕ) (o : Option SignalState) → slice_get xs i ≡ o → heeds o signal ≡ false → replaced_pid xs (suc i) (option_map (with_signal signal) o) ≡ xs
ignored_in xs i signal None at heeded = refl
ignored_in xs i signal (Some state) at heeded =
    set_same xs i state (raised state signal) at (raised_same state signal (not-false (ignores (act_of state signal) signal) heeded))

ignored_at : (xs : List SignalState) (p signal : ℕ) → heeds (at_pid xs p) signal ≡ false → changed_pid (with_signal signal) xs p ≡ xs
ignored_at xs zero signal heeded = refl
ignored_at xs (suc i) signal heeded = ignored_in xs i signal (slice_get xs i) refl heeded

-- nothing changes where the process does not live or ignores the signal
pub raised_ignored : (p : ProcessTable) (target signal : ℕ) → heeds (live_signals p target) signal ≡ false → raised_at p target signal ≡ p
raised_ignored p target signal = by_live (live_at p.tree target)
  where
    by_live : (b : Bool) → heeds (cond b (at_pid p.signals target) None) signal ≡ false → cond b (record p { signals = changed_pid (with_signal signal) p.signals target }) p ≡ p
    by_live true heeded = ap (λ xs. record p { signals = xs }) (ignored_at p.signals target signal heeded)
    by_live false heeded = refl

signals_raised : (p : ProcessTable) (target signal q : ℕ) → q ≢ target → at_pid (raised_at p target signal).signals q ≡ at_pid p.signals q
signals_raised p target signal q other = by_live (live_at p.tree target)
  where
    by_live : (b : Bool) → at_pid (cond b (record p { signals = changed_pid (with_signal signal) p.signals target }) p).signals q ≡ at_pid p.signals q
    by_live true = changed_other (with_signal signal) p.signals target q other
    by_live false = refl

pub live_raised : (p : ProcessTable) (target signal q : ℕ) → live_at (raised_at p target signal).tree q ≡ live_at p.tree q
live_raised p target signal q = ap (λ tree. live_at tree q) (tree_raised p target signal)

pub raised_other : (p : ProcessTable) (target signal q : ℕ) → q ≢ target → lowest_at (raised_at p target signal) q ≡ lowest_at p q
raised_other p target signal q other = lowest_same p (raised_at p target signal) q (live_raised p target signal q) (signals_raised p target signal q other)

-- a raised signal can be taken at most where it counts
pub quiet_raised : (p : ProcessTable) (target signal q : ℕ) → is_at (heeding p target signal) q ≡ false → lowest_at (raised_at p target signal) q ≡ lowest_at p q
quiet_raised p target signal q elsewhere =
    elim (cases_Bool (heeds (live_signals p target) signal)) [
      | inl counts ↦
          let here : (target == q) ≡ false = ap (λ b. is_at (cond b (Some target) None) q) (sym counts) ∙ elsewhere in
          raised_other p target signal q (λ e. eqb-false target q here (sym e))
      | inr ignored ↦ ap (λ table. lowest_at table q) (raised_ignored p target signal ignored)
    ]

-- ---- the end of a process

pub quiet_ended : (p : ProcessTable) (pid : ℕ) (e : End) (q : ℕ) → q ≢ pid → is_at (parent_raised p pid) q ≡ false → lowest_at (ended_in p pid e) q ≡ lowest_at p q
quiet_ended p pid e q other elsewhere =
    let raised = raised_at p (parent_of p.tree pid) SIGCHLD in
    lowest_same raised (ended_in p pid e) q (live_ended p.tree pid e q other ∙ sym (live_raised p (parent_of p.tree pid) SIGCHLD q)) refl
    ∙ quiet_raised p (parent_of p.tree pid) SIGCHLD q elsewhere

-- ---- one more process

push_by : (lives : Bool) (xs : List SignalState) (s : SignalState) (q : ℕ) → lowest_deliverable s ≡ None → lowest_by lives (at_pid (xs ++ s ∷ []) q) ≡ lowest_by lives (at_pid xs q)
push_by false xs s q quiet = refl
push_by true xs s zero quiet = refl
push_by true xs s (suc i) quiet = pushed xs i
  where
    pushed : (ys : List SignalState) (j : ℕ) → option_and_then lowest_deliverable (slice_get (ys ++ s ∷ []) j) ≡ option_and_then lowest_deliverable (slice_get ys j)
    pushed [] zero = quiet
    pushed [] (suc j) = refl
    pushed (y ∷ ys) zero = refl
    pushed (y ∷ ys) (suc j) = pushed ys j

-- a child inherits nothing that it could take
pub inherits_none : (o : Option SignalState) → lowest_deliverable (inherited o) ≡ None
inherits_none None = refl
inherits_none (Some state) = refl

pub quiet_joined : (p : ProcessTable) (parent : ℕ) (s : SignalState) (q : ℕ) → lowest_deliverable s ≡ None → q ≢ length p.tree + 1 → lowest_at (joined p parent s) q ≡ lowest_at p q
quiet_joined p parent s q quiet other =
    ap (λ b. lowest_by b (at_pid (p.signals ++ s ∷ []) q)) (live_joined p.tree parent q other) ∙ push_by (live_at p.tree q) p.signals s q quiet

-- ---- signals of one process written anew

pub quiet_left : (p : ProcessTable) (pid : ℕ) (left : SignalState) (q : ℕ) → q ≢ pid → lowest_at (with_left p pid left) q ≡ lowest_at p q
quiet_left p pid left q other = lowest_same p (with_left p pid left) q refl (set_pid_other p.signals pid q left other)

pub quiet_changed : (p : ProcessTable) (pid : ℕ) (change : SignalState → SignalState) (q : ℕ) → q ≢ pid → lowest_at (record p { signals = changed_pid change p.signals pid }) q ≡ lowest_at p q
quiet_changed p pid change q other =
    lowest_same p (record p { signals = changed_pid change p.signals pid }) q refl (changed_other change p.signals pid q other)

-- only a live process can take one
pub lowest_lives : (p : ProcessTable) (q s : ℕ) → lowest_at p q ≡ Some s → live_at p.tree q ≡ true
lowest_lives p q s = by_live (live_at p.tree q)
  where
    by_live : (b : Bool) → lowest_by b (at_pid p.signals q) ≡ Some s → b ≡ true
    by_live true h = refl
    by_live false h = absurd (cc)
