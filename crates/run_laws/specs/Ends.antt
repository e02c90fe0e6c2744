-- How a run ends: which processes are blocked, what each status is, when it is done and when it is stuck.
use Rattle.std.specs.Prelude.{◌≡◌, ◌≢◌, ◌⊎◌, ◌<◌, ℕ, zero, suc, true, false, cond, Option, Some, None, List, [], ◌∷◌, ◌++◌, length, slice_get, option_and_then}
use Rattle.call_table.specs.declared.process.End.{End}
use Rattle.call_table.specs.declared.process.End.TheVariants as ends
use Rattle.call_table.specs.declared.process.PidState.{PidState}
use Rattle.call_table.specs.declared.process.PidState.TheVariants as states
use Rattle.node_event.specs.declared.script.Order.TheVariants as order
use Rattle.protocol.specs.Ops.{Ops, Acted, IsMove}
use Rattle.protocol.specs.Deeds.{Noted}
use Rattle.run_laws.specs.Machine.{MachineState}
use Rattle.run_laws.specs.Facts.{facts}
use Rattle.run_laws.specs.ScriptLaw.{commands}
use Rattle.run_laws.specs.OnceLaw.{Requests}
use Rattle.run_laws.specs.Outcomes.{outcomes}
use Rattle.run_laws.specs.Due.{LineEnabled}

abbrev pub end_state : Option End → PidState
end_state None = states.Live
end_state (Some (ends.Exit code)) = states.Exit code
end_state (Some (ends.Signal signal)) = states.Signal signal

abbrev pub live_state : Option ℕ → PidState
live_state None = states.Live
live_state (Some number) = states.Blocked number

module _ (O : Ops) where
  -- live, at a forwarded call that blocks, and no signal is deliverable
  pub record Blocked (m : MachineState O) (p number : ℕ) : Type 0 where
    pub live : O.live m.kernel p ≡ true
    pub requests : Requests O m p number
    pub forwarded : number ≢ 0
    pub blocks : O.serve m.kernel p requests.request ≡ None
    pub quiet : O.lowest m.kernel p ≡ None

  -- the number of the call at which a process is blocked, as a function
  abbrev pub blocked_by : Option (Acted O.Kernel O.Answer) → Option ℕ → ℕ → Option ℕ
  blocked_by None None (suc number) = Some (suc number)
  blocked_by _ _ _ = None

  abbrev pub blocked_number : MachineState O → ℕ → Option ℕ
  blocked_number m p = option_and_then (λ u. option_and_then (λ r. blocked_by (O.serve m.kernel p r) (O.lowest m.kernel p) (O.number r)) (O.asks u)) (m.users p)

  -- the end of a process, or the number of the call at which it is blocked, or that it lives
  abbrev pub status : MachineState O → ℕ → PidState
  status m p = cond (O.live m.kernel p) (live_state (blocked_number m p)) (end_state (O.end_of m.kernel p))

  -- with a full journal each process that has not ended is told as live
  abbrev pub status_cut : MachineState O → ℕ → PidState
  status_cut m p = cond (O.live m.kernel p) states.Live (end_state (O.end_of m.kernel p))

  abbrev pub statuses_to : (ℕ → PidState) → ℕ → List (ℕ × PidState)
  statuses_to state zero = []
  statuses_to state (suc p) = statuses_to state p ++ (suc p, state (suc p)) ∷ []

  -- of each pid ever given
  abbrev pub statuses : MachineState O → List (ℕ × PidState)
  statuses m = statuses_to (status m) (O.count m.kernel)

  -- every line has its command, and every process has ended
  pub record IsDone (es : List Noted) (m : MachineState O) : Type 0 where
    pub script : commands es ≡ length O.script
    pub ended : (p : ℕ) → O.live m.kernel p ≡ false

  -- not so, every live process is blocked, and the script is at its end or its next line is not enabled
  pub record IsStuck (es : List Noted) (m : MachineState O) : Type 0 where
    pub not_done : IsDone es m → ⊥
    pub blocked : (p : ℕ) → O.live m.kernel p ≡ true → (number : ℕ) × Blocked m p number
    pub script : LineEnabled O es m → ⊥

  -- a move line of the script that was carried out
  pub record IsCarried (line p to : ℕ) (es : List Noted) : Type 0 where
    pub index : ℕ
    pub before : index < commands es
    pub is : slice_get O.script index ≡ Some (record { line = line; order = order.Move p to })

  -- the move of a line is open: a `keep` of its process has no `got` after it, and the process is blocked
  pub record IsOpen (line p to : ℕ) (es : List Noted) (m : MachineState O) : Type 0 where
    pub waits : (facts p es).waits ≡ true
    pub kept : (facts p es).kept ≡ Some to
    pub for_line : (facts p es).line ≡ Some line
    pub number : ℕ
    pub blocked : Blocked m p number

  -- each move line has one outcome
  abbrev pub AllSettled : List Noted → Type 0
  AllSettled es = (line p to : ℕ) → IsMove O line p to → outcomes line es ≡ 1

  -- each one that was carried out has one outcome, or it has none and is open
  abbrev pub SettledOrOpen : List Noted → MachineState O → Type 0
  SettledOrOpen es m = (line p to : ℕ) → IsCarried line p to es → (outcomes line es ≡ 1) ⊎ ((outcomes line es ≡ 0) × IsOpen line p to es m)

  -- the run is over: done, or stuck
  abbrev pub DoneOrStuck : List Noted → MachineState O → Type 0
  DoneOrStuck es m = (IsDone es m × AllSettled es) ⊎ (IsStuck es m × SettledOrOpen es m)
