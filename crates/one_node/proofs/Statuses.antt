-- The states of processes, one after another.
use Rattle.std.proofs.Common.{◌≡◌, ℕ, suc, ◌+◌, ◌-◌, ◌<◌, List, [], ◌∷◌, ◌++◌, ap, ◌∙◌, sym, arith, append_assoc}
use Rattle.call_table.specs.declared.process.PidState.{PidState}
use Rattle.one_node.specs.Machine.{MachineState, ended_of, blocked_call, state_of, statuses_from}

statuses_more : (m : MachineState) (i n : ℕ) → i < n → statuses_from m (i + 1) (n - i) ≡ (i + 1, state_of (ended_of m (i + 1)) (blocked_call m (i + 1))) ∷ statuses_from m (i + 1 + 1) (n - (i + 1))
statuses_more m i n h = let e : n - i ≡ suc (n - (i + 1)) = omega arith in ap (statuses_from m (i + 1)) e

pub statuses_next : (m : MachineState) (i n : ℕ) (made more all : List (ℕ × PidState)) (state : PidState) → i < n → made ++ statuses_from m (i + 1) (n - i) ≡ all → more ≡ made ++ (i + 1, state) ∷ [] → state ≡ state_of (ended_of m (i + 1)) (blocked_call m (i + 1))
    → more ++ statuses_from m (i + 1 + 1) (n - (i + 1)) ≡ all
statuses_next m i n made more all state lt is push at =
    ap (λ xs. xs ++ statuses_from m (i + 1 + 1) (n - (i + 1))) push
    ∙ append_assoc made ((i + 1, state) ∷ []) (statuses_from m (i + 1 + 1) (n - (i + 1)))
    ∙ ap (λ s. made ++ (i + 1, s) ∷ statuses_from m (i + 1 + 1) (n - (i + 1))) at
    ∙ ap (λ xs. made ++ xs) (sym (statuses_more m i n lt))
    ∙ is
