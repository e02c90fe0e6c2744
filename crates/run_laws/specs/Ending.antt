-- What holds of the end of a run, and of each moment before it. The events stand the newest first.
use Rattle.std.specs.Prelude.{◌≡◌, ◌≤◌, true, false, ◌<◌, ℕ, Some, None, List, ◌∷◌}
use Rattle.call_table.specs.declared.process.End.{End}
use Rattle.call_table.specs.declared.process.PidState.TheVariants as states
use Rattle.protocol.specs.Ops.{Ops}
use Rattle.protocol.specs.Deeds.{Noted}
use Rattle.protocol.specs.Notes.{Post, Turn, Called, Local}
use Rattle.protocol.specs.Does.{Makes}
use Rattle.protocol.specs.Cluster.{World, Goes}
use Rattle.protocol.specs.Rests.{Kind, Applies, IsHalf, Rests, Finished, Busy, AllRest}
use Rattle.run_laws.specs.Machine.{MachineState, play}
use Rattle.run_laws.specs.Schedule.{schedule}
use Rattle.run_laws.specs.Due.{Same, DueAs, Due, LeastFull, IsFull}
use Rattle.run_laws.specs.Ends.{Blocked, end_state, status, IsDone, DoneOrStuck}
use Rattle.run_laws.specs.Owned.{Owned}
use Rattle.run_laws.specs.Going.{HasAnswers, Able}

module _ (O : Ops) where
  pub record Ending (es : List Noted) (w : World O) : Type 0 where
    -- the one-node machine that plays the events
    pub machine : MachineState O
    pub plays : play O (schedule es) ≡ Some machine
    -- what a node can do without a letter is what is due there, by the events and the machine
    pub due : (k : Kind) (n : ℕ) → Same (Applies O k n (w.nodes n)) (DueAs O k n es machine)
    -- so it rests exactly where nothing is due there but by a letter
    pub rests : (n : ℕ) → Same (Rests O n (w.nodes n)) ((k : Kind) → DueAs O k n es machine → ⊥)
    -- and it has something to do exactly where an event is due
    pub busy : (n : ℕ) → Same (Busy O n w) (Due O n es machine w)
    -- a turn without a letter is of a kind that applies, of each node alone: one that rests makes none
    pub turns : (n : ℕ) (old : Local O) (t : Turn O) (new : Local O) → t.taken ≡ None → Makes O n old t new → (k : Kind) × Applies O k n old
    -- and where a kind applies such a turn can be made, if the machine and its script are able
    pub goes : Able O → (k : Kind) (n : ℕ) → n < O.nodes → Applies O k n (w.nodes n) → (t : Turn O) × (v : World O) × Goes O w t v × (t.taken ≡ None) × (t.event.node ≡ n)
    -- so can one that takes a letter: the first on its link can be taken always, if the policy has an answer on what it sees then
    pub takes : HasAnswers O → (a b : ℕ) (l : Post O) (rest : List (Post O)) → w.links a b ≡ l ∷ rest → (t : Turn O) × (v : World O) × Goes O w t v × (t.taken ≡ Some l) × (t.event.node ≡ b)
    -- the least node with a full journal that has something to do is the one at which an event is due
    pub full : (room n : ℕ) → Same (LeastFull room n es (λ k. Busy O k w)) (IsFull O room n es machine w)
    -- the status of a process is that it is blocked exactly where it is
    pub blocked : (p number : ℕ) → Same (Blocked O machine p number) (status O machine p ≡ states.Blocked number)
    -- and that of one that was given and does not live is its end
    pub ended : (p : ℕ) → 1 ≤ p → p ≤ O.count machine.kernel → O.live machine.kernel p ≡ false → (how : End) × (O.end_of machine.kernel p ≡ Some how) × (status O machine p ≡ end_state (Some how))
    -- home is finished exactly where the run is done
    pub finished : Same (Finished O (w.nodes 0)) (IsDone O es machine)
    -- and then no event is due anywhere but by a letter, or a half
    pub done_rests : IsDone O es machine → (k : Kind) (n : ℕ) → (IsHalf k → ⊥) → DueAs O k n es machine → ⊥
    -- where every link is empty and every node rests, no turn can be made
    pub still : AllRest O w → (t : Turn O) (v : World O) → Goes O w t v → ⊥
    -- and the run is done or stuck
    pub over : AllRest O w → DoneOrStuck O es machine
    -- home then holds the call at which a live process is blocked
    pub held : AllRest O w → (p : ℕ) → O.live machine.kernel p ≡ true → (c : Called O) × (((w.nodes 0).slots p).call ≡ Some c) × Blocked O machine p (O.number c.request)
    -- whose each node's contexts are
    pub owned : Owned O es w machine
