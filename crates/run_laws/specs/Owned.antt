-- The contexts that a node owns: those of the processes that it holds, and whose they are.
use Rattle.std.specs.Prelude.{◌≡◌, ◌≢◌, ℕ, ◌==◌, Bool, false, cond, Some, List, [], ◌∷◌}
use Rattle.protocol.specs.Ops.{Ops}
use Rattle.protocol.specs.Deeds.{Deed, Sent, Heed, Noted}
use Rattle.protocol.specs.Notes.{Context}
use Rattle.protocol.specs.Cluster.{World}
use Rattle.run_laws.specs.Machine.{MachineState}
use Rattle.run_laws.specs.Schedule.{machine_at, With}
use Rattle.run_laws.specs.Facts.{Node, facts}
use Rattle.run_laws.specs.Due.{Same}

-- a process begins to wait in this event
abbrev pub stops : ℕ → Deed → Bool
stops p (Sent q number) = p == q
stops p (Heed q) = p == q
stops p _ = false

-- the events up to and with the last `sent` or `heed` of p
abbrev pub as_of_stop : ℕ → List Noted → List Noted
as_of_stop p [] = []
as_of_stop p (e ∷ before) = cond (stops p e.what) (e ∷ before) (as_of_stop p before)

module _ (O : Ops) where
  -- the machine has this user state of p
  abbrev pub HasUser : List Noted → ℕ → O.User → Type 0
  HasUser es p u = With (machine_at O es) (λ m. m.users p ≡ Some u)

  pub record Owned (es : List Noted) (w : World O) (m : MachineState O) : Type 0 where
    -- a node has a context of p exactly where it holds p
    pub holder : (n p : ℕ) → Same ((c : Context O) × (((w.nodes n).slots p).context ≡ Some c)) ((facts p es).places ≡ Node n ∷ [])
    -- it is the machine's user state of p
    pub same : (n p : ℕ) (c : Context O) → ((w.nodes n).slots p).context ≡ Some c → (facts p es).served ≡ 0 → m.users p ≡ Some c.body.user
    -- but between a `served` and its `got` the machine's as of the `sent` or `heed`
    pub before : (n p : ℕ) (c : Context O) → ((w.nodes n).slots p).context ≡ Some c → (facts p es).served ≢ 0 → HasUser (as_of_stop p es) p c.body.user
