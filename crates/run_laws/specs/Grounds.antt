-- The grounds of each decision and each refusal, at its own prefix.
use Rattle.std.specs.Prelude.{◌≡◌, ℕ, ◌<◌, ◌≤◌, Bool, true, false, Some, List, [], ◌∷◌}
use Rattle.protocol.specs.Ops.{Ops}
use Rattle.protocol.specs.Deeds.{Why, Gone, Moving, There, Deed, Bid, Unsent, Got, Allows, Denies, Stay, Refused, Closed, Noted}
use Rattle.protocol.specs.Home.{HasEnded, UnsentFor}
use Rattle.run_laws.specs.Machine.{MachineState}
use Rattle.run_laws.specs.Schedule.{machine_at, With}
use Rattle.run_laws.specs.Facts.{Node, facts}
use Rattle.run_laws.specs.Pages.{pages_of, free_pages}
use Rattle.run_laws.specs.Outcomes.{outcomes}
use Rattle.run_laws.specs.UnderWay.{UnderWay}

module _ (O : Ops) where
  -- an `allow` is given where the pages of the process are free at its node
  pub record RoomFor (n p need : ℕ) (before : List Noted) (m : MachineState O) : Type 0 where
    pub need_is : need ≡ pages_of O (m.users p)
    pub room : need ≤ free_pages O n before m

  -- a `deny` where they are not
  pub record TooFew (n p need free : ℕ) (before : List Noted) (m : MachineState O) : Type 0 where
    pub need_is : need ≡ pages_of O (m.users p)
    pub free_is : free ≡ free_pages O n before m
    pub short : free < need

  -- a move is refused where its process has ended, where a move of it is under way, or at its target, which holds it
  abbrev pub RefusedFor : Why → ℕ → ℕ → ℕ → List Noted → MachineState O → Type 0
  RefusedFor Gone n p to before m = HasEnded O m.kernel p
  RefusedFor Moving n p to before m = UnderWay p before
  RefusedFor There n p to before m = (n ≡ to) × ((facts p before).places ≡ Node n ∷ [])

  -- a `got` with ended is of a process that has ended, and one without is of a live one
  abbrev pub EndedWhere : Bool → ℕ → MachineState O → Type 0
  EndedWhere true p m = HasEnded O m.kernel p
  EndedWhere false p m = O.live m.kernel p ≡ true

  -- an event at node n, with the machine m before it; a move that is asked for is of a live process
  abbrev pub GroundedAt : Deed → ℕ → List Noted → MachineState O → Type 0
  GroundedAt (Bid line p to) n before m = O.live m.kernel p ≡ true
  GroundedAt (Unsent line p never) n before m = UnsentFor O never m.kernel p
  GroundedAt (Got p child ended kept) n before m = EndedWhere ended p m
  GroundedAt (Allows p from need) n before m = RoomFor n p need before m
  GroundedAt (Denies p from need free) n before m = TooFew n p need free before m
  GroundedAt (Stay p to need free) n before m = (facts p before).denial ≡ Some (record { node = to; need = need; free = free })
  GroundedAt (Refused p to why line) n before m = RefusedFor why n p to before m
  GroundedAt (Closed line) n before m = outcomes line before ≡ 1
  GroundedAt _ n before m = Unit {0}

  abbrev pub Grounded : List Noted → Type 0
  Grounded [] = Unit {0}
  Grounded (e ∷ before) = With (machine_at O before) (λ m. GroundedAt e.what e.node before m) × Grounded before
