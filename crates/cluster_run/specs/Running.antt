-- What a run makes of all seats.
use Rattle.std.specs.Prelude.{◌≡◌, ℕ, ◌<◌, ◌≤◌, true, Option, Some, None, List, length, map, slice_get}
use Rattle.call_table.specs.declared.limit.TheConstants.{NODES}
use Rattle.call_forward.specs.declared.letter.Letter.{Letter}
use Rattle.node_machine.specs.Plan.{Plan, IsPlan}
use Rattle.node_machine.specs.Machine.{Policy}
use Rattle.node_machine.specs.Policy.{IsFitting}
use Rattle.node_core.specs.declared.node.Node.{Node}
use Rattle.cluster_run.specs.declared.seat.Seat.{Seat}
use Rattle.cluster_run.specs.declared.seat.Rest.{Rest}
use Rattle.cluster_run.specs.declared.seat.Rest.TheVariants as rested
use Rattle.cluster_run.specs.declared.over.OverWhy.{OverWhy}
use Rattle.cluster_run.specs.declared.over.OverWhy.TheVariants as why
use Rattle.cluster_run.specs.declared.pass.Passed.{Passed}
use Rattle.cluster_run.specs.declared.pass.Passed.TheVariants as passed
use Rattle.cluster_run.specs.Passing.{AreWithin, AllReady, SomeFull, AllStep, Stilled}
use Rattle.cluster_run.specs.Over.{Ran}

-- why a run is over in which nothing is left to be done, by the last answer of home
abbrev pub why_of : Rest → OverWhy
why_of rested.Over = why.Done
why_of rested.Idle = why.Stuck
why_of rested.Busy = why.Stuck
why_of rested.Full = why.Stuck

-- the run of seats that were ready is over
abbrev pub AreOver : Policy → {C : Type 0} (puts gives : C → List Letter) → OverWhy → List (Seat Node C) → List (Seat Node C) → Type 0
AreOver policy {C} puts gives why old new =
    (plan : Plan) (room : ℕ) → IsPlan plan → IsFitting policy → length old ≡ plan.nodes → length old ≤ NODES → AreWithin plan.nodes old → AllReady policy puts gives plan room old → Ran policy plan room why (map (λ (s : Seat Node C). s.node) new)

pub record IsWhy {C : Type 0} (why : OverWhy) (seats : List (Seat Node C)) : Type 0 where
  pub home : Seat Node C
  pub is : slice_get seats 0 ≡ Some home
  pub why_is : why ≡ why_of home.rest

-- the run of seats of which some found their journals full, the first at `at`, is over
abbrev pub AreFull : Policy → {C : Type 0} (puts gives : C → List Letter) → ℕ → OverWhy → List (Seat Node C) → List (Seat Node C) → Type 0
AreFull policy {C} puts gives at why old new =
    (plan : Plan) (room : ℕ) → IsPlan plan → IsFitting policy → length old ≡ plan.nodes → length old ≤ NODES → AreWithin plan.nodes old → SomeFull policy puts gives plan room at old → Ran policy plan room why (map (λ (s : Seat Node C). s.node) new)

-- a node that stopped is one of so many
abbrev pub IsWithin : ℕ → Passed → Type 0
IsWithin nodes passed.Whole = Unit {0}
IsWithin nodes (passed.Full at) = at < nodes

-- after a pass or a shift: why the run is over, or it goes on, and letters went out at most
abbrev pub OverAfter : Policy → {C : Type 0} (puts gives : C → List Letter) (pair : C → C → Type 0) → ℕ → Passed → Option OverWhy → List (Seat Node C) → List (Seat Node C) → Type 0
OverAfter policy puts gives pair nodes (passed.Full at) (Some why) old new = AreFull policy puts gives at why old new
OverAfter policy puts gives pair nodes (passed.Full at) None old new = ⊥
OverAfter policy puts gives pair nodes passed.Whole (Some why) old new = Stilled puts gives pair nodes true old new × IsWhy why new
OverAfter policy puts gives pair nodes passed.Whole None old new = AllStep puts gives pair old new
