-- A run from its beginning to its end: the nodes that it begins with, and what holds of those that come back.
use Rattle.std.specs.Prelude.{◌≡◌, ℕ, ◌<◌, ◌≤◌, Some, List, length, map, reverse, slice_get}
use Rattle.node_event.specs.declared.event.Event.{Event}
use Rattle.node_event.specs.declared.script.ScriptLine.{ScriptLine}
use Rattle.user_spec.specs.User.{UserState}
use Rattle.protocol.specs.Deeds.{all_noted}
use Rattle.protocol.specs.Cluster.{World}
use Rattle.protocol.specs.Rests.{AllRest}
use Rattle.run_laws.specs.Carried.{Each, Sorted, own_events, CarriedRun}
use Rattle.run_laws.specs.Whole.{Holds}
use Rattle.run_laws.specs.Due.{IsFull}
use Rattle.run_laws.specs.Ends.{IsDone, IsStuck, AllSettled, SettledOrOpen}
use Rattle.run_laws.specs.Ending.{Ending}
use Rattle.run_laws.specs.Machine.{MachineState}
use Rattle.node_machine.specs.Plan.{Plan}
use Rattle.node_machine.specs.Machine.{Policy, machine}
use Rattle.node_core.specs.declared.shape.Shape.{Shape}
use Rattle.node_core.specs.declared.node.Node.{Node}
use Rattle.node_core.specs.Making.{new_node, Beginning}
use Rattle.node_core.specs.Locals.{local}
use Rattle.weave.specs.Weaves.{AreJournals}
use Rattle.cluster_run.specs.declared.over.OverWhy.{OverWhy}
use Rattle.cluster_run.specs.declared.over.OverWhy.TheVariants as why

-- node k of the cluster that a plan tells, before anything happened, with so much room in its journal
pub record IsFirst (plan : Plan) (room k : ℕ) (n : Node) : Type 0 where
  pub shape : Shape
  pub script : List ScriptLine
  pub users : List UserState
  pub made : n ≡ new_node k shape script users
  pub beginning : Beginning plan k shape script users
  pub room_is : shape.journal ≡ room

-- all nodes of that cluster, in order
pub record Begins (plan : Plan) (room : ℕ) (nodes : List Node) : Type 0 where
  pub count : length nodes ≡ plan.nodes
  pub each : (k : ℕ) (n : Node) → slice_get nodes k ≡ Some n → IsFirst plan room k n

-- these events, the newest first, are the journals of the nodes, put in order by stamp and node
pub record AreWoven (plan : Plan) (nodes : List Node) (es : List Event) : Type 0 where
  pub sorted : Sorted (all_noted plan.script es)
  pub own : (k : ℕ) (n : Node) → slice_get nodes k ≡ Some n → own_events k (all_noted plan.script es) ≡ reverse (all_noted plan.script n.journal.events)
  pub below : Each (λ e. e.node < length nodes) (all_noted plan.script es)

-- why a run is over: it is done, or stuck, and nothing lies on the way and every node rests; or n is the least node with a full journal at which an event is due
abbrev pub OverAs : (policy : Policy) (plan : Plan) → ℕ → OverWhy → List Event → World (machine policy plan) → MachineState (machine policy plan) → Type 0
OverAs policy plan room why.Done es w m = AllRest (machine policy plan) w × IsDone (machine policy plan) (all_noted plan.script es) m × AllSettled (machine policy plan) (all_noted plan.script es)
OverAs policy plan room why.Stuck es w m = AllRest (machine policy plan) w × IsStuck (machine policy plan) (all_noted plan.script es) m × SettledOrOpen (machine policy plan) (all_noted plan.script es) m
OverAs policy plan room (why.Full n) es w m = IsFull (machine policy plan) room n (all_noted plan.script es) m w

-- what holds of a run that is over, whose events are these
pub record IsOver (policy : Policy) (plan : Plan) (room : ℕ) (why : OverWhy) (nodes : List Node) (es : List Event) : Type 0 where
  -- what the nodes keep, and what lies on the way
  pub world : World (machine policy plan)
  pub nodes_are : (k : ℕ) (n : Node) → slice_get nodes k ≡ Some n → world.nodes k ≡ local policy plan n
  -- all laws, its end among them
  pub holds : Holds (machine policy plan) (all_noted plan.script es) world
  pub carried : CarriedRun (machine policy plan) (all_noted plan.script es) world
  pub ending : Ending (machine policy plan) (all_noted plan.script es) world
  pub over : OverAs policy plan room why es world ending.machine
  -- no letter was strange
  pub strange : (k : ℕ) (n : Node) → slice_get nodes k ≡ Some n → n.strange ≡ 0

-- what holds of the nodes that come back: theirs are journals, and where these are put in order the run was lawful
pub record Ran (policy : Policy) (plan : Plan) (room : ℕ) (why : OverWhy) (nodes : List Node) : Type 0 where
  pub count : length nodes ≡ plan.nodes
  -- in the same places, none with more events than its journal has room for
  pub places : (k : ℕ) (n : Node) → slice_get nodes k ≡ Some n → (n.id ≡ k) × (length n.journal.events ≤ room)
  pub journals : AreJournals 0 (map (λ (n : Node). n.journal) nodes)
  pub over : (es : List Event) → AreWoven plan nodes es → IsOver policy plan room why nodes es
