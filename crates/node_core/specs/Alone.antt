-- What one node does by itself, turn after turn.
use Rattle.std.specs.Prelude.{◌≡◌, ℕ, Option, Some, List, [], ◌∷◌, reverse}
use Rattle.std.specs.Option.{option_map}
use Rattle.node_event.specs.declared.script.ScriptLine.{ScriptLine}
use Rattle.call_forward.specs.declared.letter.Letter.{Letter}
use Rattle.user_spec.specs.User.{UserState}
use Rattle.protocol.specs.Deeds.{all_noted}
use Rattle.run_laws.specs.Skipping.{Act, Made, Skipped, Lone, journal}
use Rattle.node_machine.specs.Plan.{Plan}
use Rattle.node_machine.specs.Machine.{Policy, machine}
use Rattle.node_core.specs.declared.shape.Shape.{Shape}
use Rattle.node_core.specs.declared.node.Node.{Node}
use Rattle.node_core.specs.declared.turn.Turned.TheVariants.{Did}
use Rattle.node_core.specs.Locals.{local, post_of, post_at}
use Rattle.node_core.specs.Making.{new_node, Beginning}
use Rattle.node_core.specs.Turns.{TurnsAs}

-- a turn: the letter that came, and the node before it
pub record TurnMade : Type 0 where
  pub inbox : Option Letter
  pub node : Node

-- the node is one of the plan's cluster, before anything happened
pub record IsNew (plan : Plan) (n : Node) : Type 0 where
  pub id : ℕ
  pub shape : Shape
  pub script : List ScriptLine
  pub users : List UserState
  pub made : n ≡ new_node id shape script users
  pub beginning : Beginning plan id shape script users

-- letters were taken out of its outbox, and nothing else was done to it
pub record HasPosted (old new : Node) : Type 0 where
  pub same : new ≡ record old { outbox = new.outbox }

module _ (policy : Policy) (plan : Plan) where
  -- the node began so, and came to this by these turns, the newest first. Turns that did nothing leave it as it was
  abbrev pub HasTurned : List TurnMade → Node → Type 0
  HasTurned [] n = IsNew plan n
  HasTurned (t ∷ before) n = (left : Node) × HasTurned before left × HasPosted left t.node × TurnsAs policy Did t.inbox t.node n

  -- an act took the letter of a turn, or skipped it as odd
  abbrev pub IsActOf : TurnMade → Act (machine policy plan) → Type 0
  IsActOf t (Made turn) = turn.taken ≡ option_map (post_at policy plan t.node.id) t.inbox
  IsActOf t (Skipped from post) = (letter : Letter) × (t.inbox ≡ Some letter) × (from ≡ letter.from) × (post ≡ post_of policy plan letter)

  -- these are the acts of these turns
  abbrev pub AreActsOf : List TurnMade → List (Act (machine policy plan)) → Type 0
  AreActsOf [] [] = Unit {0}
  AreActsOf (t ∷ before) (act ∷ acts) = IsActOf t act × AreActsOf before acts
  AreActsOf [] (act ∷ acts) = ⊥
  AreActsOf (t ∷ before) [] = ⊥

  -- what the laws of a run ask of what a node did by itself
  pub record DidAlone (turns : List TurnMade) (n : Node) : Type 0 where
    pub acts : List (Act (machine policy plan))
    pub acts_are : AreActsOf turns acts
    pub lone : Lone (machine policy plan) n.id acts (local policy plan n)
    pub journal_is : reverse (all_noted plan.script n.journal.events) ≡ journal (machine policy plan) acts
