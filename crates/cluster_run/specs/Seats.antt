-- What a seat has done by itself, and what each step of it keeps.
use Rattle.std.specs.Prelude.{◌≡◌, ℕ, ◌≤◌, ◌==◌, cond, Option, Some, None, List, [], ◌∷◌, ◌++◌, length, map, reverse, option_to_list}
use Rattle.std.specs.Option.{option_map}
use Rattle.call_forward.specs.declared.letter.Letter.{Letter}
use Rattle.protocol.specs.Deeds.{all_noted}
use Rattle.protocol.specs.Notes.{Local}
use Rattle.protocol.specs.Rests.{Rests, Finished, HasMore}
use Rattle.run_laws.specs.Carried.{Each, IsUsual}
use Rattle.run_laws.specs.Skipping as skipping
use Rattle.run_laws.specs.Skipping.{Act, Lone, all_posted, all_taken, journal}
use Rattle.node_links.specs.declared.side.Towards.{Towards}
use Rattle.node_machine.specs.Plan.{Plan}
use Rattle.node_machine.specs.Machine.{Policy, machine}
use Rattle.node_core.specs.declared.node.Node.{Node}
use Rattle.node_core.specs.declared.turn.Turned.{Turned}
use Rattle.node_core.specs.declared.turn.Turned.TheVariants as turned
use Rattle.node_core.specs.Turns.{TurnsAs}
use Rattle.node_core.specs.Locals.{local, post_of, post_at}
use Rattle.node_core.specs.Suits.{Suits}
use Rattle.cluster_run.specs.declared.seat.Seat.{Seat}
use Rattle.cluster_run.specs.declared.seat.Rest.{Rest}
use Rattle.cluster_run.specs.declared.seat.Rest.TheVariants as rested
use Rattle.cluster_run.specs.Sides.{towards, LookTells, SameSide}

abbrev pub rest_of : Turned → Rest
rest_of turned.Did = rested.Busy
rest_of turned.Idle = rested.Idle
rest_of turned.Finished = rested.Over
rest_of turned.JournalFull = rested.Full

-- the letters to a node
abbrev pub bound : ℕ → List Letter → List Letter
bound m [] = []
bound m (l ∷ ls) = cond (m == l.to) (l ∷ bound m ls) (bound m ls)

-- the letters that have not gone on a link yet, the first one first
abbrev pub waiting : {C : Type 0} → Seat Node C → List Letter
waiting s = option_to_list s.waits ++ s.node.outbox

-- ---- parts of a round

module _ {C : Type 0} (puts gives : C → List Letter) (pair : C → C → Type 0) where
  -- letters went out, and this one came in; else the node is as it was
  pub record Step (came : Option Letter) (old new : Seat Node C) : Type 0 where
    pub out : (m : ℕ) → towards puts new.side m ++ bound m (waiting new) ≡ towards puts old.side m ++ bound m (waiting old)
    pub into : (m : ℕ) → towards gives new.side m ≡ towards gives old.side m ++ cond (m == new.source) (option_to_list came) []
    pub side : SameSide pair old.side new.side
    pub node : new.node ≡ record old.node { outbox = new.node.outbox }
    pub rest : new.rest ≡ old.rest

  -- a look at the link from a node, and the letter that came
  pub record Took (known : C → ℕ) (source : ℕ) (came : Option Letter) (old new : Seat Node C) : Type 0 where
    pub step : Step came old new
    pub tells : LookTells known source came old.side new.side
    pub put_same : (m : ℕ) → towards puts new.side m ≡ towards puts old.side m
    pub waits_same : waiting new ≡ waiting old
    pub none : came ≡ None → new ≡ record old { side = new.side }

-- a turn of the node, with this letter or without one
pub record Made {C : Type 0} (policy : Policy) (answer : Rest) (inbox : Option Letter) (old new : Seat Node C) : Type 0 where
  pub turned : Turned
  pub answer_is : answer ≡ rest_of turned
  pub turns : TurnsAs policy turned inbox old.node new.node
  pub same : new ≡ record old { node = new.node; rest = answer }
  pub fits : length new.node.journal.events ≤ new.node.journal.room

-- ---- all that a seat has done

module _ (policy : Policy) (plan : Plan) where
  -- no act skips a letter, and no turn has one that does not fit
  abbrev pub AreUsual : List (Act (machine policy plan)) → Type 0
  AreUsual [] = Unit {0}
  AreUsual (skipping.Made t ∷ before) = IsUsual t.event.what × AreUsual before
  AreUsual (skipping.Skipped from l ∷ before) = ⊥

  -- the letter came on the link from m to n
  abbrev pub CameBy : ℕ → ℕ → Letter → Type 0
  CameBy m n l = (l.from ≡ m) × (l.to ≡ n)

  -- node n did these acts; what it posted was put on the links or waits, and what it took was given by the links, but for the letter in hand. Its journal has
  -- this much room
  pub record Lives (room n : ℕ) (hand : Option Letter) (put given : ℕ → List Letter) (waits : List Letter) (source : ℕ) (node : Node) : Type 0 where
    pub acts : List (Act (machine policy plan))
    pub lone : Lone (machine policy plan) n acts (local policy plan node)
    pub id : node.id ≡ n
    pub suits : Suits plan node
    pub room_is : node.journal.room ≡ room
    pub fits : length node.journal.events ≤ room
    pub journal_is : reverse (all_noted plan.script node.journal.events) ≡ journal (machine policy plan) acts
    pub strange : AreUsual acts → node.strange ≡ 0
    pub mail : (m : ℕ) → map (post_of policy plan) (put m ++ bound m waits) ≡ all_posted (machine policy plan) n m acts
    -- where each letter that was given came on its link
    pub takes : ((m : ℕ) → Each (CameBy m n) (given m)) → (m : ℕ) → map (post_of policy plan) (given m) ≡ all_taken (machine policy plan) m n acts ++ cond (m == source) (map (post_of policy plan) (option_to_list hand)) []

  -- what the answer of the last turn tells of node n
  abbrev pub Found : ℕ → Rest → Local (machine policy plan) → Type 0
  Found n rested.Busy l = Unit {0}
  Found n rested.Idle l = Rests (machine policy plan) n l × (n ≡ 0 → Finished (machine policy plan) l → ⊥)
  Found n rested.Over l = Rests (machine policy plan) n l × (n ≡ 0) × Finished (machine policy plan) l
  Found n rested.Full l = ⊥

  module _ {C : Type 0} (puts gives : C → List Letter) where
    abbrev pub LivesAt : ℕ → ℕ → Option Letter → Seat Node C → Type 0
    LivesAt room n hand s = Lives room n hand (towards puts s.side) (towards gives s.side) (waiting s) s.source s.node

    -- between two turns
    pub record Ready (room n : ℕ) (s : Seat Node C) : Type 0 where
      pub lives : LivesAt room n None s
      pub found : Found n s.rest (local policy plan s.node)

    -- after a turn that found the journal full, with the letter in hand, if there is one
    pub record Filled (room n : ℕ) (s : Seat Node C) : Type 0 where
      pub hand : Option Letter
      pub lives : LivesAt room n hand s
      pub full : length s.node.journal.events ≡ room
      pub more : HasMore (machine policy plan) n (option_map (post_at policy plan n) hand) (local policy plan s.node)

-- ---- a round

module _ (policy : Policy) {C : Type 0} (puts gives : C → List Letter) where
  -- what a round makes of a seat that is ready
  abbrev pub Turns : Rest → Seat Node C → Seat Node C → Type 0
  Turns rested.Full old new = (plan : Plan) (room n : ℕ) → Ready policy plan puts gives room n old → Filled policy plan puts gives room n new
  Turns rested.Busy old new = (plan : Plan) (room n : ℕ) → Ready policy plan puts gives room n old → Ready policy plan puts gives room n new
  Turns rested.Idle old new = (plan : Plan) (room n : ℕ) → Ready policy plan puts gives room n old → Ready policy plan puts gives room n new
  Turns rested.Over old new = (plan : Plan) (room n : ℕ) → Ready policy plan puts gives room n old → Ready policy plan puts gives room n new

  pub record Went (pair : C → C → Type 0) (answer : Rest) (old new : Seat Node C) : Type 0 where
    pub turns : Turns answer old new
    pub rest : new.rest ≡ answer
    pub side : SameSide pair old.side new.side
