-- What a turn of a node may answer.
use Rattle.std.specs.Prelude.{◌≡◌, ◌+◌, ◌-◌, ◌^◌, ◌⊎◌, ℕ, min, nat_lt, cond, Bool, true, false, Option, Some, [], ◌∷◌, ◌++◌, map, length, MatchOption}
use Rattle.std.specs.Option.{option_map}
use Rattle.call_forward.specs.declared.letter.Letter.{Letter}
use Rattle.call_forward.specs.declared.acted.Acted.{Acted}
use Rattle.node_event.specs.declared.event.What.{What}
use Rattle.node_event.specs.declared.event.What.TheVariants as what
use Rattle.protocol.specs.Deeds.{all_noted, Strange, Deed}
use Rattle.protocol.specs.Notes.{Turn}
use Rattle.protocol.specs.Does.{Makes}
use Rattle.protocol.specs.Odd.{Timely, SkipsOdd, stamp_end}
use Rattle.protocol.specs.Rests.{IsIdle, IsFinished, HasMore}
use Rattle.run_laws.specs.Carried.{recorded}
use Rattle.node_machine.specs.Plan.{Plan}
use Rattle.node_machine.specs.Machine.{Policy, machine}
use Rattle.node_core.specs.declared.node.Node.{Node}
use Rattle.node_core.specs.declared.turn.Turned.{Turned}
use Rattle.node_core.specs.declared.turn.Turned.TheVariants.{Did, Idle, Finished, JournalFull}
use Rattle.node_core.specs.Letters.{posted_by}
use Rattle.node_core.specs.Locals.{local, post_of, post_at}
use Rattle.node_core.specs.Suits.{Suits}

-- the count of strange letters stays at its end
abbrev pub one_more : ℕ → ℕ
one_more count = min (count + 1) (2 ^ 64 - 1)

-- a letter that does not fit is counted
abbrev pub strange_after : Deed → ℕ → ℕ
strange_after (Strange p) count = one_more count
strange_after _ count = count

module _ (policy : Policy) (plan : Plan) where
  -- the node made this turn: one that the laws allow, with the stamp that its clock and its letter give, and with a letter that is not odd. What it posts stands
  -- at the end of its outbox, its event at the end of its journal
  pub record Made (inbox : Option Letter) (old new : Node) : Type 0 where
    pub turn : Turn (machine policy plan)
    pub makes : Makes (machine policy plan) old.id (local policy plan old) turn (local policy plan new)
    pub timely : Timely (machine policy plan) old.id (local policy plan old) turn
    pub taken : turn.taken ≡ option_map (post_at policy plan old.id) inbox
    pub mail : map (post_of policy plan) new.outbox ≡ map (post_of policy plan) old.outbox ++ turn.posted
    pub journal : all_noted plan.script new.journal.events ≡ all_noted plan.script old.journal.events ++ recorded turn.event turn.event.what
    pub strange : new.strange ≡ strange_after turn.event.what old.strange
    pub id : new.id ≡ old.id
    pub shape : new.shape ≡ old.shape
    pub suits : Suits plan new

  -- its letter was odd: it is counted, and nothing else changes
  pub record PassedOver (inbox : Option Letter) (old new : Node) : Type 0 where
    pub letter : Letter
    pub is : inbox ≡ Some letter
    pub skips : SkipsOdd (machine policy plan) old.id (local policy plan old) (post_of policy plan letter) (local policy plan new)
    pub same : new ≡ record old { strange = one_more old.strange }
    pub suits : Suits plan new

  -- no letter came, and nothing is due
  pub record Rested (inbox : Option Letter) (old new : Node) : Type 0 where
    pub idle : IsIdle (machine policy plan) old.id (option_map (post_at policy plan old.id) inbox) (local policy plan old)
    pub more : IsFinished (machine policy plan) old.id (option_map (post_at policy plan old.id) inbox) (local policy plan old) → ⊥
    pub same : new ≡ old

  -- nor will anything be due again
  pub record HasFinished (inbox : Option Letter) (old new : Node) : Type 0 where
    pub finished : IsFinished (machine policy plan) old.id (option_map (post_at policy plan old.id) inbox) (local policy plan old)
    pub same : new ≡ old

  -- more is due, and the journal is full
  pub record IsFull (inbox : Option Letter) (old new : Node) : Type 0 where
    pub full : length old.journal.events ≡ old.journal.room
    pub more : HasMore (machine policy plan) old.id (option_map (post_at policy plan old.id) inbox) (local policy plan old)
    pub same : new ≡ old

  abbrev pub Answers : Turned → Option Letter → Node → Node → Type 0
  Answers Did inbox old new = Made inbox old new ⊎ PassedOver inbox old new
  Answers Idle inbox old new = Rested inbox old new
  Answers Finished inbox old new = HasFinished inbox old new
  Answers JournalFull inbox old new = IsFull inbox old new

-- whatever cluster the node is one of
abbrev pub TurnsAs : Policy → Turned → Option Letter → Node → Node → Type 0
TurnsAs policy turned inbox old new = (plan : Plan) → Suits plan old → Answers policy plan turned inbox old new

-- ---- how a turn ends

-- an event at the end of the journal, and what it posts at the end of the outbox
abbrev pub recorded_in : ℕ → Acted → Node → Node
recorded_in stamp acted n = record n {
  clock = stamp;
  journal = record n.journal { events = n.journal.events ++ record { stamp = stamp; node = n.id; what = acted.what } ∷ [] };
  outbox = n.outbox ++ map (posted_by n.id stamp) acted.mail;
}

-- a letter that did not fit is counted, and the clock goes on unless it is at its end
abbrev pub skipped_in : ℕ → Node → Node
skipped_in stamp n = record n { clock = cond (nat_lt n.clock stamp_end) stamp n.clock; strange = one_more n.strange }

abbrev pub is_strange : What → Bool
is_strange what.Strange = true
is_strange _ = false

abbrev pub settled_in : ℕ → Acted → Node → Node
settled_in stamp acted n = cond (is_strange acted.what) (skipped_in stamp n) (recorded_in stamp acted n)
