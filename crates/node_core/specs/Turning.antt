-- A turn of a node in the words of its parts.
use Rattle.std.specs.Prelude.{◌≡◌, ◌+◌, ◌-◌, ◌<◌, ◌≤◌, ◌^◌, ◌⊎◌, ℕ, max, nat_le, ◌||◌, ◌==◌, Bool, true, false, Option, Some, None, length}
use Rattle.std.specs.Bool.{MatchBool}
use Rattle.call_forward.specs.declared.acted.Acted.{Acted}
use Rattle.call_forward.specs.declared.letter.Letter.{Letter}
use Rattle.call_forward.specs.declared.message.Message.{Message}
use Rattle.call_forward.specs.declared.message.Message.TheVariants as message
use Rattle.kernel_spec.specs.Kernel.{is_live}
use Rattle.protocol.specs.Odd.{stamp_end, hops_end}
use Rattle.node_core.specs.declared.node.Node.{Node}
use Rattle.node_core.specs.declared.rotation.Kind.{Kind}
use Rattle.node_core.specs.declared.rotation.Ready.{Ready}
use Rattle.node_core.specs.declared.turn.Turned.{Turned}
use Rattle.node_core.specs.declared.turn.Turned.TheVariants.{Did, Idle, Finished, JournalFull}
use Rattle.node_core.specs.Rotation.{picked, rotated}
use Rattle.node_core.specs.Sight.{Answerer}
use Rattle.node_core.specs.Turns.{one_more, settled_in}
use Rattle.node_core.specs.Kinds.{is_misplaced, IsStrange, HearsHere, IsReady, CarriesOut, KindFails}

-- ---- a letter

abbrev pub has_many_hops : Message → Bool
has_many_hops (message.Move pid user hops line) = nat_le hops_end hops
has_many_hops _ = false

-- its stamp or its hops are at their end, or its target is no node of the cluster
abbrev pub is_odd : Node → Letter → Bool
is_odd n l = nat_le stamp_end l.stamp || (nat_le n.shape.nodes l.to || has_many_hops l.message)

-- a stamp after a clock and the stamp of a letter
abbrev pub IsStamp : ℕ → ℕ → ℕ → Type 0
IsStamp clock sent stamp = max clock sent < 2 ^ 64 - 1 → stamp ≡ max clock sent + 1

abbrev pub HearsAny : Answerer → ℕ → ℕ → Message → Acted → Node → Node → Type 0
HearsAny answers stamp from m acted old mid = MatchBool (is_misplaced old from m) (IsStrange acted old mid) (HearsHere answers stamp from m acted old mid)

-- the node made something of it
pub record Heard (answers : Answerer) (letter : Letter) (old new : Node) : Type 0 where
  pub usual : is_odd old letter ≡ false
  pub space : length old.journal.events < old.journal.room
  pub stamp : ℕ
  pub stamp_is : IsStamp old.clock letter.stamp stamp
  pub acted : Acted
  pub mid : Node
  pub hears : HearsAny answers stamp letter.from letter.message acted old mid
  pub settled : new ≡ settled_in stamp acted mid

-- or counted it as odd
pub record Passed (letter : Letter) (old new : Node) : Type 0 where
  pub odd : is_odd old letter ≡ true
  pub space : length old.journal.events < old.journal.room
  pub is : new ≡ record old { strange = one_more old.strange }

-- in a full journal the letter is dropped, and nothing changes
pub record Dropped (old new : Node) : Type 0 where
  pub full : length old.journal.events ≡ old.journal.room
  pub same : new ≡ old

abbrev pub TookLetter : Answerer → Turned → Letter → Node → Node → Type 0
TookLetter answers Did letter old new = Heard answers letter old new ⊎ Passed letter old new
TookLetter answers JournalFull letter old new = Dropped old new
TookLetter answers Idle letter old new = ⊥
TookLetter answers Finished letter old new = ⊥

-- ---- no letter

-- home's script is at its end, and every process has ended
pub record IsDone (n : Node) : Type 0 where
  pub home : n.id ≡ 0
  pub script : n.course.done ≡ length n.course.script
  pub ended : (p : ℕ) → is_live n.deputies.kernel p ≡ false

abbrev pub IsRest : Turned → Node → Type 0
IsRest Finished n = IsDone n
IsRest Idle n = IsDone n → ⊥
IsRest _ n = ⊥

-- what is ready, and the kind that is taken of it: the first that is ready, from the one after the last taken
pub record Picks (kind : Option Kind) (n : Node) : Type 0 where
  pub ready : Ready
  pub is : IsReady n ready
  pub picked : picked n.rotation.last ready ≡ kind
  pub most : length n.journal.events ≤ n.journal.room

-- that kind of turn was carried out, and the rotation goes on from it
pub record Went (answers : Answerer) (old new : Node) : Type 0 where
  pub kind : Kind
  pub picks : Picks (Some kind) old
  pub space : length old.journal.events < old.journal.room
  pub stamp : ℕ
  pub stamp_is : IsStamp old.clock 0 stamp
  pub acted : Acted
  pub mid : Node
  pub carries : CarriesOut answers stamp kind picks.ready.context acted old mid
  pub settled : new ≡ settled_in stamp acted (record mid { rotation = rotated old.rotation kind picks.ready.context })

-- the kind that is taken cannot be carried out. A node that suits a plan never comes to this
pub record Lacks (n : Node) : Type 0 where
  pub kind : Kind
  pub picks : Picks (Some kind) n
  pub fails : KindFails kind picks.ready.context n

abbrev pub WentOn : Answerer → Turned → Node → Node → Type 0
WentOn answers Did old new = Went answers old new
WentOn answers Idle old new = ((Picks None old × (IsDone old → ⊥)) ⊎ Lacks old) × (new ≡ old)
WentOn answers Finished old new = Picks None old × IsDone old × (new ≡ old)
WentOn answers JournalFull old new = ((kind : Kind) × Picks (Some kind) old) × (length old.journal.events ≡ old.journal.room) × (new ≡ old)

-- ---- a turn

-- with a letter it takes that one, whatever else is due; without one it carries out the kind whose time it is
abbrev pub TakesInOrder : Answerer → Turned → Option Letter → Node → Node → Type 0
TakesInOrder answers turned (Some letter) old new = TookLetter answers turned letter old new
TakesInOrder answers turned None old new = WentOn answers turned old new
