-- Halves of load vectors: when one is due and to which node, and what a node does as it sends or hears one.
use Rattle.std.specs.Prelude.{◌≡◌, ◌+◌, ◌-◌, ◌%◌, ◌^◌, ℕ, max, min, nat_lt, nat_le, cond, ◌&&◌, ◌||◌, ◌==◌, not, is_none, Bool, Option, Some, None, List, [], ◌∷◌, ◌++◌, take}
use Rattle.rand_pcg.specs.Lcg.{Lcg}
use Rattle.rand_pcg.specs.Pcg.{pcg32}
use Rattle.call_table.specs.declared.process.Entry as code_entry
use Rattle.call_forward.specs.declared.acted.Acted.{Acted}
use Rattle.call_forward.specs.declared.message.Message.{Message}
use Rattle.call_forward.specs.declared.message.Message.TheVariants as message
use Rattle.node_event.specs.declared.event.What.{What}
use Rattle.node_event.specs.declared.event.What.TheVariants as what
use Rattle.load_gossip.specs.Vectors.{renewed, merged}
use Rattle.mem_usher.specs.declared.sight.Choice as choice_row
use Rattle.remote_ctx.specs.Hosted.{Changes, pages_of}
use Rattle.remote_ctx.specs.Acting.{asking}
use Rattle.protocol.specs.Gossip.{other_at}
use Rattle.node_core.specs.declared.halves.TheConstants.{QUANTA}
use Rattle.node_core.specs.declared.talk.Talk.{Talk}
use Rattle.node_core.specs.declared.node.Node.{Node}
use Rattle.node_core.specs.Sight.{Answerer, load_of, free_of, own_entry, AreCounted, Chooses}

-- ---- when a half is due

abbrev pub has_others : Node → Bool
has_others n = nat_le 2 n.shape.nodes

-- some other node was not sent one yet
abbrev pub in_first_round : Node → Bool
in_first_round n = nat_lt n.talk.sent (n.shape.nodes - 1)

-- the most quanta of steps that may go between two halves went since the last one
abbrev pub is_late : Node → Bool
is_late n = nat_le QUANTA n.talk.steps

-- load or free pages are not those last told
abbrev pub has_news : Node → Bool
has_news n = not ((load_of n == n.talk.load) && (free_of n == n.talk.free))

-- `rests`: no context runs
abbrev pub is_half_due : Bool → Node → Bool
is_half_due rests n = has_others n && (in_first_round n || (is_late n || (rests && has_news n)))

-- ---- to which node

-- the first round goes to each other node in order; after it the next word of chance tells the node
abbrev pub target_of : Node → ℕ
target_of n = other_at n.id (cond (in_first_round n) n.talk.sent ((pcg32 n.talk.chance).0 % max (n.shape.nodes - 1) 1))

abbrev pub chance_after : Node → Lcg
chance_after n = cond (in_first_round n) n.talk.chance (pcg32 n.talk.chance).1

-- ---- what becomes of what a node keeps of gossip

abbrev pub told_talk : code_entry.Entry → Talk → Talk
told_talk own t = record { vector = renewed own t.vector; sent = min (t.sent + 1) (2 ^ 32 - 1); steps = 0; load = own.load; free = own.free; chance = t.chance }

abbrev pub heard_talk : code_entry.Entry → List (Option code_entry.Entry) → Talk → Talk
heard_talk own places t = record t { vector = merged (take 4 (renewed own t.vector)) places }

-- ---- what a node does

-- a process that was chosen begins its move: it asks its target for room, after what is posted first
pub record BeginsChosen (choice : choice_row.Choice) (first mail : List (ℕ × Message)) (old mid : Node) : Type 0 where
  pub changes : Changes choice.pid (asking choice.to None) old.hosted mid.hosted
  pub mail_is : mail ≡ first ++ (choice.to, message.Ask choice.pid (pages_of changes.context)) ∷ []
  pub rest : mid ≡ record old { hosted = mid.hosted }

abbrev pub Follows : Option choice_row.Choice → List (ℕ × Message) → List (ℕ × Message) → Node → Node → Type 0
Follows None first mail old mid = (mail ≡ first) × (mid ≡ old)
Follows (Some choice) first mail old mid = BeginsChosen choice first mail old mid

-- the policy is asked, and what it chooses begins
pub record ActsOnChoice (answers : Answerer) (own : code_entry.Entry) (first mail : List (ℕ × Message)) (chosen : Option choice_row.Choice) (old mid : Node) : Type 0 where
  pub chooses : Chooses answers own old chosen
  pub follows : Follows chosen first mail old mid

abbrev pub told_half : ℕ → Option choice_row.Choice → What
told_half other None = what.Half other None None
told_half other (Some choice) = what.Half other (Some choice.pid) (Some choice.to)

abbrev pub told_heard : ℕ → Option choice_row.Choice → What
told_heard other None = what.Heard other None None
told_heard other (Some choice) = what.Heard other (Some choice.pid) (Some choice.to)

-- a half goes out with the event of this stamp
pub record SendsHalf (answers : Answerer) (stamp : ℕ) (acted : Acted) (old mid : Node) : Type 0 where
  pub counted : AreCounted old.hosted
  pub chosen : Option choice_row.Choice
  pub decides : ActsOnChoice answers (own_entry stamp old) ((target_of old, message.Half (take 4 (renewed (own_entry stamp old) old.talk.vector))) ∷ []) acted.mail chosen (record old { talk = told_talk (own_entry stamp old) (record old.talk { chance = chance_after old }) }) mid
  pub what : acted.what ≡ told_half (target_of old) chosen

-- one comes
pub record HearsHalf (answers : Answerer) (stamp from : ℕ) (places : List (Option code_entry.Entry)) (acted : Acted) (old mid : Node) : Type 0 where
  pub counted : AreCounted old.hosted
  pub chosen : Option choice_row.Choice
  pub decides : ActsOnChoice answers (own_entry stamp old) [] acted.mail chosen (record old { talk = heard_talk (own_entry stamp old) places old.talk }) mid
  pub what : acted.what ≡ told_heard from chosen
