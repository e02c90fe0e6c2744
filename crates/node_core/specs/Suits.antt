-- When a node is one of the cluster that a plan tells, and what then holds of it between its turns.
use Rattle.std.specs.Prelude.{◌≡◌, ◌+◌, ◌-◌, ◌≤◌, ◌<◌, ◌++◌, ℕ, zero, suc, Some, List, length, take, reverse, slice_get}
use Rattle.rand_pcg.specs.Lcg.{Lcg}
use Rattle.rand_pcg.specs.Pcg.{pcg32}
use Rattle.call_table.specs.declared.limit.TheConstants.{NODES, NODE_PAGES, JOURNAL}
use Rattle.node_event.specs.declared.script.ScriptLine.{ScriptLine}
use Rattle.user_spec.specs.User.{UserState}
use Rattle.remote_ctx.specs.declared.context.Context as code_context
use Rattle.remote_ctx.specs.Hosted.{lookup, sum_to, counts}
use Rattle.deputy.specs.Rows.{served_at}
use Rattle.protocol.specs.Odd.{stamp_end}
use Rattle.node_machine.specs.Plan.{Plan, IsPlan, run_count}
use Rattle.node_core.specs.declared.shape.Shape.{Shape}
use Rattle.node_core.specs.declared.course.Course.{Course}
use Rattle.node_core.specs.declared.node.Node.{Node}

-- the shape of the cluster, within its limits
pub record HasShape (plan : Plan) (shape : Shape) : Type 0 where
  pub nodes : shape.nodes ≡ plan.nodes
  pub cap : shape.cap ≡ plan.cap
  pub quantum : shape.quantum ≡ plan.quantum
  pub most_nodes : plan.nodes ≤ NODES
  pub most_pages : plan.cap ≤ NODE_PAGES
  pub most_events : shape.journal ≤ JOURNAL

-- home has come so far in the plan's script: the contexts that are left are those of the `run` lines to come, the next one last
pub record Follows (plan : Plan) (c : Course) : Type 0 where
  pub script : c.script ≡ plan.script
  pub done : c.done ≤ length plan.script
  pub next : (s : ScriptLine) → slice_get plan.script c.done ≡ Some s → c.line ≤ s.line
  pub launched : List UserState
  pub users : plan.users ≡ launched ++ reverse c.users
  pub count : length launched ≡ run_count (take c.done plan.script)

-- the k-th word from a generator, from 0
abbrev pub word_after : ℕ → Lcg → ℕ
word_after zero g = (pcg32 g).0
word_after (suc k) g = word_after k (pcg32 g).1

-- what a node counts is at most its events; its clock passes the end of the stamps by no more
pub record IsWithin (events : ℕ) (n : Node) : Type 0 where
  pub clock : n.clock ≤ stamp_end + events
  pub served : (q : ℕ) → served_at n.deputies.rows q ≤ events
  pub sent : n.talk.sent ≤ events
  pub steps : n.talk.steps ≤ events

-- what of a node holds with so many events
pub record SuitsAt (plan : Plan) (events : ℕ) (n : Node) : Type 0 where
  pub is_plan : IsPlan plan
  pub below : n.id < plan.nodes
  pub shape : HasShape plan n.shape
  pub room : n.journal.room ≡ n.shape.journal
  pub within : IsWithin events n
  pub course : n.id ≡ 0 → Follows plan n.course
  -- the words of chance to come are the plan's, of which a node draws one for each half after its first round
  pub chance : (k : ℕ) → plan.word n.id (n.talk.sent - (plan.nodes - 1) + k) ≡ word_after k n.talk.chance

-- the contexts of the pids below k
abbrev pub contexts_below : ℕ → List code_context.Context → ℕ
contexts_below k contexts = sum_to k (λ q. counts (λ _. 1) (lookup q contexts))

-- a node of the plan's cluster between its turns: as above, and each of its contexts came with an event
pub record Suits (plan : Plan) (n : Node) : Type 0 where
  pub is_plan : IsPlan plan
  pub below : n.id < plan.nodes
  pub shape : HasShape plan n.shape
  pub room : n.journal.room ≡ n.shape.journal
  pub within : IsWithin (length n.journal.events) n
  pub course : n.id ≡ 0 → Follows plan n.course
  pub chance : (k : ℕ) → plan.word n.id (n.talk.sent - (plan.nodes - 1) + k) ≡ word_after k n.talk.chance
  pub few : (k : ℕ) → contexts_below k n.hosted ≤ length n.journal.events
