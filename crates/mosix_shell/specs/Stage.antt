-- The run of a script's orders by the processes of its `run` lines.
use Rattle.std.specs.Prelude.{◌≡◌, ℕ, zero, suc, ◌+◌, ◌-◌, Bool, true, ◌==◌, List, [], ◌∷◌, slice_index, Option, Some, None}
use Rattle.rand_core.specs.Stream.{Stream, next_u64}
use Rattle.rand_core.specs.Steps.{stream_of, steps_u32}
use Rattle.rand_pcg.specs.Pcg.{pcg32}
use Rattle.node_event.specs.declared.script.ScriptLine.{ScriptLine}
use Rattle.mosix_words.specs.declared.settings.Settings.{Settings}
use Rattle.user_spec.specs.User.{UserState}
use Rattle.node_machine.specs.Plan.{Plan}
use Rattle.node_machine.specs.Machine.{Policy}
use Rattle.node_core.specs.declared.node.Node.{Node}
use Rattle.node_core.specs.declared.shape.Shape.{Shape}
use Rattle.node_core.specs.Making.{seeded, new_node}
use Rattle.node_core.specs.Suits.{word_after}
use Rattle.cluster_run.specs.declared.over.OverWhy.{OverWhy}
use Rattle.cluster_run.specs.declared.over.OverWhy.TheVariants as why
use Rattle.cluster_run.specs.Over.{Begins}
use Rattle.shell_text.specs.declared.run.Last.{Last}
use Rattle.shell_text.specs.declared.run.Last.TheVariants as last
use Rattle.shell_text.specs.declared.run.Run.{Run}
use Rattle.mosix_shell.specs.Headline.{Headline}

-- ---- words of chance

-- the next so many words of a stream
abbrev pub words_from : ℕ → Stream → List ℕ
words_from zero s = []
words_from (suc n) s = (next_u64 s).0 ∷ words_from n (next_u64 s).1

-- the seed that the words give is that of a generator; without one it is the caller's
abbrev pub chance_of : Option ℕ → Stream → Stream
chance_of None chance = chance
chance_of (Some seed) chance = stream_of (steps_u32 pcg32) (seeded seed)

-- each node's generator starts from a word of its own
abbrev pub seeds_of : Settings → Stream → List ℕ
seeds_of settings chance = words_from settings.nodes (chance_of settings.seed chance)

-- ---- the nodes of a run, before anything happened

-- the shape of the cluster, and the seed of one node
abbrev pub shape_of : Settings → ℕ → Shape
shape_of settings word = record { nodes = settings.nodes; cap = settings.pages; quantum = settings.quantum; journal = settings.journal; word = word }

-- so many other nodes, from this one on
abbrev pub away_nodes : Settings → List ℕ → ℕ → ℕ → List Node
away_nodes settings seeds id zero = []
away_nodes settings seeds id (suc n) = new_node id (shape_of settings (slice_index seeds id)) [] [] ∷ away_nodes settings seeds (id + 1) n

-- home has the script and the processes of its `run` lines
abbrev pub first_nodes : Settings → List ℕ → List ScriptLine → List UserState → List Node
first_nodes settings seeds orders users = new_node 0 (shape_of settings (slice_index seeds 0)) orders users ∷ away_nodes settings seeds 1 (settings.nodes - 1)

-- the nodes begin a run of some plan
pub record BeginsSome (nodes : List Node) : Type 0 where
  pub plan : Plan
  pub room : ℕ
  pub begins : Begins plan room nodes

-- how a run ended, by why it is over
abbrev pub last_of : OverWhy → Last
last_of why.Done = last.Done
last_of why.Stuck = last.Stuck
last_of (why.Full node) = last.Full node

-- ---- a run

abbrev pub plan_of : Stream → Settings → List ScriptLine → List UserState → Plan
plan_of chance settings orders users = record {
  script = orders;
  users = users;
  nodes = settings.nodes;
  cap = settings.pages;
  quantum = settings.quantum;
  word = λ n k. word_after k (seeded (slice_index (seeds_of settings chance) n));
}

module _ (policy : Policy) (chance : Stream) where
  pub record IsRun (settings : Settings) (orders : List ScriptLine) (users : List UserState) (run : Run) : Type 0 where
    pub headline : Headline policy (plan_of chance settings orders users) settings.journal run
