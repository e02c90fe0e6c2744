-- A node before anything happened.
use Rattle.std.specs.Prelude.{◌≡◌, ◌<◌, ℕ, List, [], reverse}
use Rattle.std.specs.FinMap as fin_map
use Rattle.rand_core.specs.Pcg32Seed.{pcg32_seed}
use Rattle.rand_pcg.specs.Lcg.{Lcg}
use Rattle.rand_pcg.specs.Pcg.{pcg32_of_seed}
use Rattle.node_event.specs.declared.script.ScriptLine.{ScriptLine}
use Rattle.user_spec.specs.User.{UserState}
use Rattle.load_gossip.specs.Vectors.{no_places}
use Rattle.deputy.specs.Rows.{no_home}
use Rattle.node_machine.specs.Plan.{Plan, IsPlan}
use Rattle.node_core.specs.declared.shape.Shape.{Shape}
use Rattle.node_core.specs.declared.course.Course.{Course}
use Rattle.node_core.specs.declared.talk.Talk.{Talk}
use Rattle.node_core.specs.declared.rotation.Kind.TheVariants.{Half}
use Rattle.node_core.specs.declared.node.Node.{Node}
use Rattle.node_core.specs.Suits.{HasShape, word_after}

-- where a node's words of chance come from
abbrev pub seeded : ℕ → Lcg
seeded word = pcg32_of_seed (pcg32_seed 16 word)

abbrev pub new_course : List ScriptLine → List UserState → Course
new_course script users = record { script = script; users = reverse users; done = 0; line = 0; launched = [] }

abbrev pub new_talk : ℕ → Talk
new_talk word = record { vector = no_places; sent = 0; steps = 0; load = 0; free = 0; chance = seeded word }

abbrev pub new_node : ℕ → Shape → List ScriptLine → List UserState → Node
new_node id shape script users = record {
  id = id;
  shape = shape;
  clock = 0;
  hosted = [];
  reserve = fin_map.empty;
  deputies = no_home;
  course = new_course script users;
  talk = new_talk shape.word;
  rotation = record { last = Half; after = 0 };
  journal = record { events = []; room = shape.journal };
  outbox = [];
  strange = 0;
}

-- the node is one of the cluster that the plan tells, home with its script and contexts
pub record Beginning (plan : Plan) (id : ℕ) (shape : Shape) (script : List ScriptLine) (users : List UserState) : Type 0 where
  pub is_plan : IsPlan plan
  pub below : id < plan.nodes
  pub shape_is : HasShape plan shape
  pub script_is : id ≡ 0 → script ≡ plan.script
  pub users_is : id ≡ 0 → users ≡ plan.users
  pub words : (k : ℕ) → plan.word id k ≡ word_after k (seeded shape.word)
