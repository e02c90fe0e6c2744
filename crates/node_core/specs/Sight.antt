-- What a node tells of itself, and what its policy sees.
use Rattle.std.specs.Prelude.{◌≡◌, ◌≢◌, ◌-◌, ◌^◌, ℕ, min, unwrap_or, true, Option, List, map, length, IfSome}
use Rattle.std.specs.Option.{option_map}
use Rattle.call_table.specs.declared.process.Entry as code_entry
use Rattle.migrate_proto.specs.Reservations.{reserved_pages}
use Rattle.remote_ctx.specs.declared.context.Context as code_context
use Rattle.remote_ctx.specs.Hosted.{lookup, pages_of, pages_here, sum_to, counts, IsPast, IsRising, has, runs_at}
use Rattle.mem_usher.specs.declared.sight.Sight as sight_row
use Rattle.mem_usher.specs.declared.sight.Choice as choice_row
use Rattle.policy_box.specs.Policies.{IsInRange}
use Rattle.protocol.specs.Gossip.{known_below}
use Rattle.node_core.specs.declared.node.Node.{Node}
use Rattle.node_core.specs.Locals.{entry_of, places_of}

-- the answers that a chooser may give on a sight
abbrev pub Answerer : Type 1
Answerer = sight_row.Sight → Option choice_row.Choice → Type 0

-- ---- what a node tells of itself

-- its load: its contexts
abbrev pub load_of : Node → ℕ
load_of n = min (length n.hosted) (2 ^ 32 - 1)

-- its free pages: those that neither its contexts nor its reservations use
abbrev pub free_of : Node → ℕ
free_of n = n.shape.cap - min (pages_here n.hosted) (2 ^ 32 - 1) - reserved_pages n.reserve

abbrev pub own_entry : ℕ → Node → code_entry.Entry
own_entry stamp n = record { node = n.id; load = load_of n; free = free_of n; stamp = stamp }

-- both count pid by pid
pub record AreCounted (contexts : List code_context.Context) : Type 0 where
  pub load : (n : ℕ) → IsPast n contexts → length contexts ≡ sum_to n (λ q. counts (λ _. 1) (lookup q contexts))
  pub pages : (n : ℕ) → IsPast n contexts → pages_here contexts ≡ sum_to n (λ q. counts pages_of (lookup q contexts))

-- ---- what its policy sees

-- the pages of a process that is here
abbrev pub pages_at : List code_context.Context → ℕ → ℕ
pages_at contexts q = unwrap_or (option_map pages_of (lookup q contexts)) 0

-- the processes that run, by pid, each with its pages
pub record AreMovable (contexts : List code_context.Context) (movable : List (ℕ × ℕ)) : Type 0 where
  pub pids : List ℕ
  pub rising : IsRising pids
  pub run : (q : ℕ) → has q pids ≡ runs_at q contexts
  pub each : movable ≡ map (λ q. (q, pages_at contexts q)) pids

-- itself as it tells it, the newest entry of each other node, and the processes that run
pub record Sees (own : code_entry.Entry) (n : Node) (sight : sight_row.Sight) : Type 0 where
  pub node : sight.node ≡ n.id
  pub cap : sight.cap ≡ n.shape.cap
  pub free : sight.free ≡ own.free
  pub load : sight.load ≡ own.load
  pub known : map entry_of sight.known ≡ known_below n.shape.nodes n.id (places_of n.talk.vector)
  pub movable : AreMovable n.hosted sight.movable
  pub range : IsInRange sight

-- its policy was asked on that, and chose
pub record Chooses (answers : Answerer) (own : code_entry.Entry) (n : Node) (chosen : Option choice_row.Choice) : Type 0 where
  pub sight : sight_row.Sight
  pub sees : Sees own n sight
  pub answer : answers sight chosen
  pub runs : IfSome chosen (λ c. runs_at c.pid n.hosted ≡ true)
  pub away : IfSome chosen (λ c. c.to ≢ n.id)
