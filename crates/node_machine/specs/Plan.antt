-- What a run is given: its script, a context for each `run` line, the shape of the cluster, and each node's words of chance.
use Rattle.std.specs.Prelude.{◌≡◌, ◌≤◌, ◌<◌, ℕ, zero, suc, ◌+◌, ◌^◌, true, List, [], ◌∷◌, length, slice_get, Some}
use Rattle.std.specs.FinMap as map
use Rattle.call_table.specs.Calls.{is_signal_number}
use Rattle.call_table.specs.declared.limit.TheConstants.{PAGES}
use Rattle.node_event.specs.declared.script.Order.{Order}
use Rattle.node_event.specs.declared.script.Order.TheVariants as order
use Rattle.node_event.specs.declared.script.ScriptLine.{ScriptLine}
use Rattle.user_spec.specs.User.{UserState, need_of_user}
use Rattle.protocol.specs.Deeds.{one_run}

pub record Plan : Type 0 where
  pub script : List ScriptLine
  -- the context of each `run` line, in their order
  pub users : List UserState
  pub nodes : ℕ
  -- the pages of each node, and the most steps of one turn
  pub cap : ℕ
  pub quantum : ℕ
  -- the k-th word of chance of each node
  pub word : ℕ → ℕ → ℕ

-- the texts of the `type` lines, in their order
abbrev pub text_of : Order → List (List ℕ) → List (List ℕ)
text_of (order.Feed text) rest = text ∷ rest
text_of _ rest = rest

abbrev pub texts : List ScriptLine → List (List ℕ)
texts [] = []
texts (s ∷ rest) = text_of s.order (texts rest)

abbrev pub text_at : List (List ℕ) → ℕ → List ℕ
text_at [] i = []
text_at (t ∷ ts) zero = t
text_at (t ∷ ts) (suc i) = text_at ts i

-- how many `run` lines there are
abbrev pub run_count : List ScriptLine → ℕ
run_count [] = 0
run_count (s ∷ rest) = one_run s.order + run_count rest

-- no process
abbrev pub nobody : UserState
nobody = record { pc = 0; registers = []; pages = map.empty; base = 0; brk = 0; pid = 0; count = 0 }

-- the context of a `run` line for the process that it launches
abbrev pub user_at : List UserState → ℕ → ℕ → UserState
user_at [] i p = nobody
user_at (u ∷ us) zero p = record u { pid = p }
user_at (u ∷ us) (suc i) p = user_at us i p

-- a context as it is loaded: it has made no step, its heap is empty, it has 31 registers, and no more pages than a process may have
pub record IsLoaded (u : UserState) : Type 0 where
  pub fresh : u.count ≡ 0
  pub heap : u.brk ≡ u.base
  pub registers : length u.registers ≡ 31
  pub pages : need_of_user u ≤ PAGES

-- what the words, the reader of scripts and the loader of images give
pub record IsPlan (plan : Plan) : Type 0 where
  pub nodes : 1 ≤ plan.nodes
  pub quantum : 1 ≤ plan.quantum
  -- the numbers of the lines rise
  pub rising : (k : ℕ) (a b : ScriptLine) → slice_get plan.script k ≡ Some a → slice_get plan.script (suc k) ≡ Some b → a.line < b.line
  -- a `move` line goes to a node of the cluster, and a `kill` line names a signal
  pub targets : (k : ℕ) (s : ScriptLine) (p to : ℕ) → slice_get plan.script k ≡ Some s → s.order ≡ order.Move p to → to < plan.nodes
  pub signals : (k : ℕ) (s : ScriptLine) (p signal : ℕ) → slice_get plan.script k ≡ Some s → s.order ≡ order.Kill p signal → is_signal_number signal ≡ true
  -- each `run` line has its context
  pub images : length plan.users ≡ run_count plan.script
  pub loaded : (i : ℕ) (u : UserState) → slice_get plan.users i ≡ Some u → IsLoaded u
