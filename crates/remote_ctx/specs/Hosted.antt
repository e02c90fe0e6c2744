-- The contexts of a node, found by their pids.
use Rattle.std.specs.Prelude.{◌≡◌, ℕ, zero, suc, ◌+◌, ◌<◌, ◌≤◌, ◌⊎◌, ◌==◌, ◌||◌, cond, Bool, true, false, Option, Some, None, List, [], ◌∷◌, length, slice_index}
use Rattle.std.specs.List.{sum_by}
use Rattle.call_forward.specs.declared.state.State.{State}
use Rattle.call_forward.specs.declared.state.State.TheVariants as state
use Rattle.user_spec.specs.User.{need_of_user}
use Rattle.remote_ctx.specs.declared.context.Context.{Context}
use Rattle.remote_ctx.specs.declared.context.Stance.{Stance}
use Rattle.remote_ctx.specs.declared.context.Stance.TheVariants.{Running, Waiting, Asking}

-- the context of a pid
abbrev pub lookup : ℕ → List Context → Option Context
lookup q [] = None
lookup q (c ∷ cs) = cond (q == c.pid) (Some c) (lookup q cs)

-- at most one of each pid
abbrev pub AreApart : List Context → Type 0
AreApart [] = Unit {0}
AreApart (c ∷ cs) = (lookup c.pid cs ≡ None) × AreApart cs

-- the context of one pid is another one, or gone; those of all others are as they were
pub record Puts (p : ℕ) (c : Option Context) (old new : List Context) : Type 0 where
  pub each : (q : ℕ) → lookup q new ≡ cond (q == p) c (lookup q old)

-- whether q is this pid, if there is one
abbrev pub is_pid : Option ℕ → ℕ → Bool
is_pid None q = false
is_pid (Some child) q = child == q

-- the same of two pids, of which the second may be none
pub record PutsBoth (p : ℕ) (c : Option Context) (child : Option ℕ) (born : Option Context) (old new : List Context) : Type 0 where
  pub each : (q : ℕ) → lookup q new ≡ cond (q == p) c (cond (is_pid child q) born (lookup q old))

-- the context of one pid is changed
pub record Changes (p : ℕ) (change : Context → Context) (old new : List Context) : Type 0 where
  pub context : Context
  pub here : lookup p old ≡ Some context
  pub puts : Puts p (Some (change context)) old new

-- ---- pages

-- the pages of a context, and of all of them
abbrev pub pages_of : Context → ℕ
pages_of c = need_of_user c.user

abbrev pub pages_here : List Context → ℕ
pages_here contexts = sum_by pages_of contexts

-- ---- sums over all pids

-- the sum of f at all numbers below n
abbrev pub sum_to : ℕ → (ℕ → ℕ) → ℕ
sum_to zero f = 0
sum_to (suc n) f = sum_to n f + f n

-- what a context counts, 0 where there is none
abbrev pub counts : (Context → ℕ) → Option Context → ℕ
counts f None = 0
counts f (Some c) = f c

-- no pid from n on is here
pub record IsPast (n : ℕ) (contexts : List Context) : Type 0 where
  pub none : (q : ℕ) → n ≤ q → lookup q contexts ≡ None

-- ---- those that run

abbrev pub is_running : Stance → Bool
is_running Running = true
is_running (Waiting pause kept) = false
is_running (Asking to line) = false

abbrev pub runs_as : Option Context → Bool
runs_as None = false
runs_as (Some c) = is_running c.state

abbrev pub runs_at : ℕ → List Context → Bool
runs_at q contexts = runs_as (lookup q contexts)

-- of the pids that pass a test: the least above `after`, else the least
pub record IsNext (runs : ℕ → Bool) (after p : ℕ) : Type 0 where
  pub is : runs p ≡ true
  pub least : ((after < p) × ((q : ℕ) → runs q ≡ true → after < q → p ≤ q)) ⊎ (((q : ℕ) → runs q ≡ true → q ≤ after) × ((q : ℕ) → runs q ≡ true → p ≤ q))

pub record NonePasses (runs : ℕ → Bool) : Type 0 where
  pub none : (q : ℕ) → runs q ≡ false

-- ---- numbers that rise, as a set

abbrev pub IsRising : List ℕ → Type 0
IsRising pids = (i j : ℕ) → i < j → j < length pids → slice_index pids i < slice_index pids j

abbrev pub has : ℕ → List ℕ → Bool
has q [] = false
has q (pid ∷ pids) = (q == pid) || has q pids

-- ---- how a context stands

abbrev pub stands : Stance → State
stands Running = state.Running
stands (Waiting pause kept) = state.Waiting
stands (Asking to line) = state.Asking to line

abbrev pub state_of : Context → State
state_of c = stands c.state
