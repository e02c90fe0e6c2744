-- How contexts are kept: by rising pids, with the pids of those that run, and the sum of their pages.
use Rattle.std.specs.Prelude.{◌≡◌, ℕ, ◌<◌, ◌≤◌, ◌^◌, ◌==◌, cond, Bool, true, false, List, length, map, slice_index}
use Rattle.std.specs.List.{sum_by, All}
use Rattle.remote_ctx.specs.declared.context.Context.{Context}
use Rattle.remote_ctx.specs.Hosted.{lookup, pages_of, pages_here, is_running, runs_as, IsRising, has}

abbrev pub pids_of : List Context → List ℕ
pids_of contexts = map (λ (c : Context). c.pid) contexts

-- the place of a pid
pub record IsAt (pids : List ℕ) (pid i : ℕ) : Type 0 where
  pub in_range : i < length pids
  pub is : slice_index pids i ≡ pid

-- the place that a pid would have: lower ones before it, and higher ones from it on
pub record IsGap (pids : List ℕ) (pid i : ℕ) : Type 0 where
  pub in_range : i ≤ length pids
  pub below : (j : ℕ) → j < i → slice_index pids j < pid
  pub above : (j : ℕ) → i ≤ j → j < length pids → pid < slice_index pids j

-- the pids up to a place are at most `after`, and those from it on above
pub record IsCut (pids : List ℕ) (after i : ℕ) : Type 0 where
  pub in_range : i ≤ length pids
  pub below : (j : ℕ) → j < i → slice_index pids j ≤ after
  pub above : (j : ℕ) → i ≤ j → j < length pids → after < slice_index pids j

abbrev pub one_if : Bool → ℕ
one_if false = 0
one_if true = 1

abbrev pub one_if_runs : Context → ℕ
one_if_runs c = one_if (is_running c.state)

-- whether one pid is a member is told, and of all others as it was
pub record Notes (pid : ℕ) (runs : Bool) (old new : List ℕ) : Type 0 where
  pub each : (q : ℕ) → has q new ≡ cond (q == pid) runs (has q old)

-- a context's pages are so few that they can be counted
pub record IsSmall (c : Context) : Type 0 where
  pub few : pages_of c < 2 ^ 32

pub record IsKept (contexts : List Context) (running : List ℕ) (capacity total : ℕ) : Type 0 where
  pub rising : IsRising (pids_of contexts)
  pub small : All IsSmall contexts
  pub pages : total ≡ pages_here contexts
  pub runs_rising : IsRising running
  pub runs : (q : ℕ) → has q running ≡ runs_as (lookup q contexts)
  pub count : length running ≡ sum_by one_if_runs contexts
  pub room : length contexts ≤ capacity
