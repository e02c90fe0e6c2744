-- What home keeps of each process, by pid.
use Rattle.std.specs.Prelude.{◌≡◌, ℕ, zero, suc, ◌+◌, ◌-◌, ◌^◌, ◌==◌, min, nat_le, if◌then◌else◌, cond, is_none, Bool, true, false, Option, Some, None, List, [], ◌∷◌, ◌++◌, refl}
use Rattle.std.specs.Coded.{Coded, code_by, coded×, coded_list, coded_ℕ}
use Rattle.call_table.specs.declared.request.Request.{Request}
use Rattle.call_table.specs.declared.request.Answer.{Answer}
use Rattle.call_table.specs.declared.request.Kind.{Kind}
use Rattle.call_table.specs.declared.request.Kind.TheVariants.{Plain, Fork, Return}
use Rattle.kernel_spec.specs.Pids.{at_pid}
use Rattle.kernel_spec.specs.Kernel.{KernelState, no_process, coded_kernel}
use Rattle.deputy.specs.declared.row.Row.{Row}
use Rattle.deputy.specs.declared.row.HeldCall.{HeldCall}
use Rattle.deputy.specs.contracts.row.Row as row_row

-- home: the kernel, and a row for each pid that was given
pub record HomeState : Type 0 where
  pub kernel : KernelState
  pub rows : List Row

abbrev pub no_home : HomeState
no_home = record { kernel = no_process; rows = [] }

-- ---- what is kept of a pid; nothing is held or served of one that was never given, and it is believed at home

abbrev pub held_of : Option Row → Option HeldCall
held_of None = None
held_of (Some row) = row.held

abbrev pub served_of : Option Row → ℕ
served_of None = 0
served_of (Some row) = row.served

abbrev pub place_of : Option Row → ℕ
place_of None = 0
place_of (Some row) = row.place

abbrev pub hops_of : Option Row → ℕ
hops_of None = 0
hops_of (Some row) = row.hops

abbrev pub held_at : List Row → ℕ → Option HeldCall
held_at rows pid = held_of (at_pid rows pid)

abbrev pub served_at : List Row → ℕ → ℕ
served_at rows pid = served_of (at_pid rows pid)

abbrev pub place_at : List Row → ℕ → ℕ
place_at rows pid = place_of (at_pid rows pid)

abbrev pub hops_at : List Row → ℕ → ℕ
hops_at rows pid = hops_of (at_pid rows pid)

-- ---- changes

-- a process that is new at a node
abbrev pub new_row : ℕ → Row
new_row place = record { place = place; hops = 0; served = 0; held = None }

-- its call waits
abbrev pub holding : HeldCall → Row → Row
holding call row = record row { held = Some call }

-- one more of its calls was served, and none waits; the count stays at its end
abbrev pub counted : Row → Row
counted row = record row { served = min (row.served + 1) (2 ^ 64 - 1); held = None }

-- it landed
abbrev pub moved : ℕ → ℕ → Row → Row
moved place hops row = record row { place = place; hops = hops }

-- whether an answer is that of a fork that made a child
abbrev pub is_fork_kind : Kind → Bool
is_fork_kind Plain = false
is_fork_kind Fork = true
is_fork_kind Return = false

abbrev pub is_fork : Option Answer → Bool
is_fork None = false
is_fork (Some answer) = is_fork_kind answer.kind

-- a fork's child has a row, at the node that the call came from
abbrev pub with_born : Bool → ℕ → List Row → List Row
with_born forked from rows = if forked then rows ++ new_row from ∷ [] else rows

-- ---- the pids whose calls wait, the lowest first

abbrev pub held_one : ℕ → Option HeldCall → List ℕ → List ℕ
held_one pid None pids = pids
held_one pid (Some call) pids = pid ∷ pids

-- where the first of the rows has this pid
abbrev pub held_from : ℕ → List Row → List ℕ
held_from pid [] = []
held_from pid (row ∷ rows) = held_one pid row.held (held_from (pid + 1) rows)

abbrev pub held_pids : List Row → List ℕ
held_pids rows = held_from 1 rows

-- how many of these pids, which rise, are below one
abbrev pub before : ℕ → List ℕ → ℕ
before pid [] = 0
before pid (other ∷ pids) = if nat_le pid other then 0 else before pid pids + 1

-- the rows as they are kept: how many more can be added without memory
pub record RowTable : Type 0 where
  pub list : List Row
  pub room : ℕ

-- ---- how homes are told apart

unfoldable pub coded_rows : Coded RowTable
coded_rows = code_by (List Row × ℕ) (coded× (coded_list row_row.the_row.coded) coded_ℕ)
    (λ t. (t.list, t.room)) (λ p. record { list = p.0; room = p.1 }) (λ _. refl)

unfoldable pub coded_home : Coded HomeState
coded_home = code_by (KernelState × List Row) (coded× coded_kernel (coded_list row_row.the_row.coded))
    (λ h. (h.kernel, h.rows)) (λ p. record { kernel = p.0; rows = p.1 }) (λ _. refl)
