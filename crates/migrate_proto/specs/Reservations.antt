-- The reservations of a node, as a map of pid to pages.
use Rattle.std.specs.Prelude.{ℕ, ◌≡◌, ◌≤◌, nat_lt, List, [], ◌∷◌, length, None, if◌then◌else◌}
use Rattle.std.specs.List.{sum_by}
use Rattle.std.specs.Ordering.{nat_cmp}
use Rattle.std.specs.FinMap as map
use Rattle.call_table.specs.declared.limit.TheConstants.{PROCESSES}
use Rattle.migrate_proto.specs.declared.reserve.Decision.{Decision}
use Rattle.migrate_proto.specs.declared.reserve.Decision.TheVariants.{Allow, Deny}

-- the pages of all reservations
abbrev pub reserved_pages : map.FinMap nat_cmp ℕ → ℕ
reserved_pages reserve = sum_by (λ e. e.1) (map.entries reserve)

-- a process that needs more pages than are free is denied, and no other
abbrev pub decision : ℕ → ℕ → Decision
decision need free = (if nat_lt free need then Deny need free else Allow)

-- no pid stands twice
abbrev pub Apart : List (ℕ × ℕ) → Type 0
Apart [] = Unit {0}
Apart (e ∷ es) = (map.find nat_cmp e.0 es ≡ None) × Apart es

-- how the map is stored: a list of pid and pages, with its room and the sum of its pages
pub record IsKept (entries : List (ℕ × ℕ)) (capacity total : ℕ) : Type 0 where
  pub apart : Apart entries
  pub few : length entries ≤ PROCESSES
  pub room : PROCESSES ≤ capacity
  pub pages : total ≡ sum_by (λ e. e.1) entries
