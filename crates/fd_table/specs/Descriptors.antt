-- Descriptors of processes and the descriptions that they share.
use Rattle.std.specs.Prelude.{ℕ, ◌≡◌, ◌≤◌, Bool, true, false, if◌then◌else◌, nat_eq, nat_lt, List, [], ◌∷◌, length, drop, Option, Some, None, is_some, is_none, IsSome, count_by, slice_set}
use Rattle.std.specs.List.{sum_by}
use Rattle.call_table.specs.declared.limit.TheConstants.{DESCRIPTORS, DESCRIPTIONS}
use Rattle.id_table.specs.Places.{at_id, lowest_free, filled, without, changed, put_under}
use Rattle.fd_table.specs.declared.description.Look.{Look}
use Rattle.fd_table.specs.declared.description.Target.{Target}
use Rattle.fd_table.specs.declared.description.Target.TheVariants.{TermIn, TermOut, File, ReadEnd, WriteEnd}

-- a process's 16 descriptors, each the number of its description or none
abbrev pub Slots : Type 0
Slots = List (Option ℕ)

abbrev pub Processes : Type 0
Processes = List (Option Slots)

abbrev pub Descriptions : Type 0
Descriptions = List (Option Look)

-- the descriptions under their numbers, and the descriptors of each pid.
-- Under 0 stands the terminal's input and under 1 its output. They are not counted.
pub record FdTable : Type 0 where
  pub descriptions : Descriptions
  pub processes : Processes

abbrev pub terminal_in : Look
terminal_in = record { target = TermIn; rights = 1; offset = 0 }

abbrev pub terminal_out : Look
terminal_out = record { target = TermOut; rights = 2; offset = 0 }

abbrev pub no_processes : FdTable
no_processes = record { descriptions = Some terminal_in ∷ Some terminal_out ∷ []; processes = [] }

-- ---- look-up

abbrev pub slots_of : Option Slots → Slots
slots_of None = []
slots_of (Some slots) = slots

abbrev pub slots_at : Processes → ℕ → Slots
slots_at processes pid = slots_of (at_id processes pid)

-- the number of the description of a descriptor
abbrev pub description_of : FdTable → ℕ → ℕ → Option ℕ
description_of table pid fd = at_id (slots_at table.processes pid) fd

abbrev pub look_up : Descriptions → Option ℕ → Option Look
look_up descriptions None = None
look_up descriptions (Some id) = at_id descriptions id

abbrev pub look_at : FdTable → ℕ → ℕ → Option Look
look_at table pid fd = look_up table.descriptions (description_of table pid fd)

-- ---- counts

abbrev pub free_count : Slots → ℕ
free_count slots = count_by is_none slots

-- how many descriptions are counted
abbrev pub counted : Descriptions → ℕ
counted descriptions = count_by is_some (drop 2 descriptions)

abbrev pub same_target : Target → Target → Bool
same_target TermIn TermIn = true
same_target TermOut TermOut = true
same_target (File a) (File b) = nat_eq a b
same_target (ReadEnd a) (ReadEnd b) = nat_eq a b
same_target (WriteEnd a) (WriteEnd b) = nat_eq a b
same_target _ _ = false

abbrev pub is_end_of : Target → Option Look → Bool
is_end_of target None = false
is_end_of target (Some look) = same_target look.target target

-- how many descriptions have a target
abbrev pub end_count : Target → Descriptions → ℕ
end_count target descriptions = count_by (is_end_of target) descriptions

abbrev pub is_for : ℕ → Option ℕ → Bool
is_for id None = false
is_for id (Some other) = nat_eq other id

abbrev pub slot_count : ℕ → Slots → ℕ
slot_count id slots = count_by (is_for id) slots

-- how many descriptors of all processes have a description
abbrev pub holder_count : ℕ → Processes → ℕ
holder_count id processes = sum_by (λ place. slot_count id (slots_of place)) processes

-- ---- edits

abbrev pub with_slot : Processes → ℕ → ℕ → Option ℕ → Processes
with_slot processes pid fd slot = slice_set processes pid (Some (slice_set (slots_at processes pid) fd slot))

-- the descriptors of a process that is launched
abbrev pub first_slots : Slots
first_slots = Some 0 ∷ Some 1 ∷ Some 1 ∷ None ∷ None ∷ None ∷ None ∷ None ∷ None ∷ None ∷ None ∷ None ∷ None ∷ None ∷ None ∷ None ∷ []

abbrev pub launched : FdTable → ℕ → FdTable
launched table pid = record table { processes = put_under table.processes pid first_slots }

abbrev pub forked : FdTable → ℕ → ℕ → FdTable
forked table parent child = record table { processes = put_under table.processes child (slots_at table.processes parent) }

abbrev pub lowest_fd : FdTable → ℕ → ℕ
lowest_fd table pid = lowest_free (slots_at table.processes pid)

abbrev pub added : FdTable → ℕ → Target → ℕ → FdTable
added table pid target rights = record {
  descriptions = filled table.descriptions (record { target = target; rights = rights; offset = 0 });
  processes = with_slot table.processes pid (lowest_fd table pid) (Some (lowest_free table.descriptions));
}

abbrev pub with_offset : ℕ → Look → Look
with_offset offset look = record look { offset = offset }

abbrev pub seek_in : Descriptions → Option ℕ → ℕ → Descriptions
seek_in descriptions None offset = descriptions
seek_in descriptions (Some id) offset = changed descriptions id (with_offset offset)

abbrev pub sought : FdTable → ℕ → ℕ → ℕ → FdTable
sought table pid fd offset = record table { descriptions = seek_in table.descriptions (description_of table pid fd) offset }

abbrev pub duplicated : FdTable → ℕ → ℕ → FdTable
duplicated table pid fd = record table { processes = with_slot table.processes pid (lowest_fd table pid) (description_of table pid fd) }

-- whether a description has no descriptor
abbrev pub is_unheld : ℕ → Processes → Bool
is_unheld id processes = nat_eq (holder_count id processes) 0

-- the terminal's descriptions stay
abbrev pub is_dropped : ℕ → Processes → Bool
is_dropped id processes = if nat_lt id 2 then false else is_unheld id processes

abbrev pub drop_in : Descriptions → Option ℕ → Processes → Descriptions
drop_in descriptions None processes = descriptions
drop_in descriptions (Some id) processes = if is_dropped id processes then without descriptions id else descriptions

abbrev pub closed : FdTable → ℕ → ℕ → FdTable
closed table pid fd = let processes = with_slot table.processes pid fd None in record {
  descriptions = drop_in table.descriptions (description_of table pid fd) processes;
  processes = processes;
}

abbrev pub target_of : Option Look → Option Target
target_of None = None
target_of (Some look) = Some look.target

abbrev pub unless_held : Option Look → Option ℕ → Processes → Option Target
unless_held look None processes = None
unless_held look (Some id) processes = if is_unheld id processes then target_of look else None

-- the target whose last descriptor goes
abbrev pub last_target : FdTable → ℕ → ℕ → Option Target
last_target table pid fd = unless_held (look_at table pid fd) (description_of table pid fd) (with_slot table.processes pid fd None)

-- ---- what holds of every table

-- each process has 16 descriptors, each of them a description that is there; each counted description has a descriptor;
-- the terminal's descriptions are there; at most 256 are counted
pub record IsFdTable (table : FdTable) : Type 0 where
  pub whole : (pid : ℕ) (slots : Slots) → at_id table.processes pid ≡ Some slots → length slots ≡ DESCRIPTORS
  pub there : (pid fd id : ℕ) → description_of table pid fd ≡ Some id → IsSome (at_id table.descriptions id)
  pub used : (id : ℕ) → 2 ≤ id → IsSome (at_id table.descriptions id) → 1 ≤ holder_count id table.processes
  pub terminals : (2 ≤ length table.descriptions) × IsSome (at_id table.descriptions 0) × IsSome (at_id table.descriptions 1)
  pub few : counted table.descriptions ≤ DESCRIPTIONS
