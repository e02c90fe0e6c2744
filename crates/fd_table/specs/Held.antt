-- Descriptions with the number of their descriptors, as the table keeps them.
use Rattle.std.specs.Prelude.{ℕ, ◌≡◌, ◌+◌, ◌-◌, ◌≤◌, ◌^◌, Bool, false, if◌then◌else◌, nat_eq, nat_lt, List, length, Option, Some, None, IsSome, map}
use Rattle.std.specs.Option.{option_map}
use Rattle.id_table.specs.Places.{at_id, changed, without}
use Rattle.fd_table.specs.declared.description.Look.{Look}
use Rattle.fd_table.specs.declared.description.Target.{Target}
use Rattle.fd_table.specs.declared.description.Description.{Description}
use Rattle.fd_table.specs.Descriptors.{Slots, Processes, FdTable, IsFdTable, holder_count, slot_count, with_offset, same_target}

abbrev pub HeldList : Type 0
HeldList = List (Option Description)

abbrev pub look_of : Description → Look
look_of description = description.look

abbrev pub looks : HeldList → List (Option Look)
looks list = map (option_map look_of) list

abbrev pub more_held : Description → Description
more_held description = record description { holders = description.holders + 1 }

abbrev pub less_held : Description → Description
less_held description = record description { holders = description.holders - 1 }

abbrev pub moved_to : ℕ → Description → Description
moved_to offset description = record description { look = with_offset offset description.look }

abbrev pub once_held : Look → Description
once_held look = record { look = look; holders = 1 }

abbrev pub holders_of : Option Description → ℕ
holders_of None = 0
holders_of (Some description) = description.holders

abbrev pub held_slot : HeldList → Option ℕ → HeldList
held_slot list None = list
held_slot list (Some id) = changed list id more_held

abbrev pub is_end_held : Target → Option Description → Bool
is_end_held target None = false
is_end_held target (Some description) = same_target description.look.target target

abbrev pub table_of : HeldList → Processes → FdTable
table_of list processes = record { descriptions = looks list; processes = processes }

-- the counts are right, and the table is one
pub record IsHeldTable (list : HeldList) (processes : Processes) : Type 0 where
  pub table : IsFdTable (table_of list processes)
  pub holders : (id : ℕ) (description : Description) → at_id list id ≡ Some description → description.holders ≡ holder_count id processes
  pub pids : length processes ≤ 2 ^ 32

-- each description is held by so many more descriptors
pub record IsHeldBy (old new : HeldList) (slots : Slots) : Type 0 where
  pub looks_stay : looks new ≡ looks old
  pub more : (id : ℕ) → holders_of (at_id new id) ≡ holders_of (at_id old id) + slot_count id slots

-- each descriptor's description is there
pub record AreThere (list : HeldList) (slots : Slots) : Type 0 where
  pub there : (fd id : ℕ) → at_id slots fd ≡ Some id → IsSome (at_id list id)

-- whether a description is dropped when one descriptor less has it; the terminal's stay
abbrev pub has_none_left : Option Description → Bool
has_none_left description = nat_eq (holders_of description - 1) 0

abbrev pub is_dropped_at : ℕ → Option Description → Bool
is_dropped_at id description = if nat_lt id 2 then false else has_none_left description

abbrev pub after_let_go : HeldList → ℕ → HeldList
after_let_go list id = if is_dropped_at id (at_id list id) then without list id else changed list id less_held

abbrev pub target_left : Option Description → Option Target
target_left None = None
target_left (Some description) = if nat_eq (description.holders - 1) 0 then Some description.look.target else None
