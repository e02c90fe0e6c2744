-- Policies: what a stored chooser answers, in the words of the laws.
use Rattle.std.specs.Prelude.{◌≡◌, ◌≢◌, ◌⊎◌, ℕ, Option, Some, None, List, map}
use Rattle.std.specs.Option.{option_map}
use Rattle.call_table.specs.declared.process.Entry as entry_row
use Rattle.mem_usher.specs.declared.sight.Sight as sight_row
use Rattle.mem_usher.specs.declared.sight.Choice as choice_row
use Rattle.policy_box.specs.Policies.{IsInRange}
use Rattle.protocol.specs.Gossip.{Entry, Movable, Sight, Choice, IsKnown, IsMovable}
use Rattle.node_machine.specs.Machine.{Policy}

abbrev pub told_entry : Entry → entry_row.Entry
told_entry e = record { node = e.node; load = e.load; free = e.free; stamp = e.stamp }

abbrev pub told_movable : Movable → ℕ × ℕ
told_movable m = (m.pid, m.pages)

-- a sight as a chooser is handed it
abbrev pub told_sight : Sight → sight_row.Sight
told_sight s = record { node = s.node; cap = s.cap; free = s.free; load = s.load; known = map told_entry s.known; movable = map told_movable s.movable }

abbrev pub told_choice : Choice → choice_row.Choice
told_choice c = record { pid = c.pid; to = c.to }

-- what a chooser with these answers gives: on a sight in range one of its answers, on any other nothing
abbrev pub given_by : (sight_row.Sight → Option choice_row.Choice → Type 0) → Policy
given_by answers sight choice =
    (IsInRange (told_sight sight) × answers (told_sight sight) (option_map told_choice choice)) ⊎ ((IsInRange (told_sight sight) → ⊥) × (choice ≡ None))

-- the policy that moves nothing
abbrev pub never : Policy
never sight choice = choice ≡ None

-- each choice is of a process that may move, and of another node that is known
pub record IsFitting (policy : Policy) : Type 0 where
  pub movable : (s : Sight) (c : Choice) → policy s (Some c) → IsMovable c.pid s.movable
  pub known : (s : Sight) (c : Choice) → policy s (Some c) → IsKnown c.to s.known
  pub other : (s : Sight) (c : Choice) → policy s (Some c) → c.to ≢ s.node

-- it has an answer on each sight
abbrev pub Answers : Policy → Type 0
Answers policy = (s : Sight) → (c : Option Choice) × policy s c

-- a chooser with these answers has one on each sight in range
abbrev pub HasAnswers : (sight_row.Sight → Option choice_row.Choice → Type 0) → Type 0
HasAnswers answers = (s : sight_row.Sight) → IsInRange s → (c : Option choice_row.Choice) × answers s c
