-- A journal.
use Rattle.std.specs.Prelude.{ℕ, List}
use Rattle.node_event.specs.declared.event.Event.{Event}

-- the events of a journal, the oldest first, and how many it can hold
pub record JournalState : Type 0 where
  pub events : List Event
  pub room : ℕ
