-- Events of journals, and lists of them in order.
use Rattle.std.specs.Prelude.{◌≡◌, ℕ, zero, suc, ◌<◌, ◌≤◌, ◌⊎◌, nat_eq, List, [], ◌∷◌, ◌++◌, filter}
use Rattle.node_event.specs.declared.event.Event.{Event}
use Rattle.node_event.specs.Journals.{JournalState}

-- P of each, and R of each and every one that follows it
abbrev pub Each : (Event → Type 0) → List Event → Type 0
Each P [] = Unit {0}
Each P (e ∷ events) = P e × Each P events

abbrev pub InOrder : (Event → Event → Type 0) → List Event → Type 0
InOrder R [] = Unit {0}
InOrder R (e ∷ events) = Each (R e) events × InOrder R events

-- by stamp, and by node where the stamps are equal
abbrev pub Precedes : Event → Event → Type 0
Precedes a b = (a.stamp < b.stamp) ⊎ ((a.stamp ≡ b.stamp) × (a.node < b.node))

-- the same, or equal in both
abbrev pub MayPrecede : Event → Event → Type 0
MayPrecede a b = (a.stamp < b.stamp) ⊎ ((a.stamp ≡ b.stamp) × (a.node ≤ b.node))

abbrev pub IsRising : List Event → Type 0
IsRising events = InOrder Precedes events

abbrev pub IsSorted : List Event → Type 0
IsSorted events = InOrder MayPrecede events

abbrev pub AreSorted : List JournalState → Type 0
AreSorted [] = Unit {0}
AreSorted (journal ∷ journals) = IsSorted journal.events × AreSorted journals

-- the journals of the nodes from n on: the events of each are its node's, and their stamps rise
abbrev pub AreJournals : ℕ → List JournalState → Type 0
AreJournals n [] = Unit {0}
AreJournals n (journal ∷ journals) = Each (λ e. e.node ≡ n) journal.events × IsRising journal.events × AreJournals (suc n) journals

abbrev pub all_events : List JournalState → List Event
all_events [] = []
all_events (journal ∷ journals) = journal.events ++ all_events journals

-- the events of a node
abbrev pub own_events : ℕ → List Event → List Event
own_events n events = filter (λ e. nat_eq e.node n) events

-- the events of the n-th journal
abbrev pub events_at : ℕ → List JournalState → List Event
events_at n [] = []
events_at zero (journal ∷ journals) = journal.events
events_at (suc n) (journal ∷ journals) = events_at n journals
