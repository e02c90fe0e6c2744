-- Two lists of events merged by stamp and node, and a list of journals, one after another.
use Rattle.std.specs.Prelude.{◌≡◌, ℕ, zero, suc, ◌+◌, ◌<◌, ◌==◌, ◌&&◌, ◌||◌, nat_lt, cond, Bool, true, false, List, [], ◌∷◌, drop, length, Option, Some, None, MatchOption, slice_get, slice_set, slice_index}
use Rattle.node_event.specs.declared.event.Event.{Event}
use Rattle.node_event.specs.Journals.{JournalState}

abbrev pub is_earlier : Event → Event → Bool
is_earlier a b = nat_lt a.stamp b.stamp || ((a.stamp == b.stamp) && nat_lt a.node b.node)

-- whether a list begins with an event that goes before x
abbrev pub comes : Event → List Event → Bool
comes x [] = false
comes x (y ∷ ys) = is_earlier y x

-- those that go before x, then x, then what comes of the others
abbrev pub until : Event → (List Event → List Event) → List Event → List Event
until x rest [] = x ∷ rest []
until x rest (y ∷ ys) = cond (is_earlier y x) (y ∷ until x rest ys) (x ∷ rest (y ∷ ys))

abbrev pub merged : List Event → List Event → List Event
merged [] ys = ys
merged (x ∷ xs) ys = until x (λ zs. merged xs zs) ys

-- each journal merged into what is woven before it
abbrev pub woven_from : List Event → List JournalState → List Event
woven_from woven [] = woven
woven_from woven (journal ∷ journals) = woven_from (merged woven journal.events) journals

-- ---- all at once

-- the journals without the events that were read of each
abbrev pub remaining : List JournalState → List ℕ → List JournalState
remaining [] next = []
remaining (journal ∷ journals) [] = []
remaining (journal ∷ journals) (n ∷ next) = record { events = drop n journal.events; room = journal.room } ∷ remaining journals next

-- the next event of the k-th journal, if it has one
abbrev pub next_of : List JournalState → List ℕ → ℕ → Option Event
next_of [] next k = None
next_of (journal ∷ journals) [] k = None
next_of (journal ∷ journals) (n ∷ next) zero = slice_get journal.events n
next_of (journal ∷ journals) (n ∷ next) (suc k) = next_of journals next k

-- of the first so many journals, all are read
abbrev pub AllRead : List JournalState → List ℕ → ℕ → Type 0
AllRead journals next count = (i : ℕ) → i < count → next_of journals next i ≡ None

-- of the first so many journals, the next event of the k-th goes first, and k is the lowest where several are equal
pub record IsFirst (journals : List JournalState) (next : List ℕ) (count k : ℕ) : Type 0 where
  pub within : k < count
  pub event : Event
  pub is : next_of journals next k ≡ Some event
  pub before : (i : ℕ) (x : Event) → i < k → next_of journals next i ≡ Some x → is_earlier event x ≡ true
  pub behind : (i : ℕ) (x : Event) → k < i → i < count → next_of journals next i ≡ Some x → is_earlier x event ≡ false

abbrev pub IsFirstOf : List JournalState → List ℕ → ℕ → Option ℕ → Type 0
IsFirstOf journals next count found = MatchOption found (AllRead journals next count) (IsFirst journals next count)

-- the event that goes first was read, and the place in its journal is one higher
pub record ReadsFirst (journals : List JournalState) (old new : List ℕ) (event : Event) : Type 0 where
  pub k : ℕ
  pub first : IsFirst journals old (length journals) k
  pub is : next_of journals old k ≡ Some event
  pub places : new ≡ slice_set old k (slice_index old k + 1)

abbrev pub Reads : List JournalState → List ℕ → List ℕ → Option Event → Type 0
Reads journals old new read = MatchOption read (AllRead journals old (length journals)) (ReadsFirst journals old new)
