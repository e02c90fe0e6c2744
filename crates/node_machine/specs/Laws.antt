-- The laws of a run, said of a machine.
use Rattle.std.specs.Prelude.{◌≡◌, ◌<◌, ℕ, List, ◌∷◌, length}
use Rattle.node_event.specs.declared.event.Event.{Event}
use Rattle.protocol.specs.Ops.{Ops}
use Rattle.protocol.specs.Deeds.{Noted, all_noted}
use Rattle.protocol.specs.Notes.{Post, Turn}
use Rattle.protocol.specs.Cluster.{World, Reached, events}
use Rattle.protocol.specs.Odd.{IsOdd, Timed, hops_end}
use Rattle.protocol.specs.Rests.{Awaits}
use Rattle.run_laws.specs.Whole.{Holds}
use Rattle.run_laws.specs.Carried.{Did, Sorted, own_events, shown, CarriedRun, NoneStrange}
use Rattle.run_laws.specs.Due.{Same, Untaken}
use Rattle.run_laws.specs.Ending.{Ending}
use Rattle.run_laws.specs.OneNode.{AllHome}
use Rattle.run_laws.specs.Skipping.{Act, DidAll, journal, NoneSkipped}

module _ (O : Ops) where
  -- the events of a journal or of journals put in order, the newest first, as the laws read them
  abbrev pub as_read : List Event → List Noted
  as_read es = all_noted O.script es

  -- the nodes' journals, put in order by stamp and node, have these events
  abbrev pub AreMerged : List Event → (ℕ → List (Turn O)) → Type 0
  AreMerged es turns = Sorted (as_read es) × ((n : ℕ) → own_events n (as_read es) ≡ shown O (turns n))

  -- whatever the cluster does, turn after turn, all laws hold of its events, its letters are carried, and no letter is strange
  abbrev pub RunsHold : Type 0
  RunsHold = (h : List (Turn O)) (w : World O) (es : List Event) → Reached O h w → as_read es ≡ events O h → Holds O (as_read es) w × CarriedRun O (as_read es) w × NoneStrange O h

  -- so they do where each node did its turns by itself, and their journals are put in order
  abbrev pub JournalsHold : Type 0
  JournalsHold = (turns : ℕ → List (Turn O)) (w : World O) (es : List Event) → Did O turns w → AreMerged es turns → Holds O (as_read es) w × CarriedRun O (as_read es) w × ((n : ℕ) → NoneStrange O (turns n))

  -- where each stamp is exactly one more than its node's clock and its letter's stamp, no letter that comes in fewer than 2^32 - 1 turns is odd
  abbrev pub NoneOdd : Type 0
  NoneOdd = (h : List (Turn O)) (w : World O) (run : Reached O h w) (a n : ℕ) (l : Post O) (rest : List (Post O)) → Timed O h w run → length h < hops_end → n < O.nodes → w.links a n ≡ l ∷ rest → IsOdd O n (w.nodes n) l → ⊥

  -- nor does any node skip one where only its own order is known, and the journals have fewer events
  abbrev pub NoneSkips : Type 0
  NoneSkips = (acts : ℕ → List (Act O)) (w : World O) (es : List Event) → DidAll O acts w → Sorted (as_read es) → ((n : ℕ) → own_events n (as_read es) ≡ journal O (acts n)) → length (as_read es) < hops_end → (n : ℕ) → NoneSkipped O (acts n)

  -- a letter lies on a link to a node exactly where one was posted to it and not taken
  abbrev pub LettersLie : Type 0
  LettersLie = (h : List (Turn O)) (w : World O) → Reached O h w → (n : ℕ) → Same (Awaits O n w) (Untaken O n h)

  -- how a run ends, and what is due at each moment before
  abbrev pub RunsEnd : Type 0
  RunsEnd = (h : List (Turn O)) (w : World O) (es : List Event) → Reached O h w → as_read es ≡ events O h → Ending O (as_read es) w

  abbrev pub JournalsEnd : Type 0
  JournalsEnd = (turns : ℕ → List (Turn O)) (w : World O) (es : List Event) → Did O turns w → AreMerged es turns → Ending O (as_read es) w

  -- a run of one node stays at home
  abbrev pub StaysHome : Type 0
  StaysHome = O.nodes ≡ 1 → (h : List (Turn O)) (w : World O) → Reached O h w → AllHome (events O h)
