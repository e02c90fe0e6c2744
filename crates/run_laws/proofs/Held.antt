-- A call of a process is held at home exactly where the events tell so.
use Rattle.std.proofs.Common.{◌≡◌, not, refl}
use Rattle.protocol.specs.Ops.{Ops, Sound}
use Rattle.protocol.specs.Spots.{Spot, Nowhere, Runs, Calls, Holds, Pauses, Answered, Asks, Granted, Denied, Travels, InReply, Ended, call_at}
use Rattle.protocol.specs.Home.{unheld}
use Rattle.run_laws.specs.Facts.{is_held}
use Rattle.run_laws.proofs.Facts.{facts_of}

module _ (O : Ops) (S : Sound O) where
  pub held_same : (s : Spot O) → unheld O (call_at O s) ≡ not (is_held (facts_of O S s))
  held_same Nowhere = refl
  held_same (Runs m b) = refl
  held_same (Calls m b k r) = refl
  held_same (Holds m b k r) = refl
  held_same (Pauses m b k r) = refl
  held_same (Answered m b k d x y) = refl
  held_same (Asks m b to l need) = refl
  held_same (Granted m b to l need) = refl
  held_same (Denied m b to l need free) = refl
  held_same (Travels a c b l need) = refl
  held_same (InReply q u) = refl
  held_same (Ended u) = refl
