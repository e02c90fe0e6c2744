-- An event's stamp is above its node's clock, and above the stamp of the letter that it takes.
use Rattle.std.proofs.Common.{ℕ, ◌<◌, ◌≤◌, Option, Some, None, arith}
use Rattle.std.specs.Prelude.{IfSome}
use Rattle.protocol.specs.Ops.{Ops}
use Rattle.protocol.specs.Notes.{Post, Turn, Local}
use Rattle.protocol.specs.Does.{Makes, next_stamp}

module _ (O : Ops) where
  pub later_by : (clock s : ℕ) (o : Option (Post O)) → next_stamp O clock o ≤ s → (clock < s) × IfSome o (λ l. l.stamp < s)
  later_by clock s None e = (omega (arith, e), tt)
  later_by clock s (Some l) e = (omega (arith, e), omega (arith, e))

  pub rises : (n : ℕ) (old : Local O) (t : Turn O) (new : Local O) → Makes O n old t new → old.clock < t.event.stamp
  rises n old t new m = (later_by old.clock t.event.stamp t.taken m.stamp_is).0
