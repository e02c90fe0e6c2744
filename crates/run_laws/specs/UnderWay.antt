-- A move under way: one that is kept, or one that began and whose end home was not told.
use Rattle.std.specs.Prelude.{◌≡◌, ℕ, ◌+◌, ◌<◌, ◌==◌, ◌⊎◌, cond, Option, Some, None, List, [], ◌∷◌}
use Rattle.protocol.specs.Deeds.{KeptTold, Deed, Got, Begin, Depart, Stay, Land, Told, Noted, pid_of}
use Rattle.run_laws.specs.Facts.{facts}

-- how often a process began to move, stayed, left, landed, and was told of
pub record Moves : Type 0 where
  pub begins : ℕ
  pub stays : ℕ
  pub tolds : ℕ
  pub departs : ℕ
  pub lands : ℕ

abbrev pub no_moves : Moves
no_moves = record { begins = 0; stays = 0; tolds = 0; departs = 0; lands = 0 }

abbrev pub begun_by : Option KeptTold → ℕ → ℕ
begun_by None k = k
begun_by (Some x) k = cond x.ends k (k + 1)

abbrev pub moves_own : Deed → Moves → Moves
moves_own (Got p child ended kept) m = record m { begins = begun_by kept m.begins }
moves_own (Begin p to reason) m = record m { begins = m.begins + 1 }
moves_own (Depart p to) m = record m { departs = m.departs + 1 }
moves_own (Stay p to need free) m = record m { stays = m.stays + 1 }
moves_own (Land p source) m = record m { lands = m.lands + 1 }
moves_own (Told p at source hops line poked) m = record m { tolds = m.tolds + 1 }
moves_own _ m = m

abbrev pub moves : ℕ → List Noted → Moves
moves p [] = no_moves
moves p (e ∷ before) = cond (p == pid_of e.what) (moves_own e.what (moves p before)) (moves p before)

abbrev pub UnderWay : ℕ → List Noted → Type 0
UnderWay p es = ((to : ℕ) × ((facts p es).kept ≡ Some to)) ⊎ ((moves p es).stays + (moves p es).tolds < (moves p es).begins)
