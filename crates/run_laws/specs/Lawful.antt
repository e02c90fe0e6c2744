-- A run is lawful: each law holds at every event, after those before it.
use Rattle.std.specs.Prelude.{List}
use Rattle.protocol.specs.Ops.{Ops}
use Rattle.protocol.specs.Deeds.{Noted}
use Rattle.run_laws.specs.ScriptLaw.{ScriptLaw}
use Rattle.run_laws.specs.PlaceLaw.{PlaceLaw}
use Rattle.run_laws.specs.NewsLaw.{NewsLaw}
use Rattle.run_laws.specs.FreezeLaw.{FreezeLaw}
use Rattle.run_laws.specs.OnceLaw.{OnceLaw}
use Rattle.run_laws.specs.SignalLaw.{SignalLaw}
use Rattle.run_laws.specs.PokeLaw.{PokeLaw}
use Rattle.run_laws.specs.HeedLaw.{HeedLaw}
use Rattle.run_laws.specs.GossipLaw.{GossipLaw}
use Rattle.run_laws.specs.ChoiceLaw.{ChoiceLaw}

pub record Lawful (O : Ops) (es : List Noted) : Type 0 where
  pub script : ScriptLaw O es
  pub place : PlaceLaw es
  pub news : NewsLaw O es
  pub freeze : FreezeLaw es
  pub once : OnceLaw O es
  pub signal : SignalLaw O es
  pub poke : PokeLaw O es
  pub heed : HeedLaw es
  pub gossip : GossipLaw O es
  pub choice : ChoiceLaw O es
