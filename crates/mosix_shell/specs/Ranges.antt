-- The values that words can give.
use Rattle.std.specs.Prelude.{◌≤◌}
use Rattle.call_table.specs.declared.limit.TheConstants.{NODES, NODE_PAGES, JOURNAL}
use Rattle.mosix_words.specs.declared.settings.Settings.{Settings}

-- each number is in its range
pub record IsInRange (settings : Settings) : Type 0 where
  pub least_nodes : 1 ≤ settings.nodes
  pub most_nodes : settings.nodes ≤ NODES
  pub most_pages : settings.pages ≤ NODE_PAGES
  pub least_quantum : 1 ≤ settings.quantum
  pub most_journal : settings.journal ≤ JOURNAL
