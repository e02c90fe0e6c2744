use Rattle.rtrb.specs.Ring.{known_items}
use Rattle.node_links.proofs.LinkLemmas.{known_less}
use Rattle.node_links.proofs.ends.In.take.Goals as goal

pub returns-in-Ok-clause-known : goal.returns-in-Ok-clause-known
returns-in-Ok-clause-known c = known_less (known_items c.args.self.now.ring) (known_items c.pop.new.self) c.in-Ok.letter c.in-Ok.ensures.ok.1
