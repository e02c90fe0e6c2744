use Rattle.load_gossip.proofs.Honesty.{honest_made}
use Rattle.load_gossip.proofs.law.honest_vectors.Goals as goal

pub returns : goal.returns
returns c = honest_made
