use Rattle.std.proofs.Common.{◌≡◌, drop}
use Rattle.load_gossip.specs.Vectors.{newer, newest_of}
use Rattle.load_gossip.proofs.vector.newest_in.Given as goal

abbrev pub invariant-loop-place : goal.invariant-loop-place
invariant-loop-place l = newer l.newest (newest_of l.node (drop l.place-index l.places)) ≡ newest_of l.node l.places
