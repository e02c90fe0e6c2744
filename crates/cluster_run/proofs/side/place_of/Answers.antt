use Rattle.std.proofs.Common.{sym, arith, ◌<◌, length}
use Rattle.cluster_run.proofs.Places.{none_at, got_below}
use Rattle.cluster_run.proofs.side.place_of.Goals as goal

pub returns-in-loop-at : goal.returns-in-loop-at
returns-in-loop-at g c = record { here = c.in-Some.towards.now; is = sym c.in-Some.ensures; node_is = omega (arith, c.if-towards-node.true); before = c.loop-at.invariant }

pub returns : goal.returns
returns g c = none_at c.args.side.now c.args.node (λ i u e. let less : i < length c.args.side.now = got_below c.args.side.now i u e in c.loop-at.invariant i u (omega (arith, less, c.loop-at-test.false, c.loop-at.auto.at-end, c.len-at-end.ensures)) e)
