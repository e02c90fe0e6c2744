use Rattle.std.proofs.Common.{◌≡◌, ◌<◌, ℕ, Some, false, get_or, sym, subst, arith, slice_get, ◌∙◌}
use Rattle.node_core.specs.declared.node.Node.{Node}
use Rattle.node_core.specs.Letters.{any_to}
use Rattle.cluster_run.specs.declared.seat.Seat.{Seat}
use Rattle.cluster_run.specs.Seats.{waiting}
use Rattle.cluster_run.proofs.Calming.{got}
use Rattle.cluster_run.proofs.Awaited.{none_more_waits}
use Rattle.cluster_run.proofs.full.one_waits.Goals as goal

pub returns-then-has_out-clause-one : goal.returns-then-has_out-clause-one
returns-then-has_out-clause-one g c = λ e. record {
  from = c.loop-at.at;
  seat = c.index-seats-at.result;
  below = omega (arith, c.loop-at-test.true);
  is = got c.args.seats.now c.loop-at.at c.index-seats-at.result (omega (arith, c.loop-at-test.true, c.requires)) c.index-seats-at.is;
  one = sym c.has_out.ensures ∙ c.if-has_out.true;
}

pub loop-at-preserved : goal.loop-at-preserved
loop-at-preserved g c = none_more_waits c.args.node c.loop-at.at c.args.seats.now c.index-seats-at.result (got c.args.seats.now c.loop-at.at c.index-seats-at.result (omega (arith, c.loop-at-test.true, c.requires)) c.index-seats-at.is) (sym c.has_out.ensures ∙ c.if-has_out.false) c.loop-at.invariant
