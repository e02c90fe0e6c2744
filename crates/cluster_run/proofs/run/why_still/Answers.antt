use Rattle.std.proofs.Common.{get_or, arith}
use Rattle.cluster_run.proofs.Calming.{or_got}
use Rattle.cluster_run.proofs.run.why_still.Goals as goal

pub returns : goal.returns
returns g c = record {
  home = get_or c.args.seats.now 0 c.index-seats-0.result;
  is = or_got c.args.seats.now 0 c.index-seats-0.result (omega (arith, c.requires));
  why_is = c.why_of.ensures;
}
