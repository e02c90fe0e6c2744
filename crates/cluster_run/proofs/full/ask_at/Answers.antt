use Rattle.std.proofs.Common.{get_or, refl}
use Rattle.cluster_run.proofs.Calming.{or_got}
use Rattle.cluster_run.proofs.full.ask_at.Goals as goal

pub returns : goal.returns
returns g c = record {
  s = get_or c.args.seats.now c.args.at c.index-seats-at.result;
  t = c.ask.new.self;
  is = or_got c.args.seats.now c.args.at c.index-seats-at.result c.requires.within;
  now = refl;
  side = c.in_ok-rest.ensures.side;
  asked = c.in_ok-rest.ensures.asked;
}
