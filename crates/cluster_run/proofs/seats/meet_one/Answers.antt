use Rattle.std.proofs.Common.{get_or}
use Rattle.cluster_run.proofs.Calming.{or_got, met_one, counted_one}
use Rattle.cluster_run.proofs.seats.meet_one.Goals as goal

pub returns : goal.returns
returns g c = record {
  met = met_one g.C.Carrier.puts g.C.Carrier.gives g.C.Carrier.pair c.args.seats.now c.args.a (get_or c.args.seats.now c.args.a c.index-seats-a.result) c.meet_self.new.side c.in_ok-none.none (or_got c.args.seats.now c.args.a c.index-seats-a.result c.requires.within) c.in_ok-none.ensures.met;
  counted = counted_one g.C.Carrier.puts g.C.Carrier.gives g.C.Carrier.known c.args.seats.now c.args.a (get_or c.args.seats.now c.args.a c.index-seats-a.result) c.meet_self.new.side (or_got c.args.seats.now c.args.a c.index-seats-a.result c.requires.within) c.in_ok-none.ensures.counted;
}
