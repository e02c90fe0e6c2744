use Rattle.std.proofs.Common.{get_or, arith, length, ◌<◌}
use Rattle.cluster_run.proofs.Calming.{or_got, met_two, counted_two}
use Rattle.cluster_run.proofs.seats.meet_two.Goals as goal

pub returns : goal.returns
returns g c = record {
  met = met_two g.C.Carrier.puts g.C.Carrier.gives g.C.Carrier.pair c.args.seats.now c.split_at_mut-front.result.0.now c.split_at_mut-front.result.1.now c.args.a c.args.b
      (get_or c.split_at_mut-front.result.0.now c.args.a c.index-front-a.result) (get_or c.split_at_mut-front.result.1.now 0 c.index-rear-0.result) c.meet_sides.new.one c.meet_sides.new.two c.in_ok-none.none c.requires.order c.requires.within c.split_at_mut-front.ensures.front c.split_at_mut-front.ensures.back
      (or_got c.split_at_mut-front.result.0.now c.args.a c.index-front-a.result (omega (arith, c.split_at_mut-front.ensures.front_len, c.requires.order)))
      (or_got c.split_at_mut-front.result.1.now 0 c.index-rear-0.result (omega (arith, c.split_at_mut-front.ensures.back_len, c.requires.within)))
      c.in_ok-none.ensures.met;
  counted = counted_two g.C.Carrier.puts g.C.Carrier.gives g.C.Carrier.known c.args.seats.now c.split_at_mut-front.result.0.now c.split_at_mut-front.result.1.now c.args.a c.args.b
      (get_or c.split_at_mut-front.result.0.now c.args.a c.index-front-a.result) (get_or c.split_at_mut-front.result.1.now 0 c.index-rear-0.result) c.meet_sides.new.one c.meet_sides.new.two c.requires.order c.requires.within c.split_at_mut-front.ensures.front c.split_at_mut-front.ensures.back
      (or_got c.split_at_mut-front.result.0.now c.args.a c.index-front-a.result (omega (arith, c.split_at_mut-front.ensures.front_len, c.requires.order)))
      (or_got c.split_at_mut-front.result.1.now 0 c.index-rear-0.result (omega (arith, c.split_at_mut-front.ensures.back_len, c.requires.within)))
      c.in_ok-none.ensures.counted;
}
