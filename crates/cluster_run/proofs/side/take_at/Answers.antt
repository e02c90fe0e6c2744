use Rattle.std.proofs.Common.{refl}
use Rattle.cluster_run.proofs.Places.{take_done, take_tells, some_first, none_first, none_last}
use Rattle.cluster_run.proofs.side.take_at.Goals as goal

pub returns-in_ok-ready-in-Some : goal.returns-in_ok-ready-in-Some
returns-in_ok-ready-in-Some g c = record {
  looked = take_done g.C.Carrier.puts g.C.Carrier.gives g.C.Carrier.pair c.args.side.now c.args.source c.args.at c.requires c.in-Some.towards.now c.in-Some.ensures.value c.ready.new.self c.take.new.self c.take.result
      c.in_ok-ready-in-Some.ensures.pair c.in_ok-ready-in-Some.ensures.lists c.take.ensures.pair c.take.ensures.puts (some_first c.take.result _ _ c.take.ensures.some) (none_first c.take.result _ _ _ c.take.ensures.none);
  tells = take_tells c.args.side.now c.args.source c.args.at c.requires c.in-Some.towards.now c.in-Some.ensures.value g.C.Carrier.known c.ready.new.self c.take.new.self c.take.result c.in_ok-ready-in-Some.ensures.known (none_last c.take.result _ _ _ c.take.ensures.none);
}
