use Rattle.cluster_run.proofs.Meetings.{own_pair, met_own, counted_own}
use Rattle.cluster_run.proofs.meeting.meet_own_at.Goals as goal

pub meet_own-requires : goal.meet_own-requires
meet_own-requires g c = own_pair g.C.Carrier.puts g.C.Carrier.gives g.C.Carrier.pair c.args.side.now c.args.a c.args.at c.requires.at c.in-Some.mine.now c.in-Some.ensures.value c.requires.linked

pub returns : goal.returns
returns g c = record {
  met = met_own g.C.Carrier.puts g.C.Carrier.gives g.C.Carrier.pair c.args.side.now c.args.a c.args.at c.requires.at c.in-Some.mine.now c.in-Some.ensures.value c.requires.linked c.in_ok-none.none c.meet_own.new.self _ _ _ c.in_ok-none.ensures.same c.in_ok-none.ensures.own c.in_ok-none.ensures.empty;
  counted = counted_own g.C.Carrier.puts g.C.Carrier.gives g.C.Carrier.known c.args.side.now c.args.a c.args.at c.requires.at c.in-Some.mine.now c.in-Some.ensures.value c.meet_own.new.self _ c.in_ok-none.ensures.own;
}
