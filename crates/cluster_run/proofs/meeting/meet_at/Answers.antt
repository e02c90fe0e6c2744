use Rattle.cluster_run.proofs.Meetings.{pair_of, met_sides, counted_sides}
use Rattle.cluster_run.proofs.meeting.meet_at.Goals as goal

pub meet-requires : goal.meet-requires
meet-requires g c = pair_of g.C.Carrier.puts g.C.Carrier.gives g.C.Carrier.pair c.args.one.now c.args.two.now c.args.a c.args.b c.args.here c.args.there c.requires.here c.requires.there c.in-Some.mine.now c.in-Some-get_mut.other.now c.in-Some.ensures.value c.in-Some-get_mut.ensures.value c.requires.linked

pub returns : goal.returns
returns g c = record {
  met = met_sides g.C.Carrier.puts g.C.Carrier.gives g.C.Carrier.pair c.args.one.now c.args.two.now c.args.a c.args.b c.args.here c.args.there c.requires.here c.requires.there c.in-Some.mine.now c.in-Some-get_mut.other.now c.in-Some.ensures.value c.in-Some-get_mut.ensures.value c.requires.linked
      c.in_ok-none.none c.meet.new.self c.meet.new.other _ _ _ _ _ _ c.in_ok-none.ensures.here c.in_ok-none.ensures.there c.in_ok-none.ensures.out c.in_ok-none.ensures.back c.in_ok-none.ensures.empty;
  counted = counted_sides g.C.Carrier.puts g.C.Carrier.gives g.C.Carrier.known c.args.one.now c.args.two.now c.args.a c.args.b c.args.here c.args.there c.requires.here c.requires.there c.in-Some.mine.now c.in-Some-get_mut.other.now c.in-Some.ensures.value c.in-Some-get_mut.ensures.value
      c.meet.new.self c.meet.new.other _ _ c.in_ok-none.ensures.out c.in_ok-none.ensures.back;
}
