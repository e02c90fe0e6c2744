use Rattle.std.proofs.Common.{Bool, ◌+◌, sym, subst}
use Rattle.cluster_run.specs.Standing.{AllMet}
use Rattle.cluster_run.proofs.Calming.{linked_calm, all_none, all_next}
use Rattle.cluster_run.proofs.seats.meet_all.Goals as goal

pub meet_row-requires-clause-linked : goal.meet_row-requires-clause-linked
meet_row-requires-clause-linked g c = linked_calm g.C.Carrier.puts g.C.Carrier.gives g.C.Carrier.pair c.args.seats.now c.loop-a.seats c.loop-a.invariant.calm c.requires.linked

pub loop-a-init : goal.loop-a-init
loop-a-init g c = all_none g.C.Carrier.puts g.C.Carrier.gives g.C.Carrier.pair c.args.seats.now c.args.nodes

pub loop-a-preserved : goal.loop-a-preserved
loop-a-preserved g c = subst (λ (k : Bool). AllMet g.C.Carrier.puts g.C.Carrier.gives g.C.Carrier.pair k (c.loop-a.a + 1) c.args.nodes c.args.seats.now c.meet_row.new.seats) (sym c.and-none.ensures)
    (all_next g.C.Carrier.puts g.C.Carrier.gives g.C.Carrier.pair c.loop-a.none c.in_ok-here.here c.loop-a.a c.args.nodes c.args.seats.now c.loop-a.seats c.meet_row.new.seats c.loop-a.invariant c.in_ok-here.ensures.met)
