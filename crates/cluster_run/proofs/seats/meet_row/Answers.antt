use Rattle.std.proofs.Common.{Bool, ◌+◌, sym, subst}
use Rattle.cluster_run.specs.Standing.{RowMet}
use Rattle.cluster_run.proofs.Calming.{linked_calm, row_none, row_next, row_counted_none, row_counted_next}
use Rattle.cluster_run.proofs.seats.meet_row.Goals as goal

pub meet_any-requires-clause-linked : goal.meet_any-requires-clause-linked
meet_any-requires-clause-linked g c = linked_calm g.C.Carrier.puts g.C.Carrier.gives g.C.Carrier.pair c.args.seats.now c.loop-b.seats c.loop-b.invariant.met.calm c.requires.linked

pub loop-b-init : goal.loop-b-init
loop-b-init g c = record {
  met = row_none g.C.Carrier.puts g.C.Carrier.gives g.C.Carrier.pair c.args.seats.now c.args.a;
  counted = row_counted_none g.C.Carrier.puts g.C.Carrier.gives g.C.Carrier.known c.args.a c.args.seats.now;
}

pub loop-b-preserved : goal.loop-b-preserved
loop-b-preserved g c = record {
  met = subst (λ (k : Bool). RowMet g.C.Carrier.puts g.C.Carrier.gives g.C.Carrier.pair k c.args.a (c.loop-b.b + 1) c.args.seats.now c.meet_any.new.seats) (sym c.and-none.ensures)
      (row_next g.C.Carrier.puts g.C.Carrier.gives g.C.Carrier.pair c.loop-b.none c.in_ok-here.here c.args.a c.loop-b.b c.args.seats.now c.loop-b.seats c.meet_any.new.seats c.loop-b.invariant.met c.in_ok-here.ensures.met);
  counted = row_counted_next g.C.Carrier.puts g.C.Carrier.gives g.C.Carrier.known g.C.Carrier.pair c.args.a c.loop-b.b c.loop-b.seats c.meet_any.new.seats c.loop-b.invariant.counted c.in_ok-here.ensures.met.calm c.in_ok-here.ensures.counted;
}
