use Rattle.cluster_run.specs.Standing.{RowMet, RowCounted}
use Rattle.cluster_run.proofs.seats.meet_row.Given as goal

abbrev pub invariant-loop-b : goal.invariant-loop-b
invariant-loop-b g l = record {
  met : RowMet g.C.Carrier.puts g.C.Carrier.gives g.C.Carrier.pair l.none l.a l.b l.fn.seats l.seats;
  counted : RowCounted g.C.Carrier.puts g.C.Carrier.gives g.C.Carrier.known l.a l.b l.seats;
}
