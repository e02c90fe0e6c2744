use Rattle.std.proofs.Common.{◌≤◌, ◌-◌, length}
use Rattle.mosix_shell.specs.Reading.{IsReadOn}
use Rattle.mosix_shell.proofs.reading.read_to.Given as goal

-- these bytes were read so far
abbrev pub invariant-loop-chunk : goal.invariant-loop-chunk
invariant-loop-chunk g l = record {
  so_far : IsReadOn (g.S.Source.left l.fn.source) l.bytes (g.S.Source.left l.source);
  count : length l.bytes ≤ l.most;
  later : g.S.Source.faults l.fn.source ≤ g.S.Source.faults l.source;
}

abbrev pub decreases-loop-chunk : goal.decreases-loop-chunk
decreases-loop-chunk g l = l.most - length l.bytes
