use Rattle.std.proofs.Common.{◌≤◌}
use Rattle.event_picture.proofs.picture.read_all.Given as goal

-- the count of faults never falls
abbrev pub invariant-loop : goal.invariant-loop
invariant-loop g l = g.S.Source.faults l.fn.source ≤ g.S.Source.faults l.source
