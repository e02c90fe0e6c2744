use Rattle.std.proofs.Common.{◌≡◌}
use Rattle.mosix_shell.specs.Left.{journals_of}
use Rattle.mosix_shell.proofs.left.journals_of.Given as goal

-- the journals of the nodes so far
abbrev pub invariant-loop-node : goal.invariant-loop-node
invariant-loop-node l = l.journals ≡ journals_of l.yielded
