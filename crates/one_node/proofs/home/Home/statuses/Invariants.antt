use Rattle.std.proofs.Common.{◌≡◌, ◌+◌, ◌-◌, ◌++◌}
use Rattle.one_node.specs.Machine.{statuses_from}
use Rattle.one_node.proofs.home.Home.statuses.Given as goal

-- what is made and what is left are all
abbrev pub invariant-loop-i : goal.invariant-loop-i
invariant-loop-i l = l.list ++ statuses_from l.self (l.i + 1) (l.given - l.i) ≡ statuses_from l.self 1 l.given
