use Rattle.std.proofs.Common.{◌≡◌, ◌-◌, ◌++◌}
use Rattle.mosix_shell.specs.Stage.{away_nodes, first_nodes}
use Rattle.mosix_shell.proofs.stage.first_nodes.Given as goal

-- the nodes so far, and those that are to come, are all
abbrev pub invariant-loop-id : goal.invariant-loop-id
invariant-loop-id l = l.nodes ++ away_nodes l.settings l.seeds l.id (l.settings.nodes - l.id) ≡ first_nodes l.settings l.seeds l.fn.script l.fn.users
