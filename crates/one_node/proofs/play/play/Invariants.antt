use Rattle.std.proofs.Common.{◌≡◌, drop, take, Some}
use Rattle.one_node.specs.Machine.{played, start}
use Rattle.one_node.proofs.play.play.Given as goal

-- what was played leads here, and what is left to play gives what all steps give
abbrev pub invariant-loop-at : goal.invariant-loop-at
invariant-loop-at l = record {
  before : played l.setup (take l.at l.steps) start ≡ Some l.home;
  rest : played l.setup l.steps start ≡ played l.setup (drop l.at l.steps) l.home;
}
