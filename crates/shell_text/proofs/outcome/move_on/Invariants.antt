use Rattle.std.proofs.Common.{◌≡◌, drop}
use Rattle.shell_text.specs.Outcomes.{move_on}
use Rattle.shell_text.proofs.outcome.move_on.Given as goal

-- what is found from the start is what is found from here on
abbrev pub invariant-loop-ordered : goal.invariant-loop-ordered
invariant-loop-ordered l = move_on l.script l.number ≡ move_on (drop l.ordered-index l.script) l.number
