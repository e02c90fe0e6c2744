use Rattle.std.proofs.Common.{◌≡◌, ◌-◌, ◌++◌}
use Rattle.work_gen.specs.Draws.{draws_from}
use Rattle.work_gen.proofs.draw.draws_from.Given as goal

-- what was drawn, and what is left to draw, are all
abbrev pub invariant-loop-i : goal.invariant-loop-i
invariant-loop-i l = l.draws.items ++ draws_from (l.count - l._i) l.chance ≡ draws_from l.count l.fn.chance
