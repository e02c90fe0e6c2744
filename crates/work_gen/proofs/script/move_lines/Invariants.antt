use Rattle.std.proofs.Common.{◌≡◌, ◌+◌, ◌-◌, ◌++◌}
use Rattle.work_gen.specs.Work.{move_lines}
use Rattle.work_gen.proofs.script.move_lines.Given as goal

-- the lines that are there, and those that are left, are all
abbrev pub invariant-loop-index : goal.invariant-loop-index
invariant-loop-index l = l.lines ++ move_lines l.nodes (l.index + 1) (l.count - l.index) ≡ move_lines l.nodes 1 l.count
