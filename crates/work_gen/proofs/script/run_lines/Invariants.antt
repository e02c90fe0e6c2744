use Rattle.std.proofs.Common.{◌≡◌, ◌-◌, ◌++◌}
use Rattle.work_gen.specs.Work.{run_lines}
use Rattle.work_gen.proofs.script.run_lines.Given as goal

-- the lines that are there, and those that are left, are all
abbrev pub invariant-loop-index : goal.invariant-loop-index
invariant-loop-index l = l.lines ++ run_lines l.index (l.count - l.index) ≡ run_lines 0 l.count
