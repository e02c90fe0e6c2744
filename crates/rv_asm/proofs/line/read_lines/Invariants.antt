use Rattle.std.proofs.Common.{◌≡◌, ◌≤◌, ◌+◌, ◌++◌, length, map, vec_len}
use Rattle.rv_asm.specs.Lines.{lines_of}
use Rattle.rv_asm.proofs.line.read_lines.Given as goal

-- all lines are those that were read and those of the rest
abbrev pub invariant-loop-lines : goal.invariant-loop-lines
invariant-loop-lines l = record {
  all : lines_of l.text ≡ l.lines.items ++ lines_of l.rest;
  count : vec_len l.lines + length l.rest ≤ length l.text;
}

abbrev pub decreases-loop-lines : goal.decreases-loop-lines
decreases-loop-lines l = length l.rest
