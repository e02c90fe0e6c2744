use Rattle.std.proofs.Common.{◌≡◌, ◌+◌, ◌≤◌, length}
use Rattle.std.specs.Str.Lines.{lines}
use Rattle.shell_text.specs.Script.{fresh, read_lines}
use Rattle.shell_text.proofs.script.read_lines.Given as goal

-- what comes of all lines comes of what was read and the rest
abbrev pub invariant-loop-line : goal.invariant-loop-line
invariant-loop-line l = record {
  all : read_lines l.nodes (lines l.bytes) fresh ≡ read_lines l.nodes (lines l.rest) l.reader;
  count : l.reader.number + length l.rest ≤ length l.bytes;
  runs : l.reader.runs ≤ l.reader.number;
}

abbrev pub decreases-loop-line : goal.decreases-loop-line
decreases-loop-line l = length l.rest
