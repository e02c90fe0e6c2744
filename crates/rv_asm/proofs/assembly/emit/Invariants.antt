use Rattle.std.proofs.Common.{◌≡◌, ◌+◌, drop}
use Rattle.rv_asm.specs.Assembly.{prefixed, bytes_from}
use Rattle.rv_asm.specs.Labels.{found_in}
use Rattle.rv_asm.specs.Layout.{start}
use Rattle.rv_asm.proofs.assembly.emit.Given as goal

-- all bytes are those so far and those of the lines from here on
abbrev pub invariant-loop-line : goal.invariant-loop-line
invariant-loop-line l = record {
  counted : l.number ≡ l.line-index + 1;
  all : bytes_from (found_in l.labels) 1 start l.lines ≡ prefixed l.out (bytes_from (found_in l.labels) l.number l.place (drop l.line-index l.lines));
}
