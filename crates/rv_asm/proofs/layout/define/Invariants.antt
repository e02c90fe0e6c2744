use Rattle.std.proofs.Common.{◌≡◌, ◌+◌, ℕ, List, drop}
use Rattle.rv_asm.specs.Keywords.{or_else}
use Rattle.rv_asm.specs.Labels.{found_in}
use Rattle.rv_asm.specs.Layout.{defined_from, start}
use Rattle.rv_asm.proofs.layout.define.Given as goal

-- a name is that of the table, or else of the lines from here on
abbrev pub invariant-loop-line : goal.invariant-loop-line
invariant-loop-line l = record {
  counted : l.number ≡ l.line-index + 1;
  all : (name : List ℕ) → defined_from 1 start l.lines name ≡ or_else (found_in l.labels name) (defined_from l.number l.place (drop l.line-index l.lines) name);
}
