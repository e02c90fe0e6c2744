use Rattle.std.proofs.Common.{◌≡◌, drop}
use Rattle.rv_asm.specs.Assembly.{bss_of_all}
use Rattle.rv_asm.proofs.assembly.bss_of_all.Given as goal

abbrev pub invariant-loop-line : goal.invariant-loop-line
invariant-loop-line l = bss_of_all l.lines ≡ bss_of_all (drop l.line-index l.lines)
