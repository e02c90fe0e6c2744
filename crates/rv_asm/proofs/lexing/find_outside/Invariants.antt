use Rattle.std.proofs.Common.{◌≡◌, drop}
use Rattle.rv_asm.specs.Lexing.{outside_from}
use Rattle.rv_asm.specs.declared.lexing.Quote.TheVariants.{Outside}
use Rattle.rv_asm.proofs.lexing.find_outside.Given as goal

-- what is found from the start is what is found from here on
abbrev pub invariant-loop-i : goal.invariant-loop-i
invariant-loop-i l = outside_from l.mark 0 Outside l.bytes ≡ outside_from l.mark l.i l.quote (drop l.i l.bytes)
