use Rattle.std.proofs.Common.{◌≡◌, drop}
use Rattle.rv_asm.specs.Lexing.{pieces}
use Rattle.rv_asm.specs.declared.lexing.Quote.TheVariants.{Outside}
use Rattle.rv_asm.proofs.lexing.from_operand.Given as goal

abbrev pub invariant-loop-i : goal.invariant-loop-i
invariant-loop-i l = drop l._i (pieces Outside l.operands) ≡ pieces Outside l.rest
