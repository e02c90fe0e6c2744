use Rattle.std.proofs.Common.{◌≡◌, length, map}
use Rattle.std.specs.List.{list_all}
use Rattle.rv_asm.specs.Lexing.{pieces, trimmed, is_operand}
use Rattle.rv_asm.specs.declared.lexing.Quote.TheVariants.{Outside}
use Rattle.rv_asm.proofs.lexing.are_operands.Given as goal

-- what holds of the operands that are left holds of all
abbrev pub invariant-loop-behind : goal.invariant-loop-behind
invariant-loop-behind l = list_all is_operand (map trimmed (pieces Outside l.bytes)) ≡ list_all is_operand (map trimmed (pieces Outside l.rest))

abbrev pub decreases-loop-behind : goal.decreases-loop-behind
decreases-loop-behind l = length l.rest
