use Rattle.std.proofs.Common.{◌≡◌, ◌++◌, drop}
use Rattle.std.specs.Option.{option_map}
use Rattle.rv_asm.specs.Operands.{text_from}
use Rattle.rv_asm.specs.declared.lexing.Quote.TheVariants.{Inside}
use Rattle.rv_asm.proofs.operand.text_from.Given as goal

-- the whole text is the text so far and what the bytes from here on write
abbrev pub invariant-loop-byte : goal.invariant-loop-byte
invariant-loop-byte l =
    text_from Inside l.bytes ≡ option_map (λ bs. l.text ++ bs) (text_from l.quote (drop l.byte-index l.bytes))
