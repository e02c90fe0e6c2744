use Rattle.std.proofs.Common.{◌≡◌, ◌≤◌, drop}
use Rattle.std.specs.Option.{option_map}
use Rattle.rv_asm.specs.Numbers.{digits_after, capped}
use Rattle.rv_asm.proofs.number.natural.Given as goal

-- what the digits write from the start is what they write from here on
abbrev pub invariant-loop-byte : goal.invariant-loop-byte
invariant-loop-byte l = record {
  small : l.value ≤ 0x200000000;
  rest : option_map capped (digits_after l.radix 0 l.digits) ≡ option_map capped (digits_after l.radix l.value (drop l.byte-index l.digits));
}
