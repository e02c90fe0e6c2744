-- What is wrong with a text.
use Rattle.std.specs.Prelude.{ℕ}
use Rattle.rv_asm.specs.declared.fault.FaultKind.{FaultKind}
use Rattle.rv_asm.specs.declared.fault.FaultKind.TheVariants.{TooLong, UnknownWord, BadOperand, OutOfRange, UnknownLabel, DoubleLabel, Missing, Extra}

abbrev pub number_of_kind : FaultKind → ℕ
number_of_kind TooLong = 1
number_of_kind UnknownWord = 2
number_of_kind BadOperand = 3
number_of_kind OutOfRange = 4
number_of_kind UnknownLabel = 5
number_of_kind DoubleLabel = 6
number_of_kind Missing = 7
number_of_kind Extra = 8
