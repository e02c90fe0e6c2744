-- The numbers by which faults are reported.
use Rattle.std.specs.Prelude.{ℕ}
use Rattle.shell_text.specs.declared.fault.FaultKind.{FaultKind}
use Rattle.shell_text.specs.declared.fault.FaultKind.TheVariants.{TooLong, NotText, UnknownWord, BadNumber, BadNode, BadSignal, Missing, Extra}

abbrev pub number_of_kind : FaultKind → ℕ
number_of_kind TooLong = 1
number_of_kind NotText = 2
number_of_kind UnknownWord = 3
number_of_kind BadNumber = 4
number_of_kind BadNode = 5
number_of_kind BadSignal = 6
number_of_kind Missing = 7
number_of_kind Extra = 8
