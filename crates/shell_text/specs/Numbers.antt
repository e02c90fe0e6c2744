-- Numbers as a script writes them: 1 to 10 decimal digits.
use Rattle.std.specs.Prelude.{ℕ, Bool, false, ◌==◌, nat_le, nat_lt, List, length, Option, Some, None, Result, Ok, Err, if◌then◌else◌}
use Rattle.std.specs.Str.{all_ascii_digits}
use Rattle.std.specs.Str.Parse.{digits_value}
use Rattle.call_table.specs.Calls.{is_signal_number}
use Rattle.call_table.specs.declared.limit.TheConstants.{LAST_LAUNCHED, PROCESSES}
use Rattle.shell_text.specs.declared.fault.FaultKind.{FaultKind}
use Rattle.shell_text.specs.declared.fault.FaultKind.TheVariants.{BadNumber, BadNode, BadSignal}

abbrev pub is_number : List ℕ → Bool
is_number word = if length word == 0 then false else (if nat_lt 10 (length word) then false else all_ascii_digits word)

abbrev pub at_most : ℕ → ℕ → Option ℕ
at_most most n = if nat_le n most then Some n else None

abbrev pub at_least : ℕ → Option ℕ → Result ℕ FaultKind
at_least low None = Err BadNumber
at_least low (Some n) = if nat_lt n low then Err BadNumber else Ok n

-- a number from low to high
abbrev pub number_in : ℕ → ℕ → List ℕ → Result ℕ FaultKind
number_in low high word = if is_number word then at_least low (at_most high (digits_value 10 word)) else Err BadNumber

-- a process is named by 1 to 32,767
abbrev pub pid_of : List ℕ → Result ℕ FaultKind
pid_of word = number_in 1 LAST_LAUNCHED word

abbrev pub count_of : List ℕ → Result ℕ FaultKind
count_of word = number_in 1 1000000 word

-- from 1 to 64 processes
abbrev pub slots_of : List ℕ → Result ℕ FaultKind
slots_of word = number_in 1 PROCESSES word

abbrev pub known_node : ℕ → ℕ → Result ℕ FaultKind
known_node nodes n = if nat_lt n nodes then Ok n else Err BadNode

-- a node is named by a number below that of the nodes
abbrev pub node_of : ℕ → List ℕ → Result ℕ FaultKind
node_of nodes word = if is_number word then known_node nodes (digits_value 10 word) else Err BadNumber

abbrev pub known_signal : ℕ → Result ℕ FaultKind
known_signal n = if is_signal_number n then Ok n else Err BadSignal

abbrev pub signal_of : List ℕ → Result ℕ FaultKind
signal_of word = if is_number word then known_signal (digits_value 10 word) else Err BadNumber
