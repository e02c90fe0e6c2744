-- The order of a line, by its words from left to right.
use Rattle.std.specs.Prelude.{ℕ, Bool, true, false, nat_lt, nat_eq, List, [], ◌∷◌, ◌++◌, length, drop, Option, Some, None, Result, Ok, Err, codes, if◌then◌else◌}
use Rattle.std.specs.List.{starts_with, list_all}
use Rattle.std.specs.Str.{bytes_eq}
use Rattle.call_table.specs.declared.limit.TheConstants.{LINE_BYTES, LINES, RUN_LINES}
use Rattle.node_event.specs.declared.script.Order.{Order}
use Rattle.node_event.specs.declared.script.Order.TheVariants as order
use Rattle.shell_text.specs.declared.fault.FaultKind.{FaultKind}
use Rattle.shell_text.specs.declared.fault.FaultKind.TheVariants.{TooLong, NotText, UnknownWord, Missing, Extra}
use Rattle.shell_text.specs.declared.keyword.Keyword.{Keyword}
use Rattle.shell_text.specs.declared.keyword.Keyword.TheVariants.{Run, Kill, Move, Feed, Eof, Wait, After, Held, Slots}
use Rattle.shell_text.specs.Lexing.{is_text_byte, words_of, behind_word}
use Rattle.shell_text.specs.Keywords.{keyword_named}
use Rattle.shell_text.specs.Numbers.{pid_of, count_of, slots_of, node_of, signal_of}

-- ---- the words behind the first

-- an order behind which no word stands
abbrev pub alone : Order → List (List ℕ) → Result Order FaultKind
alone made [] = Ok made
alone made (word ∷ words) = Err Extra

-- an order of one word, which is read so
abbrev pub made_by : {A : Type 0} → (A → Order) → List (List ℕ) → Result A FaultKind → Result Order FaultKind
made_by make words (Err kind) = Err kind
made_by make words (Ok a) = alone (make a) words

abbrev pub with_one : {A : Type 0} → (List ℕ → Result A FaultKind) → (A → Order) → List (List ℕ) → Result Order FaultKind
with_one read make [] = Err Missing
with_one read make (word ∷ words) = made_by make words (read word)

-- an order of two words
abbrev pub then_one : {A B : Type 0} → (List ℕ → Result B FaultKind) → (A → B → Order) → List (List ℕ) → Result A FaultKind → Result Order FaultKind
then_one read make words (Err kind) = Err kind
then_one read make words (Ok a) = with_one read (make a) words

abbrev pub with_two : {A B : Type 0} → (List ℕ → Result A FaultKind) → (List ℕ → Result B FaultKind) → (A → B → Order) → List (List ℕ) → Result Order FaultKind
with_two read_first read_second make [] = Err Missing
with_two read_first read_second make (word ∷ words) = then_one read_second make words (read_first word)

-- an image and any words
abbrev pub run_of : List (List ℕ) → Result Order FaultKind
run_of [] = Err Missing
run_of (image ∷ words) = Ok (order.Run (image ∷ words))

-- the bytes behind `type` and one blank, and a newline
abbrev pub fed : List ℕ → List ℕ
fed rest = drop 1 rest ++ 10 ∷ []

-- the order of a first word and of what stands behind it
abbrev pub order_of : ℕ → Keyword → List ℕ → Result Order FaultKind
order_of nodes Run rest = run_of (words_of rest)
order_of nodes Kill rest = with_two pid_of signal_of order.Kill (words_of rest)
order_of nodes Move rest = with_two pid_of (node_of nodes) order.Move (words_of rest)
order_of nodes Feed rest = Ok (order.Feed (fed rest))
order_of nodes Eof rest = alone order.Eof (words_of rest)
order_of nodes Wait rest = with_one pid_of order.Wait (words_of rest)
order_of nodes After rest = with_two pid_of count_of order.After (words_of rest)
order_of nodes Held rest = with_one pid_of order.Held (words_of rest)
order_of nodes Slots rest = with_one slots_of order.Slots (words_of rest)

-- ---- the first word

abbrev pub order_by : ℕ → Option Keyword → List ℕ → Result Order FaultKind
order_by nodes None rest = Err UnknownWord
order_by nodes (Some keyword) rest = order_of nodes keyword rest

abbrev pub order_named : ℕ → List ℕ → List ℕ → Result Order FaultKind
order_named nodes name rest = order_by nodes (keyword_named name) rest

abbrev pub is_comment : List ℕ → Bool
is_comment name = starts_with nat_eq name (codes "#")

abbrev pub some_order : Result Order FaultKind → Result (Option Order) FaultKind
some_order (Err kind) = Err kind
some_order (Ok made) = Ok (Some made)

-- a line without words and a comment order nothing
abbrev pub order_at : ℕ → List ℕ → List (List ℕ) → Result (Option Order) FaultKind
order_at nodes line [] = Ok None
order_at nodes line (name ∷ words) = if is_comment name then Ok None else some_order (order_named nodes name (behind_word line))

abbrev pub order_on : ℕ → List ℕ → Result (Option Order) FaultKind
order_on nodes line = order_at nodes line (words_of line)

-- ---- the line

abbrev pub begins_run : List (List ℕ) → Bool
begins_run [] = false
begins_run (name ∷ words) = bytes_eq name (codes "run")

abbrev pub is_run_line : List ℕ → Bool
is_run_line line = begins_run (words_of line)

-- a line of over 1,024 bytes, one past the 1,000th, and a `run` behind 256 of them
abbrev pub is_past : ℕ → ℕ → List ℕ → Bool
is_past number runs line =
    if nat_lt LINE_BYTES (length line) then true else
    (if nat_lt LINES number then true else
    (if nat_lt runs RUN_LINES then false else is_run_line line))

-- what the line of this number comes to behind so many `run` lines: the limits first, then the bytes, then the words
abbrev pub line_order : ℕ → ℕ → ℕ → List ℕ → Result (Option Order) FaultKind
line_order nodes number runs line =
    if is_past number runs line then Err TooLong else
    (if list_all is_text_byte line then order_on nodes line else Err NotText)
