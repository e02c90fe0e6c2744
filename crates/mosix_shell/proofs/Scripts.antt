-- What a script's text comes to, and that the words of a line fit on a stack.
use Rattle.std.proofs.Common.{◌≡◌, ℕ, ◌+◌, ◌*◌, ◌≤◌, ◌<◌, List, [], ◌∷◌, length, refl, ap, ◌∙◌, sym, arith, inl, inr, Option, Some, None, Ok, Err, Bool, true, false, cond, nat_lt}
use Rattle.std.specs.List.{slice_split, onto_first, filter}
use Rattle.std.specs.Str.Lines.{lines}
use Rattle.std.proofs.lemmas.Bool.{cases_lt}
use Rattle.std.proofs.lemmas.Bool.Decides.{nat_tests}
use Rattle.call_table.specs.declared.limit.TheConstants.{SCRIPT_BYTES, LINE_BYTES}
use Rattle.node_event.specs.declared.script.Order.TheVariants as order
use Rattle.node_event.specs.declared.script.ScriptLine.{ScriptLine}
use Rattle.elf_load.specs.Image.{start_size}
use Rattle.shell_text.specs.Lexing.{is_blank, is_word, words_of}
use Rattle.shell_text.specs.Numbers.{pid_of, count_of, slots_of, node_of, signal_of}
use Rattle.shell_text.specs.Orders.{run_of, order_of}
use Rattle.shell_text.specs.Script.{fresh, read_lines, script_read, script_of}
use Rattle.shell_text.specs.declared.fault.ScriptError.TheVariants as fault
use Rattle.shell_text.specs.declared.keyword.Keyword.{Keyword}
use Rattle.shell_text.specs.declared.keyword.Keyword.TheVariants.{Run, Kill, Move, Feed, Eof, Wait, After, Held, Slots}
use Rattle.mosix_shell.specs.Reading.{IsReadPast}
use Rattle.mosix_shell.specs.Orders.{IsScriptOf, IsFaultOf, IsUnread, FitsStack, FitStacks}
use Rattle.mosix_shell.specs.declared.why.Why.{Why}
use Rattle.mosix_shell.specs.declared.why.Why.TheVariants.{Done, Stuck, BadWords, BadScript, BadImage, ReadFault, WriteFault, NoMemory, JournalFull, BadSource}
use Rattle.mosix_shell.proofs.EachOrder.{OfOrder, of_alone, of_one, of_two, OfEach, of_each}

-- ---- what was read comes to what the source's text comes to

too_long : (nodes : ℕ) (text : List ℕ) → SCRIPT_BYTES < length text → script_of nodes text ≡ Err (fault.Fault 0 1)
too_long nodes text h =
    let long : nat_lt SCRIPT_BYTES (length text) ≡ true = grind (arith, nat_tests) in
    ap (λ b. cond b (Err (fault.Fault 0 1)) (script_read (read_lines nodes (lines text) fresh))) long

same_script : (nodes : ℕ) (left text : List ℕ) → IsReadPast SCRIPT_BYTES (Some left) text → script_of nodes text ≡ script_of nodes left
same_script nodes left text h =
    elim (cases_lt SCRIPT_BYTES (length left)) as (λ _. script_of nodes text ≡ script_of nodes left) [
      | inl long ↦ too_long nodes text (h.1 long) ∙ sym (too_long nodes left long)
      | inr short ↦ ap (script_of nodes) (h.0 short)
    ]

pub orders_written : (nodes : ℕ) (text : List ℕ) (orders : List ScriptLine) → script_of nodes text ≡ Ok orders → IsScriptOf nodes (Some text) orders
orders_written nodes text orders e = record { text = text; text_is = refl; reads = e }

pub fault_written : (nodes : ℕ) (text : List ℕ) (line kind : ℕ) → script_of nodes text ≡ Err (fault.Fault line kind) → IsFaultOf nodes (Some text) line kind
fault_written nodes text line kind e = record { text = text; text_is = refl; reads = e }

pub orders_read : (nodes : ℕ) (left : Option (List ℕ)) (text read : List ℕ) (orders : List ScriptLine) → IsReadPast SCRIPT_BYTES left text → read ≡ text → IsScriptOf nodes (Some read) orders → IsScriptOf nodes left orders
orders_read nodes None text read orders h same r = record { text = r.text; text_is = tt; reads = r.reads }
orders_read nodes (Some left) text read orders h same r =
    record { text = left; text_is = refl; reads = sym (ap (script_of nodes) (r.text_is ∙ same) ∙ same_script nodes left text h) ∙ r.reads }

fault_read : (nodes : ℕ) (left : Option (List ℕ)) (text read : List ℕ) (line kind : ℕ) → IsReadPast SCRIPT_BYTES left text → read ≡ text → IsFaultOf nodes (Some read) line kind → IsFaultOf nodes left line kind
fault_read nodes None text read line kind h same r = record { text = r.text; text_is = tt; reads = r.reads }
fault_read nodes (Some left) text read line kind h same r =
    record { text = left; text_is = refl; reads = sym (ap (script_of nodes) (r.text_is ∙ same) ∙ same_script nodes left text h) ∙ r.reads }

pub unread_read : (nodes : ℕ) (left : Option (List ℕ)) (text read : List ℕ) (why : Why) → IsReadPast SCRIPT_BYTES left text → read ≡ text → IsUnread nodes (Some read) why → IsUnread nodes left why
unread_read nodes left text read (BadScript line kind) h same u = fault_read nodes left text read line kind h same u
unread_read nodes left text read ReadFault h same u = tt
unread_read nodes left text read NoMemory h same u = tt
unread_read nodes left text read Done h same u = absurd u
unread_read nodes left text read Stuck h same u = absurd u
unread_read nodes left text read BadWords h same u = absurd u
unread_read nodes left text read (BadImage line kind) h same u = absurd u
unread_read nodes left text read WriteFault h same u = absurd u
unread_read nodes left text read (JournalFull node) h same u = absurd u
unread_read nodes left text read (BadSource line kind) h same u = absurd u

-- ---- the words of a line

-- how many bytes words have
abbrev total : List (List ℕ) → ℕ
total [] = 0
total (w ∷ ws) = length w + total ws

total-onto_first : (b : ℕ) (parts : List (List ℕ)) → total (onto_first b parts) ≡ total parts + 1
total-onto_first b [] = refl
total-onto_first b (part ∷ parts) = omega arith

total_if : (t : Bool) (b n : ℕ) (parts : List (List ℕ)) → total parts ≤ n → total (cond t ([] ∷ parts) (onto_first b parts)) ≤ n + 1
total_if true b n parts h = omega arith
total_if false b n parts h = omega (arith, total-onto_first b parts)

total-split : (line : List ℕ) → total (slice_split is_blank line) ≤ length line
total-split [] = omega arith
total-split (b ∷ bs) = let h = total_if (is_blank b) b (length bs) (slice_split is_blank bs) (total-split bs) in omega (arith, h)

size_if : (t : Bool) (w : List ℕ) (ws kept : List (List ℕ)) → is_word w ≡ t → start_size kept ≤ 6 * total ws + 4 → start_size (cond t (w ∷ kept) kept) ≤ 6 * total (w ∷ ws) + 4
size_if false w ws kept e h = omega arith
size_if true [] ws kept e h = absurd (let f : false ≡ true = e in cc)
size_if true (b ∷ bs) ws kept e h = omega arith

size-filter : (ws : List (List ℕ)) → start_size (filter is_word ws) ≤ 6 * total ws + 4
size-filter [] = omega arith
size-filter (w ∷ ws) = size_if (is_word w) w ws (filter is_word ws) refl (size-filter ws)

size_of_words : (line : List ℕ) → start_size (words_of line) ≤ 6 * length line + 4
size_of_words line = omega (arith, size-filter (slice_split is_blank line), total-split line)

-- ---- the order of a line

fits_run : (ws : List (List ℕ)) → start_size ws ≤ 8192 → OfOrder FitsStack (run_of ws)
fits_run [] h = tt
fits_run (image ∷ ws) h = h

fits_words : (rest : List ℕ) → length rest ≤ LINE_BYTES → start_size (words_of rest) ≤ 8192
fits_words rest h = omega (arith, size_of_words rest)

fits_of : (nodes : ℕ) (k : Keyword) (rest : List ℕ) → length rest ≤ LINE_BYTES → OfOrder FitsStack (order_of nodes k rest)
fits_of nodes Run rest h = fits_run (words_of rest) (fits_words rest h)
fits_of nodes Kill rest h = of_two FitsStack pid_of signal_of order.Kill (words_of rest) (λ a word b e. tt)
fits_of nodes Move rest h = of_two FitsStack pid_of (node_of nodes) order.Move (words_of rest) (λ a word b e. tt)
fits_of nodes Feed rest h = tt
fits_of nodes Eof rest h = of_alone FitsStack order.Eof (words_of rest) tt
fits_of nodes Wait rest h = of_one FitsStack pid_of order.Wait (words_of rest) (λ word a e. tt)
fits_of nodes After rest h = of_two FitsStack pid_of count_of order.After (words_of rest) (λ a word b e. tt)
fits_of nodes Held rest h = of_one FitsStack pid_of order.Held (words_of rest) (λ word a e. tt)
fits_of nodes Slots rest h = of_one FitsStack slots_of order.Slots (words_of rest) (λ word a e. tt)

fit_stacks : (orders : List ScriptLine) → OfEach FitsStack orders → FitStacks orders
fit_stacks [] h = tt
fit_stacks (l ∷ ls) h = (h.0, fit_stacks ls h.1)

pub words_fit : (nodes : ℕ) (text : List ℕ) (orders : List ScriptLine) → script_of nodes text ≡ Ok orders → FitStacks orders
words_fit nodes text orders e = fit_stacks orders (of_each FitsStack nodes (fits_of nodes) text orders e)
