-- A script that was read and the processes that were loaded for its `run` lines are a plan.
use Rattle.std.proofs.Common.{◌≡◌, ℕ, zero, suc, ◌*◌, ◌/◌, ◌≤◌, ◌<◌, List, [], ◌∷◌, length, refl, ap, ◌∙◌, sym, subst, arith, Option, Some, None, Result, Ok, Err, Bool, true, false, cond, nat_lt}
use Rattle.std.specs.Prelude.{slice_get, slice_set, replicate}
use Rattle.std.specs.Option.{option_or}
use Rattle.std.specs.FinMap as map
use Rattle.std.proofs.lemmas.Bool.Decides.{nat_tests}
use Rattle.std.proofs.lemmas.List.{length-set, length-append}
use Rattle.call_table.specs.Calls.{is_signal_number}
use Rattle.call_table.specs.declared.limit.TheConstants.{PAGES, LINE_BYTES}
use Rattle.node_event.specs.declared.script.Order.{Order}
use Rattle.node_event.specs.declared.script.Order.TheVariants as order
use Rattle.node_event.specs.declared.script.ScriptLine.{ScriptLine}
use Rattle.rand_core.specs.Stream.{Stream}
use Rattle.user_spec.specs.User.{UserState}
use Rattle.elf_load.specs.Image.{start_pages, start_user, header_fault, segment_fault, headers_of, is_bad_entry, entry_of, page_fault, image_fault, image_or, table_start}
use Rattle.mosix_words.specs.declared.settings.Settings.{Settings}
use Rattle.protocol.specs.Deeds.{one_run}
use Rattle.shell_text.specs.Lexing.{words_of}
use Rattle.shell_text.specs.Numbers.{is_number, known_node, node_of, known_signal, signal_of, pid_of, count_of, slots_of}
use Rattle.shell_text.specs.Orders.{run_of, order_of}
use Rattle.shell_text.specs.Script.{script_of}
use Rattle.shell_text.specs.declared.fault.FaultKind.{FaultKind}
use Rattle.shell_text.specs.declared.fault.FaultKind.TheVariants.{BadNumber, BadNode, BadSignal}
use Rattle.shell_text.specs.declared.keyword.Keyword.{Keyword}
use Rattle.shell_text.specs.declared.keyword.Keyword.TheVariants.{Run, Kill, Move, Feed, Eof, Wait, After, Held, Slots}
use Rattle.std.specs.Str.Parse.{digits_value}
use Rattle.node_machine.specs.Plan.{run_count, IsLoaded, IsPlan}
use Rattle.mosix_shell.specs.Images.{RunLine, run_in, runs_of, AreSomeImages}
use Rattle.mosix_shell.specs.Ranges.{IsInRange}
use Rattle.mosix_shell.specs.Stage.{plan_of}
use Rattle.mosix_shell.proofs.EachOrder.{OfOrder, of_alone, of_one, of_two, each_at, of_each, lines_rise}

-- ---- a `move` names a node, and a `kill` a signal

abbrev Names : ℕ → Order → Type 0
Names nodes (order.Move p to) = to < nodes
Names nodes (order.Kill p signal) = is_signal_number signal ≡ true
Names nodes _ = Unit {0}

by_number : (b : Bool) (r : Result ℕ FaultKind) (n : ℕ) → cond b r (Err BadNumber) ≡ Ok n → r ≡ Ok n
by_number true r n e = e
by_number false r n e = absurd cc

below_if : (b : Bool) (nodes k n : ℕ) → nat_lt k nodes ≡ b → cond b (Ok k) (Err BadNode) ≡ Ok n → n < nodes
below_if true nodes k n t e = let same : k ≡ n = cc in let less : k < nodes = grind (arith, nat_tests, t) in omega (arith, same, less)
below_if false nodes k n t e = absurd cc

node_below : (nodes : ℕ) (word : List ℕ) (n : ℕ) → node_of nodes word ≡ Ok n → n < nodes
node_below nodes word n e = below_if (nat_lt (digits_value 10 word) nodes) nodes (digits_value 10 word) n refl (by_number (is_number word) (known_node nodes (digits_value 10 word)) n e)

signal_if : (b : Bool) (k n : ℕ) → is_signal_number k ≡ b → cond b (Ok k) (Err BadSignal) ≡ Ok n → is_signal_number n ≡ true
signal_if true k n t e = let same : k ≡ n = cc in ap is_signal_number (sym same) ∙ t
signal_if false k n t e = absurd cc

signal_named : (word : List ℕ) (n : ℕ) → signal_of word ≡ Ok n → is_signal_number n ≡ true
signal_named word n e = signal_if (is_signal_number (digits_value 10 word)) (digits_value 10 word) n refl (by_number (is_number word) (known_signal (digits_value 10 word)) n e)

run_names : (nodes : ℕ) (ws : List (List ℕ)) → OfOrder (Names nodes) (run_of ws)
run_names nodes [] = tt
run_names nodes (image ∷ ws) = tt

names_of : (nodes : ℕ) (k : Keyword) (rest : List ℕ) → length rest ≤ LINE_BYTES → OfOrder (Names nodes) (order_of nodes k rest)
names_of nodes Run rest h = run_names nodes (words_of rest)
names_of nodes Kill rest h = of_two (Names nodes) pid_of signal_of order.Kill (words_of rest) (λ a word b e. signal_named word b e)
names_of nodes Move rest h = of_two (Names nodes) pid_of (node_of nodes) order.Move (words_of rest) (λ a word b e. node_below nodes word b e)
names_of nodes Feed rest h = tt
names_of nodes Eof rest h = of_alone (Names nodes) order.Eof (words_of rest) tt
names_of nodes Wait rest h = of_one (Names nodes) pid_of order.Wait (words_of rest) (λ word a e. tt)
names_of nodes After rest h = of_two (Names nodes) pid_of count_of order.After (words_of rest) (λ a word b e. tt)
names_of nodes Held rest h = of_one (Names nodes) pid_of order.Held (words_of rest) (λ word a e. tt)
names_of nodes Slots rest h = of_one (Names nodes) slots_of order.Slots (words_of rest) (λ word a e. tt)

names_at : (nodes : ℕ) (text : List ℕ) (orders : List ScriptLine) → script_of nodes text ≡ Ok orders → (k : ℕ) (s : ScriptLine) → slice_get orders k ≡ Some s → Names nodes s.order
names_at nodes text orders e k s f = each_at (Names nodes) orders k s (of_each (Names nodes) nodes (names_of nodes) text orders e) f

-- ---- each `run` line has its process

one_in : (line : ℕ) (o : Order) → length (run_in line o) ≡ one_run o
one_in line (order.Run words) = refl
one_in line (order.Kill p signal) = refl
one_in line (order.Move p to) = refl
one_in line (order.Feed text) = refl
one_in line order.Eof = refl
one_in line (order.Wait p) = refl
one_in line (order.After p count) = refl
one_in line (order.Held p) = refl
one_in line (order.Slots count) = refl

runs_counted : (orders : List ScriptLine) → length (runs_of orders) ≡ run_count orders
runs_counted [] = refl
runs_counted (l ∷ ls) = let one = one_in l.line l.order in let more = runs_counted ls in let both = length-append (run_in l.line l.order) (runs_of ls) in omega (arith, one, more, both)

as_many : (runs : List RunLine) (users : List UserState) → AreSomeImages runs users → length users ≡ length runs
as_many [] [] h = refl
as_many [] (u ∷ us) h = absurd h
as_many (r ∷ rs) [] h = absurd h
as_many (r ∷ rs) (u ∷ us) h = ap suc (as_many rs us h.1)

-- ---- a process as it is loaded

last_none : {A : Type 0} (a b c : Option A) → option_or a (option_or b c) ≡ None → c ≡ None
last_none None None c e = e
last_none None (Some x) c e = absurd cc
last_none (Some x) b c e = absurd cc

few_if : (long : Bool) (rest : Option ℕ) (n : ℕ) → nat_lt PAGES n ≡ long → cond long (Some 10) rest ≡ None → n ≤ PAGES
few_if true rest n t e = absurd cc
few_if false rest n t e = grind (arith, nat_tests, t)

few_pages : (file : List ℕ) (words : List (List ℕ)) → image_fault file words ≡ None → map.len (start_pages file words) ≤ PAGES
few_pages file words e =
    few_if (nat_lt PAGES (map.len (start_pages file words))) (cond (is_bad_entry (entry_of file) (start_pages file words)) (Some 11) None) (map.len (start_pages file words)) refl
    (last_none (header_fault file) (segment_fault file (headers_of file)) (page_fault file (start_pages file words)) e)

start_loaded : (file : List ℕ) (words : List (List ℕ)) → image_fault file words ≡ None → IsLoaded (start_user file words)
start_loaded file words e = record {
  fresh = refl;
  heap = refl;
  registers = length-set (slice_set (slice_set (replicate 31 0) 1 (table_start words / 16 * 16)) 9 (length words)) 10 (table_start words)
      ∙ (length-set (slice_set (replicate 31 0) 1 (table_start words / 16 * 16)) 9 (length words) ∙ length-set (replicate 31 0) 1 (table_start words / 16 * 16));
  pages = few_pages file words e;
}

image_loaded : (file : List ℕ) (words : List (List ℕ)) (fault : Option ℕ) (u : UserState) → image_fault file words ≡ fault → image_or fault (start_user file words) ≡ Ok u → IsLoaded u
image_loaded file words None u f e = let same : start_user file words ≡ u = cc in subst IsLoaded same (start_loaded file words f)
image_loaded file words (Some fault) u f e = absurd cc

loaded_at : (runs : List RunLine) (users : List UserState) (i : ℕ) (u : UserState) → AreSomeImages runs users → slice_get users i ≡ Some u → IsLoaded u
loaded_at [] [] i u h e = absurd cc
loaded_at [] (x ∷ us) i u h e = absurd h
loaded_at (r ∷ rs) [] i u h e = absurd h
loaded_at (r ∷ rs) (x ∷ us) zero u h e = let same : x ≡ u = cc in subst IsLoaded same (image_loaded h.0.0 r.words (image_fault h.0.0 r.words) x refl h.0.1)
loaded_at (r ∷ rs) (x ∷ us) (suc i) u h e = loaded_at rs us i u h.1 e

-- ---- the plan

pub plan_is : (chance : Stream) (settings : Settings) (text : List ℕ) (orders : List ScriptLine) (users : List UserState) → IsInRange settings → script_of settings.nodes text ≡ Ok orders → AreSomeImages (runs_of orders) users → IsPlan (plan_of chance settings orders users)
plan_is chance settings text orders users range e h = record {
  nodes = range.least_nodes;
  quantum = range.least_quantum;
  rising = lines_rise settings.nodes text orders e;
  targets = λ k s p to f g. subst (Names settings.nodes) g (names_at settings.nodes text orders e k s f);
  signals = λ k s p signal f g. subst (Names settings.nodes) g (names_at settings.nodes text orders e k s f);
  images = as_many (runs_of orders) users h ∙ runs_counted orders;
  loaded = λ i u f. loaded_at (runs_of orders) users i u h f;
}
