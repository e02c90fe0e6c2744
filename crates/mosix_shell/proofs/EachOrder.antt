-- What holds of each order that a line of a script can have holds of each order of the script; and the numbers of its lines rise.
use Rattle.std.proofs.Common.{◌≡◌, ℕ, suc, zero, ◌+◌, ◌≤◌, ◌<◌, List, [], ◌∷◌, ◌++◌, length, refl, subst, arith, Option, Some, None, Result, Ok, Err, Bool, true, false, cond, nat_lt}
use Rattle.std.specs.Prelude.{slice_get}
use Rattle.std.specs.List.{list_all}
use Rattle.std.specs.Str.Lines.{lines}
use Rattle.std.proofs.lemmas.Bool.Decides.{nat_tests}
use Rattle.std.proofs.lemmas.List.{length-drop}
use Rattle.call_table.specs.declared.limit.TheConstants.{SCRIPT_BYTES, LINE_BYTES, LINES, RUN_LINES}
use Rattle.node_event.specs.declared.script.Order.{Order}
use Rattle.node_event.specs.declared.script.ScriptLine.{ScriptLine}
use Rattle.shell_text.specs.Lexing.{is_text_byte, words_of, behind_word}
use Rattle.shell_text.specs.Keywords.{keyword_named}
use Rattle.shell_text.specs.Orders.{alone, made_by, with_one, then_one, with_two, order_of, order_by, order_named, is_comment, some_order, order_at, order_on, is_run_line, is_past, line_order}
use Rattle.shell_text.specs.Script.{fresh, with_order, line_read, on_ok, read_lines, script_read, script_of}
use Rattle.shell_text.specs.declared.fault.FaultKind.{FaultKind}
use Rattle.shell_text.specs.declared.fault.FaultKind.TheVariants.{TooLong, NotText}
use Rattle.shell_text.specs.declared.fault.ScriptError.{ScriptError}
use Rattle.shell_text.specs.declared.fault.ScriptError.TheVariants as fault
use Rattle.shell_text.specs.declared.keyword.Keyword.{Keyword}
use Rattle.shell_text.specs.declared.script.Reader.{Reader}

-- a line that is past no limit is short
short_if : (long others : Bool) → cond long true others ≡ false → long ≡ false
short_if true others h = h
short_if false others h = refl

short_line : (number runs : ℕ) (line : List ℕ) → is_past number runs line ≡ false → length line ≤ LINE_BYTES
short_line number runs line h =
    let short = short_if (nat_lt LINE_BYTES (length line)) (cond (nat_lt LINES number) true (cond (nat_lt runs RUN_LINES) false (is_run_line line))) h in
    grind (arith, nat_tests, short)

behind_short : (line : List ℕ) (n : ℕ) → length line ≤ n → length (behind_word line) ≤ n
behind_short line n h = omega (arith, length-drop {A = ℕ})

module _ (P : Order → Type 0) where
  -- ---- the order of a line

  abbrev pub OfOrder : Result Order FaultKind → Type 0
  OfOrder (Ok o) = P o
  OfOrder (Err kind) = Unit {0}

  pub of_alone : (o : Order) (ws : List (List ℕ)) → P o → OfOrder (alone o ws)
  of_alone o [] h = h
  of_alone o (w ∷ ws) h = tt

  of_made : {A : Type 0} (make : A → Order) (ws : List (List ℕ)) (r : Result A FaultKind) → ((a : A) → r ≡ Ok a → P (make a)) → OfOrder (made_by make ws r)
  of_made make ws (Ok a) h = of_alone (make a) ws (h a refl)
  of_made make ws (Err kind) h = tt

  pub of_one : {A : Type 0} (read : List ℕ → Result A FaultKind) (make : A → Order) (ws : List (List ℕ)) → ((word : List ℕ) (a : A) → read word ≡ Ok a → P (make a)) → OfOrder (with_one read make ws)
  of_one read make [] h = tt
  of_one read make (w ∷ ws) h = of_made make ws (read w) (h w)

  of_then : {A B : Type 0} (read : List ℕ → Result B FaultKind) (make : A → B → Order) (ws : List (List ℕ)) (r : Result A FaultKind) → ((a : A) (word : List ℕ) (b : B) → read word ≡ Ok b → P (make a b)) → OfOrder (then_one read make ws r)
  of_then read make ws (Ok a) h = of_one read (make a) ws (h a)
  of_then read make ws (Err kind) h = tt

  pub of_two : {A B : Type 0} (first : List ℕ → Result A FaultKind) (second : List ℕ → Result B FaultKind) (make : A → B → Order) (ws : List (List ℕ)) → ((a : A) (word : List ℕ) (b : B) → second word ≡ Ok b → P (make a b)) → OfOrder (with_two first second make ws)
  of_two first second make [] h = tt
  of_two first second make (w ∷ ws) h = of_then second make ws (first w) h

  abbrev OfLine : Result (Option Order) FaultKind → Type 0
  OfLine (Ok (Some o)) = P o
  OfLine (Ok None) = Unit {0}
  OfLine (Err kind) = Unit {0}

  of_some : (r : Result Order FaultKind) → OfOrder r → OfLine (some_order r)
  of_some (Ok o) h = h
  of_some (Err kind) h = tt

  of_if : (b : Bool) (r : Result (Option Order) FaultKind) → OfLine r → OfLine (cond b (Ok None) r)
  of_if true r h = tt
  of_if false r h = h

  of_text : (b : Bool) (r : Result (Option Order) FaultKind) → OfLine r → OfLine (cond b r (Err NotText))
  of_text true r h = h
  of_text false r h = tt

  of_past : (b : Bool) (r : Result (Option Order) FaultKind) → (b ≡ false → OfLine r) → OfLine (cond b (Err TooLong) r)
  of_past true r h = tt
  of_past false r h = h refl

  -- ---- all lines

  abbrev pub OfEach : List ScriptLine → Type 0
  OfEach [] = Unit {0}
  OfEach (l ∷ ls) = P l.order × OfEach ls

  each-append : (xs : List ScriptLine) (l : ScriptLine) → OfEach xs → P l.order → OfEach (xs ++ l ∷ [])
  each-append [] l h k = (k, tt)
  each-append (x ∷ xs) l h k = (h.0, each-append xs l h.1 k)

  pub each_at : (xs : List ScriptLine) (k : ℕ) (l : ScriptLine) → OfEach xs → slice_get xs k ≡ Some l → P l.order
  each_at [] k l h e = absurd cc
  each_at (x ∷ xs) zero l h e = let same : x ≡ l = cc in subst (λ (y : ScriptLine). P y.order) same h.0
  each_at (x ∷ xs) (suc k) l h e = each_at xs k l h.1 e

  abbrev OfRead : Result Reader ScriptError → Type 0
  OfRead (Ok r) = OfEach r.script
  OfRead (Err e) = Unit {0}

  of_order : (r : Reader) (is_run : Bool) (o : Result (Option Order) FaultKind) → OfEach r.script → OfLine o → OfRead (with_order r is_run o)
  of_order r is_run (Err kind) h k = tt
  of_order r is_run (Ok None) h k = h
  of_order r is_run (Ok (Some made)) h k = each-append r.script (record { line = r.number + 1; order = made }) h k

  of_more : (nodes : ℕ) (ls : List (List ℕ)) (o : Result Reader ScriptError) → ((r : Reader) → OfEach r.script → OfRead (read_lines nodes ls r)) → OfRead o → OfRead (on_ok (read_lines nodes ls) o)
  of_more nodes ls (Ok r) ih h = ih r h
  of_more nodes ls (Err e) ih h = tt

  abbrev OfScript : Result (List ScriptLine) ScriptError → Type 0
  OfScript (Ok orders) = OfEach orders
  OfScript (Err e) = Unit {0}

  of_script : (r : Result Reader ScriptError) → OfRead r → OfScript (script_read r)
  of_script (Ok r) h = h
  of_script (Err e) h = tt

  of_whole : (b : Bool) (r : Result (List ScriptLine) ScriptError) → OfScript r → OfScript (cond b (Err (fault.Fault 0 1)) r)
  of_whole true r h = tt
  of_whole false r h = h

  module _ (nodes : ℕ) (by_keyword : (k : Keyword) (rest : List ℕ) → length rest ≤ LINE_BYTES → OfOrder (order_of nodes k rest)) where
    of_by : (k : Option Keyword) (rest : List ℕ) → length rest ≤ LINE_BYTES → OfOrder (order_by nodes k rest)
    of_by None rest h = tt
    of_by (Some k) rest h = by_keyword k rest h

    of_at : (line : List ℕ) (ws : List (List ℕ)) → length line ≤ LINE_BYTES → OfLine (order_at nodes line ws)
    of_at line [] h = tt
    of_at line (name ∷ ws) h =
        of_if (is_comment name) (some_order (order_named nodes name (behind_word line)))
        (of_some (order_named nodes name (behind_word line)) (of_by (keyword_named name) (behind_word line) (behind_short line LINE_BYTES h)))

    of_line : (number runs : ℕ) (line : List ℕ) → OfLine (line_order nodes number runs line)
    of_line number runs line =
        of_past (is_past number runs line) (cond (list_all is_text_byte line) (order_on nodes line) (Err NotText))
        (λ past. of_text (list_all is_text_byte line) (order_on nodes line) (of_at line (words_of line) (short_line number runs line past)))

    of_lines : (ls : List (List ℕ)) (r : Reader) → OfEach r.script → OfRead (read_lines nodes ls r)
    of_lines [] r h = h
    of_lines (line ∷ ls) r h =
        of_more nodes ls (line_read nodes line r) (λ next k. of_lines ls next k)
        (of_order r (is_run_line line) (line_order nodes (r.number + 1) r.runs line) h (of_line (r.number + 1) r.runs line))

    pub of_each : (text : List ℕ) (orders : List ScriptLine) → script_of nodes text ≡ Ok orders → OfEach orders
    of_each text orders e =
        subst OfScript e (of_whole (nat_lt SCRIPT_BYTES (length text)) (script_read (read_lines nodes (lines text) fresh)) (of_script (read_lines nodes (lines text) fresh) (of_lines (lines text) fresh tt)))

-- ---- the numbers of the lines rise

-- from above one number up to another
abbrev RiseFrom : ℕ → List ScriptLine → ℕ → Type 0
RiseFrom low [] top = low ≤ top
RiseFrom low (l ∷ ls) top = (low < l.line) × RiseFrom l.line ls top

rise_more : (low : ℕ) (ls : List ScriptLine) (top : ℕ) (l : ScriptLine) → RiseFrom low ls top → top < l.line → RiseFrom low (ls ++ l ∷ []) l.line
rise_more low [] top l h less = let above : low < l.line = omega (arith, h, less) in (above, omega arith)
rise_more low (x ∷ ls) top l h less = (h.0, rise_more x.line ls top l h.1 less)

rise_wider : (low : ℕ) (ls : List ScriptLine) (top wide : ℕ) → RiseFrom low ls top → top ≤ wide → RiseFrom low ls wide
rise_wider low [] top wide h more = omega (arith, h, more)
rise_wider low (x ∷ ls) top wide h more = (h.0, rise_wider x.line ls top wide h.1 more)

first_above : (low top : ℕ) (ls : List ScriptLine) (b : ScriptLine) → RiseFrom low ls top → slice_get ls 0 ≡ Some b → low < b.line
first_above low top [] b h e = absurd cc
first_above low top (x ∷ ls) b h e = let same : x ≡ b = cc in subst (λ (y : ScriptLine). low < y.line) same h.0

rising_in : (low top : ℕ) (ls : List ScriptLine) (k : ℕ) (a b : ScriptLine) → RiseFrom low ls top → slice_get ls k ≡ Some a → slice_get ls (suc k) ≡ Some b → a.line < b.line
rising_in low top [] k a b h e f = absurd cc
rising_in low top (x ∷ ls) zero a b h e f = let same : x ≡ a = cc in subst (λ (y : ScriptLine). y.line < b.line) same (first_above x.line top ls b h.1 f)
rising_in low top (x ∷ ls) (suc k) a b h e f = rising_in x.line top ls k a b h.1 e f

abbrev RisesRead : Result Reader ScriptError → Type 0
RisesRead (Ok r) = RiseFrom 0 r.script r.number
RisesRead (Err e) = Unit {0}

rises_order : (r : Reader) (is_run : Bool) (o : Result (Option Order) FaultKind) → RiseFrom 0 r.script r.number → RisesRead (with_order r is_run o)
rises_order r is_run (Err kind) h = tt
rises_order r is_run (Ok None) h = rise_wider 0 r.script r.number (r.number + 1) h (omega arith)
rises_order r is_run (Ok (Some made)) h = rise_more 0 r.script r.number (record { line = r.number + 1; order = made }) h (omega arith)

rises_lines : (nodes : ℕ) (ls : List (List ℕ)) (r : Reader) → RiseFrom 0 r.script r.number → RisesRead (read_lines nodes ls r)
rises_lines nodes [] r h = h
rises_lines nodes (line ∷ ls) r h = more (line_read nodes line r) (λ next k. rises_lines nodes ls next k) (rises_order r (is_run_line line) (line_order nodes (r.number + 1) r.runs line) h)
  where
    more : (o : Result Reader ScriptError) → ((next : Reader) → RiseFrom 0 next.script next.number → RisesRead (read_lines nodes ls next)) → RisesRead o → RisesRead (on_ok (read_lines nodes ls) o)
    more (Ok next) ih k = ih next k
    more (Err e) ih k = tt

abbrev RisesScript : Result (List ScriptLine) ScriptError → Type 0
RisesScript (Ok orders) = (top : ℕ) × RiseFrom 0 orders top
RisesScript (Err e) = Unit {0}

rises_script : (r : Result Reader ScriptError) → RisesRead r → RisesScript (script_read r)
rises_script (Ok r) h = (r.number, h)
rises_script (Err e) h = tt

rises_whole : (b : Bool) (r : Result (List ScriptLine) ScriptError) → RisesScript r → RisesScript (cond b (Err (fault.Fault 0 1)) r)
rises_whole true r h = tt
rises_whole false r h = h

pub lines_rise : (nodes : ℕ) (text : List ℕ) (orders : List ScriptLine) → script_of nodes text ≡ Ok orders → (k : ℕ) (a b : ScriptLine) → slice_get orders k ≡ Some a → slice_get orders (suc k) ≡ Some b → a.line < b.line
lines_rise nodes text orders e k a b f g =
    let h : RisesScript (Ok orders) = subst RisesScript e (rises_whole (nat_lt SCRIPT_BYTES (length text)) (script_read (read_lines nodes (lines text) fresh)) (rises_script (read_lines nodes (lines text) fresh) (rises_lines nodes (lines text) fresh (omega arith)))) in
    rising_in 0 h.0 orders k a b h.1 f g
