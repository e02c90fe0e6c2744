-- Facts of a plan's script.
use Rattle.std.proofs.Common.{◌≡◌, ◌≢◌, ◌<◌, ◌≤◌, ◌==◌, ℕ, zero, suc, ◌+◌, Bool, true, false, cond, Option, Some, None, List, [], ◌∷◌, length, slice_get, refl, sym, ap, ◌∙◌, subst, arith}
use Rattle.std.specs.Prelude.{nat_lt}
use Rattle.std.proofs.lemmas.Bool.Decides.{nat_tests}
use Rattle.node_event.specs.declared.script.Order.{Order}
use Rattle.node_event.specs.declared.script.Order.TheVariants as order
use Rattle.node_event.specs.declared.script.ScriptLine.{ScriptLine}
use Rattle.protocol.specs.Deeds.{order_at, one_run, one_feed, runs_before, feeds_before}
use Rattle.node_machine.specs.Plan.{texts, text_of, run_count}

abbrev pub Script : Type 0
Script = List ScriptLine

abbrev pub Rises : Script → Type 0
Rises script = (k : ℕ) (a b : ScriptLine) → slice_get script k ≡ Some a → slice_get script (suc k) ≡ Some b → a.line < b.line

rest_rises : (s : ScriptLine) (script : Script) → Rises (s ∷ script) → Rises script
rest_rises s script h k a b e f = h (suc k) a b e f

-- each line after the first has a greater number
above : (s : ScriptLine) (script : Script) → Rises (s ∷ script) → (k : ℕ) (t : ScriptLine) → slice_get script k ≡ Some t → s.line < t.line
above s [] h k t e = absurd (none k e)
  where
    none : (k : ℕ) → slice_get (let xs : Script = [] in xs) k ≡ Some t → ⊥
    none zero f = cc
    none (suc k) f = cc
above s (x ∷ rest) h zero t e = h 0 s t refl e
above s (x ∷ rest) h (suc k) t e = let a = h 0 s x refl refl in (let b = above x rest (rest_rises s (x ∷ rest) h) k t e in omega (arith, a, b))

differs : (a b : ℕ) → a < b → (a == b) ≡ false
differs a b h = grind (arith, nat_tests)

itself : (a : ℕ) → (a == a) ≡ true
itself a = grind (arith, nat_tests)

-- a line stands once, so its number finds it
pub stands_once : (script : Script) → Rises script → (k : ℕ) (s : ScriptLine) → slice_get script k ≡ Some s → order_at s.line script ≡ Some s.order
stands_once [] h zero s e = absurd cc
stands_once [] h (suc k) s e = absurd cc
stands_once (x ∷ rest) h zero s e = let same : x ≡ s = cc in ap (λ (y : ScriptLine). order_at s.line (y ∷ rest)) same ∙ ap (λ (b : Bool). cond b (Some s.order) (order_at s.line rest)) (itself s.line)
stands_once (x ∷ rest) h (suc k) s e = ap (λ (b : Bool). cond b (Some x.order) (order_at s.line rest)) (differs x.line s.line (above x rest h k s e)) ∙ stands_once rest (rest_rises x rest h) k s e

-- an order that is found stands in the script
pub found : (script : Script) (line : ℕ) (o : Order) → order_at line script ≡ Some o → (k : ℕ) × (s : ScriptLine) × (slice_get script k ≡ Some s) × (s.order ≡ o)
found [] line o e = absurd cc
found (x ∷ rest) line o e = go (x.line == line) e (λ f. found rest line o f)
  where
    go : (b : Bool) → cond b (Some x.order) (order_at line rest) ≡ Some o → (order_at line rest ≡ Some o → (k : ℕ) × (s : ScriptLine) × (slice_get rest k ≡ Some s) × (s.order ≡ o)) → (k : ℕ) × (s : ScriptLine) × (slice_get (x ∷ rest) k ≡ Some s) × (s.order ≡ o)
    go true f further = let same : x.order ≡ o = cc in (0, x, refl, same)
    go false f further = let r = further f in (suc r.0, r.1, r.2, r.3)

-- ---- each `run` line has its context, each `type` line its text

-- a count of lines before a line, and of all lines
abbrev before : (Order → ℕ) → ℕ → Script → ℕ
before one line [] = 0
before one line (s ∷ rest) = cond (s.line == line) 0 (one s.order + before one line rest)

abbrev all : (Order → ℕ) → Script → ℕ
all one [] = 0
all one (s ∷ rest) = one s.order + all one rest

-- before a line that counts there are fewer than in all
fewer : (one : Order → ℕ) (script : Script) → Rises script → (k : ℕ) (s : ScriptLine) → slice_get script k ≡ Some s → one s.order ≡ 1 → before one s.line script < all one script
fewer one [] h zero s e c = absurd cc
fewer one [] h (suc k) s e c = absurd cc
fewer one (x ∷ rest) h zero s e c =
    let same : s ≡ x = cc in
    let here : before one s.line (x ∷ rest) ≡ 0 = ap (λ (y : ScriptLine). before one y.line (x ∷ rest)) same ∙ ap (λ (b : Bool). cond b 0 (one x.order + before one x.line rest)) (itself x.line) in
    let counts : one x.order ≡ 1 = ap (λ (y : ScriptLine). one y.order) (sym same) ∙ c in
    omega (arith, here, counts)
fewer one (x ∷ rest) h (suc k) s e c =
    let further : before one s.line (x ∷ rest) ≡ one x.order + before one s.line rest = ap (λ (b : Bool). cond b 0 (one x.order + before one s.line rest)) (differs x.line s.line (above x rest h k s e)) in
    let less = fewer one rest (rest_rises x rest h) k s e c in
    omega (arith, further, less)

runs_are : (line : ℕ) (script : Script) → runs_before line script ≡ before one_run line script
runs_are line [] = refl
runs_are line (s ∷ rest) = ap (λ (n : ℕ). cond (s.line == line) 0 (one_run s.order + n)) (runs_are line rest)

all_runs : (script : Script) → run_count script ≡ all one_run script
all_runs [] = refl
all_runs (s ∷ rest) = ap (λ (n : ℕ). one_run s.order + n) (all_runs rest)

feeds_are : (line : ℕ) (script : Script) → feeds_before line script ≡ before one_feed line script
feeds_are line [] = refl
feeds_are line (s ∷ rest) = ap (λ (n : ℕ). cond (s.line == line) 0 (one_feed s.order + n)) (feeds_are line rest)

text_counts : (o : Order) (rest : List (List ℕ)) → length (text_of o rest) ≡ one_feed o + length rest
text_counts (order.Run words) rest = omega arith
text_counts (order.Kill p s) rest = omega arith
text_counts (order.Move p to) rest = omega arith
text_counts (order.Feed text) rest = grind arith
text_counts order.Eof rest = omega arith
text_counts (order.Wait p) rest = omega arith
text_counts (order.After p count) rest = omega arith
text_counts (order.Held p) rest = omega arith
text_counts (order.Slots count) rest = omega arith

all_feeds : (script : Script) → length (texts script) ≡ all one_feed script
all_feeds [] = refl
all_feeds (s ∷ rest) = text_counts s.order (texts rest) ∙ ap (λ (n : ℕ). one_feed s.order + n) (all_feeds rest)

is_less : (a b : ℕ) → a < b → nat_lt a b ≡ true
is_less a b h = grind (arith, nat_tests)

-- the context of a `run` line stands in the list of contexts
pub has_image : (script : Script) (images : ℕ) → images ≡ run_count script → Rises script → (k : ℕ) (s : ScriptLine) → slice_get script k ≡ Some s → (words : List (List ℕ)) → s.order ≡ order.Run words → nat_lt (runs_before s.line script) images ≡ true
has_image script images count h k s e words f =
    let less = fewer one_run script h k s e (ap one_run f) in
    let a = runs_are s.line script in
    let b = count ∙ all_runs script in
    is_less (runs_before s.line script) images (omega (arith, less, a, b))

pub has_text : (script : Script) → Rises script → (k : ℕ) (s : ScriptLine) → slice_get script k ≡ Some s → (bytes : List ℕ) → s.order ≡ order.Feed bytes → nat_lt (feeds_before s.line script) (length (texts script)) ≡ true
has_text script h k s e bytes f =
    let less = fewer one_feed script h k s e (ap one_feed f) in
    let a = feeds_are s.line script in
    let b = all_feeds script in
    is_less (feeds_before s.line script) (length (texts script)) (omega (arith, less, a, b))
