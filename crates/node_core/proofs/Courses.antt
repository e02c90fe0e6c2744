-- How home follows its script: which context a `run` line launches, and what is left after a line.
use Rattle.std.proofs.Common.{◌≡◌, ℕ, zero, suc, ◌+◌, ◌<◌, ◌≤◌, cond, Bool, Some, List, [], ◌∷◌, ◌++◌, length, take, slice_get, refl, sym, ap, ◌∙◌, arith, append_assoc}
use Rattle.std.specs.Prelude.{reverse}
use Rattle.std.proofs.lemmas.List.{reverse-append}
use Rattle.node_event.specs.declared.script.Order.{Order}
use Rattle.node_event.specs.declared.script.Order.TheVariants as order
use Rattle.node_event.specs.declared.script.ScriptLine.{ScriptLine}
use Rattle.user_spec.specs.User.{UserState}
use Rattle.protocol.specs.Deeds.{one_run, one_feed, runs_before, feeds_before}
use Rattle.protocol.proofs.Talk.{same_numbers, other_numbers}
use Rattle.node_machine.specs.Plan.{Plan, IsPlan, run_count, user_at, texts, text_of, text_at}

abbrev Rises : List ScriptLine → Type 0
Rises script = (k : ℕ) (a b : ScriptLine) → slice_get script k ≡ Some a → slice_get script (suc k) ≡ Some b → a.line < b.line

above : (s : ScriptLine) (script : List ScriptLine) → Rises (s ∷ script) → (k : ℕ) (t : ScriptLine) → slice_get script k ≡ Some t → s.line < t.line
above s [] h zero t e = absurd cc
above s [] h (suc k) t e = absurd cc
above s (x ∷ rest) h zero t e = h 0 s t refl e
above s (x ∷ rest) h (suc k) t e = let a = h 0 s x refl refl in (let b = above x rest (λ j. h (suc j)) k t e in omega (arith, a, b))

-- the `run` lines before a line are those of the lines before it
pub runs_taken : (script : List ScriptLine) → Rises script → (k : ℕ) (s : ScriptLine) → slice_get script k ≡ Some s → runs_before s.line script ≡ run_count (take k script)
runs_taken [] h zero s e = absurd cc
runs_taken [] h (suc k) s e = absurd cc
runs_taken (x ∷ rest) h zero s e =
    let same : x ≡ s = cc in
    ap (λ (b : Bool). cond b 0 (one_run x.order + runs_before s.line rest)) (same_numbers x.line s.line (ap (λ (y : ScriptLine). y.line) same))
runs_taken (x ∷ rest) h (suc k) s e =
    let less = above x rest h k s e in
    ap (λ (b : Bool). cond b 0 (one_run x.order + runs_before s.line rest)) (other_numbers x.line s.line (λ same. omega (arith, less, same)))
    ∙ ap (λ (n : ℕ). one_run x.order + n) (runs_taken rest (λ j. h (suc j)) k s e)

-- and one line more
pub run_step : (script : List ScriptLine) (k : ℕ) (s : ScriptLine) → slice_get script k ≡ Some s → run_count (take (k + 1) script) ≡ run_count (take k script) + one_run s.order
run_step [] zero s e = absurd cc
run_step [] (suc k) s e = absurd cc
run_step (x ∷ rest) zero s e = let same : x ≡ s = cc in let one = ap (λ (y : ScriptLine). one_run y.order) same in omega (arith, one)
run_step (x ∷ rest) (suc k) s e =
    let next : suc k + 1 ≡ suc (k + 1) = omega arith in
    let more = run_step rest k s e in
    ap (λ (n : ℕ). run_count (take n (x ∷ rest))) next ∙ omega (arith, more)

pub get_in : (script : List ScriptLine) (k : ℕ) (s : ScriptLine) → slice_get script k ≡ Some s → k < length script
get_in [] zero s e = absurd cc
get_in [] (suc k) s e = absurd cc
get_in (x ∷ rest) zero s e = omega arith
get_in (x ∷ rest) (suc k) s e = let m = get_in rest k s e in omega (arith, m)

pub line_in : (script : List ScriptLine) (k : ℕ) (s : ScriptLine) → slice_get script k ≡ Some s → k + 1 ≤ length script
line_in script k s e = let m = get_in script k s e in omega (arith, m)

-- the context behind others
pub user_after : (front : List UserState) (u : UserState) (back : List UserState) (p : ℕ) → user_at (front ++ u ∷ back) (length front) p ≡ record u { pid = p }
user_after [] u back p = refl
user_after (x ∷ front) u back p = user_after front u back p

-- what is left where the last one was taken out
pub users_left : (all launched users rest : List UserState) (u : UserState) → all ≡ launched ++ reverse users → users ≡ rest ++ u ∷ [] → all ≡ launched ++ u ∷ reverse rest
users_left all launched users rest u is pop = is ∙ (ap (λ us. launched ++ reverse us) pop ∙ ap (λ us. launched ++ us) (reverse-append rest (u ∷ [])))

pub users_more : (launched rest : List UserState) (u : UserState) → launched ++ u ∷ reverse rest ≡ (launched ++ u ∷ []) ++ reverse rest
users_more launched rest u = sym (append_assoc launched (u ∷ []) (reverse rest))

-- the line after this one is a later one
pub next_above : (plan : Plan) → IsPlan plan → (k : ℕ) (s : ScriptLine) → slice_get plan.script k ≡ Some s → (t : ScriptLine) → slice_get plan.script (k + 1) ≡ Some t → s.line + 1 ≤ t.line
next_above plan p k s here t there = let next : k + 1 ≡ suc k = omega arith in let less = p.rising k s t here (sym (ap (slice_get plan.script) next) ∙ there) in omega (arith, less)

-- ---- the text of a `type` line

one_more_text : (o : Order) (rest : List (List ℕ)) (n : ℕ) → text_at (text_of o rest) (one_feed o + n) ≡ text_at rest n
one_more_text (order.Run words) rest n = let e : 0 + n ≡ n = omega arith in ap (text_at rest) e
one_more_text (order.Kill p s) rest n = let e : 0 + n ≡ n = omega arith in ap (text_at rest) e
one_more_text (order.Move p to) rest n = let e : 0 + n ≡ n = omega arith in ap (text_at rest) e
one_more_text (order.Feed text) rest n = let e : 1 + n ≡ suc n = omega arith in ap (text_at (text ∷ rest)) e
one_more_text order.Eof rest n = let e : 0 + n ≡ n = omega arith in ap (text_at rest) e
one_more_text (order.Wait p) rest n = let e : 0 + n ≡ n = omega arith in ap (text_at rest) e
one_more_text (order.After p count) rest n = let e : 0 + n ≡ n = omega arith in ap (text_at rest) e
one_more_text (order.Held p) rest n = let e : 0 + n ≡ n = omega arith in ap (text_at rest) e
one_more_text (order.Slots count) rest n = let e : 0 + n ≡ n = omega arith in ap (text_at rest) e

pub text_taken : (script : List ScriptLine) → Rises script → (k : ℕ) (s : ScriptLine) (text : List ℕ) → slice_get script k ≡ Some s → s.order ≡ order.Feed text → text_at (texts script) (feeds_before s.line script) ≡ text
text_taken [] h zero s text e is = absurd cc
text_taken [] h (suc k) s text e is = absurd cc
text_taken (x ∷ rest) h zero s text e is =
    let same : x ≡ s = cc in
    let here : feeds_before s.line (x ∷ rest) ≡ 0 = ap (λ (b : Bool). cond b 0 (one_feed x.order + feeds_before s.line rest)) (same_numbers x.line s.line (ap (λ (y : ScriptLine). y.line) same)) in
    ap (text_at (texts (x ∷ rest))) here ∙ ap (λ (o : Order). text_at (text_of o (texts rest)) 0) (ap (λ (y : ScriptLine). y.order) same ∙ is)
text_taken (x ∷ rest) h (suc k) s text e is =
    let less = above x rest h k s e in
    let further : feeds_before s.line (x ∷ rest) ≡ one_feed x.order + feeds_before s.line rest = ap (λ (b : Bool). cond b 0 (one_feed x.order + feeds_before s.line rest)) (other_numbers x.line s.line (λ same. omega (arith, less, same))) in
    ap (text_at (texts (x ∷ rest))) further ∙ (one_more_text x.order (texts rest) (feeds_before s.line rest) ∙ text_taken rest (λ j. h (suc j)) k s text e is)
