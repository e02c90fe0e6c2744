-- The small machine can go on wherever it does not ask, and so can its move script.
use Rattle.std.proofs.Common.{◌≡◌, ◌≢◌, ◌<◌, ℕ, zero, suc, ◌+◌, true, Option, Some, None, List, [], ◌∷◌, refl, ap, ◌∙◌, subst, arith}
use Rattle.std.specs.Prelude.{slice_get, nat_lt}
use Rattle.node_event.specs.declared.script.Order.TheVariants as order
use Rattle.node_event.specs.declared.script.ScriptLine.{ScriptLine}
use Rattle.protocol.specs.Deeds.{runs_before, feeds_before}
use Rattle.run_laws.specs.SmallMachine.{Program, Thing, Goes, Calls, gone, with_todo, asked}
use Rattle.run_laws.specs.Histories.{move_script, mover}
use Rattle.run_laws.specs.Going.{Able}

gone_more : (todo rest : List Thing) (k : ℕ) → gone todo k ≡ Some rest → gone todo (k + 1) ≡ gone rest 1
gone_more todo rest zero e = let same : todo ≡ rest = cc in ap (λ (x : List Thing). gone x 1) same
gone_more [] rest (suc k) e = absurd cc
gone_more (Goes ∷ todo) rest (suc k) e = let sum : suc k + 1 ≡ suc (k + 1) = omega arith in ap (gone (Goes ∷ todo)) sum ∙ gone_more todo rest k e
gone_more (Calls r ∷ todo) rest (suc k) e = absurd cc

went_goes : (u : Program) (todo : List Thing) → asked todo ≡ None → with_todo u (gone todo 1) ≢ None
went_goes u [] e f = cc
went_goes u (Goes ∷ todo) e f = cc
went_goes u (Calls r ∷ todo) e f = cc

went_more : (u : Program) (todo : List Thing) (v : Program) (k : ℕ) → with_todo u (gone todo k) ≡ Some v → with_todo u (gone todo (k + 1)) ≡ with_todo v (gone v.todo 1)
went_more u todo v k e = go (gone todo k) refl e
  where
    go : (o : Option (List Thing)) → gone todo k ≡ o → with_todo u o ≡ Some v → with_todo u (gone todo (k + 1)) ≡ with_todo v (gone v.todo 1)
    go None x f = absurd cc
    go (Some rest) x f = let same : record { pid = u.pid; pages = u.pages; todo = rest } ≡ v = cc in ap (with_todo u) (gone_more todo rest k x) ∙ ap (λ (y : Program). with_todo y (gone y.todo 1)) same

abbrev one : ScriptLine
one = record { line = 1; order = order.Run [] }

abbrev two : ScriptLine
two = record { line = 2; order = order.Move 1 1 }

pub mover_able : Able mover
mover_able = record {
  rising = rising;
  image = image;
  text = text;
  signal = λ k s e p g f. refl;
  quantum = omega arith;
  goes = λ u e. went_goes u u.todo e;
  more = λ u v k e. went_more u u.todo v k e;
  answers = λ s. (None, refl);
}
  where
    rising : (k : ℕ) (a b : ScriptLine) → slice_get move_script k ≡ Some a → slice_get move_script (suc k) ≡ Some b → a.line < b.line
    rising zero a b e f = let x : one ≡ a = cc in let y : two ≡ b = cc in subst (λ (z : ScriptLine). z.line < b.line) x (subst (λ (z : ScriptLine). 1 < z.line) y (omega arith))
    rising (suc zero) a b e f = absurd cc
    rising (suc (suc k)) a b e f = absurd cc

    image : (k : ℕ) (s : ScriptLine) → slice_get move_script k ≡ Some s → (words : List (List ℕ)) → s.order ≡ order.Run words → nat_lt (runs_before s.line move_script) 1 ≡ true
    image zero s e words f = let x : one ≡ s = cc in subst (λ (z : ScriptLine). nat_lt (runs_before z.line move_script) 1 ≡ true) x refl
    image (suc zero) s e words f = let x : two ≡ s = cc in let y : order.Move 1 1 ≡ order.Run words = ap (λ (z : ScriptLine). z.order) x ∙ f in absurd cc
    image (suc (suc k)) s e words f = absurd cc

    text : (k : ℕ) (s : ScriptLine) → slice_get move_script k ≡ Some s → (bytes : List ℕ) → s.order ≡ order.Feed bytes → nat_lt (feeds_before s.line move_script) 0 ≡ true
    text zero s e bytes f = let x : one ≡ s = cc in let y : order.Run [] ≡ order.Feed bytes = ap (λ (z : ScriptLine). z.order) x ∙ f in absurd cc
    text (suc zero) s e bytes f = let x : two ≡ s = cc in let y : order.Move 1 1 ≡ order.Feed bytes = ap (λ (z : ScriptLine). z.order) x ∙ f in absurd cc
    text (suc (suc k)) s e bytes f = absurd cc
