-- The journals of nodes, woven, are in the order in which the laws read them.
use Rattle.std.proofs.Common.{◌≡◌, ◌⊎◌, inl, inr, ℕ, zero, suc, ◌<◌, ◌≤◌, ◌==◌, nat_eq, Bool, true, false, cond, List, [], ◌∷◌, ◌++◌, reverse, length, refl, sym, ap, ◌∙◌, subst, arith, Some, None, append-nil}
use Rattle.std.specs.Prelude.{slice_get, get_or}
use Rattle.std.proofs.lemmas.Bool.{cases_lt, eq-eqb, eqb-true}
use Rattle.std.proofs.lemmas.Option.{slice_get_cases}
use Rattle.std.proofs.lemmas.List.{map-append, length-map, length-reverse}
use Rattle.std.proofs.lemmas.List.Elements.{filter-append}
use mathlib.Core.List.{reverse-cons}
use Rattle.node_event.specs.declared.event.Event.{Event}
use Rattle.node_event.specs.declared.script.ScriptLine.{ScriptLine}
use Rattle.node_event.specs.Journals.{JournalState}
use Rattle.protocol.specs.Deeds.{Noted, noted, all_noted}
use Rattle.run_laws.specs.Carried.{Later, Sorted}
use Rattle.run_laws.specs.Carried as laws
use Rattle.node_machine.specs.Plan.{Plan}
use Rattle.node_core.specs.declared.node.Node.{Node}
use Rattle.weave.specs.Weaves.{Each, Precedes, IsRising, own_events, events_at}
use Rattle.cluster_run.specs.Over.{AreWoven}
use Rattle.mosix_shell.specs.Left.{journals_of}

-- ---- no event is of a node that is none

absent_tail : (n : ℕ) (e : Event) (es : List Event) (b : Bool) → cond b (e ∷ own_events n es) (own_events n es) ≡ [] → own_events n es ≡ []
absent_tail n e es true h = absurd cc
absent_tail n e es false h = h

absent_head : (e : Event) (rest : List Event) (b : Bool) → b ≡ true → cond b (e ∷ rest) rest ≡ [] → ⊥
absent_head e rest true t h = cc
absent_head e rest false t h = cc

all_below : (count : ℕ) (es : List Event) → ((n : ℕ) → count ≤ n → own_events n es ≡ []) → Each (λ e. e.node < count) es
all_below count [] h = tt
all_below count (e ∷ es) h = (here, all_below count es (λ n m. absent_tail n e es (nat_eq e.node n) (h n m)))
  where
    here : e.node < count
    here = elim (cases_lt e.node count) [
      | inl less ↦ less
      | inr more ↦ absurd (absent_head e (own_events e.node es) (nat_eq e.node e.node) (eq-eqb e.node e.node refl) (h e.node more))
    ]

no_journal : (n : ℕ) (journals : List JournalState) → length journals ≤ n → events_at n journals ≡ []
no_journal n [] h = refl
no_journal zero (j ∷ js) h = absurd (omega (arith, h))
no_journal (suc n) (j ∷ js) h = no_journal n js (omega (arith, h))

journal_at : (k : ℕ) (nodes : List Node) (n : Node) → slice_get nodes k ≡ Some n → events_at k (journals_of nodes) ≡ n.journal.events
journal_at k [] n e = absurd cc
journal_at zero (x ∷ nodes) n e = let same : x ≡ n = cc in ap (λ (y : Node). y.journal.events) same
journal_at (suc k) (x ∷ nodes) n e = journal_at k nodes n e

-- ---- the events of a node, the last one first

own_reversed : (n : ℕ) (es : List Event) → own_events n (reverse es) ≡ reverse (own_events n es)
own_reversed n [] = refl
own_reversed n (e ∷ es) =
    ap (own_events n) (reverse-cons e es) ∙ (filter-append (λ x. nat_eq x.node n) (reverse es) (e ∷ []) ∙ (ap (λ (xs : List Event). xs ++ own_events n (e ∷ [])) (own_reversed n es) ∙ last (nat_eq e.node n) (own_events n es)))
  where
    last : (b : Bool) (rest : List Event) → reverse rest ++ cond b (e ∷ []) [] ≡ reverse (cond b (e ∷ rest) rest)
    last true rest = sym (reverse-cons e rest)
    last false rest = append-nil (reverse rest)

module _ (script : List ScriptLine) where
  own_same : (n : ℕ) (es : List Event) → laws.own_events n (all_noted script es) ≡ all_noted script (own_events n es)
  own_same n [] = refl
  own_same n (e ∷ es) = go (nat_eq e.node n) (own_same n es)
    where
      go : (b : Bool) → laws.own_events n (all_noted script es) ≡ all_noted script (own_events n es)
          → cond b (noted script e ∷ laws.own_events n (all_noted script es)) (laws.own_events n (all_noted script es)) ≡ all_noted script (cond b (e ∷ own_events n es) (own_events n es))
      go true h = ap (λ (xs : List Noted). noted script e ∷ xs) h
      go false h = h

  noted_back : (e : Event) (es : List Event) → all_noted script (reverse (e ∷ es)) ≡ all_noted script (reverse es) ++ noted script e ∷ []
  noted_back e es = ap (all_noted script) (reverse-cons e es) ∙ map-append (λ (x : Event). noted script x) (reverse es) (e ∷ [])

  noted_reversed : (es : List Event) → all_noted script (reverse es) ≡ reverse (all_noted script es)
  noted_reversed [] = refl
  noted_reversed (e ∷ es) = noted_back e es ∙ (ap (λ (xs : List Noted). xs ++ noted script e ∷ []) (noted_reversed es) ∙ sym (reverse-cons (noted script e) (all_noted script es)))

  -- ---- in order

  each_end : (P : Noted → Type 0) (xs : List Noted) (y : Noted) → laws.Each P xs → P y → laws.Each P (xs ++ y ∷ [])
  each_end P [] y h p = (p, tt)
  each_end P (x ∷ xs) y h p = (h.0, each_end P xs y h.1 p)

  each_reversed : (P : Event → Type 0) (Q : Noted → Type 0) → ((e : Event) → P e → Q (noted script e)) → (es : List Event) → Each P es → laws.Each Q (all_noted script (reverse es))
  each_reversed P Q f [] h = tt
  each_reversed P Q f (e ∷ es) h = subst (laws.Each Q) (sym (noted_back e es)) (each_end Q (all_noted script (reverse es)) (noted script e) (each_reversed P Q f es h.1) (f e h.0))

  sorted_end : (xs : List Noted) (y : Noted) → Sorted xs → laws.Each (λ x. Later x y) xs → Sorted (xs ++ y ∷ [])
  sorted_end [] y s l = (tt, tt)
  sorted_end (x ∷ xs) y s l = (each_end (λ f. Later x f) xs y s.0 l.0, sorted_end xs y s.1 l.1)

  sorted_reversed : (es : List Event) → IsRising es → Sorted (all_noted script (reverse es))
  sorted_reversed [] h = tt
  sorted_reversed (e ∷ es) h = subst Sorted (sym (noted_back e es)) (sorted_end (all_noted script (reverse es)) (noted script e) (sorted_reversed es h.1) (each_reversed (Precedes e) (λ x. Later x (noted script e)) (λ f l. l) es h.0))

-- ---- what a weave gives

pub are_woven : (plan : Plan) (nodes : List Node) (events : List Event) → IsRising events → ((n : ℕ) → own_events n events ≡ events_at n (journals_of nodes)) → AreWoven plan nodes (reverse events)
are_woven plan nodes events rising own = record {
  sorted = sorted_reversed plan.script events rising;
  own = λ k n at.
      own_same plan.script k (reverse events)
      ∙ (ap (all_noted plan.script) (own_reversed k events ∙ ap reverse (own k ∙ journal_at k nodes n at))
      ∙ noted_reversed plan.script n.journal.events);
  below = each_reversed plan.script (λ e. e.node < length nodes) (λ e. e.node < length nodes) (λ e h. h) events
      (all_below (length nodes) events (λ n more. own n ∙ no_journal n (journals_of nodes) (omega (arith, more, length-map nodes (λ (x : Node). x.journal)))));
}

-- ---- how many events a node has

other_noted : (n : ℕ) (es : List Noted) → laws.Each (λ e. (e.node == n) ≡ false) es → laws.own_events n es ≡ []
other_noted n [] h = refl
other_noted n (e ∷ es) h = ap (λ (b : Bool). cond b (e ∷ laws.own_events n es) (laws.own_events n es)) h.0 ∙ other_noted n es h.1

each_weaker : (P Q : Noted → Type 0) → ((e : Noted) → P e → Q e) → (es : List Noted) → laws.Each P es → laws.Each Q es
each_weaker P Q f [] h = tt
each_weaker P Q f (e ∷ es) h = (f e h.0, each_weaker P Q f es h.1)

apart : (a count n : ℕ) → a < count → count ≤ n → (a == n) ≡ false
apart a count n less more = go (a == n) refl
  where
    go : (b : Bool) → (a == n) ≡ b → b ≡ false
    go true t = let same : a ≡ n = eqb-true a n t in absurd (omega (arith, same, less, more))
    go false t = refl

pub most_events : (plan : Plan) (nodes : List Node) (room : ℕ) (es : List Event) → AreWoven plan nodes es → ((k : ℕ) (n : Node) → slice_get nodes k ≡ Some n → length n.journal.events ≤ room) → (n : ℕ) → length (laws.own_events n (all_noted plan.script es)) ≤ room
most_events plan nodes room es woven most n = go (slice_get_cases nodes n).1
  where
    here : (x : Node) → slice_get nodes n ≡ Some x → length (laws.own_events n (all_noted plan.script es)) ≤ room
    here x at = let same = ap length (woven.own n x at) ∙ (length-reverse (all_noted plan.script x.journal.events) ∙ length-map x.journal.events (λ (e : Event). noted plan.script e)) in omega (arith, same, most n x at)

    past : length nodes ≤ n → length (laws.own_events n (all_noted plan.script es)) ≤ room
    past more =
        let none = ap length (other_noted n (all_noted plan.script es) (each_weaker (λ e. e.node < length nodes) (λ e. (e.node == n) ≡ false) (λ e less. apart e.node (length nodes) n less more) (all_noted plan.script es) woven.below)) in
        omega (arith, none)

    go : ((x : Node) × (n < length nodes) × (slice_get nodes n ≡ Some x) × (get_or nodes n x ≡ x)) ⊎ ((length nodes ≤ n) × (slice_get nodes n ≡ None)) → length (laws.own_events n (all_noted plan.script es)) ≤ room
    go (inl (x, less, at, same)) = here x at
    go (inr (more, none)) = past more
