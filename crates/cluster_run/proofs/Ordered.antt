-- The journals of nodes that acted by themselves are journals: their events are their nodes', and their stamps rise.
use Rattle.std.proofs.Common.{◌≡◌, ℕ, suc, ◌+◌, ◌<◌, ◌≤◌, ◌++◌, inl, List, [], ◌∷◌, refl, sym, ap, ◌∙◌, subst, arith, length, map, reverse, Some, slice_get}
use Rattle.std.proofs.lemmas.List.{map-append, reverse-append, reverse-reverse}
use Rattle.node_event.specs.declared.event.Event.{Event}
use Rattle.node_event.specs.declared.script.ScriptLine.{ScriptLine}
use Rattle.node_event.specs.Journals.{JournalState}
use Rattle.protocol.specs.Ops.{Ops}
use Rattle.protocol.specs.Deeds.{Deed, Strange, Noted, noted, all_noted}
use Rattle.protocol.specs.Notes.{Local}
use Rattle.run_laws.specs.Carried.{Each, recorded}
use Rattle.run_laws.specs.Skipping.{Act, Made, Skipped, Lone, journal}
use Rattle.run_laws.proofs.Stamps.{rises}
use Rattle.run_laws.proofs.Cutting.{clock_of, clock_is}
use Rattle.node_core.specs.declared.node.Node.{Node}
use Rattle.weave.specs.Weaves.{Each as Every, InOrder, Precedes, IsRising, AreJournals}

-- ---- the newest first

-- each event is of node n and has a lower stamp than those before it in the list
abbrev Falls : ℕ → ℕ → List Noted → Type 0
Falls n clock es = Each (λ (e : Noted). (e.node ≡ n) × (e.stamp ≤ clock)) es

abbrev Falling : ℕ → List Noted → Type 0
Falling n [] = Unit {0}
Falling n (e ∷ before) = (e.node ≡ n) × Each (λ (f : Noted). f.stamp < e.stamp) before × Falling n before

record Past (n clock : ℕ) (es : List Noted) : Type 0 where
  low : Falls n clock es
  falling : Falling n es

low_more : (n a b : ℕ) (es : List Noted) → a ≤ b → Falls n a es → Falls n b es
low_more n a b [] less low = tt
low_more n a b (e ∷ es) less low = let x = low.0.1 in ((low.0.0, omega (arith, less, x)), low_more n a b es less low.1)

below_all : (n a s : ℕ) (es : List Noted) → a < s → Falls n a es → Each (λ (f : Noted). f.stamp < s) es
below_all n a s [] less low = tt
below_all n a s (e ∷ es) less low = let x = low.0.1 in (omega (arith, less, x), below_all n a s es less low.1)

one_more : (n clock : ℕ) (e : Noted) (what : Deed) (es : List Noted) → e.node ≡ n → clock < e.stamp → Past n clock es → Past n e.stamp (recorded e what ++ es)
one_more n clock e (Strange p) es at up past = record { low = low_more n clock e.stamp es (omega (arith, up)) past.low; falling = past.falling }
one_more n clock e _ es at up past = record { low = ((at, omega arith), low_more n clock e.stamp es (omega (arith, up)) past.low); falling = (at, below_all n clock e.stamp es up past.low, past.falling) }

module _ (O : Ops) where
  past_of : (n : ℕ) (acts : List (Act O)) (l : Local O) → Lone O n acts l → Past n (clock_of O acts) (journal O acts)
  past_of n [] l r = record { low = tt; falling = tt }
  past_of n (Made t ∷ before) l r =
      let up : r.0.clock < t.event.stamp = rises O n r.0 t l r.2 in
      let was : r.0.clock ≡ clock_of O before = clock_is O n before r.0 r.1 in
      one_more n (clock_of O before) t.event t.event.what (journal O before) r.2.node (omega (arith, up, was)) (past_of n before r.0 r.1)
  past_of n (Skipped a m ∷ before) l r = past_of n before r.0 r.1

-- ---- the oldest first

module _ (script : List ScriptLine) where
  stamps_below : (s : ℕ) (es : List Event) → Each (λ (f : Noted). f.stamp < s) (all_noted script es) → Every (λ (f : Event). f.stamp < s) es
  stamps_below s [] e = tt
  stamps_below s (x ∷ es) e = (e.0, stamps_below s es e.1)

every_end : (P : Event → Type 0) (xs : List Event) (y : Event) → Every P xs → P y → Every P (xs ++ (y ∷ []))
every_end P [] y e p = (p, tt)
every_end P (x ∷ xs) y e p = (e.0, every_end P xs y e.1 p)

reverse_more : {A : Type 0} (x : A) (xs : List A) → reverse (x ∷ xs) ≡ reverse xs ++ (x ∷ [])
reverse_more x xs = reverse-append (x ∷ []) xs

every_reverse : (P : Event → Type 0) (xs : List Event) → Every P xs → Every P (reverse xs)
every_reverse P [] e = tt
every_reverse P (x ∷ xs) e = subst (λ (k : List Event). Every P k) (sym (reverse_more x xs)) (every_end P (reverse xs) x (every_reverse P xs e.1) e.0)

ordered_end : (xs : List Event) (y : Event) → IsRising xs → Every (λ (x : Event). x.stamp < y.stamp) xs → IsRising (xs ++ (y ∷ []))
ordered_end [] y r below = (tt, tt)
ordered_end (x ∷ xs) y r below = (every_end (λ (z : Event). Precedes x z) xs y r.0 (inl below.0), ordered_end xs y r.1 below.1)

map_reverse : {A B : Type 0} (f : A → B) (xs : List A) → map f (reverse xs) ≡ reverse (map f xs)
map_reverse {A} {B} f [] = refl
map_reverse {A} {B} f (x ∷ xs) = ap (map f) (reverse_more x xs) ∙ (map-append f (reverse xs) (x ∷ []) ∙ (ap (λ (k : List B). k ++ (f x ∷ [])) (map_reverse f xs) ∙ sym (reverse_more (f x) (map f xs))))

module _ (script : List ScriptLine) (n : ℕ) where
  rising_of : (es : List Event) → Falling n (all_noted script es) → IsRising (reverse es)
  rising_of [] f = tt
  rising_of (e ∷ es) f = subst (λ (k : List Event). IsRising k) (sym (reverse_more e es)) (ordered_end (reverse es) e (rising_of es f.2) (every_reverse (λ (x : Event). x.stamp < e.stamp) es (stamps_below script e.stamp es f.1)))

  at_node : (es : List Event) → Falling n (all_noted script es) → Every (λ (e : Event). e.node ≡ n) es
  at_node [] f = tt
  at_node (e ∷ es) f = (f.0, at_node es f.2)

-- the events of a journal are so
abbrev pub IsJournal : ℕ → List Event → Type 0
IsJournal n es = Every (λ (e : Event). e.node ≡ n) es × IsRising es

pub journal_of : (O : Ops) (script : List ScriptLine) (n : ℕ) (acts : List (Act O)) (l : Local O) (es : List Event) → Lone O n acts l → reverse (all_noted script es) ≡ journal O acts → IsJournal n es
journal_of O script n acts l es lone is =
    let f : Falling n (all_noted script (reverse es)) = subst (λ (k : List Noted). Falling n k) (sym (map_reverse (noted script) es ∙ is)) (past_of O n acts l lone).falling in
    subst (λ (k : List Event). IsJournal n k) (reverse-reverse es) (every_reverse (λ (e : Event). e.node ≡ n) (reverse es) (at_node script n (reverse es) f), rising_of script n (reverse es) f)

pub are_journals : (n : ℕ) (nodes : List Node) → ((k : ℕ) (x : Node) → slice_get nodes k ≡ Some x → IsJournal (n + k) x.journal.events) → AreJournals n (map (λ (x : Node). x.journal) nodes)
are_journals n [] f = tt
are_journals n (x ∷ xs) f =
    let first : IsJournal n x.journal.events = subst (λ (i : ℕ). IsJournal i x.journal.events) (omega arith) (f 0 x refl) in
    (first.0, first.1, are_journals (suc n) xs (λ k y e. subst (λ (i : ℕ). IsJournal i y.journal.events) (omega arith) (f (suc k) y e)))
