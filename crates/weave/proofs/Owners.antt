-- The events of one node in what is merged and woven.
use Rattle.std.proofs.Common.{◌≡◌, ◌≢◌, ℕ, zero, suc, ◌+◌, ◌<◌, nat_eq, Bool, true, false, cond, List, [], ◌∷◌, ◌++◌, refl, sym, ap, ◌∙◌, subst, arith, append-nil, append_assoc}
use Rattle.std.proofs.lemmas.Bool.{eq-eqb, eqb-true}
use Rattle.std.proofs.lemmas.List.Elements.{filter-append}
use Rattle.node_event.specs.declared.event.Event.{Event}
use Rattle.node_event.specs.Journals.{JournalState}
use Rattle.weave.specs.Merges.{merged, until, is_earlier, woven_from}
use Rattle.weave.specs.Weaves.{Each, AreJournals, all_events, own_events, events_at}
use Rattle.weave.proofs.Orders.{by_test, each_map, below_merged}

abbrev Not : ℕ → List Event → Type 0
Not m es = Each (λ e. nat_eq e.node m ≡ false) es

own_until : (m : ℕ) (x : Event) (rest : List Event → List Event) (target : List Event) (ys : List Event) → ((zs : List Event) → Not m zs → own_events m (rest zs) ≡ target) → Not m ys → own_events m (until x rest ys) ≡ cond (nat_eq x.node m) (x ∷ target) target
own_until m x rest target [] r n = ap (λ (w : List Event). cond (nat_eq x.node m) (x ∷ w) w) (r [] tt)
own_until m x rest target (y ∷ ys) r n = by_test (λ (w : List Event). own_events m w ≡ cond (nat_eq x.node m) (x ∷ target) target) (is_earlier y x) (y ∷ until x rest ys) (x ∷ rest (y ∷ ys))
    (λ t. ap (λ (b : Bool). cond b (y ∷ own_events m (until x rest ys)) (own_events m (until x rest ys))) n.0 ∙ own_until m x rest target ys r n.1)
    (λ f. ap (λ (w : List Event). cond (nat_eq x.node m) (x ∷ w) w) (r (y ∷ ys) n))

own_left : (m : ℕ) (xs ys : List Event) → Not m ys → own_events m (merged xs ys) ≡ own_events m xs
own_left m [] [] n = refl
own_left m [] (y ∷ ys) n = ap (λ (b : Bool). cond b (y ∷ own_events m ys) (own_events m ys)) n.0 ∙ own_left m [] ys n.1
own_left m (x ∷ xs) ys n = own_until m x (λ zs. merged xs zs) (own_events m xs) ys (λ zs z. own_left m xs zs z) n

own_until_right : (m : ℕ) (x : Event) (rest : List Event → List Event) (ys : List Event) → ((zs : List Event) → own_events m (rest zs) ≡ own_events m zs) → nat_eq x.node m ≡ false → own_events m (until x rest ys) ≡ own_events m ys
own_until_right m x rest [] r n = ap (λ (b : Bool). cond b (x ∷ own_events m (rest [])) (own_events m (rest []))) n ∙ r []
own_until_right m x rest (y ∷ ys) r n = by_test (λ (w : List Event). own_events m w ≡ own_events m (y ∷ ys)) (is_earlier y x) (y ∷ until x rest ys) (x ∷ rest (y ∷ ys))
    (λ t. ap (λ (w : List Event). cond (nat_eq y.node m) (y ∷ w) w) (own_until_right m x rest ys r n))
    (λ f. ap (λ (b : Bool). cond b (x ∷ own_events m (rest (y ∷ ys))) (own_events m (rest (y ∷ ys)))) n ∙ r (y ∷ ys))

own_right : (m : ℕ) (xs ys : List Event) → Not m xs → own_events m (merged xs ys) ≡ own_events m ys
own_right m [] ys n = refl
own_right m (x ∷ xs) ys n = own_until_right m x (λ zs. merged xs zs) ys (λ zs. own_right m xs zs n.1) n.0

differs : (a m : ℕ) → a ≢ m → nat_eq a m ≡ false
differs a m n = go (nat_eq a m) refl
  where
    go : (b : Bool) → nat_eq a m ≡ b → nat_eq a m ≡ false
    go true t = absurd (n (eqb-true a m t))
    go false t = t

none_own : (m : ℕ) (xs : List Event) → Not m xs → own_events m xs ≡ []
none_own m [] n = refl
none_own m (x ∷ xs) n = ap (λ (b : Bool). cond b (x ∷ own_events m xs) (own_events m xs)) n.0 ∙ none_own m xs n.1

all_own : (m : ℕ) (xs : List Event) → Each (λ e. e.node ≡ m) xs → own_events m xs ≡ xs
all_own m [] o = refl
all_own m (x ∷ xs) o = ap (λ (b : Bool). cond b (x ∷ own_events m xs) (own_events m xs)) (eq-eqb x.node m o.0) ∙ ap (λ (w : List Event). x ∷ w) (all_own m xs o.1)

-- the nodes below k, then the node k
own_merged : (m k : ℕ) (xs ys : List Event) → Each (λ e. e.node < k) xs → Each (λ e. e.node ≡ k) ys → own_events m (merged xs ys) ≡ own_events m xs ++ own_events m ys
own_merged m k xs ys p q = go (nat_eq k m) refl
  where
    go : (b : Bool) → nat_eq k m ≡ b → own_events m (merged xs ys) ≡ own_events m xs ++ own_events m ys
    go true t =
        let s : k ≡ m = eqb-true k m t in
        let n : Not m xs = each_map (λ e. e.node < k) (λ e. nat_eq e.node m ≡ false) xs (λ e h. differs e.node m (λ u. omega arith)) p in
        own_right m xs ys n ∙ ap (λ (w : List Event). w ++ own_events m ys) (sym (none_own m xs n))
    go false t =
        let n : Not m ys = each_map (λ e. e.node ≡ k) (λ e. nat_eq e.node m ≡ false) ys (λ e h. ap (λ (x : ℕ). nat_eq x m) h ∙ t) q in
        own_left m xs ys n ∙ (sym (append-nil (own_events m xs)) ∙ ap (λ (w : List Event). own_events m xs ++ w) (sym (none_own m ys n)))

-- none of the journals from k on has an event of a node below
early_none : (m k : ℕ) (journals : List JournalState) → m < k → AreJournals k journals → own_events m (all_events journals) ≡ []
early_none m k [] l a = refl
early_none m k (j ∷ journals) l a =
    let n : Not m j.events = each_map (λ e. e.node ≡ k) (λ e. nat_eq e.node m ≡ false) j.events (λ e h. differs e.node m (λ u. omega arith)) a.0 in
    filter-append (λ e. nat_eq e.node m) j.events (all_events journals) ∙ (ap (λ (w : List Event). w ++ own_events m (all_events journals)) (none_own m j.events n) ∙ early_none m (suc k) journals (omega arith) a.2)

own_at : (i k m : ℕ) (journals : List JournalState) → m ≡ k + i → AreJournals k journals → own_events m (all_events journals) ≡ events_at i journals
own_at i k m [] e a = refl
own_at zero k m (j ∷ journals) e a =
    let s : k ≡ m = omega arith in
    filter-append (λ x. nat_eq x.node m) j.events (all_events journals)
    ∙ (ap (λ (w : List Event). w ++ own_events m (all_events journals)) (all_own m j.events (subst (λ (x : ℕ). Each (λ e. e.node ≡ x) j.events) s a.0))
    ∙ (ap (λ (w : List Event). j.events ++ w) (early_none m (suc k) journals (omega arith) a.2) ∙ append-nil j.events))
own_at (suc i) k m (j ∷ journals) e a =
    let n : Not m j.events = each_map (λ e. e.node ≡ k) (λ e. nat_eq e.node m ≡ false) j.events (λ x h. differs x.node m (λ u. omega arith)) a.0 in
    filter-append (λ x. nat_eq x.node m) j.events (all_events journals) ∙ (ap (λ (w : List Event). w ++ own_events m (all_events journals)) (none_own m j.events n) ∙ own_at i (suc k) m journals (omega arith) a.2)

own_woven : (m k : ℕ) (woven : List Event) (journals : List JournalState) → Each (λ e. e.node < k) woven → AreJournals k journals → own_events m (woven_from woven journals) ≡ own_events m woven ++ own_events m (all_events journals)
own_woven m k woven [] p a = sym (append-nil (own_events m woven))
own_woven m k woven (j ∷ journals) p a =
    own_woven m (suc k) (merged woven j.events) journals (below_merged k woven j.events p a.0) a.2
    ∙ (ap (λ (w : List Event). w ++ own_events m (all_events journals)) (own_merged m k woven j.events p a.0)
    ∙ (append_assoc (own_events m woven) (own_events m j.events) (own_events m (all_events journals))
    ∙ ap (λ (w : List Event). own_events m woven ++ w) (sym (filter-append (λ e. nat_eq e.node m) j.events (all_events journals)))))

pub owns : (journals : List JournalState) (all : List Event) → all ≡ woven_from [] journals → AreJournals 0 journals → (n : ℕ) → own_events n all ≡ events_at n journals
owns journals all e a n = ap (own_events n) e ∙ (own_woven n 0 [] journals tt a ∙ own_at n 0 n journals (omega arith) a)
