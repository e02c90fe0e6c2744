-- What is merged and woven: the same events, in order.
use Rattle.std.proofs.Common.{◌≡◌, ◌≢◌, ℕ, suc, ◌<◌, ◌≤◌, ◌==◌, inl, inr, Bool, true, false, cond, List, [], ◌∷◌, ◌++◌, refl, sym, ◌∙◌, subst, arith, append_assoc, append-nil}
use Rattle.std.specs.Prelude.{nat_lt, ◌&&◌, ◌||◌, IsPermutation}
use Rattle.std.proofs.lemmas.Bool.{ltb-true, eq-eqb, eqb-true}
use Rattle.std.proofs.lemmas.List.Sorted.{IsPermutation-refl, IsPermutation-cons, IsPermutation-trans, IsPermutation-middle, IsPermutation-append_left}
use Rattle.node_event.specs.declared.event.Event.{Event}
use Rattle.node_event.specs.Journals.{JournalState}
use Rattle.weave.specs.Merges.{merged, until, is_earlier, woven_from}
use Rattle.weave.specs.Weaves.{Each, InOrder, Precedes, MayPrecede, IsRising, IsSorted, AreSorted, AreJournals, all_events}

pub by_test : {A : Type 0} (P : A → Type 0) (b : Bool) (x y : A) → (b ≡ true → P x) → (b ≡ false → P y) → P (cond b x y)
by_test P true x y t f = t refl
by_test P false x y t f = f refl

-- the same events
until_permutes : (x : Event) (rest : List Event → List Event) (xs ys : List Event) → ((zs : List Event) → IsPermutation (xs ++ zs) (rest zs)) → IsPermutation (x ∷ (xs ++ ys)) (until x rest ys)
until_permutes x rest xs [] r = IsPermutation-cons x (xs ++ []) (rest []) (r [])
until_permutes x rest xs (y ∷ ys) r =
    by_test (IsPermutation (x ∷ (xs ++ y ∷ ys))) (is_earlier y x) (y ∷ until x rest ys) (x ∷ rest (y ∷ ys))
    (λ t. IsPermutation-trans (x ∷ (xs ++ y ∷ ys)) (y ∷ (x ∷ (xs ++ ys))) (y ∷ until x rest ys) (IsPermutation-middle (x ∷ xs) y ys) (IsPermutation-cons y (x ∷ (xs ++ ys)) (until x rest ys) (until_permutes x rest xs ys r)))
    (λ f. IsPermutation-cons x (xs ++ y ∷ ys) (rest (y ∷ ys)) (r (y ∷ ys)))

merged_permutes : (xs ys : List Event) → IsPermutation (xs ++ ys) (merged xs ys)
merged_permutes [] ys = IsPermutation-refl ys
merged_permutes (x ∷ xs) ys = until_permutes x (λ zs. merged xs zs) xs ys (λ zs. merged_permutes xs zs)

woven_permutes : (woven : List Event) (journals : List JournalState) → IsPermutation (woven ++ all_events journals) (woven_from woven journals)
woven_permutes woven [] = subst (λ (w : List Event). IsPermutation w woven) (sym (append-nil woven)) (IsPermutation-refl woven)
woven_permutes woven (j ∷ journals) =
    IsPermutation-trans (woven ++ (j.events ++ all_events journals)) (merged woven j.events ++ all_events journals) (woven_from (merged woven j.events) journals)
    (subst (λ (w : List Event). IsPermutation w (merged woven j.events ++ all_events journals)) (append_assoc woven j.events (all_events journals)) (IsPermutation-append_left (all_events journals) (woven ++ j.events) (merged woven j.events) (merged_permutes woven j.events)))
    (woven_permutes (merged woven j.events) journals)

pub same_events : (journals : List JournalState) (all : List Event) → all ≡ woven_from [] journals → IsPermutation (all_events journals) all
same_events journals all e = subst (IsPermutation (all_events journals)) (sym e) (woven_permutes [] journals)

-- what holds of each
pub each_map : (P Q : Event → Type 0) (xs : List Event) → ((e : Event) → P e → Q e) → Each P xs → Each Q xs
each_map P Q [] f p = tt
each_map P Q (x ∷ xs) f p = (f x p.0, each_map P Q xs f p.1)

each_until : (P : Event → Type 0) (x : Event) (rest : List Event → List Event) (ys : List Event) → P x → ((zs : List Event) → Each P zs → Each P (rest zs)) → Each P ys → Each P (until x rest ys)
each_until P x rest [] px r p = (px, r [] tt)
each_until P x rest (y ∷ ys) px r p = by_test (Each P) (is_earlier y x) (y ∷ until x rest ys) (x ∷ rest (y ∷ ys)) (λ t. (p.0, each_until P x rest ys px r p.1)) (λ f. (px, r (y ∷ ys) p))

pub each_merged : (P : Event → Type 0) (xs ys : List Event) → Each P xs → Each P ys → Each P (merged xs ys)
each_merged P [] ys p q = q
each_merged P (x ∷ xs) ys p q = each_until P x (λ zs. merged xs zs) ys p.0 (λ zs z. each_merged P xs zs p.1 z) q

-- a relation that passes on, and that the test finds between events that P and Q hold of
record IsOrder (P Q : Event → Type 0) (R : Event → Event → Type 0) : Type 0 where
  trans : (a b c : Event) → R a b → R b c → R a c
  earlier : (y x : Event) → Q y → P x → is_earlier y x ≡ true → R y x
  later : (y x : Event) → Q y → P x → is_earlier y x ≡ false → R x y

module _ (P Q : Event → Type 0) (R : Event → Event → Type 0) (o : IsOrder P Q R) where
  order_until : (x : Event) (xs ys : List Event) → P x → Each (R x) xs → ((zs : List Event) → Each Q zs → InOrder R zs → InOrder R (merged xs zs)) → Each Q ys → InOrder R ys → InOrder R (until x (λ zs. merged xs zs) ys)
  order_until x xs [] px l r q s = (each_merged (R x) xs [] l tt, r [] tt tt)
  order_until x xs (y ∷ ys) px l r q s =
      by_test (InOrder R) (is_earlier y x) (y ∷ until x (λ zs. merged xs zs) ys) (x ∷ merged xs (y ∷ ys))
      (λ t. let a : R y x = o.earlier y x q.0 px t in
      (each_until (R y) x (λ zs. merged xs zs) ys a (λ zs z. each_merged (R y) xs zs (each_map (R x) (R y) xs (λ e h. o.trans y x e a h) l) z) s.0, order_until x xs ys px l r q.1 s.1))
      (λ f. let a : R x y = o.later y x q.0 px f in
      (each_merged (R x) xs (y ∷ ys) l (a, each_map (R y) (R x) ys (λ e h. o.trans x y e a h) s.0), r (y ∷ ys) q s))

  order_merged : (xs ys : List Event) → Each P xs → InOrder R xs → Each Q ys → InOrder R ys → InOrder R (merged xs ys)
  order_merged [] ys p r q s = s
  order_merged (x ∷ xs) ys p r q s = order_until x xs ys p.0 r.0 (λ zs z w. order_merged xs zs p.1 r.1 z w) q s

-- the two orders
pub true_precedes : (y x : Event) → is_earlier y x ≡ true → Precedes y x
true_precedes y x e = go (nat_lt y.stamp x.stamp) (y.stamp == x.stamp) (nat_lt y.node x.node) refl refl refl e
  where
    go : (a b c : Bool) → nat_lt y.stamp x.stamp ≡ a → (y.stamp == x.stamp) ≡ b → nat_lt y.node x.node ≡ c → (a || (b && c)) ≡ true → Precedes y x
    go true b c p q r e = inl (ltb-true y.stamp x.stamp p)
    go false true true p q r e = inr (eqb-true y.stamp x.stamp q, ltb-true y.node x.node r)
    go false true false p q r e = absurd cc
    go false false c p q r e = absurd cc

pub false_may : (y x : Event) → is_earlier y x ≡ false → MayPrecede x y
false_may y x e = go (nat_lt y.stamp x.stamp) (y.stamp == x.stamp) (nat_lt y.node x.node) refl refl refl e
  where
    over : (a b : ℕ) → nat_lt a b ≡ false → b ≤ a
    over a b f = grind arith

    differ : (a b : ℕ) → (a == b) ≡ false → a ≡ b → ⊥
    differ a b f e = let z : true ≡ false = sym (eq-eqb a b e) ∙ f in cc

    go : (a b c : Bool) → nat_lt y.stamp x.stamp ≡ a → (y.stamp == x.stamp) ≡ b → nat_lt y.node x.node ≡ c → (a || (b && c)) ≡ false → MayPrecede x y
    go true b c p q r e = absurd cc
    go false true true p q r e = absurd cc
    go false true false p q r e = inr (sym (eqb-true y.stamp x.stamp q), over y.node x.node r)
    go false false c p q r e = let m = over y.stamp x.stamp p in let n = differ y.stamp x.stamp q in inl (omega arith)

precedes_trans : (a b c : Event) → Precedes a b → Precedes b c → Precedes a c
precedes_trans a b c (inl l) (inl m) = inl (omega arith)
precedes_trans a b c (inl l) (inr m) = inl (omega arith)
precedes_trans a b c (inr l) (inl m) = inl (omega arith)
precedes_trans a b c (inr l) (inr m) = inr (l.0 ∙ m.0, omega arith)

pub precedes_may : (a b c : Event) → Precedes a b → MayPrecede b c → Precedes a c
precedes_may a b c (inl l) (inl m) = inl (omega arith)
precedes_may a b c (inl l) (inr m) = inl (let m0 = m.0 in omega arith)
precedes_may a b c (inr l) (inl m) = inl (let l0 = l.0 in omega arith)
precedes_may a b c (inr l) (inr m) = inr (l.0 ∙ m.0, let l1 = l.1 in let m1 = m.1 in omega arith)

pub precedes_true : (a b : Event) → Precedes a b → is_earlier a b ≡ true
precedes_true a b p = go (is_earlier a b) refl
  where
    clash : Precedes a b → MayPrecede b a → ⊥
    clash (inl l) (inl m) = omega arith
    clash (inl l) (inr m) = let m0 = m.0 in omega arith
    clash (inr l) (inl m) = let l0 = l.0 in omega arith
    clash (inr l) (inr m) = let l1 = l.1 in let m1 = m.1 in omega arith

    go : (r : Bool) → is_earlier a b ≡ r → is_earlier a b ≡ true
    go true t = t
    go false t = absurd (clash p (false_may a b t))

may_trans : (a b c : Event) → MayPrecede a b → MayPrecede b c → MayPrecede a c
may_trans a b c (inl l) (inl m) = inl (omega arith)
may_trans a b c (inl l) (inr m) = inl (omega arith)
may_trans a b c (inr l) (inl m) = inl (omega arith)
may_trans a b c (inr l) (inr m) = inr (l.0 ∙ m.0, omega arith)

strictly : (x y : Event) → x.node ≢ y.node → MayPrecede x y → Precedes x y
strictly x y n (inl l) = inl l
strictly x y n (inr l) = inr (l.0, let m = l.1 in omega arith)

may_from : (x y : Event) → Precedes x y → MayPrecede x y
may_from x y (inl l) = inl l
may_from x y (inr l) = inr (l.0, let m = l.1 in omega arith)

abbrev Any : Event → Type 0
Any e = Unit {0}

each_any : (xs : List Event) → Each Any xs
each_any [] = tt
each_any (x ∷ xs) = (tt, each_any xs)

may_order : IsOrder Any Any MayPrecede
may_order = record { trans = may_trans; earlier = λ y x q p t. may_from y x (true_precedes y x t); later = λ y x q p f. false_may y x f }

sorted_woven : (woven : List Event) (journals : List JournalState) → IsSorted woven → AreSorted journals → IsSorted (woven_from woven journals)
sorted_woven woven [] s a = s
sorted_woven woven (j ∷ journals) s a = sorted_woven (merged woven j.events) journals (order_merged Any Any MayPrecede may_order woven j.events (each_any woven) s (each_any j.events) a.0) a.1

pub is_sorted : (journals : List JournalState) (all : List Event) → all ≡ woven_from [] journals → AreSorted journals → IsSorted all
is_sorted journals all e a = subst IsSorted (sym e) (sorted_woven [] journals tt a)

-- events of nodes below n, and those of n
rising_order : (n : ℕ) → IsOrder (λ x. x.node < n) (λ y. y.node ≡ n) Precedes
rising_order n = record { trans = precedes_trans; earlier = λ y x q p t. true_precedes y x t; later = λ y x q p f. strictly x y (λ s. omega arith) (false_may y x f) }

pub below_merged : (n : ℕ) (xs ys : List Event) → Each (λ x. x.node < n) xs → Each (λ y. y.node ≡ n) ys → Each (λ x. x.node < suc n) (merged xs ys)
below_merged n xs ys p q = each_merged (λ x. x.node < suc n) xs ys (each_map (λ x. x.node < n) (λ x. x.node < suc n) xs (λ e h. omega arith) p) (each_map (λ y. y.node ≡ n) (λ y. y.node < suc n) ys (λ e h. omega arith) q)

rising_woven : (n : ℕ) (woven : List Event) (journals : List JournalState) → Each (λ x. x.node < n) woven → IsRising woven → AreJournals n journals → IsRising (woven_from woven journals)
rising_woven n woven [] b s a = s
rising_woven n woven (j ∷ journals) b s a =
    rising_woven (suc n) (merged woven j.events) journals (below_merged n woven j.events b a.0) (order_merged (λ x. x.node < n) (λ y. y.node ≡ n) Precedes (rising_order n) woven j.events b s a.0 a.1) a.2

pub is_rising : (journals : List JournalState) (all : List Event) → all ≡ woven_from [] journals → AreJournals 0 journals → IsRising all
is_rising journals all e a = subst IsRising (sym e) (rising_woven 0 [] journals tt tt a)
