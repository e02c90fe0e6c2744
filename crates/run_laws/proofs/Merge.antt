-- Lists that are sorted by stamps.
use Rattle.std.proofs.Common.{◌≡◌, ◌≢◌, ℕ, zero, suc, ◌<◌, ◌≤◌, ◌==◌, ◌⊎◌, inl, inr, Bool, true, false, cond, List, [], ◌∷◌, refl, sym, ap, ◌∙◌, subst, arith}
use Rattle.std.proofs.lemmas.Bool.Decides.{leb_tells}
use lib.Dec.{leb}
use Rattle.run_laws.specs.Weaving.{Each, Later, Sorted, own_events}
use Rattle.protocol.proofs.Talk.{same_numbers, numbers_same}
use Rattle.protocol.specs.Deeds.{Noted}

pub later_trans : (e f g : Noted) → Later e f → Later f g → Later e g
later_trans e f g (inl a) (inl b) = inl (omega arith)
later_trans e f g (inl a) (inr b) = inl (omega (arith, b.0))
later_trans e f g (inr a) (inl b) = inl (omega (arith, a.0))
later_trans e f g (inr a) (inr b) = inr (omega (arith, a.0, b.0), omega (arith, a.1, b.1))

-- of one node the later one has the larger stamp
abbrev pub Fresher : Noted → Noted → Type 0
Fresher e f = f.node ≡ e.node → f.stamp < e.stamp

pub order : (e f : Noted) → Fresher e f → Later e f ⊎ (Later f e × (f.node ≢ e.node))
order e f h = stamps (leb_tells (suc f.stamp) e.stamp) (leb_tells (suc e.stamp) f.stamp)
  where
    nodes : f.stamp ≡ e.stamp → ((leb (suc f.node) e.node ≡ true) × (suc f.node ≤ e.node)) ⊎ ((leb (suc f.node) e.node ≡ false) × (e.node < suc f.node)) → Later e f ⊎ (Later f e × (f.node ≢ e.node))
    nodes same (inl x) = inl (inr (same, x.1))
    nodes same (inr x) =
        let ne : f.node ≢ e.node = λ k. let z : f.stamp < e.stamp = h k in absurd (omega arith) in
        let less : e.node < f.node = omega (arith, x.1) in
        inr (inr (sym same, less), ne)

    stamps : ((leb (suc f.stamp) e.stamp ≡ true) × (suc f.stamp ≤ e.stamp)) ⊎ ((leb (suc f.stamp) e.stamp ≡ false) × (e.stamp < suc f.stamp))
        → ((leb (suc e.stamp) f.stamp ≡ true) × (suc e.stamp ≤ f.stamp)) ⊎ ((leb (suc e.stamp) f.stamp ≡ false) × (f.stamp < suc e.stamp)) → Later e f ⊎ (Later f e × (f.node ≢ e.node))
    stamps (inl x) y = inl (inl x.1)
    stamps (inr x) (inl y) = inr (inl y.1, λ k. let z : f.stamp < e.stamp = h k in absurd (omega (arith, x.1)))
    stamps (inr x) (inr y) = nodes (omega (arith, x.1, y.1)) (leb_tells (suc f.node) e.node)

later_all : (e f : Noted) (es : List Noted) → Later e f → Each (λ g. Later f g) es → Each (λ g. Later e g) es
later_all e f [] l s = tt
later_all e f (g ∷ es) l s = (later_trans e f g l s.0, later_all e f es l s.1)

abbrev pub Of : ℕ → List Noted → Type 0
Of n es = Each (λ e. e.node ≡ n) es

pub each_weaker : (P Q : Noted → Type 0) (es : List Noted) → ((e : Noted) → P e → Q e) → Each P es → Each Q es
each_weaker P Q [] f p = tt
each_weaker P Q (e ∷ es) f p = (f e p.0, each_weaker P Q es f p.1)

fresher_all : (e : Noted) (all : List Noted) → Each (λ f. f.stamp < e.stamp) (own_events e.node all) → Each (Fresher e) all
fresher_all e [] h = tt
fresher_all e (f ∷ fs) h = go (f.node == e.node) refl h (fresher_all e fs)
  where
    go : (b : Bool) → (f.node == e.node) ≡ b → Each (λ g. g.stamp < e.stamp) (cond b (f ∷ own_events e.node fs) (own_events e.node fs)) → (Each (λ g. g.stamp < e.stamp) (own_events e.node fs) → Each (Fresher e) fs) → Fresher e f × Each (Fresher e) fs
    go true k h ih = (λ same. h.0, ih h.1)
    go false k h ih = (λ same. let z : true ≡ false = sym (same_numbers f.node e.node same) ∙ k in absurd cc, ih h)

later_same : (e f : Noted) → Later e f → f.node ≡ e.node → f.stamp < e.stamp
later_same e f (inl l) same = l
later_same e f (inr l) same = absurd (omega (arith, l.1, same))

stamps_below : (e : Noted) (es : List Noted) → Each (λ f. Later e f) es → Of e.node es → Each (λ f. f.stamp < e.stamp) es
stamps_below e [] l o = tt
stamps_below e (f ∷ es) l o = (later_same e f l.0 o.0, stamps_below e es l.1 o.1)

-- the list with one more event at its place
pub record Put (e : Noted) (es : List Noted) : Type 1 where
  pub list : List Noted
  pub sorted : Sorted list
  pub own : (n : ℕ) → own_events n list ≡ cond (e.node == n) (e ∷ own_events n es) (own_events n es)
  pub each : (P : Noted → Type 0) → P e → Each P es → Each P list

pub put : (e : Noted) (es : List Noted) → Sorted es → Each (Fresher e) es → Put e es
put e [] s f = record { list = e ∷ []; sorted = (tt, tt); own = λ n. refl; each = λ P p q. (p, q) }
put e (f ∷ es) s h = go (order e f h.0) (put e es s.1 h.1)
  where
    go : Later e f ⊎ (Later f e × (f.node ≢ e.node)) → Put e es → Put e (f ∷ es)
    go (inl l) r = record { list = e ∷ f ∷ es; sorted = ((l, later_all e f es l s.0), s); own = λ n. refl; each = λ P p q. (p, q) }
    go (inr l) r = record {
      list = f ∷ r.list;
      sorted = (r.each (λ g. Later f g) l.0 s.0, r.sorted);
      own = λ n. ap (λ (k : List Noted). cond (f.node == n) (f ∷ k) k) (r.own n) ∙ swap n (f.node == n) (e.node == n) refl refl;
      each = λ P p q. (q.0, r.each P p q.1);
    }
      where
        swap : (n : ℕ) (a b : Bool) → (f.node == n) ≡ a → (e.node == n) ≡ b → cond a (f ∷ cond b (e ∷ own_events n es) (own_events n es)) (cond b (e ∷ own_events n es) (own_events n es)) ≡ cond b (e ∷ cond a (f ∷ own_events n es) (own_events n es)) (cond a (f ∷ own_events n es) (own_events n es))
        swap n true true ea eb = absurd (l.1 (numbers_same f.node n ea ∙ sym (numbers_same e.node n eb)))
        swap n true false ea eb = refl
        swap n false true ea eb = refl
        swap n false false ea eb = refl

-- a list of one node's events woven into a list that has none of them
record Joined (n : ℕ) (es all : List Noted) : Type 0 where
  list : List Noted
  sorted : Sorted list
  own : (m : ℕ) → own_events m list ≡ cond (n == m) es (own_events m all)

join : (n : ℕ) (es all : List Noted) → Sorted es → Of n es → Sorted all → own_events n all ≡ [] → Joined n es all
join n [] all s o sa none = record { list = all; sorted = sa; own = λ m. same m (n == m) refl }
  where
    same : (m : ℕ) (b : Bool) → (n == m) ≡ b → own_events m all ≡ cond b [] (own_events m all)
    same m true e = ap (λ (k : ℕ). own_events k all) (sym (numbers_same n m e)) ∙ none
    same m false e = refl
join n (e ∷ es) all s o sa none =
    let r = join n es all s.1 o.1 sa none in
    let own_is : own_events e.node r.list ≡ es = ap (λ (k : ℕ). own_events k r.list) o.0 ∙ (r.own n ∙ ap (λ (b : Bool). cond b es (own_events n all)) (same_numbers n n refl)) in
    let below : Each (λ f. f.stamp < e.stamp) es = stamps_below e es s.0 (each_weaker (λ f. f.node ≡ n) (λ f. f.node ≡ e.node) es (λ f k. k ∙ sym o.0) o.1) in
    let p = put e r.list r.sorted (fresher_all e r.list (subst (λ (k : List Noted). Each (λ f. f.stamp < e.stamp) k) (sym own_is) below)) in
    record { list = p.list; sorted = p.sorted; own = λ m. p.own m ∙ step r m (n == m) refl (ap (λ (k : ℕ). k == m) o.0) }
  where
    step : (r : Joined n es all) (m : ℕ) (b : Bool) → (n == m) ≡ b → (e.node == m) ≡ (n == m) → cond (e.node == m) (e ∷ own_events m r.list) (own_events m r.list) ≡ cond b (e ∷ es) (own_events m all)
    step r m b k q = ap (λ (c : Bool). cond c (e ∷ own_events m r.list) (own_events m r.list)) (q ∙ k) ∙ (ap (λ (x : List Noted). cond b (e ∷ x) x) (r.own m ∙ ap (λ (c : Bool). cond c es (own_events m all)) k) ∙ last b)
      where
        last : (b : Bool) → cond b (e ∷ cond b es (own_events m all)) (cond b es (own_events m all)) ≡ cond b (e ∷ es) (own_events m all)
        last true = refl
        last false = refl

-- the events of the nodes below N, in one sorted list
pub record All_joined (N : ℕ) (each : ℕ → List Noted) : Type 0 where
  pub list : List Noted
  pub sorted : Sorted list
  pub own : (m : ℕ) → m < N → own_events m list ≡ each m
  pub others : (m : ℕ) → N ≤ m → own_events m list ≡ []

pub join_all : (N : ℕ) (each : ℕ → List Noted) → ((n : ℕ) → Sorted (each n)) → ((n : ℕ) → Of n (each n)) → All_joined N each
join_all zero each s o = record { list = []; sorted = tt; own = λ m less. absurd (omega arith); others = λ m le. refl }
join_all (suc N) each s o =
    let before = join_all N each s o in
    let j = join N (each N) before.list (s N) (o N) before.sorted (before.others N (omega arith)) in
    record { list = j.list; sorted = j.sorted; own = λ m less. j.own m ∙ here before m less (N == m) refl; others = λ m le. j.own m ∙ there before m le (N == m) refl }
  where
    here : (before : All_joined N each) (m : ℕ) → m < suc N → (b : Bool) → (N == m) ≡ b → cond b (each N) (own_events m before.list) ≡ each m
    here before m less true e = ap each (numbers_same N m e)
    here before m less false e = let ne : N ≢ m = λ k. let z : true ≡ false = sym (same_numbers N m k) ∙ e in cc in before.own m (omega arith)

    there : (before : All_joined N each) (m : ℕ) → suc N ≤ m → (b : Bool) → (N == m) ≡ b → cond b (each N) (own_events m before.list) ≡ []
    there before m le true e = let k : N ≡ m = numbers_same N m e in absurd (omega arith)
    there before m le false e = before.others m (omega arith)
