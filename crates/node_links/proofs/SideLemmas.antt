-- A node more: a side for it, and a carrier towards it in each of the others.
use Rattle.std.proofs.Common.{◌≡◌, ◌≢◌, ℕ, zero, suc, ◌+◌, ◌<◌, ◌≤◌, ◌==◌, ◌++◌, ◌⊎◌, inl, inr, Bool, true, false, cond, not, ◌||◌, Option, Some, None, List, [], ◌∷◌, refl, sym, ap, ◌∙◌, subst, arith, length, map, get_or, slice_get, slice_set, length-append}
use Rattle.std.proofs.lemmas.Bool.{cases_eq, cases_order, eq-eqb, ne_eqb}
use Rattle.std.proofs.lemmas.List.{append-nil}
use Rattle.std.specs.Option.{option_and_then}
use Rattle.node_links.specs.declared.side.Towards.{Towards}
use Rattle.node_links.specs.Sides.{is_linked, led_to, carrier_to, carrier_of, EachIs, IsGrown}

-- ---- lists with one more at the end, or one set

get_before : {A : Type 0} (xs : List A) (x : A) (k : ℕ) → k < length xs → slice_get (xs ++ x ∷ []) k ≡ slice_get xs k
get_before [] x k less = absurd (omega arith)
get_before (y ∷ ys) x zero less = refl
get_before (y ∷ ys) x (suc k) less = get_before ys x k (omega arith)

get_last : {A : Type 0} (xs : List A) (x : A) (k : ℕ) → k ≡ length xs → slice_get (xs ++ x ∷ []) k ≡ Some x
get_last [] x zero e = refl
get_last [] x (suc k) e = absurd (omega arith)
get_last (y ∷ ys) x zero e = absurd (omega arith)
get_last (y ∷ ys) x (suc k) e = get_last ys x k (omega arith)

get_past : {A : Type 0} (xs : List A) (k : ℕ) → length xs ≤ k → slice_get xs k ≡ None
get_past [] k le = refl
get_past (y ∷ ys) zero le = absurd (omega arith)
get_past (y ∷ ys) (suc k) le = get_past ys k (omega arith)

get_set : {A : Type 0} (xs : List A) (k : ℕ) (y : A) → k < length xs → slice_get (slice_set xs k y) k ≡ Some y
get_set [] k y less = absurd (omega arith)
get_set (x ∷ xs) zero y less = refl
get_set (x ∷ xs) (suc k) y less = get_set xs k y (omega arith)

get_off : {A : Type 0} (xs : List A) (j k : ℕ) (y : A) → k ≢ j → slice_get (slice_set xs j y) k ≡ slice_get xs k
get_off [] j k y off = refl
get_off (x ∷ xs) zero zero y off = absurd (off refl)
get_off (x ∷ xs) zero (suc k) y off = refl
get_off (x ∷ xs) (suc j) zero y off = refl
get_off (x ∷ xs) (suc j) (suc k) y off = get_off xs j k y (λ s. off (ap (λ (n : ℕ). suc n) s))

length_set : {A : Type 0} (xs : List A) (k : ℕ) (y : A) → length (slice_set xs k y) ≡ length xs
length_set [] k y = refl
length_set (x ∷ xs) zero y = refl
length_set (x ∷ xs) (suc k) y = ap (λ (n : ℕ). suc n) (length_set xs k y)

-- what stands at a place
pub got_at : {A : Type 0} (xs : List A) (k : ℕ) (x : A) → k < length xs → x ≡ get_or xs k x → slice_get xs k ≡ Some x
got_at [] k x less e = absurd (omega arith)
got_at {A = A} (y ∷ ys) zero x less e = ap (λ (z : A). Some z) (sym e)
got_at (y ∷ ys) (suc k) x less e = got_at ys k x (omega arith) e

some_is : {A : Type 0} (x y : A) → Some x ≡ Some y → x ≡ y
some_is x y e = cc

not_none : {A : Type 0} (x : A) (o : Option A) → o ≡ Some x → o ≡ None → ⊥
not_none x o e f = cc

-- ---- which nodes are linked

linked : (i j : ℕ) → i ≢ j → is_linked i j ≡ true
linked i j off = ap (λ b. not b || (i == 0)) (ne_eqb i j off)

not_linked : (n : ℕ) → 0 < n → is_linked n n ≡ false
not_linked n less = let far : n ≢ 0 = omega arith in ap (λ b. not b || (n == 0)) (eq-eqb n n refl) ∙ ne_eqb n 0 far

led_more : (n i : ℕ) → i ≢ n → led_to (n + 1) i ≡ led_to n i ++ n ∷ []
led_more n i off = let e : n + 1 ≡ suc n = omega arith in ap (λ (k : ℕ). led_to k i) e ∙ ap (λ b. led_to n i ++ cond b (n ∷ []) []) (linked i n off)

led_same : (n : ℕ) → 0 < n → led_to (n + 1) n ≡ led_to n n
led_same n less = let e : n + 1 ≡ suc n = omega arith in ap (λ (k : ℕ). led_to k n) e ∙ (ap (λ b. led_to n n ++ cond b (n ∷ []) []) (not_linked n less) ∙ append-nil (led_to n n))

module _ {C : Type 0} where
  abbrev node_of : Towards C → ℕ
  node_of t = t.node

  nodes_more : (side : List (Towards C)) (t : Towards C) → map node_of (side ++ t ∷ []) ≡ map node_of side ++ t.node ∷ []
  nodes_more [] t = refl
  nodes_more (s ∷ side) t = ap (λ (ns : List ℕ). s.node ∷ ns) (nodes_more side t)

  -- ---- the carrier towards a node

  to_other : (side : List (Towards C)) (t : Towards C) (j : ℕ) → t.node ≢ j → carrier_to (side ++ t ∷ []) j ≡ carrier_to side j
  to_other [] t j off = ap (λ b. cond b (Some t.carrier) None) (ne_eqb t.node j off)
  to_other (s ∷ side) t j off = ap (λ (o : Option C). cond (s.node == j) (Some s.carrier) o) (to_other side t j off)

  skip : (b : Bool) (c d : C) (o p : Option C) → cond b (Some c) o ≡ None → (o ≡ None → p ≡ Some d) → cond b (Some c) p ≡ Some d
  skip true c d o p e f = absurd (cc)
  skip false c d o p e f = f e

  to_last : (side : List (Towards C)) (t : Towards C) → carrier_to side t.node ≡ None → carrier_to (side ++ t ∷ []) t.node ≡ Some t.carrier
  to_last [] t none = ap (λ b. cond b (Some t.carrier) None) (eq-eqb t.node t.node refl)
  to_last (s ∷ side) t none = skip (s.node == t.node) s.carrier t.carrier (carrier_to side t.node) (carrier_to (side ++ t ∷ []) t.node) none (to_last side t)

  of_same : (sides other : List (List (Towards C))) (i k : ℕ) (j : ℕ) → slice_get sides i ≡ slice_get other k → carrier_of sides i j ≡ carrier_of other k j
  of_same sides other i k j e = ap (option_and_then (λ side. carrier_to side j)) e

  of_is : (sides : List (List (Towards C))) (side : List (Towards C)) (i j : ℕ) → slice_get sides i ≡ Some side → carrier_of sides i j ≡ carrier_to side j
  of_is sides side i j e = ap (option_and_then (λ s. carrier_to s j)) e

  of_past : (sides : List (List (Towards C))) (i j : ℕ) → length sides ≤ i → carrier_of sides i j ≡ None
  of_past sides i j le = ap (option_and_then (λ s. carrier_to s j)) (get_past sides i le)

  -- the nodes before j have a carrier towards the new node n, which has one towards each of them in its row
  pub record IsGrowing (pair : C → C → Type 0) (fresh : C → Type 0) (j n : ℕ) (sides : List (List (Towards C))) (row : List (Towards C)) : Type 0 where
    pub count : length sides ≡ n
    pub done : (i : ℕ) (side : List (Towards C)) → slice_get sides i ≡ Some side → i < j → map node_of side ≡ led_to (n + 1) i
    pub still : (i : ℕ) (side : List (Towards C)) → slice_get sides i ≡ Some side → j ≤ i → map node_of side ≡ led_to n i
    pub row_nodes : map node_of row ≡ led_to j n
    pub pairs : (i k : ℕ) (c d : C) → i < n → k < n → carrier_of sides i k ≡ Some c → carrier_of sides k i ≡ Some d → pair c d
    pub new : (i : ℕ) (c d : C) → carrier_of sides i n ≡ Some c → carrier_to row i ≡ Some d → pair c d × pair d c
    pub each : EachIs fresh sides
    pub row_fresh : (k : ℕ) (d : C) → carrier_to row k ≡ Some d → fresh d
    pub beyond : (i k : ℕ) → n < k → carrier_of sides i k ≡ None
    pub unmet : (i : ℕ) → j ≤ i → carrier_of sides i n ≡ None
    pub ahead : (k : ℕ) → j ≤ k → carrier_to row k ≡ None

  module _ (pair : C → C → Type 0) (fresh : C → Type 0) where
    pub grow_none : (n : ℕ) (sides : List (List (Towards C))) → IsGrown pair fresh n sides → IsGrowing pair fresh 0 n sides []
    grow_none n sides g = record {
      count = g.pairs.count;
      done = λ i side e less. absurd (omega arith);
      still = λ i side e le. g.pairs.nodes i side e;
      row_nodes = refl;
      pairs = λ i k c d il kl. g.pairs.pairs i k c d;
      new = λ i c d e f. absurd (cc);
      each = g.each;
      row_fresh = λ k d e. absurd (cc);
      beyond = λ i k less. g.beyond i k (omega arith);
      unmet = λ i le. g.beyond i n (omega arith);
      ahead = λ k le. refl;
    }

    module _ (j n : ℕ) (sides : List (List (Towards C))) (row v w : List (Towards C)) (x y : C) (less : j < n) (is : slice_get sides j ≡ Some v) (more : w ≡ v ++ record { node = n; carrier = x } ∷ []) (xy : pair x y) (yx : pair y x) (fx : fresh x) (fy : fresh y) (g : IsGrowing pair fresh j n sides row) where
      tx : Towards C
      tx = record { node = n; carrier = x }

      ty : Towards C
      ty = record { node = j; carrier = y }

      abbrev after : List (List (Towards C))
      after = slice_set sides j w

      abbrev row_after : List (Towards C)
      row_after = row ++ record { node = j; carrier = y } ∷ []

      here : slice_get after j ≡ Some w
      here = get_set sides j w (omega (arith, less, g.count))

      elsewhere : (i k : ℕ) → i ≢ j → carrier_of after i k ≡ carrier_of sides i k
      elsewhere i k off = of_same after sides i i k (get_off sides j i w off)

      -- towards a node but the new one nothing changes
      old_at : (i k : ℕ) → k ≢ n → carrier_of after i k ≡ carrier_of sides i k
      old_at i k off = go (cases_eq i j)
        where
          far : n ≡ k → ⊥
          far s = off (sym s)

          at_j : carrier_of after j k ≡ carrier_of sides j k
          at_j = of_is after w j k here ∙ (ap (λ (s : List (Towards C)). carrier_to s k) more ∙ (to_other v (record { node = n; carrier = x }) k far ∙ sym (of_is sides v j k is)))

          go : (i ≡ j) ⊎ (i ≢ j) → carrier_of after i k ≡ carrier_of sides i k
          go (inl s) = subst (λ (m : ℕ). carrier_of after m k ≡ carrier_of sides m k) (sym s) at_j
          go (inr o) = elsewhere i k o

      met : carrier_of after j n ≡ Some x
      met = of_is after w j n here ∙ (ap (λ (s : List (Towards C)). carrier_to s n) more ∙ to_last v (record { node = n; carrier = x }) (sym (of_is sides v j n is) ∙ g.unmet j (omega arith)))

      row_here : carrier_to row_after j ≡ Some y
      row_here = to_last row (record { node = j; carrier = y }) (g.ahead j (omega arith))

      row_other : (k : ℕ) → k ≢ j → carrier_to row_after k ≡ carrier_to row k
      row_other k off = to_other row (record { node = j; carrier = y }) k (λ s. off (sym s))

      apart : j ≢ n
      apart = omega (arith, less)

      nodes_here : map node_of w ≡ led_to (n + 1) j
      nodes_here = ap (map node_of) more ∙ (nodes_more v (record { node = n; carrier = x }) ∙ (ap (λ (ns : List ℕ). ns ++ n ∷ []) (g.still j v is (omega arith)) ∙ sym (led_more n j apart)))

      by_done : (i : ℕ) (side : List (Towards C)) → slice_get after i ≡ Some side → i < j + 1 → (i ≡ j) ⊎ (i ≢ j) → map node_of side ≡ led_to (n + 1) i
      by_done i side e l (inl s) =
          let same : w ≡ side = some_is w side (sym here ∙ (ap (slice_get after) (sym s) ∙ e)) in
          subst (λ (m : ℕ). map node_of side ≡ led_to (n + 1) m) (sym s) (ap (map node_of) (sym same) ∙ nodes_here)
      by_done i side e l (inr off) = g.done i side (sym (get_off sides j i w off) ∙ e) (omega (arith, l, off))

      by_new : (i : ℕ) (c d : C) → carrier_of after i n ≡ Some c → carrier_to row_after i ≡ Some d → (i ≡ j) ⊎ (i ≢ j) → pair c d × pair d c
      by_new i c d e f (inl s) =
          let cx : x ≡ c = some_is x c (sym met ∙ (ap (λ (m : ℕ). carrier_of after m n) (sym s) ∙ e)) in
          let dy : y ≡ d = some_is y d (sym row_here ∙ (ap (carrier_to row_after) (sym s) ∙ f)) in
          (subst (λ (z : C). pair z d) cx (subst (λ (z : C). pair x z) dy xy), subst (λ (z : C). pair d z) cx (subst (λ (z : C). pair z x) dy yx))
      by_new i c d e f (inr off) = g.new i c d (sym (elsewhere i n off) ∙ e) (sym (row_other i off) ∙ f)

      by_fresh : (i k : ℕ) (c : C) → carrier_of after i k ≡ Some c → (k ≡ n) ⊎ (k ≢ n) → (i ≡ j) ⊎ (i ≢ j) → fresh c
      by_fresh i k c e (inl s) (inl t) = subst fresh (some_is x c (sym met ∙ (ap (λ (m : ℕ). carrier_of after m n) (sym t) ∙ (ap (carrier_of after i) (sym s) ∙ e)))) fx
      by_fresh i k c e (inl s) (inr off) = g.each i k c (sym (elsewhere i k off) ∙ e)
      by_fresh i k c e (inr o) u = g.each i k c (sym (old_at i k o) ∙ e)

      by_row : (k : ℕ) (d : C) → carrier_to row_after k ≡ Some d → (k ≡ j) ⊎ (k ≢ j) → fresh d
      by_row k d e (inl s) = subst fresh (some_is y d (sym row_here ∙ (ap (carrier_to row_after) (sym s) ∙ e))) fy
      by_row k d e (inr off) = g.row_fresh k d (sym (row_other k off) ∙ e)

      pub grow_one : IsGrowing pair fresh (j + 1) n after row_after
      grow_one = record {
        count = length_set sides j w ∙ g.count;
        done = λ i side e l. by_done i side e l (cases_eq i j);
        still = λ i side e le. let off : i ≢ j = omega arith in g.still i side (sym (get_off sides j i w off) ∙ e) (omega arith);
        row_nodes = nodes_more row (record { node = j; carrier = y }) ∙ (ap (λ (ns : List ℕ). ns ++ j ∷ []) g.row_nodes ∙ sym (led_more j n (λ s. apart (sym s))));
        pairs = λ i k c d il kl e f. let io : i ≢ n = omega arith in let ko : k ≢ n = omega arith in g.pairs i k c d il kl (sym (old_at i k ko) ∙ e) (sym (old_at k i io) ∙ f);
        new = λ i c d e f. by_new i c d e f (cases_eq i j);
        each = λ i k c e. by_fresh i k c e (cases_eq k n) (cases_eq i j);
        row_fresh = λ k d e. by_row k d e (cases_eq k j);
        beyond = λ i k l. let off : k ≢ n = omega arith in old_at i k off ∙ g.beyond i k l;
        unmet = λ i le. let off : i ≢ j = omega arith in elsewhere i n off ∙ g.unmet i (omega arith);
        ahead = λ k le. let off : k ≢ j = omega arith in row_other k off ∙ g.ahead k (omega arith);
      }

    module _ (n : ℕ) (sides : List (List (Towards C))) (row : List (Towards C)) (some : 0 < n) (g : IsGrowing pair fresh n n sides row) where
      abbrev all : List (List (Towards C))
      all = sides ++ row ∷ []

      before : (i k : ℕ) → i < n → carrier_of all i k ≡ carrier_of sides i k
      before i k l = of_same all sides i i k (get_before sides row i (omega (arith, l, g.count)))

      last : (i k : ℕ) → i ≡ n → carrier_of all i k ≡ carrier_to row k
      last i k s = of_is all row i k (get_last sides row i (s ∙ sym g.count))

      past : (i k : ℕ) → n < i → carrier_of all i k ≡ None
      past i k l = of_past all i k (omega (arith, l, g.count, length-append sides (row ∷ [])))

      abbrev Order : ℕ → Type 0
      Order i = (i ≡ n) ⊎ ((i < n) ⊎ (n < i))

      by_nodes : (i : ℕ) (side : List (Towards C)) → slice_get all i ≡ Some side → Order i → map node_of side ≡ led_to (n + 1) i
      by_nodes i side e (inl s) =
          let same : row ≡ side = some_is row side (sym (get_last sides row i (s ∙ sym g.count)) ∙ e) in
          subst (λ (m : ℕ). map node_of side ≡ led_to (n + 1) m) (sym s) (ap (map node_of) (sym same) ∙ (g.row_nodes ∙ sym (led_same n some)))
      by_nodes i side e (inr (inl l)) = g.done i side (sym (get_before sides row i (omega (arith, l, g.count))) ∙ e) l
      by_nodes i side e (inr (inr l)) = absurd (not_none side (slice_get all i) e (get_past all i (omega (arith, l, g.count, length-append sides (row ∷ [])))))

      by_pairs : (i k : ℕ) (c d : C) → carrier_of all i k ≡ Some c → carrier_of all k i ≡ Some d → Order i → Order k → pair c d
      by_pairs i k c d e f (inr (inr l)) ok = absurd (not_none c (carrier_of all i k) e (past i k l))
      by_pairs i k c d e f oi (inr (inr l)) = absurd (not_none d (carrier_of all k i) f (past k i l))
      by_pairs i k c d e f (inl s) (inl t) = absurd (not_none c (carrier_of all i k) e (last i k s ∙ g.ahead k (omega (arith, t))))
      by_pairs i k c d e f (inl s) (inr (inl l)) = (g.new k d c (ap (carrier_of sides k) (sym s) ∙ (sym (before k i l) ∙ f)) (sym (last i k s) ∙ e)).1
      by_pairs i k c d e f (inr (inl l)) (inl t) = (g.new i c d (ap (carrier_of sides i) (sym t) ∙ (sym (before i k l) ∙ e)) (sym (last k i t) ∙ f)).0
      by_pairs i k c d e f (inr (inl l)) (inr (inl m)) = g.pairs i k c d l m (sym (before i k l) ∙ e) (sym (before k i m) ∙ f)

      by_each : (i k : ℕ) (c : C) → carrier_of all i k ≡ Some c → Order i → fresh c
      by_each i k c e (inl s) = g.row_fresh k c (sym (last i k s) ∙ e)
      by_each i k c e (inr (inl l)) = g.each i k c (sym (before i k l) ∙ e)
      by_each i k c e (inr (inr l)) = absurd (not_none c (carrier_of all i k) e (past i k l))

      by_beyond : (i k : ℕ) → n + 1 ≤ k → Order i → carrier_of all i k ≡ None
      by_beyond i k le (inl s) = last i k s ∙ g.ahead k (omega arith)
      by_beyond i k le (inr (inl l)) = before i k l ∙ g.beyond i k (omega arith)
      by_beyond i k le (inr (inr l)) = past i k l

      pub grow_done : IsGrown pair fresh (n + 1) all
      grow_done = record {
        pairs = record {
          count = length-append sides (row ∷ []) ∙ ap (λ (m : ℕ). m + 1) g.count;
          nodes = λ i side e. by_nodes i side e (cases_order i n);
          pairs = λ i k c d e f. by_pairs i k c d e f (cases_order i n) (cases_order k n);
        };
        each = λ i k c e. by_each i k c e (cases_order i n);
        beyond = λ i k le. by_beyond i k le (cases_order i n);
      }

    -- home alone
    module _ (own : C) (pp : pair own own) (ff : fresh own) where
      abbrev alone : List (List (Towards C))
      alone = (record { node = 0; carrier = own } ∷ []) ∷ []

      one_is : (b : Bool) (c : C) → cond b (Some own) None ≡ Some c → own ≡ c
      one_is true c e = some_is own c e
      one_is false c e = absurd (cc)

      one_nodes : (i : ℕ) (side : List (Towards C)) → slice_get alone i ≡ Some side → map node_of side ≡ led_to 1 i
      one_nodes zero side e = ap (map node_of) (sym (some_is (record { node = 0; carrier = own } ∷ []) side e))
      one_nodes (suc i) side e = absurd (cc)

      one_pairs : (i k : ℕ) (c d : C) → carrier_of alone i k ≡ Some c → carrier_of alone k i ≡ Some d → pair c d
      one_pairs zero zero c d e f = subst (λ (z : C). pair z d) (one_is (0 == 0) c e) (subst (λ (z : C). pair own z) (one_is (0 == 0) d f) pp)
      one_pairs zero (suc k) c d e f = absurd (cc)
      one_pairs (suc i) k c d e f = absurd (cc)

      one_fresh : (i k : ℕ) (c : C) → carrier_of alone i k ≡ Some c → fresh c
      one_fresh zero k c e = subst fresh (one_is (0 == k) c e) ff
      one_fresh (suc i) k c e = absurd (cc)

      one_beyond : (i k : ℕ) → 1 ≤ k → carrier_of alone i k ≡ None
      one_beyond zero k le = let off : 0 ≢ k = omega arith in ap (λ b. cond b (Some own) None) (ne_eqb 0 k off)
      one_beyond (suc i) k le = refl

      pub grown_one : IsGrown pair fresh 1 ((record { node = 0; carrier = own } ∷ []) ∷ [])
      grown_one = record {
        pairs = record { count = refl; nodes = one_nodes; pairs = one_pairs };
        each = one_fresh;
        beyond = one_beyond;
      }
