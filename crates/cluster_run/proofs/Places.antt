-- One carrier of a side changes.
use Rattle.std.proofs.Common.{◌≡◌, ◌≢◌, ℕ, zero, suc, ◌<◌, ◌≤◌, ◌==◌, ◌++◌, Bool, true, false, cond, Option, Some, None, List, [], ◌∷◌, refl, sym, ap, ◌∙◌, subst, arith, length, map, slice_get, slice_set, IfSome, IfNone}
use Rattle.std.specs.Prelude.{option_to_list}
use Rattle.std.proofs.lemmas.Bool.{eqb-true, eq-eqb, ne_eqb}
use Rattle.std.proofs.lemmas.List.{append-nil}
use Rattle.call_forward.specs.declared.letter.Letter.{Letter}
use Rattle.node_links.specs.Meetings.{Keeps}
use Rattle.node_links.specs.Sides.{carrier_to}
use Rattle.node_links.specs.declared.side.Towards.{Towards}
use Rattle.cluster_run.specs.Sides.{of_carrier, towards, count_of, knows, OthersStay, LookTells, IsPlace, SameCarrier, SameSide, unless, Handed, Looked}

not_both : (b : Bool) → b ≡ true → b ≡ false → ⊥
not_both b p q = let z : true ≡ false = sym p ∙ q in absurd cc

off_of : (m n : ℕ) → (m == n) ≡ false → m ≢ n
off_of m n q e = not_both (m == n) (eq-eqb m n e) q

pub some_first : (o : Option Letter) (A : Letter → Type 0) (B : Type 0) → IfSome o (λ l. A l × B) → IfSome o A
some_first None A B s = tt
some_first (Some l) A B s = s.0

pub none_first : (o : Option Letter) (A B D : Type 0) → IfNone o (A × B × D) → IfNone o A
none_first None A B D s = s.0
none_first (Some l) A B D s = tt

pub none_last : (o : Option Letter) (A B D : Type 0) → IfNone o (A × B × D) → o ≡ None → D
none_last None A B D s e = s.2
none_last (Some l) A B D s e = absurd cc

pub got_below : {A : Type 0} (xs : List A) (i : ℕ) (x : A) → slice_get xs i ≡ Some x → i < length xs
got_below [] i x e = absurd cc
got_below (y ∷ ys) zero x e = omega arith
got_below (y ∷ ys) (suc i) x e = let less : i < length ys = got_below ys i x e in omega (arith, less)

some_same : {A : Type 0} (x y : A) → Some x ≡ Some y → x ≡ y
some_same x y e = cc

module _ {C : Type 0} where
  -- the carrier at the place
  place_is : (side : List (Towards C)) (node at : ℕ) (t : Towards C) → slice_get side at ≡ Some t → t.node ≡ node → ((i : ℕ) (u : Towards C) → i < at → slice_get side i ≡ Some u → u.node ≢ node) → carrier_to side node ≡ Some t.carrier
  place_is [] node at t is n before = absurd cc
  place_is (x ∷ xs) node zero t is n before =
      let s : x ≡ t = cc in
      ap (λ b. cond b (Some x.carrier) (carrier_to xs node)) (eq-eqb x.node node (ap (λ (u : Towards C). u.node) s ∙ n)) ∙ ap (λ (u : Towards C). Some u.carrier) s
  place_is (x ∷ xs) node (suc at) t is n before =
      ap (λ b. cond b (Some x.carrier) (carrier_to xs node)) (ne_eqb x.node node (before 0 x (omega arith) refl)) ∙ place_is xs node at t is n (λ i u less e. before (suc i) u (omega (arith, less)) e)

  -- and after another is there
  place_set : (side : List (Towards C)) (node at : ℕ) (t u : Towards C) → slice_get side at ≡ Some t → t.node ≡ node → u.node ≡ node → ((i : ℕ) (v : Towards C) → i < at → slice_get side i ≡ Some v → v.node ≢ node)
      → (m : ℕ) → carrier_to (slice_set side at u) m ≡ cond (m == node) (Some u.carrier) (carrier_to side m)
  place_set [] node at t u is n k before m = absurd cc
  place_set (x ∷ xs) node zero t u is n k before m = go (m == node) refl
    where
      s : x ≡ t
      s = cc

      go : (b : Bool) → (m == node) ≡ b → cond (u.node == m) (Some u.carrier) (carrier_to xs m) ≡ cond b (Some u.carrier) (cond (x.node == m) (Some x.carrier) (carrier_to xs m))
      go true q = ap (λ b. cond b (Some u.carrier) (carrier_to xs m)) (eq-eqb u.node m (k ∙ sym (eqb-true m node q)))
      go false q =
          let off : m ≢ node = off_of m node q in
          ap (λ b. cond b (Some u.carrier) (carrier_to xs m)) (ne_eqb u.node m (λ e. off (sym e ∙ k)))
          ∙ sym (ap (λ b. cond b (Some x.carrier) (carrier_to xs m)) (ne_eqb x.node m (λ e. off (sym e ∙ (ap (λ (v : Towards C). v.node) s ∙ n)))))
  place_set (x ∷ xs) node (suc at) t u is n k before m = go (x.node == m) refl (place_set xs node at t u is n k (λ i v less e. before (suc i) v (omega (arith, less)) e) m)
    where
      off : x.node ≢ node
      off = before 0 x (omega arith) refl

      go : (b : Bool) → (x.node == m) ≡ b → carrier_to (slice_set xs at u) m ≡ cond (m == node) (Some u.carrier) (carrier_to xs m)
          → cond b (Some x.carrier) (carrier_to (slice_set xs at u) m) ≡ cond (m == node) (Some u.carrier) (cond b (Some x.carrier) (carrier_to xs m))
      go true q e = sym (ap (λ b. cond b (Some u.carrier) (Some x.carrier)) (ne_eqb m node (λ f. off (eqb-true x.node m q ∙ f))))
      go false q e = e

  -- no place, no carrier
  pub none_at : (side : List (Towards C)) (node : ℕ) → ((i : ℕ) (u : Towards C) → slice_get side i ≡ Some u → u.node ≢ node) → carrier_to side node ≡ None
  none_at [] node none = refl
  none_at (x ∷ xs) node none = ap (λ b. cond b (Some x.carrier) (carrier_to xs node)) (ne_eqb x.node node (none 0 x refl)) ∙ none_at xs node (λ i u e. none (suc i) u e)

  module _ (pair : C → C → Type 0) where
    carrier_same : (o : Option C) → SameCarrier pair o o
    carrier_same None = tt
    carrier_same (Some c) = λ w. (λ p. p, λ p. p)

    carrier_then : (o p q : Option C) → SameCarrier pair o p → SameCarrier pair p q → SameCarrier pair o q
    carrier_then None None None a b = tt
    carrier_then None None (Some z) a b = absurd b
    carrier_then None (Some y) q a b = absurd a
    carrier_then (Some x) None q a b = absurd a
    carrier_then (Some x) (Some y) None a b = absurd b
    carrier_then (Some x) (Some y) (Some z) a b = λ w. (λ t. (b w).0 ((a w).0 t), λ t. (b w).1 ((a w).1 t))

    pub side_same : (side : List (Towards C)) → SameSide pair side side
    side_same side m = carrier_same (carrier_to side m)

    pub side_then : (xs ys zs : List (Towards C)) → SameSide pair xs ys → SameSide pair ys zs → SameSide pair xs zs
    side_then xs ys zs a b m = carrier_then (carrier_to xs m) (carrier_to ys m) (carrier_to zs m) (a m) (b m)

  -- the carrier at a place changes
  module _ (puts gives : C → List Letter) (pair : C → C → Type 0) (side : List (Towards C)) (node at : ℕ) (place : IsPlace side node at) (u : Towards C) (k : u.node ≡ node) (keeps : Keeps pair place.here.carrier u.carrier) where
    was_is : carrier_to side node ≡ Some place.here.carrier
    was_is = place_is side node at place.here place.is place.node_is place.before

    now_is : (m : ℕ) → carrier_to (slice_set side at u) m ≡ cond (m == node) (Some u.carrier) (carrier_to side m)
    now_is m = place_set side node at place.here u place.is place.node_is k place.before m

    pub side_set : SameSide pair side (slice_set side at u)
    side_set m = subst (λ (o : Option C). SameCarrier pair (carrier_to side m) o) (sym (now_is m)) (go (m == node) refl)
      where
        go : (b : Bool) → (m == node) ≡ b → SameCarrier pair (carrier_to side m) (cond b (Some u.carrier) (carrier_to side m))
        go true q = subst (λ (o : Option C). SameCarrier pair o (Some u.carrier)) (sym (ap (carrier_to side) (eqb-true m node q) ∙ was_is)) keeps
        go false q = carrier_same pair (carrier_to side m)

    -- one list of the carrier grows by these letters
    grows : (f : C → List Letter) (more : List Letter) → f u.carrier ≡ f place.here.carrier ++ more → (m : ℕ) → towards f (slice_set side at u) m ≡ towards f side m ++ cond (m == node) more []
    grows f more e m = ap (of_carrier f) (now_is m) ∙ go (m == node) refl
      where
        go : (b : Bool) → (m == node) ≡ b → of_carrier f (cond b (Some u.carrier) (carrier_to side m)) ≡ towards f side m ++ cond b more []
        go true q = e ∙ ap (λ (l : List Letter). l ++ more) (sym (ap (towards f side) (eqb-true m node q) ∙ ap (of_carrier f) was_is))
        go false q = sym (append-nil (towards f side m))

    pub stays : (f : C → List Letter) → f u.carrier ≡ f place.here.carrier → (m : ℕ) → towards f (slice_set side at u) m ≡ towards f side m
    stays f e m = grows f [] (e ∙ sym (append-nil (f place.here.carrier))) m ∙ (ap (λ (l : List Letter). towards f side m ++ l) (none (m == node)) ∙ append-nil (towards f side m))
      where
        none : (b : Bool) → cond {A = List Letter} b [] [] ≡ []
        none true = refl
        none false = refl

    pub handed : (l : Letter) (back : Option Letter) → l.to ≡ node → gives u.carrier ≡ gives place.here.carrier → IfNone back (puts u.carrier ≡ puts place.here.carrier ++ l ∷ []) → IfSome back (λ b. (b ≡ l) × (puts u.carrier ≡ puts place.here.carrier)) → Handed puts gives pair l back side (slice_set side at u)
    handed l None to g none some = record { same = tt; put_now = λ m. grows puts (l ∷ []) none m ∙ ap (λ (n : ℕ). towards puts side m ++ cond (m == n) (l ∷ []) []) (sym to); given_now = λ m. stays gives g m; side = side_set }
    handed l (Some b) to g none some = record { same = some.0; put_now = λ m. stays puts some.1 m ∙ sym (append-nil (towards puts side m)); given_now = λ m. stays gives g m; side = side_set }

    pub looked : (came : Option Letter) → puts u.carrier ≡ puts place.here.carrier → IfSome came (λ l. gives u.carrier ≡ gives place.here.carrier ++ l ∷ []) → IfNone came (gives u.carrier ≡ gives place.here.carrier) → Looked puts gives pair node came side (slice_set side at u)
    looked None p some none = record { put_now = λ m. stays puts p m; given_now = λ m. grows gives [] (none ∙ sym (append-nil (gives place.here.carrier))) m; side = side_set }
    looked (Some l) p some none = record { put_now = λ m. stays puts p m; given_now = λ m. grows gives (l ∷ []) some m; side = side_set }

  -- where no carrier is touched
  module _ (puts gives : C → List Letter) (pair : C → C → Type 0) (side : List (Towards C)) where
    pub handed_back : (l : Letter) → Handed puts gives pair l (Some l) side side
    handed_back l = record { same = refl; put_now = λ m. sym (append-nil (towards puts side m)); given_now = λ m. refl; side = side_same pair side }

    pub looked_none : (node : ℕ) → Looked puts gives pair node None side side
    looked_none node = record { put_now = λ m. refl; given_now = λ m. sym (ap (λ (l : List Letter). towards gives side m ++ l) (none (m == node)) ∙ append-nil (towards gives side m)); side = side_same pair side }
      where
        none : (b : Bool) → cond {A = List Letter} b [] [] ≡ []
        none true = refl
        none false = refl

  -- a letter was put at a place, and one was looked for
  module _ (puts gives : C → List Letter) (pair : C → C → Type 0) (side : List (Towards C)) (node at : ℕ) (place : IsPlace side node at) (t : Towards C) (e : Some t ≡ slice_get side at) where
    here_is : t ≡ place.here
    here_is = let s : Some t ≡ Some place.here = e ∙ place.is in cc

    node_is : t.node ≡ node
    node_is = ap (λ (u : Towards C). u.node) here_is ∙ place.node_is

    pub put_done : (c : C) (l : Letter) (back : Option Letter) → Keeps pair t.carrier c → l.to ≡ node → gives c ≡ gives t.carrier → IfNone back (puts c ≡ puts t.carrier ++ l ∷ []) → IfSome back (λ b. (b ≡ l) × (puts c ≡ puts t.carrier))
        → Handed puts gives pair l back side (slice_set side at (record { node = t.node; carrier = c }))
    put_done c l back keeps to g none some = handed puts gives pair side node at (record { here = t; is = sym e; node_is = node_is; before = place.before }) (record { node = t.node; carrier = c }) node_is keeps l back to g none some

    pub take_done : (c d : C) (came : Option Letter) → Keeps pair t.carrier c → (puts c ≡ puts t.carrier) × (gives c ≡ gives t.carrier) → Keeps pair c d → puts d ≡ puts c → IfSome came (λ l. gives d ≡ gives c ++ l ∷ []) → IfNone came (gives d ≡ gives c)
        → Looked puts gives pair node came side (slice_set side at (record { node = t.node; carrier = d }))
    take_done c d came keeps lists then p some none = looked puts gives pair side node at (record { here = t; is = sym e; node_is = node_is; before = place.before }) (record { node = t.node; carrier = d }) node_is
        (λ w. (λ q. (then w).0 ((keeps w).0 q), λ q. (then w).1 ((keeps w).1 q))) came (p ∙ lists.0) (by_some came some) (by_none came none)
      where
        by_some : (o : Option Letter) → IfSome o (λ l. gives d ≡ gives c ++ l ∷ []) → IfSome o (λ l. gives d ≡ gives t.carrier ++ l ∷ [])
        by_some None s = tt
        by_some (Some l) s = s ∙ ap (λ (k : List Letter). k ++ l ∷ []) lists.1

        by_none : (o : Option Letter) → IfNone o (gives d ≡ gives c) → IfNone o (gives d ≡ gives t.carrier)
        by_none None s = s ∙ lists.1
        by_none (Some l) s = tt

  -- the carrier at a place, as it was found there
  module _ (side : List (Towards C)) (node at : ℕ) (place : IsPlace side node at) (t : Towards C) (e : Some t ≡ slice_get side at) where
    found : t.node ≡ node
    found = let s : Some t ≡ Some place.here = e ∙ place.is in ap (λ (u : Towards C). u.node) (some_same t place.here s) ∙ place.node_is

    pub carrier_at : carrier_to side node ≡ Some t.carrier
    carrier_at = place_is side node at t (sym e) found place.before

    pub carrier_set : (c : C) → carrier_to (slice_set side at (record { node = t.node; carrier = c })) node ≡ Some c
    carrier_set c = place_set side node at t (record { node = t.node; carrier = c }) (sym e) found found place.before node ∙ ap (λ (b : Bool). cond b (Some c) (carrier_to side node)) (eq-eqb node node refl)

    pub others_at : (c : C) → OthersStay node side (slice_set side at (record { node = t.node; carrier = c }))
    others_at c m off = place_set side node at t (record { node = t.node; carrier = c }) (sym e) found found place.before m ∙ ap (λ (b : Bool). cond b (Some c) (carrier_to side m)) (ne_eqb m node off)

    pub knows_set : (f : C → ℕ) (c : C) → knows f (slice_set side at (record { node = t.node; carrier = c })) node ≡ f c
    knows_set f c = ap (count_of f) (carrier_set c)

    -- where no letter came, none was known
    pub take_tells : (f : C → ℕ) (c d : C) (came : Option Letter) → f t.carrier ≤ f c → (came ≡ None → f c ≡ 0) → LookTells f node came side (slice_set side at (record { node = t.node; carrier = d }))
    take_tells f c d came less none = record {
      none = λ n. let k : knows f side node ≡ f t.carrier = ap (count_of f) carrier_at in let z = none n in omega (arith, k, less, z);
      others = others_at d;
    }

  pub no_tells : (f : C → ℕ) (side : List (Towards C)) (node : ℕ) → carrier_to side node ≡ None → LookTells f node None side side
  no_tells f side node e = record { none = λ n. ap (count_of f) e; others = λ m off. refl }

  module _ (puts gives : C → List Letter) (pair : C → C → Type 0) (side : List (Towards C)) (node at : ℕ) (place : IsPlace side node at) (t : Towards C) (e : Some t ≡ slice_get side at) (c : C) (keeps : Keeps pair t.carrier c) where
    pub side_at : SameSide pair side (slice_set side at (record { node = t.node; carrier = c }))
    side_at = side_set puts gives pair side node at (record { here = t; is = sym e; node_is = found side node at place t e; before = place.before }) (record { node = t.node; carrier = c }) (found side node at place t e) keeps

    pub stays_at : (f : C → List Letter) → f c ≡ f t.carrier → (m : ℕ) → towards f (slice_set side at (record { node = t.node; carrier = c })) m ≡ towards f side m
    stays_at f s m = stays puts gives pair side node at (record { here = t; is = sym e; node_is = found side node at place t e; before = place.before }) (record { node = t.node; carrier = c }) (found side node at place t e) keeps f s m
