-- Carriers of two sides meet.
use Rattle.std.proofs.Common.{◌≡◌, ◌≢◌, ℕ, ◌+◌, ◌==◌, ◌++◌, ◌↔◌, Bool, true, false, cond, Option, Some, None, List, [], ◌∷◌, refl, sym, ap, ◌∙◌, subst, arith, length, slice_get, slice_set}
use Rattle.std.specs.Prelude.{IsTrue}
use Rattle.std.proofs.lemmas.Bool.{eq-eqb}
use Rattle.call_forward.specs.declared.letter.Letter.{Letter}
use Rattle.node_links.specs.Meetings.{Keeps, IsMet}
use Rattle.node_links.specs.Sides.{carrier_to}
use Rattle.node_links.specs.declared.side.Towards.{Towards}
use Rattle.cluster_run.specs.Sides.{of_carrier, towards, count_of, knows, IsPlace, SameSide}
use Rattle.cluster_run.specs.Meeting.{Linked, Fronts, SideCalm, MetSides, MetSelf, CountedSides, CountedSelf}
use Rattle.cluster_run.proofs.Places.{carrier_at, carrier_set, side_at, stays_at, side_same, others_at, knows_set}

-- where both are none, nothing came out and nothing went in
pub fronts_none : (none : Bool) → Fronts none [] []
fronts_none none = record { order = ([], refl); all = λ e. refl }

module _ {C : Type 0} (puts gives : C → List Letter) (pair : C → C → Type 0) where
  pub calm_same : (side : List (Towards C)) → SideCalm puts gives pair side side
  calm_same side = record { put_same = λ m. refl; given_same = λ m. refl; side = side_same pair side }

  module _ (side : List (Towards C)) (node at : ℕ) (place : IsPlace side node at) (t : Towards C) (e : Some t ≡ slice_get side at) (c : C) (keeps : Keeps pair t.carrier c) where
    calm_set : puts c ≡ puts t.carrier → gives c ≡ gives t.carrier → SideCalm puts gives pair side (slice_set side at (record { node = t.node; carrier = c }))
    calm_set p g = record { put_same = λ m. stays_at puts gives pair side node at place t e c keeps puts p m; given_same = λ m. stays_at puts gives pair side node at place t e c keeps gives g m; side = side_at puts gives pair side node at place t e c keeps }

    towards_set : (f : C → List Letter) → towards f (slice_set side at (record { node = t.node; carrier = c })) node ≡ f c
    towards_set f = ap (of_carrier f) (carrier_set side node at place t e c)

  module _ (one two : List (Towards C)) (a b here there : ℕ) (mine : IsPlace one b here) (other : IsPlace two a there) (t u : Towards C) (e : Some t ≡ slice_get one here) (f : Some u ≡ slice_get two there) (linked : Linked pair (carrier_to one b) (carrier_to two a)) where
    pub pair_of : pair t.carrier u.carrier
    pair_of = subst (λ (o : Option C). Linked pair o (Some u.carrier)) (carrier_at one b here mine t e) (subst (λ (o : Option C). Linked pair (carrier_to one b) o) (carrier_at two a there other u f) linked)

    pub met_sides : (none : Bool) (c d : C) (s1 s2 : Bool) (k1 k2 : ℕ) (A B : Type 0) → Keeps pair t.carrier c × (puts c ≡ puts t.carrier) × (gives c ≡ gives t.carrier) × A → Keeps pair u.carrier d × (puts d ≡ puts u.carrier) × (gives d ≡ gives u.carrier) × B
        → IsMet (puts c) s1 (gives d) k1 → IsMet (puts d) s2 (gives c) k2 → IsTrue none ↔ ((gives d ≡ puts c) × (gives c ≡ puts d))
        → MetSides puts gives pair none a b one (slice_set one here (record { node = t.node; carrier = c })) two (slice_set two there (record { node = u.node; carrier = d }))
    met_sides none c d s1 s2 k1 k2 A B one_kept two_kept out back empty = record {
      one_calm = calm_set one b here mine t e c one_kept.0 one_kept.1 one_kept.2;
      two_calm = calm_set two a there other u f d two_kept.0 two_kept.1 two_kept.2;
      there = subst (λ (w : List Letter). Fronts none w (towards puts (slice_set one here (record { node = t.node; carrier = c })) b)) (sym (towards_set two a there other u f d two_kept.0 gives)) (subst (λ (w : List Letter). Fronts none (gives d) w) (sym (towards_set one b here mine t e c one_kept.0 puts)) (record { order = out.order; all = λ z. (empty.0 z).0 }));
      back = subst (λ (w : List Letter). Fronts none w (towards puts (slice_set two there (record { node = u.node; carrier = d })) a)) (sym (towards_set one b here mine t e c one_kept.0 gives)) (subst (λ (w : List Letter). Fronts none (gives c) w) (sym (towards_set two a there other u f d two_kept.0 puts)) (record { order = back.order; all = λ z. (empty.0 z).1 }));
    }

  module _ (side : List (Towards C)) (a at : ℕ) (place : IsPlace side a at) (t : Towards C) (e : Some t ≡ slice_get side at) (linked : Linked pair (carrier_to side a) (carrier_to side a)) where
    pub own_pair : pair t.carrier t.carrier
    own_pair = subst (λ (o : Option C). Linked pair o o) (carrier_at side a at place t e) linked

    pub met_own : (none : Bool) (c : C) (s : Bool) (k : ℕ) (A : Type 0) → Keeps pair t.carrier c × (puts c ≡ puts t.carrier) × (gives c ≡ gives t.carrier) × A → IsMet (puts c) s (gives c) k → IsTrue none ↔ (gives c ≡ puts c)
        → MetSelf puts gives pair none a side (slice_set side at (record { node = t.node; carrier = c }))
    met_own none c s k A kept own empty = record {
      calm = calm_set side a at place t e c kept.0 kept.1 kept.2;
      own = subst (λ (w : List Letter). Fronts none w (towards puts (slice_set side at (record { node = t.node; carrier = c })) a)) (sym (towards_set side a at place t e c kept.0 gives)) (subst (λ (w : List Letter). Fronts none (gives c) w) (sym (towards_set side a at place t e c kept.0 puts)) (record { order = own.order; all = λ z. empty.0 z }));
    }

  -- where neither has a carrier towards the other one
  pub met_apart : (one two : List (Towards C)) (a b : ℕ) → carrier_to one b ≡ None → carrier_to two a ≡ None → MetSides puts gives pair true a b one one two two
  met_apart one two a b e f = record {
    one_calm = calm_same one;
    two_calm = calm_same two;
    there = subst (λ (w : List Letter). Fronts true w (towards puts one b)) (sym (ap (of_carrier gives) f)) (subst (λ (w : List Letter). Fronts true [] w) (sym (ap (of_carrier puts) e)) (fronts_none true));
    back = subst (λ (w : List Letter). Fronts true w (towards puts two a)) (sym (ap (of_carrier gives) e)) (subst (λ (w : List Letter). Fronts true [] w) (sym (ap (of_carrier puts) f)) (fronts_none true));
  }

  pub none_back : (o p : Option C) → Linked pair o p → o ≡ None → p ≡ None
  none_back None None l e = refl
  none_back None (Some d) l e = absurd l
  none_back (Some c) p l e = absurd cc

  pub none_there : (o p : Option C) → Linked pair o p → p ≡ None → o ≡ None
  none_there None p l e = refl
  none_there (Some c) None l e = absurd l
  none_there (Some c) (Some d) l e = absurd cc

  pub met_alone : (side : List (Towards C)) (a : ℕ) → carrier_to side a ≡ None → MetSelf puts gives pair true a side side
  met_alone side a e = record { calm = calm_same side; own = subst (λ (w : List Letter). Fronts true w (towards puts side a)) (sym (ap (of_carrier gives) e)) (subst (λ (w : List Letter). Fronts true [] w) (sym (ap (of_carrier puts) e)) (fronts_none true)) }

module _ {C : Type 0} (puts gives : C → List Letter) (known : C → ℕ) where
  -- a letter list of a carrier that was set
  length_set : (f : C → List Letter) (side : List (Towards C)) (node at : ℕ) (place : IsPlace side node at) (t : Towards C) (e : Some t ≡ slice_get side at) (c : C) → length (towards f (slice_set side at (record { node = t.node; carrier = c })) node) ≡ length (f c)
  length_set f side node at place t e c = ap (λ (o : Option C). length (of_carrier f o)) (carrier_set side node at place t e c)

  pub counted_sides : (one two : List (Towards C)) (a b here there : ℕ) (mine : IsPlace one b here) (other : IsPlace two a there) (t u : Towards C) (e : Some t ≡ slice_get one here) (f : Some u ≡ slice_get two there) (c d : C) (s1 s2 : Bool) → IsMet (puts c) s1 (gives d) (known d) → IsMet (puts d) s2 (gives c) (known c)
      → CountedSides puts gives known a b one (slice_set one here (record { node = t.node; carrier = c })) two (slice_set two there (record { node = u.node; carrier = d }))
  counted_sides one two a b here there mine other t u e f c d s1 s2 out back =
      let p1 = length_set puts one b here mine t e c in
      let g1 = length_set gives one b here mine t e c in
      let k1 = knows_set one b here mine t e known c in
      let p2 = length_set puts two a there other u f d in
      let g2 = length_set gives two a there other u f d in
      let k2 = knows_set two a there other u f known d in
      let o = out.count in
      let i = back.count in
      record {
        one_others = others_at one b here mine t e c;
        two_others = others_at two a there other u f d;
        there = omega (arith, g2, k2, p1, o);
        back = omega (arith, g1, k1, p2, i);
      }

  pub counted_own : (side : List (Towards C)) (a at : ℕ) (place : IsPlace side a at) (t : Towards C) (e : Some t ≡ slice_get side at) (c : C) (s : Bool) → IsMet (puts c) s (gives c) (known c) → CountedSelf puts gives known a side (slice_set side at (record { node = t.node; carrier = c }))
  counted_own side a at place t e c s own =
      let p = length_set puts side a at place t e c in
      let g = length_set gives side a at place t e c in
      let k = knows_set side a at place t e known c in
      let o = own.count in
      record { others = others_at side a at place t e c; own = omega (arith, p, g, k, o) }

  none_length : (f : C → List Letter) (side : List (Towards C)) (m : ℕ) → carrier_to side m ≡ None → length (towards f side m) ≡ 0
  none_length f side m e = ap (λ (o : Option C). length (of_carrier f o)) e

  pub counted_apart : (one two : List (Towards C)) (a b : ℕ) → carrier_to one b ≡ None → carrier_to two a ≡ None → CountedSides puts gives known a b one one two two
  counted_apart one two a b e f =
      let p1 = none_length puts one b e in
      let g1 = none_length gives one b e in
      let k1 : knows known one b ≡ 0 = ap (count_of known) e in
      let p2 = none_length puts two a f in
      let g2 = none_length gives two a f in
      let k2 : knows known two a ≡ 0 = ap (count_of known) f in
      record { one_others = λ m off. refl; two_others = λ m off. refl; there = omega (arith, g2, k2, p1); back = omega (arith, g1, k1, p2) }

  pub counted_alone : (side : List (Towards C)) (a : ℕ) → carrier_to side a ≡ None → CountedSelf puts gives known a side side
  counted_alone side a e =
      let p = none_length puts side a e in
      let g = none_length gives side a e in
      let k : knows known side a ≡ 0 = ap (count_of known) e in
      record { others = λ m off. refl; own = omega (arith, p, g, k) }
