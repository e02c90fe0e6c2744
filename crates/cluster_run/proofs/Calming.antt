-- The carriers of seats meet, and nothing else happens.
use Rattle.std.proofs.Common.{◌≡◌, ◌≢◌, ℕ, zero, suc, ◌+◌, ◌<◌, ◌≤◌, ◌==◌, ◌&&◌, ◌++◌, Bool, true, false, cond, Option, Some, None, List, [], ◌∷◌, refl, sym, ap, ◌∙◌, subst, arith, length, get_or, slice_get, slice_set, take, drop}
use Rattle.std.proofs.lemmas.Bool.{eqb-true, eq-eqb}
use Rattle.call_forward.specs.declared.letter.Letter.{Letter}
use Rattle.node_links.specs.declared.side.Towards.{Towards}
use Rattle.node_links.specs.Sides.{carrier_to}
use Rattle.node_links.specs.Meetings.{Keeps}
use Rattle.cluster_run.specs.declared.seat.Seat.{Seat}
use Rattle.cluster_run.specs.Sides.{of_carrier, towards, count_of, knows, OthersStay, SameCarrier, SameSide}
use Rattle.cluster_run.specs.Meeting.{Linked, Fronts, SideCalm, MetSides, MetSelf, CountedSides, CountedSelf}
use Rattle.cluster_run.specs.Standing.{AreLinked, SeatCalm, Calm, BothFront, Met, RowMet, AllMet, Counted, RowCounted}
use Rattle.cluster_run.proofs.Places.{side_then}
use Rattle.cluster_run.proofs.Meetings.{calm_same}

-- ---- places of lists

pub got : {A : Type 0} (xs : List A) (k : ℕ) (x : A) → k < length xs → x ≡ get_or xs k x → slice_get xs k ≡ Some x
got [] k x less is = absurd (omega arith)
got (y ∷ ys) zero x less is = ap (λ (z : _). Some z) (sym is)
got (y ∷ ys) (suc k) x less is = got ys k x (omega arith) is

pub below : {A : Type 0} (xs : List A) (k : ℕ) (x : A) → slice_get xs k ≡ Some x → k < length xs
below [] k x e = absurd cc
below (y ∷ ys) zero x e = omega arith
below (y ∷ ys) (suc k) x e = let less : k < length ys = below ys k x e in omega (arith, less)

pub or_got : {A : Type 0} (xs : List A) (k : ℕ) (d : A) → k < length xs → slice_get xs k ≡ Some (get_or xs k d)
or_got [] k d less = absurd (omega arith)
or_got (y ∷ ys) zero d less = refl
or_got (y ∷ ys) (suc k) d less = or_got ys k d (omega arith)

pub get_set : {A : Type 0} (xs : List A) (k : ℕ) (y : A) → k < length xs → slice_get (slice_set xs k y) k ≡ Some y
get_set [] k y less = absurd (omega arith)
get_set (x ∷ xs) zero y less = refl
get_set (x ∷ xs) (suc k) y less = get_set xs k y (omega arith)

pub get_off : {A : Type 0} (xs : List A) (k m : ℕ) (y : A) → m ≢ k → slice_get (slice_set xs k y) m ≡ slice_get xs m
get_off [] k m y off = refl
get_off (x ∷ xs) zero zero y off = absurd (off refl)
get_off (x ∷ xs) zero (suc m) y off = refl
get_off (x ∷ xs) (suc k) zero y off = refl
get_off (x ∷ xs) (suc k) (suc m) y off = get_off xs k m y (λ e. off (ap (λ (n : ℕ). suc n) e))

pub length_set : {A : Type 0} (xs : List A) (k : ℕ) (y : A) → length (slice_set xs k y) ≡ length xs
length_set [] k y = refl
length_set (x ∷ xs) zero y = refl
length_set (x ∷ xs) (suc k) y = ap (λ (n : ℕ). suc n) (length_set xs k y)

get_take : {A : Type 0} (xs : List A) (b a : ℕ) → a < b → slice_get (take b xs) a ≡ slice_get xs a
get_take xs zero a less = absurd (omega arith)
get_take [] (suc b) a less = refl
get_take (x ∷ xs) (suc b) zero less = refl
get_take (x ∷ xs) (suc b) (suc a) less = get_take xs b a (omega arith)

get_drop : {A : Type 0} (xs : List A) (b : ℕ) → slice_get (drop b xs) 0 ≡ slice_get xs b
get_drop xs zero = refl
get_drop [] (suc b) = refl
get_drop (x ∷ xs) (suc b) = get_drop xs b

set_drop : {A : Type 0} (ws : List A) (b : ℕ) (y : A) → b < length ws → take b ws ++ slice_set (drop b ws) 0 y ≡ slice_set ws b y
set_drop [] b y within = absurd (omega arith)
set_drop (w ∷ ws) zero y within = refl
set_drop (w ∷ ws) (suc b) y within = ap (λ (v : _). w ∷ v) (set_drop ws b y (omega arith))

set_split : {A : Type 0} (xs : List A) (b a : ℕ) (x y : A) → a < b → b < length xs → slice_set (take b xs) a x ++ slice_set (drop b xs) 0 y ≡ slice_set (slice_set xs a x) b y
set_split [] b a x y less within = absurd (omega arith)
set_split (z ∷ zs) zero a x y less within = absurd (omega arith)
set_split (z ∷ zs) (suc b) zero x y less within = ap (λ (w : _). x ∷ w) (set_drop zs b y (omega arith))
set_split (z ∷ zs) (suc b) (suc a) x y less within = ap (λ (w : _). z ∷ w) (set_split zs b a x y (omega arith) (omega arith))

pub some_is : {A : Type 0} (x y : A) → Some x ≡ Some y → x ≡ y
some_is x y e = cc

both_parts : (a b : Bool) → (a && b) ≡ true → (a ≡ true) × (b ≡ true)
both_parts true b e = (refl, e)
both_parts false b e = absurd cc

-- ---- a pair stays one

module _ {C : Type 0} (pair : C → C → Type 0) where
  pub linked_keeps : (o p o2 p2 : Option C) → SameCarrier pair o o2 → SameCarrier pair p p2 → Linked pair o p → Linked pair o2 p2
  linked_keeps None None None None a b l = tt
  linked_keeps None None (Some c) p2 a b l = absurd a
  linked_keeps None None None (Some d) a b l = absurd b
  linked_keeps None (Some d) o2 p2 a b l = absurd l
  linked_keeps (Some c) None o2 p2 a b l = absurd l
  linked_keeps (Some c) (Some d) None p2 a b l = absurd a
  linked_keeps (Some c) (Some d) (Some e) None a b l = absurd b
  linked_keeps (Some c) (Some d) (Some e) (Some f) a b l = (b e).1 ((a d).0 l)

fronts_less : (one other : Bool) (given put : List Letter) → Fronts one given put → Fronts (one && other) given put
fronts_less one other given put f = record { order = f.order; all = λ z. f.all (both_parts one other z).0 }

fronts_other : (one other : Bool) (given put : List Letter) → Fronts other given put → Fronts (one && other) given put
fronts_other one other given put f = record { order = f.order; all = λ z. f.all (both_parts one other z).1 }

module _ {C : Type 0} (puts gives : C → List Letter) (pair : C → C → Type 0) where
  side_calm_then : (xs ys zs : List (Towards C)) → SideCalm puts gives pair xs ys → SideCalm puts gives pair ys zs → SideCalm puts gives pair xs zs
  side_calm_then xs ys zs a b = record { put_same = λ m. b.put_same m ∙ a.put_same m; given_same = λ m. b.given_same m ∙ a.given_same m; side = side_then pair xs ys zs a.side b.side }

module _ {N C : Type 0} (puts gives : C → List Letter) (pair : C → C → Type 0) where
  pub seat_same : (s : Seat N C) → SeatCalm puts gives pair s s
  seat_same s = record { same = refl; side = calm_same puts gives pair s.side }

  pub seat_then : (s t u : Seat N C) → SeatCalm puts gives pair s t → SeatCalm puts gives pair t u → SeatCalm puts gives pair s u
  seat_then s t u a b = record { same = b.same ∙ ap (λ (w : Seat N C). record w { side = u.side }) a.same; side = side_calm_then puts gives pair s.side t.side u.side a.side b.side }

  pub calm_none : (xs : List (Seat N C)) → Calm puts gives pair xs xs
  calm_none xs = record { count = refl; each = λ k t e. (t, e, seat_same t) }

  pub calm_then : (xs ys zs : List (Seat N C)) → Calm puts gives pair xs ys → Calm puts gives pair ys zs → Calm puts gives pair xs zs
  calm_then xs ys zs a b = record { count = b.count ∙ a.count; each = λ k u e. let q = b.each k u e in let p = a.each k q.0 q.1 in (p.0, p.1, seat_then p.0 q.0 u p.2 q.2) }

  pub calm_set : (xs : List (Seat N C)) (k : ℕ) (s t : Seat N C) → slice_get xs k ≡ Some s → SeatCalm puts gives pair s t → Calm puts gives pair xs (slice_set xs k t)
  calm_set xs k s t e c = record { count = length_set xs k t; each = λ m u is. go m u is (m == k) refl }
    where
      go : (m : ℕ) (u : Seat N C) → slice_get (slice_set xs k t) m ≡ Some u → (b : Bool) → (m == k) ≡ b → (r : Seat N C) × (slice_get xs m ≡ Some r) × SeatCalm puts gives pair r u
      go m u is true q =
          let n : m ≡ k = eqb-true m k q in
          let same : Some t ≡ Some u = sym (get_set xs k t (below xs k s e)) ∙ (ap (slice_get (slice_set xs k t)) (sym n) ∙ is) in
          (s, ap (slice_get xs) n ∙ e, subst (λ (w : Seat N C). SeatCalm puts gives pair s w) (some_is t u same) c)
      go m u is false q = (u, sym (get_off xs k m t (λ n. let z : true ≡ false = sym (eq-eqb m k n) ∙ q in cc)) ∙ is, seat_same u)

  -- after a calm the carriers are still pairs, and what came out still begins what went in
  pub linked_calm : (xs ys : List (Seat N C)) → Calm puts gives pair xs ys → AreLinked pair xs → AreLinked pair ys
  linked_calm xs ys c l a b s t e f =
      let p = c.each a s e in
      let q = c.each b t f in
      linked_keeps pair (carrier_to p.0.side b) (carrier_to q.0.side a) (carrier_to s.side b) (carrier_to t.side a) (p.2.side.side b) (q.2.side.side a) (l a b p.0 q.0 p.1 q.1)

  both_calm : (none : Bool) (a b : ℕ) (xs ys : List (Seat N C)) → Calm puts gives pair xs ys → BothFront puts gives pair none a b xs → BothFront puts gives pair none a b ys
  both_calm none a b xs ys c f = record {
    there = λ s t e g. let p = c.each a s e in let q = c.each b t g in
        subst (λ (w : List Letter). Fronts none w (towards puts s.side b)) (sym (q.2.side.given_same a)) (subst (λ (w : List Letter). Fronts none (towards gives q.0.side a) w) (sym (p.2.side.put_same b)) (f.there p.0 q.0 p.1 q.1));
    back = λ s t e g. let p = c.each a s e in let q = c.each b t g in
        subst (λ (w : List Letter). Fronts none w (towards puts t.side a)) (sym (p.2.side.given_same b)) (subst (λ (w : List Letter). Fronts none (towards gives p.0.side b) w) (sym (q.2.side.put_same a)) (f.back p.0 q.0 p.1 q.1));
  }

  both_less : (one other : Bool) (a b : ℕ) (xs : List (Seat N C)) → BothFront puts gives pair one a b xs → BothFront puts gives pair (one && other) a b xs
  both_less one other a b xs f = record { there = λ s t e g. fronts_less one other _ _ (f.there s t e g); back = λ s t e g. fronts_less one other _ _ (f.back s t e g) }

  both_other : (one other : Bool) (a b : ℕ) (xs : List (Seat N C)) → BothFront puts gives pair other a b xs → BothFront puts gives pair (one && other) a b xs
  both_other one other a b xs f = record { there = λ s t e g. fronts_other one other _ _ (f.there s t e g); back = λ s t e g. fronts_other one other _ _ (f.back s t e g) }

  both_turned : (none : Bool) (a b : ℕ) (xs : List (Seat N C)) → BothFront puts gives pair none a b xs → BothFront puts gives pair none b a xs
  both_turned none a b xs f = record { there = λ s t e g. f.back t s g e; back = λ s t e g. f.there t s g e }

  pub met_turned : (none : Bool) (a b : ℕ) (xs ys : List (Seat N C)) → Met puts gives pair none a b xs ys → Met puts gives pair none b a xs ys
  met_turned none a b xs ys m = record { calm = m.calm; both = both_turned none a b ys m.both }

  -- ---- two seats of a list

  pub met_two : (xs front rear : List (Seat N C)) (a b : ℕ) (s t : Seat N C) (one two : List (Towards C)) (none : Bool) → a < b → b < length xs → front ≡ take b xs → rear ≡ drop b xs → slice_get front a ≡ Some s → slice_get rear 0 ≡ Some t
      → MetSides puts gives pair none a b s.side one t.side two → Met puts gives pair none a b xs (slice_set front a (record s { side = one }) ++ slice_set rear 0 (record t { side = two }))
  met_two xs front rear a b s t one two none less within front_is rear_is s_is t_is m =
      let s_at : slice_get xs a ≡ Some s = sym (get_take xs b a less) ∙ (ap (λ (w : List (Seat N C)). slice_get w a) (sym front_is) ∙ s_is) in
      let t_at : slice_get xs b ≡ Some t = sym (get_drop xs b) ∙ (ap (λ (w : List (Seat N C)). slice_get w 0) (sym rear_is) ∙ t_is) in
      let s_now : Seat N C = record s { side = one } in
      let t_now : Seat N C = record t { side = two } in
      let mid : List (Seat N C) = slice_set xs a s_now in
      let apart : b ≢ a = λ e. absurd (omega (arith, e)) in
      let t_mid : slice_get mid b ≡ Some t = get_off xs a b s_now apart ∙ t_at in
      let calm : Calm puts gives pair xs (slice_set mid b t_now) = calm_then xs mid (slice_set mid b t_now) (calm_set xs a s s_now s_at (record { same = refl; side = m.one_calm })) (calm_set mid b t t_now t_mid (record { same = refl; side = m.two_calm })) in
      let one_at : slice_get (slice_set mid b t_now) a ≡ Some s_now = get_off mid b a t_now (λ e. apart (sym e)) ∙ get_set xs a s_now (omega arith) in
      let two_at : slice_get (slice_set mid b t_now) b ≡ Some t_now = get_set mid b t_now (omega (arith, length_set xs a s_now)) in
      subst (λ (w : List (Seat N C)). Met puts gives pair none a b xs w) (sym (ap (λ (w : List (Seat N C)). slice_set w a s_now ++ slice_set rear 0 t_now) front_is ∙ (ap (λ (w : List (Seat N C)). slice_set (take b xs) a s_now ++ slice_set w 0 t_now) rear_is ∙ set_split xs b a s_now t_now less within)))
      (record {
        calm = calm;
        both = record {
          there = λ u v p q. let pu : s_now ≡ u = some_is s_now u (sym one_at ∙ p) in let pv : t_now ≡ v = some_is t_now v (sym two_at ∙ q) in
              subst (λ (w : Seat N C). Fronts none (towards gives v.side a) (towards puts w.side b)) pu (subst (λ (w : Seat N C). Fronts none (towards gives w.side a) (towards puts s_now.side b)) pv m.there);
          back = λ u v p q. let pu : s_now ≡ u = some_is s_now u (sym one_at ∙ p) in let pv : t_now ≡ v = some_is t_now v (sym two_at ∙ q) in
              subst (λ (w : Seat N C). Fronts none (towards gives w.side b) (towards puts v.side a)) pu (subst (λ (w : Seat N C). Fronts none (towards gives s_now.side b) (towards puts w.side a)) pv m.back);
        };
      })

  pub linked_two : (xs front rear : List (Seat N C)) (a b : ℕ) (s t : Seat N C) → a < b → front ≡ take b xs → rear ≡ drop b xs → slice_get front a ≡ Some s → slice_get rear 0 ≡ Some t → AreLinked pair xs → Linked pair (carrier_to s.side b) (carrier_to t.side a)
  linked_two xs front rear a b s t less front_is rear_is s_is t_is l =
      l a b s t (sym (get_take xs b a less) ∙ (ap (λ (w : List (Seat N C)). slice_get w a) (sym front_is) ∙ s_is)) (sym (get_drop xs b) ∙ (ap (λ (w : List (Seat N C)). slice_get w 0) (sym rear_is) ∙ t_is))

  pub met_one : (xs : List (Seat N C)) (a : ℕ) (s : Seat N C) (now : List (Towards C)) (none : Bool) → slice_get xs a ≡ Some s → MetSelf puts gives pair none a s.side now → Met puts gives pair none a a xs (slice_set xs a (record s { side = now }))
  met_one xs a s now none s_is m =
      let s_now : Seat N C = record s { side = now } in
      let one : slice_get (slice_set xs a s_now) a ≡ Some s_now = get_set xs a s_now (below xs a s s_is) in
      record {
        calm = calm_set xs a s s_now s_is (record { same = refl; side = m.calm });
        both = record {
          there = λ u v p q. let pu : s_now ≡ u = some_is s_now u (sym one ∙ p) in let pv : s_now ≡ v = some_is s_now v (sym one ∙ q) in
              subst (λ (w : Seat N C). Fronts none (towards gives v.side a) (towards puts w.side a)) pu (subst (λ (w : Seat N C). Fronts none (towards gives w.side a) (towards puts s_now.side a)) pv m.own);
          back = λ u v p q. let pu : s_now ≡ u = some_is s_now u (sym one ∙ p) in let pv : s_now ≡ v = some_is s_now v (sym one ∙ q) in
              subst (λ (w : Seat N C). Fronts none (towards gives w.side a) (towards puts v.side a)) pu (subst (λ (w : Seat N C). Fronts none (towards gives s_now.side a) (towards puts w.side a)) pv m.own);
        };
      }

  -- ---- rows, and all

  pub row_none : (xs : List (Seat N C)) (a : ℕ) → RowMet puts gives pair true a 0 xs xs
  row_none xs a = record { calm = calm_none xs; both = λ b less. absurd (omega arith) }

  pub row_next : (none here : Bool) (a n : ℕ) (xs ys zs : List (Seat N C)) → RowMet puts gives pair none a n xs ys → Met puts gives pair here a n ys zs → RowMet puts gives pair (none && here) a (n + 1) xs zs
  row_next none here a n xs ys zs r m = record { calm = calm_then xs ys zs r.calm m.calm; both = λ b less. go b less (b == n) refl }
    where
      go : (b : ℕ) → b < n + 1 → (k : Bool) → (b == n) ≡ k → BothFront puts gives pair (none && here) a b zs
      go b less true q = subst (λ (w : ℕ). BothFront puts gives pair (none && here) a w zs) (sym (eqb-true b n q)) (both_other none here a n zs m.both)
      go b less false q = let off : b ≢ n = λ e. let z : true ≡ false = sym (eq-eqb b n e) ∙ q in absurd cc in
          let before : b < n = omega (arith, less, off) in both_less none here a b zs (both_calm none a b ys zs m.calm (r.both b before))

  pub all_none : (xs : List (Seat N C)) (n : ℕ) → AllMet puts gives pair true 0 n xs xs
  all_none xs n = record { calm = calm_none xs; both = λ a b less within. absurd (omega arith) }

  pub all_next : (none here : Bool) (m n : ℕ) (xs ys zs : List (Seat N C)) → AllMet puts gives pair none m n xs ys → RowMet puts gives pair here m n ys zs → AllMet puts gives pair (none && here) (m + 1) n xs zs
  all_next none here m n xs ys zs r w = record { calm = calm_then xs ys zs r.calm w.calm; both = λ a b less within. go a b less within (a == m) refl }
    where
      go : (a b : ℕ) → a < m + 1 → b < n → (k : Bool) → (a == m) ≡ k → BothFront puts gives pair (none && here) a b zs
      go a b less within true q = subst (λ (v : ℕ). BothFront puts gives pair (none && here) v b zs) (sym (eqb-true a m q)) (both_other none here m b zs (w.both b within))
      go a b less within false q = let off : a ≢ m = λ e. let z : true ≡ false = sym (eq-eqb a m e) ∙ q in absurd cc in
          let before : a < m = omega (arith, less, off) in both_less none here a b zs (both_calm none a b ys zs w.calm (r.both a b before within))

-- ---- what the taking ends know of

module _ {N C : Type 0} (puts gives : C → List Letter) (known : C → ℕ) where
  both_counted : (xs zs : List (Seat N C)) (a b : ℕ) (s t s_now t_now : Seat N C) → slice_get xs a ≡ Some s → slice_get xs b ≡ Some t → slice_get zs a ≡ Some s_now → slice_get zs b ≡ Some t_now → CountedSides puts gives known a b s.side s_now.side t.side t_now.side → Counted puts gives known a b xs zs
  both_counted xs zs a b s t s_now t_now s_at t_at one two k = record {
    here = λ u v p q. subst (λ (w : Seat N C). OthersStay b w.side v.side) (some_is s u (sym s_at ∙ p)) (subst (λ (w : Seat N C). OthersStay b s.side w.side) (some_is s_now v (sym one ∙ q)) k.one_others);
    there = λ u v p q. subst (λ (w : Seat N C). OthersStay a w.side v.side) (some_is t u (sym t_at ∙ p)) (subst (λ (w : Seat N C). OthersStay a t.side w.side) (some_is t_now v (sym two ∙ q)) k.two_others);
    comes = λ u v p q. subst (λ (w : Seat N C). length (towards gives w.side b) + knows known w.side b ≡ length (towards puts v.side a)) (some_is s_now u (sym one ∙ p)) (subst (λ (w : Seat N C). length (towards gives s_now.side b) + knows known s_now.side b ≡ length (towards puts w.side a)) (some_is t_now v (sym two ∙ q)) k.back);
    goes = λ u v p q. subst (λ (w : Seat N C). length (towards gives v.side a) + knows known v.side a ≡ length (towards puts w.side b)) (some_is s_now u (sym one ∙ p)) (subst (λ (w : Seat N C). length (towards gives w.side a) + knows known w.side a ≡ length (towards puts s_now.side b)) (some_is t_now v (sym two ∙ q)) k.there);
  }

  pub counted_two : (xs front rear : List (Seat N C)) (a b : ℕ) (s t : Seat N C) (one two : List (Towards C)) → a < b → b < length xs → front ≡ take b xs → rear ≡ drop b xs → slice_get front a ≡ Some s → slice_get rear 0 ≡ Some t
      → CountedSides puts gives known a b s.side one t.side two → Counted puts gives known a b xs (slice_set front a (record s { side = one }) ++ slice_set rear 0 (record t { side = two }))
  counted_two xs front rear a b s t one two less within front_is rear_is s_is t_is k =
      let s_at : slice_get xs a ≡ Some s = sym (get_take xs b a less) ∙ (ap (λ (w : List (Seat N C)). slice_get w a) (sym front_is) ∙ s_is) in
      let t_at : slice_get xs b ≡ Some t = sym (get_drop xs b) ∙ (ap (λ (w : List (Seat N C)). slice_get w 0) (sym rear_is) ∙ t_is) in
      let s_now : Seat N C = record s { side = one } in
      let t_now : Seat N C = record t { side = two } in
      let mid : List (Seat N C) = slice_set xs a s_now in
      let apart : b ≢ a = λ e. absurd (omega (arith, e)) in
      let one_at : slice_get (slice_set mid b t_now) a ≡ Some s_now = get_off mid b a t_now (λ e. apart (sym e)) ∙ get_set xs a s_now (omega arith) in
      let two_at : slice_get (slice_set mid b t_now) b ≡ Some t_now = get_set mid b t_now (omega (arith, length_set xs a s_now)) in
      subst (λ (w : List (Seat N C)). Counted puts gives known a b xs w) (sym (ap (λ (w : List (Seat N C)). slice_set w a s_now ++ slice_set rear 0 t_now) front_is ∙ (ap (λ (w : List (Seat N C)). slice_set (take b xs) a s_now ++ slice_set w 0 t_now) rear_is ∙ set_split xs b a s_now t_now less within)))
      (both_counted xs (slice_set mid b t_now) a b s t s_now t_now s_at t_at one_at two_at k)

  pub counted_one : (xs : List (Seat N C)) (a : ℕ) (s : Seat N C) (now : List (Towards C)) → slice_get xs a ≡ Some s → CountedSelf puts gives known a s.side now → Counted puts gives known a a xs (slice_set xs a (record s { side = now }))
  counted_one xs a s now s_is k =
      let s_now : Seat N C = record s { side = now } in
      let one : slice_get (slice_set xs a s_now) a ≡ Some s_now = get_set xs a s_now (below xs a s s_is) in
      both_counted xs (slice_set xs a s_now) a a s s s_now s_now s_is s_is one one (record { one_others = k.others; two_others = k.others; there = k.own; back = k.own })

  pub counted_turned : (a b : ℕ) (xs ys : List (Seat N C)) → Counted puts gives known a b xs ys → Counted puts gives known b a xs ys
  counted_turned a b xs ys k = record { here = k.there; there = k.here; comes = λ s t p q. k.goes t s q p; goes = λ s t p q. k.comes t s q p }

  pub row_counted_none : (a : ℕ) (xs : List (Seat N C)) → RowCounted puts gives known a 0 xs
  row_counted_none a xs b s t less p q = absurd (omega (arith, less))

  pub row_counted_next : (pair : C → C → Type 0) (a n : ℕ) (ys zs : List (Seat N C)) → RowCounted puts gives known a n ys → Calm puts gives pair ys zs → Counted puts gives known a n ys zs → RowCounted puts gives known a (n + 1) zs
  row_counted_next pair a n ys zs r c k b s t less p q = go (b == n) refl
    where
      go : (x : Bool) → (b == n) ≡ x → length (towards gives s.side b) + knows known s.side b ≡ length (towards puts t.side a)
      go true e = let same : b ≡ n = eqb-true b n e in subst (λ (m : ℕ). length (towards gives s.side m) + knows known s.side m ≡ length (towards puts t.side a)) (sym same) (k.comes s t p (subst (λ (m : ℕ). slice_get zs m ≡ Some t) same q))
      go false e =
          let off : b ≢ n = λ same. let z : true ≡ false = sym (eq-eqb b n same) ∙ e in absurd cc in
          let before : b < n = omega (arith, less, off) in
          let s0 = c.each a s p in
          let t0 = c.each b t q in
          let was = r b s0.0 t0.0 before s0.1 t0.1 in
          let stays : carrier_to s.side b ≡ carrier_to s0.0.side b = k.here s0.0 s s0.1 p b off in
          let g : length (towards gives s.side b) ≡ length (towards gives s0.0.side b) = ap (λ (o : Option C). length (of_carrier gives o)) stays in
          let w : knows known s.side b ≡ knows known s0.0.side b = ap (count_of known) stays in
          let u : length (towards puts t.side a) ≡ length (towards puts t0.0.side a) = ap length (t0.2.side.put_same a) in
          omega (arith, was, g, w, u)
