-- Nodes with fresh carriers in pairs, at their seats.
use Rattle.std.proofs.Common.{◌≡◌, ◌≢◌, ℕ, zero, suc, ◌+◌, ◌<◌, ◌≤◌, ◌==◌, ◌||◌, ◌++◌, ◌⊎◌, inl, inr, not, Bool, true, false, cond, is_some, Option, Some, None, List, [], ◌∷◌, refl, sym, ap, ◌∙◌, subst, arith, length, map, drop, reverse, slice_get}
use Rattle.std.specs.Option.{option_and_then}
use Rattle.std.proofs.lemmas.Bool.{eqb-true, eq-eqb, ne_eqb}
use Rattle.std.proofs.lemmas.Bool.Decides.{leb_tells}
use Rattle.std.proofs.lemmas.List.{append-nil, reverse-append, reverse-reverse}
use lib.Dec.{leb}
use Rattle.call_forward.specs.declared.letter.Letter.{Letter}
use Rattle.node_links.specs.Sides.{is_linked, led_to, carrier_to, carrier_of, InPairs, EachIs, IsFresh}
use Rattle.node_links.specs.declared.side.Towards.{Towards}
use Rattle.node_machine.specs.Plan.{Plan}
use Rattle.node_machine.specs.Machine.{Policy}
use Rattle.node_core.specs.declared.node.Node.{Node}
use Rattle.cluster_run.specs.declared.seat.Seat.{Seat}
use Rattle.cluster_run.specs.Sides.{of_carrier, towards}
use Rattle.cluster_run.specs.Meeting.{Linked}
use Rattle.cluster_run.specs.Standing.{AreLinked}
use Rattle.cluster_run.specs.Passing.{AreWithin, AllReady}
use Rattle.cluster_run.specs.Over.{Begins}
use Rattle.cluster_run.specs.Seating.{seat_of, seats_of, node_of}
use Rattle.cluster_run.proofs.Calming.{below, some_is}
use Rattle.cluster_run.proofs.Firsts.{ready_first}

-- ---- which carriers a side has

abbrev has : ℕ → List ℕ → Bool
has j [] = false
has j (x ∷ xs) = (x == j) || has j xs

has_append : (j : ℕ) (xs ys : List ℕ) → has j (xs ++ ys) ≡ (has j xs || has j ys)
has_append j [] ys = refl
has_append j (x ∷ xs) ys = go (x == j) (has_append j xs ys)
  where
    go : (b : Bool) → has j (xs ++ ys) ≡ (has j xs || has j ys) → (b || has j (xs ++ ys)) ≡ ((b || has j xs) || has j ys)
    go true e = refl
    go false e = e

or_false : (b : Bool) → (b || false) ≡ b
or_false true = refl
or_false false = refl

led_beyond : (n i j : ℕ) → n ≤ j → has j (led_to n i) ≡ false
led_beyond zero i j least = refl
led_beyond (suc n) i j least = has_append j (led_to n i) _ ∙ (ap (λ (b : Bool). b || has j (cond (is_linked i n) (n ∷ []) [])) (led_beyond n i j (omega (arith, least))) ∙ go (is_linked i n))
  where
    go : (b : Bool) → has j (cond b (n ∷ []) []) ≡ false
    go true = ap (λ (b : Bool). b || false) (ne_eqb n j (λ e. absurd (omega (arith, e, least))))
    go false = refl

led_within : (n i j : ℕ) → j < n → has j (led_to n i) ≡ is_linked i j
led_within zero i j less = absurd (omega (arith, less))
led_within (suc n) i j less = has_append j (led_to n i) _ ∙ go (leb_tells n j) (λ y. led_within n i j y)
  where
    last_here : (b : Bool) → n ≡ j → has j (cond b (n ∷ []) []) ≡ b
    last_here true e = ap (λ (c : Bool). c || false) (eq-eqb n j e)
    last_here false e = refl

    last_off : (b : Bool) → n ≢ j → has j (cond b (n ∷ []) []) ≡ false
    last_off true off = ap (λ (c : Bool). c || false) (ne_eqb n j off)
    last_off false off = refl

    go : ((leb n j ≡ true) × (n ≤ j)) ⊎ ((leb n j ≡ false) × (j < n)) → (j < n → has j (led_to n i) ≡ is_linked i j) → (has j (led_to n i) || has j (cond (is_linked i n) (n ∷ []) [])) ≡ is_linked i j
    go (inl x) more =
        let y = x.1 in
        let same : n ≡ j = omega (arith, y, less) in
        ap (λ (b : Bool). b || has j (cond (is_linked i n) (n ∷ []) [])) (led_beyond n i j y) ∙ (last_here (is_linked i n) same ∙ ap (λ (m : ℕ). is_linked i m) same)
    go (inr x) more =
        let y = x.1 in
        ap (λ (b : Bool). has j (led_to n i) || b) (last_off (is_linked i n) (λ e. absurd (omega (arith, e, y)))) ∙ (or_false (has j (led_to n i)) ∙ more y)

linked_turned : (i j : ℕ) → is_linked i j ≡ is_linked j i
linked_turned i j = go (i == j) refl
  where
    go : (b : Bool) → (i == j) ≡ b → is_linked i j ≡ is_linked j i
    go true q = let same : i ≡ j = eqb-true i j q in subst (λ (k : ℕ). is_linked i k ≡ is_linked k i) same refl
    go false q =
        let apart : i ≢ j = (λ e. let z : true ≡ false = sym (eq-eqb i j e) ∙ q in absurd cc) in
        ap (λ (b : Bool). not b || (i == 0)) (ne_eqb i j apart) ∙ sym (ap (λ (b : Bool). not b || (j == 0)) (ne_eqb j i (λ e. apart (sym e))))

drop_next : {A : Type 0} (k : ℕ) (xs : List A) (y : A) (ys : List A) → drop k xs ≡ y ∷ ys → drop (suc k) xs ≡ ys
drop_next zero [] y ys e = absurd cc
drop_next zero (x ∷ xs) y ys e = cc
drop_next (suc k) [] y ys e = absurd cc
drop_next (suc k) (x ∷ xs) y ys e = drop_next k xs y ys e

one_longer : (nodes : List Node) (n : Node) → length (nodes ++ (n ∷ [])) ≡ suc (length nodes)
one_longer [] n = refl
one_longer (m ∷ nodes) n = ap suc (one_longer nodes n)

none_left : {A : Type 0} (xs : List A) → length xs ≡ 0 → xs ≡ []
none_left [] e = refl
none_left (x ∷ xs) e = absurd (omega (arith, e))

drop_none : {A : Type 0} (k : ℕ) (xs : List A) → drop k xs ≡ [] → drop (suc k) xs ≡ []
drop_none zero [] e = refl
drop_none zero (x ∷ xs) e = absurd cc
drop_none (suc k) [] e = refl
drop_none (suc k) (x ∷ xs) e = drop_none k xs e

module _ {C : Type 0} where
  carrier_has : (side : List (Towards C)) (j : ℕ) → has j (map (λ (t : Towards C). t.node) side) ≡ is_some (carrier_to side j)
  carrier_has [] j = refl
  carrier_has (t ∷ side) j = go (t.node == j) (carrier_has side j)
    where
      go : (b : Bool) → has j (map (λ (u : Towards C). u.node) side) ≡ is_some (carrier_to side j) → (b || has j (map (λ (u : Towards C). u.node) side)) ≡ is_some (cond b (Some t.carrier) (carrier_to side j))
      go true e = refl
      go false e = e

  none_by : (o : Option C) → is_some o ≡ false → o ≡ None
  none_by None e = refl
  none_by (Some c) e = absurd cc

  linked_by : (pair : C → C → Type 0) (o p : Option C) → is_some o ≡ is_some p → ((c d : C) → o ≡ Some c → p ≡ Some d → pair c d) → Linked pair o p
  linked_by pair None None e f = tt
  linked_by pair None (Some d) e f = absurd cc
  linked_by pair (Some c) None e f = absurd cc
  linked_by pair (Some c) (Some d) e f = f c d refl refl

  fresh_by : (f : C → List Letter) (o : Option C) → ((c : C) → o ≡ Some c → f c ≡ []) → of_carrier f o ≡ []
  fresh_by f None g = refl
  fresh_by f (Some c) g = g c refl

  -- ---- who sits where

  record SitsAt (last : ℕ) (nodes : List Node) (sides : List (List (Towards C))) (k : ℕ) (s : Seat Node C) : Type 0 where
    pub node_is : slice_get nodes k ≡ Some s.node
    pub side_is : slice_get sides k ≡ Some s.side
    pub seat_is : s ≡ seat_of last s.node s.side

  sits : (last : ℕ) (nodes : List Node) (sides : List (List (Towards C))) (k : ℕ) (s : Seat Node C) → slice_get (seats_of last nodes sides) k ≡ Some s → SitsAt last nodes sides k s
  sits last [] sides k s e = absurd cc
  sits last (n ∷ nodes) [] k s e = absurd cc
  sits last (n ∷ nodes) (d ∷ sides) zero s e =
      let same : seat_of last n d ≡ s = some_is (seat_of last n d) s e in
      subst (λ (w : Seat Node C). SitsAt last (n ∷ nodes) (d ∷ sides) zero w) same (record { node_is = refl; side_is = refl; seat_is = refl })
  sits last (n ∷ nodes) (d ∷ sides) (suc k) s e = let r = sits last nodes sides k s e in record { node_is = r.node_is; side_is = r.side_is; seat_is = r.seat_is }

  pub seats_count : (last : ℕ) (nodes : List Node) (sides : List (List (Towards C))) → length nodes ≡ length sides → length (seats_of last nodes sides) ≡ length nodes
  seats_count last [] sides e = refl
  seats_count last (n ∷ nodes) [] e = absurd (omega (arith, e))
  seats_count last (n ∷ nodes) (d ∷ sides) e = let r = seats_count last nodes sides (omega (arith, e)) in ap suc r

  module _ (pair : C → C → Type 0) (last : ℕ) (nodes : List Node) (sides : List (List (Towards C))) (pairs : InPairs pair (length nodes) sides) where
    of_side : (k m : ℕ) (s : Seat Node C) → slice_get sides k ≡ Some s.side → carrier_of sides k m ≡ carrier_to s.side m
    of_side k m s e = ap (λ (o : Option (List (Towards C))). option_and_then (λ side. carrier_to side m) o) e

    seat_within : (k : ℕ) (s : Seat Node C) → slice_get sides k ≡ Some s.side → k < length nodes
    seat_within k s e = let b = below sides k s.side e in let c = pairs.count in omega (arith, b, c)

    pub linked_seats : AreLinked pair (seats_of last nodes sides)
    linked_seats a b s t e f =
        let p = sits last nodes sides a s e in
        let q = sits last nodes sides b t f in
        linked_by pair (carrier_to s.side b) (carrier_to t.side a)
        (sym (carrier_has s.side b) ∙ (ap (has b) (pairs.nodes a s.side p.side_is) ∙ (led_within (length nodes) a b (seat_within b t q.side_is) ∙ (linked_turned a b
        ∙ (sym (led_within (length nodes) b a (seat_within a s p.side_is)) ∙ (sym (ap (has a) (pairs.nodes b t.side q.side_is)) ∙ carrier_has t.side a))))))
        (λ c d x y. pairs.pairs a b c d (of_side a b s p.side_is ∙ x) (of_side b a t q.side_is ∙ y))

    pub within_seats : AreWithin (length nodes) (seats_of last nodes sides)
    within_seats k m s e past =
        let p = sits last nodes sides k s e in
        none_by (carrier_to s.side m) (sym (carrier_has s.side m) ∙ (ap (has m) (pairs.nodes k s.side p.side_is) ∙ led_beyond (length nodes) k m past))

    pub ready_seats : (puts gives : C → List Letter) (total : C → ℕ) → EachIs (IsFresh puts gives total) sides → (policy : Policy) (plan : Plan) (room : ℕ) → Begins plan room nodes → AllReady policy puts gives plan room (seats_of last nodes sides)
    ready_seats puts gives total fresh policy plan room begins k s e =
        let p = sits last nodes sides k s e in
        ready_first policy plan puts gives room k s (begins.each k s.node p.node_is) (ap (λ (w : Seat Node C). w.waits) p.seat_is) (ap (λ (w : Seat Node C). w.rest) p.seat_is)
        (λ m. fresh_by puts (carrier_to s.side m) (λ c x. (fresh k m c (of_side k m s p.side_is ∙ x)).put))
        (λ m. fresh_by gives (carrier_to s.side m) (λ c x. (fresh k m c (of_side k m s p.side_is ∙ x)).given))

  -- ---- one more takes its seat

  pub seats_more : (last : ℕ) (nodes : List Node) (n : Node) (sides : List (List (Towards C))) (side : List (Towards C)) (rest : List (List (Towards C))) → drop (length nodes) sides ≡ side ∷ rest → seats_of last (nodes ++ (n ∷ [])) sides ≡ seats_of last nodes sides ++ (seat_of last n side ∷ [])
  seats_more last [] n [] side rest e = absurd cc
  seats_more last [] n (d ∷ sides) side rest e = let same : d ≡ side = cc in ap (λ (w : List (Towards C)). seat_of last n w ∷ []) same
  seats_more last (m ∷ nodes) n [] side rest e = absurd cc
  seats_more last (m ∷ nodes) n (d ∷ sides) side rest e = ap (λ (w : List (Seat Node C)). seat_of last m d ∷ w) (seats_more last nodes n sides side rest e)

  pub seats_same : (last : ℕ) (nodes : List Node) (n : Node) (sides : List (List (Towards C))) → drop (length nodes) sides ≡ [] → seats_of last (nodes ++ (n ∷ [])) sides ≡ seats_of last nodes sides
  seats_same last [] n [] e = refl
  seats_same last [] n (d ∷ sides) e = absurd cc
  seats_same last (m ∷ nodes) n [] e = refl
  seats_same last (m ∷ nodes) n (d ∷ sides) e = ap (λ (w : List (Seat Node C)). seat_of last m d ∷ w) (seats_same last nodes n sides e)

  -- the next side was taken off the end of the sides that are left
  pub popped : (last : ℕ) (nodes : List Node) (n : Node) (sides : List (List (Towards C))) (new : List (List (Towards C))) (side : List (Towards C)) → reverse (drop (length nodes) sides) ≡ new ++ (side ∷ [])
      → (seats_of last (nodes ++ (n ∷ [])) sides ≡ seats_of last nodes sides ++ (seat_of last n side ∷ [])) × (new ≡ reverse (drop (length (nodes ++ (n ∷ []))) sides))
  popped last nodes n sides new side e =
      let left : drop (length nodes) sides ≡ side ∷ reverse new = sym (reverse-reverse (drop (length nodes) sides)) ∙ (ap reverse e ∙ reverse-append new (side ∷ [])) in
      (seats_more last nodes n sides side (reverse new) left, sym (reverse-reverse new) ∙ ap reverse (sym (drop_next (length nodes) sides side (reverse new) left) ∙ ap (λ (k : ℕ). drop k sides) (sym (one_longer nodes n))))

  pub popped_none : (last : ℕ) (nodes : List Node) (n : Node) (sides old new : List (List (Towards C))) → old ≡ reverse (drop (length nodes) sides) → length old ≡ 0 → length new ≡ 0
      → (seats_of last (nodes ++ (n ∷ [])) sides ≡ seats_of last nodes sides) × (new ≡ reverse (drop (length (nodes ++ (n ∷ []))) sides))
  popped_none last nodes n sides old new is none now =
      let left : drop (length nodes) sides ≡ [] = sym (reverse-reverse (drop (length nodes) sides)) ∙ ap reverse (sym is ∙ none_left old none) in
      (seats_same last nodes n sides left, none_left new now ∙ ap reverse (sym (drop_none (length nodes) sides left) ∙ ap (λ (k : ℕ). drop k sides) (sym (one_longer nodes n))))
