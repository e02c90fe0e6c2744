-- The serial runner, from the nodes and carriers that it was given to the nodes that come back.
use Rattle.std.proofs.Common.{◌≡◌, ℕ, zero, suc, ◌<◌, ◌≤◌, ◌++◌, Some, List, [], ◌∷◌, refl, sym, ap, ◌∙◌, subst, arith, length, map, slice_get, take}
use Rattle.call_table.specs.declared.limit.TheConstants.{NODES}
use Rattle.call_forward.specs.declared.letter.Letter.{Letter}
use Rattle.node_links.specs.Sides.{InPairs, EachIs, IsFresh}
use Rattle.node_links.specs.declared.side.Towards.{Towards}
use Rattle.node_machine.specs.Plan.{Plan, IsPlan}
use Rattle.node_machine.specs.Machine.{Policy}
use Rattle.node_machine.specs.Policy.{IsFitting}
use Rattle.node_core.specs.declared.node.Node.{Node}
use Rattle.cluster_run.specs.declared.seat.Seat.{Seat}
use Rattle.cluster_run.specs.declared.over.OverWhy.{OverWhy}
use Rattle.cluster_run.specs.Standing.{AreLinked}
use Rattle.cluster_run.specs.Passing.{AreWithin, AllReady}
use Rattle.cluster_run.specs.Over.{Begins, Ran}
use Rattle.cluster_run.specs.Running.{AreOver}
use Rattle.cluster_run.specs.Seating.{seats_of, node_of}
use Rattle.cluster_run.proofs.Seated.{seats_count, linked_seats, within_seats, ready_seats}
use Rattle.cluster_run.proofs.Stilled.{seat_at}

-- a list before another one
pub take_front : {A : Type 0} (n : ℕ) (xs ys : List A) → length xs ≡ n → take n (xs ++ ys) ≡ xs
take_front {A} n [] ys e = let none : n ≡ 0 = omega (arith, e) in subst (λ (k : ℕ). take k ys ≡ []) (sym none) refl
take_front {A} zero (x ∷ xs) ys e = absurd (omega (arith, e))
take_front {A} (suc n) (x ∷ xs) ys e = ap (λ (w : List A). x ∷ w) (take_front n xs ys (omega (arith, e)))

module _ {C : Type 0} (pair : C → C → Type 0) (last : ℕ) (nodes : List Node) (carriers : List (List (Towards C))) (pairs : InPairs pair (length nodes) carriers) (seats : List (Seat Node C)) (is : seats ≡ seats_of last nodes carriers) where
  pub seated_linked : AreLinked pair seats
  seated_linked = subst (λ (w : List (Seat Node C)). AreLinked pair w) (sym is) (linked_seats pair last nodes carriers pairs)

  pub seated_count : length seats ≡ length nodes
  seated_count = ap length is ∙ seats_count last nodes carriers (sym pairs.count)

  module _ (puts gives : C → List Letter) (total : C → ℕ) (fresh : EachIs (IsFresh puts gives total) carriers) (policy : Policy) (why : OverWhy) (new : List (Seat Node C)) (over : AreOver policy puts gives why seats new) (out : List Node) (out_is : out ≡ map node_of new) where
    pub serial_ran : 1 ≤ length nodes → length nodes ≤ NODES → (plan : Plan) (room : ℕ) → Begins plan room nodes → IsFitting policy → Ran policy plan room why out
    serial_ran least most plan room begins fit =
        let g = seat_at nodes 0 (omega (arith, least)) in
        let is_plan : IsPlan plan = (begins.each 0 g.0 g.1).beginning.is_plan in
        subst (λ (w : List Node). Ran policy plan room why w) (sym out_is)
        (over plan room is_plan fit (seated_count ∙ begins.count) (let c = seated_count in omega (arith, c, most))
        (subst (λ (n : ℕ). AreWithin n seats) begins.count (subst (λ (w : List (Seat Node C)). AreWithin (length nodes) w) (sym is) (within_seats pair last nodes carriers pairs)))
        (subst (λ (w : List (Seat Node C)). AllReady policy puts gives plan room w) (sym is) (ready_seats pair last nodes carriers pairs puts gives total fresh policy plan room begins)))
