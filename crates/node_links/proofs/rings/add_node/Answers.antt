use Rattle.std.proofs.Common.{◌≡◌, ℕ, ◌+◌, ◌<◌, List, sym, subst, arith, length, slice_set}
use Rattle.node_links.specs.declared.ring.RingCarrier.{RingCarrier}
use Rattle.node_links.specs.declared.side.Towards.{Towards}
use Rattle.node_links.specs.Sides.{IsGrown}
use Rattle.node_links.specs.Rings.{ring_pair, IsNew}
use Rattle.node_links.proofs.SideLemmas.{IsGrowing, got_at, grow_none, grow_one, grow_done}
use Rattle.node_links.proofs.rings.add_node.Goals as goal

pub loop-at-init : goal.loop-at-init
loop-at-init c = rw c.new-row.ensures (grow_none ring_pair IsNew c.args.node c.args.sides.now.items c.requires.grown)

pub loop-at-preserved : goal.loop-at-preserved
loop-at-preserved c =
    let e = c.in_ok-there.ensures in
    let within : c.loop-at.at < length c.loop-at.sides.items = omega (arith, c.loop-at-test.true, c.loop-at.invariant.count) in
    subst (λ (k : List (Towards RingCarrier)). IsGrowing ring_pair IsNew (c.loop-at.at + 1) c.args.node (slice_set c.loop-at.sides.items c.loop-at.at c.push.new.self) k) (sym c.in_ok-push-2.ensures.ok)
    (grow_one ring_pair IsNew c.loop-at.at c.args.node c.loop-at.sides.items c.loop-at.row c.index_mut.result.now c.push.new.self c.in_ok-there.there c.in_ok-there.back c.loop-at-test.true
    (got_at c.loop-at.sides.items c.loop-at.at c.index_mut.result.now within c.index_mut.ensures.value) c.in_ok-push.ensures.ok e.pair.0 e.pair.1 e.new.0 e.new.1 c.loop-at.invariant)

pub returns : goal.returns
returns c =
    let at_end : c.loop-at.at ≡ c.args.node = omega (arith, c.loop-at-test.false, c.loop-at.auto.at-end) in
    subst (λ (k : List (List (Towards RingCarrier))). IsGrown ring_pair IsNew (c.args.node + 1) k) (sym c.in_ok-push-3.ensures.items)
    (grow_done ring_pair IsNew c.args.node c.loop-at.sides.items c.loop-at.row c.requires.some (subst (λ (n : ℕ). IsGrowing ring_pair IsNew n c.args.node c.loop-at.sides.items c.loop-at.row) at_end c.loop-at.invariant))
