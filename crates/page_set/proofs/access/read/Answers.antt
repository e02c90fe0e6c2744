use Rattle.std.proofs.Common.{ap, arith, ◌∙◌, ◌≡◌, ◌<◌, ◌≤◌, ◌+◌, ◌-◌, ◌%◌, ◌^◌, take, drop, length}
use Rattle.std.proofs.lemmas.List.{length-take-le, length-drop}
use Rattle.page_set.specs.Tree.{part}
use Rattle.page_set.proofs.Covers.{covered_below, not_covered, left_more, read_more}
use Rattle.page_set.proofs.access.read.Goals as goal

pub overflow_cast-at-in-loop-done : goal.overflow_cast-at-in-loop-done
overflow_cast-at-in-loop-done c =
    let some : 0 < length c.args.into.now - c.loop-done.done = omega (arith, c.loop-done-test.true) in
    let below : c.loop-done.at < 2 ^ 32 = covered_below c.args.leaves.now.items c.args.right c.loop-done.at (length c.args.into.now - c.loop-done.done) some c.loop-done.invariant.left in
    omega (arith, below)

pub unreachable-requires : goal.unreachable-requires
unreachable-requires c =
    let some : 0 < length c.args.into.now - c.loop-done.done = omega (arith, c.loop-done-test.true) in
    let below : c.loop-done.at < 2 ^ 32 = covered_below c.args.leaves.now.items c.args.right c.loop-done.at (length c.args.into.now - c.loop-done.done) some c.loop-done.invariant.left in
    not_covered c.args.leaves.now.items c.args.right c.loop-done.at (length c.args.into.now - c.loop-done.done) some below c.loop-done.invariant.left c.in-None.ensures

pub loop-done-preserved : goal.loop-done-preserved
loop-done-preserved c =
    let tree = c.args.leaves.now.items in
    let len = length c.args.into.now in
    let done = c.loop-done.done in
    let count = c.min-count.result in
    let at = c.loop-done.at in
    let some : 0 < len - done = omega (arith, c.loop-done-test.true) in
    let below : at < 2 ^ 32 = covered_below tree c.args.right at (len - done) some c.loop-done.invariant.left in
    let within : count ≤ len - done = omega (arith, c.min-count.ensures) in
    let fits : at % 4096 + count ≤ 4096 = omega (arith, c.min-count.ensures) in
    let rest : len - (done + count) ≡ len - done - count = omega arith in
    let inside : done ≤ length c.loop-done.into = omega (arith, c.loop-done.auto.into, c.loop-done.invariant.within) in
    let long : length (take (done + count - done) (drop done c.loop-done.into)) ≡ count = omega (arith, length-take-le (done + count - done) (drop done c.loop-done.into) (omega (arith, length-drop done c.loop-done.into, c.loop-done.auto.into))) in
    record {
      within = omega (arith, within, some);
      here = omega (arith, c.loop-done.invariant.here);
      left = left_more tree c.args.right at (len - done) (len - (done + count)) count c.in-Some.frame.now rest c.in-Some.ensures within some below fits c.loop-done.invariant.left;
      same = c.loop-done.invariant.same ∙ read_more tree c.args.right at (len - done) (len - (done + count)) count done (done + count - done) c.in-Some.frame.now c.loop-done.into c.read_frame.new.into rest c.in-Some.ensures within some below fits inside (c.read_frame.ensures ∙ ap (λ n. part n c.in-Some.frame.now.bytes (at % 4096)) long) c.loop-done.invariant.left;
    }
