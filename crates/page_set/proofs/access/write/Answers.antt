use Rattle.std.proofs.Common.{ap, arith, ◌∙◌, ◌<◌, ◌≤◌, ◌+◌, ◌-◌, ◌%◌, take, drop, length}
use Rattle.page_set.proofs.Writes.{write_more}
use Rattle.page_set.proofs.access.write.Goals as goal

pub loop-done-preserved : goal.loop-done-preserved
loop-done-preserved c =
    let bytes = c.args.bytes.now in
    let done = c.loop-done.done in
    let count = c.min-count.result in
    let within : done + count ≤ length bytes = omega (arith, c.min-count.ensures, c.loop-done-test.true) in
    let some : 0 < count = omega (arith, c.min-count.ensures, c.loop-done-test.true) in
    let fits : c.loop-done.at % 4096 + count ≤ 4096 = omega (arith, c.min-count.ensures) in
    record {
      within = within;
      same = write_more c.loop-done.leaves.items c.write_page.new.leaves.items c.loop-done.at done count bytes (take (done + count - done) (drop done bytes)) (omega arith) within some fits (ap (λ k. take k (drop done bytes)) (omega arith)) c.write_page.ensures.new ∙ c.loop-done.invariant.same;
    }
