use Rattle.std.proofs.Common.{◌∙◌, ◌+◌, ◌%◌, ◌^◌, arith, length}
use Rattle.page_set.specs.Tree.{pages_of}
use Rattle.page_set.proofs.Reading.{read_more}
use Rattle.page_set.proofs.access.read_wrapping.Goals as goal

pub loop-i-preserved : goal.loop-i-preserved
loop-i-preserved c =
    c.loop-i.invariant
    ∙ read_more (λ addr. (addr + 1) % 2 ^ 32) (pages_of c.args.leaves.now.items) c.args.right c.loop-i.at c.loop-i.into c.loop-i.i (length c.args.into.now) c.in-Some.byte c.in-Some.ensures c.loop-i-test.true (omega arith)
