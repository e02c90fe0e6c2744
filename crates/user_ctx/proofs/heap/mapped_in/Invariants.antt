use Rattle.std.proofs.Common.{◌≡◌, ◌-◌, ◌≤◌}
use Rattle.user_ctx.specs.Heap.{mapped_in}
use Rattle.user_ctx.proofs.heap.mapped_in.Given as goal

abbrev pub invariant-loop-page : goal.invariant-loop-page
invariant-loop-page l = record {
  is : l.n ≡ mapped_in l.pages l.from (l.page - l.from);
  most : l.n ≤ l.page - l.from;
}
