use Rattle.std.proofs.Common.{◌≡◌, ◌-◌}
use Rattle.user_spec.specs.Request.{with_heap_pages}
use Rattle.user_ctx.proofs.heap.add_rights_all.Given as goal

abbrev pub invariant-loop-page : goal.invariant-loop-page
invariant-loop-page l = l.pages ≡ with_heap_pages l.fn.pages l.from (l.page - l.from)
