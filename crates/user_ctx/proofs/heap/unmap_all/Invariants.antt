use Rattle.std.proofs.Common.{◌≡◌, ◌-◌}
use Rattle.user_spec.specs.Request.{without_pages}
use Rattle.user_ctx.proofs.heap.unmap_all.Given as goal

abbrev pub invariant-loop-page : goal.invariant-loop-page
invariant-loop-page l = l.pages ≡ without_pages l.fn.pages l.from (l.page - l.from)
