use Rattle.user_ctx.proofs.Moves.{mapped_heap, mapped_is}
use Rattle.user_ctx.proofs.user.User.map_pages.Goals as goal

pub invariant_of-self : goal.invariant_of-self
invariant_of-self c = (
  c.self.invariant.0,
  c.self.invariant.1,
  mapped_heap _ _ _ _ c.args.a _ _ _ _ c.self.view_is c.requires c.page_above-end.ensures.is c.min.ensures c.max-bare.ensures c.self.invariant.2 c.in-Ok.ensures.ok,
)

pub returns-in-Ok-clause-ok : goal.returns-in-Ok-clause-ok
returns-in-Ok-clause-ok c = mapped_is _ _ _ _ c.args.a _ _ _ c.self.view_is c.requires c.page_above-end.ensures.is c.min.ensures c.self.invariant.2 c.in-Ok.ensures.ok
