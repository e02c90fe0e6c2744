use Rattle.user_ctx.proofs.Moves.{moved_there, moved_heap, moved_is}
use Rattle.user_ctx.proofs.user.User.take_break.Goals as goal

pub set_heap-requires-clause-mapped : goal.set_heap-requires-clause-mapped
set_heap-requires-clause-mapped c = moved_there _ _ _ _ c.args.a _ _ c.self.view_is c.requires c.page_above-end.ensures.is c.min.ensures c.self.invariant.2

pub invariant_of-self : goal.invariant_of-self
invariant_of-self c = (
  c.self.invariant.0,
  c.self.invariant.1,
  moved_heap _ _ _ _ c.args.a _ _ _ _ c.self.view_is c.requires.0 c.page_above-end.ensures.is c.min.ensures c.max.ensures c.self.invariant.2 c.set_heap.ensures,
)

pub returns-clause-is : goal.returns-clause-is
returns-clause-is c = moved_is _ _ _ _ c.args.a _ _ _ _ c.self.view_is c.requires.0 c.page_above-end.ensures.is c.min.ensures c.max.ensures c.self.invariant.2 c.set_heap.ensures
