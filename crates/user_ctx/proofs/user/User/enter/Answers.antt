use Rattle.std.proofs.Common.{rules}
use Rattle.user_ctx.proofs.Rights.{heap_words}
use Rattle.user_ctx.proofs.user.User.enter.Goals as goal

pub invariant_of-self : goal.invariant_of-self
invariant_of-self c = (search rules, c.self.invariant.1, heap_words _ _ _ _ _ _ _ _ c.self.invariant.2 c.write_frame.ensures)
