use Rattle.user_ctx.proofs.Rights.{heap_bytes}
use Rattle.user_ctx.proofs.user.User.fill_buffer.Goals as goal

pub invariant_of-self : goal.invariant_of-self
invariant_of-self c = (c.self.invariant.0, c.self.invariant.1, heap_bytes _ _ _ _ c.buffer_address-addr.result c.args.bytes.now _ _ c.self.invariant.2 c.write.ensures)
