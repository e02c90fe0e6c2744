use Rattle.std.proofs.Common.{arith, ◌<◌}
use Rattle.call_table.specs.declared.limit.TheConstants.{STEPS}
use Rattle.user_ctx.proofs.Asking.{asks_next}
use Rattle.user_ctx.proofs.user.User.signal.Goals as goal

pub returns : goal.returns
returns c =
    let room : c.self.inside.count < STEPS = omega arith in
    asks_next c.args.self.now _ c.self.inside.x c.next.result c.signal_of.result c.self.view_is room c.self.invariant.0 c.next.ensures c.signal_of.ensures c.requires
