use Rattle.std.proofs.Common.{arith, ◌+◌, ◌≤◌}
use Rattle.call_table.specs.declared.limit.TheConstants.{STEPS}
use Rattle.user_ctx.proofs.Walks.{leads}
use Rattle.user_ctx.proofs.Rights.{heap_ran}
use Rattle.user_ctx.proofs.user.User.instructions.Goals as goal

pub returns-clause-went : goal.returns-clause-went
returns-clause-went c =
    let le : c.self.inside.count + c.run-went.result.0 ≤ STEPS = omega arith in
    leads c.run-went.result.0 c.args.self.now _ _ c.self.view_is c.run-went.ensures.went le

pub invariant_of-self : goal.invariant_of-self
invariant_of-self c = (c.run-went.ensures.zero, omega arith, heap_ran _ _ _ _ c.run-went.result.0 _ _ c.self.invariant.2 c.run-went.ensures.went)
