use Rattle.std.proofs.Common.{arith}
use Rattle.user_spec.specs.declared.outcome.Stop.TheVariants as stops
use Rattle.one_node.proofs.Quanta.{all_went, grew, stopped_at_call, stopped_at_fault, run_call, run_fault, is_short, call_not_went, growth_not_went, fault_not_went}
use Rattle.one_node.proofs.going.steps.Goals as goal

pub returns-in-Went : goal.returns-in-Went
returns-in-Went c = all_went c.args.k c.loop-done.done c.run-went.result.0 c.args.user.now c.loop-done.user c.run-went.new.self c.loop-done.invariant.left c.run-went.ensures.went (c.run-went.ensures.whole c.in-Went.is)

pub loop-done-preserved : goal.loop-done-preserved
loop-done-preserved c =
    let short = is_short stops.Grows c.run-went.result.1 c.run-went.result.0 _ c.in-Grows.is growth_not_went c.run-went.ensures.short in
    record {
      most = omega (arith, short, c.loop-done.invariant.most);
      left = grew c.args.k c.loop-done.done c.run-went.result.0 c.args.user.now c.loop-done.user c.run-went.new.self c.grow.new.self c.loop-done.invariant.left c.run-went.ensures.went short c.in_ok-grow-in-Grows.ensures.ok;
    }

pub returns-in-AtCall : goal.returns-in-AtCall
returns-in-AtCall c =
    let short = is_short stops.AtCall c.run-went.result.1 c.run-went.result.0 _ c.in-AtCall.is call_not_went c.run-went.ensures.short in
    stopped_at_call c.args.k c.loop-done.done c.run-went.result.0 c.args.user.now c.loop-done.user c.run-went.new.self c.loop-done.invariant.left c.run-went.ensures.went short (run_call c.run-went.result.1 c.run-went.new.self c.in-AtCall.is c.run-went.ensures.stop)

pub returns-in-Fault : goal.returns-in-Fault
returns-in-Fault c =
    let short = is_short (stops.Fault c.in-Fault.field-0) c.run-went.result.1 c.run-went.result.0 _ c.in-Fault.is (fault_not_went c.in-Fault.field-0) c.run-went.ensures.short in
    stopped_at_fault c.args.k c.loop-done.done c.run-went.result.0 c.in-Fault.field-0 c.args.user.now c.loop-done.user c.run-went.new.self c.loop-done.invariant.left c.run-went.ensures.went short (run_fault c.run-went.result.1 c.in-Fault.field-0 c.run-went.new.self c.in-Fault.is c.run-went.ensures.stop)
