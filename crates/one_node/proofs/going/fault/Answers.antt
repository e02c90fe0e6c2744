use Rattle.std.proofs.Common.{sym}
use Rattle.user_spec.specs.declared.outcome.Stop.TheVariants as stops
use Rattle.one_node.proofs.Faults.{faults, faults_not, fault_stays, went_no_fault, call_no_fault, growth_no_fault}
use Rattle.one_node.proofs.going.fault.Goals as goal

pub returns-in-Fault-clause-is : goal.returns-in-Fault-clause-is
returns-in-Fault-clause-is c = sym (faults c.args.user.now c.step.new.self c.in-Fault.signal c.in-Fault.ensures)

pub returns-in-Fault-clause-stays : goal.returns-in-Fault-clause-stays
returns-in-Fault-clause-stays c = λ some. fault_stays c.args.user.now c.step.new.self c.in-Fault.signal c.in-Fault.ensures

pub returns-in-Went-clause-is : goal.returns-in-Went-clause-is
returns-in-Went-clause-is c = sym (faults_not c.args.user.now c.step.new.self stops.Went c.in-Went.ensures went_no_fault)

pub returns-in-AtCall-clause-is : goal.returns-in-AtCall-clause-is
returns-in-AtCall-clause-is c = sym (faults_not c.args.user.now c.step.new.self stops.AtCall c.in-AtCall.ensures call_no_fault)

pub returns-in-Grows-clause-is : goal.returns-in-Grows-clause-is
returns-in-Grows-clause-is c = sym (faults_not c.args.user.now c.step.new.self stops.Grows c.in-Grows.ensures growth_no_fault)
