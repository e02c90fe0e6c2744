use Rattle.std.proofs.Common.{◌≡◌, ◌∙◌, arith}
use Rattle.remote_ctx.proofs.Quanta.{went_some, went_grown, at_call, at_fault, stays_there, on_err}
use Rattle.remote_ctx.proofs.quantum.go.Goals as goal

pub returns-then-went-gt0-clause-ok : goal.returns-then-went-gt0-clause-ok
returns-then-went-gt0-clause-ok c = went_some c.args.quantum c.run-went.result.0 c.args.user.now c.run-went.new.self c.run-went.result.1 c.run-went.ensures.went (omega arith) c.run-went.ensures.most c.run-went.ensures.whole c.run-went.ensures.stop

pub returns-in_ok-grow-in-Grows-clause-ok : goal.returns-in_ok-grow-in-Grows-clause-ok
returns-in_ok-grow-in-Grows-clause-ok c =
    let none : c.run-went.result.0 ≡ 0 = omega arith in
    went_grown _ _ _ _ _ _ _ c.run-went.result.1 c.run-more.result.1 c.requires c.run-went.ensures.went none c.in-Grows.is c.run-went.ensures.stop c.in_ok-grow-in-Grows.ensures.ok c.run-more.ensures.went c.run-more.ensures.most c.run-more.ensures.whole c.run-more.ensures.stop

pub returns-in-Fault-clause-ok : goal.returns-in-Fault-clause-ok
returns-in-Fault-clause-ok c =
    let none : c.run-went.result.0 ≡ 0 = omega arith in
    at_fault c.args.quantum c.run-went.result.0 c.in-Fault.field-0 c.args.user.now c.run-went.new.self c.run-went.result.1 c.run-went.ensures.went none c.in-Fault.is c.run-went.ensures.stop

pub returns-in-AtCall-clause-ok : goal.returns-in-AtCall-clause-ok
returns-in-AtCall-clause-ok c =
    let none : c.run-went.result.0 ≡ 0 = omega arith in
    at_call _ _ _ _ _ c.run-went.ensures.went none c.in-AtCall.is c.run-went.ensures.stop

pub returns-in_err-grow-in-Grows-clause-err : goal.returns-in_err-grow-in-Grows-clause-err
returns-in_err-grow-in-Grows-clause-err c =
    let none : c.run-went.result.0 ≡ 0 = omega arith in
    on_err _ _ (c.in_err-grow-in-Grows.ensures.err ∙ stays_there _ _ _ _ c.run-went.ensures.went none)
