use Rattle.std.proofs.Common.{◌≡◌, ◌∙◌, ℕ, Some, ap, sym, arith}
use Rattle.one_node.proofs.Quanta.{goes_went, goes_growth, goes_call, goes_fault, asked_call, run_call}
use Rattle.one_node.proofs.going.go.Goals as goal

pub returns-then-went-gt0 : goal.returns-then-went-gt0
returns-then-went-gt0 c = goes_went c.args.quantum c.run-went.result.0 c.args.user.now c.run-went.new.self c.run-went.ensures.went (omega arith)

pub returns-in_ok-grow-in-Grows : goal.returns-in_ok-grow-in-Grows
returns-in_ok-grow-in-Grows c =
    let none : c.run-went.result.0 ≡ 0 = omega arith in
    goes_growth _ _ _ _ _ _ _ c.run-went.result.1 c.requires c.run-went.ensures.went none c.in-Grows.is c.run-went.ensures.stop c.in_ok-grow-in-Grows.ensures.ok c.run-more.ensures.went

pub returns-in-Fault : goal.returns-in-Fault
returns-in-Fault c =
    let none : c.run-went.result.0 ≡ 0 = omega arith in
    goes_fault c.args.quantum c.run-went.result.0 c.in-Fault.field-0 c.args.user.now c.run-went.new.self c.run-went.result.1 c.run-went.ensures.went none c.in-Fault.is c.run-went.ensures.stop

pub returns-in-AtCall : goal.returns-in-AtCall
returns-in-AtCall c =
    let none : c.run-went.result.0 ≡ 0 = omega arith in
    let at = run_call c.run-went.result.1 c.run-went.new.self c.in-AtCall.is c.run-went.ensures.stop in
    let asked = asked_call c.run-went.new.self at ∙ ap (λ (n : ℕ). Some n) (sym c.number.ensures) in
    goes_call c.args.quantum c.run-went.result.0 c.args.user.now c.run-went.new.self c.run-went.result.1 c.run-went.ensures.went none c.in-AtCall.is c.run-went.ensures.stop c.number.result asked
