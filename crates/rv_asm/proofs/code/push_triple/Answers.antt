-- Two appends are one of both.
use Rattle.std.proofs.Common.{List, ℕ, ◌++◌, ap, ◌∙◌, append_assoc}
use Rattle.std.proofs.lemmas.Result.{IfOk-equal}
use Rattle.rv_asm.specs.Code.{instruction_bytes}
use Rattle.rv_asm.proofs.code.push_triple.Goals as goal

pub returns : goal.returns
returns c =
    let pair = instruction_bytes c.args.first ++ instruction_bytes c.args.second in
    let third = instruction_bytes c.args.third in
    IfOk-equal c.push_instruction.result c.push_instruction.new.out (c.push_pair.new.out ++ third) (c.args.out.now ++ (pair ++ third)) c.push_instruction.ensures (ap (λ xs. xs ++ third) c.in_ok-push_pair.ensures ∙ append_assoc c.args.out.now pair third)
