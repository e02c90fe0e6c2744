-- Two appends are one of both.
use Rattle.std.proofs.Common.{List, ℕ, ◌++◌, ap, ◌∙◌, append_assoc, get_or}
use Rattle.std.proofs.lemmas.Result.{IfOk-equal}
use Rattle.rv_asm.specs.File.{word}
use Rattle.rv_asm.proofs.file.push_four.Goals as goal

pub returns : goal.returns
returns c =
    let front = word (get_or c.args.words 0 0) ++ word (get_or c.args.words 1 0) in
    let back = word (get_or c.args.words 2 0) ++ word (get_or c.args.words 3 0) in
    IfOk-equal c.push_two-2.result c.push_two-2.new.out (c.push_two.new.out ++ back) (c.args.out.now ++ (front ++ back)) c.push_two-2.ensures (ap (λ xs. xs ++ back) c.in_ok-push_two.ensures ∙ append_assoc c.args.out.now front back)
