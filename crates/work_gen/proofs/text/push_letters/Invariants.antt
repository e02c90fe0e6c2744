use Rattle.std.proofs.Common.{◌≡◌, ◌++◌, replicate}
use Rattle.work_gen.proofs.text.push_letters.Given as goal

abbrev pub invariant-loop-i : goal.invariant-loop-i
invariant-loop-i l = l.text ≡ l.initial.text ++ replicate l._i 122
