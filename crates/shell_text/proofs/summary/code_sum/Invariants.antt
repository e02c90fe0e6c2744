use Rattle.std.proofs.Common.{◌≡◌, ◌+◌, ◌*◌, ◌≤◌, drop}
use Rattle.shell_text.specs.Summary.{code_sum}
use Rattle.shell_text.proofs.summary.code_sum.Given as goal

-- what was summed up and what is left make the whole
abbrev pub invariant-loop-status : goal.invariant-loop-status
invariant-loop-status l = record {
  small : l.sum ≤ 255 * l.status-index;
  whole : code_sum l.statuses ≡ l.sum + code_sum (drop l.status-index l.statuses);
}
