use Rattle.std.proofs.Common.{◌≡◌, ◌-◌, ◌≤◌}
use Rattle.user_spec.specs.Advance.{walked}
use Rattle.user_ctx.specs.Stopping.{after}
use Rattle.user_ctx.proofs.user.User.run.Given as goal

abbrev pub invariant-loop-i : goal.invariant-loop-i
invariant-loop-i l = record {
  bound : l.went ≤ l.k;
  passed : l._i ≤ l.went;
  walk : walked l.k l.fn.self ≡ after l.went (walked (l.k - l.went) l.self);
}
