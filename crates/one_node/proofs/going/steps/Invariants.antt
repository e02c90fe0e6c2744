use Rattle.std.proofs.Common.{◌≡◌, ◌≤◌, ◌-◌}
use Rattle.user_spec.specs.Advance.{advanced}
use Rattle.one_node.proofs.going.steps.Given as goal

-- the steps that are left from here are all steps from the start
abbrev pub invariant-loop-done : goal.invariant-loop-done
invariant-loop-done l = record {
  most : l.done ≤ l.k;
  left : advanced l.k l.fn.user ≡ advanced (l.k - l.done) l.user;
}

abbrev pub decreases-loop-done : goal.decreases-loop-done
decreases-loop-done l = l.k - l.done
