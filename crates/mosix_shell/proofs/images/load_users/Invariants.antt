use Rattle.std.proofs.Common.{◌≡◌, ◌≤◌, drop}
use Rattle.mosix_shell.specs.Orders.{FitStacks}
use Rattle.mosix_shell.specs.Images.{runs_of, LoadsOn}
use Rattle.mosix_shell.proofs.images.load_users.Given as goal

-- so many processes are loaded, and whatever the rest comes to makes all
abbrev pub invariant-loop-ordered : goal.invariant-loop-ordered
invariant-loop-ordered g l = record {
  files : g.I.Images.files l.images ≡ g.I.Images.files l.fn.images;
  later : g.I.Images.faults l.fn.images ≤ g.I.Images.faults l.images;
  loads : LoadsOn (g.I.Images.files l.fn.images) (runs_of l.orders) l.users (runs_of (drop l.ordered-index l.orders));
  fit : FitStacks (drop l.ordered-index l.orders);
}
