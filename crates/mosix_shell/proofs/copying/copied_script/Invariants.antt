use Rattle.std.proofs.Common.{◌≡◌, take}
use Rattle.mosix_shell.proofs.copying.copied_script.Given as goal

-- the orders so far
abbrev pub invariant-loop-ordered : goal.invariant-loop-ordered
invariant-loop-ordered l = l.copy ≡ take l.ordered-index l.orders
