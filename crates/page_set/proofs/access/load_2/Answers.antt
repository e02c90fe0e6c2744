use Rattle.std.proofs.Common.{sym, ap, arith, ◌∙◌}
use Rattle.page_set.specs.Tree.{has_right}
use Rattle.page_set.proofs.Accesses.{loads, loads_none}
use Rattle.page_set.proofs.access.load_2.Goals as goal

pub returns-in-None : goal.returns-in-None
returns-in-None c = loads_none 2 c.args.leaves.now.items c.args.right c.args.addr (omega arith) (omega arith) (ap (has_right c.args.right) c.in-None.ensures)

pub returns-then-has : goal.returns-then-has
returns-then-has c = loads 2 c.args.leaves.now.items c.args.right c.args.addr c.in-Some.frame.now c.number_2.result c.in-Some.ensures (sym c.if-has.ensures) (omega arith) (omega arith) c.number_2.ensures

pub returns-else-has : goal.returns-else-has
returns-else-has c = loads_none 2 c.args.leaves.now.items c.args.right c.args.addr (omega arith) (omega arith) (ap (has_right c.args.right) c.in-Some.ensures ∙ sym c.if-has.ensures)
