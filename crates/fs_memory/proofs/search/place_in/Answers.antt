use Rattle.std.proofs.Common.{arith, sym, ap, ◌∙◌}
use Rattle.fs_memory.proofs.SearchLemmas.{place_here, place_last}
use Rattle.fs_memory.proofs.search.place_in.Goals as goal

pub returns-then-not-comes_before_name : goal.returns-then-not-comes_before_name
returns-then-not-comes_before_name c = place_here c.args.name.now c.args.list.now c.loop-i.i c.index-list-i.result c.loop-i-test.true c.loop-i.invariant c.index-list-i.is (sym c.if-not-comes_before_name.ensures)

pub returns : goal.returns
returns c = place_last c.args.name.now c.args.list.now c.loop-i.i c.loop-i-test.false c.loop-i.auto.i-end c.loop-i.invariant
