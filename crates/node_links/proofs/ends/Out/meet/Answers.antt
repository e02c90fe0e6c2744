use Rattle.std.proofs.Common.{ap, arith, length}
use Rattle.node_links.proofs.LinkLemmas.{none_lies, lies_none}
use Rattle.node_links.proofs.ends.Out.meet.Goals as goal

pub returns-clause-free : goal.returns-clause-free
returns-clause-free c = λ e. omega (arith, c.args.self.now.roomy, c.slots_beside.ensures.looked.0.1, c.slots_beside.ensures.value, c.slots_beside.ensures.all_free, ap length c.slots_beside-2.ensures.producer.1, c.slots_beside-2.ensures.producer.2, ap length c.slots_beside-2.ensures.looked.1, ap length e)

pub returns-clause-empty : goal.returns-clause-empty
returns-clause-empty c = (λ t. none_lies _ _ _ _ c.slots_beside-2.ensures.fifo c.slots_beside-2.ensures.value t, λ e. lies_none _ _ _ _ c.slots_beside-2.ensures.fifo c.slots_beside-2.ensures.value e)
