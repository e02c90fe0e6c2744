use Rattle.std.proofs.Common.{◌∙◌, sym}
use Rattle.deputy.proofs.Waiting.{count_pids, count_free, waiting_within}
use Rattle.deputy.proofs.rows.Rows.count.Goals as goal

pub take_out-requires : goal.take_out-requires
take_out-requires c = rw c.self.invariant (waiting_within c.self.inside.list.items c.args.pid (sym c.count_at.ensures.had ∙ c.if-count_at.true))

pub invariant_of-self : goal.invariant_of-self
invariant_of-self c =
    rw (c.take_out.ensures, c.count_at.ensures.new, c.self.invariant) (sym (count_pids c.self.inside.list.items c.args.pid (sym c.count_at.ensures.had ∙ c.if-count_at.true)))

pub invariant_of-self-else-count_at : goal.invariant_of-self-else-count_at
invariant_of-self-else-count_at c =
    rw (c.count_at.ensures.new, c.self.invariant) (sym (count_free c.self.inside.list.items c.args.pid (sym c.count_at.ensures.had ∙ c.if-count_at.false)))
