use Rattle.std.proofs.Common.{◌∙◌, sym}
use Rattle.deputy.proofs.Waiting.{land_pids}
use Rattle.deputy.proofs.rows.Rows.land.Goals as goal

pub invariant_of-self : goal.invariant_of-self
invariant_of-self c = rw c.land_at.ensures (c.self.invariant ∙ sym (land_pids c.self.inside.list.items c.args.pid c.args.place c.args.hops))
