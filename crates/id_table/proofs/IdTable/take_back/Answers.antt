use Rattle.std.proofs.Common.{take, ap, ◌∙◌}
use Rattle.id_table.specs.Keys.{values_under}
use Rattle.id_table.proofs.ShortLemmas.{keyed_short, values_short}
use Rattle.id_table.proofs.IdTable.take_back.Goals as goal

pub invariant_of-self : goal.invariant_of-self
invariant_of-self g c = rw c.truncate.ensures.items (keyed_short c.self.inside.slots c.self.inside.keys.items c.args.places c.self.invariant)

pub returns-clause-new : goal.returns-clause-new
returns-clause-new g c =
    ap (values_under c.self.inside.slots) c.truncate.ensures.items
    ∙ values_short c.self.inside.slots c.self.inside.keys.items c.args.places
    ∙ ap (take c.args.places) (c.self.view_is ∙ c.remove-value.ensures.new)
