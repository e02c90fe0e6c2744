use Rattle.std.proofs.Common.{◌≡◌, Some, refl, ap, sym, ◌∙◌}
use Rattle.id_table.proofs.KeyLemmas.{values_removed, keyed_removed}
use Rattle.id_table.specs.Places.{at_id}
use Rattle.id_table.proofs.IdTable.remove.Goals as goal

pub invariant_of-self : goal.invariant_of-self
invariant_of-self g c =
    let keys = c.self.inside.keys.items in
    let key : at_id keys c.args.id ≡ Some c.unwrap-key.result = cc (c.deref.ensures.value) in
    keyed_removed c.self.inside.slots c.remove.new.self keys c.args.id c.unwrap-key.result c.self.invariant key c.remove.ensures.updates

pub returns-clause-new : goal.returns-clause-new
returns-clause-new g c =
    let keys = c.self.inside.keys.items in
    let key : at_id keys c.args.id ≡ Some c.unwrap-key.result = cc (c.deref.ensures.value) in
    rw (← c.self.view_is) (values_removed c.self.inside.slots c.remove.new.self keys c.args.id c.unwrap-key.result c.self.invariant key c.remove.ensures.updates)
