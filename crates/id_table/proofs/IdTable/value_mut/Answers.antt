use Rattle.std.proofs.Common.{◌≡◌, Some, refl, ap, sym, ◌∙◌}
use Rattle.id_table.proofs.KeyLemmas.{values_written, keyed_written, at_values}
use Rattle.id_table.specs.Places.{at_id}
use Rattle.id_table.specs.Keys.{value_under}
use Rattle.id_table.proofs.IdTable.value_mut.Goals as goal

pub returns : goal.returns
returns g c =
    let keys = c.self.inside.keys.items in
    let key : at_id keys c.args.id ≡ Some c.unwrap-key.result = cc (c.deref.ensures.value) in (
      (refl, λ w. rw (← c.self.view_is) (values_written c.self.inside.slots keys c.args.id c.unwrap-key.result w c.self.invariant key)),
      record { writes_back = tt; value = rw (← c.self.view_is) (at_values c.self.inside.slots keys c.args.id ∙ ap (value_under c.self.inside.slots) key ∙ c.index_mut.ensures.value) },
    )
