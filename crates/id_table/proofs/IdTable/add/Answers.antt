use Rattle.std.proofs.Common.{◌≡◌, ◌<◌, ◌^◌, ℕ, List, Option, arith, refl, ap, sym, ◌∙◌}
use Rattle.id_table.proofs.KeyLemmas.{added_after, id_added}
use Rattle.id_table.specs.Places.{lowest_free}
use Rattle.id_table.proofs.IdTable.add.Goals as goal

pub invariant_of-self-2 : goal.invariant_of-self-2
invariant_of-self-2 g c =
    let low : lowest_free c.self.inside.keys.items < 2 ^ 32 = omega (arith, c.free_place-place.ensures, ap (λ (xs : List (Option ℕ)). lowest_free xs) c.deref.ensures.value, c.in-Ok.ensures.0) in
    (added_after c.self.inside.slots c.reserve.new.self c.insert_reserved.new.self c.self.inside.keys.items c.put_key.new.keys.items c.vacant_key-key.result c.insert_reserved.result c.args.value
    c.reserve.ensures.rest_kept c.self.invariant c.vacant_key-key.ensures.value c.insert_reserved.ensures.key c.vacant_key-key.ensures.vacant c.insert_reserved.ensures.updates c.in_ok-put_key.ensures.ok low).0

pub returns-clause-id : goal.returns-clause-id
returns-clause-id g c =
    let place : c.free_place-place.result ≡ lowest_free c.self.inside.keys.items = cc (c.free_place-place.ensures, c.deref.ensures.value) in
    rw (← c.self.view_is) (id_added c.self.inside.slots c.self.inside.keys.items c.in-Ok.id c.free_place-place.result c.self.invariant c.in-Ok.ensures.1 place)

pub returns-clause-ok : goal.returns-clause-ok
returns-clause-ok g c =
    let low : lowest_free c.self.inside.keys.items < 2 ^ 32 = omega (arith, c.free_place-place.ensures, ap (λ (xs : List (Option ℕ)). lowest_free xs) c.deref.ensures.value, c.in-Ok.ensures.0) in
    rw (← c.self.view_is)
    (added_after c.self.inside.slots c.reserve.new.self c.insert_reserved.new.self c.self.inside.keys.items c.put_key.new.keys.items c.vacant_key-key.result c.insert_reserved.result c.args.value
    c.reserve.ensures.rest_kept c.self.invariant c.vacant_key-key.ensures.value c.insert_reserved.ensures.key c.vacant_key-key.ensures.vacant c.insert_reserved.ensures.updates c.in_ok-put_key.ensures.ok low).1
