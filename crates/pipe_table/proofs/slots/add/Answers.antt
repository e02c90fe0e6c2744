use Rattle.std.proofs.Common.{◌<◌, ◌≤◌, ◌∙◌, ap, length, is_none, arith}
use Rattle.std.specs.List.{position_or_len}
use Rattle.pipe_table.proofs.Places.{add_set, add_push}
use Rattle.pipe_table.proofs.slots.add.Goals as goal

pub returns-then-id-len-clause-ok : goal.returns-then-id-len-clause-ok
returns-then-id-len-clause-ok c =
    let within : c.first_free-id.result < length c.args.slots.now.items = omega (arith, c.args.slots.now.ok.0) in
    add_set c.args.slots.now.items c.first_free-id.result c.args.pipe (c.first_free-id.ensures ∙ ap (position_or_len is_none) c.deref.ensures.value) within c.requires

pub returns-in_ok-push-clause-ok : goal.returns-in_ok-push-clause-ok
returns-in_ok-push-clause-ok c =
    let past : length c.args.slots.now.items ≤ c.first_free-id.result = omega (arith, c.args.slots.now.ok.0) in
    add_push c.args.slots.now.items _ c.first_free-id.result c.args.pipe (c.first_free-id.ensures ∙ ap (position_or_len is_none) c.deref.ensures.value) past c.requires c.in_ok-push.ensures.items
