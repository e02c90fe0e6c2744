use Rattle.std.proofs.Common.{◌<◌, ◌≤◌, ◌∙◌, ap, sym, min, length, arith}
use Rattle.pipe_table.specs.Table.{room_of}
use Rattle.pipe_table.proofs.Places.{changed_past, changed_read, pipe_at_read}
use Rattle.pipe_table.proofs.slots.put_at.Goals as goal

pub returns-then-id-len-clause-bytes : goal.returns-then-id-len-clause-bytes
returns-then-id-len-clause-bytes c =
    let past : length c.args.slots.now.items ≤ c.args.id = omega (arith, c.args.slots.now.ok.0) in sym (changed_past _ _ _ past)

pub returns-clause-count : goal.returns-clause-count
returns-clause-count c =
    let within : c.args.id < length c.args.slots.now.items = omega (arith, c.args.slots.now.ok.0) in
    c.put_in.ensures.count ∙ ap (λ pipe. min (length c.args.bytes.now) (room_of pipe)) (pipe_at_read _ _ _ within c.index_mut.ensures.value)

pub returns-clause-bytes : goal.returns-clause-bytes
returns-clause-bytes c = changed_read _ _ _ _ _ c.index_mut.ensures.value c.put_in.ensures.bytes
