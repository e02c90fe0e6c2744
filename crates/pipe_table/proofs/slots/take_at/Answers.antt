use Rattle.std.proofs.Common.{◌<◌, ◌≤◌, ◌∙◌, ap, sym, take, length, arith}
use Rattle.pipe_table.specs.Table.{bytes_of}
use Rattle.pipe_table.proofs.Places.{changed_past, changed_read, pipe_at_read}
use Rattle.pipe_table.proofs.slots.take_at.Goals as goal

pub returns-then-id-len-clause-rest : goal.returns-then-id-len-clause-rest
returns-then-id-len-clause-rest c =
    let past : length c.args.slots.now.items ≤ c.args.id = omega (arith, c.args.slots.now.ok.0) in sym (changed_past _ _ _ past)

pub returns-clause-bytes : goal.returns-clause-bytes
returns-clause-bytes c =
    let within : c.args.id < length c.args.slots.now.items = omega (arith, c.args.slots.now.ok.0) in
    c.in_ok-bytes.ensures.bytes ∙ ap (λ pipe. take c.args.len (bytes_of pipe)) (pipe_at_read _ _ _ within c.index_mut.ensures.value)

pub returns-clause-rest : goal.returns-clause-rest
returns-clause-rest c = changed_read _ _ _ _ _ c.index_mut.ensures.value c.in_ok-bytes.ensures.rest
