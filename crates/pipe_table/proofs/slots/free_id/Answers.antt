use Rattle.pipe_table.proofs.Places.{none_free, some_free}
use Rattle.std.proofs.Common.{arith}
use Rattle.pipe_table.proofs.slots.free_id.Goals as goal

pub returns-then-id-ge-MOST : goal.returns-then-id-ge-MOST
returns-then-id-ge-MOST c = none_free c.args.slots.now c.first_free-id.result c.requires c.first_free-id.ensures c.if-id-ge-MOST.true

pub returns : goal.returns
returns c = some_free c.args.slots.now c.first_free-id.result c.requires c.first_free-id.ensures (omega arith)
