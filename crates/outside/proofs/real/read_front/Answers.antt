use Rattle.std.specs.Prelude.{◌+◌}
use Rattle.outside.proofs.Fronts.{front_of}
use Rattle.outside.proofs.real.read_front.Goals as goal
use Rattle.call_table.specs.declared.limit.TheConstants.{IMAGE_BYTES}

pub returns : goal.returns
returns g c = front_of g.R.Read.remaining c.take.result.inner c.args.reader c.new-bytes.result.items c.read_to_end.new.buf.items c.take.result.limit (IMAGE_BYTES + 1) c.in_ok-read_to_end.ensures.bytes c.take.ensures.inner c.take.ensures.limit c.new-bytes.ensures.items
