use Rattle.std.proofs.Common.{refl}
use Rattle.cluster_run.proofs.Places.{put_done}
use Rattle.cluster_run.proofs.side.put_at.Goals as goal

pub returns-in-Some : goal.returns-in-Some
returns-in-Some g c = put_done g.C.Carrier.puts g.C.Carrier.gives g.C.Carrier.pair c.args.side.now c.args.letter.to c.args.at c.requires c.in-Some.towards.now c.in-Some.ensures.value c.put.new.self c.args.letter c.put.result c.put.ensures.pair refl c.put.ensures.gives c.put.ensures.done c.put.ensures.full
