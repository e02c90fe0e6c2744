use Rattle.mosix_shell.proofs.Telling.{reply_next}
use Rattle.mosix_shell.proofs.left.replies_in.Goals as goal

pub loop-event-preserved : goal.loop-event-preserved
loop-event-preserved c = reply_next c.args.events.now c.loop-event.event-index _ c.loop-event.replies c.add_reply.new.replies c.loop-event-test.true c.loop-event.invariant c.in_ok-add_reply.ensures
