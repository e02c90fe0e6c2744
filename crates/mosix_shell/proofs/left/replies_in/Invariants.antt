use Rattle.std.proofs.Common.{◌≡◌, take}
use Rattle.mosix_shell.specs.Left.{replies_in}
use Rattle.mosix_shell.proofs.left.replies_in.Given as goal

-- the replies of the events so far
abbrev pub invariant-loop-event : goal.invariant-loop-event
invariant-loop-event l = l.replies ≡ replies_in (take l.event-index l.events)
