use Rattle.std.proofs.Common.{sym}
use Rattle.weave.proofs.Choosing.{comes_first}
use Rattle.weave.proofs.merging.earlier_of.Goals as goal

pub returns-in_default : goal.returns-in_default
returns-in_default c =
    comes_first c.args.journals.now c.args.next.now c.args.k c.in-Some-first.lowest c.in-Some.event c.in-Some-next_event.earliest (sym c.in-Some.ensures) (sym c.in-Some-next_event.ensures) (sym c.if-not-is_earlier.ensures)
    (rw c.in-Some-first.is at c.requires.so_far)
