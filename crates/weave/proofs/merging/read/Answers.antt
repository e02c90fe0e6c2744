use Rattle.std.proofs.Common.{List, get_or, slice_get, sym, ap, ◌∙◌}
use Rattle.node_event.specs.declared.event.Event.{Event}
use Rattle.weave.proofs.Choosing.{next_read, first_below}
use Rattle.weave.proofs.merging.read.Goals as goal

pub event_at-requires : goal.event_at-requires
event_at-requires c = rw c.as_slice.ensures (first_below c.args.journals.now c.args.next.now c.args.k c.index-journals-k.result c.index-journals-k.is c.requires.first c.requires.same)

pub returns-clause-event : goal.returns-clause-event
returns-clause-event c =
    next_read c.args.journals.now c.args.next.now c.args.k c.index-journals-k.result c.requires.first.within c.requires.same c.index-journals-k.is
    ∙ (sym (ap (λ (w : List Event). slice_get w (get_or c.args.next.now c.args.k 0)) c.as_slice.ensures) ∙ c.event_at.ensures.event)
