use Rattle.std.proofs.Common.{List, get_or, slice_get, sym, ap, ◌∙◌}
use Rattle.node_event.specs.declared.event.Event.{Event}
use Rattle.weave.proofs.Choosing.{next_read}
use Rattle.weave.proofs.merging.next_event.Goals as goal

pub returns : goal.returns
returns c =
    c.event_in.ensures
    ∙ (ap (λ (w : List Event). slice_get w (get_or c.args.next.now c.args.k 0)) c.as_slice.ensures
    ∙ sym (next_read c.args.journals.now c.args.next.now c.args.k c.index-journals-k.result c.requires.within c.requires.same c.index-journals-k.is))
