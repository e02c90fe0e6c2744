use Rattle.std.proofs.Common.{[], length, ap, ◌∙◌}
use Rattle.std.proofs.lemmas.List.{length-replicate}
use Rattle.weave.specs.Merges.{woven_from}
use Rattle.weave.proofs.Choosing.{none_read, less_unread, one_read, same_length, read_all}
use Rattle.weave.proofs.merging.merge_all.Goals as goal

pub loop-event-init : goal.loop-event-init
loop-event-init c = record {
  parts = none_read c.in_ok-all.all.items c.args.journals.now c.in_ok-next.next.items c.in_ok-all.ensures.items c.in_ok-next.ensures;
  same = ap length c.in_ok-next.ensures ∙ length-replicate (length c.args.journals.now) 0;
}

pub loop-event-smaller : goal.loop-event-smaller
loop-event-smaller c = less_unread c.args.journals.now c.loop-event.next.items c.read_first.new.next.items c.in-Some.event c.in-Some.ensures

pub loop-event-preserved : goal.loop-event-preserved
loop-event-preserved c = record {
  parts = rw c.in_ok-push.ensures.items (one_read c.loop-event.all.items (woven_from [] c.args.journals.now) c.args.journals.now c.loop-event.next.items c.read_first.new.next.items c.in-Some.event c.in-Some.ensures c.loop-event.invariant.parts);
  same = same_length c.args.journals.now c.loop-event.next.items c.read_first.new.next.items c.in-Some.event c.in-Some.ensures c.loop-event.invariant.same;
}

pub returns : goal.returns
returns c = read_all c.loop-event.all.items (woven_from [] c.args.journals.now) c.args.journals.now c.loop-event.next.items c.in_default.ensures c.loop-event.invariant.parts
