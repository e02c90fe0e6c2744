use Rattle.std.proofs.Common.{◌∙◌}
use Rattle.call_forward.proofs.MessageLemmas.{places_below}
use Rattle.call_forward.proofs.message.Message.is_below.Goals as goal

pub returns-in-Half : goal.returns-in-Half
returns-in-Half c = rw c.in-Half.is (c.are_entries_below.ensures ∙ places_below c.args.nodes c.in-Half.places)
