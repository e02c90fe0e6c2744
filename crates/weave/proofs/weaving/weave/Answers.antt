use Rattle.std.proofs.Common.{◌∙◌, ap, []}
use Rattle.weave.specs.Merges.{woven_from}
use Rattle.weave.proofs.Orders.{same_events, is_sorted, is_rising}
use Rattle.weave.proofs.Owners.{owns}
use Rattle.weave.proofs.weaving.weave.Goals as goal

pub returns-clause-same : goal.returns-clause-same
returns-clause-same c = same_events c.args.journals.now c.from_vec.result (c.from_vec.ensures ∙ (c.in_ok-woven.ensures ∙ ap (woven_from []) c.as_slice.ensures))

pub returns-clause-sorted : goal.returns-clause-sorted
returns-clause-sorted c = is_sorted c.args.journals.now c.from_vec.result (c.from_vec.ensures ∙ (c.in_ok-woven.ensures ∙ ap (woven_from []) c.as_slice.ensures))

pub returns-clause-rising : goal.returns-clause-rising
returns-clause-rising c = is_rising c.args.journals.now c.from_vec.result (c.from_vec.ensures ∙ (c.in_ok-woven.ensures ∙ ap (woven_from []) c.as_slice.ensures))

pub returns-clause-own : goal.returns-clause-own
returns-clause-own c = owns c.args.journals.now c.from_vec.result (c.from_vec.ensures ∙ (c.in_ok-woven.ensures ∙ ap (woven_from []) c.as_slice.ensures))
