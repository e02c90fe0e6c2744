use Rattle.mosix_shell.proofs.Telling.{told_is}
use Rattle.mosix_shell.proofs.left.told_by.Goals as goal

pub returns : goal.returns
returns c =
    told_is c.args.nodes c.as_slice.result.now c.args.last c.home_of.result.now c.in_ok-shown.shown c.in_ok-events.events c.as_slice-2.result.now c.in_ok-replies.replies c.in_ok-journals.journals c.as_slice.ensures c.as_slice-2.ensures
    c.home_of.ensures c.in_ok-shown.ensures c.in_ok-journals.ensures c.in_ok-events.ensures.rising c.in_ok-events.ensures.own c.in_ok-replies.ensures
