use Rattle.std.proofs.Common.{◌∙◌, ap, length, unwrap_or}
use Rattle.pipe_table.proofs.Places.{first_free_is}
use Rattle.pipe_table.proofs.slots.first_free.Goals as goal

pub returns : goal.returns
returns c =
    c.unwrap_or.ensures
    ∙ ap (λ o. unwrap_or o (length c.args.slots.now)) c.place_without.ensures
    ∙ first_free_is c.args.slots.now
