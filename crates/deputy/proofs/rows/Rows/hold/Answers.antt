use Rattle.std.proofs.Common.{◌∙◌, sym}
use Rattle.deputy.proofs.Waiting.{hold_pids}
use Rattle.deputy.proofs.rows.Rows.hold.Goals as goal

pub invariant_of-self-2 : goal.invariant_of-self-2
invariant_of-self-2 c =
    let free = rw (← c.self.view_is) at c.requires.free in
    let within = rw (← c.self.view_is) at c.requires.given in
    rw (c.in_ok-put_in.ensures.ok, c.hold_at.ensures, c.self.invariant) (sym (hold_pids c.self.inside.list.items c.args.pid c.args.call c.requires.low within free))
