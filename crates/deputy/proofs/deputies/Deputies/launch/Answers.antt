use Rattle.deputy.proofs.Keeping.{launched_home}
use Rattle.deputy.proofs.deputies.Deputies.launch.Goals as goal

pub invariant_of-self-2 : goal.invariant_of-self-2
invariant_of-self-2 c =
    let launches = rw c.in-Some.is at c.in_ok-pid.ensures.ok in
    rw launches.1 (rw c.push.ensures (rw c.in_ok-reserve.ensures.same (launched_home c.self.inside.kernel c.self.inside.rows.list c.self.inside.settled c.self.invariant)))
