use Rattle.std.proofs.Common.{◌≡◌}
use Rattle.home_kernel.proofs.Holding.{paired_io}
use Rattle.home_kernel.proofs.Piping.{pipe_undone}
use Rattle.home_kernel.proofs.io.Io.make_pipe.Goals as goal

pub invariant_of-self-in-Ok : goal.invariant_of-self-in-Ok
invariant_of-self-in-Ok c = rw c.in-Ok.ensures.ok (paired_io c.self.inside.files c.self.inside.fds c.args.pid c.in-Some.id c.self.invariant)

pub returns-in-Err-clause-err : goal.returns-in-Err-clause-err
returns-in-Err-clause-err c =
    let made = rw c.in-Some.is at c.in_ok-id.ensures.ok in
    let back : c.take_back.new.self ≡ c.self.inside.pipes = pipe_undone c.self.inside.pipes c.create.new.self c.take_back.new.self c.in-Some.id c.places-places.result made c.places-places.ensures c.take_back.ensures.new in
    rw back (rw c.in-Err.ensures.err c.self.view_is)
