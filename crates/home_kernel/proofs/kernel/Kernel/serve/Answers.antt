use Rattle.home_kernel.proofs.Gives.{served_gives}
use Rattle.home_kernel.proofs.kernel.Kernel.serve.Goals as goal

pub returns-clause-given : goal.returns-clause-given
returns-clause-given c = served_gives c.in_ok-served.served c.args.self.now c.call.new.self c.args.pid c.args.request.now c.in_ok-served.ensures.ok
