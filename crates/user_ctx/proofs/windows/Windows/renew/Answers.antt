use Rattle.std.proofs.Common.{arith}
use Rattle.user_ctx.proofs.Made.{ready_renewed}
use Rattle.user_ctx.proofs.windows.Windows.renew.Goals as goal

pub returns-clause-ready : goal.returns-clause-ready
returns-clause-ready c = λ pages r. record {
  ready = ready_renewed pages c.args.self.now.low c.args.self.now.end c.args.base c.args.self.now.next c.min-self.result c.max-self.result c.args.self.now.slots c.new.result r.ready (c.new.ensures.is pages) c.new.ensures.base c.min-self.ensures c.max-self.ensures;
  end = omega (arith, r.end, c.max-self.ensures, c.requires.range);
  next = omega arith;
}
