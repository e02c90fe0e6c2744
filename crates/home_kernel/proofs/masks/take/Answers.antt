use Rattle.std.proofs.Common.{arith}
use Rattle.kernel_spec.specs.Processes.{take_of}
use Rattle.home_kernel.proofs.Taken.{takes_of}
use Rattle.home_kernel.proofs.masks.take.Goals as goal

pub returns : goal.returns
returns c =
    takes_of c.take_own.result (take_of c.args.room) c.args.signals.now.items c.args.pid c.index_mut.result.now c.take_own.new.own (omega (arith, c.if-pid-eq0.false)) (omega (arith, c.if-len-pid.false, c.len.ensures, c.args.signals.now.ok.0)) c.index_mut.ensures.value c.take_own.ensures
