use Rattle.mem_usher.proofs.Only.{no_target_ushered}
use Rattle.mem_usher.proofs.choice.ushered.Goals as goal

pub returns-in_err-target : goal.returns-in_err-target
returns-in_err-target c =
    rw c.from_residual-in_err-target.ensures
    (no_target_ushered c.args.sight.now c.in_ok-process.process (rw (c.as_slice.ensures, c.requires.reserve) at c.in_ok-process.ensures) (rw (c.as_slice-2.ensures, c.requires.reserve) at c.in_err-target.ensures))
