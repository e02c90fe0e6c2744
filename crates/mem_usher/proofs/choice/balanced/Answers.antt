use Rattle.std.proofs.Common.{sym, arith}
use Rattle.mem_usher.proofs.Only.{no_process_balanced, no_room_balanced, is_balanced}
use Rattle.mem_usher.proofs.choice.balanced.Goals as goal

pub returns-in_err-process : goal.returns-in_err-process
returns-in_err-process c = rw c.from_residual.ensures (no_process_balanced c.args.sight.now (rw c.as_slice.ensures at c.in_err-process.ensures))

pub returns-then-not-has_room : goal.returns-then-not-has_room
returns-then-not-has_room c =
    no_room_balanced c.args.sight.now c.in_ok-process.process c.in_ok-target.target (rw c.as_slice.ensures at c.in_ok-process.ensures) (rw c.as_slice-2.ensures at c.in_ok-target.ensures)
    (rw c.requires at (sym c.if-not-has_room.ensures))

pub returns : goal.returns
returns c =
    is_balanced c.args.sight.now c.in_ok-process.process c.in_ok-target.target (rw c.as_slice.ensures at c.in_ok-process.ensures) (rw c.as_slice-2.ensures at c.in_ok-target.ensures) (omega arith)
    (rw c.requires at (sym c.if-not-has_room.ensures))
