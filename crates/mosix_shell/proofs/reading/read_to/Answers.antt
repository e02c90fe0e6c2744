use Rattle.std.proofs.Common.{◌≤◌, ◌+◌, ℕ, length, arith}
use Rattle.std.proofs.lemmas.List.{length-take}
use Rattle.std.proofs.lemmas.Grind.{common_steps}
use Rattle.mosix_shell.proofs.Readings.{cut_behind}
use Rattle.mosix_shell.proofs.reading.read_to.Goals as goal

pub returns-then-is_err-clause-err : goal.returns-then-is_err-clause-err
returns-then-is_err-clause-err g c =
    let few : length c.loop-chunk.bytes + c.in-Ok.count ≤ c.args.most = first_of (omega (arith, c.in-Ok.ensures.bound, length-take {A = ℕ}), grind (arith, common_steps, c.in-Ok.ensures.bound)) in
    cut_behind c.args.most c.in-Ok.count _ _ _ c.loop-chunk.bytes c.read.new.into c.loop-chunk.invariant.so_far few c.in-Ok.ensures.bytes
