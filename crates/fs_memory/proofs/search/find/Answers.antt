use Rattle.std.proofs.Common.{arith}
use Rattle.fs_memory.proofs.SearchLemmas.{called_nowhere}
use Rattle.fs_memory.proofs.search.find.Goals as goal

pub returns : goal.returns
returns c = called_nowhere c.args.name.now c.args.files.now (λ k h. c.loop-id.invariant k (omega arith))
