-- What was read in a word has that word.
use Rattle.std.proofs.Common.{arith}
use Rattle.rv_decode.proofs.Writing.{writes_back}
use Rattle.rv_decode.proofs.decoder.decode.Goals as goal

pub returns-clause-encodes : goal.returns-clause-encodes
returns-clause-encodes c = rw c.instruction.ensures (writes_back c.args.word (omega arith))
