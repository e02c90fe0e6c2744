-- Replies, the newest first.
use Rattle.std.proofs.Common.{◌≡◌, List, [], ◌∷◌, ◌++◌, map, reverse, sym, ap}
use Rattle.std.proofs.lemmas.List.{reverse-append}
use Rattle.call_table.specs.declared.process.Reply3.{Reply3}
use Rattle.same_machine.specs.Same.{reply_of, replies_of}

-- one more reply
pub reply_more : (rs : List Reply3) (r : Reply3) → reply_of r ∷ replies_of rs ≡ replies_of (rs ++ r ∷ [])
reply_more rs r = ap (map reply_of) (sym (reverse-append rs (r ∷ [])))
