use Rattle.std.proofs.Common.{◌≡◌, take, is_some, count_by}
use Rattle.fd_table.proofs.descriptions.Descriptions.count.Given as goal

abbrev pub invariant-loop-id : goal.invariant-loop-id
invariant-loop-id l = l.count ≡ count_by is_some (take l.id l.self-inside.counted)
