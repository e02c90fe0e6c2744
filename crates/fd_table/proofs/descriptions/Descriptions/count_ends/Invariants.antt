use Rattle.std.proofs.Common.{◌≡◌, take, count_by}
use Rattle.fd_table.specs.Held.{is_end_held}
use Rattle.fd_table.proofs.descriptions.Descriptions.count_ends.Given as goal

abbrev pub invariant-loop-id : goal.invariant-loop-id
invariant-loop-id l = l.count ≡ count_by (is_end_held l.target) (take l.id l.self-inside.counted)
