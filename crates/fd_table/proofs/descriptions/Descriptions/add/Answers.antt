use Rattle.std.proofs.Common.{arith}
use Rattle.id_table.proofs.PlaceLemmas.{lowest_free_count}
use Rattle.fd_table.proofs.descriptions.Descriptions.add.Goals as goal

pub overflow_add-result : goal.overflow_add-result
overflow_add-result c = omega (arith, lowest_free_count c.self.inside.counted, c.in_ok-id.ensures.id, rw (← c.self.view_is) at c.requires)
