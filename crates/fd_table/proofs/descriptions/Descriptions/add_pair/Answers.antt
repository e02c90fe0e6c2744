use Rattle.std.proofs.Common.{◌≡◌, ◌+◌, ◌≤◌, ◌∙◌, ap, is_some, length, take, count_by, arith}
use Rattle.id_table.specs.Places.{at_id, lowest_free, filled, without}
use Rattle.id_table.proofs.PlaceLemmas.{lowest_free_count, at_filled}
use Rattle.id_table.proofs.ShortLemmas.{undone}
use Rattle.fd_table.specs.Held.{once_held}
use Rattle.fd_table.proofs.PairLemmas.{count_more}
use Rattle.fd_table.proofs.descriptions.Descriptions.add_pair.Goals as goal

pub overflow_add-result : goal.overflow_add-result
overflow_add-result c = omega (arith, lowest_free_count c.self.inside.counted, c.in_ok-id.ensures.id, rw (← c.self.view_is) at c.requires)

pub overflow_add-result-in-Ok : goal.overflow_add-result-in-Ok
overflow_add-result-in-Ok c =
    let more : count_by is_some c.add.new.self ≡ count_by is_some c.self.inside.counted + 1 = ap (count_by is_some) c.in_ok-id.ensures.ok ∙ count_more c.self.inside.counted (once_held c.args.first) in
    omega (arith, lowest_free_count c.add.new.self, more, c.in-Ok.ensures.id, rw (← c.self.view_is) at c.requires)

pub take_back-description-requires : goal.take_back-description-requires
take_back-description-requires c =
    ap (λ t. is_some (at_id t c.in_ok-id.id)) (c.in-Err.ensures.err ∙ c.in_ok-id.ensures.ok)
    ∙ ap (λ id. is_some (at_id (filled c.self.inside.counted (once_held c.args.first)) id)) c.in_ok-id.ensures.id
    ∙ ap is_some (at_filled c.self.inside.counted (once_held c.args.first))

pub returns-in-Err-clause-err : goal.returns-in-Err-clause-err
returns-in-Err-clause-err c =
    let back : c.take_back-description.new.self ≡ c.self.inside.counted =
    c.take_back-description.ensures.new
    ∙ ap (λ t. take c.places-places.result (without t c.in_ok-id.id)) (c.in-Err.ensures.err ∙ c.in_ok-id.ensures.ok)
    ∙ ap (λ n. take n (without (filled c.self.inside.counted (once_held c.args.first)) c.in_ok-id.id)) c.places-places.ensures.value
    ∙ ap (λ id. take (length c.self.inside.counted) (without (filled c.self.inside.counted (once_held c.args.first)) id)) c.in_ok-id.ensures.id
    ∙ undone c.self.inside.counted (once_held c.args.first) in
    rw back c.self.view_is
