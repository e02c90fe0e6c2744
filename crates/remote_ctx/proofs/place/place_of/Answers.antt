use Rattle.std.proofs.Common.{rules}
use Rattle.std.proofs.lemmas.List.Sorted.{answers_always}
use Rattle.remote_ctx.specs.declared.context.Context.{Context}
use Rattle.remote_ctx.proofs.Kept.{searched_pids}
use Rattle.remote_ctx.proofs.place.place_of.Goals as goal

pub returns : goal.returns
returns c =
    let facts = c.binary_search_by_key.ensures in
    let by_key = facts.position (λ (x : Context). x.pid) (answers_always _ _ _ (λ f a r g called. search rules)) in
    searched_pids _ c.requires c.args.pid _ facts.bound by_key
