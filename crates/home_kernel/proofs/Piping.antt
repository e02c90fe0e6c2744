-- A pipe that was made last is taken back.
use Rattle.std.proofs.Common.{◌≡◌, ℕ, nat_lt, cond, List, length, take, set, Option, Some, None, is_none, refl, sym, ap, ◌∙◌}
use Rattle.std.specs.List.{position_or_len}
use Rattle.std.proofs.lemmas.Option.{cond_some}
use Rattle.call_table.specs.declared.limit.TheConstants.{PIPES}
use Rattle.pipe_table.specs.Table.{free_id, created, pipe_count, with_pipe}
use Rattle.pipe_table.proofs.Places.{undone_pipe}

pub pipe_undone : (pipes made back : List (Option (List ℕ))) (id places : ℕ) → (Some id ≡ free_id pipes) × (made ≡ created pipes (Some id)) → places ≡ length pipes → back ≡ take places (set made id None) → back ≡ pipes
pipe_undone pipes made back id places h len is =
    let first : position_or_len is_none pipes ≡ id = (cond_some (nat_lt (pipe_count pipes) PIPES) (position_or_len is_none pipes) id (sym h.0)).1 in
    is ∙ ap (λ n. take n (set made id None)) len ∙ ap (λ m. take (length pipes) (set m id None)) h.1
    ∙ ap (λ i. take (length pipes) (set (with_pipe pipes) i None)) (sym first) ∙ undone_pipe pipes
