use Rattle.std.proofs.Common.{◌≡◌, ◌≤◌, List, ℕ, length, arith, sym, ap, ◌∙◌}
use Rattle.std.proofs.lemmas.List.Sums.{prefix_len-le-length}
use Rattle.std.specs.List.{prefix_len, insert}
use Rattle.call_table.specs.declared.files.Named.{Named}
use Rattle.fs_memory.specs.Files.{comes_before}
use Rattle.fs_memory.proofs.SearchLemmas.{insert_is}
use Rattle.fs_memory.proofs.search.insert_named.Goals as goal

pub insert-requires : goal.insert-requires
insert-requires c =
    let place : c.place_in-place.result ≡ prefix_len (comes_before c.args.named.name) c.args.list.now.items = c.place_in-place.ensures ∙ ap (λ (name : List ℕ). prefix_len (comes_before name) c.deref.result.now) c.as_slice.ensures ∙ ap (λ (xs : List Named). prefix_len (comes_before c.args.named.name) xs) c.deref.ensures.value in
    omega (arith, prefix_len-le-length (comes_before c.args.named.name) c.args.list.now.items)

pub returns : goal.returns
returns c =
    let place : c.place_in-place.result ≡ prefix_len (comes_before c.args.named.name) c.args.list.now.items = c.place_in-place.ensures ∙ ap (λ (name : List ℕ). prefix_len (comes_before name) c.deref.result.now) c.as_slice.ensures ∙ ap (λ (xs : List Named). prefix_len (comes_before c.args.named.name) xs) c.deref.ensures.value in
    c.in_ok-insert.ensures.items ∙ ap (λ n. insert c.args.list.now.items n c.args.named) place ∙ insert_is c.args.named c.args.list.now.items
