-- The nodes of a half.
use Rattle.std.proofs.Common.{◌≡◌, ℕ, ◌&&◌, List, [], ◌∷◌, Option, refl, sym, ap, ◌∙◌}
use Rattle.std.proofs.lemmas.List.Folds.{list_all-append}
use Rattle.std.specs.Prelude.{nat_lt}
use Rattle.std.specs.List.{flat_map, list_all}
use Rattle.call_table.specs.declared.process.Entry.{Entry}
use Rattle.call_forward.specs.Messages.{node_of_entry, are_below}

pub places_below : (n : ℕ) (places : List (Option Entry)) → list_all (λ entry. are_below n (node_of_entry entry)) places ≡ are_below n (flat_map node_of_entry places)
places_below n [] = refl
places_below n (entry ∷ places) =
    ap (λ b. are_below n (node_of_entry entry) && b) (places_below n places)
    ∙ sym (list_all-append (λ node. nat_lt node n) (node_of_entry entry) (flat_map node_of_entry places))
