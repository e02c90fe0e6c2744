-- Places past the first two.
use Rattle.std.proofs.Common.{◌≡◌, ℕ, zero, suc, ◌-◌, ◌≤◌, ◌∷◌, set, Option, ap, arith}
use Rattle.id_table.specs.Places.{at_id}
use Rattle.fd_table.specs.declared.description.Description.{Description}
use Rattle.fd_table.specs.Held.{HeldList}

pub at_past_two : (a b : Option Description) (rest : HeldList) (id : ℕ) → 2 ≤ id → at_id (a ∷ b ∷ rest) id ≡ at_id rest (id - 2)
at_past_two a b rest zero h = absurd (omega arith)
at_past_two a b rest (suc zero) h = absurd (omega arith)
at_past_two a b rest (suc (suc id)) h = ap (at_id rest) (omega arith)

pub set_past_two : (a b slot : Option Description) (rest : HeldList) (id : ℕ) → 2 ≤ id → set (a ∷ b ∷ rest) id slot ≡ a ∷ b ∷ set rest (id - 2) slot
set_past_two a b slot rest zero h = absurd (omega arith)
set_past_two a b slot rest (suc zero) h = absurd (omega arith)
set_past_two a b slot rest (suc (suc id)) h = ap (λ k. a ∷ b ∷ set rest k slot) (omega arith)
