-- Instructions made ready.
use Rattle.std.proofs.Common.{◌≡◌, ℕ, Bool, true, false, refl, ap}
use Rattle.user_spec.specs.Words.{sum_of}
use Rattle.user_spec.specs.Instruction.{branch, jump, sets}
use Rattle.user_spec.specs.declared.effect.Effect.TheVariants as effect
use Rattle.user_ctx.specs.declared.op.Work.TheVariants as work
use Rattle.user_ctx.specs.Ops.{goes, IsWork, IsTarget, place_at}

taken : (rd value at distance to : ℕ) → IsTarget at distance to → jump rd value (sum_of at distance) ≡ effect.Sets rd value (place_at at to)
taken rd value at distance to t = rw t.aligned (ap (effect.Sets rd value) t.place)

pub jump_op : (value at distance to : ℕ) → IsTarget at distance to → IsWork (work.Goes to) at (jump 0 value (sum_of at distance))
jump_op value at distance to t = record { value = value; is = taken 0 value at distance to t }

pub branch_op : (test : Bool) (at distance to : ℕ) → IsTarget at distance to → IsWork (goes test to) at (branch test at distance)
branch_op true at distance to t = jump_op 0 at distance to t
branch_op false at distance to t = record { value = 0; is = refl }

pub link_op : (rd at distance to : ℕ) → IsTarget at distance to → IsWork (work.Links rd to) at (jump rd (sum_of at 4) (sum_of at distance))
link_op rd at distance to t = taken rd (sum_of at 4) at distance to t

pub nop_op : (rd value at : ℕ) → rd ≡ 0 → IsWork work.Falls at (sets rd value at)
nop_op rd value at e = record { value = value; is = ap (λ r. effect.Sets r value (sum_of at 4)) e }

pub leap_op : (rd value at target : ℕ) → rd ≡ 0 → IsWork (work.Leaps target) at (jump rd value target)
leap_op rd value at target e = record { value = value; is = ap (λ r. jump r value target) e }
