-- One step more.
use Rattle.std.proofs.Common.{◌≡◌, ℕ, zero, suc, ◌+◌, ◌<◌, List, [], ◌∷◌, ◌++◌, length, take, drop, get_or, slice_get, refl, ap, ◌∙◌, sym, arith, Option, Some, None, ℤ}
use Rattle.std.proofs.lemmas.List.{take_more, drop_more}
use Rattle.one_node.specs.declared.step.Setup.{Setup}
use Rattle.one_node.specs.Machine.{MachineState, start, played, and_then, machine_step}
use Rattle.one_node.specs.declared.step.Step.{Step}
use Rattle.one_node.specs.declared.home.Applied.{Applied}
use Rattle.one_node.specs.declared.home.Applied.TheVariants.{Not, Did}
use Rattle.one_node.specs.Applying.{AppliedAs}
use Rattle.one_node.specs.Playing.{IsRefusedAt}

and_then-assoc : (o : Option MachineState) (f g : MachineState → Option MachineState) → and_then (and_then o f) g ≡ and_then o (λ m. and_then (f m) g)
and_then-assoc None f g = refl
and_then-assoc (Some m) f g = refl

played-append : (setup : Setup) (a b : List Step) (m : MachineState) → played setup (a ++ b) m ≡ and_then (played setup a m) (played setup b)
played-append setup [] b m = refl
played-append setup (s ∷ a) b m =
    (λ i. and_then (machine_step setup s m) (λ n. played-append setup a b n i)) ∙ sym (and_then-assoc (machine_step setup s m) (played setup a) (played setup b))

get_next : {A : Type 0} (xs : List A) (i : ℕ) (d : A) → i < length xs → slice_get xs i ≡ Some (get_or xs i d)
get_next [] i d h = absurd (omega (arith, h))
get_next (x ∷ xs) zero d h = refl
get_next (x ∷ xs) (suc i) d h = get_next xs i d (omega (arith, h))

pub step_before : (setup : Setup) (steps : List Step) (at : ℕ) (d : Step) (m n : MachineState) → at < length steps → played setup (take at steps) start ≡ Some m → machine_step setup (get_or steps at d) m ≡ Some n
    → played setup (take (at + 1) steps) start ≡ Some n
step_before setup steps at d m n lt before step =
    ap (λ xs. played setup xs start) (take_more steps at d lt)
    ∙ played-append setup (take at steps) (get_or steps at d ∷ []) start
    ∙ ap (λ o. and_then o (played setup (get_or steps at d ∷ []))) before
    ∙ ap (λ o. and_then o (played setup [])) step

pub step_rest : (setup : Setup) (steps : List Step) (at : ℕ) (d : Step) (m n : MachineState) (all : Option MachineState) → at < length steps → all ≡ played setup (drop at steps) m → machine_step setup (get_or steps at d) m ≡ Some n
    → all ≡ played setup (drop (at + 1) steps) n
step_rest setup steps at d m n all lt rest step =
    rest ∙ ap (λ xs. played setup xs m) (drop_more steps at d lt) ∙ ap (λ o. and_then o (played setup (drop (at + 1) steps))) step

-- a step that was made, and one that was not
pub did_step : (a : Applied) (raised : Option ℕ) (reply : Option ℤ) (o : Option MachineState) (at : Option ℕ) (old new : MachineState) → a ≡ Did raised reply → AppliedAs a o at old new → o ≡ Some new
did_step (Did x y) raised reply o at old new e h = h.0
did_step Not raised reply o at old new e h = cc

pub not_step : (a : Applied) (o : Option MachineState) (at : Option ℕ) (old new : MachineState) → a ≡ Not → AppliedAs a o at old new → o ≡ None
not_step (Did x y) o at old new e h = cc
not_step Not o at old new e h = h

pub refused_at : (setup : Setup) (steps : List Step) (at : ℕ) (d : Step) (m : MachineState) → at < length steps → played setup (take at steps) start ≡ Some m → machine_step setup (get_or steps at d) m ≡ None → IsRefusedAt setup steps at
refused_at setup steps at d m lt before step = record { m = m; step = get_or steps at d; before = before; here = get_next steps at d lt; refused = step }
