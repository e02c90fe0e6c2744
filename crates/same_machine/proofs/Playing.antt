-- All steps give the same in both machines.
use Rattle.std.proofs.Common.{◌≡◌, ℕ, zero, suc, Option, Some, None, List, [], ◌∷◌, map, refl, ap, ◌∙◌}
use Rattle.std.specs.Prelude.{option_and_then}
use Rattle.std.specs.Option.{option_map}
use Rattle.one_node.specs.declared.step.Step.{Step as OneStep}
use Rattle.one_node.specs.declared.step.Step.TheVariants as one
use Rattle.one_node.specs.Machine.{MachineState as OneState, start, played, and_then, machine_step as one_step}
use Rattle.run_laws.specs.Machine.{MachineState, empty, machine_step, machine_steps}
use Rattle.node_machine.specs.Plan.{Plan}
use Rattle.node_machine.specs.Machine.{Policy, machine}
use Rattle.same_machine.specs.Same.{step_of, setup_of, seen_as, PlaysSame}
use Rattle.same_machine.proofs.Steps.{Counted, AllCounted, Joined, launch_same, raise_same, feed_same, eof_same, steps_same, do_same, break_same, take_same, fall_same}

module _ (policy : Policy) (plan : Plan) where
  step_same : (m : OneState) → Counted m → (s : OneStep) → Joined policy plan (machine_step (machine policy plan) (step_of s) (seen_as policy plan m)) (one_step (setup_of plan) s m)
  step_same m counted (one.Launch i) = launch_same policy plan m counted i
  step_same m counted (one.Raise p s) = raise_same policy plan m counted p s
  step_same m counted (one.Feed i) = feed_same policy plan m counted i
  step_same m counted one.Eof = eof_same policy plan m counted
  step_same m counted (one.Steps p k) = steps_same policy plan m counted p k
  step_same m counted (one.Do p) = do_same policy plan m counted p
  step_same m counted (one.Break p) = break_same policy plan m counted p
  step_same m counted (one.Take p) = take_same policy plan m counted p
  step_same m counted (one.Fall p) = fall_same policy plan m counted p

  steps_from : (m : OneState) → Counted m → (steps : List OneStep) → machine_steps (machine policy plan) (map step_of steps) (seen_as policy plan m) ≡ option_map (seen_as policy plan) (played (setup_of plan) steps m)
  steps_from m counted [] = refl
  steps_from m counted (s ∷ steps) =
      let j = step_same m counted s in
      ap (option_and_then (machine_steps (machine policy plan) (map step_of steps))) j.same ∙ go (one_step (setup_of plan) s m) j.counted (λ n c. steps_from n c steps)
    where
      go : (o : Option OneState) → AllCounted o → ((n : OneState) → Counted n → machine_steps (machine policy plan) (map step_of steps) (seen_as policy plan n) ≡ option_map (seen_as policy plan) (played (setup_of plan) steps n)) → option_and_then (machine_steps (machine policy plan) (map step_of steps)) (option_map (seen_as policy plan) o) ≡ option_map (seen_as policy plan) (and_then o (played (setup_of plan) steps))
      go None c further = refl
      go (Some n) c further = further n c

  empty_same : empty (machine policy plan) ≡ seen_as policy plan start
  empty_same = λ i. record { kernel = start.kernel; users = λ q. none q i; replies = [] }
    where
      none : (q : ℕ) → None ≡ Rattle.kernel_spec.specs.Pids.at_pid start.users q
      none zero = refl
      none (suc q) = refl

  pub plays_same : PlaysSame policy plan
  plays_same steps = ap (machine_steps (machine policy plan) (map step_of steps)) empty_same ∙ steps_from start refl steps
