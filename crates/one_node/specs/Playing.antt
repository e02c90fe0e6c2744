-- What playing a list of steps tells.
use Rattle.std.specs.Prelude.{◌≡◌, ℕ, ◌-◌, ◌^◌, List, Option, Some, None, slice_get, take, min}
use Rattle.fs_memory.specs.Files.{named_files}
use Rattle.one_node.specs.Machine.{MachineState, machine_step, played, start, statuses}
use Rattle.one_node.specs.declared.step.Setup.{Setup}
use Rattle.one_node.specs.declared.step.Step.{Step}
use Rattle.one_node.specs.declared.home.Outcome.{Outcome}
use Rattle.one_node.specs.declared.play.PlayFault.{PlayFault}
use Rattle.one_node.specs.declared.play.PlayFault.TheVariants.{NotEnabled, NoMemory}

-- what is told of a state
pub record Tells (o : Outcome) (m : MachineState) : Type 0 where
  pub statuses_are : o.statuses ≡ statuses m
  pub terminal_is : o.terminal ≡ m.kernel.terminal
  pub files_are : o.files ≡ named_files m.kernel.io.files
  pub replies_are : o.replies ≡ m.replies

abbrev pub IsOutcomeOf : Outcome → Option MachineState → Type 0
IsOutcomeOf o None = ⊥
IsOutcomeOf o (Some m) = Tells o m

-- the steps before one are played, and its condition fails after them
pub record IsRefusedAt (setup : Setup) (steps : List Step) (at : ℕ) : Type 0 where
  pub m : MachineState
  pub step : Step
  pub before : played setup (take at steps) start ≡ Some m
  pub here : slice_get steps at ≡ Some step
  pub refused : machine_step setup step m ≡ None

-- the first step that is refused, where a number can say it
abbrev pub Fails : PlayFault → Setup → List Step → Type 0
Fails (NotEnabled at) setup steps = (i : ℕ) × IsRefusedAt setup steps i × (at ≡ min i (2 ^ 32 - 1))
Fails NoMemory setup steps = Unit {0}
