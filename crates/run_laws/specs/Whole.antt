-- What holds of a whole run. The events stand the newest first.
use Rattle.std.specs.Prelude.{◌≡◌, ℕ, ◌≤◌, Some, List}
use Rattle.protocol.specs.Ops.{Ops}
use Rattle.protocol.specs.Deeds.{Noted}
use Rattle.protocol.specs.Notes.{Body, Running, context}
use Rattle.protocol.specs.Cluster.{World}
use Rattle.run_laws.specs.Machine.{MachineState, play}
use Rattle.run_laws.specs.Schedule.{schedule, told}
use Rattle.run_laws.specs.Lawful.{Lawful}
use Rattle.run_laws.specs.SilentLaw.{SilentLaw}
use Rattle.run_laws.specs.Honest.{HonestLaw}
use Rattle.run_laws.specs.OnePlace.{OnePlace}
use Rattle.run_laws.specs.Outcomes.{outcomes}
use Rattle.run_laws.specs.MoveLines.{MoveLines}
use Rattle.run_laws.specs.AskLaw.{AskLaw}
use Rattle.run_laws.specs.LandingLaw.{LandingLaw}
use Rattle.run_laws.specs.Grounds.{Grounded}
use Rattle.run_laws.specs.Owned.{Owned}

module _ (O : Ops) where
  -- the one-node machine that plays the events has home's kernel, the user state of each running context, and the replies
  pub record Replays (es : List Noted) (w : World O) : Type 0 where
    pub machine : MachineState O
    pub plays : play O (schedule es) ≡ Some machine
    pub kernel : (w.nodes 0).kernel ≡ machine.kernel
    pub users : (n p : ℕ) (b : Body O) → ((w.nodes n).slots p).context ≡ Some (context O b Running) → machine.users p ≡ Some b.user
    pub replies : told es ≡ machine.replies

  pub record Holds (es : List Noted) (w : World O) : Type 0 where
    pub replays : Replays es w
    pub lawful : Lawful O es
    pub silent : SilentLaw O es
    pub honest : HonestLaw O es
    pub one_place : OnePlace O es
    pub grounded : Grounded O es
    pub move_lines : MoveLines O es
    pub asking : AskLaw es
    pub landings : LandingLaw es
    pub owned : Owned O es w replays.machine
    pub one_outcome : (line : ℕ) → outcomes line es ≤ 1
