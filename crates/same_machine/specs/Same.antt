-- The one-node machine of the program, seen as the one of the laws.
use Rattle.std.specs.Prelude.{◌≡◌, ℕ, List, map, reverse}
use Rattle.std.specs.Option.{option_map}
use Rattle.call_table.specs.declared.process.Reply3.{Reply3}
use Rattle.kernel_spec.specs.Pids.{at_pid}
use Rattle.one_node.specs.declared.step.Setup.{Setup}
use Rattle.one_node.specs.declared.step.Step.{Step as OneStep}
use Rattle.one_node.specs.declared.step.Step.TheVariants as one
use Rattle.one_node.specs.Machine.{MachineState as OneState, play as play_one}
use Rattle.run_laws.specs.Machine.{ReplyGiven, Step, Launch, Raise, Feed, Eof, Advance, Do, Break, Take, Fall, MachineState, play}
use Rattle.node_machine.specs.Plan.{Plan, texts}
use Rattle.node_machine.specs.Machine.{Policy, machine}

-- the same step
abbrev pub step_of : OneStep → Step
step_of (one.Launch i) = Launch i
step_of (one.Raise pid signal) = Raise pid signal
step_of (one.Feed i) = Feed i
step_of one.Eof = Eof
step_of (one.Steps pid k) = Advance pid k
step_of (one.Do pid) = Do pid
step_of (one.Break pid) = Break pid
step_of (one.Take pid) = Take pid
step_of (one.Fall pid) = Fall pid

-- what a plan hands to the machine
abbrev pub setup_of : Plan → Setup
setup_of plan = record { users = plan.users; feeds = texts plan.script }

abbrev pub reply_of : Reply3 → ReplyGiven
reply_of r = record { pid = r.pid; number = r.number; value = r.value }

-- the replies stand the newest first
abbrev pub replies_of : List Reply3 → List ReplyGiven
replies_of replies = map reply_of (reverse replies)

-- the same kernel, the user state of each pid, and the same replies
abbrev pub seen_as : (policy : Policy) (plan : Plan) → OneState → MachineState (machine policy plan)
seen_as policy plan m = record { kernel = m.kernel; users = λ pid. at_pid m.users pid; replies = replies_of m.replies }

-- the same steps give the same states, and none in the same places
abbrev pub PlaysSame : Policy → Plan → Type 0
PlaysSame policy plan = (steps : List OneStep) → play (machine policy plan) (map step_of steps) ≡ option_map (seen_as policy plan) (play_one (setup_of plan) steps)
