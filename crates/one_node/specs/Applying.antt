-- What the answer of a step tells.
use Rattle.std.specs.Prelude.{◌≡◌, ℕ, Option, Some, None}
use Rattle.std.specs.Option.{option_and_then}
use Rattle.call_table.specs.declared.request.Request.{Request}
use Rattle.user_spec.specs.User.{UserState}
use Rattle.kernel_spec.specs.Kernel.{KernelState, Called, AfterTake, raised_by_end, take_result}
use Rattle.kernel_spec.specs.Processes.{heeding}
use Rattle.kernel_spec.specs.Calls.{call_result}
use Rattle.one_node.specs.Machine.{MachineState, live_user, asked_of, has_room_at, value_gained}
use Rattle.one_node.specs.declared.home.Applied.{Applied}
use Rattle.one_node.specs.declared.home.Applied.TheVariants.{Not, Did}
use Rattle.one_node.specs.declared.step.Step.{Step}
use Rattle.one_node.specs.declared.step.Step.TheVariants as step

-- ---- the live process at which a step raises a signal that it does not ignore, other than the one whose call, signal or fault it is

abbrev pub raised_in_call : Option Called → Option ℕ
raised_in_call None = None
raised_in_call (Some called) = called.raised

abbrev pub raised_by_asked : KernelState → ℕ → Option Request → Option ℕ
raised_by_asked k pid None = None
raised_by_asked k pid (Some asked) = raised_in_call (call_result k pid asked)

abbrev pub raised_by_call : MachineState → ℕ → Option ℕ
raised_by_call m pid = raised_by_asked m.kernel pid (option_and_then asked_of (live_user m pid))

abbrev pub raised_in_take : Option AfterTake → Option ℕ
raised_in_take None = None
raised_in_take (Some after) = after.raised

abbrev pub raised_by_taken : KernelState → ℕ → Option UserState → Option ℕ
raised_by_taken k pid None = None
raised_by_taken k pid (Some u) = raised_in_take (take_result k pid (has_room_at u))

abbrev pub raised_by_take : MachineState → ℕ → Option ℕ
raised_by_take m pid = raised_by_taken m.kernel pid (live_user m pid)

abbrev pub raised_by : Step → MachineState → Option ℕ
raised_by (step.Launch i) m = None
raised_by (step.Raise pid signal) m = heeding m.kernel.processes pid signal
raised_by (step.Feed i) m = None
raised_by step.Eof m = None
raised_by (step.Steps pid k) m = None
raised_by (step.Do pid) m = raised_by_call m pid
raised_by (step.Break pid) m = None
raised_by (step.Take pid) m = raised_by_take m pid
raised_by (step.Fall pid) m = raised_by_end m.kernel pid

-- ---- a step is not enabled, or this is the state after it, with the process at which it raised a signal and the value that the replies gained

abbrev pub AppliedAs : Applied → Option MachineState → Option ℕ → MachineState → MachineState → Type 0
AppliedAs Not outcome at old new = outcome ≡ None
AppliedAs (Did raised reply) outcome at old new = (outcome ≡ Some new) × (raised ≡ at) × (reply ≡ value_gained old new)
