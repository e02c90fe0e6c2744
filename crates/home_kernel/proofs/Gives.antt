-- How many pids were given after a call that was served.
use Rattle.std.proofs.Common.{◌≡◌, ℕ, Some, ap, subst}
use Rattle.call_table.specs.declared.request.Request.{Request}
use Rattle.kernel_spec.specs.Kernel.{KernelState, given}
use Rattle.kernel_spec.specs.Calls.{GivesPids, call_result}
use Rattle.kernel_spec.proofs.GivenLemmas.{call_gives}
use Rattle.home_kernel.specs.Serving.{Serves, GivesAfter}
use Rattle.home_kernel.specs.declared.answers.Served.{Served}
use Rattle.home_kernel.specs.declared.answers.Served.TheVariants.{Blocks, Done}

pub served_gives : (served : Served) (k new : KernelState) (pid : ℕ) (asked : Request) → Serves served (call_result k pid asked) k new → GivesAfter served (given k) (given new)
served_gives Blocks k new pid asked h = ap given h.1
served_gives (Done answer raised) k new pid asked h = subst (λ c. GivesPids c (given k)) h (call_gives k pid asked)
