-- What the parts of a served call tell.
use Rattle.std.specs.Prelude.{◌≡◌, ℕ, Option, Some, None}
use Rattle.home_kernel.specs.declared.kernel.Took.{Took}
use Rattle.kernel_spec.specs.Kernel.{KernelState}
use Rattle.deputy.specs.declared.outcome.Outcome.{Outcome}
use Rattle.deputy.specs.Calls.{First, Last}

abbrev pub first_with : KernelState → Outcome → First
first_with k outcome = record { kernel = k; way = outcome.way; answer = outcome.answer; raised = outcome.raised }

abbrev pub last_with : KernelState → Took → Last
last_with k took = record { kernel = k; taken = took.taken; raised = took.raised }

-- a call is to wait and nothing changes, or this is what it came to
abbrev pub ComesTo : Option Outcome → Option First → KernelState → KernelState → Type 0
ComesTo None first old new = (first ≡ None) × (new ≡ old)
ComesTo (Some outcome) first old new = first ≡ Some (first_with new outcome)
