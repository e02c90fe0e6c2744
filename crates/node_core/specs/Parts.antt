-- What the parts of a node do in a turn, and what does not fit.
use Rattle.std.specs.Prelude.{◌≡◌, ℕ, nat_le, ◌&&◌, ◌==◌, not, Bool, false, Option, Some, None, List}
use Rattle.call_forward.specs.declared.acted.Acted.{Acted}
use Rattle.node_event.specs.declared.event.What.TheVariants as what
use Rattle.kernel_spec.specs.Kernel.{KernelState, given}
use Rattle.remote_ctx.specs.declared.context.Context as code_context
use Rattle.deputy.specs.Calls.{Turned}
use Rattle.node_core.specs.declared.node.Node.{Node}

-- home's part changes alone
pub record OnHome (turned : Turned) (acted : Acted) (old mid : Node) : Type 0 where
  pub is : turned ≡ record { home = mid.deputies; acted = acted }
  pub rest : mid ≡ record old { deputies = mid.deputies }

-- the contexts change alone
pub record OnHosted (Does : List code_context.Context → List code_context.Context → Type 0) (old mid : Node) : Type 0 where
  pub does : Does old.hosted mid.hosted
  pub rest : mid ≡ record old { hosted = mid.hosted }

-- what does not fit changes nothing
pub record IsStrange (acted : Acted) (old mid : Node) : Type 0 where
  pub what : acted.what ≡ what.Strange
  pub same : mid ≡ old

-- something is said, and nothing changes
pub record Says (said : Acted) (acted : Acted) (old mid : Node) : Type 0 where
  pub acted_is : acted ≡ said
  pub same : mid ≡ old

-- at home, a pid that was never given
abbrev pub is_stray_pid : KernelState → Option ℕ → Bool
is_stray_pid k None = false
is_stray_pid k (Some child) = not (nat_le 1 child && nat_le child (given k))

abbrev pub is_stray : Node → Option ℕ → Bool
is_stray n child = (n.id == 0) && is_stray_pid n.deputies.kernel child
