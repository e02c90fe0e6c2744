-- One process.
use Rattle.std.specs.Prelude.{ℕ, Bool, true, false, ◌&&◌, ◌==◌, cond, Option, Some, None}
use Rattle.call_table.specs.declared.process.End.{End}
use Rattle.proc_tree.specs.declared.process.State.{State}
use Rattle.proc_tree.specs.declared.process.State.TheVariants.{Live, Zombie, Gone}
use Rattle.proc_tree.specs.declared.process.Process.{Process}

abbrev pub is_live_state : State → Bool
is_live_state Live = true
is_live_state (Zombie status) = false
is_live_state (Gone status) = false

abbrev pub is_zombie_state : State → Bool
is_zombie_state Live = false
is_zombie_state (Zombie status) = true
is_zombie_state (Gone status) = false

abbrev pub is_present_state : State → Bool
is_present_state Live = true
is_present_state (Zombie status) = true
is_present_state (Gone status) = false

abbrev pub is_live : Process → Bool
is_live process = is_live_state process.state

abbrev pub is_zombie : Process → Bool
is_zombie process = is_zombie_state process.state

-- live or a zombie
abbrev pub is_present : Process → Bool
is_present process = is_present_state process.state

abbrev pub is_child_of : ℕ → Process → Bool
is_child_of pid process = process.parent == pid && is_present process

abbrev pub is_zombie_of : ℕ → Process → Bool
is_zombie_of pid process = process.parent == pid && is_zombie process

abbrev pub end_of_state : State → Option End
end_of_state Live = None
end_of_state (Zombie status) = Some status
end_of_state (Gone status) = Some status

abbrev pub end_of : Process → Option End
end_of process = end_of_state process.state

-- a child whose parent ended: a live one has no parent then, a zombie goes
abbrev pub orphaned : State → ℕ → Process
orphaned Live parent = record { parent = 0; state = Live }
orphaned (Zombie status) parent = record { parent = parent; state = Gone status }
orphaned (Gone status) parent = record { parent = parent; state = Gone status }

-- what the end of pid makes of a process
abbrev pub parted_from : ℕ → Process → Process
parted_from pid process = cond (process.parent == pid) (orphaned process.state process.parent) process

abbrev pub in_state : State → Process → Process
in_state state process = record { parent = process.parent; state = state }

-- a process that ends is a zombie where its parent lives, else gone
abbrev pub end_state : Bool → End → State
end_state true status = Zombie status
end_state false status = Gone status

-- a zombie that is waited for is gone
abbrev pub reaped_state : State → State
reaped_state Live = Live
reaped_state (Zombie status) = Gone status
reaped_state (Gone status) = Gone status

abbrev pub reaped_process : Process → Process
reaped_process process = in_state (reaped_state process.state) process
