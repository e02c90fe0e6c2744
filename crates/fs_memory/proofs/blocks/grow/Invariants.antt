use Rattle.std.proofs.Common.{◌-◌, vec_len}
use Rattle.fs_memory.specs.Blocks.{IsGrown}
use Rattle.fs_memory.proofs.blocks.grow.Given as goal

abbrev pub invariant-growing : goal.invariant-growing
invariant-growing l = IsGrown l.initial.blocks.items l.blocks.items

abbrev pub decreases-growing : goal.decreases-growing
decreases-growing l = l.count - vec_len l.blocks
