use Rattle.std.proofs.Common.{◌≡◌, ◌-◌, take}
use Rattle.page_set.specs.Pages.{bytes_at, behind}
use Rattle.page_set.specs.Tree.{pages_of}
use Rattle.page_set.proofs.access.read_wrapping.Given as goal

-- what is read so far, and what is left
abbrev pub invariant-loop-i : goal.invariant-loop-i
invariant-loop-i l = bytes_at (pages_of l.leaves.items) l.right l.addr l.i-end ≡ behind (take l.i l.into) (bytes_at (pages_of l.leaves.items) l.right l.at (l.i-end - l.i))
