-- A step over the pids of those that are live or zombies.
use Rattle.std.specs.Prelude.{ℕ, List, [], ◌∷◌}
use Rattle.proc_tree.specs.declared.process.Process.{Process}
use Rattle.proc_tree.specs.Processes.{parted_from}
use Rattle.proc_tree.specs.Tree.{changed_pid}

-- each of the named processes is parted from pid
abbrev pub parted_each : ℕ → List Process → List ℕ → List Process
parted_each pid tree [] = tree
parted_each pid tree (child ∷ rest) = parted_each pid (changed_pid (parted_from pid) tree child) rest
