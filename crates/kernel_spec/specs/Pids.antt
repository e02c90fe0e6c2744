-- Lists by pid: the first process has pid 1, and pid 0 is none.
use Rattle.std.specs.Prelude.{ℕ, zero, suc, List, Option, Some, None, slice_get, slice_set}
use Rattle.std.specs.Option.{option_map}

module _ {A : Type 0} where
  -- what stands for a pid
  abbrev pub at_pid : List A → ℕ → Option A
  at_pid xs zero = None
  at_pid xs (suc i) = slice_get xs i

  -- another in its place
  abbrev pub set_pid : List A → ℕ → A → List A
  set_pid xs zero x = xs
  set_pid xs (suc i) x = slice_set xs i x

  abbrev pub replaced_pid : List A → ℕ → Option A → List A
  replaced_pid xs pid None = xs
  replaced_pid xs pid (Some x) = set_pid xs pid x

  -- what stands for a pid changed, where something does
  abbrev pub changed_pid : (A → A) → List A → ℕ → List A
  changed_pid change xs pid = replaced_pid xs pid (option_map change (at_pid xs pid))
