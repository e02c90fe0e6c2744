-- What holds of every home.
use Rattle.std.specs.Prelude.{◌≡◌, ℕ, ◌==◌, Bool, true, false, Option, Some, None, List, length}
use Rattle.call_table.specs.declared.request.Request.{Request}
use Rattle.kernel_spec.specs.Kernel.{KernelState, given, is_live}
use Rattle.deputy.specs.declared.row.Row.{Row}
use Rattle.deputy.specs.declared.row.HeldCall.{HeldCall}
use Rattle.deputy.specs.Rows.{held_at}
use Rattle.user_spec.specs.Fits.{fits_request}
use Rattle.deputy.specs.Calls.{next_ready}

-- a call waits of a live process alone, and it is no fault
pub record CanWait (k : KernelState) (pid : ℕ) (r : Request) : Type 0 where
  pub live : is_live k pid ≡ true
  pub call : (r.number == 0) ≡ false
  pub fits : fits_request r ≡ true

-- each pid that was given has a row; `settled` says that no call that waits can go on
pub record IsHome (k : KernelState) (rows : List Row) (settled : Bool) : Type 0 where
  pub each : length rows ≡ given k
  pub held : (pid : ℕ) (call : HeldCall) → held_at rows pid ≡ Some call → CanWait k pid call.request
  pub rests : settled ≡ true → next_ready (record { kernel = k; rows = rows }) ≡ None
