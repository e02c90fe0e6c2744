-- Calls that end where the process runs.
use Rattle.std.specs.Prelude.{ℕ, ◌≡◌, ◌≢◌, Bool, true, false, Option, Some, None}
use Rattle.call_table.specs.declared.request.Request.{Request}
use Rattle.user_spec.specs.User.{UserState}
use Rattle.user_spec.specs.Request.{is_break, break_maps, is_local_call, local_call, with_value, call_request}
use Rattle.user_spec.specs.Advance.{Went, Done, AtCall, Faults, advance}
use Rattle.call_table.specs.declared.signal.TheConstants.{SIGSEGV}
use Rattle.user_spec.specs.declared.effect.Effect.{Effect}
use Rattle.user_spec.specs.declared.effect.Effect.TheVariants.{Sets, Loads, Stores, Calls, Raises}
use Rattle.user_ctx.specs.declared.plan.Plan.{Plan}
use Rattle.user_ctx.specs.declared.plan.Plan.TheVariants.{Refused, Fits, Maps}

-- what a break does
abbrev pub IsPlan : Plan → UserState → ℕ → Type 0
IsPlan Refused u a = is_break u a ≡ false
IsPlan Fits u a = (is_break u a ≡ true) × (break_maps u a ≡ false)
IsPlan Maps u a = (is_break u a ≡ true) × (break_maps u a ≡ true)

-- ---- a call that is no brk and ends where the process runs, and one that does not

abbrev pub IsLocal : Option ℕ → UserState → Type 0
IsLocal None u = is_local_call u ≡ false
IsLocal (Some value) u = (is_local_call u ≡ true) × (local_call u ≡ with_value u value)

-- ---- what a process asks

-- the signal of an instruction that does not go, none where it is a call
abbrev pub signal_of : Effect → Option ℕ
signal_of Calls = None
signal_of (Raises signal) = Some signal
signal_of (Loads rd addr form) = Some SIGSEGV
signal_of (Stores addr value width) = Some SIGSEGV
signal_of (Sets rd value next) = Some SIGSEGV

-- at a fault of this signal, or at a forwarded call
abbrev pub AsksBy : Option ℕ → UserState → Type 0
AsksBy None u = advance u ≡ AtCall
AsksBy (Some signal) u = advance u ≡ Faults signal

-- an environment call
abbrev pub is_calling : Effect → Bool
is_calling Calls = true
is_calling (Raises signal) = false
is_calling (Loads rd addr form) = false
is_calling (Stores addr value width) = false
is_calling (Sets rd value next) = false

abbrev pub is_at : Went → Bool
is_at AtCall = true
is_at (Done v) = false
is_at (Faults signal) = false

-- at a forwarded call this request, none where it is at no such call
abbrev pub AsksCall : Option Request → UserState → Type 0
AsksCall None u = advance u ≢ AtCall
AsksCall (Some asked) u = (advance u ≡ AtCall) × (asked ≡ call_request u)
