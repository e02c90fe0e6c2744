-- Orders of the script, and what home hears of moves.
use Rattle.std.specs.Prelude.{◌≡◌, ℕ, ◌+◌, ◌^◌, ◌-◌, ◌&&◌, nat_lt, nat_le, min, if◌then◌else◌, is_some, is_none, Bool, true, false, Option, Some, None, List, [], ◌∷◌, ◌++◌}
use Rattle.std.specs.Option.{option_map}
use Rattle.node_event.specs.declared.event.What.{What}
use Rattle.node_event.specs.declared.event.What.TheVariants as what
use Rattle.node_event.specs.declared.event.Unsent.{Unsent}
use Rattle.node_event.specs.declared.event.Unsent.TheVariants as unsent
use Rattle.node_event.specs.declared.event.Refusal.{Refusal}
use Rattle.node_event.specs.declared.event.Refusal.TheVariants as refusal
use Rattle.call_forward.specs.declared.message.Message.{Message}
use Rattle.call_forward.specs.declared.message.Message.TheVariants as message
use Rattle.call_forward.specs.declared.acted.Acted.{Acted}
use Rattle.kernel_spec.specs.Pids.{changed_pid}
use Rattle.home_kernel.specs.Serving.{is_poked}
use Rattle.kernel_spec.specs.Kernel.{KernelState, given, is_live, has_room, with_process, with_raised, deliverable}
use Rattle.deputy.specs.declared.row.Row.{Row}
use Rattle.deputy.specs.declared.row.HeldCall.{HeldCall}
use Rattle.deputy.specs.Rows.{HomeState, held_at, served_at, place_at, hops_at, moved, new_row}
use Rattle.deputy.specs.Calls.{Turned, strange, poke_to, poke_mail, fits_call, may_ask}

-- ---- orders

-- the pid of one more process, none where there is no room
abbrev pub LaunchesAt : Option ℕ → HomeState → HomeState → Type 0
LaunchesAt None old new = (has_room old.kernel ≡ false) × (new ≡ old)
LaunchesAt (Some pid) old new =
    (has_room old.kernel ≡ true) × (new ≡ record { kernel = with_process old.kernel; rows = old.rows ++ new_row 0 ∷ [] }) × (pid ≡ given new.kernel)

-- an order: the process that is poked, and why nothing was sent
abbrev pub ordered : ℕ → Option Unsent → Option ℕ → What
ordered line why poked = what.Command line None why poked

-- a process that a signal counts at is poked where it can take one afterwards, and has no call that waits
abbrev pub kill_poke : KernelState → List Row → ℕ → ℕ → Option ℕ
kill_poke k rows pid signal =
    if is_poked k pid signal && is_none (held_at rows pid) then Some pid else None

abbrev pub kill_turn : HomeState → ℕ → ℕ → ℕ → Option ℕ → Turned
kill_turn h pid signal line poked = record {
  home = record h { kernel = with_raised h.kernel pid signal };
  acted = record { what = ordered line None poked; mail = poke_mail h.rows poked };
}

abbrev pub killed_in : HomeState → ℕ → ℕ → ℕ → Turned
killed_in h pid signal line = kill_turn h pid signal line (kill_poke h.kernel h.rows pid signal)

-- whether a pid was given
abbrev pub was_given : KernelState → ℕ → Bool
was_given k pid = nat_le 1 pid && nat_le pid (given k)

-- the order to move goes to the place where the process is believed to be, with the landings by which that was told
abbrev pub go_mail : List Row → ℕ → ℕ → ℕ → List (ℕ × Message)
go_mail rows pid to line = (place_at rows pid, message.Go pid to (hops_at rows pid) line) ∷ []

abbrev pub go_acted : HomeState → ℕ → ℕ → ℕ → Acted
go_acted h pid to line =
    if is_live h.kernel pid then record { what = ordered line None None; mail = go_mail h.rows pid to line } else
    (if was_given h.kernel pid then record { what = ordered line (Some unsent.Ended) None; mail = [] } else record { what = ordered line (Some unsent.Never) None; mail = [] })

abbrev pub went_in : HomeState → ℕ → ℕ → ℕ → Turned
went_in h pid to line = record { home = h; acted = go_acted h pid to line }

-- ---- what home hears

-- the place changes only to more landings
abbrev pub is_later : List Row → ℕ → ℕ → Bool
is_later rows pid hops = nat_lt (hops_at rows pid) hops

abbrev pub landed_rows : Bool → ℕ → ℕ → ℕ → List Row → List Row
landed_rows later at pid hops rows = if later then changed_pid (moved at hops) rows pid else rows

abbrev pub landed_place : Bool → ℕ → ℕ → List Row → ℕ
landed_place later at pid rows = if later then at else place_at rows pid

-- a process that lands is poked where it can take a signal
abbrev pub landed_poke : KernelState → ℕ → Option ℕ
landed_poke k pid = if is_some (deliverable k pid) then Some pid else None

abbrev pub told_turn : Bool → HomeState → ℕ → ℕ → ℕ → ℕ → Option ℕ → Turned
told_turn later h at pid source hops line = record {
  home = record h { rows = landed_rows later at pid hops h.rows };
  acted = record {
    what = what.Told pid at source hops line (landed_poke h.kernel pid);
    mail = poke_to (landed_place later at pid h.rows) (landed_poke h.kernel pid);
  };
}

abbrev pub landed_in : HomeState → ℕ → ℕ → ℕ → ℕ → Option ℕ → Turned
landed_in h at pid source hops line = if was_given h.kernel pid then told_turn (is_later h.rows pid hops) h at pid source hops line else strange h

-- an order that missed its process goes out again where more landings were told than it knew of
abbrev pub missed_acted : HomeState → ℕ → ℕ → ℕ → ℕ → Acted
missed_acted h pid to hops line =
    if is_live h.kernel pid
    then (if nat_lt hops (hops_at h.rows pid)
    then record { what = what.Again pid to (place_at h.rows pid) line; mail = go_mail h.rows pid to line }
    else record { what = what.Refused pid to refusal.Moving line; mail = [] })
    else record { what = what.Refused pid to refusal.Ended line; mail = [] }

abbrev pub missed_in : HomeState → ℕ → ℕ → ℕ → ℕ → Turned
missed_in h pid to hops line = if was_given h.kernel pid then record { home = h; acted = missed_acted h pid to hops line } else strange h

abbrev pub closed_acted : ℕ → Acted
closed_acted line = record { what = what.Closed line; mail = [] }

-- ---- what is asked of home

abbrev pub held_number : Option HeldCall → Option ℕ
held_number None = None
held_number (Some call) = Some call.request.number

-- whether a message fits, as far as home decides it
abbrev pub home_suits : HomeState → Message → Bool
home_suits h (message.Call pid request) = fits_call h pid request
home_suits h (message.Pause pid room) = may_ask h pid
home_suits h (message.Reply pid done) = true
home_suits h (message.Poke pid) = true
home_suits h (message.Go pid to hops line) = true
home_suits h (message.NotHere pid to hops line) = was_given h.kernel pid
home_suits h (message.Ask pid need) = true
home_suits h (message.Allow pid) = true
home_suits h (message.Deny pid need free) = true
home_suits h (message.Move pid user hops line) = true
home_suits h (message.Landed pid source hops line) = was_given h.kernel pid
home_suits h (message.NoMove line) = true
home_suits h (message.Half places) = true
