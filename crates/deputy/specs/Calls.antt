-- What home makes of a call: the call itself, then the taking of a signal, then the reply and the pokes.
use Rattle.std.specs.Prelude.{ℕ, ◌==◌, ◌&&◌, ◌||◌, not, nat_lt, if◌then◌else◌, slice_index, length, is_some, is_none, ℤ, Bool, true, false, Option, Some, None, List, [], ◌∷◌, ◌++◌}
use Rattle.std.specs.List.{find}
use Rattle.call_table.specs.Calls.{need_of, is_site_local, is_signal_number}
use Rattle.call_table.specs.declared.call.TheConstants.{SIGRETURN}
use Rattle.call_table.specs.declared.error.TheConstants.{EINTR}
use Rattle.call_table.specs.declared.table.TheConstants.{RIGHT_READ}
use Rattle.call_table.specs.declared.process.End.TheVariants as ends
use Rattle.call_table.specs.declared.request.Request.{Request}
use Rattle.call_table.specs.declared.request.Answer.{Answer}
use Rattle.call_table.specs.declared.request.Need.{Need}
use Rattle.call_table.specs.declared.request.Taken.{Taken}
use Rattle.node_event.specs.declared.event.Way.{Way}
use Rattle.node_event.specs.declared.event.Way.TheVariants.{Did, Broke, Fell, Paused}
use Rattle.node_event.specs.declared.event.What.{What}
use Rattle.node_event.specs.declared.event.What.TheVariants as what
use Rattle.call_forward.specs.declared.message.Done.{Done}
use Rattle.call_forward.specs.declared.message.Message.{Message}
use Rattle.call_forward.specs.declared.message.Message.TheVariants as message
use Rattle.call_forward.specs.declared.acted.Acted.{Acted}
use Rattle.user_spec.specs.Fits.{fits_request}
use Rattle.kernel_spec.specs.Kernel.{KernelState, Called, AfterTake, given, end_at, is_live, with_end, raised_by_end, deliverable, take_result, value_answer}
use Rattle.kernel_spec.specs.Calls.{call_result}
use Rattle.deputy.specs.declared.row.Row.{Row}
use Rattle.deputy.specs.declared.row.HeldCall.{HeldCall}
use Rattle.deputy.specs.declared.pokes.Pokes.{Pokes}
use Rattle.deputy.specs.declared.asks.Asks.{Asks}
use Rattle.deputy.specs.Rows.{HomeState, held_at, place_at, holding, counted, is_fork, with_born, held_pids}
use Rattle.kernel_spec.specs.Pids.{changed_pid}

-- home after a turn, and what came of it
pub record Turned : Type 0 where
  pub home : HomeState
  pub acted : Acted

-- what does not fit changes nothing
abbrev pub strange : HomeState → Turned
strange h = record { home = h; acted = record { what = what.Strange; mail = [] } }

-- ---- when a call or a pause fits

-- the process is live, and no call of it waits
abbrev pub may_ask : HomeState → ℕ → Bool
may_ask h pid = is_live h.kernel pid && is_none (held_at h.rows pid)

-- and the request is a fault, or a forwarded call with its bytes
abbrev pub fits_call : HomeState → ℕ → Request → Bool
fits_call h pid r = may_ask h pid && fits_request r

-- ---- first: the call itself

pub record First : Type 0 where
  pub kernel : KernelState
  pub way : Way
  pub answer : Option Answer
  -- another process at which it raised a signal that is not ignored there
  pub raised : Option ℕ

abbrev pub did : Called → First
did called = record { kernel = called.kernel; way = Did; answer = Some called.answer; raised = called.raised }

abbrev pub broke : KernelState → First
broke k = record { kernel = k; way = Broke; answer = Some (value_answer EINTR); raised = None }

abbrev pub fell : KernelState → ℕ → ℕ → First
fell k pid signal = record { kernel = with_end k pid (ends.Signal signal); way = Fell; answer = None; raised = raised_by_end k pid }

abbrev pub paused : KernelState → First
paused k = record { kernel = k; way = Paused; answer = None; raised = None }

-- a call that blocks waits, unless there is a signal that breaks it off
abbrev pub broken_by : Option ℕ → KernelState → Option First
broken_by None k = None
broken_by (Some signal) k = Some (broke k)

abbrev pub first_by : Option Called → KernelState → ℕ → Option First
first_by None k pid = broken_by (deliverable k pid) k
first_by (Some called) k pid = Some (did called)

-- what a call or a fault comes to, none exactly where it is to wait
abbrev pub first_of : KernelState → ℕ → Request → Option First
first_of k pid r = if r.number == 0 then Some (fell k pid (slice_index r.args 0)) else first_by (call_result k pid r) k pid

-- ---- last: a signal is taken where one is deliverable

pub record Last : Type 0 where
  pub kernel : KernelState
  pub taken : Option Taken
  -- a live parent that a death by it raised 17 at
  pub raised : Option ℕ

abbrev pub last_by : Option AfterTake → KernelState → Last
last_by None k = record { kernel = k; taken = None; raised = None }
last_by (Some after) k = record { kernel = after.kernel; taken = Some after.taken; raised = after.raised }

abbrev pub last_of : KernelState → ℕ → Bool → Last
last_of k pid room = last_by (take_result k pid room) k

-- ---- the pokes

-- a process at which a signal was raised is poked where it is not the one that is served, can take a signal now, and has no call that waits
abbrev pub can_poke : KernelState → List Row → ℕ → ℕ → Bool
can_poke k rows pid other = not (other == pid) && (is_some (deliverable k other) && is_none (held_at rows other))

abbrev pub to_poke : KernelState → List Row → ℕ → Option ℕ → Option ℕ
to_poke k rows pid None = None
to_poke k rows pid (Some other) = if can_poke k rows pid other then Some other else None

-- one or two, the lower first, and each once
abbrev pub in_order : Option ℕ → Option ℕ → Pokes
in_order None b = record { first = b; second = None }
in_order (Some a) None = record { first = Some a; second = None }
in_order (Some a) (Some b) =
    if a == b then record { first = Some a; second = None } else
    (if nat_lt a b then record { first = Some a; second = Some b } else record { first = Some b; second = Some a })

abbrev pub pokes_of : KernelState → List Row → ℕ → Option ℕ → Option ℕ → Pokes
pokes_of k rows pid a b = in_order (to_poke k rows pid a) (to_poke k rows pid b)

abbrev pub poke_to : ℕ → Option ℕ → List (ℕ × Message)
poke_to place None = []
poke_to place (Some pid) = (place, message.Poke pid) ∷ []

-- each goes to the place where home believes the process to be
abbrev pub poke_mail : List Row → Option ℕ → List (ℕ × Message)
poke_mail rows None = []
poke_mail rows (Some pid) = (place_at rows pid, message.Poke pid) ∷ []

-- ---- all of it

abbrev pub value_in : Option Answer → Option ℤ
value_in None = None
value_in (Some answer) = Some answer.value

-- a forwarded call is counted, and a pause is not
abbrev pub counted_rows : Option ℕ → ℕ → List Row → List Row
counted_rows None pid rows = rows
counted_rows (Some number) pid rows = changed_pid counted rows pid

-- a fork's child has a row
abbrev pub served_rows : Asks → Option Answer → List Row → List Row
served_rows asks answer rows = counted_rows asks.number asks.pid (with_born (is_fork answer) asks.from rows)

abbrev pub done_of : ℕ → First → Last → Done
done_of pid first last = record { answer = first.answer; taken = last.taken; ended = not (is_live last.kernel pid); more = is_some (deliverable last.kernel pid) }

abbrev pub served_event : Asks → First → Last → Pokes → What
served_event asks first last pokes =
    what.Served asks.pid first.way asks.number (value_in first.answer) (deliverable first.kernel asks.pid) (end_at last.kernel asks.pid) (is_some (deliverable last.kernel asks.pid)) pokes.first pokes.second

-- the reply to the node that asks, then the pokes
abbrev pub served_mail : Asks → First → Last → List Row → Pokes → List (ℕ × Message)
served_mail asks first last rows pokes = (asks.from, message.Reply asks.pid (done_of asks.pid first last)) ∷ (poke_mail rows pokes.first ++ poke_mail rows pokes.second)

abbrev pub served_acted : Asks → First → Last → List Row → Pokes → Acted
served_acted asks first last rows pokes = record { what = served_event asks first last pokes; mail = served_mail asks first last rows pokes }

abbrev pub answered_by : Asks → First → Last → List Row → Turned
answered_by asks first last rows = record {
  home = record { kernel = last.kernel; rows = served_rows asks first.answer rows };
  acted = served_acted asks first last rows (pokes_of last.kernel rows asks.pid first.raised last.raised);
}

-- what becomes of one that asks: after the call itself the taking of a signal, the reply and the pokes
abbrev pub answered : Asks → First → List Row → Turned
answered asks first rows = answered_by asks first (last_of first.kernel asks.pid asks.room) rows

-- ---- a call, a pause, a call that waited

abbrev pub call_asks : ℕ → ℕ → Request → Asks
call_asks from pid r = record { from = from; pid = pid; number = Some r.number; room = r.room }

abbrev pub with_held : HomeState → ℕ → HeldCall → HomeState
with_held h pid call = record h { rows = changed_pid (holding call) h.rows pid }

abbrev pub held_turn : HomeState → ℕ → ℕ → Request → Turned
held_turn h from pid r = record {
  home = with_held h pid (record { from = from; request = r });
  acted = record { what = what.Held pid r.number; mail = [] };
}

abbrev pub call_turn : Option First → HomeState → ℕ → ℕ → Request → Turned
call_turn None h from pid r = held_turn h from pid r
call_turn (Some first) h from pid r = answered (call_asks from pid r) first h.rows

abbrev pub called_in : HomeState → ℕ → ℕ → Request → Turned
called_in h from pid r = if fits_call h pid r then call_turn (first_of h.kernel pid r) h from pid r else strange h

abbrev pub pause_asks : ℕ → ℕ → Bool → Asks
pause_asks from pid room = record { from = from; pid = pid; number = None; room = room }

abbrev pub paused_in : HomeState → ℕ → ℕ → Bool → Turned
paused_in h from pid room = if may_ask h pid then answered (pause_asks from pid room) (paused h.kernel) h.rows else strange h

-- a call that waits can go on where it blocks no more, or a signal breaks it off
abbrev pub can_go_on : KernelState → ℕ → Option HeldCall → Bool
can_go_on k pid None = false
can_go_on k pid (Some call) = is_some (call_result k pid call.request) || is_some (deliverable k pid)

abbrev pub goes_on : HomeState → ℕ → Bool
goes_on h pid = can_go_on h.kernel pid (held_at h.rows pid)

-- the lowest pid whose call can go on
abbrev pub next_ready : HomeState → Option ℕ
next_ready h = find (goes_on h) (held_pids h.rows)

-- home after a turn that may have had nothing to do
pub record Retried : Type 0 where
  pub home : HomeState
  pub acted : Option Acted

abbrev pub nothing : HomeState → Retried
nothing h = record { home = h; acted = None }

abbrev pub something : Turned → Retried
something turned = record { home = turned.home; acted = Some turned.acted }

abbrev pub retry_turn : Option First → HomeState → ℕ → HeldCall → Retried
retry_turn None h pid call = nothing h
retry_turn (Some first) h pid call = something (answered (call_asks call.from pid call.request) first h.rows)

abbrev pub retry_call : Option HeldCall → HomeState → ℕ → Retried
retry_call None h pid = nothing h
retry_call (Some call) h pid = retry_turn (first_of h.kernel pid call.request) h pid call

abbrev pub retry_by : Option ℕ → HomeState → Retried
retry_by None h = nothing h
retry_by (Some pid) h = retry_call (held_at h.rows pid) h pid

abbrev pub retried_in : HomeState → Retried
retried_in h = retry_by (next_ready h) h
