-- The deeds of a run: each event, read with its line of the script. The laws are about deeds.
use Rattle.std.specs.Prelude.{ℕ, zero, suc, ◌+◌, ◌==◌, ℤ, pos, negsuc, Bool, true, false, cond, Option, Some, None, List, [], ◌∷◌, map}
use Rattle.call_table.specs.declared.process.End.{End}
use Rattle.node_event.specs.declared.event.Event.{Event}
use Rattle.node_event.specs.declared.event.What.{What}
use Rattle.node_event.specs.declared.event.What.TheVariants as what
use Rattle.node_event.specs.declared.event.Way.{Way}
use Rattle.node_event.specs.declared.event.Way.TheVariants as way
use Rattle.node_event.specs.declared.event.Kept.{Kept}
use Rattle.node_event.specs.declared.event.Kept.TheVariants as kept
use Rattle.node_event.specs.declared.event.Refusal.{Refusal}
use Rattle.node_event.specs.declared.event.Refusal.TheVariants as refusal
use Rattle.node_event.specs.declared.event.Unsent as unsent_type
use Rattle.node_event.specs.declared.event.Unsent.TheVariants as unsent
use Rattle.node_event.specs.declared.script.Order.{Order}
use Rattle.node_event.specs.declared.script.Order.TheVariants as order
use Rattle.node_event.specs.declared.script.ScriptLine.{ScriptLine}

pub data Manner : Type 0 where
  Did : Manner
  Broke : Manner
  Fell : Manner
  Paused : Manner

pub data Why : Type 0 where
  Gone : Why
  Moving : Why
  There : Why

-- what a `got` tells of a kept move: whether it ended with its process, and its target
pub record KeptTold : Type 0 where
  pub ends : Bool
  pub to : ℕ

-- why a context begins to move: its node took a letter that asks for it, for a line of the script, or chose so at a half, which it sent to another node or
-- heard from it
pub data Reason : Type 0 where
  ForLine : (line : ℕ) → Reason
  Chosen : (heard : Bool) (other : ℕ) → Reason

-- a policy's move has no line
abbrev pub line_for : Reason → Option ℕ
line_for (ForLine line) = Some line
line_for (Chosen heard other) = None

-- what a line does to the terminal's input
pub data Input : Type 0 where
  Text : (index : ℕ) → Input
  Finish : Input
  Nothing : Input

-- a command is one of five deeds, by its line: a launch, a raised signal, a move that is asked for, a move that is not, another
pub data Deed : Type 0 where
  Run : (line index pid : ℕ) → Deed
  Kill : (line pid signal : ℕ) (poked : List ℕ) → Deed
  Bid : (line pid to : ℕ) → Deed
  Unsent : (line pid : ℕ) (never : Bool) → Deed
  Other : (line : ℕ) (input : Input) → Deed
  Steps : (pid k : ℕ) → Deed
  Sent : (pid number : ℕ) → Deed
  Heed : (pid : ℕ) → Deed
  Held : (pid number : ℕ) → Deed
  Served : (pid : ℕ) (manner : Manner) (number : Option ℕ) (value : Option ℤ) (child signal : Option ℕ) (ends : Option End) (more : Bool) (poked : List ℕ) → Deed
  Got : (pid : ℕ) (child : Option ℕ) (ended : Bool) (kept : Option KeptTold) → Deed
  Poked : (pid : ℕ) (used : Bool) → Deed
  Begin : (pid to : ℕ) (reason : Reason) → Deed
  Keep : (pid to line : ℕ) → Deed
  Missed : (pid to line : ℕ) → Deed
  Again : (pid to place line : ℕ) → Deed
  Allows : (pid from need : ℕ) → Deed
  Denies : (pid from need free : ℕ) → Deed
  Depart : (pid to : ℕ) → Deed
  Stay : (pid to need free : ℕ) → Deed
  Land : (pid source : ℕ) → Deed
  Told : (pid at source hops : ℕ) (line : Option ℕ) (poked : Bool) → Deed
  Refused : (pid to : ℕ) (why : Why) (line : ℕ) → Deed
  Closed : (line : ℕ) → Deed
  -- a half that is sent or heard, without a choice
  Gossips : (heard : Bool) (other : ℕ) → Deed
  -- what no lawful event is: a letter that does not fit, or fields that fit no line
  Strange : (pid : ℕ) → Deed

-- an event as the laws read it
pub record Noted : Type 0 where
  pub stamp : ℕ
  pub node : ℕ
  pub what : Deed

abbrev pub pid_of : Deed → ℕ
pid_of (Run line i p) = p
pid_of (Kill line p s poked) = p
pid_of (Bid line p to) = p
pid_of (Unsent line p never) = p
pid_of (Other line input) = 0
pid_of (Steps p k) = p
pid_of (Sent p k) = p
pid_of (Heed p) = p
pid_of (Held p k) = p
pid_of (Served p manner number value child signal ends more poked) = p
pid_of (Got p child ended kept) = p
pid_of (Poked p used) = p
pid_of (Begin p to reason) = p
pid_of (Keep p to line) = p
pid_of (Missed p to line) = p
pid_of (Again p to place line) = p
pid_of (Allows p from need) = p
pid_of (Denies p from need free) = p
pid_of (Depart p to) = p
pid_of (Stay p to need free) = p
pid_of (Land p source) = p
pid_of (Told p at source hops line poked) = p
pid_of (Refused p to why line) = p
pid_of (Closed line) = 0
pid_of (Gossips heard other) = 0
pid_of (Strange p) = p

-- the child that an event names
abbrev pub child_of : Deed → Option ℕ
child_of (Run line i p) = None
child_of (Kill line p s poked) = None
child_of (Bid line p to) = None
child_of (Unsent line p never) = None
child_of (Other line input) = None
child_of (Steps p k) = None
child_of (Sent p k) = None
child_of (Heed p) = None
child_of (Held p k) = None
child_of (Served p manner number value child signal ends more poked) = child
child_of (Got p child ended kept) = child
child_of (Poked p used) = None
child_of (Begin p to reason) = None
child_of (Keep p to line) = None
child_of (Missed p to line) = None
child_of (Again p to place line) = None
child_of (Allows p from need) = None
child_of (Denies p from need free) = None
child_of (Depart p to) = None
child_of (Stay p to need free) = None
child_of (Land p source) = None
child_of (Told p at source hops line poked) = None
child_of (Refused p to why line) = None
child_of (Closed line) = None
child_of (Gossips heard other) = None
child_of (Strange p) = None

-- the order of a line, and how many `run` lines and `type` lines stand before it
abbrev pub order_at : ℕ → List ScriptLine → Option Order
order_at line [] = None
order_at line (s ∷ rest) = cond (s.line == line) (Some s.order) (order_at line rest)

abbrev pub one_run : Order → ℕ
one_run (order.Run words) = 1
one_run _ = 0

abbrev pub one_feed : Order → ℕ
one_feed (order.Feed text) = 1
one_feed _ = 0

abbrev pub runs_before : ℕ → List ScriptLine → ℕ
runs_before line [] = 0
runs_before line (s ∷ rest) = cond (s.line == line) 0 (one_run s.order + runs_before line rest)

abbrev pub feeds_before : ℕ → List ScriptLine → ℕ
feeds_before line [] = 0
feeds_before line (s ∷ rest) = cond (s.line == line) 0 (one_feed s.order + feeds_before line rest)

-- a command by its line: nothing is launched, unsent or poked but where the line can do so
abbrev pub run_deed : ℕ → ℕ → Option ℕ → Option unsent_type.Unsent → Option ℕ → Deed
run_deed line i (Some p) None None = Run line i p
run_deed line i _ _ _ = Strange 0

abbrev pub kill_deed : ℕ → ℕ → ℕ → Option ℕ → Option unsent_type.Unsent → Option ℕ → Deed
kill_deed line p s None None None = Kill line p s []
kill_deed line p s None None (Some q) = Kill line p s (q ∷ [])
kill_deed line p s _ _ _ = Strange 0

abbrev pub move_deed : ℕ → ℕ → ℕ → Option ℕ → Option unsent_type.Unsent → Option ℕ → Deed
move_deed line p to None None None = Bid line p to
move_deed line p to None (Some unsent.Ended) None = Unsent line p false
move_deed line p to None (Some unsent.Never) None = Unsent line p true
move_deed line p to _ _ _ = Strange 0

abbrev pub other_deed : ℕ → Input → Option ℕ → Option unsent_type.Unsent → Option ℕ → Deed
other_deed line input None None None = Other line input
other_deed line input _ _ _ = Strange 0

abbrev pub order_deed : Order → ℕ → ℕ → ℕ → Option ℕ → Option unsent_type.Unsent → Option ℕ → Deed
order_deed (order.Run words) line i j launched unsent poked = run_deed line i launched unsent poked
order_deed (order.Kill p s) line i j launched unsent poked = kill_deed line p s launched unsent poked
order_deed (order.Move p to) line i j launched unsent poked = move_deed line p to launched unsent poked
order_deed (order.Feed text) line i j launched unsent poked = other_deed line (Text j) launched unsent poked
order_deed order.Eof line i j launched unsent poked = other_deed line Finish launched unsent poked
order_deed _ line i j launched unsent poked = other_deed line Nothing launched unsent poked

abbrev pub command_deed : Option Order → ℕ → ℕ → ℕ → Option ℕ → Option unsent_type.Unsent → Option ℕ → Deed
command_deed None line i j launched unsent poked = Strange 0
command_deed (Some o) line i j launched unsent poked = order_deed o line i j launched unsent poked

abbrev pub manner_of : Way → Manner
manner_of way.Did = Did
manner_of way.Broke = Broke
manner_of way.Fell = Fell
manner_of way.Paused = Paused

-- the child that a fork answers: fork is call 4
abbrev pub positive : ℤ → Option ℕ
positive (pos zero) = None
positive (pos (suc n)) = Some (suc n)
positive (negsuc n) = None

abbrev pub born_of : Manner → Option ℕ → Option ℤ → Option ℕ
born_of Did (Some number) (Some value) = cond (number == 4) (positive value) None
born_of _ _ _ = None

-- two pids poked: the first stands first
abbrev pub served_deed : ℕ → Manner → Option ℕ → Option ℤ → Option ℕ → Option End → Bool → Option ℕ → Option ℕ → Deed
served_deed p manner number value signal ends more None None = Served p manner number value (born_of manner number value) signal ends more []
served_deed p manner number value signal ends more (Some q) None = Served p manner number value (born_of manner number value) signal ends more (q ∷ [])
served_deed p manner number value signal ends more (Some q) (Some r) = Served p manner number value (born_of manner number value) signal ends more (q ∷ r ∷ [])
served_deed p manner number value signal ends more None (Some r) = Strange p

abbrev pub got_deed : ℕ → Option ℕ → Bool → Option Kept → Option ℕ → Deed
got_deed p child ended None None = Got p child ended None
got_deed p child ended (Some kept.Begins) (Some to) = Got p child ended (Some (record { ends = false; to = to }))
got_deed p child ended (Some kept.Ended) (Some to) = Got p child ended (Some (record { ends = true; to = to }))
got_deed p child ended _ _ = Strange p

-- a `told` pokes its own process, or none
abbrev pub told_deed : ℕ → ℕ → ℕ → ℕ → Option ℕ → Option ℕ → Deed
told_deed p at source hops line None = Told p at source hops line false
told_deed p at source hops line (Some q) = cond (q == p) (Told p at source hops line true) (Strange p)

abbrev pub why_of : Refusal → Why
why_of refusal.Ended = Gone
why_of refusal.Moving = Moving
why_of refusal.There = There

-- a half chooses a process and its target, or neither
abbrev pub half_deed : Bool → ℕ → Option ℕ → Option ℕ → Deed
half_deed heard other None None = Gossips heard other
half_deed heard other (Some p) (Some to) = Begin p to (Chosen heard other)
half_deed heard other _ _ = Strange 0

abbrev pub deed_of : List ScriptLine → What → Deed
deed_of script (what.Command line launched unsent poked) = command_deed (order_at line script) line (runs_before line script) (feeds_before line script) launched unsent poked
deed_of script (what.Steps p k) = Steps p k
deed_of script (what.Sent p number) = Sent p number
deed_of script (what.Heed p) = Heed p
deed_of script (what.Held p number) = Held p number
deed_of script (what.Served p way number value taken end more poked poked_too) = served_deed p (manner_of way) number value taken end more poked poked_too
deed_of script (what.Got p child ended kept to) = got_deed p child ended kept to
deed_of script (what.Poked p used) = Poked p used
deed_of script (what.Begin p to line) = Begin p to (ForLine line)
deed_of script (what.Keep p to line) = Keep p to line
deed_of script (what.Missed p to line) = Missed p to line
deed_of script (what.Again p to place line) = Again p to place line
deed_of script (what.Allow p from need) = Allows p from need
deed_of script (what.Deny p from need free) = Denies p from need free
deed_of script (what.Depart p to) = Depart p to
deed_of script (what.Stay p to need free) = Stay p to need free
deed_of script (what.Land p source) = Land p source
deed_of script (what.Told p at source hops line poked) = told_deed p at source hops line poked
deed_of script (what.Refused p to why line) = Refused p to (why_of why) line
deed_of script (what.Closed line) = Closed line
deed_of script (what.Half other chosen to) = half_deed false other chosen to
deed_of script (what.Heard other chosen to) = half_deed true other chosen to
deed_of script _ = Strange 0

abbrev pub noted : List ScriptLine → Event → Noted
noted script e = record { stamp = e.stamp; node = e.node; what = deed_of script e.what }

abbrev pub all_noted : List ScriptLine → List Event → List Noted
all_noted script es = map (λ (e : Event). noted script e) es
