-- Worked programs: their user states, their histories, and what the one-node machine then shows. The events stand the oldest first.
use Rattle.std.specs.Prelude.{◌≡◌, ℕ, zero, suc, ℤ, pos, negsuc, true, false, Some, None, Option, List, [], ◌∷◌, replicate}
use Rattle.std.specs.Option.{option_map}
use Rattle.std.specs.FinMap as map
use Rattle.call_table.specs.declared.process.End.TheVariants as end
use Rattle.call_table.specs.declared.process.PidState.{PidState}
use Rattle.call_table.specs.declared.process.PidState.TheVariants as state
use Rattle.node_event.specs.declared.event.Event.{Event}
use Rattle.node_event.specs.declared.event.What.{What}
use Rattle.node_event.specs.declared.event.What.TheVariants as what
use Rattle.node_event.specs.declared.event.Way.TheVariants as way
use Rattle.node_event.specs.declared.script.Order.{Order}
use Rattle.node_event.specs.declared.script.Order.TheVariants as order
use Rattle.node_event.specs.declared.script.ScriptLine.{ScriptLine}
use Rattle.page_set.specs.Pages.{Page, PageMap}
use Rattle.user_spec.specs.User.{UserState}
use Rattle.run_laws.specs.Machine.{ReplyGiven, MachineState}
use Rattle.run_laws.specs.Schedule.{machine_at}
use Rattle.run_laws.specs.Ends.{statuses}
use Rattle.run_laws.specs.Histories.{at, line, read}
use Rattle.node_machine.specs.Plan.{Plan}
use Rattle.node_machine.specs.Machine.{machine}
use Rattle.node_machine.specs.Policy.{never}

-- ---- user states

-- two pages: the image's bytes at 0x10000, and the last page of the stack. What stands behind the bytes that are written here reads as zero
pub record Memory : Type 0 where
  pub image : List ℕ
  pub stack : List ℕ

abbrev pub image_page : List ℕ → Page
image_page bytes = record { bytes = bytes; rights = 7 }

abbrev pub stack_page : List ℕ → Page
stack_page bytes = record { bytes = bytes; rights = 6 }

abbrev pub pages_of : Memory → PageMap
pages_of m = map.insert (map.insert map.empty 16 (image_page m.image)) 524287 (stack_page m.stack)

pub record Small : Type 0 where
  pub pc : ℕ
  pub registers : List ℕ
  pub memory : Memory
  pub pid : ℕ
  pub count : ℕ

-- the user state, with an empty heap behind the image
abbrev pub user_of : Small → UserState
user_of s = record { pc = s.pc; registers = s.registers; pages = pages_of s.memory; base = 69632; brk = 69632; pid = s.pid; count = s.count }

-- as a program starts: its stack pointer in x2, the number of its words in x10, and where they stand in x11
abbrev pub started : ℕ → List ℕ → List ℕ → Small
started sp image stack = record {
  pc = 65536;
  registers = 0 ∷ sp ∷ 0 ∷ 0 ∷ 0 ∷ 0 ∷ 0 ∷ 0 ∷ 0 ∷ 1 ∷ sp ∷ 0 ∷ 0 ∷ 0 ∷ 0 ∷ 0 ∷ 0 ∷ 0 ∷ 0 ∷ 0 ∷ 0 ∷ 0 ∷ 0 ∷ 0 ∷ 0 ∷ 0 ∷ 0 ∷ 0 ∷ 0 ∷ 0 ∷ 0 ∷ [];
  memory = record { image = image; stack = stack };
  pid = 0;
  count = 0;
}

-- one node with one program
abbrev pub plan_of : List ScriptLine → Small → Plan
plan_of script s = record { script = script; users = user_of s ∷ []; nodes = 1; cap = 1024; quantum = 1000; word = λ n k. 0 }

-- ---- what is shown

pub record Shown : Type 0 where
  -- what was written to the terminal, and what was typed and not read
  pub terminal : List ℕ
  pub typed : List ℕ
  pub statuses : List (ℕ × PidState)
  -- pid, number and value of each call, the newest first
  pub replies : List ReplyGiven

abbrev pub shown_by : (plan : Plan) → MachineState (machine never plan) → Shown
shown_by plan m = record { terminal = m.kernel.terminal; typed = m.kernel.input.bytes; statuses = statuses (machine never plan) m; replies = m.replies }

-- playing the events shows this
abbrev pub Shows : Plan → List Event → Shown → Type 0
Shows plan events shown = option_map (shown_by plan) (machine_at (machine never plan) (read plan.script events)) ≡ Some shown

abbrev pub reply : ℕ → ℕ → ℤ → ReplyGiven
reply pid number value = record { pid = pid; number = number; value = value }

-- ---- events of a run on one node

-- a process asks, is answered at once, and goes on
abbrev pub asked : ℕ → ℕ → ℕ → ℤ → List Event → List Event
asked stamp pid number value rest =
    at stamp 0 (what.Sent pid number)
    ∷ at (suc stamp) 0 (what.Served pid way.Did (Some number) (Some value) None None false None None)
    ∷ at (suc (suc stamp)) 0 (what.Got pid None false None None)
    ∷ rest

-- a process exits
abbrev pub exits : ℕ → ℕ → ℕ → List Event → List Event
exits stamp pid code rest =
    at stamp 0 (what.Sent pid 1)
    ∷ at (suc stamp) 0 (what.Served pid way.Did (Some 1) (Some (pos 0)) None (Some (end.Exit code)) false None None)
    ∷ at (suc (suc stamp)) 0 (what.Got pid None true None None)
    ∷ rest

-- ---- hello

-- the file of `hello.s`: it writes `hi` and a newline, and exits
abbrev pub hello_image : List ℕ
hello_image =
    19 ∷ 5 ∷ 16 ∷ 0 ∷ 183 ∷ 5 ∷ 1 ∷ 0 ∷ 147 ∷ 133 ∷ 69 ∷ 2 ∷ 19 ∷ 6 ∷ 48 ∷ 0 ∷ 147 ∷ 8 ∷ 144 ∷ 0 ∷ 115 ∷ 0 ∷ 0 ∷ 0 ∷ 19 ∷ 5 ∷ 0 ∷ 0 ∷ 147 ∷ 8 ∷ 16 ∷
    0 ∷ 115 ∷ 0 ∷ 0 ∷ 0 ∷ 104 ∷ 105 ∷ 10 ∷ []

abbrev pub hello : Small
hello = started 2147483632 hello_image []

abbrev pub hello_script : List ScriptLine
hello_script = line 1 (order.Run []) ∷ []

abbrev pub hello_plan : Plan
hello_plan = plan_of hello_script hello

-- the nine events
abbrev pub hello_events : List Event
hello_events =
    at 1 0 (what.Command 1 (Some 1) None None)
    ∷ at 2 0 (what.Steps 1 5)
    ∷ asked 3 1 9 (pos 3) (
    at 6 0 (what.Steps 1 2)
    ∷ exits 7 1 0 [])

abbrev pub hello_shown : Shown
hello_shown = record { terminal = 104 ∷ 105 ∷ 10 ∷ []; typed = []; statuses = (1, state.Exit 0) ∷ []; replies = reply 1 1 (pos 0) ∷ reply 1 9 (pos 3) ∷ [] }

-- ---- forker

-- the file of `forker.s`: it reads, forks, and waits for its child, which reads too and exits with 7
abbrev pub forker_image : List ℕ
forker_image =
    55 ∷ 5 ∷ 0 ∷ 0 ∷ 19 ∷ 5 ∷ 5 ∷ 0 ∷ 183 ∷ 5 ∷ 1 ∷ 0 ∷ 147 ∷ 133 ∷ 5 ∷ 10 ∷ 55 ∷ 6 ∷ 0 ∷ 0 ∷ 19 ∷ 6 ∷ 38 ∷ 0 ∷ 183 ∷ 8 ∷ 0 ∷ 0 ∷ 147 ∷ 136 ∷ 136 ∷
    0 ∷ 115 ∷ 0 ∷ 0 ∷ 0 ∷ 183 ∷ 8 ∷ 0 ∷ 0 ∷ 147 ∷ 136 ∷ 72 ∷ 0 ∷ 115 ∷ 0 ∷ 0 ∷ 0 ∷ 99 ∷ 10 ∷ 5 ∷ 2 ∷ 55 ∷ 5 ∷ 1 ∷ 0 ∷ 19 ∷ 5 ∷ 197 ∷ 9 ∷ 183 ∷ 8 ∷
    0 ∷ 0 ∷ 147 ∷ 136 ∷ 88 ∷ 0 ∷ 115 ∷ 0 ∷ 0 ∷ 0 ∷ 183 ∷ 5 ∷ 1 ∷ 0 ∷ 147 ∷ 133 ∷ 197 ∷ 9 ∷ 3 ∷ 165 ∷ 5 ∷ 0 ∷ 19 ∷ 85 ∷ 133 ∷ 0 ∷ 183 ∷ 8 ∷ 0 ∷ 0 ∷
    147 ∷ 136 ∷ 24 ∷ 0 ∷ 115 ∷ 0 ∷ 0 ∷ 0 ∷ 55 ∷ 5 ∷ 0 ∷ 0 ∷ 19 ∷ 5 ∷ 5 ∷ 0 ∷ 183 ∷ 5 ∷ 1 ∷ 0 ∷ 147 ∷ 133 ∷ 5 ∷ 10 ∷ 55 ∷ 6 ∷ 0 ∷ 0 ∷ 19 ∷ 6 ∷ 38 ∷
    0 ∷ 183 ∷ 8 ∷ 0 ∷ 0 ∷ 147 ∷ 136 ∷ 136 ∷ 0 ∷ 115 ∷ 0 ∷ 0 ∷ 0 ∷ 55 ∷ 5 ∷ 0 ∷ 0 ∷ 19 ∷ 5 ∷ 117 ∷ 0 ∷ 183 ∷ 8 ∷ 0 ∷ 0 ∷ 147 ∷ 136 ∷ 24 ∷ 0 ∷ 115 ∷
    0 ∷ 0 ∷ 0 ∷ 0 ∷ 0 ∷ 0 ∷ 0 ∷ 0 ∷ 0 ∷ []

abbrev pub forker : Small
forker = started 2147483632 forker_image []

abbrev pub forker_script : List ScriptLine
forker_script = line 1 (order.Run []) ∷ line 2 (order.Feed (97 ∷ 10 ∷ [])) ∷ line 3 (order.Feed (98 ∷ 10 ∷ [])) ∷ []

abbrev pub forker_plan : Plan
forker_plan = plan_of forker_script forker

-- the parent's wait and the child's read are held; the child is reaped, and its code is the parent's
abbrev pub forker_events : List Event
forker_events =
    at 1 0 (what.Command 1 (Some 1) None None)
    ∷ at 2 0 (what.Command 2 None None None)
    ∷ at 3 0 (what.Steps 1 8)
    ∷ asked 4 1 8 (pos 2) (
    at 7 0 (what.Steps 1 2)
    ∷ at 8 0 (what.Sent 1 4)
    ∷ at 9 0 (what.Served 1 way.Did (Some 4) (Some (pos 2)) None None false None None)
    ∷ at 10 0 (what.Got 1 (Some 2) false None None)
    ∷ at 11 0 (what.Steps 1 5)
    ∷ at 12 0 (what.Sent 1 5)
    ∷ at 13 0 (what.Held 1 5)
    ∷ at 14 0 (what.Steps 2 9)
    ∷ at 15 0 (what.Sent 2 8)
    ∷ at 16 0 (what.Held 2 8)
    ∷ at 17 0 (what.Command 3 None None None)
    ∷ at 18 0 (what.Served 2 way.Did (Some 8) (Some (pos 2)) None None false None None)
    ∷ at 19 0 (what.Got 2 None false None None)
    ∷ at 20 0 (what.Steps 2 4)
    ∷ exits 21 2 7 (
    at 24 0 (what.Served 1 way.Did (Some 5) (Some (pos 2)) None None false None None)
    ∷ at 25 0 (what.Got 1 None false None None)
    ∷ at 26 0 (what.Steps 1 6)
    ∷ exits 27 1 7 []))

abbrev pub forker_shown : Shown
forker_shown = record {
  terminal = [];
  typed = [];
  statuses = (1, state.Exit 7) ∷ (2, state.Exit 7) ∷ [];
  replies = reply 1 1 (pos 0) ∷ reply 1 5 (pos 2) ∷ reply 2 1 (pos 0) ∷ reply 2 8 (pos 2) ∷ reply 1 4 (pos 2) ∷ reply 1 8 (pos 2) ∷ [];
}

-- ---- intr

-- the file of `intr.s`: a signal breaks its read, its handler writes `h` and returns, and it reads again. Its stack pointer stands lower in the page here
abbrev pub intr_image : List ℕ
intr_image =
    55 ∷ 5 ∷ 0 ∷ 0 ∷ 19 ∷ 5 ∷ 165 ∷ 0 ∷ 183 ∷ 5 ∷ 1 ∷ 0 ∷ 147 ∷ 133 ∷ 5 ∷ 10 ∷ 55 ∷ 6 ∷ 1 ∷ 0 ∷ 19 ∷ 6 ∷ 134 ∷ 12 ∷ 183 ∷ 8 ∷ 0 ∷ 0 ∷ 147 ∷ 136 ∷
    248 ∷ 0 ∷ 115 ∷ 0 ∷ 0 ∷ 0 ∷ 55 ∷ 5 ∷ 0 ∷ 0 ∷ 19 ∷ 5 ∷ 5 ∷ 0 ∷ 183 ∷ 5 ∷ 1 ∷ 0 ∷ 147 ∷ 133 ∷ 85 ∷ 13 ∷ 55 ∷ 6 ∷ 0 ∷ 0 ∷ 19 ∷ 6 ∷ 38 ∷ 0 ∷ 183 ∷
    8 ∷ 0 ∷ 0 ∷ 147 ∷ 136 ∷ 136 ∷ 0 ∷ 115 ∷ 0 ∷ 0 ∷ 0 ∷ 51 ∷ 4 ∷ 160 ∷ 64 ∷ 55 ∷ 5 ∷ 0 ∷ 0 ∷ 19 ∷ 5 ∷ 5 ∷ 0 ∷ 183 ∷ 5 ∷ 1 ∷ 0 ∷ 147 ∷ 133 ∷ 85 ∷ 13 ∷
    55 ∷ 6 ∷ 0 ∷ 0 ∷ 19 ∷ 6 ∷ 38 ∷ 0 ∷ 183 ∷ 8 ∷ 0 ∷ 0 ∷ 147 ∷ 136 ∷ 136 ∷ 0 ∷ 115 ∷ 0 ∷ 0 ∷ 0 ∷ 19 ∷ 6 ∷ 5 ∷ 0 ∷ 55 ∷ 5 ∷ 0 ∷ 0 ∷ 19 ∷ 5 ∷ 21 ∷ 0 ∷
    183 ∷ 5 ∷ 1 ∷ 0 ∷ 147 ∷ 133 ∷ 85 ∷ 13 ∷ 183 ∷ 8 ∷ 0 ∷ 0 ∷ 147 ∷ 136 ∷ 152 ∷ 0 ∷ 115 ∷ 0 ∷ 0 ∷ 0 ∷ 19 ∷ 5 ∷ 4 ∷ 0 ∷ 183 ∷ 8 ∷ 0 ∷ 0 ∷ 147 ∷ 136 ∷
    24 ∷ 0 ∷ 115 ∷ 0 ∷ 0 ∷ 0 ∷ 55 ∷ 5 ∷ 0 ∷ 0 ∷ 19 ∷ 5 ∷ 21 ∷ 0 ∷ 183 ∷ 5 ∷ 1 ∷ 0 ∷ 147 ∷ 133 ∷ 69 ∷ 13 ∷ 55 ∷ 6 ∷ 0 ∷ 0 ∷ 19 ∷ 6 ∷ 22 ∷ 0 ∷ 183 ∷
    8 ∷ 0 ∷ 0 ∷ 147 ∷ 136 ∷ 152 ∷ 0 ∷ 115 ∷ 0 ∷ 0 ∷ 0 ∷ 103 ∷ 128 ∷ 0 ∷ 0 ∷ 183 ∷ 8 ∷ 0 ∷ 0 ∷ 147 ∷ 136 ∷ 8 ∷ 1 ∷ 115 ∷ 0 ∷ 0 ∷ 0 ∷ 104 ∷ 0 ∷ 0 ∷ []

abbrev pub intr : Small
intr = started 2147479712 intr_image (replicate 160 0)

abbrev pub intr_script : List ScriptLine
intr_script = line 1 (order.Run []) ∷ line 2 (order.Held 1) ∷ line 3 (order.Kill 1 10) ∷ line 4 (order.After 1 4) ∷ line 5 (order.Feed (120 ∷ 10 ∷ [])) ∷ []

abbrev pub intr_plan : Plan
intr_plan = plan_of intr_script intr

abbrev pub intr_events : List Event
intr_events =
    at 1 0 (what.Command 1 (Some 1) None None)
    ∷ at 2 0 (what.Steps 1 8)
    ∷ asked 3 1 15 (pos 0) (
    at 6 0 (what.Steps 1 8)
    ∷ at 7 0 (what.Sent 1 8)
    ∷ at 8 0 (what.Held 1 8)
    ∷ at 9 0 (what.Command 2 None None None)
    ∷ at 10 0 (what.Command 3 None None None)
    ∷ at 11 0 (what.Served 1 way.Broke (Some 8) (Some (negsuc 3)) (Some 10) None false None None)
    ∷ at 12 0 (what.Got 1 None false None None)
    ∷ at 13 0 (what.Steps 1 8)
    ∷ asked 14 1 9 (pos 1) (
    at 17 0 (what.Steps 1 3)
    ∷ asked 18 1 16 (pos 0) (
    at 21 0 (what.Command 4 None None None)
    ∷ at 22 0 (what.Command 5 None None None)
    ∷ at 23 0 (what.Steps 1 9)
    ∷ asked 24 1 8 (pos 2) (
    at 27 0 (what.Steps 1 7)
    ∷ asked 28 1 9 (pos 2) (
    at 31 0 (what.Steps 1 3)
    ∷ exits 32 1 4 [])))))

abbrev pub intr_shown : Shown
intr_shown = record {
  terminal = 104 ∷ 120 ∷ 10 ∷ [];
  typed = [];
  statuses = (1, state.Exit 4) ∷ [];
  replies = reply 1 1 (pos 0) ∷ reply 1 9 (pos 2) ∷ reply 1 8 (pos 2) ∷ reply 1 16 (pos 0) ∷ reply 1 9 (pos 1) ∷ reply 1 8 (negsuc 3) ∷ reply 1 15 (pos 0) ∷ [];
}

-- ---- both

-- the file of `both.s`: it makes a pipe and forks, and both read from it, each holding the other end
abbrev pub both_image : List ℕ
both_image =
    55 ∷ 5 ∷ 1 ∷ 0 ∷ 19 ∷ 5 ∷ 197 ∷ 5 ∷ 183 ∷ 8 ∷ 0 ∷ 0 ∷ 147 ∷ 136 ∷ 184 ∷ 0 ∷ 115 ∷ 0 ∷ 0 ∷ 0 ∷ 183 ∷ 8 ∷ 0 ∷ 0 ∷ 147 ∷ 136 ∷ 72 ∷ 0 ∷ 115 ∷ 0 ∷
    0 ∷ 0 ∷ 183 ∷ 5 ∷ 1 ∷ 0 ∷ 147 ∷ 133 ∷ 197 ∷ 5 ∷ 3 ∷ 165 ∷ 5 ∷ 0 ∷ 183 ∷ 5 ∷ 1 ∷ 0 ∷ 147 ∷ 133 ∷ 69 ∷ 6 ∷ 55 ∷ 6 ∷ 0 ∷ 0 ∷ 19 ∷ 6 ∷ 22 ∷ 0 ∷ 183 ∷
    8 ∷ 0 ∷ 0 ∷ 147 ∷ 136 ∷ 136 ∷ 0 ∷ 115 ∷ 0 ∷ 0 ∷ 0 ∷ 55 ∷ 5 ∷ 0 ∷ 0 ∷ 19 ∷ 5 ∷ 5 ∷ 0 ∷ 183 ∷ 8 ∷ 0 ∷ 0 ∷ 147 ∷ 136 ∷ 24 ∷ 0 ∷ 115 ∷ 0 ∷ 0 ∷ 0 ∷
    0 ∷ 0 ∷ 0 ∷ 0 ∷ 0 ∷ 0 ∷ 0 ∷ 0 ∷ 0 ∷ 0 ∷ 0 ∷ 0 ∷ []

abbrev pub both : Small
both = started 2147483632 both_image []

abbrev pub both_plan : Plan
both_plan = plan_of hello_script both

-- both reads are held for ever
abbrev pub both_events : List Event
both_events =
    at 1 0 (what.Command 1 (Some 1) None None)
    ∷ at 2 0 (what.Steps 1 4)
    ∷ asked 3 1 11 (pos 0) (
    at 6 0 (what.Steps 1 2)
    ∷ at 7 0 (what.Sent 1 4)
    ∷ at 8 0 (what.Served 1 way.Did (Some 4) (Some (pos 2)) None None false None None)
    ∷ at 9 0 (what.Got 1 (Some 2) false None None)
    ∷ at 10 0 (what.Steps 1 9)
    ∷ at 11 0 (what.Sent 1 8)
    ∷ at 12 0 (what.Held 1 8)
    ∷ at 13 0 (what.Steps 2 9)
    ∷ at 14 0 (what.Sent 2 8)
    ∷ at 15 0 (what.Held 2 8)
    ∷ [])

abbrev pub both_shown : Shown
both_shown = record {
  terminal = [];
  typed = [];
  statuses = (1, state.Blocked 8) ∷ (2, state.Blocked 8) ∷ [];
  replies = reply 1 4 (pos 2) ∷ reply 1 11 (pos 0) ∷ [];
}

-- ---- a parent that heeds the end of its child

-- `li a0, 17|la a1, h|la a2, k|sys 15|sys 4|beq a0, x0, c|li a0, 0|sys 5|li a0, 0|sys 1|c: li a0, 3|sys 1|h: li a0, 1|la a1, d|li a2, 1|sys 9|ret|k: sys 16|d: .ascii "c"`:
-- it forks and waits, and its handler of 17 writes `c`
abbrev pub parent_image : List ℕ
parent_image =
    55 ∷ 5 ∷ 0 ∷ 0 ∷ 19 ∷ 5 ∷ 21 ∷ 1 ∷ 183 ∷ 5 ∷ 1 ∷ 0 ∷ 147 ∷ 133 ∷ 5 ∷ 7 ∷ 55 ∷ 6 ∷ 1 ∷ 0 ∷ 19 ∷ 6 ∷ 134 ∷ 9 ∷ 183 ∷ 8 ∷ 0 ∷ 0 ∷ 147 ∷ 136 ∷ 248 ∷
    0 ∷ 115 ∷ 0 ∷ 0 ∷ 0 ∷ 183 ∷ 8 ∷ 0 ∷ 0 ∷ 147 ∷ 136 ∷ 72 ∷ 0 ∷ 115 ∷ 0 ∷ 0 ∷ 0 ∷ 99 ∷ 6 ∷ 5 ∷ 2 ∷ 55 ∷ 5 ∷ 0 ∷ 0 ∷ 19 ∷ 5 ∷ 5 ∷ 0 ∷ 183 ∷ 8 ∷ 0 ∷
    0 ∷ 147 ∷ 136 ∷ 88 ∷ 0 ∷ 115 ∷ 0 ∷ 0 ∷ 0 ∷ 55 ∷ 5 ∷ 0 ∷ 0 ∷ 19 ∷ 5 ∷ 5 ∷ 0 ∷ 183 ∷ 8 ∷ 0 ∷ 0 ∷ 147 ∷ 136 ∷ 24 ∷ 0 ∷ 115 ∷ 0 ∷ 0 ∷ 0 ∷ 55 ∷ 5 ∷
    0 ∷ 0 ∷ 19 ∷ 5 ∷ 53 ∷ 0 ∷ 183 ∷ 8 ∷ 0 ∷ 0 ∷ 147 ∷ 136 ∷ 24 ∷ 0 ∷ 115 ∷ 0 ∷ 0 ∷ 0 ∷ 55 ∷ 5 ∷ 0 ∷ 0 ∷ 19 ∷ 5 ∷ 21 ∷ 0 ∷ 183 ∷ 5 ∷ 1 ∷ 0 ∷ 147 ∷
    133 ∷ 69 ∷ 10 ∷ 55 ∷ 6 ∷ 0 ∷ 0 ∷ 19 ∷ 6 ∷ 22 ∷ 0 ∷ 183 ∷ 8 ∷ 0 ∷ 0 ∷ 147 ∷ 136 ∷ 152 ∷ 0 ∷ 115 ∷ 0 ∷ 0 ∷ 0 ∷ 103 ∷ 128 ∷ 0 ∷ 0 ∷ 183 ∷ 8 ∷ 0 ∷
    0 ∷ 147 ∷ 136 ∷ 8 ∷ 1 ∷ 115 ∷ 0 ∷ 0 ∷ 0 ∷ 99 ∷ []

abbrev pub parent : Small
parent = started 2147479712 parent_image (replicate 160 0)

abbrev pub parent_plan : Plan
parent_plan = plan_of hello_script parent

-- the child's exit raises 17 at its parent, which takes it after its wait
abbrev pub parent_events : List Event
parent_events =
    at 1 0 (what.Command 1 (Some 1) None None)
    ∷ at 2 0 (what.Steps 1 8)
    ∷ asked 3 1 15 (pos 0) (
    at 6 0 (what.Steps 1 2)
    ∷ at 7 0 (what.Sent 1 4)
    ∷ at 8 0 (what.Served 1 way.Did (Some 4) (Some (pos 2)) None None false None None)
    ∷ at 9 0 (what.Got 1 (Some 2) false None None)
    ∷ at 10 0 (what.Steps 1 5)
    ∷ at 11 0 (what.Sent 1 5)
    ∷ at 12 0 (what.Held 1 5)
    ∷ at 13 0 (what.Steps 2 5)
    ∷ exits 14 2 3 (
    at 17 0 (what.Served 1 way.Did (Some 5) (Some (pos 2)) (Some 17) None false None None)
    ∷ at 18 0 (what.Got 1 None false None None)
    ∷ at 19 0 (what.Steps 1 8)
    ∷ asked 20 1 9 (pos 1) (
    at 23 0 (what.Steps 1 3)
    ∷ asked 24 1 16 (pos 0) (
    at 27 0 (what.Steps 1 4)
    ∷ exits 28 1 0 []))))

abbrev pub parent_shown : Shown
parent_shown = record {
  terminal = 99 ∷ [];
  typed = [];
  statuses = (1, state.Exit 0) ∷ (2, state.Exit 3) ∷ [];
  replies = reply 1 1 (pos 0) ∷ reply 1 16 (pos 0) ∷ reply 1 9 (pos 1) ∷ reply 1 5 (pos 2) ∷ reply 2 1 (pos 0) ∷ reply 1 4 (pos 2) ∷ reply 1 15 (pos 0) ∷ [];
}

-- ---- two signals

abbrev pub killed_script : List ScriptLine
killed_script = line 1 (order.Run []) ∷ line 2 (order.Kill 1 15) ∷ line 3 (order.Kill 1 10) ∷ []

abbrev pub killed_plan : Plan
killed_plan = plan_of killed_script hello

-- of two pending signals the lower one is taken
abbrev pub killed_events : List Event
killed_events =
    at 1 0 (what.Command 1 (Some 1) None None)
    ∷ at 2 0 (what.Command 2 None None (Some 1))
    ∷ at 3 0 (what.Command 3 None None (Some 1))
    ∷ at 4 0 (what.Poked 1 true)
    ∷ at 5 0 (what.Poked 1 true)
    ∷ at 6 0 (what.Heed 1)
    ∷ at 7 0 (what.Served 1 way.Paused None None (Some 10) (Some (end.Signal 10)) false None None)
    ∷ at 8 0 (what.Got 1 None true None None)
    ∷ []

abbrev pub killed_shown : Shown
killed_shown = record { terminal = []; typed = []; statuses = (1, state.Signal 10) ∷ []; replies = [] }
