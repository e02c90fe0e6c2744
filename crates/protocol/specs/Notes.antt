-- Letters between nodes, contexts, and what a node keeps of each process.
use Rattle.std.specs.Prelude.{◌≡◌, ℕ, ◌+◌, ◌==◌, cond, [], Bool, true, false, Option, Some, None, List}
use Rattle.protocol.specs.Ops.{Ops}
use Rattle.protocol.specs.Gossip.{Entry, Gossip}
use Rattle.protocol.specs.Deeds.{Noted}

pub record Kept : Type 0 where
  pub to : ℕ
  pub line : ℕ

pub data State : Type 0 where
  Running : State
  Waiting : (pause : Bool) (kept : Option Kept) → State
  Asking : (to : ℕ) (line : Option ℕ) → State

-- the believed place of a process, and the most hops told
pub record Believed : Type 0 where
  pub place : ℕ
  pub hops : ℕ

-- how far the script has come: the least line that may come next, how many were carried out, the pids launched, and how many calls of each pid were served
pub record Progress : Type 0 where
  pub line : ℕ
  pub done : ℕ
  pub launched : List ℕ
  pub served : ℕ → ℕ

abbrev pub no_progress : Progress
no_progress = record { line = 0; done = 0; launched = []; served = λ p. 0 }

-- the same, with the calls of each pid
pub record SameProgress (g h : Progress) : Type 0 where
  pub line : g.line ≡ h.line
  pub done : g.done ≡ h.done
  pub launched : g.launched ≡ h.launched
  pub served : (p : ℕ) → g.served p ≡ h.served p

-- one more call of p was served
abbrev pub served_one : ℕ → Progress → Progress
served_one p g = record { line = g.line; done = g.done; launched = g.launched; served = λ q. cond (q == p) (g.served q + 1) (g.served q) }

abbrev pub is_some : Option ℕ → Bool
is_some None = false
is_some (Some x) = true

module _ (O : Ops) where
  pub record Done : Type 0 where
    pub answer : Option O.Answer
    pub child : Option ℕ
    pub taken : Option O.Taken
    pub ended : Bool
    pub more : Bool

  pub data Note : Type 0 where
    Call : (pid : ℕ) (request : O.Request) → Note
    Pause : (pid : ℕ) (room : Bool) → Note
    Reply : (pid : ℕ) (done : Done) → Note
    Poke : (pid : ℕ) → Note
    Go : (pid to hops line : ℕ) → Note
    NotHere : (pid to hops line : ℕ) → Note
    Ask : (pid need : ℕ) → Note
    Allow : (pid : ℕ) → Note
    Deny : (pid need free : ℕ) → Note
    Move : (pid : ℕ) (user : O.User) (hops : ℕ) (line : Option ℕ) → Note
    Landed : (pid source hops : ℕ) (line : Option ℕ) → Note
    NoMove : (line : ℕ) → Note
    Half : (places : List (Option Entry)) → Note

  pub record Post : Type 0 where
    pub from : ℕ
    pub to : ℕ
    pub stamp : ℕ
    pub note : Note

  abbrev pub letter : ℕ → ℕ → ℕ → Note → Post
  letter a b s m = record { from = a; to = b; stamp = s; note = m }

  pub record Turn : Type 0 where
    pub event : Noted
    pub taken : Option Post
    pub posted : List Post

  -- what moves with a process, and the flag that its node keeps
  pub record Body : Type 0 where
    pub user : O.User
    pub hops : ℕ
    pub poked : Bool

  abbrev pub fresh : O.User → Body
  fresh u = record { user = u; hops = 0; poked = false }

  pub record Context : Type 0 where
    pub body : Body
    pub state : State

  abbrev pub context : Body → State → Context
  context b s = record { body = b; state = s }

  pub record Called : Type 0 where
    pub from : ℕ
    pub request : O.Request

  -- all that a node keeps of one pid
  pub record Slot : Type 0 where
    pub context : Option Context
    pub reserve : Option ℕ
    pub call : Option Called

  pub record Local : Type 0 where
    pub clock : ℕ
    pub kernel : O.Kernel
    pub slots : ℕ → Slot
    pub believed : ℕ → Believed
    pub progress : Progress
    pub gossip : Gossip

  pub record Way : Type 0 where
    pub from : ℕ
    pub to : ℕ
    pub note : Note

  abbrev pub way : ℕ → ℕ → Note → Way
  way a b m = record { from = a; to = b; note = m }
