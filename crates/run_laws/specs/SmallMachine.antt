-- A small machine, on which histories are worked out. A program is a list of steps and calls. Of the kernel it has who lives and how who ended, and one pending
-- signal a process. Signal 9 ends, each other one is handled. One that exits raises 17 at its parent.
use Rattle.std.specs.Prelude.{◌≡◌, ℕ, zero, suc, ◌+◌, ◌==◌, ℤ, pos, negsuc, Bool, true, false, nat_lt, cond, Option, Some, None, List, [], ◌∷◌, length}
use Rattle.call_table.specs.declared.process.End.{End}
use Rattle.call_table.specs.declared.process.End.TheVariants as end
use Rattle.node_event.specs.declared.script.ScriptLine.{ScriptLine}
use Rattle.protocol.specs.Ops.{Ops, Acted, sum_below, one_if}
use Rattle.protocol.specs.Gossip.{Sight, Choice}

pub data Request : Type 0 where
  ExitCall : (code : ℕ) → Request
  ForkCall : Request
  ReadCall : Request
  WriteCall : (count : ℕ) → Request
  KillCall : (pid signal : ℕ) → Request
  FaultAt : (signal : ℕ) → Request

abbrev pub number_of : Request → ℕ
number_of (ExitCall code) = 1
number_of ForkCall = 4
number_of ReadCall = 8
number_of (WriteCall count) = 9
number_of (KillCall p s) = 14
number_of (FaultAt s) = 0

pub data Thing : Type 0 where
  Goes : Thing
  Calls : (request : Request) → Thing

pub record Program : Type 0 where
  pub pid : ℕ
  pub pages : ℕ
  pub todo : List Thing

abbrev pub idle : Program
idle = record { pid = 0; pages = 0; todo = [] }

abbrev pub program_at : List Program → ℕ → Program
program_at [] i = idle
program_at (p ∷ ps) zero = p
program_at (p ∷ ps) (suc i) = program_at ps i

-- the program of a process
abbrev pub named : ℕ → Program → Program
named p u = record { pid = p; pages = u.pages; todo = u.todo }

abbrev pub gone : List Thing → ℕ → Option (List Thing)
gone todo zero = Some todo
gone (Goes ∷ rest) (suc k) = gone rest k
gone _ (suc k) = None

abbrev pub with_todo : Program → Option (List Thing) → Option Program
with_todo u None = None
with_todo u (Some todo) = Some (record { pid = u.pid; pages = u.pages; todo = todo })

-- past its end a program faults
abbrev pub asked : List Thing → Option Request
asked [] = Some (FaultAt 11)
asked (Goes ∷ rest) = None
asked (Calls r ∷ rest) = Some r

abbrev pub tail_of : List Thing → List Thing
tail_of [] = []
tail_of (x ∷ rest) = rest

abbrev pub returned : Program → Program
returned u = record { pid = u.pid; pages = u.pages; todo = tail_of u.todo }

pub record Table : Type 0 where
  pub count : ℕ
  pub alive : ℕ → Bool
  pub ends : ℕ → End
  pub pending : ℕ → Option ℕ
  pub parent : ℕ → ℕ

abbrev pub new_table : Table
new_table = record { count = 0; alive = λ q. false; ends = λ q. end.Exit 0; pending = λ q. None; parent = λ q. 0 }

abbrev pub grown : Table → Table
grown k = record { count = k.count + 1; alive = λ q. cond (q == k.count + 1) true (k.alive q); ends = k.ends; pending = k.pending; parent = k.parent }

abbrev pub ended : ℕ → End → Table → Table
ended p how k = record { count = k.count; alive = λ q. cond (q == p) false (k.alive q); ends = λ q. cond (q == p) how (k.ends q); pending = k.pending; parent = k.parent }

abbrev pub pends : ℕ → Option ℕ → Table → Table
pends p s k = record { count = k.count; alive = k.alive; ends = k.ends; pending = λ q. cond (q == p) s (k.pending q); parent = k.parent }

-- a child of p
abbrev pub born_to : ℕ → Table → Table
born_to p k = record { count = k.count + 1; alive = λ q. cond (q == k.count + 1) true (k.alive q); ends = k.ends; pending = k.pending; parent = λ q. cond (q == k.count + 1) p (k.parent q) }

-- one that lives has no end yet
abbrev pub end_by : Bool → End → Option End
end_by true how = None
end_by false how = Some how

-- nothing where it is not live
abbrev pub raised_at : Bool → ℕ → ℕ → Table → Table
raised_at true p s k = pends p (Some s) k
raised_at false p s k = k

abbrev pub hit_by : Bool → ℕ → Option ℕ
hit_by true p = Some p
hit_by false p = None

abbrev pub plain : Table → ℤ → Acted Table ℤ
plain k answer = record { kernel = k; answer = answer; child = None; raised = None }

-- how many live; a process is made while these are fewer than 64
abbrev pub living : Table → ℕ
living k = sum_below (k.count + 1) (λ q. one_if (k.alive q))

abbrev pub launch_by : Bool → Table → Option Table
launch_by true k = Some (grown k)
launch_by false k = None

-- the parent of one that exits gets signal 17
abbrev pub exit_by : ℕ → Table → Acted Table ℤ
exit_by q k = record { kernel = raised_at (k.alive q) q 17 k; answer = pos 0; child = None; raised = hit_by (k.alive q) q }

abbrev pub fork_by : Bool → ℕ → Table → Acted Table ℤ
fork_by true p k = record { kernel = born_to p k; answer = pos (k.count + 1); child = Some (k.count + 1); raised = None }
fork_by false p k = plain k (negsuc 10)

abbrev pub served_by : Table → ℕ → Request → Option (Acted Table ℤ)
served_by k p (ExitCall code) = Some (exit_by (k.parent p) (ended p (end.Exit code) k))
served_by k p ForkCall = Some (fork_by (nat_lt (living k) 64) p k)
served_by k p ReadCall = None
served_by k p (WriteCall count) = Some (plain k (pos count))
served_by k p (KillCall q s) = Some (record { kernel = raised_at (k.alive q) q s k; answer = pos 0; child = None; raised = hit_by (k.alive q) q })
served_by k p (FaultAt s) = None

abbrev pub signal_or : Option ℕ → ℕ
signal_or None = 0
signal_or (Some s) = s

-- signal 9 ends its process
abbrev pub taken_by : Bool → ℕ → Table → Table
taken_by true p k = ended p (end.Signal 9) (pends p None k)
taken_by false p k = pends p None k

abbrev pub fault_of : Request → ℕ
fault_of (FaultAt s) = s
fault_of _ = 0

abbrev pub no_choice : Sight → Option Choice
no_choice s = None

-- of so many nodes, under this policy
abbrev pub small_of : ℕ → (Sight → Option Choice) → List ScriptLine → List Program → Ops
small_of nodes policy script programs = record {
  User = Program;
  Kernel = Table;
  Request = Request;
  Answer = ℤ;
  Taken = ℕ;
  script = script;
  images = length programs;
  texts = 0;
  loaded = λ i p. named p (program_at programs i);
  nodes = nodes;
  cap = 4;
  quantum = 100;
  went = λ u k. with_todo u (gone u.todo k);
  grows = λ u. false;
  asks = λ u. asked u.todo;
  number = number_of;
  room_of = λ r. true;
  room = λ u. true;
  given = λ u a. returned u;
  entered = λ u t. u;
  forked = λ u c. named c (returned u);
  pages = λ u. u.pages;
  pid_of = λ u. u.pid;
  fits_request = λ r. true;
  fits_answer = λ u a. true;
  fits_taken = λ u t. true;
  Chooses = λ s o. o ≡ policy s;
  word = λ n k. 0;
  new_kernel = new_table;
  count = λ k. k.count;
  live = λ k q. k.alive q;
  end_of = λ k q. end_by (k.alive q) (k.ends q);
  launch = λ k. launch_by (nat_lt (living k) 64) k;
  is_signal = λ s. true;
  raise = λ k p s. raised_at (k.alive p) p s k;
  hit = λ k p s. k.alive p;
  feed = λ k i. k;
  finish = λ k. k;
  serve = served_by;
  value = λ a. a;
  broken = negsuc 3;
  lowest = λ k p. cond (k.alive p) (k.pending p) None;
  take = λ k p b. record { kernel = taken_by (signal_or (k.pending p) == 9) p k; taken = signal_or (k.pending p); raised = None };
  fall = λ k p r. record { kernel = ended p (end.Signal (fault_of r)) k; raised = None };
}

-- of two nodes, under a policy that moves nothing
abbrev pub small : List ScriptLine → List Program → Ops
small script programs = small_of 2 no_choice script programs
