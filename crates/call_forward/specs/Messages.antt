-- What a message says of where it may go and of whom it speaks.
use Rattle.std.specs.Prelude.{ℕ, Bool, true, false, nat_lt, Option, Some, None, List, [], ◌∷◌}
use Rattle.std.specs.List.{flat_map, list_all}
use Rattle.call_table.specs.declared.process.Entry.{Entry}
use Rattle.call_forward.specs.declared.message.Message.{Message}
use Rattle.call_forward.specs.declared.message.Message.TheVariants.{Call, Pause, Reply, Poke, Go, NotHere, Ask, Allow, Deny, Move, Landed, NoMove, Half}

-- the messages that go to home alone
abbrev pub is_to_home : Message → Bool
is_to_home (Call pid request) = true
is_to_home (Pause pid room) = true
is_to_home (Reply pid done) = false
is_to_home (Poke pid) = false
is_to_home (Go pid to hops line) = false
is_to_home (NotHere pid to hops line) = true
is_to_home (Ask pid need) = false
is_to_home (Allow pid) = false
is_to_home (Deny pid need free) = false
is_to_home (Move pid user hops line) = false
is_to_home (Landed pid source hops line) = true
is_to_home (NoMove line) = true
is_to_home (Half places) = false

-- the process that a message speaks of
abbrev pub pid_of : Message → Option ℕ
pid_of (Call pid request) = Some pid
pid_of (Pause pid room) = Some pid
pid_of (Reply pid done) = Some pid
pid_of (Poke pid) = Some pid
pid_of (Go pid to hops line) = Some pid
pid_of (NotHere pid to hops line) = Some pid
pid_of (Ask pid need) = Some pid
pid_of (Allow pid) = Some pid
pid_of (Deny pid need free) = Some pid
pid_of (Move pid user hops line) = Some pid
pid_of (Landed pid source hops line) = Some pid
pid_of (NoMove line) = None
pid_of (Half places) = None

-- the node of an entry, if there is one
abbrev pub node_of_entry : Option Entry → List ℕ
node_of_entry None = []
node_of_entry (Some entry) = entry.node ∷ []

-- the nodes that a message names, beside its sender and its receiver
abbrev pub nodes_of : Message → List ℕ
nodes_of (Call pid request) = []
nodes_of (Pause pid room) = []
nodes_of (Reply pid done) = []
nodes_of (Poke pid) = []
nodes_of (Go pid to hops line) = to ∷ []
nodes_of (NotHere pid to hops line) = to ∷ []
nodes_of (Ask pid need) = []
nodes_of (Allow pid) = []
nodes_of (Deny pid need free) = []
nodes_of (Move pid user hops line) = []
nodes_of (Landed pid source hops line) = source ∷ []
nodes_of (NoMove line) = []
nodes_of (Half places) = flat_map node_of_entry places

-- each of these nodes is below n
abbrev pub are_below : ℕ → List ℕ → Bool
are_below n nodes = list_all (λ node. nat_lt node n) nodes
