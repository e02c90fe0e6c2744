-- What home believes of a process, and what it had been told when it last sent a line's Go, as relations on the events.
use Rattle.std.proofs.Common.{◌≡◌, ℕ, ◌<◌, ◌≤◌, ◌==◌, ◌⊎◌, Bool, true, false, List, ◌∷◌, []}
use Rattle.protocol.specs.Ops.{is_child}
use Rattle.protocol.specs.Deeds.{Deed, Run, Kill, Bid, Unsent, Other, Steps, Sent, Heed, Held, Served, Got, Poked, Begin, Keep, Missed, Again, Allows, Denies, Depart, Stay, Land, Told, Refused, Closed, Gossips, Strange, Noted}
use Rattle.protocol.specs.Notes.{Believed}
use Rattle.run_laws.specs.Facts.{Node, facts}
use Rattle.run_laws.specs.Outcomes.{outcomes}

-- Deed home believes of a process, and what it had been told when it last sent a line's Go, read off the events.
-- A where the test is true, else B
abbrev pub Pick : Bool → Type 0 → Type 0 → Type 0
Pick true A B = A
Pick false A B = B

abbrev pub no_belief : Believed
no_belief = record { place = 0; hops = 0 }

-- an event's step of the belief, over what was believed before
abbrev pub BelievesBy : Deed → ℕ → List Noted → (Believed → Type 0) → Believed → Type 0
BelievesBy (Run line i p) q before Was b = Pick (q == p) (b ≡ no_belief) (Was b)
BelievesBy (Kill line p g poked) q before Was b = Was b
BelievesBy (Bid line p to) q before Was b = Was b
BelievesBy (Unsent line p never) q before Was b = Was b
BelievesBy (Other line input) q before Was b = Was b
BelievesBy (Steps p k) q before Was b = Was b
BelievesBy (Sent p k) q before Was b = Was b
BelievesBy (Heed p) q before Was b = Was b
BelievesBy (Held p k) q before Was b = Was b
BelievesBy (Served p manner number value child signal ends more poked) q before Was b = Pick (is_child child q) ((m : ℕ) × ((facts p before).places ≡ Node m ∷ []) × (b ≡ record { place = m; hops = 0 })) (Was b)
BelievesBy (Got p child ended kept) q before Was b = Was b
BelievesBy (Poked p used) q before Was b = Was b
BelievesBy (Begin p to reason) q before Was b = Was b
BelievesBy (Keep p to line) q before Was b = Was b
BelievesBy (Missed p to line) q before Was b = Was b
BelievesBy (Again p to place line) q before Was b = Was b
BelievesBy (Allows p from need) q before Was b = Was b
BelievesBy (Denies p from need free) q before Was b = Was b
BelievesBy (Depart p to) q before Was b = Was b
BelievesBy (Stay p to need free) q before Was b = Was b
BelievesBy (Land p source) q before Was b = Was b
BelievesBy (Told p at source hops line poked) q before Was b = Pick (q == p) ((was : Believed) × Was was × (((was.hops < hops) × (b ≡ record { place = at; hops = hops })) ⊎ ((hops ≤ was.hops) × (b ≡ was)))) (Was b)
BelievesBy (Refused p to why line) q before Was b = Was b
BelievesBy (Closed line) q before Was b = Was b
BelievesBy (Gossips heard other) q before Was b = Was b
BelievesBy (Strange p) q before Was b = Was b

abbrev pub Believes : ℕ → List Noted → Believed → Type 0
Believes q [] b = b ≡ no_belief
Believes q (e ∷ before) b = BelievesBy e.what q before (Believes q before) b

-- the most hops told when the line's Go was last sent
abbrev pub AskedBy : Deed → ℕ → List Noted → (ℕ → Type 0) → ℕ → Type 0
AskedBy (Run line j p) l before Was i = Was i
AskedBy (Kill line p g poked) l before Was i = Was i
AskedBy (Bid line p to) l before Was i = Pick (line == l) ((b : Believed) × Believes p before b × (i ≡ b.hops)) (Was i)
AskedBy (Unsent line p never) l before Was i = Was i
AskedBy (Other line input) l before Was i = Was i
AskedBy (Steps p k) l before Was i = Was i
AskedBy (Sent p k) l before Was i = Was i
AskedBy (Heed p) l before Was i = Was i
AskedBy (Held p k) l before Was i = Was i
AskedBy (Served p manner number value child signal ends more poked) l before Was i = Was i
AskedBy (Got p child ended kept) l before Was i = Was i
AskedBy (Poked p used) l before Was i = Was i
AskedBy (Begin p to reason) l before Was i = Was i
AskedBy (Keep p to line) l before Was i = Was i
AskedBy (Missed p to line) l before Was i = Was i
AskedBy (Again p to place line) l before Was i = Pick (line == l) ((b : Believed) × Believes p before b × (i ≡ b.hops)) (Was i)
AskedBy (Allows p from need) l before Was i = Was i
AskedBy (Denies p from need free) l before Was i = Was i
AskedBy (Depart p to) l before Was i = Was i
AskedBy (Stay p to need free) l before Was i = Was i
AskedBy (Land p source) l before Was i = Was i
AskedBy (Told p at source hops line poked) l before Was i = Was i
AskedBy (Refused p to why line) l before Was i = Was i
AskedBy (Closed line) l before Was i = Was i
AskedBy (Gossips heard other) l before Was i = Was i
AskedBy (Strange p) l before Was i = Was i

abbrev pub Asked : ℕ → List Noted → ℕ → Type 0
Asked l [] i = i ≡ 0
Asked l (e ∷ before) i = AskedBy e.what l before (Asked l before) i

-- a Go is sent again to the believed place, and only where more hops were told since it was last sent
pub record HasNews (p place line : ℕ) (before : List Noted) : Type 0 where
  pub belief : Believed
  pub believes : Believes p before belief
  pub place_is : place ≡ belief.place
  pub told_then : ℕ
  pub asked : Asked line before told_then
  pub more : told_then < belief.hops
  pub open_line : outcomes line before ≡ 0

abbrev pub NewsLaw : Deed → List Noted → Type 0
NewsLaw (Run line i p) before = Unit {0}
NewsLaw (Kill line p g poked) before = Unit {0}
NewsLaw (Bid line p to) before = Unit {0}
NewsLaw (Unsent line p never) before = Unit {0}
NewsLaw (Other line input) before = Unit {0}
NewsLaw (Steps p k) before = Unit {0}
NewsLaw (Sent p k) before = Unit {0}
NewsLaw (Heed p) before = Unit {0}
NewsLaw (Held p k) before = Unit {0}
NewsLaw (Served p manner number value child signal ends more poked) before = Unit {0}
NewsLaw (Got p child ended kept) before = Unit {0}
NewsLaw (Poked p used) before = Unit {0}
NewsLaw (Begin p to reason) before = Unit {0}
NewsLaw (Keep p to line) before = Unit {0}
NewsLaw (Missed p to line) before = Unit {0}
NewsLaw (Again p to place line) before = HasNews p place line before
NewsLaw (Allows p from need) before = Unit {0}
NewsLaw (Denies p from need free) before = Unit {0}
NewsLaw (Depart p to) before = Unit {0}
NewsLaw (Stay p to need free) before = Unit {0}
NewsLaw (Land p source) before = Unit {0}
NewsLaw (Told p at source hops line poked) before = Unit {0}
NewsLaw (Refused p to why line) before = Unit {0}
NewsLaw (Closed line) before = Unit {0}
NewsLaw (Gossips heard other) before = Unit {0}
NewsLaw (Strange p) before = Unit {0}

abbrev pub NewsEver : List Noted → Type 0
NewsEver [] = Unit {0}
NewsEver (e ∷ before) = NewsLaw e.what before × NewsEver before
