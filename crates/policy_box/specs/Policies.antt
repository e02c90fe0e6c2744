-- What is kept of a chooser.
use Rattle.std.specs.Prelude.{◌≡◌, ◌≢◌, ℕ, ◌^◌, ◌<◌, Option, Some, All, Contains}
use Rattle.call_table.specs.declared.process.Entry.{Entry}
use Rattle.mem_usher.specs.declared.sight.Sight.{Sight}
use Rattle.mem_usher.specs.declared.sight.Choice.{Choice}

-- an entry in the range of its fields
pub record FitsEntry (entry : Entry) : Type 0 where
  pub node : entry.node < 256
  pub load : entry.load < 2 ^ 32
  pub free : entry.free < 2 ^ 32
  pub stamp : entry.stamp < 2 ^ 64

-- a sight in the range of its fields, that knows other nodes alone
pub record IsInRange (sight : Sight) : Type 0 where
  pub node : sight.node < 256
  pub cap : sight.cap < 2 ^ 32
  pub free : sight.free < 2 ^ 32
  pub load : sight.load < 2 ^ 32
  pub entries : All (λ e. FitsEntry e) sight.known
  pub others : All (λ e. e.node ≢ sight.node) sight.known
  pub movable : All (λ p. (p.0 < 2 ^ 32) × (p.1 < 2 ^ 32)) sight.movable

-- the choice is a process that may move, and a known node other than the sight's own
pub record Fits (sight : Sight) (choice : Choice) : Type 0 where
  pub pages : ℕ
  pub movable : Contains sight.movable (choice.pid, pages)
  pub entry : Entry
  pub known : Contains sight.known entry
  pub target : entry.node ≡ choice.to
  pub other : choice.to ≢ sight.node

-- F answers sights by R: which answers it may give on each
module _ {F : Type 0} (R : F → Sight → Option Choice → Type 0) (choose : F) where
  -- each choice fits its sight
  abbrev pub ChoosesFit : Type 0
  ChoosesFit = (sight : Sight) (choice : Choice) → IsInRange sight → R choose sight (Some choice) → Fits sight choice

  -- it has one answer on each sight
  abbrev pub HasOneAnswer : Type 0
  HasOneAnswer = (sight : Sight) (a b : Option Choice) → IsInRange sight → R choose sight a → R choose sight b → a ≡ b

-- the facts that are kept of it
pub record IsChooser {F : Type 0} (callable : F → Type 0) (R : F → Sight → Option Choice → Type 0) (choose : F) : Type 0 where
  pub asked : callable choose
  pub fits : ChoosesFit R choose
  pub one : HasOneAnswer R choose
