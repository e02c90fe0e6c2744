-- What the outside answers.
use Rattle.std.specs.Prelude.{◌≡◌, ℕ, ◌+◌, ◌-◌, ◌^◌, ◌≤◌, ◌<◌, min, List, [], ◌∷◌, ◌++◌, length, take, drop, Option, Some, None, Result, Ok, Err, OnErr, nat_eq, ◌==◌, Bool, if◌then◌else◌}
use Rattle.std.specs.List.{list_any}
use Rattle.std.specs.Cmp.Lexicographic.{pointwise}
use Rattle.call_table.specs.declared.files.Named.{Named}
use Rattle.outside.specs.declared.traits.Failed.{Failed}
use Rattle.outside.specs.declared.traits.LoadFault.{LoadFault}
use Rattle.outside.specs.declared.traits.LoadFault.TheVariants as fault
use Rattle.call_table.specs.declared.limit.TheConstants.{IMAGE_BYTES}

-- a count rose, or stands at its end
abbrev pub Rose : ℕ → ℕ → Type 0
Rose before now = min (before + 1) (2 ^ 64 - 1) ≤ now

-- a count never falls, and a failure raised it
pub record HasCause {T E : Type 0} (before now : ℕ) (result : Result T E) : Type 0 where
  pub later : before ≤ now
  pub failed : OnErr result (Rose before now)

-- ---- reading

-- the next bytes, at least one before the end
abbrev pub TakesFrom : List ℕ → Option (List ℕ) → List ℕ → Result ℕ Failed → Type 0
TakesFrom left new into (Ok n) = (n ≤ length left) × (take n into ≡ take n left) × (new ≡ Some (drop n left)) × (n ≡ 0 → 0 < length into → left ≡ [])
TakesFrom left new into (Err e) = new ≡ Some left

abbrev pub Takes : Option (List ℕ) → Option (List ℕ) → List ℕ → Result ℕ Failed → Type 0
Takes None new into r = new ≡ None
Takes (Some left) new into r = TakesFrom left new into r

-- ---- files by name: the first of a name counts

abbrev pub NamedFile : Type 0
NamedFile = Named

abbrev pub file_named : List NamedFile → List ℕ → Option (List ℕ)
file_named [] name = None
file_named (f ∷ fs) name = if pointwise nat_eq name f.name then Some f.bytes else file_named fs name

-- a name with a `/` may be that of a file in another folder
abbrev pub has_slash : List ℕ → Bool
has_slash name = list_any (λ byte. byte == 47) name

abbrev pub Misses : Option (List ℕ) → LoadFault → Type 0
Misses file fault.Absent = file ≡ None
Misses file fault.TooLong = (bytes : List ℕ) × (file ≡ Some bytes) × (IMAGE_BYTES < length bytes)
Misses file fault.Failed = Unit {0}
Misses file fault.NoMemory = Unit {0}

abbrev pub LoadedFrom : Option (List ℕ) → Result (List ℕ) LoadFault → Type 0
LoadedFrom file (Ok bytes) = (file ≡ Some bytes) × (length bytes ≤ IMAGE_BYTES)
LoadedFrom file (Err e) = Misses file e

-- files that are not told are never absent or too long
abbrev pub MissesUntold : LoadFault → Type 0
MissesUntold fault.Absent = ⊥
MissesUntold fault.TooLong = ⊥
MissesUntold fault.Failed = Unit {0}
MissesUntold fault.NoMemory = Unit {0}

abbrev pub LoadedUntold : Result (List ℕ) LoadFault → Type 0
LoadedUntold (Ok bytes) = Unit {0}
LoadedUntold (Err e) = MissesUntold e

abbrev pub Loaded : Option (List NamedFile) → List ℕ → Result (List ℕ) LoadFault → Type 0
Loaded None name r = LoadedUntold r
Loaded (Some names) name r = LoadedFrom (file_named names name) r

-- absence and length are told only where the files are
abbrev pub RoseAt : LoadFault → ℕ → ℕ → Type 0
RoseAt fault.Absent before now = Unit {0}
RoseAt fault.TooLong before now = Unit {0}
RoseAt fault.Failed before now = Rose before now
RoseAt fault.NoMemory before now = Unit {0}

abbrev pub LoadRose : Result (List ℕ) LoadFault → ℕ → ℕ → Type 0
LoadRose (Ok bytes) before now = Unit {0}
LoadRose (Err e) before now = RoseAt e before now

pub record LoadCause (before now : ℕ) (result : Result (List ℕ) LoadFault) : Type 0 where
  pub later : before ≤ now
  pub failed : LoadRose result before now

-- ---- writing

abbrev pub AppendsTo : List ℕ → Option (List ℕ) → List ℕ → Result (Unit {0}) Failed → Type 0
AppendsTo old new bytes (Ok u) = new ≡ Some (old ++ bytes)
AppendsTo old new bytes (Err e) = (front : List ℕ) × (rest : List ℕ) × (bytes ≡ front ++ rest) × (new ≡ Some (old ++ front))

abbrev pub Appends : Option (List ℕ) → Option (List ℕ) → List ℕ → Result (Unit {0}) Failed → Type 0
Appends None new bytes r = new ≡ None
Appends (Some old) new bytes r = AppendsTo old new bytes r
