-- The outside in memory: what a call answers and what it leaves, exactly.
use Rattle.std.specs.Prelude.{◌≡◌, ℕ, ◌+◌, ◌≤◌, ◌<◌, List, ◌++◌, length, take, drop, min, Bool, true, false, ◌||◌, nat_lt, Option, Some, None, Result, Ok, Err, refl}
use Rattle.std.specs.Coded.{Coded, code_by, coded×, coded_ℕ, coded_list}
use Rattle.call_table.specs.contracts.files.Named as named_row
use Rattle.outside.specs.contracts.plan.Plan as plan_row
use Rattle.outside.specs.declared.plan.Plan.{Plan}
use Rattle.outside.specs.declared.traits.Failed.{Failed}
use Rattle.outside.specs.declared.traits.LoadFault.{LoadFault}
use Rattle.outside.specs.declared.traits.LoadFault.TheVariants as fault
use Rattle.outside.specs.Outside.{NamedFile, file_named}
use Rattle.outside.specs.Fails.{fails_next, after_call, after_fault}
use Rattle.call_table.specs.declared.limit.TheConstants.{IMAGE_BYTES}

-- ---- a source: the bytes that are left

pub record SourceState : Type 0 where
  pub left : List ℕ
  pub plan : Plan

-- a listed call fails and takes nothing; any other gives the next bytes, as many as there are and fit, at the front of the buffer
abbrev pub Reads : SourceState → List ℕ → Result ℕ Failed → SourceState → List ℕ → Type 0
Reads old before (Err e) new after = (fails_next old.plan ≡ true) × (new ≡ record old { plan = after_fault old.plan }) × (after ≡ before)
Reads old before (Ok n) new after =
    (fails_next old.plan ≡ false) × (n ≡ min (length before) (length old.left))
    × (new ≡ record { left = drop n old.left; plan = after_call old.plan })
    × (after ≡ take n old.left ++ drop n before)

-- ---- a sink: what was written, and how many bytes it holds at most

pub record SinkState : Type 0 where
  pub written : List ℕ
  pub room : ℕ
  pub plan : Plan

-- whether bytes more would pass the room
abbrev pub passes_room : SinkState → List ℕ → Bool
passes_room s bytes = nat_lt s.room (length s.written + length bytes)

-- whether a write fails
abbrev pub write_fails : SinkState → List ℕ → Bool
write_fails s bytes = fails_next s.plan || passes_room s bytes

-- a listed call and one that would pass the room fail and write nothing; any other appends the bytes
abbrev pub Writes : SinkState → List ℕ → Result (Unit {0}) Failed → SinkState → Type 0
Writes old bytes (Err e) new = (write_fails old bytes ≡ true) × (new ≡ record old { plan = after_fault old.plan })
Writes old bytes (Ok u) new =
    (write_fails old bytes ≡ false) × (new ≡ record old { written = old.written ++ bytes; plan = after_call old.plan })

-- ---- files by name

pub record ImagesState : Type 0 where
  pub files : List NamedFile
  pub plan : Plan

-- the bytes of a file that can be loaded
abbrev pub IsLoadable : Option (List ℕ) → List ℕ → Type 0
IsLoadable file bytes = (file ≡ Some bytes) × (length bytes ≤ IMAGE_BYTES)

-- why a file is not loaded by a call that is not listed
abbrev pub IsMissed : Option (List ℕ) → LoadFault → Type 0
IsMissed file fault.Absent = file ≡ None
IsMissed file fault.TooLong = (bytes : List ℕ) × (file ≡ Some bytes) × (IMAGE_BYTES < length bytes)
IsMissed file fault.NoMemory = (bytes : List ℕ) × IsLoadable file bytes
IsMissed file fault.Failed = ⊥

-- what a call that is not listed answers
abbrev pub LoadedOr : Option (List ℕ) → Result (List ℕ) LoadFault → Type 0
LoadedOr file (Ok bytes) = IsLoadable file bytes
LoadedOr file (Err e) = IsMissed file e

-- the same of any call
abbrev pub IsRefused : ImagesState → List ℕ → LoadFault → ImagesState → Type 0
IsRefused old name fault.Failed new = (fails_next old.plan ≡ true) × (new ≡ record old { plan = after_fault old.plan })
IsRefused old name e new =
    (fails_next old.plan ≡ false) × IsMissed (file_named old.files name) e × (new ≡ record old { plan = after_call old.plan })

-- a listed call fails; any other gives the file's bytes, unless it is absent or too long, or memory is wanting
abbrev pub Loads : ImagesState → List ℕ → Result (List ℕ) LoadFault → ImagesState → Type 0
Loads old name (Ok bytes) new =
    (fails_next old.plan ≡ false) × IsLoadable (file_named old.files name) bytes × (new ≡ record old { plan = after_call old.plan })
Loads old name (Err e) new = IsRefused old name e new

-- ---- how these are told apart

abbrev pub coded_source : Coded SourceState
coded_source = code_by (List ℕ × Plan) (coded× (coded_list coded_ℕ) plan_row.the_row.coded)
    (λ s. (s.left, s.plan)) (λ p. record { left = p.0; plan = p.1 }) (λ _. refl)

abbrev pub coded_sink : Coded SinkState
coded_sink = code_by (List ℕ × (ℕ × Plan)) (coded× (coded_list coded_ℕ) (coded× coded_ℕ plan_row.the_row.coded))
    (λ s. (s.written, (s.room, s.plan))) (λ p. record { written = p.0; room = p.1.0; plan = p.1.1 }) (λ _. refl)

abbrev pub coded_images : Coded ImagesState
coded_images = code_by (List NamedFile × Plan) (coded× (coded_list named_row.the_row.coded) plan_row.the_row.coded)
    (λ s. (s.files, s.plan)) (λ p. record { files = p.0; plan = p.1 }) (λ _. refl)
