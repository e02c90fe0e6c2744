-- What is told of the outside, and promises that are made where something is told.
use Rattle.std.specs.Prelude.{◌≡◌, ℕ, List, Option, Some, None}
use Rattle.outside.specs.Outside.{Rose}

-- a promise that is made only where something is told
abbrev pub WhereTold : {A : Type 0} → Option A → (A → Type 0) → Type 0
WhereTold None P = Unit {0}
WhereTold (Some x) P = P x

-- a text is that of a source, where it is told
abbrev pub IsTextOf : Option (List ℕ) → List ℕ → Type 0
IsTextOf left text = WhereTold left (λ bytes. text ≡ bytes)

-- an object of the outside before and after a call, with what it tells, where it tells, and its count of faults
pub record Seen (T A : Type 0) : Type 0 where
  pub tells : T → Option A
  pub faults : T → ℕ
  pub old : T
  pub new : T

abbrev pub seen : {T A : Type 0} → (T → Option A) → (T → ℕ) → T → T → Seen T A
seen tells faults old new = record { tells = tells; faults = faults; old = old; new = new }

-- what is at hand: it is told, never fails and stays as it is
abbrev pub kept : {A : Type 0} → A → Seen A A
kept x = seen (λ y. Some y) (λ y. 0) x x

-- what it told before the call
abbrev pub told : {T A : Type 0} → Seen T A → Option A
told s = s.tells s.old

-- and what it tells after it
abbrev pub tells_now : {T A : Type 0} → Seen T A → Option A
tells_now s = s.tells s.new

-- its count of faults rose in the call
abbrev pub HasRisen : {T A : Type 0} → Seen T A → Type 0
HasRisen s = Rose (s.faults s.old) (s.faults s.new)

-- nothing was done to it
abbrev pub IsUntouched : {T A : Type 0} → Seen T A → Type 0
IsUntouched s = s.new ≡ s.old
