-- Which calls on the outside in memory fail, and how they are counted.
use Rattle.std.specs.Prelude.{◌≡◌, ℕ, ◌+◌, ◌-◌, ◌^◌, ◌==◌, List, Bool, ◌&&◌, nat_lt, min, Result, Ok, Err}
use Rattle.std.specs.List.{list_any}
use Rattle.outside.specs.declared.plan.Plan.{Plan}
use Rattle.outside.specs.declared.traits.LoadFault.{LoadFault}
use Rattle.outside.specs.declared.traits.LoadFault.TheVariants as fault

-- a count raised by one: it stands still at its type's end
abbrev pub one_more : ℕ → ℕ
one_more count = min (count + 1) (2 ^ 64 - 1)

-- whether a call is one of those that fail
abbrev pub is_listed : List ℕ → ℕ → Bool
is_listed fails call = list_any (λ n. n == call) fails

-- no call was made
abbrev pub fresh : List ℕ → Plan
fresh fails = record { made = 0; fails = fails; faults = 0 }

-- whether the next call is listed: its number is one more than that of the calls made, and no list has a number from 2^64 on
abbrev pub fails_next : Plan → Bool
fails_next plan = nat_lt plan.made (2 ^ 64 - 1) && is_listed plan.fails (plan.made + 1)

-- after a call that did not fail
abbrev pub after_call : Plan → Plan
after_call plan = record plan { made = one_more plan.made }

-- after a call that failed
abbrev pub after_fault : Plan → Plan
after_fault plan = record plan { made = one_more plan.made; faults = one_more plan.faults }

-- a count rises by one exactly at a failure
abbrev pub Counts : {T E : Type 0} → ℕ → ℕ → Result T E → Type 0
Counts before now (Ok x) = now ≡ before
Counts before now (Err e) = now ≡ one_more before

-- the same of the loads of files that are not told: they are never absent or too long
abbrev pub CountsMiss : ℕ → ℕ → LoadFault → Type 0
CountsMiss before now fault.Failed = now ≡ one_more before
CountsMiss before now fault.NoMemory = now ≡ before
CountsMiss before now fault.Absent = ⊥
CountsMiss before now fault.TooLong = ⊥

abbrev pub CountsLoad : {T : Type 0} → ℕ → ℕ → Result T LoadFault → Type 0
CountsLoad before now (Ok x) = now ≡ before
CountsLoad before now (Err e) = CountsMiss before now e
