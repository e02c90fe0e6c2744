-- Mode `gen`: from which seed, and why there is no work.
use Rattle.std.specs.Prelude.{ℕ, Option, Some, None}
use Rattle.work_gen.specs.Work.{IsNoWork}
use Rattle.work_gen.specs.declared.error.WorkError.TheVariants.{Refused}
use Rattle.mosix_shell.specs.declared.why.Why.{Why}
use Rattle.mosix_shell.specs.declared.why.Why.TheVariants.{Done, Stuck, BadWords, BadScript, BadImage, ReadFault, WriteFault, NoMemory, JournalFull, BadSource}

-- the seed of the work: 1 where the words give none
abbrev pub seed_of : Option ℕ → ℕ
seed_of None = 1
seed_of (Some seed) = seed

-- why there is no work: the assembler refuses the text of an image, or memory was wanting
abbrev pub IsUnmade : ℕ → Why → Type 0
IsUnmade seed (BadSource line kind) = IsNoWork seed (Refused line kind)
IsUnmade seed NoMemory = Unit {0}
IsUnmade seed Done = ⊥
IsUnmade seed Stuck = ⊥
IsUnmade seed BadWords = ⊥
IsUnmade seed (BadScript line kind) = ⊥
IsUnmade seed (BadImage line kind) = ⊥
IsUnmade seed ReadFault = ⊥
IsUnmade seed WriteFault = ⊥
IsUnmade seed (JournalFull node) = ⊥
