-- What is drawn: for each image two words of chance, the first for its kind and the second for its size.
use Rattle.std.specs.Prelude.{ℕ, zero, suc, ◌+◌, ◌%◌, ◌==◌, List, [], ◌∷◌, if◌then◌else◌}
use Rattle.rand_core.specs.Pcg32Seed.{pcg32_seed}
use Rattle.rand_pcg.specs.Lcg.{Lcg}
use Rattle.rand_pcg.specs.Pcg.{pcg32, pcg32_of_seed}
use Rattle.work_gen.specs.declared.draw.Kind.{Kind}
use Rattle.work_gen.specs.declared.draw.Kind.TheVariants.{Counts, Pipes, Writes, Signals}
use Rattle.work_gen.specs.declared.draw.Draw.{Draw}

-- a fourth of all words for each kind
abbrev pub kind_of : ℕ → Kind
kind_of word = if word % 4 == 0 then Counts else (if word % 4 == 1 then Pipes else (if word % 4 == 2 then Writes else Signals))

-- from 1 to 1,000
abbrev pub size_of : ℕ → ℕ
size_of word = 1 + word % 1000

-- what two words of a generator draw, and the generator behind them
abbrev pub drawn : Lcg → Draw
drawn chance = record { kind = kind_of (pcg32 chance).0; size = size_of (pcg32 (pcg32 chance).1).0 }

abbrev pub after : Lcg → Lcg
after chance = (pcg32 (pcg32 chance).1).1

-- so many draws, one after the other
abbrev pub draws_from : ℕ → Lcg → List Draw
draws_from zero chance = []
draws_from (suc n) chance = drawn chance ∷ draws_from n (after chance)

-- the generator of a seed
abbrev pub chance_of : ℕ → Lcg
chance_of seed = pcg32_of_seed (pcg32_seed 16 seed)

-- the draws of a seed's sixteen images
unfoldable pub draws_of : ℕ → List Draw
draws_of seed = draws_from 16 (chance_of seed)
