-- The status by which the program ends.
use Rattle.std.specs.Prelude.{◌≡◌, ℕ, List, Option}
use Rattle.outside.specs.Outside.{NamedFile}
use Rattle.rand_core.specs.Stream.{Stream}
use Rattle.rand_core.specs.Pcg32Seed.{pcg32_seed}
use Rattle.rand_core.specs.Steps.{stream_of, steps_u32}
use Rattle.rand_pcg.specs.Pcg.{pcg32, pcg32_of_seed}
use Rattle.mosix_words.specs.declared.settings.Settings.{Settings}
use Rattle.mosix_shell.specs.Told.{Seen}
use Rattle.mosix_shell.specs.Why.{status_of}
use Rattle.mosix_shell.specs.Ushering.{ushered}
use Rattle.mosix_shell.specs.Answers.{Answers}
use Rattle.mosix_shell.specs.declared.mosix.Ended.{Ended}

-- the words of chance of a seed
abbrev pub chance_from : ℕ → Stream
chance_from seed = stream_of (steps_u32 pcg32) (pcg32_of_seed (pcg32_seed 16 seed))

-- it is the status of what the top call answers under the usher, where the words of chance are those of the seed 1 unless the words give another
pub record Exits {S I O : Type 0} (words : Option Settings) (script : Seen S (List ℕ)) (images : Seen I (List NamedFile)) (sink : Seen O (List ℕ)) (status : ℕ) : Type 0 where
  pub ended : Ended
  pub answers : Answers ushered (chance_from 1) words script images sink ended
  pub status_is : status ≡ status_of ended.why
