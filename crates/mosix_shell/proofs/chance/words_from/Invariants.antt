use Rattle.std.proofs.Common.{◌≡◌, ◌-◌, ◌++◌}
use Rattle.mosix_shell.specs.Stage.{words_from}
use Rattle.mosix_shell.proofs.chance.words_from.Given as goal

-- the words that were drawn, and those that are left, are all
abbrev pub invariant-loop-i : goal.invariant-loop-i
invariant-loop-i g l = l.words.items ++ words_from (l.count - l._i) (g.R.Rng.stream l.rng) ≡ words_from l.count (g.R.Rng.stream l.fn.rng)
