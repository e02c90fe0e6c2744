use Rattle.mosix_shell.proofs.Telling.{words_next}
use Rattle.mosix_shell.proofs.chance.words_from.Goals as goal

pub loop-i-preserved : goal.loop-i-preserved
loop-i-preserved g c =
    words_next c.args.count c.loop-i._i c.next_u64.result c.loop-i.words.items c.push.new.self.items _ (g.R.Rng.stream c.loop-i.rng) (g.R.Rng.stream c.next_u64.new.self) c.loop-i-test.true c.loop-i.invariant c.in_ok-push.ensures.items c.next_u64.ensures
