use Rattle.std.proofs.Common.{subst}
use Rattle.remote_ctx.specs.Hosted.{AreApart}
use Rattle.remote_ctx.proofs.Kept.{rising_apart}
use Rattle.remote_ctx.proofs.Sums.{count_all}
use Rattle.remote_ctx.proofs.hosted.Hosted.load.Goals as goal

pub returns-then-count-clause-apart : goal.returns-then-count-clause-apart
returns-then-count-clause-apart c = subst AreApart c.self.view_is (rising_apart _ c.self.invariant.rising)

pub returns-else-count-clause-apart : goal.returns-else-count-clause-apart
returns-else-count-clause-apart c = subst AreApart c.self.view_is (rising_apart _ c.self.invariant.rising)

pub returns-then-count-clause-sum : goal.returns-then-count-clause-sum
returns-then-count-clause-sum c = count_all _ _ c.self.view_is (rising_apart _ c.self.invariant.rising)

pub returns-else-count-clause-sum : goal.returns-else-count-clause-sum
returns-else-count-clause-sum c = count_all _ _ c.self.view_is (rising_apart _ c.self.invariant.rising)
