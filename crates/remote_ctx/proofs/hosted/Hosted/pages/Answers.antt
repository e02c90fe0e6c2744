use Rattle.std.proofs.Common.{subst}
use Rattle.remote_ctx.specs.Hosted.{AreApart}
use Rattle.remote_ctx.proofs.Kept.{rising_apart}
use Rattle.remote_ctx.proofs.Sums.{pages_all}
use Rattle.remote_ctx.proofs.hosted.Hosted.pages.Goals as goal

pub returns-then-self-clause-apart : goal.returns-then-self-clause-apart
returns-then-self-clause-apart c = subst AreApart c.self.view_is (rising_apart _ c.self.invariant.rising)

pub returns-else-self-clause-apart : goal.returns-else-self-clause-apart
returns-else-self-clause-apart c = subst AreApart c.self.view_is (rising_apart _ c.self.invariant.rising)

pub returns-then-self-clause-sum : goal.returns-then-self-clause-sum
returns-then-self-clause-sum c = pages_all _ _ c.self.view_is (rising_apart _ c.self.invariant.rising)

pub returns-else-self-clause-sum : goal.returns-else-self-clause-sum
returns-else-self-clause-sum c = pages_all _ _ c.self.view_is (rising_apart _ c.self.invariant.rising)
