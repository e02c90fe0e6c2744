use Rattle.std.proofs.Common.{◌≡◌, ◌∙◌, ap, List}
use Rattle.rand_pcg.specs.Lcg.{Lcg}
use Rattle.work_gen.specs.Draws.{draws_from, draws_of}
use Rattle.work_gen.specs.declared.draw.Draw.{Draw}
use Rattle.work_gen.proofs.draw.draws_of.Goals as goal

pub returns : goal.returns
unfolding draws_of
returns c = c.in_ok-draws.ensures ∙ ap (λ (chance : Lcg). draws_from 16 chance) c.seed_from_u64.ensures
