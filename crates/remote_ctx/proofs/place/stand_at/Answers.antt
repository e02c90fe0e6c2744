use Rattle.std.proofs.Common.{refl, arith}
use Rattle.std.proofs.lemmas.Option.{gets}
use Rattle.remote_ctx.proofs.place.stand_at.Goals as goal

pub returns : goal.returns
returns c = record {
  context = c.index_mut-context.result.now;
  here = grind (arith, gets, c.index_mut-context.ensures.value);
  ran_is = c.is_running-ran.ensures;
  sets = refl;
}
