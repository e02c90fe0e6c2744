use Rattle.std.proofs.Common.{refl, arith}
use Rattle.std.proofs.lemmas.Option.{gets}
use Rattle.remote_ctx.proofs.place.go_at.Goals as goal

pub returns-in-Ok-clause-ok : goal.returns-in-Ok-clause-ok
returns-in-Ok-clause-ok c = record {
  context = c.index_mut-context.result.now;
  after = c.go_in.new.context;
  here = grind (arith, gets, c.index_mut-context.ensures.value);
  goes = c.in-Ok.ensures.ok;
  sets = refl;
}
