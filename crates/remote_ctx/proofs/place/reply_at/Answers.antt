use Rattle.std.proofs.Common.{◌∙◌, slice_set, ap, arith}
use Rattle.std.proofs.lemmas.Option.{gets}
use Rattle.remote_ctx.specs.Hosted.{pages_of}
use Rattle.remote_ctx.proofs.place.reply_at.Goals as goal

pub returns : goal.returns
returns c = record {
  context = c.index_mut-context.result.now;
  here = grind (arith, gets, c.index_mut-context.ensures.value);
  before = c.reply_in.ensures.before;
  after = c.reply_in.ensures.after ∙ ap pages_of c.reply_in.ensures.is;
  few = c.reply_in.ensures.few;
  sets = ap (slice_set c.args.contexts.now.items c.args.place) c.reply_in.ensures.is;
}
