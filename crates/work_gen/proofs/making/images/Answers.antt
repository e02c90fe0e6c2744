use Rattle.std.proofs.Common.{◌∙◌, get_or}
use Rattle.std.proofs.lemmas.List.{get_or_default}
use Rattle.work_gen.specs.declared.draw.Draw.{Draw}
use Rattle.work_gen.specs.declared.draw.Kind.TheVariants.{Counts}
use Rattle.work_gen.proofs.ImageLemmas.{images_next, count_next, refused_at}
use Rattle.work_gen.proofs.making.images.Goals as goal

abbrev blank : Draw
blank = record { kind = Counts; size = 0 }

pub returns-in-Err-clause-refused : goal.returns-in-Err-clause-refused
returns-in-Err-clause-refused c =
    refused_at c.args.draws.now c.loop-draw.draw-index c.len.result blank c.in-Err.error c.loop-draw-test.true (c.len.ensures ∙ c.loop-draw.invariant.count) c.in-Err.ensures.refused

pub loop-draw-preserved : goal.loop-draw-preserved
loop-draw-preserved c = record {
  count = count_next c.loop-draw.draw-index c.loop-draw.images c.push.new.self c.in-Ok.image c.loop-draw.invariant.count c.in-Ok-push.ensures.ok;
  made = images_next c.args.draws.now c.loop-draw.draw-index c.len.result blank c.loop-draw.images c.push.new.self c.in-Ok.image c.loop-draw-test.true (c.len.ensures ∙ c.loop-draw.invariant.count) c.loop-draw.invariant.made c.in-Ok.ensures.ok c.in-Ok-push.ensures.ok;
}
