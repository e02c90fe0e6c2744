use Rattle.work_gen.specs.Draws.{draws_from}
use Rattle.work_gen.proofs.DrawLemmas.{draws_next, draws_end}
use Rattle.work_gen.proofs.draw.draws_from.Goals as goal

pub loop-i-preserved : goal.loop-i-preserved
loop-i-preserved c =
    draws_next c.args.count c.loop-i._i c.next_draw.result c.loop-i.draws.items c.push.new.self.items (draws_from c.args.count c.args.chance.now) c.loop-i.chance c.next_draw.new.chance c.loop-i-test.true c.loop-i.invariant c.in_ok-push.ensures.items c.next_draw.ensures.is c.next_draw.ensures.rest

pub returns : goal.returns
returns c = draws_end c.args.count c.loop-i._i c.loop-i.draws.items (draws_from c.args.count c.args.chance.now) c.loop-i.chance c.loop-i-test.false c.loop-i.invariant
