use Rattle.std.proofs.Common.{arith, refl, length, ◌<◌}
use Rattle.user_ctx.proofs.Made.{watched_at, learned_at, ready_set}
use Rattle.user_ctx.proofs.windows.learn_in.Goals as goal

pub learn-requires : goal.learn-requires
learn-requires c =
    let lt : c.args.slot < length c.args.slots.now = omega (arith, c.told-slots, c.requires.slot) in
    (watched_at c.args.pages.now c.args.low c.args.end c.args.slot c.args.slots.now c.index-slots-slot.result c.requires.ready lt).page

pub returns : goal.returns
returns c =
    let lt : c.args.slot < length c.args.slots.now = omega (arith, c.told-slots, c.requires.slot) in
    ready_set _ _ _ c.args.slot c.args.slots.now _ _ c.requires.ready
    (learned_at _ _ _ _ _ (watched_at c.args.pages.now c.args.low c.args.end c.args.slot c.args.slots.now c.index-slots-slot.result c.requires.ready lt) c.learn.ensures.is c.learn.ensures.base) refl
