use Rattle.std.proofs.Common.{arith, ◌-◌}
use Rattle.user_ctx.proofs.Breaks.{too_many, too_wide, fits, maps}
use Rattle.user_ctx.proofs.Known.{counted}
use Rattle.user_ctx.proofs.user.User.plan.Goals as goal

pub returns-then-count : goal.returns-then-count
returns-then-count c =
    too_many _ _ c.self.view_is c.args.a c.page_above-end.result (c.page_above-end.result - c.min-low.result - c.mapped_in.result) c.mapped_in-gone.result c.count.result (counted _ c.self.inside.full c.self.inside.bare c.args.a c.min-low.result c.page_above-end.result c.max.result c.mapped_in.result c.mapped_in-gone.result c.count.result c.self.invariant.2 (omega arith) (omega arith) c.page_above-end.ensures.is c.min-low.ensures c.max.ensures c.mapped_in.ensures.is c.mapped_in.ensures.most c.mapped_in-gone.ensures.is c.mapped_in-gone.ensures.all c.count.ensures.is) (omega arith)

pub returns-then-lacking-eq0 : goal.returns-then-lacking-eq0
returns-then-lacking-eq0 c =
    fits _ _ c.self.view_is c.args.a c.page_above-end.result (c.page_above-end.result - c.min-low.result - c.mapped_in.result) c.mapped_in-gone.result c.count.result (counted _ c.self.inside.full c.self.inside.bare c.args.a c.min-low.result c.page_above-end.result c.max.result c.mapped_in.result c.mapped_in-gone.result c.count.result c.self.invariant.2 (omega arith) (omega arith) c.page_above-end.ensures.is c.min-low.ensures c.max.ensures c.mapped_in.ensures.is c.mapped_in.ensures.most c.mapped_in-gone.ensures.is c.mapped_in-gone.ensures.all c.count.ensures.is) c.if-a-eq0.false (omega arith) c.if-lacking-eq0.true

pub returns-else-lacking-eq0 : goal.returns-else-lacking-eq0
returns-else-lacking-eq0 c =
    maps _ _ c.self.view_is c.args.a c.page_above-end.result (c.page_above-end.result - c.min-low.result - c.mapped_in.result) c.mapped_in-gone.result c.count.result (counted _ c.self.inside.full c.self.inside.bare c.args.a c.min-low.result c.page_above-end.result c.max.result c.mapped_in.result c.mapped_in-gone.result c.count.result c.self.invariant.2 (omega arith) (omega arith) c.page_above-end.ensures.is c.min-low.ensures c.max.ensures c.mapped_in.ensures.is c.mapped_in.ensures.most c.mapped_in-gone.ensures.is c.mapped_in-gone.ensures.all c.count.ensures.is) c.if-a-eq0.false (omega arith) c.if-lacking-eq0.false

pub returns-then-end-self-gt-PAGES : goal.returns-then-end-self-gt-PAGES
returns-then-end-self-gt-PAGES c = too_wide _ _ c.self.view_is c.args.a c.page_above-end.result c.page_above-end.ensures.is (omega arith)
