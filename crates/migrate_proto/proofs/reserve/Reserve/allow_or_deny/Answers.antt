use Rattle.std.proofs.Common.{ℕ, ◌-◌, ap, ◌∙◌, arith}
use Rattle.migrate_proto.proofs.KeptLemmas.{denied, allowed, total_is, len_is, pushed_kept, pushed_map, pushed_pages}
use Rattle.migrate_proto.proofs.reserve.Reserve.allow_or_deny.Goals as goal

pub returns-then-free-need-clause-answer : goal.returns-then-free-need-clause-answer
returns-then-free-need-clause-answer c = denied c.args.need c.free-free.result _ (c.free-free.ensures ∙ ap (λ (n : ℕ). c.args.cap - c.args.held - n) (total_is c.self.inside.entries.items c.args.self.now _ c.self.inside.total c.self.view_is c.self.invariant)) c.if-free-need.true

pub push_reserved-requires : goal.push_reserved-requires
push_reserved-requires c = omega (arith, len_is c.self.inside.entries.items c.args.self.now _ c.self.inside.total c.self.view_is c.self.invariant, c.requires.room, c.self.invariant.room, c.self.inside.entries.ok.0)

pub invariant_of-self : goal.invariant_of-self
invariant_of-self c = pushed_kept c.self.inside.entries.items c.args.self.now _ c.self.inside.total c.self.view_is c.self.invariant c.args.pid c.args.need c.requires.fresh c.requires.room c.push_reserved.new.self.items c.push_reserved.ensures.items _ c.push_reserved.ensures.capacity

pub returns-clause-answer : goal.returns-clause-answer
returns-clause-answer c = allowed c.args.need c.free-free.result _ (c.free-free.ensures ∙ ap (λ (n : ℕ). c.args.cap - c.args.held - n) (total_is c.self.inside.entries.items c.args.self.now _ c.self.inside.total c.self.view_is c.self.invariant)) c.if-free-need.false

pub returns-clause-allowed : goal.returns-clause-allowed
returns-clause-allowed c = λ e. (
  pushed_map c.self.inside.entries.items c.args.self.now _ c.self.inside.total c.self.view_is c.self.invariant c.args.pid c.args.need c.requires.fresh c.requires.room c.push_reserved.new.self.items c.push_reserved.ensures.items,
  pushed_pages c.self.inside.entries.items c.args.self.now _ c.self.inside.total c.self.view_is c.self.invariant c.args.pid c.args.need c.requires.fresh c.requires.room c.push_reserved.new.self.items c.push_reserved.ensures.items,
)
