use Rattle.std.proofs.Common.{arith}
use Rattle.std.proofs.lemmas.Grind.{common_steps}
use Rattle.fs_memory.proofs.ContentLemmas.{after_write}
use Rattle.fs_memory.proofs.content.Content.write.Goals as goal

pub invariant_of-self-2 : goal.invariant_of-self-2
invariant_of-self-2 c =
    (after_write c.self.inside.blocks.items c.grow.new.blocks.items c.write.new.blocks.items c.self.inside.len c.max-self-inside.result c.args.at c.args.bytes.now
    c.self.invariant c.grow.ensures.grown (grind (arith, common_steps, c.in_ok-grow.ensures.ok, c.div_ceil.ensures)) c.write.ensures.is c.max-self-inside.ensures (grind (arith, common_steps, c.if-is_empty.false, c.is_empty.ensures))).0

pub returns-clause-ok : goal.returns-clause-ok
returns-clause-ok c =
    rw (← c.self.view_is)
    (after_write c.self.inside.blocks.items c.grow.new.blocks.items c.write.new.blocks.items c.self.inside.len c.max-self-inside.result c.args.at c.args.bytes.now
    c.self.invariant c.grow.ensures.grown (grind (arith, common_steps, c.in_ok-grow.ensures.ok, c.div_ceil.ensures)) c.write.ensures.is c.max-self-inside.ensures (grind (arith, common_steps, c.if-is_empty.false, c.is_empty.ensures))).1
