use Rattle.std.proofs.Common.{take, drop, arith, ap, refl, ◌∙◌}
use Rattle.fs_memory.specs.Blocks.{Blocks, flat}
use Rattle.fs_memory.proofs.ContentLemmas.{read_fits, read_is}
use Rattle.fs_memory.proofs.content.Content.read.Goals as goal

pub read-requires-clause-within : goal.read-requires-clause-within
read-requires-clause-within c = rw c.deref.ensures.value (read_fits c.self.inside.blocks.items c.self.inside.len c.args.at c.args.len c.min-count.result c.self.invariant (omega arith) c.min-count.ensures)

pub returns : goal.returns
returns c =
    rw (← c.self.view_is)
    (c.from_vec.ensures ∙ c.in_ok-bytes.ensures ∙ ap (λ (bs : Blocks). take c.min-count.result (drop c.args.at (flat bs))) c.deref.ensures.value
    ∙ ap (λ k. take k (drop c.args.at (flat c.self.inside.blocks.items))) c.min-count.ensures
    ∙ read_is c.self.inside.blocks.items c.self.inside.len c.args.at c.args.len _ (omega arith) refl)
