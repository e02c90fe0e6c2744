use Rattle.std.proofs.Common.{◌%◌, arith, ap, ◌∙◌}
use Rattle.fs_memory.specs.Blocks.{spliced}
use Rattle.fs_memory.specs.declared.block.Block.{Block}
use Rattle.fs_memory.proofs.BlockLemmas.{write_at_place}
use Rattle.fs_memory.proofs.blocks.write_part.Goals as goal

pub returns-clause-is : goal.returns-clause-is
returns-clause-is c =
    write_at_place c.args.blocks.now.items c.args.place c.args.part.now c.index_mut.result.now _ (omega arith) c.requires.within c.index_mut.ensures.value
    (c.put_in.ensures ∙ ap (λ (b : Block). spliced b.bytes (c.args.place % 4096) c.args.part.now) c.deref_mut.ensures.value)
