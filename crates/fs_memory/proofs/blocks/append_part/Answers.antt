use Rattle.std.proofs.Common.{ℕ, List, ◌++◌, ◌+◌, ◌%◌, slice_range, arith, ap, ◌∙◌}
use Rattle.fs_memory.specs.declared.block.Block.{Block}
use Rattle.fs_memory.proofs.BlockLemmas.{read_at_place}
use Rattle.fs_memory.proofs.blocks.append_part.Goals as goal

pub returns : goal.returns
returns c =
    c.in_ok-extend_from_slice.ensures.items
    ∙ ap (λ xs. c.args.out.now.items ++ xs) (read_at_place c.args.blocks.now c.args.place c.args.count c.index-blocks-place.result _ c.requires.there c.requires.within c.index-blocks-place.is (ap (λ (b : Block). slice_range b.bytes (c.args.place % 4096) (c.args.place % 4096 + c.args.count)) c.deref.ensures))
