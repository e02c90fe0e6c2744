use Rattle.std.proofs.Common.{None, refl, arith}
use Rattle.page_set.specs.declared.entry.Entry.{Entry}
use Rattle.page_set.proofs.Entries.{none_same}
use Rattle.page_set.proofs.entry.no_entries.Goals as goal

pub returns-clause-same : goal.returns-clause-same
returns-clause-same c =
    let entry : Entry = record { frame = None; readable = 0xFFFFFFFFFFFFFFFF; writable = 0xFFFFFFFFFFFFFFFF } in
    none_same _ c.args.leaves.now.items entry refl (omega arith)
