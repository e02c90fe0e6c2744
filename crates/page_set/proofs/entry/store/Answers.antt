use Rattle.std.proofs.Common.{refl, sym, subst, ◌≡◌, ◌≤◌, ◌+◌, ◌/◌, ◌%◌, ◌^◌, length, IsSome}
use Rattle.page_set.specs.declared.entry.Entry.{Entry}
use Rattle.page_set.specs.Entries.{Wrote, frame_of_entry}
use Rattle.page_set.proofs.Entries.{writable_there, write_fits, stored_cached}
use Rattle.page_set.proofs.entry.store.Goals as goal

pub write_entry-requires-clause-at : goal.write_entry-requires-clause-at
write_entry-requires-clause-at c =
    subst (λ (entry : Entry). entry.writable ≡ c.page_of_last-last.result → c.args.addr % 4096 + length c.args.bytes.now ≤ 4096) c.index-entries-addr.is
    (write_fits c.args.entries.now c.args.leaves.now.items c.args.addr (c.args.addr % 4096) (length c.args.bytes.now) c.page_of_last-last.result c.index-entries-addr.result c.requires.cached c.ranges.addr.fits refl c.requires.some c.requires.few c.page_of_last-last.ensures c.index-entries-addr.is)

pub write_entry-requires-clause-there : goal.write_entry-requires-clause-there
write_entry-requires-clause-there c =
    subst (λ (entry : Entry). entry.writable ≤ 2 ^ 20 → IsSome (frame_of_entry entry)) c.index-entries-addr.is
    (writable_there c.args.entries.now c.args.leaves.now.items (c.args.addr / 4096) c.index-entries-addr.result c.requires.cached c.index-entries-addr.is)

pub returns-clause-cached : goal.returns-clause-cached
returns-clause-cached c =
    stored_cached c.write_entry.result c.args.entries.now _ c.args.leaves.now.items (c.args.addr / 4096) c.page_of_last-last.result (c.args.addr % 4096) c.args.bytes.now c.index-entries-addr.result c.write_entry.new.entry
    (subst (λ (entry : Entry). Wrote c.write_entry.result c.page_of_last-last.result (c.args.addr % 4096) c.args.bytes.now entry c.write_entry.new.entry) (sym c.index-entries-addr.is) c.write_entry.ensures)
    c.requires.cached c.index-entries-addr.is refl
