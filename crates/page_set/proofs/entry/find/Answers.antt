use Rattle.std.proofs.Common.{Some, arith, sym, ap, ◌∙◌, ◌<◌, ◌+◌, ◌/◌, ◌%◌}
use Rattle.page_set.specs.Tree.{content_of}
use Rattle.page_set.specs.Entries.{IsFound, frame_of_entry}
use Rattle.page_set.specs.declared.entry.Entry.{Entry}
use Rattle.page_set.proofs.Entries.{found_at, not_bare}
use Rattle.page_set.proofs.entry.find.Goals as goal

pub unreachable-requires : goal.unreachable-requires
unreachable-requires c =
    not_bare c.args.entries.now c.args.leaves.now.items (c.args.addr / 4096) c.page_of_last.result c.index-entries-addr.result c.requires.cached (omega (arith, c.page_of_last.ensures, c.requires.more, c.ranges.addr.fits)) c.index-entries-addr.is
    (ap (λ (e : Entry). e.readable) c.index-entries-addr.is ∙ c.if-entry-page_of_last.false)
    (ap frame_of_entry c.index-entries-addr.is ∙ ap (λ p. content_of (Some p)) c.in-None.is)

found_and_within : (c : goal.After-deref) → (IsFound c.args.entries.now c.args.leaves.now.items (c.args.addr / 4096) c.deref.result.now) × (c.args.addr % 4096 + c.args.more < 4096)
found_and_within c =
    found_at c.args.entries.now c.args.leaves.now.items c.args.addr c.args.more c.page_of_last.result c.index-entries-addr.result c.deref.result.now c.requires.cached c.ranges.addr.fits c.requires.more c.page_of_last.ensures c.index-entries-addr.is
    (ap (λ (e : Entry). e.readable) c.index-entries-addr.is ∙ c.if-entry-page_of_last.false)
    (ap frame_of_entry c.index-entries-addr.is ∙ ap (λ p. content_of (Some p)) c.in-Some.is ∙ ap Some (sym c.deref.ensures))

pub returns-clause-found : goal.returns-clause-found
returns-clause-found c = (found_and_within c).0

pub returns-clause-within : goal.returns-clause-within
returns-clause-within c = (found_and_within c).1
