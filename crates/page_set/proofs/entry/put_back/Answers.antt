use Rattle.std.proofs.Common.{Some, Box, Global, refl, ap, ◌∙◌, arith}
use Rattle.page_set.specs.declared.frame.Frame.{Frame}
use Rattle.page_set.specs.Tree.{content_of}
use Rattle.page_set.specs.Entries.{frame_of_entry}
use Rattle.page_set.specs.declared.entry.Entry.{Entry}
use Rattle.page_set.proofs.Entries.{has_leaf, number_below, put_back_none, put_back_some}
use Rattle.page_set.proofs.entry.put_back.Goals as goal

pub overflow_cast-number : goal.overflow_cast-number
overflow_cast-number c =
    record {
      fits = number_below c.args.entries.now c.args.leaves.now.items c.args.at c.replace-entry.result _ c.in-Some.frame.value c.requires.at c.requires.cached c.replace-entry.ensures.value
          (ap (λ p. content_of (Some p)) c.in-Some.is);
    }

pub place-requires : goal.place-requires
place-requires c =
    has_leaf c.args.entries.now c.args.leaves.now.items c.args.at c.replace-entry.result _ c.in-Some.frame.value c.requires.at c.requires.cached c.replace-entry.ensures.value
    (ap (λ p. content_of (Some p)) c.in-Some.is)

pub returns-in-None : goal.returns-in-None
returns-in-None c =
    put_back_none c.args.entries.now _ c.args.leaves.now.items c.args.at c.replace-entry.result c.replace-entry.new.dest _ c.requires.at c.requires.cached c.replace-entry.ensures.value
    (ap (λ p. content_of (Some p)) c.in-None.is)
    (ap frame_of_entry c.replace-entry.ensures.after)
    (omega (arith, ap (λ (e : Entry). e.readable) c.replace-entry.ensures.after))
    (omega (arith, ap (λ (e : Entry). e.writable) c.replace-entry.ensures.after))
    refl

pub returns-in-Some : goal.returns-in-Some
returns-in-Some c =
    put_back_some c.args.entries.now _ c.args.leaves.now.items c.place.new.leaves.items c.args.at c.replace-entry.result c.replace-entry.new.dest _ c.in-Some.frame.value c.requires.at c.requires.cached c.replace-entry.ensures.value
    (ap (λ p. content_of (Some p)) c.in-Some.is)
    (ap frame_of_entry c.replace-entry.ensures.after)
    (omega (arith, ap (λ (e : Entry). e.readable) c.replace-entry.ensures.after))
    (omega (arith, ap (λ (e : Entry). e.writable) c.replace-entry.ensures.after))
    refl
    (record { here = c.place.ensures.new.here ∙ ap (λ (b : Box Frame Global). Some b.value) c.in-Some.frame-is; others = c.place.ensures.new.others })
    c.place.ensures.leaves
