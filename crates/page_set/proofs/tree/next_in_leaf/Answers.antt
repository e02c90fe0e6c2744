use Rattle.std.proofs.Common.{◌≡◌, Option, Some, None, IsSome, is_some, true, false, Bor, refl}
use Rattle.std.specs.Option.{option_copied}
use Rattle.page_set.specs.declared.frame.Frame.{Frame}
use Rattle.page_set.proofs.Ranges.{no_frame_from}
use Rattle.page_set.proofs.tree.next_in_leaf.Goals as goal

true_false : true ≡ false → ⊥
true_false e = cc

copied_some : (o : Option (Bor Frame)) → true ≡ is_some o → IsSome (option_copied o)
copied_some None e = absurd (true_false e)
copied_some (Some f) e = refl

pub returns-then-is_some : goal.returns-then-is_some
returns-then-is_some c = record {
  above = c.loop-i.auto.i;
  inside = c.loop-i-test.true;
  there = rw c.frame_of.ensures (copied_some c.frame_of.result c.if-is_some.ensures);
  between = c.loop-i.invariant;
}

pub returns : goal.returns
returns c = no_frame_from c.args.leaf.now c.args.from c.loop-i.i c.if-prove.false c.loop-i-test.false c.loop-i.invariant
