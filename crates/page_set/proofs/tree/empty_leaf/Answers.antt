use Rattle.std.proofs.Common.{ap, ◌∙◌}
use Rattle.std.specs.List.{slice_get}
use Rattle.page_set.specs.Tree.{content_of}
use Rattle.page_set.proofs.Trees.{no_frames}
use Rattle.page_set.proofs.tree.empty_leaf.Goals as goal

pub returns : goal.returns
returns c = λ j. ap (λ fs. content_of (slice_get fs j)) (ap (λ l. l.frames) c.in_ok-new.ensures.ok) ∙ no_frames 1024 j
