use Rattle.std.proofs.Common.{◌≡◌, length, take}
use Rattle.work_gen.specs.Work.{AreImages}
use Rattle.work_gen.proofs.making.images.Given as goal

-- an image for each draw so far
abbrev pub invariant-loop-draw : goal.invariant-loop-draw
invariant-loop-draw l = record {
  count : length l.images ≡ l.draw-index;
  made : AreImages 0 (take l.draw-index l.draws) l.images;
}
