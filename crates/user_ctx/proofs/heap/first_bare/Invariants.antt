use Rattle.std.proofs.Common.{ℕ, ◌≡◌, ◌≤◌, ◌<◌, None}
use Rattle.user_ctx.specs.Heap.{rights_at}
use Rattle.user_ctx.proofs.heap.first_bare.Given as goal

abbrev pub invariant-loop-at : goal.invariant-loop-at
invariant-loop-at l = record {
  most : l.at ≤ l.bare;
  free : (page : ℕ) → l.at ≤ page → page < l.bare → rights_at l.pages page ≡ None;
}

abbrev pub decreases-loop-at : goal.decreases-loop-at
decreases-loop-at l = l.at
