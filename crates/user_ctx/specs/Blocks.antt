-- How ready instructions came out.
use Rattle.std.specs.Prelude.{ℕ, ◌≡◌}
use Rattle.page_set.specs.Pages.{PageMap}
use Rattle.user_spec.specs.Instruction.{Core, done, one_instruction}
use Rattle.user_ctx.specs.declared.blocks.Gone.{Gone}
use Rattle.user_ctx.specs.declared.blocks.Gone.TheVariants.{Next, Jumped, Away, Wrote, Left}
use Rattle.user_ctx.specs.Windows.{SameWords, SameBut}

-- where the next instruction stands: at the place that was reached, or away from the page
abbrev pub pc_after : Gone → ℕ → ℕ
pc_after Next at = at
pc_after Jumped at = at
pc_after (Away to) at = to
pc_after (Wrote addr) at = at
pc_after Left at = at

abbrev pub IsGone : Gone → Core → Core → Type 0
IsGone Next old new = one_instruction old ≡ done new
IsGone Jumped old new = one_instruction old ≡ done new
IsGone (Away to) old new = one_instruction old ≡ done new
IsGone (Wrote addr) old new = one_instruction old ≡ done new
IsGone Left old new = new ≡ old

-- the words in a range stay as they were, but for those that a store touches
abbrev pub Keeps : Gone → ℕ → ℕ → PageMap → PageMap → Type 0
Keeps Next low end old new = SameWords low end old new
Keeps Jumped low end old new = SameWords low end old new
Keeps (Away to) low end old new = SameWords low end old new
Keeps (Wrote addr) low end old new = SameBut addr low end old new
Keeps Left low end old new = SameWords low end old new
