use Rattle.std.proofs.Common.{◌∙◌, sym, refl, arith}
use Rattle.user_ctx.proofs.Going.{sets, loads, stores, falls, goes_to, links, leaps, leaps_from, inside, not_slow}
use Rattle.user_ctx.proofs.Stored.{same_words, clear_same, within_but}
use Rattle.user_ctx.proofs.blocks.step_ready.Goals as goal

pub returns-in-Sets-clause-place : goal.returns-in-Sets-clause-place
returns-in-Sets-clause-place o c = let lt = inside _ _ _ _ _ _ _ c.requires.window c.requires.place (sym c.work_done.ensures ∙ c.in-Sets.is) refl in omega (arith, lt)

pub returns-in-Sets-clause-idle : goal.returns-in-Sets-clause-idle
returns-in-Sets-clause-idle o c = λ _. not_slow _ _ _ _ _ _ _ c.requires.window c.requires.place (sym c.work_done.ensures ∙ c.in-Sets.is) refl

pub returns-in-Sets-clause-gone : goal.returns-in-Sets-clause-gone
returns-in-Sets-clause-gone o c = sets _ _ _ _ _ _ _ _ c.set_destination.new.registers c.requires.window c.requires.place c.requires.zero (sym c.work_done.ensures ∙ c.in-Sets.is) c.set_destination.ensures.new

pub returns-in-Sets-clause-keeps : goal.returns-in-Sets-clause-keeps
returns-in-Sets-clause-keeps o c = same_words _ _ _ _ refl

pub returns-in-Some-clause-place : goal.returns-in-Some-clause-place
returns-in-Some-clause-place o c = let lt = inside _ _ _ _ _ _ _ c.requires.window c.requires.place (sym c.work_done.ensures ∙ c.in-Loads.is) refl in omega (arith, lt)

pub returns-in-Some-clause-idle : goal.returns-in-Some-clause-idle
returns-in-Some-clause-idle o c = λ _. not_slow _ _ _ _ _ _ _ c.requires.window c.requires.place (sym c.work_done.ensures ∙ c.in-Loads.is) refl

pub returns-in-Some-clause-gone : goal.returns-in-Some-clause-gone
returns-in-Some-clause-gone o c =
    rw c.in-Some.ensures.same (loads _ _ _ _ _ _ _ _ _ _ c.set_destination-in-Some.new.registers c.requires.window c.requires.place c.requires.zero (sym c.work_done.ensures ∙ c.in-Loads.is) c.in-Some.ensures.is c.set_destination-in-Some.ensures.new)

pub returns-in-Some-clause-keeps : goal.returns-in-Some-clause-keeps
returns-in-Some-clause-keeps o c = same_words _ _ _ _ c.in-Some.ensures.same

pub returns-then-is_clear-clause-place : goal.returns-then-is_clear-clause-place
returns-then-is_clear-clause-place o c = let lt = inside _ _ _ _ _ _ _ c.requires.window c.requires.place (sym c.work_done.ensures ∙ c.in-Stores.is) refl in omega (arith, lt)

pub returns-then-is_clear-clause-idle : goal.returns-then-is_clear-clause-idle
returns-then-is_clear-clause-idle o c = λ _. not_slow _ _ _ _ _ _ _ c.requires.window c.requires.place (sym c.work_done.ensures ∙ c.in-Stores.is) refl

pub returns-then-is_clear-clause-gone : goal.returns-then-is_clear-clause-gone
returns-then-is_clear-clause-gone o c = stores _ _ _ _ _ _ _ _ _ _ c.requires.window c.requires.place c.requires.zero (sym c.work_done.ensures ∙ c.in-Stores.is) (c.store_inside.ensures.is c.if-not-store_inside.false)

pub returns-then-is_clear-clause-keeps : goal.returns-then-is_clear-clause-keeps
returns-then-is_clear-clause-keeps o c = clear_same _ _ _ _ _ _ _ (c.store_inside.ensures.is c.if-not-store_inside.false) (c.is_clear.ensures c.if-is_clear.true) (omega (arith, c.requires.end))

pub returns-else-is_clear-clause-place : goal.returns-else-is_clear-clause-place
returns-else-is_clear-clause-place o c = let lt = inside _ _ _ _ _ _ _ c.requires.window c.requires.place (sym c.work_done.ensures ∙ c.in-Stores.is) refl in omega (arith, lt)

pub returns-else-is_clear-clause-idle : goal.returns-else-is_clear-clause-idle
returns-else-is_clear-clause-idle o c = λ _. not_slow _ _ _ _ _ _ _ c.requires.window c.requires.place (sym c.work_done.ensures ∙ c.in-Stores.is) refl

pub returns-else-is_clear-clause-gone : goal.returns-else-is_clear-clause-gone
returns-else-is_clear-clause-gone o c = stores _ _ _ _ _ _ _ _ _ _ c.requires.window c.requires.place c.requires.zero (sym c.work_done.ensures ∙ c.in-Stores.is) (c.store_inside.ensures.is c.if-not-store_inside.false)

pub returns-else-is_clear-clause-keeps : goal.returns-else-is_clear-clause-keeps
returns-else-is_clear-clause-keeps o c = within_but _ _ _ _ _ _ _ (c.store_inside.ensures.is c.if-not-store_inside.false) (omega arith) (omega (arith, c.requires.end))

pub returns-in-Falls-clause-place : goal.returns-in-Falls-clause-place
returns-in-Falls-clause-place o c = let lt = inside _ _ _ _ _ _ _ c.requires.window c.requires.place (sym c.work_done.ensures ∙ c.in-Falls.is) refl in omega (arith, lt)

pub returns-in-Falls-clause-idle : goal.returns-in-Falls-clause-idle
returns-in-Falls-clause-idle o c = λ _. not_slow _ _ _ _ _ _ _ c.requires.window c.requires.place (sym c.work_done.ensures ∙ c.in-Falls.is) refl

pub returns-in-Falls-clause-gone : goal.returns-in-Falls-clause-gone
returns-in-Falls-clause-gone o c = falls _ _ _ _ _ _ c.requires.window c.requires.place c.requires.zero (sym c.work_done.ensures ∙ c.in-Falls.is)

pub returns-in-Falls-clause-keeps : goal.returns-in-Falls-clause-keeps
returns-in-Falls-clause-keeps o c = same_words _ _ _ _ refl

pub returns-in-Goes-clause-idle : goal.returns-in-Goes-clause-idle
returns-in-Goes-clause-idle o c = λ _. not_slow _ _ _ _ _ _ _ c.requires.window c.requires.place (sym c.work_done.ensures ∙ c.in-Goes.is) refl

pub returns-in-Goes-clause-gone : goal.returns-in-Goes-clause-gone
returns-in-Goes-clause-gone o c = goes_to _ _ _ _ _ _ _ _ c.requires.window c.requires.place c.requires.zero (sym c.work_done.ensures ∙ c.in-Goes.is) c.index.ensures.value

pub returns-in-Goes-clause-keeps : goal.returns-in-Goes-clause-keeps
returns-in-Goes-clause-keeps o c = same_words _ _ _ _ refl

pub returns-in-Links-clause-idle : goal.returns-in-Links-clause-idle
returns-in-Links-clause-idle o c = λ _. not_slow _ _ _ _ _ _ _ c.requires.window c.requires.place (sym c.work_done.ensures ∙ c.in-Links.is) refl

pub returns-in-Links-clause-gone : goal.returns-in-Links-clause-gone
returns-in-Links-clause-gone o c = links _ _ _ _ _ _ _ _ c.set_destination-in-Links.new.registers _ c.requires.window c.requires.place c.requires.zero (sym c.work_done.ensures ∙ c.in-Links.is) c.set_destination-in-Links.ensures.new c.index-in-Links.ensures.value

pub returns-in-Links-clause-keeps : goal.returns-in-Links-clause-keeps
returns-in-Links-clause-keeps o c = same_words _ _ _ _ refl

pub returns-in-Some-place_in-clause-gone : goal.returns-in-Some-place_in-clause-gone
returns-in-Some-place_in-clause-gone o c = leaps _ _ _ _ _ _ _ _ c.requires.window c.requires.place c.requires.zero (sym c.work_done.ensures ∙ c.in-Leaps.is) (omega (arith, c.if-target-ne0.false)) c.in-Some-place_in.ensures.1

pub returns-in-None-place_in-clause-idle : goal.returns-in-None-place_in-clause-idle
returns-in-None-place_in-clause-idle o c = λ _. not_slow _ _ _ _ _ _ _ c.requires.window c.requires.place (sym c.work_done.ensures ∙ c.in-Leaps.is) refl

pub returns-in-None-place_in-clause-gone : goal.returns-in-None-place_in-clause-gone
returns-in-None-place_in-clause-gone o c = leaps _ _ _ _ _ _ _ _ c.requires.window c.requires.place c.requires.zero (sym c.work_done.ensures ∙ c.in-Leaps.is) (omega (arith, c.if-target-ne0.false)) refl

pub returns-in-Some-place_in-2-clause-idle : goal.returns-in-Some-place_in-2-clause-idle
returns-in-Some-place_in-2-clause-idle o c = λ _. not_slow _ _ _ _ _ _ _ c.requires.window c.requires.place (sym c.work_done.ensures ∙ c.in-LeapsFrom.is) refl

pub returns-in-Some-place_in-2-clause-gone : goal.returns-in-Some-place_in-2-clause-gone
returns-in-Some-place_in-2-clause-gone o c = leaps_from _ _ _ _ _ _ _ _ c.set_destination-in-LeapsFrom.new.registers _ c.requires.window c.requires.place c.requires.zero (sym c.work_done.ensures ∙ c.in-LeapsFrom.is) (omega (arith, c.if-target-ne0-2.false)) c.set_destination-in-LeapsFrom.ensures.new c.in-Some-place_in-2.ensures.1

pub returns-in-None-place_in-2-clause-idle : goal.returns-in-None-place_in-2-clause-idle
returns-in-None-place_in-2-clause-idle o c = λ _. not_slow _ _ _ _ _ _ _ c.requires.window c.requires.place (sym c.work_done.ensures ∙ c.in-LeapsFrom.is) refl

pub returns-in-None-place_in-2-clause-gone : goal.returns-in-None-place_in-2-clause-gone
returns-in-None-place_in-2-clause-gone o c = leaps_from _ _ _ _ _ _ _ _ c.set_destination-in-LeapsFrom.new.registers _ c.requires.window c.requires.place c.requires.zero (sym c.work_done.ensures ∙ c.in-LeapsFrom.is) (omega (arith, c.if-target-ne0-2.false)) c.set_destination-in-LeapsFrom.ensures.new refl
