-- The texts are the words.
use Rattle.std.proofs.Common.{◌≡◌, ◌∙◌, ap, subst, map, List, ℕ, IfOk, IfErr, Some, None, Bor}
use Rattle.mosix_words.specs.Settings.{settings_of}
use Rattle.mosix_words.specs.declared.settings.WordsError.TheVariants.{BadWords}
use Rattle.mosix_words.proofs.settings.mode_of.Goals as goal

pub returns-in-Ok-clause-ok : goal.returns-in-Ok-clause-ok
returns-in-Ok-clause-ok c =
    subst (λ (ws : List (List ℕ)). IfOk c.settings_by.result (λ s. settings_of ws ≡ Some s))
    (ap (map (λ (t : Bor (List ℕ)). t.now)) c.as_slice-in-Ok.ensures.value ∙ c.in-Ok.ensures ∙ c.as_slice.ensures) c.settings_by.ensures.ok

pub returns-in-Ok-clause-bad : goal.returns-in-Ok-clause-bad
returns-in-Ok-clause-bad c =
    subst (λ (ws : List (List ℕ)). IfErr c.settings_by.result (λ e. e ≡ BadWords → settings_of ws ≡ None))
    (ap (map (λ (t : Bor (List ℕ)). t.now)) c.as_slice-in-Ok.ensures.value ∙ c.in-Ok.ensures ∙ c.as_slice.ensures) c.settings_by.ensures.bad
