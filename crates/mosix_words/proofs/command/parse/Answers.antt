use Rattle.std.proofs.Common.{◌≡◌, subst, refl, map, true, ap, ◌∙◌}
use Rattle.clap.specs.Words.{App, FailsBy, fault_of, is_simple_and_free}
use Rattle.mosix_words.specs.Command.{the_app}
use Rattle.mosix_words.proofs.command.parse.Goals as goal

simple : is_simple_and_free the_app ≡ true
simple = refl

pub returns-clause-exact : goal.returns-clause-exact
returns-clause-exact c =
    subst (λ (a : App). FailsBy (fault_of a (map (λ w. w.now) c.args.words.now)) c.try_get_matches_from.result) c.in_ok-command.ensures
    (c.try_get_matches_from.ensures.kinds (ap is_simple_and_free c.in_ok-command.ensures ∙ simple))
