-- The command: five options of one value, two flags and one required word, without flags for help and for the version.
use Rattle.std.specs.Prelude.{Some, true, codes}
use Rattle.clap.specs.Words.{App, Rule, Text, new_app, new_rule, with_rule}
use Rattle.clap.specs.Simple.{on_top}
use Rattle.clap.specs.declared.builder.action.ArgAction.TheVariants.{Set, SetTrue}

abbrev pub option_rule : Text → Rule
option_rule name = record (new_rule name) { long = Some name; action = Some Set }

abbrev pub flag_rule : Text → Rule
flag_rule name = record (new_rule name) { long = Some name; action = Some SetTrue }

abbrev pub mode_rule : Rule
mode_rule = record (new_rule (codes "mode")) { required = true; action = Some Set }

abbrev pub start_app : App
start_app = on_top (λ s. record s { no_binary_name = true; disable_help_flag = true; disable_version_flag = true }) (new_app (codes "mosixsim"))

abbrev pub the_app : App
the_app =
    with_rule (with_rule (with_rule (with_rule (with_rule (with_rule (with_rule (with_rule start_app
    (option_rule (codes "nodes"))) (option_rule (codes "pages"))) (option_rule (codes "quantum"))) (option_rule (codes "journal"))) (option_rule (codes "seed")))
    (flag_rule (codes "serial"))) (flag_rule (codes "events"))) mode_rule
