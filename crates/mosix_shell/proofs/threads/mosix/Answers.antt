use Rattle.std.proofs.Common.{refl}
use Rattle.mosix_words.specs.Settings.{settings_of}
use Rattle.node_machine.specs.Policy.{given_by}
use Rattle.mosix_shell.specs.Told.{seen}
use Rattle.mosix_shell.proofs.Answering.{memory_answers, words_told}
use Rattle.mosix_shell.proofs.Causing.{write_cause}
use Rattle.mosix_shell.proofs.Ranges.{in_range}
use Rattle.mosix_shell.proofs.threads.mosix.Goals as goal

pub answer_settings-requires-clause-range : goal.answer_settings-requires-clause-range
answer_settings-requires-clause-range g c = λ w v. in_range c.args.words.now c.in-Ok.settings c.in-Ok.ensures.ok

pub returns-in-Ok-clause-write : goal.returns-in-Ok-clause-write
returns-in-Ok-clause-write g c =
    write_cause (given_by (g.P.Chooser.answers c.args.policy.now)) (g.R.Rng.stream c.args.rng.now) (seen g.S.Source.left g.S.Source.faults c.args.script.now c.answer_settings.new.script) (seen g.I.Images.files g.I.Images.faults c.args.images.now c.answer_settings.new.images) (seen g.O.Sink.written g.O.Sink.faults c.args.out.now c.answer_settings.new.out)
    (settings_of c.args.words.now) c.answer_settings.result (words_told (given_by (g.P.Chooser.answers c.args.policy.now)) (g.R.Rng.stream c.args.rng.now) (seen g.S.Source.left g.S.Source.faults c.args.script.now c.answer_settings.new.script) (seen g.I.Images.files g.I.Images.faults c.args.images.now c.answer_settings.new.images) (seen g.O.Sink.written g.O.Sink.faults c.args.out.now c.answer_settings.new.out)
    (settings_of c.args.words.now) c.in-Ok.settings c.answer_settings.result c.in-Ok.ensures.ok c.answer_settings.ensures.answers)

pub returns-in-Err-NoMemory-clause-answers : goal.returns-in-Err-NoMemory-clause-answers
returns-in-Err-NoMemory-clause-answers g c =
    memory_answers (given_by (g.P.Chooser.answers c.args.policy.now)) (g.R.Rng.stream c.args.rng.now) (seen g.S.Source.left g.S.Source.faults c.args.script.now c.args.script.now) (seen g.I.Images.files g.I.Images.faults c.args.images.now c.args.images.now) (seen g.O.Sink.written g.O.Sink.faults c.args.out.now c.args.out.now)
    (settings_of c.args.words.now) c.answer.result _ refl refl refl c.answer.ensures
