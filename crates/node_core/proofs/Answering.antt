-- What a turn answers.
use Rattle.std.proofs.Common.{◌≡◌, ◌⊎◌, inl, inr, Some, None, length, refl, sym, ap, ◌∙◌}
use Rattle.call_forward.specs.declared.letter.Letter.{Letter}
use Rattle.protocol.specs.Rests.{IsIdle, IsFinished, Finished as LawFinished}
use Rattle.node_machine.specs.Plan.{Plan}
use Rattle.node_machine.specs.Machine.{Policy, machine}
use Rattle.node_core.specs.declared.node.Node.{Node}
use Rattle.node_core.specs.declared.turn.Turned.{Turned}
use Rattle.node_core.specs.declared.turn.Turned.TheVariants.{Did, Idle, Finished, JournalFull}
use Rattle.node_core.specs.Locals.{local}
use Rattle.node_core.specs.Suits.{Suits}
use Rattle.node_core.specs.Turns.{Answers}
use Rattle.node_machine.specs.Policy.{given_by}
use Rattle.node_core.specs.Sight.{Answerer}
use Rattle.node_core.proofs.Halving.{Gives}
use Rattle.node_core.specs.Turning.{TookLetter, WentOn, Heard, Passed, IsDone, Picks}
use Rattle.node_core.proofs.Hearing.{heard_turn, passed_turn}
use Rattle.node_core.proofs.Going.{went_turn, none_rests, some_applies, none_lacks}

module _ (policy : Policy) (plan : Plan) where
  took : (answers : Answerer) → Gives answers policy → (old new : Node) (l : Letter) → Suits plan old → Heard answers l old new ⊎ Passed l old new → Answers policy plan Did (Some l) old new
  took answers gives old new l suits (inl h) = heard_turn policy plan answers gives old new l suits h
  took answers gives old new l suits (inr p) = inr (passed_turn policy plan old new l suits p)

  took_by : (answers : Answerer) → Gives answers policy → (turned : Turned) (old new : Node) (l : Letter) → Suits plan old → TookLetter answers turned l old new → Answers policy plan turned (Some l) old new
  took_by answers gives Did old new l suits t = took answers gives old new l suits t
  took_by answers gives Idle old new l suits t = absurd t
  took_by answers gives Finished old new l suits t = absurd t
  took_by answers gives JournalFull old new l suits t = record { full = t.full; more = tt; same = t.same }

  idle : (old : Node) → Suits plan old → Picks None old → IsIdle (machine policy plan) old.id None (local policy plan old)
  idle old suits picks = record { letter = refl; rests = none_rests policy plan old suits picks }

  done_law : (old : Node) → Suits plan old → IsDone old → LawFinished (machine policy plan) (local policy plan old)
  done_law old suits d = record { script = d.script ∙ ap length (suits.course d.home).script; ended = d.ended }

  law_done : (old : Node) → Suits plan old → IsFinished (machine policy plan) old.id None (local policy plan old) → IsDone old
  law_done old suits f = record { home = f.home; script = f.finished.script ∙ sym (ap length (suits.course f.home).script); ended = f.finished.ended }

  went_by : (answers : Answerer) → Gives answers policy → (turned : Turned) (old new : Node) → Suits plan old → WentOn answers turned old new → Answers policy plan turned None old new
  went_by answers gives Did old new suits w = inl (went_turn policy plan answers gives old new suits w)
  went_by answers gives Idle old new suits (inr lacks, same) = absurd (none_lacks policy plan old suits lacks)
  went_by answers gives Idle old new suits (inl (picks, more), same) = record { idle = idle old suits picks; more = λ f. more (law_done old suits f); same = same }
  went_by answers gives Finished old new suits (picks, done, same) = record { finished = record { idle = idle old suits picks; home = done.home; finished = done_law old suits done }; same = same }
  went_by answers gives JournalFull old new suits (some, full, same) = record { full = full; more = some_applies policy plan old some.0 suits some.1; same = same }

-- a stored chooser's answers on a sight in range are those of its policy
gives_its : (answers : Answerer) → Gives answers (given_by answers)
gives_its answers s c range answer = inl (range, answer)

pub took_answers : (answers : Answerer) (plan : Plan) (turned : Turned) (old new : Node) (l : Letter) → Suits plan old → TookLetter answers turned l old new → Answers (given_by answers) plan turned (Some l) old new
took_answers answers plan turned old new l suits t = took_by (given_by answers) plan answers (gives_its answers) turned old new l suits t

pub went_answers : (answers : Answerer) (plan : Plan) (turned : Turned) (old new : Node) → Suits plan old → WentOn answers turned old new → Answers (given_by answers) plan turned None old new
went_answers answers plan turned old new suits w = went_by (given_by answers) plan answers (gives_its answers) turned old new suits w
