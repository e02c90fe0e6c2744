-- How every run ends.
use Rattle.std.proofs.Common.{◌≡◌, ℕ, List, ◌∙◌, subst}
use Rattle.protocol.specs.Ops.{Ops, Sound}
use Rattle.protocol.specs.Deeds.{Noted}
use Rattle.protocol.specs.Notes.{Turn}
use Rattle.protocol.specs.Cluster.{World, Reached, events}
use Rattle.protocol.proofs.Stand.{reached_stands}
use Rattle.run_laws.specs.Ending.{Ending}
use Rattle.run_laws.specs.Carried.{Did, Sorted, own_events, shown}
use Rattle.run_laws.proofs.Did.{did_holds}
use Rattle.run_laws.proofs.Plays.{at_replay}
use Rattle.run_laws.proofs.Played.{path_played}
use Rattle.run_laws.proofs.Resting.{kinds_due, busy_due, full_due, finished_done}
use Rattle.run_laws.proofs.Statuses.{blocked_told, ended_told}
use Rattle.run_laws.proofs.Quietness.{done_rests, no_turn, live_held, over}
use Rattle.run_laws.proofs.Making.{kind_of}
use Rattle.run_laws.proofs.Going.{can_go}
use Rattle.run_laws.proofs.Taking.{can_take}
use Rattle.run_laws.proofs.Owning.{owned}

module _ (O : Ops) (S : Sound O) where
  pub end_of_runs : (h : List (Turn O)) (w : World O) → Reached O h w → Ending O (events O h) w
  end_of_runs h w r =
      let s = reached_stands O S h w r in
      let b = path_played O S h s.spots w s.path in
      record {
        machine = b.machine;
        plays = at_replay O (events O h) ∙ b.agrees.plays;
        due = kinds_due O S h s.spots w s.path s.stands b.machine b.agrees;
        rests = λ n. (λ f k d. f k ((kinds_due O S h s.spots w s.path s.stands b.machine b.agrees k n).1 d), λ f k d. f k ((kinds_due O S h s.spots w s.path s.stands b.machine b.agrees k n).0 d));
        busy = busy_due O S h s.spots w s.path s.stands b.machine b.agrees;
        blocked = λ p number. blocked_told O b.machine p number;
        ended = λ p least most dead. ended_told O b.machine p dead (S.ended b.machine.kernel p least most dead);
        finished = finished_done O S h s.spots w s.path s.stands b.machine b.agrees;
        over = λ rest. over O S h s.spots w s.path s.stands b.machine b.agrees S.some rest;
        held = λ rest p live. live_held O S h s.spots w s.path s.stands b.machine b.agrees S.some rest p live;
        done_rests = done_rests O S h s.spots w s.path b.machine b.agrees;
        still = λ rest t v goes. no_turn O S h s.spots w s.path s.stands S.some rest t v goes;
        goes = λ able k n below x. can_go O S h s.spots w s.path s.stands able k n below x;
        takes = λ answers a b l rest lies. can_take O S h s.spots w s.path s.stands S.some answers a b l rest lies;
        turns = λ n old t new off makes. kind_of O S n old t new off makes;
        full = λ room n. full_due O S h s.spots w s.path s.stands b.machine b.agrees room n;
        owned = owned O S h s.spots w s.path s.stands b.machine b.agrees;
      }

  pub end_of_journals : (turns : ℕ → List (Turn O)) (w : World O) (es : List Noted) → Did O turns w → Sorted es → ((n : ℕ) → own_events n es ≡ shown O (turns n)) → Ending O es w
  end_of_journals turns w es did sorted own =
      let run = (did_holds O S turns w es did sorted own).1 in
      subst (λ (k : List Noted). Ending O k w) run.events_are (end_of_runs run.turns w run.reached)
