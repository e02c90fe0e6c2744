-- The whole theorem over every run.
use Rattle.std.proofs.Common.{List, ap, ◌∙◌}
use Rattle.protocol.specs.Ops.{Ops, Sound}
use Rattle.protocol.specs.Notes.{Turn, Running}
use Rattle.protocol.specs.Cluster.{World, Reached}
use Rattle.protocol.specs.Cluster.{events}
use Rattle.run_laws.specs.Whole.{Holds}
use Rattle.protocol.proofs.Process.{context_tells}
use Rattle.protocol.proofs.Stand.{reached_stands}
use Rattle.run_laws.proofs.Replay.{user_of}
use Rattle.run_laws.proofs.Played.{path_played}
use Rattle.run_laws.proofs.Lawful.{path_lawful, path_silent, path_placed}
use Rattle.run_laws.proofs.Lines.{one_outcome}
use Rattle.run_laws.proofs.Again.{path_lines_of_moves}
use Rattle.run_laws.proofs.Asking.{path_asking}
use Rattle.run_laws.proofs.Landings.{path_landings}
use Rattle.run_laws.proofs.Grounds.{path_grounded}
use Rattle.run_laws.proofs.HonestVectors.{honest_law}
use Rattle.run_laws.proofs.Owning.{owned}
use Rattle.run_laws.proofs.Plays.{at_replay}

module _ (O : Ops) (S : Sound O) where
  pub laws_of_runs : (h : List (Turn O)) (w : World O) → Reached O h w → Holds O (events O h) w
  laws_of_runs h w r =
      let s = reached_stands O S h w r in
      let b = path_played O S h s.spots w s.path in
      record {
        replays = record {
          machine = b.machine;
          plays = at_replay O (events O h) ∙ b.agrees.plays;
          kernel = b.agrees.kernel;
          users = λ n p c e. b.agrees.users p ∙ ap (user_of O S) (context_tells O p (s.spots p) w (s.stands.at p) n c Running e);
          replies = b.agrees.replies;
        };
        lawful = path_lawful O S h s.spots w s.path;
        silent = path_silent O S h s.spots w s.path;
        honest = honest_law O (events O h);
        one_place = path_placed O S h s.spots w s.path s.stands;
        grounded = path_grounded O S h s.spots w s.path;
        move_lines = path_lines_of_moves O S h s.spots w s.path;
        asking = path_asking O S h s.spots w s.path;
        landings = path_landings O S h s.spots w s.path;
        owned = owned O S h s.spots w s.path s.stands b.machine b.agrees;
        one_outcome = one_outcome O S h s.spots w s.path;
      }
