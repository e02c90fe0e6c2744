-- A run of one turn, to show that the steps of the cluster have members.
use Rattle.std.proofs.Common.{◌==◌, cond, Some, None, [], ◌∷◌, refl, arith}
use Rattle.protocol.specs.Gossip.{no_gossip}
use Rattle.protocol.specs.Deeds.{Run}
use Rattle.protocol.specs.Notes.{Running, Turn, context, fresh, Slot, Local, no_progress}
use Rattle.protocol.specs.Does.{hosts}
use Rattle.protocol.specs.Cluster.{World, Goes, Starts, Reached}
use Rattle.protocol.specs.Odd.{Timed}
use Rattle.protocol.proofs.Process.{cond_off}
use Rattle.run_laws.specs.SmallMachine.{new_table, grown}
use Rattle.run_laws.specs.Histories.{mover}
use Rattle.protocol.proofs.Progress.{itself}

abbrev empty_slot : Slot mover
empty_slot = record { context = None; reserve = None; call = None }

abbrev fresh_node : Local mover
fresh_node = record { clock = 0; kernel = new_table; slots = λ p. empty_slot; believed = λ p. record { place = 0; hops = 0 }; progress = no_progress; gossip = no_gossip }

abbrev start : World mover
start = record { nodes = λ n. fresh_node; links = λ a b. [] }

abbrev pub first : Turn mover
first = record { event = record { stamp = 1; node = 0; what = Run 1 0 1 }; taken = None; posted = [] }

abbrev home : Local mover
home = record {
  clock = 1;
  kernel = grown new_table;
  slots = λ q. cond (q == 1) (hosts mover (Some (context mover (fresh mover (mover.loaded 0 1)) Running)) empty_slot) empty_slot;
  believed = λ q. cond (q == 1) (record { place = 0; hops = 0 }) (record { place = 0; hops = 0 });
  progress = record { line = 2; done = 1; launched = 1 ∷ []; served = λ p. 0 };
  gossip = no_gossip;
}

abbrev pub later : World mover
later = record { nodes = λ n. cond (n == 0) home fresh_node; links = λ a b. [] }

pub one_turn : Reached mover (first ∷ []) later
one_turn = (start, starts, goes)
  where
    starts : Starts mover start
    starts = record { nodes = λ n. record { clock = refl; slots = λ p. refl; gossip = refl; home = λ e. record { kernel = refl; progress = refl; believed = λ p. refl } }; links = λ a b. refl }

    goes : Goes mover start first later
    goes = record {
      makes = record {
        node = refl;
        below = omega arith;
        stamp_is = omega arith;
        clock = refl;
        does = record {
          home = refl;
          image = refl;
          launched = refl;
          next = refl;
          base = record { took = refl; posts = refl; slots = λ q. refl };
          gossip = refl;
          believed = λ q. refl;
          words = [];
          order = record { next = refl; enabled = λ z. cc; rises = omega arith; is = itself _ };
        };
      };
      elsewhere = λ m ne. cond_off m 0 home fresh_node ne;
      rest = λ a b. [];
      takes = λ a b. refl;
      posts = λ a b. refl;
    }

pub one_timed : Timed mover (first ∷ []) later one_turn
unfolding one_turn
one_timed = (record { stamp_is = refl; usual = tt }, tt)
