-- A seat before anything happened.
use Rattle.std.proofs.Common.{◌≡◌, ℕ, ◌≤◌, ◌==◌, ◌++◌, Option, None, List, [], sym, ap, ◌∙◌, subst, arith, length, map, reverse}
use Rattle.std.specs.Prelude.{option_to_list}
use Rattle.call_forward.specs.declared.letter.Letter.{Letter}
use Rattle.protocol.specs.Deeds.{all_noted}
use Rattle.protocol.specs.Cluster.{Fresh}
use Rattle.node_machine.specs.Plan.{Plan}
use Rattle.node_machine.specs.Machine.{Policy, machine}
use Rattle.node_core.specs.declared.node.Node.{Node}
use Rattle.node_core.specs.Locals.{local, post_of}
use Rattle.node_core.proofs.Alone.{fresh_node}
use Rattle.node_core.proofs.Starting.{new_suits_of}
use Rattle.cluster_run.specs.declared.seat.Seat.{Seat}
use Rattle.cluster_run.specs.declared.seat.Rest.{Rest}
use Rattle.cluster_run.specs.declared.seat.Rest.TheVariants as rested
use Rattle.cluster_run.specs.Sides.{towards}
use Rattle.cluster_run.specs.Seats.{bound, waiting, Found, Ready}
use Rattle.cluster_run.specs.Over.{IsFirst}
use Rattle.cluster_run.proofs.Living.{nothing_if}

module _ (policy : Policy) (plan : Plan) where
  pub ready_first : {C : Type 0} (puts gives : C → List Letter) (room k : ℕ) (s : Seat Node C) → IsFirst plan room k s.node → s.waits ≡ None → s.rest ≡ rested.Busy → ((m : ℕ) → towards puts s.side m ≡ []) → ((m : ℕ) → towards gives s.side m ≡ []) → Ready policy plan puts gives room k s
  ready_first puts gives room k s f waits rest none_put none_given = record {
    lives = record {
      acts = [];
      lone = subst (λ (n : Node). Fresh (machine policy plan) k (local policy plan n)) (sym f.made) (fresh_node policy plan k f.shape f.script f.users);
      id = ap (λ (n : Node). n.id) f.made;
      suits = new_suits_of plan k f.shape f.script f.users s.node f.made f.beginning;
      room_is = ap (λ (n : Node). n.journal.room) f.made ∙ f.room_is;
      fits = subst (λ (n : Node). length n.journal.events ≤ room) (sym f.made) (omega arith);
      journal_is = ap (λ (n : Node). reverse (all_noted plan.script n.journal.events)) f.made;
      strange = λ u. ap (λ (n : Node). n.strange) f.made;
      mail = λ m. ap (λ (w : List Letter). map (post_of policy plan) (w ++ bound m (waiting s))) (none_put m) ∙ ap (λ (w : List Letter). map (post_of policy plan) (bound m w)) none_waits;
      takes = λ marks m. ap (map (post_of policy plan)) (none_given m) ∙ sym (nothing_if (m == s.source));
    };
    found = subst (λ (a : Rest). Found policy plan k a (local policy plan s.node)) (sym rest) tt;
  }
    where
      none_waits : waiting s ≡ []
      none_waits = ap (λ (o : Option Letter). option_to_list o ++ s.node.outbox) waits ∙ ap (λ (n : Node). n.outbox) f.made
