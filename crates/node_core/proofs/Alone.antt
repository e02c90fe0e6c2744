-- Turns one after another are what the laws ask of a node by itself.
use Rattle.std.proofs.Common.{◌≡◌, ℕ, zero, suc, ◌++◌, ◌⊎◌, inl, inr, Option, None, List, [], ◌∷◌, refl, sym, ap, ◌∙◌, subst, reverse}
use Rattle.std.specs.Ordering.{nat_cmp}
use Rattle.std.specs.FinMap as fin_map
use Rattle.std.proofs.lemmas.List.{reverse-append}
use mathlib.Core.Path.{fun_ext}
use Rattle.node_event.specs.declared.script.ScriptLine.{ScriptLine}
use Rattle.user_spec.specs.User.{UserState}
use Rattle.kernel_spec.specs.Pids.{at_pid}
use Rattle.deputy.specs.declared.row.Row.{Row}
use Rattle.deputy.specs.Rows.{served_of}
use Rattle.protocol.specs.Deeds.{Deed, Strange, Noted, all_noted}
use Rattle.protocol.specs.Cluster.{Fresh}
use Rattle.run_laws.specs.Carried.{recorded}
use Rattle.run_laws.specs.Skipping as skipping
use Rattle.run_laws.specs.Skipping.{Lone, journal}
use Rattle.node_machine.specs.Plan.{Plan}
use Rattle.node_machine.specs.Machine.{Policy, machine}
use Rattle.node_core.specs.declared.shape.Shape.{Shape}
use Rattle.node_core.specs.declared.node.Node.{Node}
use Rattle.node_core.specs.Making.{new_node}
use Rattle.node_core.specs.Locals.{local, post_of, slot_with, believed_of}
use Rattle.node_core.specs.Suits.{Suits}
use Rattle.node_core.specs.Turns as turns
use Rattle.node_core.specs.Turns.{PassedOver}
use Rattle.node_core.specs.Alone.{TurnMade, IsNew, HasPosted, HasTurned, DidAlone}
use Rattle.node_core.proofs.Starting.{new_suits_of, suits_out}

no_row : (q : ℕ) → at_pid {A = Row} [] q ≡ None
no_row zero = refl
no_row (suc i) = refl

pub line_reverse : (e : Noted) (what : Deed) → reverse (recorded e what) ≡ recorded e what
line_reverse e (Strange p) = refl
line_reverse e _ = refl

module _ (policy : Policy) (plan : Plan) where
  pub fresh_node : (k : ℕ) (shape : Shape) (script : List ScriptLine) (users : List UserState) → Fresh (machine policy plan) k (local policy plan (new_node k shape script users))
  fresh_node k shape script users = record {
    clock = refl;
    slots = λ p. ap (λ (need : Option ℕ). slot_with policy plan None need (at_pid [] p)) (fin_map.get-empty nat_cmp p) ∙ ap (λ (row : Option Row). slot_with policy plan None None row) (no_row p);
    gossip = refl;
    home = λ e. record {
      kernel = refl;
      progress = ap (λ (f : ℕ → ℕ). record { line = 0; done = 0; launched = []; served = f }) (fun_ext (λ q. ap served_of (no_row q)));
      believed = λ p. ap believed_of (no_row p);
    };
  }

  -- a node suits its plan all along
  pub record Alone (ts : List TurnMade) (n : Node) : Type 0 where
    pub did : DidAlone policy plan ts n
    pub suits : Suits plan n

  began : (n : Node) → IsNew plan n → Alone [] n
  began n b = record {
    did = record {
      acts = [];
      acts_are = tt;
      lone = subst (λ (m : Node). Fresh (machine policy plan) m.id (local policy plan m)) (sym b.made) (fresh_node b.id b.shape b.script b.users);
      journal_is = ap (λ (m : Node). reverse (all_noted plan.script m.journal.events)) b.made;
    };
    suits = new_suits_of plan b.id b.shape b.script b.users n b.made b.beginning;
  }

  posted : (ts : List TurnMade) (old new : Node) → HasPosted old new → Alone ts old → Alone ts new
  posted ts old new p a = record {
    did = record {
      acts = a.did.acts;
      acts_are = a.did.acts_are;
      lone = subst (λ (m : Node). Lone (machine policy plan) m.id a.did.acts (local policy plan m)) (sym p.same) a.did.lone;
      journal_is = ap (λ (m : Node). reverse (all_noted plan.script m.journal.events)) p.same ∙ a.did.journal_is;
    };
    suits = subst (λ (m : Node). Suits plan m) (sym p.same) (suits_out plan old new.outbox a.suits);
  }

  made : (t : TurnMade) (ts : List TurnMade) (n : Node) → Alone ts t.node → turns.Made policy plan t.inbox t.node n → Alone (t ∷ ts) n
  made t ts n a k = record {
    did = record {
      acts = skipping.Made k.turn ∷ a.did.acts;
      acts_are = (k.taken, a.did.acts_are);
      lone = subst (λ (i : ℕ). Lone (machine policy plan) i (skipping.Made k.turn ∷ a.did.acts) (local policy plan n)) (sym k.id) (local policy plan t.node, a.did.lone, k.makes, k.timely);
      journal_is = ap reverse k.journal ∙ (reverse-append (all_noted plan.script t.node.journal.events) (recorded k.turn.event k.turn.event.what)
          ∙ (ap (λ (w : List Noted). w ++ reverse (all_noted plan.script t.node.journal.events)) (line_reverse k.turn.event k.turn.event.what) ∙ ap (λ (w : List Noted). recorded k.turn.event k.turn.event.what ++ w) a.did.journal_is));
    };
    suits = k.suits;
  }

  passed : (t : TurnMade) (ts : List TurnMade) (n : Node) → Alone ts t.node → PassedOver policy plan t.inbox t.node n → Alone (t ∷ ts) n
  passed t ts n a k = record {
    did = record {
      acts = skipping.Skipped k.letter.from (post_of policy plan k.letter) ∷ a.did.acts;
      acts_are = ((k.letter, k.is, refl, refl), a.did.acts_are);
      lone = subst (λ (i : ℕ). Lone (machine policy plan) i (skipping.Skipped k.letter.from (post_of policy plan k.letter) ∷ a.did.acts) (local policy plan n)) (sym (ap (λ (m : Node). m.id) k.same)) (local policy plan t.node, a.did.lone, a.suits.below, k.skips);
      journal_is = ap (λ (m : Node). reverse (all_noted plan.script m.journal.events)) k.same ∙ a.did.journal_is;
    };
    suits = k.suits;
  }

  turned : (t : TurnMade) (ts : List TurnMade) (n : Node) → Alone ts t.node → turns.Made policy plan t.inbox t.node n ⊎ PassedOver policy plan t.inbox t.node n → Alone (t ∷ ts) n
  turned t ts n a (inl k) = made t ts n a k
  turned t ts n a (inr k) = passed t ts n a k

  all_alone : (ts : List TurnMade) (n : Node) → HasTurned policy plan ts n → Alone ts n
  all_alone [] n b = began n b
  all_alone (t ∷ ts) n (left, before, p, turns) =
      let a = posted ts left t.node p (all_alone ts left before) in
      turned t ts n a (turns plan a.suits)

pub did_alone : (policy : Policy) (plan : Plan) (ts : List TurnMade) (n : Node) → HasTurned policy plan ts n → DidAlone policy plan ts n
did_alone policy plan ts n h = (all_alone policy plan ts n h).did
