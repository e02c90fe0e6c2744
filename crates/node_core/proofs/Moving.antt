-- What a node does with an order to move is a turn by the laws.
use Rattle.std.proofs.Common.{◌≡◌, ◌≢◌, inl, inr, ℕ, ◌+◌, ◌<◌, ◌≤◌, ◌==◌, cond, Bool, true, false, Option, Some, None, List, [], ◌∷◌, length, refl, sym, ap, ◌∙◌, subst, arith}
use Rattle.std.specs.Option.{option_map}
use Rattle.call_forward.specs.declared.acted.Acted.{Acted}
use Rattle.call_forward.specs.declared.message.Message.TheVariants as message
use Rattle.node_event.specs.declared.event.What.TheVariants as what
use Rattle.node_event.specs.declared.event.Refusal.TheVariants as refusal
use Rattle.migrate_proto.specs.declared.go.GoAnswer.{GoAnswer}
use Rattle.migrate_proto.specs.declared.go.GoAnswer.TheVariants as answer
use Rattle.migrate_proto.specs.Moves.{go_answer}
use Rattle.remote_ctx.specs.declared.context.Context as code_context
use Rattle.remote_ctx.specs.declared.context.KeptMove.{KeptMove}
use Rattle.remote_ctx.specs.declared.context.Stance.{Stance}
use Rattle.remote_ctx.specs.declared.context.Stance.TheVariants as stance
use Rattle.remote_ctx.specs.Hosted.{lookup, stands}
use Rattle.remote_ctx.specs.Hosted as hosted
use Rattle.remote_ctx.specs.Acting.{asking, keeping, has_kept, holds_for}
use Rattle.protocol.specs.Deeds.{Moving, There}
use Rattle.protocol.specs.Notes.{context, Post, letter, Go}
use Rattle.protocol.specs.Does.{Unfit, RefusedFor}
use Rattle.protocol.specs.Odd.{stamp_end}
use Rattle.protocol.proofs.Talk.{numbers_same, numbers_other}
use Rattle.node_machine.specs.Plan.{Plan}
use Rattle.node_machine.specs.Machine.{Policy, machine}
use Rattle.node_core.specs.declared.node.Node.{Node}
use Rattle.node_core.specs.Locals.{local, slot_of, body_of, context_of, state_of, kept_of, note_of}
use Rattle.node_core.specs.Suits.{Suits}
use Rattle.node_core.specs.Kinds.{GoActs, answer_at, BeginsMove, KeepsMove, Says, refused, missed}
use Rattle.node_core.proofs.Settling.{Acts, Hears, Fits}
use Rattle.node_core.proofs.Slots.{cond_same, slots_put}
use Rattle.node_core.proofs.Contexts.{suits_hosted}

-- ---- what the answer tells of how the process stands here

-- a process that runs, waits without a kept move, waits with one, or asks
pub data StandsAs : GoAnswer → ℕ → ℕ → Option code_context.Context → Type 0 where
  begins : (here to : ℕ) (c : code_context.Context) → c.state ≡ stance.Running → to ≢ here → StandsAs answer.Begin here to (Some c)
  keeps : (here to : ℕ) (c : code_context.Context) (pause : Bool) → c.state ≡ stance.Waiting pause None → to ≢ here → StandsAs answer.Keep here to (Some c)
  there_runs : (here to : ℕ) (c : code_context.Context) → c.state ≡ stance.Running → to ≡ here → StandsAs answer.There here to (Some c)
  there_waits : (here to : ℕ) (c : code_context.Context) (pause : Bool) → c.state ≡ stance.Waiting pause None → to ≡ here → StandsAs answer.There here to (Some c)
  moving_kept : (here to : ℕ) (c : code_context.Context) (pause : Bool) (k : KeptMove) → c.state ≡ stance.Waiting pause (Some k) → StandsAs answer.Moving here to (Some c)
  moving_asks : (here to : ℕ) (c : code_context.Context) (target : ℕ) (line : Option ℕ) → c.state ≡ stance.Asking target line → StandsAs answer.Moving here to (Some c)
  misses : (here to : ℕ) → StandsAs answer.Missed here to None

stands_as : (here to : ℕ) (c : code_context.Context) (s : Stance) → c.state ≡ s → StandsAs (go_answer (Some (stands s)) (has_kept s) here to) here to (Some c)
stands_as here to c stance.Running e = go (to == here) refl
  where
    go : (b : Bool) → (to == here) ≡ b → StandsAs (cond b answer.There answer.Begin) here to (Some c)
    go true f = there_runs here to c e (numbers_same to here f)
    go false f = begins here to c e (numbers_other to here f)
stands_as here to c (stance.Waiting pause None) e = go (to == here) refl
  where
    go : (b : Bool) → (to == here) ≡ b → StandsAs (cond b answer.There answer.Keep) here to (Some c)
    go true f = there_waits here to c pause e (numbers_same to here f)
    go false f = keeps here to c pause e (numbers_other to here f)
stands_as here to c (stance.Waiting pause (Some k)) e = moving_kept here to c pause k e
stands_as here to c (stance.Asking target line) e = moving_asks here to c target line e

pub answer_stands : (here to : ℕ) (o : Option code_context.Context) → StandsAs (go_answer (option_map hosted.state_of o) (holds_for has_kept o) here to) here to o
answer_stands here to None = misses here to
answer_stands here to (Some c) = stands_as here to c c.state refl

module _ (policy : Policy) (plan : Plan) where
  abbrev go_post : Node → ℕ → ℕ → ℕ → ℕ → ℕ → ℕ → Post (machine policy plan)
  go_post old from sent p to hops line = letter (machine policy plan) from old.id sent (Go p to hops line)

  -- how a context stands, as the laws have it
  pub stood : (h : List code_context.Context) (p : ℕ) (c : code_context.Context) (s : Stance) → lookup p h ≡ Some c → c.state ≡ s → option_map (context_of policy plan) (lookup p h) ≡ Some (context (machine policy plan) (body_of policy plan c) (state_of s))
  stood h p c s here e = ap (option_map (context_of policy plan)) here ∙ ap (λ x. Some (context (machine policy plan) (body_of policy plan c) (state_of x))) e

  begun_acts : (old mid : Node) (stamp from sent p to hops line : ℕ) (acted : Acted) → Suits plan old → stamp ≤ stamp_end + (length old.journal.events + 1) → (c : code_context.Context) → lookup p old.hosted ≡ Some c → c.state ≡ stance.Running → to ≢ old.id → BeginsMove p to line acted old mid
      → Acts policy plan stamp (Some (go_post old from sent p to hops line)) acted old mid
  begun_acts old mid stamp from sent p to hops line acted suits early c here runs away b =
      let x = b.changes.context in
      let same : x ≡ c = one_context x c (sym b.changes.here ∙ here) in
      let running : x.state ≡ stance.Running = ap (λ (y : code_context.Context). y.state) same ∙ runs in
      let made : Acted = record { what = what.Begin p to line; mail = (to, message.Ask p (hosted.pages_of x)) ∷ [] } in
      subst (λ (a : Acted). Acts policy plan stamp (Some (go_post old from sent p to hops line)) a old mid) (sym b.acted_is)
      (subst (λ (m : Node). Acts policy plan stamp (Some (go_post old from sent p to hops line)) made old m) (sym b.rest) (record {
        usual = tt;
        does = record {
          body = body_of policy plan x;
          was = stood old.hosted p x stance.Running b.changes.here running;
          away = away;
          why = record { from = from; stamp = sent; hops = hops; gossip = refl };
          base = record { took = refl; posts = refl; slots = slots_put policy plan old p (Some (asking to (Some line) x)) mid.hosted _ refl b.changes.puts };
          still = record { kernel = refl; believed = λ q. refl; progress = refl };
        };
        same = refl;
        suits = suits_hosted policy plan old mid.hosted stamp early suits;
      }))
    where
      one_context : (a d : code_context.Context) → Some a ≡ Some d → a ≡ d
      one_context a d e = cc

  kept_acts : (old mid : Node) (stamp from sent p to hops line : ℕ) (acted : Acted) → Suits plan old → stamp ≤ stamp_end + (length old.journal.events + 1) → (c : code_context.Context) (pause : Bool) → lookup p old.hosted ≡ Some c → c.state ≡ stance.Waiting pause None → to ≢ old.id → KeepsMove p to line acted old mid
      → Acts policy plan stamp (Some (go_post old from sent p to hops line)) acted old mid
  kept_acts old mid stamp from sent p to hops line acted suits early c pause here waits away k =
      let x = k.changes.context in
      let same : x ≡ c = one_context x c (sym k.changes.here ∙ here) in
      let waiting : x.state ≡ stance.Waiting pause None = ap (λ (y : code_context.Context). y.state) same ∙ waits in
      let made : Acted = record { what = what.Keep p to line; mail = [] } in
      subst (λ (a : Acted). Acts policy plan stamp (Some (go_post old from sent p to hops line)) a old mid) (sym k.acted_is)
      (subst (λ (m : Node). Acts policy plan stamp (Some (go_post old from sent p to hops line)) made old m) (sym k.rest) (record {
        usual = tt;
        does = record {
          from = from;
          stamp = sent;
          hops = hops;
          body = body_of policy plan x;
          pause = pause;
          was = stood old.hosted p x (stance.Waiting pause None) k.changes.here waiting;
          away = away;
          base = record { took = refl; posts = refl; slots = slots_put policy plan old p (Some (keeping to line x)) mid.hosted _ (ap (λ s. Some (context (machine policy plan) (body_of policy plan x) (state_of (Rattle.remote_ctx.specs.Acting.keeping_as s to line)))) waiting) k.changes.puts };
          still = record { kernel = refl; believed = λ q. refl; progress = refl; gossip = refl };
        };
        same = refl;
        suits = suits_hosted policy plan old mid.hosted stamp early suits;
      }))
    where
      one_context : (a d : code_context.Context) → Some a ≡ Some d → a ≡ d
      one_context a d e = cc

  -- where nothing changes
  still_acts : (old mid : Node) (stamp : ℕ) (taken : Option (Post (machine policy plan))) (said acted : Acted) → Acts policy plan stamp taken said old old → Says said acted old mid → Acts policy plan stamp taken acted old mid
  still_acts old mid stamp taken said acted a s = subst (λ (x : Acted). Acts policy plan stamp taken x old mid) (sym s.acted_is) (subst (λ (m : Node). Acts policy plan stamp taken said old m) (sym s.same) a)

  there_acts : (old : Node) (stamp from sent p to hops line : ℕ) → Suits plan old → stamp ≤ stamp_end + (length old.journal.events + 1) → RefusedFor (machine policy plan) There old.id to (slot_of policy plan old p).context
      → Acts policy plan stamp (Some (go_post old from sent p to hops line)) (refused p to refusal.There line) old old
  there_acts old stamp from sent p to hops line suits early was = record {
    usual = tt;
    does = inl (record {
      from = from;
      stamp = sent;
      hops = hops;
      was = was;
      base = record { took = refl; posts = refl; slots = λ q. cond_same (q == p) (slot_of policy plan old q) };
      still = record { kernel = refl; believed = λ q. refl; progress = refl; gossip = refl };
    });
    same = refl;
    suits = suits_hosted policy plan old old.hosted stamp early suits;
  }

  moving_acts : (old : Node) (stamp from sent p to hops line : ℕ) → Suits plan old → stamp ≤ stamp_end + (length old.journal.events + 1) → RefusedFor (machine policy plan) Moving old.id to (slot_of policy plan old p).context
      → Acts policy plan stamp (Some (go_post old from sent p to hops line)) (refused p to refusal.Moving line) old old
  moving_acts old stamp from sent p to hops line suits early was = record {
    usual = tt;
    does = inl (record {
      from = from;
      stamp = sent;
      hops = hops;
      was = was;
      base = record { took = refl; posts = refl; slots = λ q. cond_same (q == p) (slot_of policy plan old q) };
      still = record { kernel = refl; believed = λ q. refl; progress = refl; gossip = refl };
    });
    same = refl;
    suits = suits_hosted policy plan old old.hosted stamp early suits;
  }

  missed_acts : (old : Node) (stamp from sent p to hops line : ℕ) → Suits plan old → stamp ≤ stamp_end + (length old.journal.events + 1) → lookup p old.hosted ≡ None
      → Acts policy plan stamp (Some (go_post old from sent p to hops line)) (missed p to hops line) old old
  missed_acts old stamp from sent p to hops line suits early none = record {
    usual = tt;
    does = record {
      from = from;
      stamp = sent;
      hops = hops;
      was = ap (option_map (context_of policy plan)) none;
      base = record { took = refl; posts = refl; slots = λ q. cond_same (q == p) (slot_of policy plan old q) };
      still = record { kernel = refl; believed = λ q. refl; progress = refl; gossip = refl };
    };
    same = refl;
    suits = suits_hosted policy plan old old.hosted stamp early suits;
  }

  go_no_misfit : (old : Node) (from p to hops line : ℕ) → from < plan.nodes → to < plan.nodes → Unfit (machine policy plan) old.id from (local policy plan old) (note_of policy plan (message.Go p to hops line)) → ⊥
  go_no_misfit old from p to hops line near below (inl none) = absurd none
  go_no_misfit old from p to hops line near below (inr (inl far)) = omega (arith, near, far)
  go_no_misfit old from p to hops line near below (inr (inr far)) = omega (arith, below, far)

  go_acts : (old mid : Node) (stamp from sent p to hops line : ℕ) (acted : Acted) → Suits plan old → stamp ≤ stamp_end + (length old.journal.events + 1)
      → (a : GoAnswer) (o : Option code_context.Context) → lookup p old.hosted ≡ o → StandsAs a old.id to o → GoActs a p to hops line acted old mid → Acts policy plan stamp (Some (go_post old from sent p to hops line)) acted old mid
  go_acts old mid stamp from sent p to hops line acted suits early answer.Begin (Some c) here (begins _ _ _ runs away) g = begun_acts old mid stamp from sent p to hops line acted suits early c here runs away g
  go_acts old mid stamp from sent p to hops line acted suits early answer.Keep (Some c) here (keeps _ _ _ pause waits away) g = kept_acts old mid stamp from sent p to hops line acted suits early c pause here waits away g
  go_acts old mid stamp from sent p to hops line acted suits early answer.There (Some c) here (there_runs _ _ _ runs at) g = still_acts old mid stamp _ _ acted (there_acts old stamp from sent p to hops line suits early (inl (body_of policy plan c, stood old.hosted p c stance.Running here runs), at)) g
  go_acts old mid stamp from sent p to hops line acted suits early answer.There (Some c) here (there_waits _ _ _ pause waits at) g = still_acts old mid stamp _ _ acted (there_acts old stamp from sent p to hops line suits early (inr (body_of policy plan c, pause, stood old.hosted p c (stance.Waiting pause None) here waits), at)) g
  go_acts old mid stamp from sent p to hops line acted suits early answer.Moving (Some c) here (moving_kept _ _ _ pause k waits) g = still_acts old mid stamp _ _ acted (moving_acts old stamp from sent p to hops line suits early (inr (body_of policy plan c, pause, kept_of k, stood old.hosted p c (stance.Waiting pause (Some k)) here waits))) g
  go_acts old mid stamp from sent p to hops line acted suits early answer.Moving (Some c) here (moving_asks _ _ _ target l asks) g = still_acts old mid stamp _ _ acted (moving_acts old stamp from sent p to hops line suits early (inl (body_of policy plan c, target, l, stood old.hosted p c (stance.Asking target l) here asks))) g
  go_acts old mid stamp from sent p to hops line acted suits early answer.Missed None here (misses _ _) g = still_acts old mid stamp _ _ acted (missed_acts old stamp from sent p to hops line suits early here) g
  go_acts old mid stamp from sent p to hops line acted suits early answer.Begin None here x g = elim x [ ]
  go_acts old mid stamp from sent p to hops line acted suits early answer.Keep None here x g = elim x [ ]
  go_acts old mid stamp from sent p to hops line acted suits early answer.There None here x g = elim x [ ]
  go_acts old mid stamp from sent p to hops line acted suits early answer.Moving None here x g = elim x [ ]
  go_acts old mid stamp from sent p to hops line acted suits early answer.Missed (Some c) here x g = elim x [ ]

  -- an order to move comes
  pub go_hears : (old mid : Node) (stamp from sent p to hops line : ℕ) (acted : Acted) → Suits plan old → from < plan.nodes → to < plan.nodes → stamp ≤ stamp_end + (length old.journal.events + 1)
      → GoActs (answer_at old p to) p to hops line acted old mid → Hears policy plan stamp old.id from sent (message.Go p to hops line) acted old mid
  go_hears old mid stamp from sent p to hops line acted suits near below early g =
      Fits (go_acts old mid stamp from sent p to hops line acted suits early (answer_at old p to) (lookup p old.hosted) refl (answer_stands old.id to (lookup p old.hosted)) g) (go_no_misfit old from p to hops line near below)
