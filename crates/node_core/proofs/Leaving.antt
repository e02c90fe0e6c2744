-- What a node does with the answer to a process that asked for room is a turn by the laws.
use Rattle.std.proofs.Common.{◌≡◌, ◌≢◌, ◌⊎◌, inl, inr, ℕ, ◌+◌, ◌<◌, ◌≤◌, ◌==◌, cond, Bool, true, false, Option, Some, None, List, [], ◌∷◌, map, length, refl, sym, ap, ◌∙◌, subst, arith}
use Rattle.std.specs.Option.{option_map}
use Rattle.call_forward.specs.declared.acted.Acted.{Acted}
use Rattle.call_forward.specs.declared.message.Message.{Message}
use Rattle.call_forward.specs.declared.message.Message.TheVariants as message
use Rattle.node_event.specs.declared.event.What.TheVariants as what
use Rattle.remote_ctx.specs.declared.context.Context as code_context
use Rattle.remote_ctx.specs.declared.context.Stance.{Stance}
use Rattle.remote_ctx.specs.declared.context.Stance.TheVariants as stance
use Rattle.remote_ctx.specs.Hosted.{lookup, stands}
use Rattle.remote_ctx.specs.Hosted as hosted
use Rattle.remote_ctx.specs.Acting.{standing_as}
use Rattle.protocol.specs.Notes.{State, Running, Waiting, Asking, Body, Context, context, Post, letter, Allow, Deny}
use Rattle.protocol.specs.Home.{line_closed}
use Rattle.protocol.specs.Does.{Unfit, NotAsking}
use Rattle.protocol.specs.Odd.{stamp_end}
use Rattle.protocol.proofs.Talk.{numbers_same, same_numbers}
use Rattle.node_machine.specs.Plan.{Plan}
use Rattle.node_machine.specs.Machine.{Policy, machine}
use Rattle.node_core.specs.declared.node.Node.{Node}
use Rattle.node_core.specs.Letters.{posted_by}
use Rattle.node_core.specs.Locals.{local, slot_of, body_of, context_of, state_of, note_of, post_of}
use Rattle.node_core.specs.Suits.{Suits}
use Rattle.node_core.specs.Kinds.{IsStrange}
use Rattle.node_core.specs.Moves.{asked_line, asked_of, Departs, AllowedFor, HearsAllow, closing, Remains, DeniedFor, HearsDeny}
use Rattle.node_core.proofs.Settling.{Acts, Hears, Fits, Misfits}
use Rattle.node_core.proofs.Slots.{slots_put}
use Rattle.node_core.proofs.Contexts.{suits_hosted}
use Rattle.node_core.proofs.Moving.{stood}

-- ---- a context that asks a node

pub record AsksFor (node : ℕ) (line : Option ℕ) (o : Option code_context.Context) : Type 0 where
  pub context : code_context.Context
  pub here : o ≡ Some context
  pub asks : context.state ≡ stance.Asking node line

asks_stance : (node : ℕ) (c : code_context.Context) (s : Stance) (line : Option ℕ) → c.state ≡ s → asked_line node (Some (stands s)) ≡ Some line → AsksFor node line (Some c)
asks_stance node c stance.Running line is e = absurd cc
asks_stance node c (stance.Waiting pause kept) line is e = absurd cc
asks_stance node c (stance.Asking to l) line is e = go (to == node) refl e
  where
    go : (b : Bool) → (to == node) ≡ b → cond b (Some l) None ≡ Some line → AsksFor node line (Some c)
    go true f x = let same : l ≡ line = cc in record { context = c; here = refl; asks = is ∙ (λ i. stance.Asking (numbers_same to node f i) (same i)) }
    go false f x = absurd cc

pub asks_for : (node : ℕ) (o : Option code_context.Context) (line : Option ℕ) → asked_line node (option_map hosted.state_of o) ≡ Some line → AsksFor node line o
asks_for node None line e = absurd cc
asks_for node (Some c) line e = asks_stance node c c.state line refl e

one_context : (a d : code_context.Context) → Some a ≡ Some d → a ≡ d
one_context a d e = cc

module _ (policy : Policy) (plan : Plan) where
  state_in : Option (Context (machine policy plan)) → Option State
  state_in None = None
  state_in (Some c) = Some c.state

  state_is : (a b : State) → Some a ≡ Some b → a ≡ b
  state_is a b e = cc

  target_in : State → ℕ → ℕ
  target_in Running n = n
  target_in (Waiting pause k) n = n
  target_in (Asking to line) n = to

  not_asks : (node : ℕ) (c : code_context.Context) (s : Stance) → asked_line node (Some (stands s)) ≡ None → NotAsking (machine policy plan) node (Some (context (machine policy plan) (body_of policy plan c) (state_of s)))
  unfolding state_in target_in
  not_asks node c stance.Running e = λ b line same. let z : Running ≡ Asking node line = state_is Running (Asking node line) (ap state_in same) in cc
  not_asks node c (stance.Waiting pause kept) e = λ b line same. let z = state_is _ (Asking node line) (ap state_in same) in cc
  not_asks node c (stance.Asking to l) e = λ b line same.
      let z : Asking to l ≡ Asking node line = state_is (Asking to l) (Asking node line) (ap state_in same) in
      let target : to ≡ node = ap (λ s. target_in s node) z in
      let some : Some l ≡ None = sym (ap (λ t. cond t (Some l) None) (same_numbers to node target)) ∙ e in cc

  not_asking : (node : ℕ) (o : Option code_context.Context) → asked_line node (option_map hosted.state_of o) ≡ None → NotAsking (machine policy plan) node (option_map (context_of policy plan) o)
  not_asking node None e = λ b line same. cc
  not_asking node (Some c) e = not_asks node c c.state e

  -- ---- it may come

  abbrev allow_post : Node → ℕ → ℕ → ℕ → Post (machine policy plan)
  allow_post old from sent p = letter (machine policy plan) from old.id sent (Allow p)

  departed_acts : (old mid : Node) (stamp from sent p : ℕ) (line : Option ℕ) (acted : Acted) → Suits plan old → stamp ≤ stamp_end + (length old.journal.events + 1) → AsksFor from line (lookup p old.hosted) → Departs p from line acted old mid
      → Acts policy plan stamp (Some (allow_post old from sent p)) acted old mid
  departed_acts old mid stamp from sent p line acted suits early a d =
      let x = d.leaves.context in
      let same : x ≡ a.context = one_context x a.context (sym d.leaves.here ∙ a.here) in
      let asks : x.state ≡ stance.Asking from line = ap (λ (y : code_context.Context). y.state) same ∙ a.asks in
      let made : Acted = record { what = what.Depart p from; mail = (from, message.Move p x.user x.hops line) ∷ [] } in
      let is : acted ≡ made = d.acted_is ∙ (λ i. record { what = what.Depart p from; mail = (from, message.Move p (d.leaves.user_is i) (d.leaves.hops_is i) line) ∷ [] }) in
      subst (λ (w : Acted). Acts policy plan stamp (Some (allow_post old from sent p)) w old mid) (sym is)
      (subst (λ (m : Node). Acts policy plan stamp (Some (allow_post old from sent p)) made old m) (sym d.rest) (record {
        usual = tt;
        does = record {
          stamp = sent;
          body = body_of policy plan x;
          line = line;
          was = stood policy plan old.hosted p x (stance.Asking from line) d.leaves.here asks;
          base = record { took = refl; posts = refl; slots = slots_put policy plan old p None mid.hosted None refl d.leaves.puts };
          still = record { kernel = refl; believed = λ q. refl; progress = refl; gossip = refl };
        };
        same = refl;
        suits = suits_hosted policy plan old mid.hosted stamp early suits;
      }))

  asks_here : (old : Node) (from p : ℕ) (line : Option ℕ) → AsksFor from line (lookup p old.hosted) → NotAsking (machine policy plan) from (slot_of policy plan old p).context → ⊥
  asks_here old from p line a none = none (body_of policy plan a.context) line (stood policy plan old.hosted p a.context (stance.Asking from line) a.here a.asks)

  allow_no_misfit : (old : Node) (from p : ℕ) (line : Option ℕ) → from < plan.nodes → AsksFor from line (lookup p old.hosted) → Unfit (machine policy plan) old.id from (local policy plan old) (note_of policy plan (message.Allow p)) → ⊥
  allow_no_misfit old from p line near a (inl none) = asks_here old from p line a none
  allow_no_misfit old from p line near a (inr (inl far)) = omega (arith, near, far)
  allow_no_misfit old from p line near a (inr (inr far)) = absurd far

  -- room is given
  pub allow_hears : (old mid : Node) (stamp from sent p : ℕ) (acted : Acted) → Suits plan old → from < plan.nodes → stamp ≤ stamp_end + (length old.journal.events + 1)
      → HearsAllow from p acted old mid → Hears policy plan stamp old.id from sent (message.Allow p) acted old mid
  allow_hears old mid stamp from sent p acted suits near early h = go (asked_of old from p) refl h
    where
      go : (o : Option (Option ℕ)) → asked_of old from p ≡ o → AllowedFor o from p acted old mid → Hears policy plan stamp old.id from sent (message.Allow p) acted old mid
      go None e s = Misfits s.what (inl (not_asking from (lookup p old.hosted) e)) s.same
      go (Some line) e d =
          let a = asks_for from (lookup p old.hosted) line e in
          Fits (departed_acts old mid stamp from sent p line acted suits early a d) (allow_no_misfit old from p line near a)

  -- ---- it may not

  abbrev deny_post : Node → ℕ → ℕ → ℕ → ℕ → ℕ → Post (machine policy plan)
  deny_post old from sent p need free = letter (machine policy plan) from old.id sent (Deny p need free)

  closing_is : (id stamp : ℕ) (line : Option ℕ) → map (post_of policy plan) (map (posted_by id stamp) (closing line)) ≡ line_closed (machine policy plan) id stamp line
  closing_is id stamp None = refl
  closing_is id stamp (Some line) = refl

  remained_acts : (old mid : Node) (stamp from sent p need free : ℕ) (line : Option ℕ) (acted : Acted) → Suits plan old → stamp ≤ stamp_end + (length old.journal.events + 1) → AsksFor from line (lookup p old.hosted) → Remains p from need free line acted old mid
      → Acts policy plan stamp (Some (deny_post old from sent p need free)) acted old mid
  remained_acts old mid stamp from sent p need free line acted suits early a r =
      let x = r.changes.context in
      let same : x ≡ a.context = one_context x a.context (sym r.changes.here ∙ a.here) in
      let asks : x.state ≡ stance.Asking from line = ap (λ (y : code_context.Context). y.state) same ∙ a.asks in
      let made : Acted = record { what = what.Stay p from need free; mail = closing line } in
      subst (λ (w : Acted). Acts policy plan stamp (Some (deny_post old from sent p need free)) w old mid) (sym r.acted_is)
      (subst (λ (m : Node). Acts policy plan stamp (Some (deny_post old from sent p need free)) made old m) (sym r.rest) (record {
        usual = tt;
        does = record {
          stamp = sent;
          body = body_of policy plan x;
          line = line;
          was = stood policy plan old.hosted p x (stance.Asking from line) r.changes.here asks;
          base = record { took = refl; posts = closing_is old.id stamp line; slots = slots_put policy plan old p (Some (standing_as stance.Running x)) mid.hosted _ refl r.changes.puts };
          still = record { kernel = refl; believed = λ q. refl; progress = refl; gossip = refl };
        };
        same = refl;
        suits = suits_hosted policy plan old mid.hosted stamp early suits;
      }))

  deny_no_misfit : (old : Node) (from p need free : ℕ) (line : Option ℕ) → from < plan.nodes → AsksFor from line (lookup p old.hosted) → Unfit (machine policy plan) old.id from (local policy plan old) (note_of policy plan (message.Deny p need free)) → ⊥
  deny_no_misfit old from p need free line near a (inl none) = asks_here old from p line a none
  deny_no_misfit old from p need free line near a (inr (inl far)) = omega (arith, near, far)
  deny_no_misfit old from p need free line near a (inr (inr far)) = absurd far

  -- room is refused
  pub deny_hears : (old mid : Node) (stamp from sent p need free : ℕ) (acted : Acted) → Suits plan old → from < plan.nodes → stamp ≤ stamp_end + (length old.journal.events + 1)
      → HearsDeny from p need free acted old mid → Hears policy plan stamp old.id from sent (message.Deny p need free) acted old mid
  deny_hears old mid stamp from sent p need free acted suits near early h = go (asked_of old from p) refl h
    where
      go : (o : Option (Option ℕ)) → asked_of old from p ≡ o → DeniedFor o from p need free acted old mid → Hears policy plan stamp old.id from sent (message.Deny p need free) acted old mid
      go None e s = Misfits s.what (inl (not_asking from (lookup p old.hosted) e)) s.same
      go (Some line) e r =
          let a = asks_for from (lookup p old.hosted) line e in
          Fits (remained_acts old mid stamp from sent p need free line acted suits early a r) (deny_no_misfit old from p need free line near a)
