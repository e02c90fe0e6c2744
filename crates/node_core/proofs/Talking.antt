-- What a node does at a half is an event by the laws.
use Rattle.std.proofs.Common.{◌≡◌, ◌≢◌, ◌⊎◌, inl, inr, ℕ, zero, suc, ◌+◌, ◌<◌, ◌≤◌, ◌==◌, ◌&&◌, cond, nat_lt, Bool, true, false, Option, Some, None, List, [], ◌∷◌, ◌++◌, map, length, take, refl, sym, ap, ◌∙◌, subst, arith, IfSome}
use Rattle.std.specs.Prelude.{◌-◌, ◌^◌, min}
use Rattle.std.specs.Option.{option_map}
use Rattle.std.proofs.lemmas.List.{append-nil, map-append}
use Rattle.rand_pcg.specs.Pcg.{pcg32}
use Rattle.call_table.specs.declared.process.Entry as code_entry
use Rattle.call_forward.specs.declared.acted.Acted.{Acted}
use Rattle.call_forward.specs.declared.message.Message.{Message}
use Rattle.call_forward.specs.declared.message.Message.TheVariants as message
use Rattle.node_event.specs.declared.event.What.{What}
use Rattle.load_gossip.specs.Vectors as vectors
use Rattle.mem_usher.specs.declared.sight.Choice as choice_row
use Rattle.remote_ctx.specs.declared.context.Context as code_context
use Rattle.remote_ctx.specs.declared.context.Stance.TheVariants as stance
use Rattle.remote_ctx.specs.Hosted.{lookup, runs_at}
use Rattle.remote_ctx.specs.Hosted as hosted
use Rattle.remote_ctx.specs.Acting.{asking}
use Rattle.protocol.specs.Deeds.{Deed, deed_of, half_deed, Chosen, Begin, Gossips}
use Rattle.protocol.specs.Gossip.{Entry, Gossip, Choice, gossip_after}
use Rattle.protocol.specs.Notes.{Running, Asking, context, Post, Turn, letter, Half, Ask, Local}
use Rattle.protocol.specs.Does.{Does, HalfDueTo, NoneRuns, SendsIf, Talks, half_taken, half_posts, hosts}
use Rattle.protocol.specs.Odd.{stamp_end}
use Rattle.node_machine.specs.Plan.{Plan}
use Rattle.node_machine.specs.Machine.{Policy, machine}
use Rattle.node_machine.specs.Policy.{told_sight, told_choice}
use Rattle.node_core.specs.declared.node.Node.{Node}
use Rattle.node_core.specs.declared.talk.Talk.{Talk}
use Rattle.node_core.specs.Locals.{local, slot_of, body_of, context_of, state_of, entry_of, places_of, gossip_of, post_of, note_of}
use Rattle.node_core.specs.Letters.{posted_by}
use Rattle.node_core.specs.Suits.{SuitsAt, Suits, word_after}
use Rattle.node_core.specs.Sight.{Answerer, own_entry, AreCounted, Chooses}
use Rattle.node_core.specs.Halves.{in_first_round, target_of, chance_after, told_talk, heard_talk, Follows, told_half, told_heard, SendsHalf, HearsHalf}
use Rattle.node_core.proofs.Settling.{Acts, at_clock, turn_at, moved}
use Rattle.node_core.proofs.Slots.{cond_same, slots_put}
use Rattle.node_core.proofs.Contexts.{runs_here}
use Rattle.node_core.proofs.Seeing.{law_movable, law_choice, can_move, sight_is, choice_back}
use Rattle.node_core.proofs.Halving.{Gives, renewed_same, woven_same, told_same, loaded, free_known, used_here, used_of, many_is, first_is, past_first, Due}

one_choice : (o : Option choice_row.Choice) → Option Choice
one_choice o = option_map law_choice o

-- an event that sends or hears a half
abbrev what_by : Bool → ℕ → Option choice_row.Choice → What
what_by false other chosen = told_half other chosen
what_by true other chosen = told_heard other chosen

what_none : (heard : Bool) (script : List Rattle.node_event.specs.declared.script.ScriptLine.ScriptLine) (other : ℕ) → deed_of script (what_by heard other None) ≡ Gossips heard other
what_none false script other = refl
what_none true script other = refl

what_some : (heard : Bool) (script : List Rattle.node_event.specs.declared.script.ScriptLine.ScriptLine) (other : ℕ) (c : choice_row.Choice) → deed_of script (what_by heard other (Some c)) ≡ Begin c.pid c.to (Chosen heard other)
what_some false script other c = refl
what_some true script other c = refl

module _ (policy : Policy) (plan : Plan) where
  abbrev told_node : Node → Talk → Node
  told_node old t = record old { talk = t }

  -- what a half makes of gossip, apart from what the policy chooses
  pub record Half_of (heard : Bool) (stamp other : ℕ) (places : List (Option code_entry.Entry)) (old : Node) (t : Talk) : Type 0 where
    pub sends : SendsIf (machine policy plan) heard old.id other (entry_of (own_entry stamp old)) (places_of places) (local policy plan old)
    pub gossip : gossip_of t ≡ gossip_after heard (entry_of (own_entry stamp old)) (places_of places) (gossip_of old.talk)
    pub suits : SuitsAt plan (length old.journal.events + 1) (at_clock stamp (told_node old t))

  module _ (answers : Answerer) (gives : Gives answers policy) (heard : Bool) (old mid : Node) (stamp sent other : ℕ) (places : List (Option code_entry.Entry)) (t : Talk)
      (suits : Suits plan old) (most : length old.journal.events ≤ old.journal.room) (counted : AreCounted old.hosted) (half : Half_of heard stamp other places old t) where
    abbrev own : code_entry.Entry
    own = own_entry stamp old

    talks : (chosen : Option choice_row.Choice) (turn : Turn (machine policy plan)) (new : Local (machine policy plan)) → turn.event.stamp ≡ stamp → new.gossip ≡ gossip_of t → Chooses answers own (told_node old t) chosen → Talks (machine policy plan) heard old.id other (option_map law_choice chosen) (local policy plan old) turn new
    talks chosen turn new at gossip c =
        let nodes = suits.shape.nodes in
        let cap = suits.shape.cap in
        let is = sight_is policy plan (told_node old t) (own_entry stamp old) c.sight nodes cap c.sees in
        let range = subst Rattle.policy_box.specs.Policies.IsInRange (sym is) c.sees.range in
        let answer = subst (λ (s : Rattle.mem_usher.specs.declared.sight.Sight.Sight). answers s (option_map told_choice (option_map law_choice chosen))) (sym is) (subst (λ (o : Option choice_row.Choice). answers c.sight o) (sym (choice_back chosen)) c.answer) in
        let gave = gives _ (option_map law_choice chosen) range answer in
        let free = free_known policy plan old suits in
        let stamp_is = sym at in
        record {
          own = entry_of (own_entry stamp old);
          places = places_of places;
          stamp = sent;
          used = used_of policy plan old;
          in_use = used_here policy plan old counted;
          loaded = loaded policy plan old suits most counted;
          own_is = λ i. record { node = old.id; load = Rattle.node_core.specs.Sight.load_of old; free = free i; stamp = stamp_is i };
          sends = half.sends;
          gossip = gossip ∙ half.gossip;
          movable = map law_movable c.sight.movable;
          can_move = can_move policy plan old c.sight.movable c.sees.movable;
          chooses = subst (λ (g : Gossip). policy (Rattle.protocol.specs.Does.seen (machine policy plan) old.id (entry_of (own_entry stamp old)) g.vector (map law_movable c.sight.movable)) (option_map law_choice chosen)) (sym gossip) gave;
        }

    abbrev taken : Option (Post (machine policy plan))
    taken = half_taken (machine policy plan) heard old.id other sent (places_of places)

    abbrev first_posts : List (Post (machine policy plan))
    first_posts = half_posts (machine policy plan) heard old.id other stamp (places_of places)

    module _ (first : List (ℕ × Message)) (first_is : map (post_of policy plan) (map (posted_by old.id stamp) first) ≡ first_posts) where
      -- nothing was chosen
      quiet : (mail : List (ℕ × Message)) → mail ≡ first → mid ≡ told_node old t → Chooses answers own (told_node old t) None → Acts policy plan stamp taken (record { what = what_by heard other None; mail = mail }) old mid
      unfolding talks
      quiet mail mail_is mid_is c =
          let deed = what_none heard plan.script other in
          let posts : map (post_of policy plan) (map (posted_by old.id stamp) mail) ≡ first_posts = ap (λ m. map (post_of policy plan) (map (posted_by old.id stamp) m)) mail_is ∙ first_is in
          subst (λ (n : Node). Acts policy plan stamp taken (record { what = what_by heard other None; mail = mail }) old n) (sym mid_is) (record {
            usual = subst (λ (d : Deed). Rattle.run_laws.specs.Carried.IsUsual d) (sym deed) tt;
            does = subst (λ (d : Deed). Does (machine policy plan) d old.id (local policy plan old) (turn_at policy plan old.id stamp d taken mail) (local policy plan (at_clock stamp (told_node old t)))) (sym deed) (record {
              talks = talks None _ _ refl refl c;
              base = record { took = refl; posts = posts; slots = λ q. cond_same (q == 0) (slot_of policy plan old q) };
              still = record { kernel = refl; believed = λ q. refl; progress = refl };
            });
            same = refl;
            suits = half.suits;
          })

      -- a process was chosen, and begins
      begins : (mail : List (ℕ × Message)) (c : choice_row.Choice) → Chooses answers own (told_node old t) (Some c) → Rattle.node_core.specs.Halves.BeginsChosen c first mail (told_node old t) mid
          → Acts policy plan stamp taken (record { what = what_by heard other (Some c); mail = mail }) old mid
      unfolding talks
      begins mail c chosen b =
          let x = b.changes.context in
          let deed = what_some heard plan.script other c in
          let running : x.state ≡ stance.Running = runs_here old.hosted c.pid x chosen.runs b.changes.here in
          let new : Node = record old { talk = t; hosted = mid.hosted } in
          let posts : map (post_of policy plan) (map (posted_by old.id stamp) mail) ≡ first_posts ++ letter (machine policy plan) old.id c.to stamp (Ask c.pid (hosted.pages_of x)) ∷ [] =
          ap (λ m. map (post_of policy plan) (map (posted_by old.id stamp) m)) b.mail_is
          ∙ (ap (map (post_of policy plan)) (map-append (posted_by old.id stamp) first ((c.to, message.Ask c.pid (hosted.pages_of x)) ∷ []))
          ∙ (map-append (post_of policy plan) (map (posted_by old.id stamp) first) (map (posted_by old.id stamp) ((c.to, message.Ask c.pid (hosted.pages_of x)) ∷ []))
          ∙ ap (λ ps. ps ++ letter (machine policy plan) old.id c.to stamp (Ask c.pid (hosted.pages_of x)) ∷ []) first_is)) in
          let s = half.suits in
          subst (λ (n : Node). Acts policy plan stamp taken (record { what = what_by heard other (Some c); mail = mail }) old n) (sym b.rest) (record {
            usual = subst (λ (d : Deed). Rattle.run_laws.specs.Carried.IsUsual d) (sym deed) tt;
            does = subst (λ (d : Deed). Does (machine policy plan) d old.id (local policy plan old) (turn_at policy plan old.id stamp d taken mail) (local policy plan (at_clock stamp new))) (sym deed) (record {
              body = body_of policy plan x;
              was = ap (option_map (context_of policy plan)) b.changes.here ∙ ap (λ y. Some (context (machine policy plan) (body_of policy plan x) (state_of y))) running;
              away = chosen.away;
              why = talks (Some c) _ _ refl refl chosen;
              base = record { took = refl; posts = posts; slots = slots_put policy plan (told_node old t) c.pid (Some (asking c.to None x)) mid.hosted _ refl b.changes.puts };
              still = record { kernel = refl; believed = λ q. refl; progress = refl };
            });
            same = refl;
            suits = record { is_plan = s.is_plan; below = s.below; shape = s.shape; room = s.room; within = record { clock = s.within.clock; served = s.within.served; sent = s.within.sent; steps = s.within.steps }; course = s.course; chance = s.chance };
          })

      pub half_acts : (mail : List (ℕ × Message)) (chosen : Option choice_row.Choice) → Chooses answers own (told_node old t) chosen → Follows chosen first mail (told_node old t) mid → Acts policy plan stamp taken (record { what = what_by heard other chosen; mail = mail }) old mid
      half_acts mail None c f = quiet mail f.0 f.1 c
      half_acts mail (Some x) c f = begins mail x c f

  -- ---- a half that is sent

  few_sent : (sent events room : ℕ) → sent ≤ events → events ≤ room → room ≤ 1048576 → min (sent + 1) (2 ^ 32 - 1) ≡ sent + 1
  few_sent sent events room a b c = omega (arith, a, b, c)

  sent_more : (old : Node) → Suits plan old → length old.journal.events ≤ old.journal.room → min (old.talk.sent + 1) (2 ^ 32 - 1) ≡ old.talk.sent + 1
  sent_more old suits most = few_sent old.talk.sent (length old.journal.events) old.journal.room suits.within.sent most (let e = suits.room in let m = suits.shape.most_events in omega (arith, e, m))

  -- the words to come
  chance_more : (old : Node) → Suits plan old → (k : ℕ) → plan.word old.id (old.talk.sent + 1 - (plan.nodes - 1) + k) ≡ word_after k (chance_after old)
  chance_more old suits k = go (in_first_round old) refl
    where
      go : (b : Bool) → in_first_round old ≡ b → plan.word old.id (old.talk.sent + 1 - (plan.nodes - 1) + k) ≡ word_after k (cond b old.talk.chance (pcg32 old.talk.chance).1)
      go true e =
          let low = first_is policy plan old suits e in
          let same : old.talk.sent + 1 - (plan.nodes - 1) + k ≡ old.talk.sent - (plan.nodes - 1) + k = omega (arith, low) in
          ap (plan.word old.id) same ∙ suits.chance k
      go false e =
          let high = past_first policy plan old suits e in
          let next : old.talk.sent + 1 - (plan.nodes - 1) + k ≡ old.talk.sent - (plan.nodes - 1) + suc k = omega (arith, high) in
          ap (plan.word old.id) next ∙ suits.chance (suc k)

  abbrev sent_talk : ℕ → Node → Talk
  sent_talk stamp old = told_talk (own_entry stamp old) (record old.talk { chance = chance_after old })

  sent_half : (old : Node) (stamp : ℕ) → Suits plan old → length old.journal.events ≤ old.journal.room → stamp ≤ stamp_end + (length old.journal.events + 1) → 2 ≤ plan.nodes → Due policy plan old (NoneRuns (machine policy plan) (local policy plan old))
      → Half_of false stamp (target_of old) (take 4 (vectors.renewed (own_entry stamp old) old.talk.vector)) old (sent_talk stamp old)
  sent_half old stamp suits most early many due =
      let count = sent_more old suits most in
      let places = told_same (own_entry stamp old) old.talk in
      let vector = renewed_same (own_entry stamp old) old.talk.vector in
      let free = free_known policy plan old suits in
      record {
        sends = (many, subst (λ (f : ℕ). HalfDueTo (machine policy plan) old.id (target_of old) (Rattle.node_core.specs.Sight.load_of old) f (NoneRuns (machine policy plan) (local policy plan old)) (gossip_of old.talk)) (sym free) due, places);
        gossip = λ i. record { vector = vector i; sent = count i; steps = 0; load = Rattle.node_core.specs.Sight.load_of old; free = Rattle.node_core.specs.Sight.free_of old };
        suits = record {
          is_plan = suits.is_plan;
          below = suits.below;
          shape = suits.shape;
          room = suits.room;
          within = record { clock = early; served = λ q. let k = suits.within.served q in omega (arith, k); sent = let k = suits.within.sent in omega (arith, k, count); steps = omega arith };
          course = suits.course;
          chance = λ k. ap (λ (s : ℕ). plan.word old.id (s - (plan.nodes - 1) + k)) count ∙ chance_more old suits k;
        };
      }

  pub sends_acts : (answers : Answerer) (old mid : Node) (stamp : ℕ) (acted : Acted) → Gives answers policy → Suits plan old → length old.journal.events ≤ old.journal.room → stamp ≤ stamp_end + (length old.journal.events + 1) → 2 ≤ plan.nodes → Due policy plan old (NoneRuns (machine policy plan) (local policy plan old))
      → SendsHalf answers stamp acted old mid → Acts policy plan stamp None acted old mid
  sends_acts answers old mid stamp acted gives suits most early many due s =
      let is : acted ≡ record { what = told_half (target_of old) s.chosen; mail = acted.mail } = λ i. record { what = s.what i; mail = acted.mail } in
      subst (λ (a : Acted). Acts policy plan stamp None a old mid) (sym is)
      (half_acts answers gives false old mid stamp 0 (target_of old) _ (sent_talk stamp old) suits most s.counted (sent_half old stamp suits most early many due) _ refl acted.mail s.chosen s.decides.chooses s.decides.follows)

  -- ---- a half that is heard

  heard_half : (old : Node) (stamp from : ℕ) (places : List (Option code_entry.Entry)) → Suits plan old → stamp ≤ stamp_end + (length old.journal.events + 1)
      → Half_of true stamp from places old (heard_talk (own_entry stamp old) places old.talk)
  heard_half old stamp from places suits early =
      let vector : places_of (vectors.merged (take 4 (vectors.renewed (own_entry stamp old) old.talk.vector)) places) ≡ Rattle.protocol.specs.Gossip.woven (Rattle.protocol.specs.Gossip.told_places (entry_of (own_entry stamp old)) (gossip_of old.talk)) (places_of places) =
      woven_same (take 4 (vectors.renewed (own_entry stamp old) old.talk.vector)) places ∙ ap (λ ps. Rattle.protocol.specs.Gossip.woven ps (places_of places)) (told_same (own_entry stamp old) old.talk) in
      record {
        sends = tt;
        gossip = λ i. record { vector = vector i; sent = old.talk.sent; steps = old.talk.steps; load = old.talk.load; free = old.talk.free };
        suits = record {
          is_plan = suits.is_plan;
          below = suits.below;
          shape = suits.shape;
          room = suits.room;
          within = record { clock = early; served = λ q. let k = suits.within.served q in omega (arith, k); sent = let k = suits.within.sent in omega (arith, k); steps = let k = suits.within.steps in omega (arith, k) };
          course = suits.course;
          chance = suits.chance;
        };
      }

  pub hears_acts : (answers : Answerer) (old mid : Node) (stamp from sent : ℕ) (places : List (Option code_entry.Entry)) (acted : Acted) → Gives answers policy → Suits plan old → length old.journal.events ≤ old.journal.room → stamp ≤ stamp_end + (length old.journal.events + 1)
      → HearsHalf answers stamp from places acted old mid → Acts policy plan stamp (Some (letter (machine policy plan) from old.id sent (Half (places_of places)))) acted old mid
  hears_acts answers old mid stamp from sent places acted gives suits most early s =
      let is : acted ≡ record { what = told_heard from s.chosen; mail = acted.mail } = λ i. record { what = s.what i; mail = acted.mail } in
      subst (λ (a : Acted). Acts policy plan stamp (Some (letter (machine policy plan) from old.id sent (Half (places_of places)))) a old mid) (sym is)
      (half_acts answers gives true old mid stamp sent from places (heard_talk (own_entry stamp old) places old.talk) suits most s.counted (heard_half old stamp from places suits early) [] refl acted.mail s.chosen s.decides.chooses s.decides.follows)
