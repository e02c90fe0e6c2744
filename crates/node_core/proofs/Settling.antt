-- What a node did, written down, is a turn by the laws.
use Rattle.std.proofs.Common.{◌≡◌, inl, inr, ℕ, ◌+◌, ◌<◌, ◌≤◌, ◌==◌, cond, Bool, true, false, Option, Some, List, [], ◌∷◌, ◌++◌, map, length, refl, sym, ap, ◌∙◌, subst, arith, IfSome}
use Rattle.std.specs.Prelude.{max}
use Rattle.std.specs.Option.{option_map}
use Rattle.std.proofs.lemmas.List.{map-append, append-nil, length-append}
use Rattle.call_forward.specs.declared.message.Message.{Message}
use Rattle.call_forward.specs.declared.letter.Letter.{Letter}
use Rattle.call_forward.specs.declared.acted.Acted.{Acted}
use Rattle.node_event.specs.declared.event.Event.{Event}
use Rattle.node_event.specs.declared.event.What.{What}
use Rattle.node_event.specs.declared.event.What.TheVariants as what
use Rattle.node_event.specs.declared.script.ScriptLine.{ScriptLine}
use Rattle.protocol.specs.Deeds.{Deed, Noted, noted, all_noted, deed_of, Strange}
use Rattle.protocol.specs.Notes.{Turn, Post, letter}
use Rattle.protocol.specs.Does.{Does, Unfit, next_stamp, pid_of_note}
use Rattle.protocol.specs.Odd.{IsOdd, ManyHops, stamp_end}
use Rattle.run_laws.specs.Carried.{recorded, IsUsual}
use Rattle.node_machine.specs.Plan.{Plan}
use Rattle.node_machine.specs.Machine.{Policy, machine}
use Rattle.node_core.specs.declared.node.Node.{Node}
use Rattle.node_core.specs.Letters.{posted_by}
use Rattle.node_core.specs.Locals.{local, slot_of, post_of, post_at, note_of}
use Rattle.node_core.specs.Suits.{SuitsAt, Suits, contexts_below}
use Rattle.node_core.proofs.Growing.{one_more_context}
use Rattle.node_core.specs.Turns.{Made, one_more, strange_after, is_strange, recorded_in, skipped_in, settled_in}

abbrev pub at_clock : ℕ → Node → Node
at_clock stamp n = record n { clock = stamp }

-- the parts of a node that an event may change, beside those that each one does
abbrev pub moved : Node → Node → Node
moved old mid = record old { hosted = mid.hosted; reserve = mid.reserve; deputies = mid.deputies; course = mid.course; talk = mid.talk; rotation = mid.rotation }

cond_same : {A : Type 0} (b : Bool) (x : A) → x ≡ cond b x x
cond_same true x = refl
cond_same false x = refl

not_strange : (script : List ScriptLine) (w : What) → IsUsual (deed_of script w) → is_strange w ≡ false
not_strange script what.Strange u = absurd u
not_strange script _ u = refl

recorded_usual : (e : Noted) (d : Deed) → IsUsual d → recorded e d ≡ e ∷ []
recorded_usual e (Strange p) u = absurd u
recorded_usual e _ u = refl

strange_usual : (d : Deed) (count : ℕ) → IsUsual d → strange_after d count ≡ count
strange_usual (Strange p) count u = absurd u
strange_usual _ count u = refl

module _ (policy : Policy) (plan : Plan) where
  abbrev pub turn_at : ℕ → ℕ → Deed → Option (Post (machine policy plan)) → List (ℕ × Message) → Turn (machine policy plan)
  turn_at id stamp deed taken mail = record { event = record { stamp = stamp; node = id; what = deed }; taken = taken; posted = map (post_of policy plan) (map (posted_by id stamp) mail) }

  -- an event that a node makes at a stamp, before it is written down
  pub record Acts (stamp : ℕ) (taken : Option (Post (machine policy plan))) (acted : Acted) (old mid : Node) : Type 0 where
    pub usual : IsUsual (deed_of plan.script acted.what)
    pub does : Does (machine policy plan) (deed_of plan.script acted.what) old.id (local policy plan old) (turn_at old.id stamp (deed_of plan.script acted.what) taken acted.mail) (local policy plan (at_clock stamp (moved old mid)))
    pub same : mid ≡ moved old mid
    pub suits : SuitsAt plan (length old.journal.events + 1) (at_clock stamp (moved old mid))

  -- what a node makes of a message from another: it acts on it where it fits
  pub data Hears (stamp : ℕ) (id from sent : ℕ) (message : Message) (acted : Acted) (old mid : Node) : Type 0 where
    Fits : Acts stamp (Some (letter (machine policy plan) from id sent (note_of policy plan message))) acted old mid → (Unfit (machine policy plan) id from (local policy plan old) (note_of policy plan message) → ⊥) → Hears stamp id from sent message acted old mid
    Misfits : acted.what ≡ what.Strange → Unfit (machine policy plan) id from (local policy plan old) (note_of policy plan message) → mid ≡ old → Hears stamp id from sent message acted old mid

  suits_recorded : (old mid : Node) (stamp : ℕ) (acted : Acted) → SuitsAt plan (length old.journal.events + 1) (at_clock stamp (moved old mid)) → ((k : ℕ) → contexts_below k mid.hosted ≤ length old.journal.events + 1) → Suits plan (recorded_in stamp acted (moved old mid))
  suits_recorded old mid stamp acted s few =
      let e : Event = record { stamp = stamp; node = old.id; what = acted.what } in
      let count : length old.journal.events + 1 ≡ length (old.journal.events ++ e ∷ []) = sym (length-append old.journal.events (e ∷ [])) in
      let t : SuitsAt plan (length (old.journal.events ++ e ∷ [])) (at_clock stamp (moved old mid)) = subst (λ (k : ℕ). SuitsAt plan k (at_clock stamp (moved old mid))) count s in
      record {
        is_plan = t.is_plan;
        below = t.below;
        shape = t.shape;
        room = t.room;
        within = record { clock = t.within.clock; served = t.within.served; sent = t.within.sent; steps = t.within.steps };
        course = t.course;
        chance = t.chance;
        few = λ k. let f = few k in omega (arith, f, count);
      }

  -- an event that is written down
  pub recorded_made : (old mid new : Node) (stamp : ℕ) (inbox : Option Letter) (acted : Acted) → Suits plan old
      → Acts stamp (option_map (post_at policy plan old.id) inbox) acted old mid
      → stamp ≡ next_stamp (machine policy plan) old.clock (option_map (post_at policy plan old.id) inbox)
      → IfSome (option_map (post_at policy plan old.id) inbox) (λ l. IsOdd (machine policy plan) old.id (local policy plan old) l → ⊥)
      → new ≡ settled_in stamp acted mid
      → Made policy plan inbox old new
  recorded_made old mid new stamp inbox acted suits acts at odd is =
      let deed : Deed = deed_of plan.script acted.what in
      let e : Noted = record { stamp = stamp; node = old.id; what = deed } in
      let is2 : new ≡ recorded_in stamp acted (moved old mid) = is ∙ (ap (λ b. cond b (skipped_in stamp mid) (recorded_in stamp acted mid)) (not_strange plan.script acted.what acts.usual) ∙ ap (recorded_in stamp acted) acts.same) in
      subst (λ (n : Node). Made policy plan inbox old n) (sym is2) (record {
        turn = turn_at old.id stamp deed (option_map (post_at policy plan old.id) inbox) acted.mail;
        makes = record { node = refl; below = suits.below; stamp_is = omega (arith, at); clock = refl; does = acts.does };
        timely = record { stamp_is = at; usual = odd };
        taken = refl;
        mail = map-append (post_of policy plan) old.outbox (map (posted_by old.id stamp) acted.mail);
        journal = map-append (λ (x : Event). noted plan.script x) old.journal.events _ ∙ ap (λ es. all_noted plan.script old.journal.events ++ es) (sym (recorded_usual e deed acts.usual));
        strange = sym (strange_usual deed old.strange acts.usual);
        id = refl;
        shape = refl;
        suits = suits_recorded old mid stamp acted acts.suits (λ k. let more = one_more_context policy plan old (at_clock stamp (moved old mid)) deed _ acts.does k in let few = suits.few k in omega (arith, more, few));
      })

  pub suits_skipped : (old : Node) (clock count : ℕ) → clock ≤ stamp_end + length old.journal.events → Suits plan old → Suits plan (record old { clock = clock; strange = count })
  suits_skipped old clock count most t = record {
    is_plan = t.is_plan;
    below = t.below;
    shape = t.shape;
    room = t.room;
    within = record { clock = most; served = t.within.served; sent = t.within.sent; steps = t.within.steps };
    course = t.course;
    chance = t.chance;
    few = t.few;
  }

  -- a letter that did not fit
  pub skipped_made : (old new : Node) (stamp : ℕ) (l : Letter) → Suits plan old → old.clock < stamp_end → l.stamp < stamp_end → stamp ≡ max old.clock l.stamp + 1
      → (ManyHops (machine policy plan) (note_of policy plan l.message) → ⊥)
      → Unfit (machine policy plan) old.id l.from (local policy plan old) (note_of policy plan l.message)
      → new ≡ record old { clock = stamp; strange = one_more old.strange }
      → Made policy plan (Some l) old new
  skipped_made old new stamp l suits early sent at hops mis is =
      let O_slot = slot_of policy plan old in
      subst (λ (n : Node). Made policy plan (Some l) old n) (sym is) (record {
        turn = turn_at old.id stamp (Strange (pid_of_note (machine policy plan) (note_of policy plan l.message))) (Some (post_at policy plan old.id l)) [];
        makes = record {
          node = refl;
          below = suits.below;
          stamp_is = omega (arith, at);
          clock = refl;
          does = record {
            from = l.from;
            stamp = l.stamp;
            note = note_of policy plan l.message;
            pid = refl;
            misfit = mis;
            base = record { took = refl; posts = refl; slots = λ q. cond_same (q == pid_of_note (machine policy plan) (note_of policy plan l.message)) (O_slot q) };
            still = record { kernel = refl; believed = λ q. refl; progress = refl; gossip = refl };
          };
        };
        timely = record { stamp_is = at; usual = not_odd };
        taken = refl;
        mail = sym (append-nil (map (post_of policy plan) old.outbox));
        journal = sym (append-nil (all_noted plan.script old.journal.events));
        strange = refl;
        id = refl;
        shape = refl;
        suits = suits_skipped old stamp (one_more old.strange) (omega (arith, at, early, sent)) suits;
      })
    where
      not_odd : IsOdd (machine policy plan) old.id (local policy plan old) (post_at policy plan old.id l) → ⊥
      not_odd (inl late) = omega (arith, late, sent)
      not_odd (inr (inl far)) = let low : old.id < plan.nodes = suits.below in omega (arith, far, low)
      not_odd (inr (inr (inl many))) = hops many
      not_odd (inr (inr (inr (late, u)))) = omega (arith, late, early)
