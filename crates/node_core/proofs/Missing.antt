-- What home does with a move that missed its process, and with one that is over, is a turn by the laws.
use Rattle.std.proofs.Common.{◌≡◌, ◌⊎◌, inl, inr, ℕ, zero, suc, ◌+◌, ◌<◌, ◌≤◌, ◌==◌, cond, nat_lt, Bool, true, false, Some, [], length, refl, sym, subst, arith}
use Rattle.std.proofs.lemmas.Bool.Decides.{nat_tests}
use Rattle.call_forward.specs.declared.acted.Acted.{Acted}
use Rattle.call_forward.specs.declared.message.Message.TheVariants as message
use Rattle.node_event.specs.declared.event.What.TheVariants as what
use Rattle.node_event.specs.declared.event.Refusal.{Refusal}
use Rattle.node_event.specs.declared.event.Refusal.TheVariants as refusal
use Rattle.kernel_spec.specs.Kernel.{KernelState, given, is_live}
use Rattle.deputy.specs.Rows.{hops_at, place_at}
use Rattle.deputy.specs.Calls as calls
use Rattle.deputy.specs.Moves as moves
use Rattle.protocol.specs.Deeds.{why_of}
use Rattle.protocol.specs.Notes.{Post, letter, NotHere, NoMove}
use Rattle.protocol.specs.Does.{Unfit, NoNews}
use Rattle.protocol.specs.Odd.{stamp_end}
use Rattle.node_machine.specs.Plan.{Plan}
use Rattle.node_machine.specs.Machine.{Policy, machine}
use Rattle.node_core.specs.declared.node.Node.{Node}
use Rattle.node_core.specs.Locals.{local, slot_of, note_of}
use Rattle.node_core.specs.Suits.{Suits}
use Rattle.node_core.specs.Kinds.{OnHome, Says}
use Rattle.node_core.proofs.Settling.{Acts, Hears, Fits}
use Rattle.node_core.proofs.Slots.{cond_same}
use Rattle.node_core.proofs.Contexts.{suits_hosted}
use Rattle.node_core.proofs.Home.{acts_on, strange_on, turned_as}

never_given : (k : KernelState) (p : ℕ) → moves.was_given k p ≡ false → (p ≡ 0) ⊎ (given k < p)
never_given k zero e = inl refl
never_given k (suc i) e = inr (grind (arith, nat_tests, e))

not_never : (k : KernelState) (p : ℕ) → moves.was_given k p ≡ true → (p ≡ 0) ⊎ (given k < p) → ⊥
not_never k p e (inl z) = let f : moves.was_given k 0 ≡ true = subst (λ (n : ℕ). moves.was_given k n ≡ true) z e in absurd cc
not_never k p e (inr h) = grind (arith, nat_tests, e, h)

lower_is : (a b : ℕ) → nat_lt a b ≡ true → a < b
lower_is a b e = grind (arith, nat_tests, e)

lower_not : (a b : ℕ) → nat_lt a b ≡ false → b ≤ a
lower_not a b e = grind (arith, nat_tests, e)

module _ (policy : Policy) (plan : Plan) where
  abbrev missed_post : Node → ℕ → ℕ → ℕ → ℕ → ℕ → ℕ → Post (machine policy plan)
  missed_post old from sent p to hops line = letter (machine policy plan) from old.id sent (NotHere p to hops line)

  again_acts : (old : Node) (stamp from sent p to hops line : ℕ) → Suits plan old → old.id ≡ 0 → stamp ≤ stamp_end + (length old.journal.events + 1) → is_live old.deputies.kernel p ≡ true → hops < hops_at old.deputies.rows p
      → Acts policy plan stamp (Some (missed_post old from sent p to hops line)) (record { what = what.Again p to (place_at old.deputies.rows p) line; mail = moves.go_mail old.deputies.rows p to line }) old old
  again_acts old stamp from sent p to hops line suits at early live news = record {
    usual = tt;
    does = record {
      home = at;
      from = from;
      stamp = sent;
      hops = hops;
      live = live;
      news = news;
      place_is = refl;
      base = record { took = refl; posts = refl; slots = λ q. cond_same (q == p) (slot_of policy plan old q) };
      still = record { kernel = refl; believed = λ q. refl; progress = refl; gossip = refl };
    };
    same = refl;
    suits = suits_hosted policy plan old old.hosted stamp early suits;
  }

  refused_acts : (old : Node) (stamp from sent p to hops line : ℕ) (why : Refusal) → Suits plan old → old.id ≡ 0 → stamp ≤ stamp_end + (length old.journal.events + 1) → NoNews (machine policy plan) (why_of why) p hops (local policy plan old)
      → Acts policy plan stamp (Some (missed_post old from sent p to hops line)) (record { what = what.Refused p to why line; mail = [] }) old old
  refused_acts old stamp from sent p to hops line why suits at early was = record {
    usual = tt;
    does = inr (record {
      home = at;
      from = from;
      stamp = sent;
      hops = hops;
      was = was;
      base = record { took = refl; posts = refl; slots = λ q. cond_same (q == p) (slot_of policy plan old q) };
      still = record { kernel = refl; believed = λ q. refl; progress = refl; gossip = refl };
    });
    same = refl;
    suits = suits_hosted policy plan old old.hosted stamp early suits;
  }

  told_acts : (old : Node) (stamp from sent p to hops line : ℕ) → Suits plan old → old.id ≡ 0 → stamp ≤ stamp_end + (length old.journal.events + 1)
      → Acts policy plan stamp (Some (missed_post old from sent p to hops line)) (moves.missed_acted old.deputies p to hops line) old old
  told_acts old stamp from sent p to hops line suits at early = go (is_live old.deputies.kernel p) refl
    where
      by_news : is_live old.deputies.kernel p ≡ true → (b : Bool) → nat_lt hops (hops_at old.deputies.rows p) ≡ b → Acts policy plan stamp (Some (missed_post old from sent p to hops line)) (cond b (record { what = what.Again p to (place_at old.deputies.rows p) line; mail = moves.go_mail old.deputies.rows p to line }) (record { what = what.Refused p to refusal.Moving line; mail = [] })) old old
      by_news live true e = again_acts old stamp from sent p to hops line suits at early live (lower_is hops (hops_at old.deputies.rows p) e)
      by_news live false e = refused_acts old stamp from sent p to hops line refusal.Moving suits at early (live, lower_not hops (hops_at old.deputies.rows p) e)

      go : (b : Bool) → is_live old.deputies.kernel p ≡ b → Acts policy plan stamp (Some (missed_post old from sent p to hops line)) (cond b (cond (nat_lt hops (hops_at old.deputies.rows p)) (record { what = what.Again p to (place_at old.deputies.rows p) line; mail = moves.go_mail old.deputies.rows p to line }) (record { what = what.Refused p to refusal.Moving line; mail = [] })) (record { what = what.Refused p to refusal.Ended line; mail = [] })) old old
      go true e = by_news e (nat_lt hops (hops_at old.deputies.rows p)) refl
      go false e = refused_acts old stamp from sent p to hops line refusal.Ended suits at early e

  missed_no_misfit : (old : Node) (from p to hops line : ℕ) → old.id ≡ 0 → from < plan.nodes → to < plan.nodes → moves.was_given old.deputies.kernel p ≡ true → Unfit (machine policy plan) old.id from (local policy plan old) (note_of policy plan (message.NotHere p to hops line)) → ⊥
  missed_no_misfit old from p to hops line at near below g (inl (inl away)) = away at
  missed_no_misfit old from p to hops line at near below g (inl (inr never)) = not_never old.deputies.kernel p g never
  missed_no_misfit old from p to hops line at near below g (inr (inl far)) = omega (arith, near, far)
  missed_no_misfit old from p to hops line at near below g (inr (inr far)) = omega (arith, below, far)

  -- an order missed its process
  pub missed_hears : (old mid : Node) (stamp from sent p to hops line : ℕ) (acted : Acted) → Suits plan old → old.id ≡ 0 → from < plan.nodes → to < plan.nodes → stamp ≤ stamp_end + (length old.journal.events + 1)
      → OnHome (moves.missed_in old.deputies p to hops line) acted old mid → Hears policy plan stamp old.id from sent (message.NotHere p to hops line) acted old mid
  missed_hears old mid stamp from sent p to hops line acted suits at near below early o = go (moves.was_given old.deputies.kernel p) refl o.is
    where
      go : (b : Bool) → moves.was_given old.deputies.kernel p ≡ b → cond b (record { home = old.deputies; acted = moves.missed_acted old.deputies p to hops line }) (calls.strange old.deputies) ≡ turned_as mid.deputies acted → Hears policy plan stamp old.id from sent (message.NotHere p to hops line) acted old mid
      go true e is = Fits (acts_on policy plan old mid stamp _ old.deputies (moves.missed_acted old.deputies p to hops line) acted is o.rest (told_acts old stamp from sent p to hops line suits at early)) (missed_no_misfit old from p to hops line at near below e)
      go false e is = strange_on policy plan old mid stamp from sent (message.NotHere p to hops line) acted is o.rest (inl (inr (never_given old.deputies.kernel p e)))

  closed_no_misfit : (old : Node) (from line : ℕ) → old.id ≡ 0 → from < plan.nodes → Unfit (machine policy plan) old.id from (local policy plan old) (note_of policy plan (message.NoMove line)) → ⊥
  closed_no_misfit old from line at near (inl away) = away at
  closed_no_misfit old from line at near (inr (inl far)) = omega (arith, near, far)
  closed_no_misfit old from line at near (inr (inr far)) = absurd far

  -- a move of the script is over
  pub closed_hears : (old mid : Node) (stamp from sent line : ℕ) (acted : Acted) → Suits plan old → old.id ≡ 0 → from < plan.nodes → stamp ≤ stamp_end + (length old.journal.events + 1)
      → Says (moves.closed_acted line) acted old mid → Hears policy plan stamp old.id from sent (message.NoMove line) acted old mid
  closed_hears old mid stamp from sent line acted suits at near early s =
      let made : Acts policy plan stamp (Some (letter (machine policy plan) from old.id sent (NoMove line))) (moves.closed_acted line) old old = record {
        usual = tt;
        does = record {
          home = at;
          from = from;
          stamp = sent;
          base = record { took = refl; posts = refl; slots = λ q. cond_same (q == 0) (slot_of policy plan old q) };
          still = record { kernel = refl; believed = λ q. refl; progress = refl; gossip = refl };
        };
        same = refl;
        suits = suits_hosted policy plan old old.hosted stamp early suits;
      } in
      Fits (subst (λ (x : Acted). Acts policy plan stamp (Some (letter (machine policy plan) from old.id sent (NoMove line))) x old mid) (sym s.acted_is) (subst (λ (m : Node). Acts policy plan stamp (Some (letter (machine policy plan) from old.id sent (NoMove line))) (moves.closed_acted line) old m) (sym s.same) made)) (closed_no_misfit old from line at near)
