-- What home does with the word of a landing is a turn by the laws.
use Rattle.std.proofs.Common.{◌≡◌, ◌⊎◌, inl, inr, ℕ, zero, suc, ◌+◌, ◌<◌, ◌≤◌, ◌==◌, ◌&&◌, cond, nat_lt, Bool, true, false, Option, Some, None, List, [], ◌∷◌, map, length, refl, sym, ap, ◌∙◌, subst, arith}
use Rattle.std.specs.Prelude.{is_some, nat_le, reverse}
use Rattle.std.specs.Option.{option_map}
use Rattle.std.specs.FinMap as fin_map
use Rattle.std.proofs.lemmas.Bool.Decides.{nat_tests}
use Rattle.call_forward.specs.declared.acted.Acted.{Acted}
use Rattle.call_forward.specs.declared.message.Message.TheVariants as message
use Rattle.node_event.specs.declared.event.What.TheVariants as what
use Rattle.kernel_spec.specs.Kernel.{KernelState, given, deliverable}
use Rattle.kernel_spec.specs.Pids.{at_pid}
use Rattle.remote_ctx.specs.Hosted.{lookup}
use Rattle.deputy.specs.declared.row.Row.{Row}
use Rattle.deputy.specs.declared.row.HeldCall.{HeldCall}
use Rattle.deputy.specs.Rows.{HomeState, held_of, served_of, hops_at, place_at, moved}
use Rattle.deputy.specs.Calls as calls
use Rattle.deputy.specs.Moves as moves
use Rattle.protocol.specs.Deeds.{Deed, deed_of, told_deed, Told, Strange}
use Rattle.protocol.specs.Notes as notes
use Rattle.protocol.specs.Notes.{Believed, Post, letter, Poke, Landed}
use Rattle.protocol.specs.Does.{Does, Unfit, place_told}
use Rattle.protocol.specs.Odd.{stamp_end}
use Rattle.protocol.proofs.Talk.{same_numbers}
use Rattle.run_laws.specs.Carried.{IsUsual}
use Rattle.node_machine.specs.Plan.{Plan}
use Rattle.node_machine.specs.Machine.{Policy, machine}
use Rattle.node_core.specs.declared.node.Node.{Node}
use Rattle.node_core.specs.Letters.{posted_by}
use Rattle.node_core.specs.Locals.{local, slot_of, context_of, called_of, believed_of, note_of, post_of}
use Rattle.node_core.specs.Suits.{Suits}
use Rattle.node_core.specs.Moves.{HearsLanded}
use Rattle.node_core.proofs.Settling.{Acts, Hears, Fits, at_clock, turn_at}
use Rattle.node_core.proofs.Slots.{cond_same}
use Rattle.node_core.proofs.Rows.{by_same, row_of, kept_row, new_row_at}
use Rattle.node_core.proofs.Signals.{is_some_same}
use Rattle.node_core.proofs.Home.{suits_home, acts_on, strange_on, turned_as}

never_given : (k : KernelState) (p : ℕ) → moves.was_given k p ≡ false → (p ≡ 0) ⊎ (given k < p)
never_given k zero e = inl refl
never_given k (suc i) e = inr (grind (arith, nat_tests, e))

given_low : (k : KernelState) (p : ℕ) → moves.was_given k p ≡ true → 1 ≤ p
given_low k zero e = absurd cc
given_low k (suc i) e = omega arith

given_high : (k : KernelState) (p : ℕ) → moves.was_given k p ≡ true → p ≤ given k
given_high k zero e = omega arith
given_high k (suc i) e = grind (arith, nat_tests, e)

lower_is : (a b : ℕ) → nat_lt a b ≡ true → a < b
lower_is a b e = grind (arith, nat_tests, e)

lower_not : (a b : ℕ) → nat_lt a b ≡ false → b ≤ a
lower_not a b e = grind (arith, nat_tests, e)

abbrev poked_if : Bool → ℕ → Option ℕ
poked_if b p = cond b (Some p) None

told_is : (b : Bool) (p at source hops : ℕ) (line : Option ℕ) → told_deed p at source hops line (poked_if b p) ≡ Told p at source hops line b
told_is true p at source hops line = ap (λ k. cond k (Told p at source hops line true) (Strange p)) (same_numbers p p refl)
told_is false p at source hops line = refl

-- ---- rows after a landing

module _ (rows : List Row) (at p hops : ℕ) (row : Row) (here : at_pid rows p ≡ Some row) where
  told_held : (later : Bool) (q : ℕ) → held_of (at_pid (moves.landed_rows later at p hops rows) q) ≡ held_of (at_pid rows q)
  told_held true q = kept_row held_of (moved at hops) rows p row here refl q
  told_held false q = refl

  told_served : (later : Bool) (q : ℕ) → served_of (at_pid (moves.landed_rows later at p hops rows) q) ≡ served_of (at_pid rows q)
  told_served true q = kept_row served_of (moved at hops) rows p row here refl q
  told_served false q = refl

  told_later : (later : Bool) → moves.is_later rows p hops ≡ later → cond later (hops_at rows p < hops) (hops ≤ hops_at rows p)
  told_later true e = lower_is (hops_at rows p) hops e
  told_later false e = lower_not (hops_at rows p) hops e

module _ (policy : Policy) (plan : Plan) where
  told_believed : (rows : List Row) (at p hops : ℕ) (row : Row) → at_pid rows p ≡ Some row → (later : Bool) (q : ℕ)
      → believed_of (at_pid (moves.landed_rows later at p hops rows) q) ≡ cond (q == p) (place_told (machine policy plan) at hops later (believed_of (at_pid rows p))) (believed_of (at_pid rows q))
  told_believed rows at p hops row here true q = new_row_at believed_of (moved at hops) rows p row here q
  told_believed rows at p hops row here false q = by_same (λ k. believed_of (at_pid rows q) ≡ cond k (believed_of (at_pid rows p)) (believed_of (at_pid rows q))) q p (λ e. ap (λ (x : ℕ). believed_of (at_pid rows x)) e) (λ ne. refl)

  told_place : (rows : List Row) (at p hops : ℕ) (later : Bool) → moves.landed_place later at p rows ≡ (place_told (machine policy plan) at hops later (believed_of (at_pid rows p))).place
  told_place rows at p hops true = refl
  told_place rows at p hops false = refl

  poke_posts : (b : Bool) (id stamp p place to : ℕ) → place ≡ to → map (post_of policy plan) (map (posted_by id stamp) (calls.poke_to place (poked_if b p))) ≡ cond b (letter (machine policy plan) id to stamp (Poke p) ∷ []) []
  poke_posts true id stamp p place to e = ap (λ (k : ℕ). letter (machine policy plan) id k stamp (Poke p) ∷ []) e
  poke_posts false id stamp p place to e = refl

  abbrev told_home : Node → Bool → ℕ → ℕ → ℕ → HomeState
  told_home old later from p hops = record old.deputies { rows = moves.landed_rows later from p hops old.deputies.rows }

  abbrev told_acted : Node → Bool → Bool → ℕ → ℕ → ℕ → ℕ → Option ℕ → Acted
  told_acted old later b from p source hops line = record { what = what.Told p from source hops line (poked_if b p); mail = calls.poke_to (moves.landed_place later from p old.deputies.rows) (poked_if b p) }

  abbrev landed_post : Node → ℕ → ℕ → ℕ → ℕ → ℕ → Option ℕ → Post (machine policy plan)
  landed_post old from sent p source hops line = letter (machine policy plan) from old.id sent (Landed p source hops line)

  told_acts : (old : Node) (later b : Bool) (stamp from sent p source hops : ℕ) (line : Option ℕ) (row : Row) → Suits plan old → old.id ≡ 0 → stamp ≤ stamp_end + (length old.journal.events + 1)
      → at_pid old.deputies.rows p ≡ Some row → moves.is_later old.deputies.rows p hops ≡ later → is_some (deliverable old.deputies.kernel p) ≡ b
      → Acts policy plan stamp (Some (landed_post old from sent p source hops line)) (told_acted old later b from p source hops line) old (record old { deputies = told_home old later from p hops })
  told_acts old later b stamp from sent p source hops line row suits at early here is_later pokes =
      let rows : List Row = old.deputies.rows in
      let deed : deed_of plan.script (told_acted old later b from p source hops line).what ≡ Told p from source hops line b = told_is b p from source hops line in
      let new : Node = record old { deputies = told_home old later from p hops } in
      let served = told_served rows from p hops row here later in
      let held = told_held rows from p hops row here later in
      record {
        usual = subst (λ (x : Deed). IsUsual x) (sym deed) tt;
        does = subst (λ (x : Deed). Does (machine policy plan) x old.id (local policy plan old) (turn_at policy plan old.id stamp x (Some (landed_post old from sent p source hops line)) (told_acted old later b from p source hops line).mail) (local policy plan (at_clock stamp new))) (sym deed) (record {
          home = at;
          stamp = sent;
          later = later;
          later_is = told_later rows from p hops row here later is_later;
          tells = sym (is_some_same (deliverable old.deputies.kernel p) ∙ pokes);
          base = record {
            took = refl;
            posts = poke_posts b old.id stamp p (moves.landed_place later from p rows) (place_told (machine policy plan) from hops later (believed_of (at_pid rows p))).place (told_place rows from p hops later);
            slots = λ q. (λ i. record { context = option_map (context_of policy plan) (lookup q old.hosted); reserve = fin_map.get old.reserve q; call = option_map (called_of policy plan) ((held q) i) }) ∙ cond_same (q == p) (slot_of policy plan old q);
          };
          kernel = refl;
          gossip = refl;
          believed = told_believed rows from p hops row here later;
          progress = λ i. record { line = old.course.line; done = old.course.done; launched = reverse old.course.launched; served = λ q. (served q) i };
        });
        same = refl;
        suits = suits_home policy plan old (told_home old later from p hops) stamp early (λ q. let k = suits.within.served q in let e = served q in omega (arith, k, e)) suits;
      }

  landed_no_misfit : (old : Node) (from p source hops : ℕ) (line : Option ℕ) → old.id ≡ 0 → from < plan.nodes → source < plan.nodes → moves.was_given old.deputies.kernel p ≡ true
      → Unfit (machine policy plan) old.id from (local policy plan old) (note_of policy plan (message.Landed p source hops line)) → ⊥
  landed_no_misfit old from p source hops line at near below g (inl (inl away)) = away at
  landed_no_misfit old from p source hops line at near below g (inl (inr (inl zero_pid))) = let low = given_low old.deputies.kernel p g in omega (arith, low, zero_pid)
  landed_no_misfit old from p source hops line at near below g (inl (inr (inr more))) = let high = given_high old.deputies.kernel p g in omega (arith, high, more)
  landed_no_misfit old from p source hops line at near below g (inr (inl far)) = omega (arith, near, far)
  landed_no_misfit old from p source hops line at near below g (inr (inr far)) = omega (arith, below, far)

  -- home is told of a landing
  pub landed_hears : (old mid : Node) (stamp from sent p source hops : ℕ) (line : Option ℕ) (acted : Acted) → Suits plan old → old.id ≡ 0 → from < plan.nodes → source < plan.nodes → stamp ≤ stamp_end + (length old.journal.events + 1)
      → HearsLanded from p source hops line acted old mid → Hears policy plan stamp old.id from sent (message.Landed p source hops line) acted old mid
  landed_hears old mid stamp from sent p source hops line acted suits at near below early h = go (moves.was_given old.deputies.kernel p) refl h.home.is
    where
      told : moves.was_given old.deputies.kernel p ≡ true → moves.told_turn (moves.is_later old.deputies.rows p hops) old.deputies from p source hops line ≡ turned_as mid.deputies acted
          → Acts policy plan stamp (Some (landed_post old from sent p source hops line)) acted old mid
      told g is =
          let low = given_low old.deputies.kernel p g in
          let high : p ≤ length old.deputies.rows = let k = given_high old.deputies.kernel p g in let e = h.each in omega (arith, k, e) in
          let row = row_of old.deputies.rows p low high in
          let later = moves.is_later old.deputies.rows p hops in
          let b = is_some (deliverable old.deputies.kernel p) in
          acts_on policy plan old mid stamp (Some (landed_post old from sent p source hops line)) (told_home old later from p hops) (told_acted old later b from p source hops line) acted is h.home.rest
          (told_acts old later b stamp from sent p source hops line row.0 suits at early row.1 refl refl)

      go : (b : Bool) → moves.was_given old.deputies.kernel p ≡ b → cond b (moves.told_turn (moves.is_later old.deputies.rows p hops) old.deputies from p source hops line) (calls.strange old.deputies) ≡ turned_as mid.deputies acted
          → Hears policy plan stamp old.id from sent (message.Landed p source hops line) acted old mid
      go true g is = Fits (told g is) (landed_no_misfit old from p source hops line at near below g)
      go false g is = strange_on policy plan old mid stamp from sent (message.Landed p source hops line) acted is h.home.rest (inl (inr (never_given old.deputies.kernel p g)))
