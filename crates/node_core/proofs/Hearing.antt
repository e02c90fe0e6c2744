-- A letter that a node takes is a turn by the laws.
use Rattle.std.proofs.Common.{◌≡◌, ◌≢◌, ◌⊎◌, inl, inr, ℕ, ◌+◌, ◌<◌, ◌≤◌, ◌==◌, ◌&&◌, ◌||◌, cond, not, nat_lt, Bool, true, false, Option, Some, None, List, [], ◌∷◌, length, refl, sym, ap, ◌∙◌, subst, arith}
use Rattle.std.specs.Prelude.{◌-◌, ◌^◌, max, nat_le}
use Rattle.std.specs.Bool.{MatchBool}
use Rattle.std.specs.List.{flat_map, list_all}
use Rattle.std.proofs.lemmas.Bool.Decides.{nat_tests}
use Rattle.call_table.specs.declared.process.Entry as code_entry
use Rattle.call_forward.specs.declared.acted.Acted.{Acted}
use Rattle.call_forward.specs.declared.letter.Letter.{Letter}
use Rattle.call_forward.specs.declared.message.Message.{Message}
use Rattle.call_forward.specs.declared.message.Message.TheVariants as message
use Rattle.call_forward.specs.Messages.{is_to_home, nodes_of, node_of_entry, are_below}
use Rattle.protocol.specs.Gossip.{FarPlaces}
use Rattle.protocol.specs.Does.{Unfit, Misfit, FarNode}
use Rattle.protocol.specs.Odd.{IsOdd, ManyHops, stamp_end, hops_end}
use Rattle.protocol.proofs.Talk.{numbers_same, numbers_other}
use Rattle.node_machine.specs.Plan.{Plan}
use Rattle.node_machine.specs.Machine.{Policy, machine}
use Rattle.node_core.specs.declared.node.Node.{Node}
use Rattle.node_core.specs.Locals.{local, note_of, places_of, post_at, post_of}
use Rattle.node_core.specs.Suits.{Suits}
use Rattle.node_core.specs.Kinds.{is_misplaced, IsStrange, HearsHere}
use Rattle.node_core.specs.Turns.{Made, PassedOver, one_more, is_strange, skipped_in, recorded_in}
use Rattle.node_core.specs.Sight.{Answerer}
use Rattle.node_core.specs.Halves.{HearsHalf}
use Rattle.node_core.specs.Turning.{has_many_hops, HearsAny, Heard, Passed}
use Rattle.node_core.proofs.Halving.{Gives}
use Rattle.node_core.proofs.Talking.{hears_acts}
use Rattle.node_core.proofs.Settling.{Hears, Fits, Misfits, recorded_made, skipped_made, suits_skipped}
use Rattle.node_core.proofs.Home.{call_hears, pause_hears}
use Rattle.node_core.proofs.Contexts.{poke_hears}
use Rattle.node_core.proofs.Moving.{go_hears}
use Rattle.node_core.proofs.Missing.{missed_hears, closed_hears}
use Rattle.node_core.proofs.Replies.{reply_hears}
use Rattle.node_core.proofs.Coming.{ask_hears, move_hears}
use Rattle.node_core.proofs.Leaving.{allow_hears, deny_hears}
use Rattle.node_core.proofs.Told.{landed_hears}

-- ---- tests that fail or hold

or_first : (a b : Bool) → (a || b) ≡ false → a ≡ false
or_first true b e = absurd cc
or_first false b e = refl

or_second : (a b : Bool) → (a || b) ≡ false → b ≡ false
or_second true b e = absurd cc
or_second false b e = e

or_true : (a b : Bool) → (a || b) ≡ true → (a ≡ true) ⊎ (b ≡ true)
or_true true b e = inl refl
or_true false b e = inr e

and_first : (a b : Bool) → (a && b) ≡ true → a ≡ true
and_first true b e = refl
and_first false b e = absurd cc

and_second : (a b : Bool) → (a && b) ≡ true → b ≡ true
and_second true b e = e
and_second false b e = absurd cc

and_fails : (a b : Bool) → (a && b) ≡ false → (a ≡ false) ⊎ (b ≡ false)
and_fails true b e = inr e
and_fails false b e = inl refl

not_true : (a : Bool) → not a ≡ true → a ≡ false
not_true true e = absurd cc
not_true false e = refl

not_false : (a : Bool) → not a ≡ false → a ≡ true
not_false true e = refl
not_false false e = absurd cc

below_is : (a b : ℕ) → nat_lt a b ≡ true → a < b
below_is a b e = grind (arith, nat_tests, e)

below_not : (a b : ℕ) → nat_lt a b ≡ false → b ≤ a
below_not a b e = grind (arith, nat_tests, e)

at_most_not : (a b : ℕ) → nat_le a b ≡ false → b < a
at_most_not a b e = grind (arith, nat_tests, e)

at_most_is : (a b : ℕ) → nat_le a b ≡ true → a ≤ b
at_most_is a b e = grind (arith, nat_tests, e)

below_of : (a b : ℕ) → (b ≤ a → ⊥) → a < b
below_of a b h = go (nat_lt a b) refl
  where
    go : (k : Bool) → nat_lt a b ≡ k → a < b
    go true e = below_is a b e
    go false e = absurd (h (below_not a b e))

-- ---- messages out of place

far_places : (nodes : ℕ) (places : List (Option code_entry.Entry)) → list_all (λ n. nat_lt n nodes) (flat_map node_of_entry places) ≡ false → FarPlaces nodes (places_of places)
far_places nodes [] e = absurd cc
far_places nodes (None ∷ rest) e = far_places nodes rest e
far_places nodes (Some x ∷ rest) e = go (λ f. far_places nodes rest f) (and_fails (nat_lt x.node nodes) _ e)
  where
    go : (list_all (λ n. nat_lt n nodes) (flat_map node_of_entry rest) ≡ false → FarPlaces nodes (places_of rest)) → (nat_lt x.node nodes ≡ false) ⊎ (list_all (λ n. nat_lt n nodes) (flat_map node_of_entry rest) ≡ false) → (nodes ≤ x.node) ⊎ FarPlaces nodes (places_of rest)
    go more (inl f) = inl (below_not x.node nodes f)
    go more (inr f) = inr (more f)

near_places : (nodes : ℕ) (places : List (Option code_entry.Entry)) → list_all (λ n. nat_lt n nodes) (flat_map node_of_entry places) ≡ true → FarPlaces nodes (places_of places) → ⊥
near_places nodes [] e far = far
near_places nodes (None ∷ rest) e far = near_places nodes rest e far
near_places nodes (Some x ∷ rest) e (inl far) = let near = below_is x.node nodes (and_first (nat_lt x.node nodes) _ e) in omega (arith, near, far)
near_places nodes (Some x ∷ rest) e (inr far) = near_places nodes rest (and_second (nat_lt x.node nodes) _ e) far

one_far : (node nodes : ℕ) → (nat_lt node nodes && true) ≡ false → nodes ≤ node
one_far node nodes e = go (and_fails (nat_lt node nodes) true e)
  where
    go : (nat_lt node nodes ≡ false) ⊎ (true ≡ false) → nodes ≤ node
    go (inl f) = below_not node nodes f
    go (inr f) = absurd cc

module _ (policy : Policy) (plan : Plan) where
  far_is : (m : Message) → are_below plan.nodes (nodes_of m) ≡ false → FarNode (machine policy plan) (note_of policy plan m)
  far_is (message.Call p r) e = absurd cc
  far_is (message.Pause p room) e = absurd cc
  far_is (message.Reply p d) e = absurd cc
  far_is (message.Poke p) e = absurd cc
  far_is (message.Go p to hops line) e = one_far to plan.nodes e
  far_is (message.NotHere p to hops line) e = one_far to plan.nodes e
  far_is (message.Ask p need) e = absurd cc
  far_is (message.Allow p) e = absurd cc
  far_is (message.Deny p need free) e = absurd cc
  far_is (message.Move p u hops line) e = absurd cc
  far_is (message.Landed p source hops line) e = one_far source plan.nodes e
  far_is (message.NoMove line) e = absurd cc
  far_is (message.Half places) e = far_places plan.nodes places e

  away_is : (old : Node) (from : ℕ) (m : Message) → old.id ≢ 0 → is_to_home m ≡ true → Misfit (machine policy plan) old.id from (local policy plan old) (note_of policy plan m)
  away_is old from (message.Call p r) away e = inl away
  away_is old from (message.Pause p room) away e = inl away
  away_is old from (message.Reply p d) away e = absurd cc
  away_is old from (message.Poke p) away e = absurd cc
  away_is old from (message.Go p to hops line) away e = absurd cc
  away_is old from (message.NotHere p to hops line) away e = inl away
  away_is old from (message.Ask p need) away e = absurd cc
  away_is old from (message.Allow p) away e = absurd cc
  away_is old from (message.Deny p need free) away e = absurd cc
  away_is old from (message.Move p u hops line) away e = absurd cc
  away_is old from (message.Landed p source hops line) away e = inl away
  away_is old from (message.NoMove line) away e = away
  away_is old from (message.Half places) away e = absurd cc

  misplaced_unfit : (old : Node) (from : ℕ) (m : Message) → old.shape.nodes ≡ plan.nodes → is_misplaced old from m ≡ true → Unfit (machine policy plan) old.id from (local policy plan old) (note_of policy plan m)
  misplaced_unfit old from m nodes e = go (or_true (not (are_below old.shape.nodes (from ∷ nodes_of m))) (not (old.id == 0) && is_to_home m) e)
    where
      at_plan : (b : Bool) (xs : List ℕ) → are_below old.shape.nodes xs ≡ b → are_below plan.nodes xs ≡ b
      at_plan b xs f = ap (λ n. are_below n xs) (sym nodes) ∙ f

      far : (nat_lt from plan.nodes ≡ false) ⊎ (are_below plan.nodes (nodes_of m) ≡ false) → (plan.nodes ≤ from) ⊎ FarNode (machine policy plan) (note_of policy plan m)
      far (inl f) = inl (below_not from plan.nodes f)
      far (inr f) = inr (far_is m f)

      go : (not (are_below old.shape.nodes (from ∷ nodes_of m)) ≡ true) ⊎ ((not (old.id == 0) && is_to_home m) ≡ true) → Unfit (machine policy plan) old.id from (local policy plan old) (note_of policy plan m)
      go (inl f) = inr (far (and_fails (nat_lt from plan.nodes) (are_below plan.nodes (nodes_of m)) (at_plan false (from ∷ nodes_of m) (not_true _ f))))
      go (inr f) = inl (away_is old from m (numbers_other old.id 0 (not_true (old.id == 0) (and_first (not (old.id == 0)) (is_to_home m) f))) (and_second (not (old.id == 0)) (is_to_home m) f))

  -- a message in its place comes from a node of the cluster
  near_from : (old : Node) (from : ℕ) (m : Message) → old.shape.nodes ≡ plan.nodes → is_misplaced old from m ≡ false → from < plan.nodes
  near_from old from m nodes e =
      let below = not_false _ (or_first (not (are_below old.shape.nodes (from ∷ nodes_of m))) (not (old.id == 0) && is_to_home m) e) in
      below_is from plan.nodes (ap (nat_lt from) (sym nodes) ∙ and_first (nat_lt from old.shape.nodes) (are_below old.shape.nodes (nodes_of m)) below)

  -- and names one
  near_node : (old : Node) (from : ℕ) (m : Message) (node : ℕ) → old.shape.nodes ≡ plan.nodes → nodes_of m ≡ node ∷ [] → is_misplaced old from m ≡ false → node < plan.nodes
  near_node old from m node nodes is e =
      let below = not_false _ (or_first (not (are_below old.shape.nodes (from ∷ nodes_of m))) (not (old.id == 0) && is_to_home m) e) in
      let rest : are_below old.shape.nodes (node ∷ []) ≡ true = sym (ap (are_below old.shape.nodes) is) ∙ and_second (nat_lt from old.shape.nodes) (are_below old.shape.nodes (nodes_of m)) below in
      below_is node plan.nodes (ap (nat_lt node) (sym nodes) ∙ and_first (nat_lt node old.shape.nodes) true rest)

  -- and at home, where it would have to go there
  home_of : (old : Node) (from : ℕ) (m : Message) → is_misplaced old from m ≡ false → is_to_home m ≡ true → old.id ≡ 0
  home_of old from m e to = go (and_fails (not (old.id == 0)) (is_to_home m) (or_second (not (are_below old.shape.nodes (from ∷ nodes_of m))) (not (old.id == 0) && is_to_home m) e))
    where
      go : (not (old.id == 0) ≡ false) ⊎ (is_to_home m ≡ false) → old.id ≡ 0
      go (inl f) = numbers_same old.id 0 (not_false (old.id == 0) f)
      go (inr f) = let z : true ≡ false = sym to ∙ f in absurd cc

  -- ---- messages in their place

  -- a half
  half_no_misfit : (old : Node) (from : ℕ) (places : List (Option code_entry.Entry)) → old.shape.nodes ≡ plan.nodes → is_misplaced old from (message.Half places) ≡ false → from ≢ old.id → Unfit (machine policy plan) old.id from (local policy plan old) (note_of policy plan (message.Half places)) → ⊥
  half_no_misfit old from places nodes placed away (inl own) = away own
  half_no_misfit old from places nodes placed away (inr (inl far)) = let near = near_from old from (message.Half places) nodes placed in omega (arith, near, far)
  half_no_misfit old from places nodes placed away (inr (inr far)) =
      let below = not_false _ (or_first (not (are_below old.shape.nodes (from ∷ nodes_of (message.Half places)))) (not (old.id == 0) && false) placed) in
      near_places plan.nodes places (ap (λ n. are_below n (flat_map node_of_entry places)) (sym nodes) ∙ and_second (nat_lt from old.shape.nodes) (are_below old.shape.nodes (flat_map node_of_entry places)) below) far

  module _ (answers : Answerer) (gives : Gives answers policy) where
    here_hears : (old mid : Node) (stamp from sent : ℕ) (m : Message) (acted : Acted) → Suits plan old → is_misplaced old from m ≡ false → stamp ≤ stamp_end + (length old.journal.events + 1) → length old.journal.events < old.journal.room → (ManyHops (machine policy plan) (note_of policy plan m) → ⊥)
        → HearsHere answers stamp from m acted old mid → Hears policy plan stamp old.id from sent m acted old mid
    here_hears old mid stamp from sent (message.Call p r) acted suits placed early space few (each, h) = call_hears policy plan old mid stamp from sent p r acted suits (home_of old from (message.Call p r) placed refl) (near_from old from (message.Call p r) suits.shape.nodes placed) early space each h
    here_hears old mid stamp from sent (message.Pause p room) acted suits placed early space few h = pause_hears policy plan old mid stamp from sent p room acted suits (home_of old from (message.Pause p room) placed refl) (near_from old from (message.Pause p room) suits.shape.nodes placed) early h
    here_hears old mid stamp from sent (message.Reply p d) acted suits placed early space few h = reply_hears policy plan old mid stamp from sent p d acted suits (near_from old from (message.Reply p d) suits.shape.nodes placed) early h
    here_hears old mid stamp from sent (message.Poke p) acted suits placed early space few h = poke_hears policy plan old mid stamp from sent p acted suits (near_from old from (message.Poke p) suits.shape.nodes placed) early h
    here_hears old mid stamp from sent (message.Go p to hops line) acted suits placed early space few h = go_hears policy plan old mid stamp from sent p to hops line acted suits (near_from old from (message.Go p to hops line) suits.shape.nodes placed) (near_node old from (message.Go p to hops line) to suits.shape.nodes refl placed) early h
    here_hears old mid stamp from sent (message.NotHere p to hops line) acted suits placed early space few h = missed_hears policy plan old mid stamp from sent p to hops line acted suits (home_of old from (message.NotHere p to hops line) placed refl) (near_from old from (message.NotHere p to hops line) suits.shape.nodes placed) (near_node old from (message.NotHere p to hops line) to suits.shape.nodes refl placed) early h
    here_hears old mid stamp from sent (message.NoMove line) acted suits placed early space few h = closed_hears policy plan old mid stamp from sent line acted suits (home_of old from (message.NoMove line) placed refl) (near_from old from (message.NoMove line) suits.shape.nodes placed) early h
    here_hears old mid stamp from sent (message.Ask p need) acted suits placed early space few h = ask_hears policy plan old mid stamp from sent p need acted suits (near_from old from (message.Ask p need) suits.shape.nodes placed) early h
    here_hears old mid stamp from sent (message.Allow p) acted suits placed early space few h = allow_hears policy plan old mid stamp from sent p acted suits (near_from old from (message.Allow p) suits.shape.nodes placed) early h
    here_hears old mid stamp from sent (message.Deny p need free) acted suits placed early space few h = deny_hears policy plan old mid stamp from sent p need free acted suits (near_from old from (message.Deny p need free) suits.shape.nodes placed) early h
    here_hears old mid stamp from sent (message.Move p u hops line) acted suits placed early space few h = move_hears policy plan old mid stamp from sent p u hops line acted suits (near_from old from (message.Move p u hops line) suits.shape.nodes placed) early (below_of hops hops_end few) h
    here_hears old mid stamp from sent (message.Landed p source hops line) acted suits placed early space few h = landed_hears policy plan old mid stamp from sent p source hops line acted suits (home_of old from (message.Landed p source hops line) placed refl) (near_from old from (message.Landed p source hops line) suits.shape.nodes placed) (near_node old from (message.Landed p source hops line) source suits.shape.nodes refl placed) early h
    here_hears old mid stamp from sent (message.Half places) acted suits placed early space few h = go (from == old.id) refl h
      where
        go : (b : Bool) → (from == old.id) ≡ b → MatchBool b (IsStrange acted old mid) (HearsHalf answers stamp from places acted old mid) → Hears policy plan stamp old.id from sent (message.Half places) acted old mid
        go true e s = Misfits s.what (inl (numbers_same from old.id e)) s.same
        go false e x = Fits (hears_acts policy plan answers old mid stamp from sent places acted gives suits (omega (arith, space)) early x) (half_no_misfit old from places suits.shape.nodes placed (numbers_other from old.id e))

    any_hears : (old mid : Node) (stamp from sent : ℕ) (m : Message) (acted : Acted) → Suits plan old → stamp ≤ stamp_end + (length old.journal.events + 1) → length old.journal.events < old.journal.room → (ManyHops (machine policy plan) (note_of policy plan m) → ⊥)
        → HearsAny answers stamp from m acted old mid → Hears policy plan stamp old.id from sent m acted old mid
    any_hears old mid stamp from sent m acted suits early space few h = go (is_misplaced old from m) refl h
      where
        go : (b : Bool) → is_misplaced old from m ≡ b → MatchBool b (IsStrange acted old mid) (HearsHere answers stamp from m acted old mid) → Hears policy plan stamp old.id from sent m acted old mid
        go true e s = Misfits s.what (misplaced_unfit old from m suits.shape.nodes e) s.same
        go false e x = here_hears old mid stamp from sent m acted suits e early space few x

  -- ---- all letters

  many_hops_is : (m : Message) → has_many_hops m ≡ false → ManyHops (machine policy plan) (note_of policy plan m) → ⊥
  many_hops_is (message.Move p u hops line) e many = let less = at_most_not hops_end hops e in omega (arith, less, many)
  many_hops_is (message.Call p r) e many = absurd many
  many_hops_is (message.Pause p room) e many = absurd many
  many_hops_is (message.Reply p d) e many = absurd many
  many_hops_is (message.Poke p) e many = absurd many
  many_hops_is (message.Go p to hops line) e many = absurd many
  many_hops_is (message.NotHere p to hops line) e many = absurd many
  many_hops_is (message.Ask p need) e many = absurd many
  many_hops_is (message.Allow p) e many = absurd many
  many_hops_is (message.Deny p need free) e many = absurd many
  many_hops_is (message.Landed p source hops line) e many = absurd many
  many_hops_is (message.NoMove line) e many = absurd many
  many_hops_is (message.Half places) e many = absurd many

  many_hops_so : (m : Message) → has_many_hops m ≡ true → ManyHops (machine policy plan) (note_of policy plan m)
  many_hops_so (message.Move p u hops line) e = at_most_is hops_end hops e
  many_hops_so (message.Call p r) e = absurd cc
  many_hops_so (message.Pause p room) e = absurd cc
  many_hops_so (message.Reply p d) e = absurd cc
  many_hops_so (message.Poke p) e = absurd cc
  many_hops_so (message.Go p to hops line) e = absurd cc
  many_hops_so (message.NotHere p to hops line) e = absurd cc
  many_hops_so (message.Ask p need) e = absurd cc
  many_hops_so (message.Allow p) e = absurd cc
  many_hops_so (message.Deny p need free) e = absurd cc
  many_hops_so (message.Landed p source hops line) e = absurd cc
  many_hops_so (message.NoMove line) e = absurd cc
  many_hops_so (message.Half places) e = absurd cc

  -- an odd letter
  pub passed_turn : (old new : Node) (l : Letter) → Suits plan old → Passed l old new → PassedOver policy plan (Some l) old new
  passed_turn old new l suits p =
      subst (λ (n : Node). PassedOver policy plan (Some l) old n) (sym p.is) (record {
        letter = l;
        is = refl;
        skips = record { odd = go (or_true (nat_le stamp_end l.stamp) _ p.odd); same = refl };
        same = refl;
        suits = suits_skipped policy plan old old.clock (one_more old.strange) suits.within.clock suits;
      })
    where
      rest : (nat_le old.shape.nodes l.to ≡ true) ⊎ (has_many_hops l.message ≡ true) → IsOdd (machine policy plan) old.id (local policy plan old) (post_of policy plan l)
      rest (inl f) = inr (inl (let far = at_most_is old.shape.nodes l.to f in let e = suits.shape.nodes in omega (arith, far, e)))
      rest (inr f) = inr (inr (inl (many_hops_so l.message f)))

      go : (nat_le stamp_end l.stamp ≡ true) ⊎ ((nat_le old.shape.nodes l.to || has_many_hops l.message) ≡ true) → IsOdd (machine policy plan) old.id (local policy plan old) (post_of policy plan l)
      go (inl f) = inl (at_most_is stamp_end l.stamp f)
      go (inr f) = rest (or_true (nat_le old.shape.nodes l.to) (has_many_hops l.message) f)

  low_max : (clock sent events room : ℕ) → clock ≤ stamp_end + events → sent < stamp_end → events < room → room ≤ 1048576 → max clock sent < 2 ^ 64 - 1
  low_max clock sent events room a b c d = omega (arith, a, b, c, d)

  early_is : (clock sent events stamp : ℕ) → clock ≤ stamp_end + events → sent < stamp_end → stamp ≡ max clock sent + 1 → stamp ≤ stamp_end + (events + 1)
  early_is clock sent events stamp a b c = omega (arith, a, b, c)

  -- a letter of which the node makes something
  pub heard_turn : (answers : Answerer) → Gives answers policy → (old new : Node) (l : Letter) → Suits plan old → Heard answers l old new → Made policy plan (Some l) old new ⊎ PassedOver policy plan (Some l) old new
  heard_turn answers gives old new l suits h =
      let few : old.journal.room ≤ 1048576 = let e = suits.room in let m = suits.shape.most_events in omega (arith, e, m) in
      let sent : l.stamp < stamp_end = at_most_not stamp_end l.stamp (or_first (nat_le stamp_end l.stamp) _ h.usual) in
      let rest = or_second (nat_le stamp_end l.stamp) _ h.usual in
      let hops = or_second (nat_le old.shape.nodes l.to) (has_many_hops l.message) rest in
      let at : h.stamp ≡ max old.clock l.stamp + 1 = h.stamp_is (low_max old.clock l.stamp (length old.journal.events) old.journal.room suits.within.clock sent h.space few) in
      let early = early_is old.clock l.stamp (length old.journal.events) h.stamp suits.within.clock sent at in
      go sent (many_hops_is l.message hops) at (any_hears answers gives old h.mid h.stamp l.from l.stamp l.message h.acted suits early h.space (many_hops_is l.message hops) h.hears)
    where
      go : l.stamp < stamp_end → (ManyHops (machine policy plan) (note_of policy plan l.message) → ⊥) → h.stamp ≡ max old.clock l.stamp + 1 → Hears policy plan h.stamp old.id l.from l.stamp l.message h.acted old h.mid → Made policy plan (Some l) old new ⊎ PassedOver policy plan (Some l) old new
      go sent hops at (Fits acts fitting) = inl (recorded_made policy plan old h.mid new h.stamp (Some l) h.acted suits acts at usual h.settled)
        where
          usual : IsOdd (machine policy plan) old.id (local policy plan old) (post_at policy plan old.id l) → ⊥
          usual (inl late) = omega (arith, late, sent)
          usual (inr (inl far)) = let low : old.id < plan.nodes = suits.below in omega (arith, far, low)
          usual (inr (inr (inl many))) = hops many
          usual (inr (inr (inr (late, u)))) = fitting u
      go sent hops at (Misfits strange unfit same) = by_clock (nat_lt old.clock stamp_end) refl
        where
          skipped : new ≡ skipped_in h.stamp old
          skipped = h.settled ∙ (ap (λ b. cond b (skipped_in h.stamp h.mid) (recorded_in h.stamp h.acted h.mid)) (ap is_strange strange) ∙ ap (skipped_in h.stamp) same)

          by_clock : (b : Bool) → nat_lt old.clock stamp_end ≡ b → Made policy plan (Some l) old new ⊎ PassedOver policy plan (Some l) old new
          by_clock true e = inl (skipped_made policy plan old new h.stamp l suits (below_is old.clock stamp_end e) sent at hops unfit (skipped ∙ ap (λ b. record old { clock = cond b h.stamp old.clock; strange = one_more old.strange }) e))
          by_clock false e =
              let is : new ≡ record old { strange = one_more old.strange } = skipped ∙ ap (λ b. record old { clock = cond b h.stamp old.clock; strange = one_more old.strange }) e in
              inr (subst (λ (n : Node). PassedOver policy plan (Some l) old n) (sym is) (record {
                letter = l;
                is = refl;
                skips = record { odd = inr (inr (inr (below_not old.clock stamp_end e, unfit))); same = refl };
                same = refl;
                suits = suits_skipped policy plan old old.clock (one_more old.strange) suits.within.clock suits;
              }))
