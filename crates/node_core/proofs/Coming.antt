-- What a node does with a process that asks for room or comes is a turn by the laws.
use Rattle.std.proofs.Common.{◌≡◌, ◌≢◌, ◌⊎◌, inl, inr, ℕ, zero, suc, ◌+◌, ◌<◌, ◌≤◌, ◌==◌, ◌&&◌, cond, not, nat_lt, Bool, true, false, Option, Some, None, List, [], ◌∷◌, length, refl, sym, ap, ◌∙◌, subst, arith}
use Rattle.std.specs.Prelude.{◌-◌, ◌^◌, min, is_some, is_none, nat_le}
use Rattle.std.specs.Bool.{MatchBool}
use Rattle.std.specs.Option.{option_map}
use Rattle.std.specs.Ordering.{nat_cmp}
use Rattle.std.specs.Cmp.{nat_cmp_total, unsigned_tied}
use Rattle.std.specs.FinMap as fin_map
use Rattle.std.specs.FinMap.{get-insert, get-remove}
use Rattle.std.proofs.lemmas.Bool.Decides.{nat_tests}
use Rattle.call_table.specs.declared.limit.TheConstants.{PROCESSES}
use Rattle.call_forward.specs.declared.acted.Acted.{Acted}
use Rattle.call_forward.specs.declared.message.Message.TheVariants as message
use Rattle.node_event.specs.declared.event.What.TheVariants as what
use Rattle.user_spec.specs.User.{UserState}
use Rattle.kernel_spec.specs.Kernel.{given}
use Rattle.kernel_spec.specs.Pids.{at_pid}
use Rattle.migrate_proto.specs.declared.reserve.Decision.{Decision}
use Rattle.migrate_proto.specs.declared.reserve.Decision.TheVariants as decided
use Rattle.migrate_proto.specs.Reservations.{decision, reserved_pages}
use Rattle.remote_ctx.specs.declared.context.Context as code_context
use Rattle.remote_ctx.specs.Hosted.{lookup, pages_of, pages_here, IsPast, sum_to, counts, Puts}
use Rattle.remote_ctx.specs.Acting.{fresh}
use Rattle.protocol.specs.Home.{NeverGiven}
use Rattle.protocol.specs.Notes.{Context, Running, context, Post, letter, Ask, Move}
use Rattle.protocol.specs.Does.{Unfit, Misfit, Reserved, InUse, reserves, lands}
use Rattle.protocol.specs.Odd.{stamp_end, hops_end}
use Rattle.protocol.proofs.Talk.{numbers_same, numbers_other, same_numbers}
use Rattle.node_machine.specs.Plan.{Plan}
use Rattle.node_machine.specs.Machine.{Policy, machine}
use Rattle.node_core.specs.declared.node.Node.{Node}
use Rattle.node_core.specs.Locals.{local, slot_with, slot_of, context_of, note_of}
use Rattle.node_core.specs.Suits.{SuitsAt, Suits}
use Rattle.node_core.specs.Kinds.{IsStrange, Says, is_stray}
use Rattle.node_core.specs.Sight.{free_of}
use Rattle.node_core.specs.Moves.{may_come, allowed, denied, Reserves, AnswersAsk, Decides, HearsAsk, may_land, landings, LandsHere, HearsMove}
use Rattle.node_core.proofs.Settling.{Acts, Hears, Fits, Misfits, at_clock}
use Rattle.node_core.proofs.Slots.{cond_same}
use Rattle.node_core.proofs.Using.{in_use, reserved_here, reserved_is}

abbrev Kept : Type 0
Kept = fin_map.FinMap nat_cmp ℕ

-- ---- tests that hold or fail

first_of_both : (a b : Bool) → (a && b) ≡ true → a ≡ true
first_of_both true b e = refl
first_of_both false b e = absurd cc

second_of_both : (a b : Bool) → (a && b) ≡ true → b ≡ true
second_of_both true b e = e
second_of_both false b e = absurd cc

one_fails : (a b : Bool) → (a && b) ≡ false → (a ≡ false) ⊎ (b ≡ false)
one_fails true b e = inr e
one_fails false b e = inl refl

not_fails : (a : Bool) → not a ≡ false → a ≡ true
not_fails true e = refl
not_fails false e = absurd cc

not_holds : (a : Bool) → not a ≡ true → a ≡ false
not_holds true e = absurd cc
not_holds false e = refl

none_is : {A : Type 0} (o : Option A) → is_none o ≡ true → o ≡ None
none_is None e = refl
none_is (Some c) e = absurd cc

none_some : {A : Type 0} (o : Option A) → is_some o ≡ false → o ≡ None
none_some None e = refl
none_some (Some c) e = absurd cc

some_not : {A : Type 0} (o : Option A) → is_some o ≡ true → o ≡ None → ⊥
some_not None e f = absurd cc
some_not (Some c) e f = cc

not_given : (c n : ℕ) → not (nat_le 1 c && nat_le c n) ≡ true → (c ≡ 0) ⊎ (n < c)
not_given zero n e = inl refl
not_given (suc c) n e = inr (grind (arith, nat_tests, e))

given_not : (c n : ℕ) → not (nat_le 1 c && nat_le c n) ≡ false → (c ≡ 0) ⊎ (n < c) → ⊥
given_not c n e (inl z) = let f : not (nat_le 1 0 && nat_le 0 n) ≡ false = subst (λ (m : ℕ). not (nat_le 1 m && nat_le m n) ≡ false) z e in absurd cc
given_not c n e (inr h) = grind (arith, nat_tests, e, h)

lower_is : (a b : ℕ) → nat_lt a b ≡ true → a < b
lower_is a b e = grind (arith, nat_tests, e)

lower_not : (a b : ℕ) → nat_lt a b ≡ false → b ≤ a
lower_not a b e = grind (arith, nat_tests, e)

-- ---- what is kept for a pid

kept_now : (m : Kept) (p need q : ℕ) → fin_map.get (fin_map.insert m p need) q ≡ cond (q == p) (Some need) (fin_map.get m q)
kept_now m p need q = get-insert nat_cmp_total m p need q ∙ ap (λ b. cond b (Some need) (fin_map.get m q)) (unsigned_tied q p)

freed_now : (m : Kept) (p q : ℕ) → fin_map.get (fin_map.remove m p) q ≡ cond (q == p) None (fin_map.get m q)
freed_now m p q = get-remove nat_cmp_total m p q ∙ ap (λ b. cond b None (fin_map.get m q)) (unsigned_tied q p)

-- pages that are free, whether the sum of those of the contexts can be counted or not
free_is : (cap held kept : ℕ) → cap ≤ 65536 → cap - min held (2 ^ 32 - 1) - kept ≡ cap - (held + kept)
free_is cap held kept most = omega (arith, most)

-- ---- whether a process may come

pub record MayCome (n : Node) (p : ℕ) : Type 0 where
  pub absent : lookup p n.hosted ≡ None
  pub fresh : fin_map.get n.reserve p ≡ None
  pub known : is_stray n (Some p) ≡ false
  pub room : fin_map.len n.reserve < PROCESSES

pub may_come_is : (n : Node) (p : ℕ) → may_come n p ≡ true → MayCome n p
may_come_is n p e =
    let kept : Bool = is_some (fin_map.get n.reserve p) in
    let rest = second_of_both (is_none (lookup p n.hosted)) (not kept && (not (is_stray n (Some p)) && nat_lt (fin_map.len n.reserve) PROCESSES)) e in
    let last = second_of_both (not kept) (not (is_stray n (Some p)) && nat_lt (fin_map.len n.reserve) PROCESSES) rest in
    record {
      absent = none_is (lookup p n.hosted) (first_of_both (is_none (lookup p n.hosted)) (not kept && (not (is_stray n (Some p)) && nat_lt (fin_map.len n.reserve) PROCESSES)) e);
      fresh = none_some (fin_map.get n.reserve p) (not_holds kept (first_of_both (not kept) (not (is_stray n (Some p)) && nat_lt (fin_map.len n.reserve) PROCESSES) rest));
      known = not_holds (is_stray n (Some p)) (first_of_both (not (is_stray n (Some p))) (nat_lt (fin_map.len n.reserve) PROCESSES) last);
      room = lower_is (fin_map.len n.reserve) PROCESSES (second_of_both (not (is_stray n (Some p))) (nat_lt (fin_map.len n.reserve) PROCESSES) last);
    }

-- and whether one may land
pub record MayLand (n : Node) (p : ℕ) (u : UserState) : Type 0 where
  pub absent : lookup p n.hosted ≡ None
  pub own : u.pid ≡ p
  pub kept : is_some (fin_map.get n.reserve p) ≡ true

pub may_land_is : (n : Node) (p : ℕ) (u : UserState) → may_land n p u ≡ true → MayLand n p u
may_land_is n p u e =
    let rest = second_of_both (is_none (lookup p n.hosted)) ((u.pid == p) && is_some (fin_map.get n.reserve p)) e in
    record {
      absent = none_is (lookup p n.hosted) (first_of_both (is_none (lookup p n.hosted)) ((u.pid == p) && is_some (fin_map.get n.reserve p)) e);
      own = numbers_same u.pid p (first_of_both (u.pid == p) (is_some (fin_map.get n.reserve p)) rest);
      kept = second_of_both (u.pid == p) (is_some (fin_map.get n.reserve p)) rest;
    }

module _ (policy : Policy) (plan : Plan) where
  some_here : (o : Option code_context.Context) → is_none o ≡ false → option_map (context_of policy plan) o ≢ None
  some_here None e = absurd cc
  some_here (Some c) e = λ same. cc

  none_here : (o : Option code_context.Context) → o ≡ None → option_map (context_of policy plan) o ≡ None
  none_here o e = ap (option_map (context_of policy plan)) e

  -- what of a node suits the plan does not tell of its contexts, nor of what it keeps
  suits_kept : (old : Node) (h : List code_context.Context) (m : Kept) (stamp : ℕ) → stamp ≤ stamp_end + (length old.journal.events + 1) → Suits plan old → SuitsAt plan (length old.journal.events + 1) (at_clock stamp (record old { hosted = h; reserve = m }))
  suits_kept old h m stamp early s = record {
    is_plan = s.is_plan;
    below = s.below;
    shape = s.shape;
    room = s.room;
    within = record { clock = early; served = λ q. let k = s.within.served q in omega (arith, k); sent = let k = s.within.sent in omega (arith, k); steps = let k = s.within.steps in omega (arith, k) };
    course = s.course;
    chance = s.chance;
  }

  -- ---- a process asks for room

  abbrev ask_post : Node → ℕ → ℕ → ℕ → ℕ → Post (machine policy plan)
  ask_post old from sent p need = letter (machine policy plan) from old.id sent (Ask p need)

  slots_reserved : (n : Node) (p need q : ℕ) → slot_of policy plan (record n { reserve = fin_map.insert n.reserve p need }) q ≡ cond (q == p) (reserves (machine policy plan) (Some need) (slot_of policy plan n q)) (slot_of policy plan n q)
  slots_reserved n p need q = ap (λ (o : Option ℕ). slot_with policy plan (lookup q n.hosted) o (at_pid n.deputies.rows q)) (kept_now n.reserve p need q) ∙ go (q == p)
    where
      go : (t : Bool) → slot_with policy plan (lookup q n.hosted) (cond t (Some need) (fin_map.get n.reserve q)) (at_pid n.deputies.rows q) ≡ cond t (reserves (machine policy plan) (Some need) (slot_of policy plan n q)) (slot_of policy plan n q)
      go true = refl
      go false = refl

  abbrev AreCounted : Node → Type 0
  AreCounted n = (k : ℕ) → IsPast k n.hosted → pages_here n.hosted ≡ sum_to k (λ q. counts pages_of (lookup q n.hosted))

  pub free_here : (old : Node) → Suits plan old → free_of old ≡ plan.cap - (pages_here old.hosted + reserved_pages old.reserve)
  free_here old suits =
      let cap : old.shape.cap ≡ plan.cap = suits.shape.cap in
      ap (λ (c : ℕ). c - min (pages_here old.hosted) (2 ^ 32 - 1) - reserved_pages old.reserve) cap ∙ free_is plan.cap (pages_here old.hosted) (reserved_pages old.reserve) suits.shape.most_pages

  allowed_acts : (old : Node) (stamp from sent p need : ℕ) → Suits plan old → stamp ≤ stamp_end + (length old.journal.events + 1) → AreCounted old → need ≤ free_of old
      → Acts policy plan stamp (Some (ask_post old from sent p need)) (allowed p from need) old (record old { reserve = fin_map.insert old.reserve p need })
  allowed_acts old stamp from sent p need suits early pages room = record {
    usual = tt;
    does = record {
      stamp = sent;
      used = pages_here old.hosted + reserved_pages old.reserve;
      in_use = in_use policy plan old pages;
      room = subst (λ (k : ℕ). need ≤ k) (free_here old suits) room;
      base = record { took = refl; posts = refl; slots = slots_reserved old p need };
      still = record { kernel = refl; believed = λ q. refl; progress = refl; gossip = refl };
    };
    same = refl;
    suits = suits_kept old old.hosted (fin_map.insert old.reserve p need) stamp early suits;
  }

  denied_acts : (old : Node) (stamp from sent p need : ℕ) → Suits plan old → stamp ≤ stamp_end + (length old.journal.events + 1) → AreCounted old → free_of old < need
      → Acts policy plan stamp (Some (ask_post old from sent p need)) (denied p from need (free_of old)) old old
  denied_acts old stamp from sent p need suits early pages short = record {
    usual = tt;
    does = record {
      stamp = sent;
      used = pages_here old.hosted + reserved_pages old.reserve;
      in_use = in_use policy plan old pages;
      free_is = free_here old suits;
      short = short;
      base = record { took = refl; posts = refl; slots = λ q. cond_same (q == p) (slot_of policy plan old q) };
      still = record { kernel = refl; believed = λ q. refl; progress = refl; gossip = refl };
    };
    same = refl;
    suits = suits_kept old old.hosted old.reserve stamp early suits;
  }

  decided_acts : (old mid : Node) (stamp from sent p need : ℕ) (acted : Acted) → Suits plan old → stamp ≤ stamp_end + (length old.journal.events + 1) → Decides p from need acted old mid
      → Acts policy plan stamp (Some (ask_post old from sent p need)) acted old mid
  decided_acts old mid stamp from sent p need acted suits early d = go (nat_lt (free_of old) need) refl d.does
    where
      go : (b : Bool) → nat_lt (free_of old) need ≡ b → AnswersAsk (cond b (decided.Deny need (free_of old)) decided.Allow) p from need acted old mid → Acts policy plan stamp (Some (ask_post old from sent p need)) acted old mid
      go true e s =
          subst (λ (w : Acted). Acts policy plan stamp (Some (ask_post old from sent p need)) w old mid) (sym s.acted_is)
          (subst (λ (m : Node). Acts policy plan stamp (Some (ask_post old from sent p need)) (denied p from need (free_of old)) old m) (sym s.same) (denied_acts old stamp from sent p need suits early d.pages (lower_is (free_of old) need e)))
      go false e r =
          subst (λ (w : Acted). Acts policy plan stamp (Some (ask_post old from sent p need)) w old mid) (sym r.acted_is)
          (subst (λ (m : Node). Acts policy plan stamp (Some (ask_post old from sent p need)) (allowed p from need) old m) (sym r.rest) (allowed_acts old stamp from sent p need suits early d.pages (lower_not (free_of old) need e)))

  -- a pid that home never gave
  stray_is : (old : Node) (p : ℕ) → is_stray old (Some p) ≡ true → (old.id ≡ 0) × NeverGiven (machine policy plan) old.deputies.kernel p
  stray_is old p e = (numbers_same old.id 0 (first_of_both (old.id == 0) _ e), not_given p (given old.deputies.kernel) (second_of_both (old.id == 0) _ e))

  not_stray : (old : Node) (p : ℕ) → is_stray old (Some p) ≡ false → (old.id ≡ 0) × NeverGiven (machine policy plan) old.deputies.kernel p → ⊥
  not_stray old p e (home, never) = given_not p (given old.deputies.kernel) (sym (ap (λ b. b && not (nat_le 1 p && nat_le p (given old.deputies.kernel))) (same_numbers old.id 0 home)) ∙ e) never

  ask_misfit : (old : Node) (from p need : ℕ) → may_come old p ≡ false → Misfit (machine policy plan) old.id from (local policy plan old) (note_of policy plan (message.Ask p need))
  ask_misfit old from p need e = first (one_fails (is_none (lookup p old.hosted)) _ e)
    where
      full : nat_lt (fin_map.len old.reserve) PROCESSES ≡ false → (total : ℕ) × Reserved (machine policy plan) (local policy plan old) total × (64 ≤ total)
      full f = (fin_map.len old.reserve, reserved_here policy plan old, lower_not (fin_map.len old.reserve) PROCESSES f)

      third : (not (is_stray old (Some p)) ≡ false) ⊎ (nat_lt (fin_map.len old.reserve) PROCESSES ≡ false) → Misfit (machine policy plan) old.id from (local policy plan old) (note_of policy plan (message.Ask p need))
      third (inl f) = inr (inr (inl (stray_is old p (not_fails (is_stray old (Some p)) f))))
      third (inr f) = inr (inr (inr (full f)))

      second : (not (is_some (fin_map.get old.reserve p)) ≡ false) ⊎ ((not (is_stray old (Some p)) && nat_lt (fin_map.len old.reserve) PROCESSES) ≡ false) → Misfit (machine policy plan) old.id from (local policy plan old) (note_of policy plan (message.Ask p need))
      second (inl f) = inr (inl (some_not (fin_map.get old.reserve p) (not_fails (is_some (fin_map.get old.reserve p)) f)))
      second (inr f) = third (one_fails (not (is_stray old (Some p))) _ f)

      first : (is_none (lookup p old.hosted) ≡ false) ⊎ ((not (is_some (fin_map.get old.reserve p)) && (not (is_stray old (Some p)) && nat_lt (fin_map.len old.reserve) PROCESSES)) ≡ false) → Misfit (machine policy plan) old.id from (local policy plan old) (note_of policy plan (message.Ask p need))
      first (inl f) = inl (some_here (lookup p old.hosted) f)
      first (inr f) = second (one_fails (not (is_some (fin_map.get old.reserve p))) _ f)

  ask_no_misfit : (old : Node) (from p need : ℕ) → from < plan.nodes → MayCome old p → Unfit (machine policy plan) old.id from (local policy plan old) (note_of policy plan (message.Ask p need)) → ⊥
  ask_no_misfit old from p need near m (inl (inl here)) = here (none_here (lookup p old.hosted) m.absent)
  ask_no_misfit old from p need near m (inl (inr (inl kept))) = kept m.fresh
  ask_no_misfit old from p need near m (inl (inr (inr (inl stray)))) = not_stray old p m.known stray
  ask_no_misfit old from p need near m (inl (inr (inr (inr full)))) = let same = reserved_is policy plan old full.0 full.1 in let few : fin_map.len old.reserve < 64 = m.room in omega (arith, same, few, full.2)
  ask_no_misfit old from p need near m (inr (inl far)) = omega (arith, near, far)
  ask_no_misfit old from p need near m (inr (inr far)) = absurd far

  -- a process asks for room
  pub ask_hears : (old mid : Node) (stamp from sent p need : ℕ) (acted : Acted) → Suits plan old → from < plan.nodes → stamp ≤ stamp_end + (length old.journal.events + 1)
      → HearsAsk from p need acted old mid → Hears policy plan stamp old.id from sent (message.Ask p need) acted old mid
  ask_hears old mid stamp from sent p need acted suits near early h = go (may_come old p) refl h
    where
      go : (b : Bool) → may_come old p ≡ b → MatchBool b (Decides p from need acted old mid) (IsStrange acted old mid) → Hears policy plan stamp old.id from sent (message.Ask p need) acted old mid
      go true e d = Fits (decided_acts old mid stamp from sent p need acted suits early d) (ask_no_misfit old from p need near (may_come_is old p e))
      go false e s = Misfits s.what (inl (ask_misfit old from p need e)) s.same

  -- ---- a process comes

  abbrev move_post : Node → ℕ → ℕ → ℕ → UserState → ℕ → Option ℕ → Post (machine policy plan)
  move_post old from sent p u hops line = letter (machine policy plan) from old.id sent (Move p u hops line)

  slots_landed : (n : Node) (p : ℕ) (x : Option code_context.Context) (h : List code_context.Context) (y : Option (Context (machine policy plan))) → option_map (context_of policy plan) x ≡ y → Puts p x n.hosted h
      → (q : ℕ) → slot_of policy plan (record n { hosted = h; reserve = fin_map.remove n.reserve p }) q ≡ cond (q == p) (lands (machine policy plan) y (slot_of policy plan n q)) (slot_of policy plan n q)
  slots_landed n p x h y e puts q = (λ i. slot_with policy plan (puts.each q i) (freed_now n.reserve p q i) (at_pid n.deputies.rows q)) ∙ go (q == p)
    where
      go : (t : Bool) → slot_with policy plan (cond t x (lookup q n.hosted)) (cond t None (fin_map.get n.reserve q)) (at_pid n.deputies.rows q) ≡ cond t (lands (machine policy plan) y (slot_of policy plan n q)) (slot_of policy plan n q)
      go true = ap (λ (o : Option (Context (machine policy plan))). lands (machine policy plan) o (slot_of policy plan n q)) e
      go false = refl

  more_landings : (hops : ℕ) → hops < hops_end → landings hops ≡ hops + 1
  more_landings hops less = omega (arith, less)

  landed_acts : (old mid : Node) (stamp from sent p : ℕ) (u : UserState) (hops : ℕ) (line : Option ℕ) (acted : Acted) → Suits plan old → stamp ≤ stamp_end + (length old.journal.events + 1) → hops < hops_end → u.pid ≡ p → LandsHere p from u (landings hops) line acted old mid
      → Acts policy plan stamp (Some (move_post old from sent p u hops line)) acted old mid
  landed_acts old mid stamp from sent p u hops line acted suits early less own l =
      let more = more_landings hops less in
      let made : Acted = record { what = what.Land p from; mail = (0, message.Landed p from (hops + 1) line) ∷ [] } in
      let is : acted ≡ made = l.acted_is ∙ ap (λ (k : ℕ). record { what = what.Land p from; mail = (0, message.Landed p from k line) ∷ [] }) more in
      let puts : Puts p (Some (fresh u (landings hops))) old.hosted mid.hosted = subst (λ (k : ℕ). Puts k (Some (fresh u (landings hops))) old.hosted mid.hosted) own l.puts in
      let here : mid ≡ record old { hosted = mid.hosted; reserve = fin_map.remove old.reserve p } = l.rest ∙ ap (λ (m : Kept). record old { hosted = mid.hosted; reserve = m }) l.freed in
      subst (λ (w : Acted). Acts policy plan stamp (Some (move_post old from sent p u hops line)) w old mid) (sym is)
      (subst (λ (m : Node). Acts policy plan stamp (Some (move_post old from sent p u hops line)) made old m) (sym here) (record {
        usual = tt;
        does = record {
          stamp = sent;
          user = u;
          hops = hops;
          line = line;
          base = record { took = refl; posts = refl; slots = slots_landed old p (Some (fresh u (landings hops))) mid.hosted _ (ap (λ (k : ℕ). Some (context (machine policy plan) (record { user = u; hops = k; poked = false }) Running)) more) puts };
          still = record { kernel = refl; believed = λ q. refl; progress = refl; gossip = refl };
        };
        same = refl;
        suits = suits_kept old mid.hosted (fin_map.remove old.reserve p) stamp early suits;
      }))

  move_misfit : (old : Node) (from p : ℕ) (u : UserState) (hops : ℕ) (line : Option ℕ) → may_land old p u ≡ false → Misfit (machine policy plan) old.id from (local policy plan old) (note_of policy plan (message.Move p u hops line))
  move_misfit old from p u hops line e = first (one_fails (is_none (lookup p old.hosted)) _ e)
    where
      second : ((u.pid == p) ≡ false) ⊎ (is_some (fin_map.get old.reserve p) ≡ false) → Misfit (machine policy plan) old.id from (local policy plan old) (note_of policy plan (message.Move p u hops line))
      second (inl f) = inr (inr (numbers_other u.pid p f))
      second (inr f) = inr (inl (none_some (fin_map.get old.reserve p) f))

      first : (is_none (lookup p old.hosted) ≡ false) ⊎ (((u.pid == p) && is_some (fin_map.get old.reserve p)) ≡ false) → Misfit (machine policy plan) old.id from (local policy plan old) (note_of policy plan (message.Move p u hops line))
      first (inl f) = inl (some_here (lookup p old.hosted) f)
      first (inr f) = second (one_fails (u.pid == p) _ f)

  move_no_misfit : (old : Node) (from p : ℕ) (u : UserState) (hops : ℕ) (line : Option ℕ) → from < plan.nodes → MayLand old p u → Unfit (machine policy plan) old.id from (local policy plan old) (note_of policy plan (message.Move p u hops line)) → ⊥
  move_no_misfit old from p u hops line near m (inl (inl here)) = here (none_here (lookup p old.hosted) m.absent)
  move_no_misfit old from p u hops line near m (inl (inr (inl none))) = some_not (fin_map.get old.reserve p) m.kept none
  move_no_misfit old from p u hops line near m (inl (inr (inr other))) = other m.own
  move_no_misfit old from p u hops line near m (inr (inl far)) = omega (arith, near, far)
  move_no_misfit old from p u hops line near m (inr (inr far)) = absurd far

  -- a process comes
  pub move_hears : (old mid : Node) (stamp from sent p : ℕ) (u : UserState) (hops : ℕ) (line : Option ℕ) (acted : Acted) → Suits plan old → from < plan.nodes → stamp ≤ stamp_end + (length old.journal.events + 1) → hops < hops_end
      → HearsMove from p u hops line acted old mid → Hears policy plan stamp old.id from sent (message.Move p u hops line) acted old mid
  move_hears old mid stamp from sent p u hops line acted suits near early less h = go (may_land old p u) refl h
    where
      go : (b : Bool) → may_land old p u ≡ b → MatchBool b (LandsHere p from u (landings hops) line acted old mid) (IsStrange acted old mid) → Hears policy plan stamp old.id from sent (message.Move p u hops line) acted old mid
      go true e l = let m = may_land_is old p u e in Fits (landed_acts old mid stamp from sent p u hops line acted suits early less m.own l) (move_no_misfit old from p u hops line near m)
      go false e s = Misfits s.what (inl (move_misfit old from p u hops line e)) s.same
