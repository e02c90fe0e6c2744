-- A half that a node sends or hears is a turn by the laws.
use Rattle.std.proofs.Common.{◌≡◌, ◌≢◌, ◌⊎◌, inl, inr, ℕ, zero, suc, ◌+◌, ◌<◌, ◌≤◌, ◌==◌, ◌&&◌, ◌||◌, cond, not, nat_lt, Bool, true, false, Option, Some, None, List, [], ◌∷◌, ◌++◌, map, length, take, refl, sym, ap, ◌∙◌, subst, arith, IfSome}
use Rattle.std.specs.Prelude.{◌-◌, ◌%◌, ◌^◌, max, min, nat_le, is_none}
use Rattle.std.specs.Option.{option_map}
use Rattle.std.proofs.lemmas.Bool.Decides.{nat_tests}
use Rattle.rand_pcg.specs.Pcg.{pcg32}
use Rattle.call_table.specs.declared.process.Entry as code_entry
use Rattle.call_forward.specs.declared.acted.Acted.{Acted}
use Rattle.call_forward.specs.declared.message.Message.{Message}
use Rattle.call_forward.specs.declared.message.Message.TheVariants as message
use Rattle.node_event.specs.declared.event.What.{What}
use Rattle.load_gossip.specs.Vectors as vectors
use Rattle.migrate_proto.specs.Reservations.{reserved_pages}
use Rattle.mem_usher.specs.declared.sight.Sight as sight_row
use Rattle.mem_usher.specs.declared.sight.Choice as choice_row
use Rattle.policy_box.specs.Policies.{IsInRange}
use Rattle.remote_ctx.specs.declared.context.Context as code_context
use Rattle.remote_ctx.specs.declared.context.Stance.TheVariants as stance
use Rattle.remote_ctx.specs.Hosted.{lookup, counts, pages_here, runs_at, sum_to}
use Rattle.remote_ctx.specs.Hosted as hosted
use Rattle.remote_ctx.specs.Acting.{asking}
use Rattle.protocol.specs.Ops.{sum_below, one_if}
use Rattle.protocol.specs.Deeds.{Deed, deed_of, half_deed, Chosen, Begin, Gossips}
use Rattle.protocol.specs.Gossip.{Entry, Gossip, Movable, Sight, Choice, first_places, woven, told_places, gossip_after, other_at}
use Rattle.protocol.specs.Gossip as gossip
use Rattle.protocol.specs.Notes.{Note, Running, context, Post, Turn, letter, Half, Ask}
use Rattle.protocol.specs.Does.{Does, InUse, slot_pages, Loaded, is_here, NoneRuns, HalfDueTo, SendsIf, seen, Talks, half_taken, half_posts, hosts}
use Rattle.protocol.specs.Odd.{stamp_end}
use Rattle.protocol.specs.Rests.{HalfReady}
use Rattle.protocol.proofs.Talk.{numbers_same, numbers_other, same_numbers}
use Rattle.protocol.proofs.Sums.{sum_ends}
use Rattle.run_laws.specs.Carried.{IsUsual}
use Rattle.node_machine.specs.Plan.{Plan}
use Rattle.node_machine.specs.Machine.{Policy, machine}
use Rattle.node_machine.specs.Policy.{told_sight, told_choice}
use Rattle.node_core.specs.declared.node.Node.{Node}
use Rattle.node_core.specs.declared.talk.Talk.{Talk}
use Rattle.node_core.specs.Locals.{local, slot_of, body_of, entry_of, places_of, gossip_of, post_of, note_of}
use Rattle.node_core.specs.Letters.{posted_by}
use Rattle.node_core.specs.Suits.{SuitsAt, Suits, IsWithin, word_after}
use Rattle.node_core.specs.Sight.{Answerer, load_of, free_of, own_entry, AreCounted, Chooses, Sees}
use Rattle.node_core.specs.Halves.{has_others, in_first_round, is_late, has_news, is_half_due, target_of, chance_after, told_talk, heard_talk, BeginsChosen, Follows, told_half, told_heard, SendsHalf, HearsHalf}
use Rattle.node_core.proofs.Settling.{Acts, at_clock, turn_at}
use Rattle.node_core.proofs.Slots.{cond_same, slots_put}
use Rattle.node_core.proofs.Contexts.{runs_here}
use Rattle.node_core.proofs.Growing.{contexts_here}
use Rattle.node_core.proofs.Using.{past_contexts, in_use, sum_words, sum_same}
use Rattle.node_core.proofs.Coming.{free_here}
use Rattle.node_core.proofs.Growing.{same_count}
use Rattle.node_core.proofs.Seeing.{law_movable, law_choice, can_move, sight_is, choice_back}

-- what a stored chooser answers on a sight in range is what the policy gives
abbrev pub Gives : Answerer → Policy → Type 0
Gives answers policy = (s : Sight) (c : Option Choice) → IsInRange (told_sight s) → answers (told_sight s) (option_map told_choice c) → policy s c

-- ---- places

pub renewed_same : (own : code_entry.Entry) (v : List (Option code_entry.Entry)) → places_of (vectors.renewed own v) ≡ gossip.renewed (entry_of own) (places_of v)
renewed_same own [] = refl
renewed_same own (x ∷ rest) = refl

first_same : (k : ℕ) (v : List (Option code_entry.Entry)) → places_of (take k v) ≡ first_places k (places_of v)
first_same zero v = refl
first_same (suc k) [] = refl
first_same (suc k) (x ∷ v) = ap (λ ys. option_map entry_of x ∷ ys) (first_same k v)

pub woven_same : (xs ys : List (Option code_entry.Entry)) → places_of (vectors.merged xs ys) ≡ woven (places_of xs) (places_of ys)
woven_same [] ys = refl
woven_same (x ∷ xs) [] = refl
woven_same (x ∷ xs) (y ∷ ys) = ap (λ zs. option_map entry_of x ∷ option_map entry_of y ∷ zs) (woven_same xs ys)

pub told_same : (own : code_entry.Entry) (t : Talk) → places_of (take 4 (vectors.renewed own t.vector)) ≡ told_places (entry_of own) (gossip_of t)
told_same own t = first_same 4 (vectors.renewed own t.vector) ∙ ap (first_places 4) (renewed_same own t.vector)

-- ---- sums to two bounds

same_sums : (a b : ℕ) (f : ℕ → ℕ) → ((q : ℕ) → a ≤ q → f q ≡ 0) → ((q : ℕ) → b ≤ q → f q ≡ 0) → sum_below a f ≡ sum_below b f
same_sums a b f none none2 =
    let c : b + a ≡ a + b = omega arith in
    sym (sum_ends b a f none) ∙ (ap (λ (k : ℕ). sum_below k f) c ∙ sum_ends a b f none2)

-- ---- tests

and_first : (a b : Bool) → (a && b) ≡ true → a ≡ true
and_first true b e = refl
and_first false b e = absurd cc

and_second : (a b : Bool) → (a && b) ≡ true → b ≡ true
and_second true b e = e
and_second false b e = absurd cc

or_true : (a b : Bool) → (a || b) ≡ true → (a ≡ true) ⊎ (b ≡ true)
or_true true b e = inl refl
or_true false b e = inr e

below_is : (a b : ℕ) → nat_lt a b ≡ true → a < b
below_is a b e = grind (arith, nat_tests, e)

below_so : (a b : ℕ) → a < b → nat_lt a b ≡ true
below_so a b h = grind (arith, nat_tests, h)

below_not : (a b : ℕ) → nat_lt a b ≡ false → b ≤ a
below_not a b e = grind (arith, nat_tests, e)

above_so : (a b : ℕ) → b ≤ a → nat_lt a b ≡ false
above_so a b h = grind (arith, nat_tests, h)

most_is : (a b : ℕ) → nat_le a b ≡ true → a ≤ b
most_is a b e = grind (arith, nat_tests, e)

most_so : (a b : ℕ) → a ≤ b → nat_le a b ≡ true
most_so a b h = grind (arith, nat_tests, h)

-- load or free pages are others
news_is : (a b c d : ℕ) → not ((a == b) && (c == d)) ≡ true → (a ≢ b) ⊎ (c ≢ d)
news_is a b c d e = go (a == b) refl e
  where
    go : (x : Bool) → (a == b) ≡ x → not (x && (c == d)) ≡ true → (a ≢ b) ⊎ (c ≢ d)
    go false f g = inl (numbers_other a b f)
    go true f g = inr (numbers_other c d (not_true (c == d) g))
      where
        not_true : (y : Bool) → not y ≡ true → y ≡ false
        not_true true h = absurd cc
        not_true false h = refl

news_so : (a b c d : ℕ) → (a ≢ b) ⊎ (c ≢ d) → not ((a == b) && (c == d)) ≡ true
news_so a b c d h = go (a == b) (c == d) refl refl
  where
    go : (x y : Bool) → (a == b) ≡ x → (c == d) ≡ y → not (x && y) ≡ true
    go false y e f = refl
    go true false e f = refl
    go true true e f = none h
      where
        none : (a ≢ b) ⊎ (c ≢ d) → not (true && true) ≡ true
        none (inl ne) = absurd (ne (numbers_same a b e))
        none (inr ne) = absurd (ne (numbers_same c d f))

module _ (policy : Policy) (plan : Plan) where
  -- ---- load and free pages

  abbrev count_at : Node → ℕ → ℕ
  count_at n q = one_if (is_here (machine policy plan) (slot_of policy plan n q).context)

  abbrev pages_for : Node → ℕ → ℕ
  pages_for n q = slot_pages (machine policy plan) (slot_of policy plan n q)

  -- all contexts are counted
  load_is : (old : Node) → Suits plan old → length old.journal.events ≤ old.journal.room → AreCounted old.hosted → load_of old ≡ length old.hosted
  load_is old suits most counted =
      let past = past_contexts old.hosted in
      let count : length old.hosted ≡ sum_to past.0 (λ q. counts (λ _. 1) (lookup q old.hosted)) = counted.load past.0 (record { none = past.1 }) in
      let few = suits.few past.0 in
      few_is (length old.hosted) (length old.journal.events) old.journal.room (omega (arith, count, few)) most (let e = suits.room in let m = suits.shape.most_events in omega (arith, e, m))
    where
      few_is : (n events room : ℕ) → n ≤ events → events ≤ room → room ≤ 1048576 → min n (2 ^ 32 - 1) ≡ n
      few_is n events room a b c = omega (arith, a, b, c)

  pub loaded : (old : Node) → Suits plan old → length old.journal.events ≤ old.journal.room → AreCounted old.hosted → Loaded (machine policy plan) (local policy plan old) (load_of old)
  loaded old suits most counted =
      let past = past_contexts old.hosted in
      let count : length old.hosted ≡ sum_to past.0 (λ q. counts (λ _. 1) (lookup q old.hosted)) = counted.load past.0 (record { none = past.1 }) in
      record {
        bound = past.0;
        beyond = λ p far. ap (option_map (Rattle.node_core.specs.Locals.context_of policy plan)) (past.1 p far);
        sum = load_is old suits most counted ∙ (count ∙ (sum_words past.0 (λ q. counts (λ _. 1) (lookup q old.hosted)) ∙ sum_same past.0 (λ q. counts (λ _. 1) (lookup q old.hosted)) (count_at old) (λ q less. same_count policy plan (lookup q old.hosted))));
      }

  pub load_known : (old : Node) (load : ℕ) → Suits plan old → length old.journal.events ≤ old.journal.room → AreCounted old.hosted → Loaded (machine policy plan) (local policy plan old) load → load ≡ load_of old
  load_known old load suits most counted l =
      let mine = loaded old suits most counted in
      l.sum ∙ (same_sums l.bound mine.bound (count_at old) (λ q far. ap (λ o. one_if (is_here (machine policy plan) o)) (l.beyond q far)) (λ q far. ap (λ o. one_if (is_here (machine policy plan) o)) (mine.beyond q far)) ∙ sym mine.sum)

  abbrev pub used_of : Node → ℕ
  used_of n = pages_here n.hosted + reserved_pages n.reserve

  pub free_known : (old : Node) → Suits plan old → free_of old ≡ plan.cap - used_of old
  free_known old suits = free_here policy plan old suits

  pub used_here : (old : Node) → AreCounted old.hosted → InUse (machine policy plan) (local policy plan old) (used_of old)
  used_here old counted = in_use policy plan old counted.pages

  pub used_known : (old : Node) (used : ℕ) → AreCounted old.hosted → InUse (machine policy plan) (local policy plan old) used → used ≡ used_of old
  used_known old used counted u = let mine = used_here old counted in u.sum ∙ (same_sums u.bound mine.bound (pages_for old) u.beyond mine.beyond ∙ sym mine.sum)

  -- ---- when a half is due, and to which node

  pub many_is : (old : Node) → Suits plan old → has_others old ≡ true → 2 ≤ plan.nodes
  many_is old suits e = let n = suits.shape.nodes in let m = most_is 2 old.shape.nodes e in omega (arith, n, m)

  pub first_is : (old : Node) → Suits plan old → in_first_round old ≡ true → old.talk.sent < plan.nodes - 1
  first_is old suits e = let n = suits.shape.nodes in let m = below_is old.talk.sent (old.shape.nodes - 1) e in omega (arith, n, m)

  pub past_first : (old : Node) → Suits plan old → in_first_round old ≡ false → plan.nodes - 1 ≤ old.talk.sent
  past_first old suits e = let n = suits.shape.nodes in let m = below_not old.talk.sent (old.shape.nodes - 1) e in omega (arith, n, m)

  -- the next word of chance is the plan's
  word_is : (old : Node) → Suits plan old → plan.word old.id (old.talk.sent - (plan.nodes - 1)) ≡ (pcg32 old.talk.chance).0
  word_is old suits = let e : old.talk.sent - (plan.nodes - 1) ≡ old.talk.sent - (plan.nodes - 1) + 0 = omega arith in ap (plan.word old.id) e ∙ suits.chance 0

  first_target : (old : Node) → in_first_round old ≡ true → target_of old ≡ other_at old.id old.talk.sent
  first_target old e = ap (λ b. other_at old.id (cond b old.talk.sent ((pcg32 old.talk.chance).0 % max (old.shape.nodes - 1) 1))) e

  drawn_target : (old : Node) → Suits plan old → 2 ≤ plan.nodes → in_first_round old ≡ false → target_of old ≡ other_at old.id (plan.word old.id (old.talk.sent - (plan.nodes - 1)) % (plan.nodes - 1))
  drawn_target old suits many e =
      let others : max (old.shape.nodes - 1) 1 ≡ plan.nodes - 1 = let n = suits.shape.nodes in omega (arith, n, many) in
      ap (λ b. other_at old.id (cond b old.talk.sent ((pcg32 old.talk.chance).0 % max (old.shape.nodes - 1) 1))) e
      ∙ (λ i. other_at old.id (sym (word_is old suits) i % others i))

  abbrev pub Due : Node → Type 0 → Type 0
  Due old rests = HalfDueTo (machine policy plan) old.id (target_of old) (load_of old) (plan.cap - used_of old) rests (gossip_of old.talk)

  -- a half that the code finds due is due by the laws
  pub due : (old : Node) (rests : Bool) (P : Type 0) → Suits plan old → (rests ≡ true → P) → is_half_due rests old ≡ true → Due old P
  due old rests P suits none e =
      let many = many_is old suits (and_first (has_others old) _ e) in
      go many (in_first_round old) refl (and_second (has_others old) _ e)
    where
      why : (is_late old ≡ true) ⊎ ((rests && has_news old) ≡ true) → (16 ≤ old.talk.steps) ⊎ (P × ((load_of old ≢ old.talk.load) ⊎ (plan.cap - used_of old ≢ old.talk.free)))
      why (inl late) = inl (most_is 16 old.talk.steps late)
      why (inr news) = inr (none (and_first rests (has_news old) news), at (news_is (load_of old) old.talk.load (free_of old) old.talk.free (and_second rests (has_news old) news)))
        where
          at : (load_of old ≢ old.talk.load) ⊎ (free_of old ≢ old.talk.free) → (load_of old ≢ old.talk.load) ⊎ (plan.cap - used_of old ≢ old.talk.free)
          at (inl ne) = inl ne
          at (inr ne) = inr (λ same. ne (free_known old suits ∙ same))

      go : 2 ≤ plan.nodes → (b : Bool) → in_first_round old ≡ b → (b || (is_late old || (rests && has_news old))) ≡ true → Due old P
      go many true f g = inl (first_is old suits f, first_target old f)
      go many false f g = inr (past_first old suits f, drawn_target old suits many f, why (or_true (is_late old) (rests && has_news old) g))

  late_due : (old : Node) (rests : Bool) → (has_others old && is_late old) ≡ true → is_half_due rests old ≡ true
  late_due old rests e = go (has_others old) (in_first_round old) (is_late old) (and_first (has_others old) (is_late old) e) (and_second (has_others old) (is_late old) e)
    where
      go : (a b c : Bool) → a ≡ true → c ≡ true → (a && (b || (c || (rests && has_news old)))) ≡ true
      go true true true e f = refl
      go true false true e f = refl
      go true true false e f = absurd cc
      go true false false e f = absurd cc
      go false b c e f = absurd cc

  pub due_late : (old : Node) (P : Type 0) → Suits plan old → (has_others old && is_late old) ≡ true → Due old P
  due_late old P suits e = due old false P suits (λ z. absurd cc) (late_due old false e)

  pub half_ready : (old : Node) → Suits plan old → length old.journal.events ≤ old.journal.room → AreCounted old.hosted → has_others old ≡ true → Due old (NoneRuns (machine policy plan) (local policy plan old)) → HalfReady (machine policy plan) old.id (target_of old) (local policy plan old)
  half_ready old suits most counted many d = record { below = suits.below; many = many_is old suits many; load = load_of old; loaded = loaded old suits most counted; used = used_of old; in_use = used_here old counted; due = d }

  -- and one that is due by the laws the code finds due
  pub due_found : (old : Node) (rests : Bool) (other : ℕ) → Suits plan old → length old.journal.events ≤ old.journal.room → AreCounted old.hosted → (NoneRuns (machine policy plan) (local policy plan old) → rests ≡ true) → HalfReady (machine policy plan) old.id other (local policy plan old) → is_half_due rests old ≡ true
  due_found old rests other suits most counted none h =
      let many : has_others old ≡ true = most_so 2 old.shape.nodes (let n = suits.shape.nodes in let m = h.many in omega (arith, n, m)) in
      all (has_others old) many (found h.due)
    where
      all : (a : Bool) → a ≡ true → (in_first_round old || (is_late old || (rests && has_news old))) ≡ true → (a && (in_first_round old || (is_late old || (rests && has_news old)))) ≡ true
      all true e f = f
      all false e f = absurd cc

      by_first : (b c : Bool) → b ≡ true → (b || c) ≡ true
      by_first true c e = refl
      by_first false c e = absurd cc

      by_rest : (b c : Bool) → c ≡ true → (b || c) ≡ true
      by_rest true c e = refl
      by_rest false c e = e

      both : (b c : Bool) → b ≡ true → c ≡ true → (b && c) ≡ true
      both true c e f = f
      both false c e f = absurd cc

      load_same : h.load ≡ load_of old
      load_same = load_known old h.load suits most counted h.loaded

      free_same : plan.cap - h.used ≡ free_of old
      free_same = ap (λ (u : ℕ). plan.cap - u) (used_known old h.used counted h.in_use) ∙ sym (free_known old suits)

      news : (h.load ≢ old.talk.load) ⊎ (plan.cap - h.used ≢ old.talk.free) → has_news old ≡ true
      news (inl ne) = news_so (load_of old) old.talk.load (free_of old) old.talk.free (inl (λ same. ne (load_same ∙ same)))
      news (inr ne) = news_so (load_of old) old.talk.load (free_of old) old.talk.free (inr (λ same. ne (free_same ∙ same)))

      found : HalfDueTo (machine policy plan) old.id other h.load (plan.cap - h.used) (NoneRuns (machine policy plan) (local policy plan old)) (gossip_of old.talk) → (in_first_round old || (is_late old || (rests && has_news old))) ≡ true
      found (inl (low, to)) = by_first (in_first_round old) (is_late old || (rests && has_news old)) (below_so old.talk.sent (old.shape.nodes - 1) (let n = suits.shape.nodes in omega (arith, n, low)))
      found (inr (high, to, inl late)) = by_rest (in_first_round old) (is_late old || (rests && has_news old)) (by_first (is_late old) (rests && has_news old) (most_so 16 old.talk.steps late))
      found (inr (high, to, inr (quiet, other_news))) = by_rest (in_first_round old) (is_late old || (rests && has_news old)) (by_rest (is_late old) (rests && has_news old) (both rests (has_news old) (none quiet) (news other_news)))
