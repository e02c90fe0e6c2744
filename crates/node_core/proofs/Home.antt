-- What home does with calls and pauses is a turn by the laws.
use Rattle.std.proofs.Common.{◌≡◌, ◌≢◌, ◌⊎◌, inl, inr, ℕ, zero, suc, ◌+◌, ◌<◌, ◌≤◌, ◌==◌, ◌&&◌, cond, Bool, true, false, Option, Some, None, List, [], ◌∷◌, length, slice_get, refl, sym, ap, ◌∙◌, subst, arith}
use Rattle.std.specs.Prelude.{◌-◌, ◌^◌, is_some, is_none, reverse, ℤ}
use Rattle.std.specs.Option.{option_map, option_map_or}
use Rattle.proc_tree.specs.declared.process.Process.{Process}
use Rattle.user_spec.specs.Fits as user_fits
use Rattle.call_forward.specs.declared.message.Message.{Message}
use Rattle.protocol.proofs.Talk.{other_numbers, numbers_other}
use Rattle.call_table.specs.declared.process.End.{End}
use Rattle.call_table.specs.declared.request.Request.{Request}
use Rattle.call_forward.specs.declared.acted.Acted.{Acted}
use Rattle.call_forward.specs.declared.message.Message.TheVariants as message
use Rattle.node_event.specs.declared.event.What.TheVariants as what
use Rattle.node_event.specs.declared.event.Way.{Way}
use Rattle.node_event.specs.declared.event.Way.TheVariants as way
use Rattle.kernel_spec.specs.Pids.{at_pid, changed_pid}
use Rattle.kernel_spec.specs.Kernel.{KernelState, deliverable, end_at, is_live, given}
use Rattle.deputy.specs.declared.row.Row.{Row}
use Rattle.deputy.specs.declared.row.HeldCall.{HeldCall}
use Rattle.deputy.specs.Rows.{HomeState, held_of, served_of, held_at, served_at, holding, counted, is_fork, with_born}
use Rattle.deputy.specs.Calls as calls
use Rattle.protocol.specs.Deeds.{Deed, deed_of, manner_of, born_of, Served, Paused}
use Rattle.protocol.specs.Notes.{Turn, Local, Post, letter, Call, Pause, SameProgress, served_one}
use Rattle.protocol.specs.Home.{last, Last}
use Rattle.protocol.specs.Does as does
use Rattle.protocol.specs.Does.{Serves, Retries, ServedBy, Does, Unfit}
use Rattle.protocol.specs.Odd.{stamp_end}
use Rattle.node_machine.specs.Plan.{Plan}
use Rattle.node_machine.specs.Machine.{Policy, machine}
use Rattle.node_core.specs.declared.node.Node.{Node}
use Rattle.node_core.specs.Locals.{local, slot_of, called_of, believed_of, note_of}
use Rattle.node_core.specs.Suits.{SuitsAt, Suits}
use Rattle.node_core.specs.Kinds.{OnHome}
use Rattle.node_core.proofs.Settling.{Acts, Hears, Fits, Misfits, at_clock, turn_at}
use Rattle.node_core.proofs.Signals.{served_is, last_is}
use Rattle.run_laws.specs.Carried.{IsUsual}
use Rattle.node_core.proofs.Slots.{cond_same}
use Rattle.node_core.proofs.Rows.{Birth, by_same, row_of, served_held, served_count, served_believed, is_none_same, kept_row, new_row_at}
use Rattle.node_core.proofs.Serving.{first_in, pokes_same, mail_same, answers_same}
use Rattle.node_core.proofs.Firsts.{Comes, comes, Waits, waits}

no_fault : (r : Request) → (r.number == 0) ≡ false → Some r.number ≡ Some 0 → ⊥
no_fault r call e = let same : r.number ≡ 0 = cc in numbers_other r.number 0 call same

module _ (policy : Policy) (plan : Plan) where
  abbrev home_in : Node → HomeState → Node
  home_in n d = record n { deputies = d }

  pub suits_home : (old : Node) (d : HomeState) (stamp : ℕ) → stamp ≤ stamp_end + (length old.journal.events + 1) → ((q : ℕ) → served_at d.rows q ≤ length old.journal.events + 1) → Suits plan old → SuitsAt plan (length old.journal.events + 1) (at_clock stamp (home_in old d))
  suits_home old d stamp early served s = record {
    is_plan = s.is_plan;
    below = s.below;
    shape = s.shape;
    room = s.room;
    within = record { clock = early; served = served; sent = let k = s.within.sent in omega (arith, k); steps = let k = s.within.steps in omega (arith, k) };
    course = s.course;
    chance = s.chance;
  }

  -- a call that came is served, by whatever manner but that of a pause
  by_letter : (w : Way) (n p : ℕ) (number : Option ℕ) (value : Option ℤ) (child signal : Option ℕ) (ends : Option End) (more : Bool) (poked : List ℕ) (old : Local (machine policy plan)) (t : Turn (machine policy plan)) (new : Local (machine policy plan))
      → Serves (machine policy plan) n p (manner_of w) number value child signal ends more poked old t new → ServedBy (machine policy plan) (manner_of w) n p number value child signal ends more poked old t new
  by_letter way.Did n p number value child signal ends more poked old t new s = inl s
  by_letter way.Broke n p number value child signal ends more poked old t new s = inl s
  by_letter way.Fell n p number value child signal ends more poked old t new s = s
  by_letter way.Paused n p number value child signal ends more poked old t new s = absurd s.acts

  by_retry : (w : Way) (n p : ℕ) (number : Option ℕ) (value : Option ℤ) (child signal : Option ℕ) (ends : Option End) (more : Bool) (poked : List ℕ) (old : Local (machine policy plan)) (t : Turn (machine policy plan)) (new : Local (machine policy plan))
      → (number ≡ Some 0 → ⊥) → Retries (machine policy plan) n p (manner_of w) number value child signal ends more poked old t new → ServedBy (machine policy plan) (manner_of w) n p number value child signal ends more poked old t new
  by_retry way.Did n p number value child signal ends more poked old t new call s = inr s
  by_retry way.Broke n p number value child signal ends more poked old t new call s = inr s
  by_retry way.Fell n p number value child signal ends more poked old t new call s = absurd (call (s.number_is ∙ ap (λ (x : ℕ). Some x) s.acts.0))
  by_retry way.Paused n p number value child signal ends more poked old t new call s = absurd s.acts

  count_low : (served events room : ℕ) → served ≤ events → events < room → room ≤ 1048576 → served < 2 ^ 64 - 1
  count_low served events room a b c = omega (arith, a, b, c)

  few_events : (old : Node) → Suits plan old → old.journal.room ≤ 1048576
  few_events old s = let e = s.room in let m = s.shape.most_events in omega (arith, e, m)

  abbrev lasts : calls.First → ℕ → Request → calls.Last
  lasts first p r = calls.last_of first.kernel p r.room

  abbrev pub served_home : Node → ℕ → ℕ → Request → calls.First → HomeState
  served_home old from p r first = record { kernel = (lasts first p r).kernel; rows = changed_pid counted (with_born (is_fork first.answer) from old.deputies.rows) p }

  abbrev pub served_acted : Node → ℕ → ℕ → Request → calls.First → Acted
  served_acted old from p r first = calls.served_acted (calls.call_asks from p r) first (lasts first p r) old.deputies.rows (calls.pokes_of (lasts first p r).kernel old.deputies.rows p first.raised (lasts first p r).raised)

  abbrev served_child : calls.First → Request → Option ℕ
  served_child first r = born_of (manner_of first.way) (Some r.number) (calls.value_in first.answer)

  abbrev served_pokes : Node → ℕ → Request → calls.First → List ℕ
  served_pokes old p r first = does.pokes_of (machine policy plan) p (lasts first p r).kernel (slot_of policy plan old) first.raised (lasts first p r).raised

  -- the event of a served call, as the laws read it
  abbrev served_deed : Node → ℕ → Request → calls.First → Deed
  served_deed old p r first = Served p (manner_of first.way) (Some r.number) (calls.value_in first.answer) (served_child first r) (deliverable first.kernel p) (end_at (lasts first p r).kernel p) (is_some (deliverable (lasts first p r).kernel p)) (served_pokes old p r first)

  deed_is : (old : Node) (from p : ℕ) (r : Request) (first : calls.First) → deed_of plan.script (served_acted old from p r first).what ≡ served_deed old p r first
  deed_is old from p r first = served_is p (manner_of first.way) (Some r.number) (calls.value_in first.answer) (deliverable first.kernel p) (end_at (lasts first p r).kernel p) (is_some (deliverable (lasts first p r).kernel p)) _ _ (served_pokes old p r first) (pokes_same policy plan old (lasts first p r).kernel p first.raised (lasts first p r).raised)

  abbrev served_turn : Node → ℕ → Option (Post (machine policy plan)) → ℕ → ℕ → Request → calls.First → Deed → Turn (machine policy plan)
  served_turn old stamp taken from p r first deed = turn_at policy plan old.id stamp deed taken (served_acted old from p r first).mail

  -- what is common to a call that came and one that was held
  pub record Serving (old : Node) (stamp from p : ℕ) (r : Request) (first : calls.First) : Type 0 where
    pub suits : Suits plan old
    pub at : old.id ≡ 0
    pub early : stamp ≤ stamp_end + (length old.journal.events + 1)
    pub space : length old.journal.events < old.journal.room
    pub each : length old.deputies.rows ≡ given old.deputies.kernel
    pub row : Row
    pub here : at_pid old.deputies.rows p ≡ Some row
    pub high : p ≤ length old.deputies.rows
    pub comes : Comes policy plan old.deputies.kernel p r first

  count_room : (old : Node) (stamp from p : ℕ) (r : Request) (first : calls.First) (s : Serving old stamp from p r first) → s.row.served < 2 ^ 64 - 1
  count_room old stamp from p r first s =
      let e : served_at old.deputies.rows p ≡ s.row.served = ap served_of s.here in
      let k = s.suits.within.served p in
      let m : s.row.served ≤ length old.journal.events = omega (arith, e, k) in
      count_low s.row.served (length old.journal.events) old.journal.room m s.space (few_events old s.suits)

  served_more : (old : Node) (stamp from p : ℕ) (r : Request) (first : calls.First) (s : Serving old stamp from p r first) (q : ℕ)
      → served_at (served_home old from p r first).rows q ≡ cond (q == p) (served_at old.deputies.rows q + 1) (served_at old.deputies.rows q)
  served_more old stamp from p r first s = served_count (is_fork first.answer) from old.deputies.rows p s.row s.here s.high (count_room old stamp from p r first s)

  at_most : (b : Bool) (a n : ℕ) → a ≤ n → cond b (a + 1) a ≤ n + 1
  at_most true a n h = omega (arith, h)
  at_most false a n h = omega (arith, h)

  suits_served : (old : Node) (stamp from p : ℕ) (r : Request) (first : calls.First) (s : Serving old stamp from p r first) → SuitsAt plan (length old.journal.events + 1) (at_clock stamp (home_in old (served_home old from p r first)))
  suits_served old stamp from p r first s = suits_home old (served_home old from p r first) stamp s.early
      (λ q. subst (λ (n : ℕ). n ≤ length old.journal.events + 1) (sym (served_more old stamp from p r first s q)) (at_most (q == p) (served_at old.deputies.rows q) (length old.journal.events) (s.suits.within.served q))) s.suits

  served_progress : (old : Node) (stamp from p : ℕ) (r : Request) (first : calls.First) (s : Serving old stamp from p r first)
      → SameProgress (local policy plan (at_clock stamp (home_in old (served_home old from p r first)))).progress (served_one p (local policy plan old).progress)
  served_progress old stamp from p r first s = record { line = refl; done = refl; launched = refl; served = served_more old stamp from p r first s }

  served_places : (old : Node) (stamp from p : ℕ) (r : Request) (first : calls.First) (s : Serving old stamp from p r first) (q : ℕ)
      → (local policy plan (at_clock stamp (home_in old (served_home old from p r first)))).believed q ≡ Rattle.protocol.specs.Home.born_at (machine policy plan) from (served_child first r) (local policy plan old).believed q
  served_places old stamp from p r first s =
      let birth : Birth (is_fork first.answer) (served_child first r) (length old.deputies.rows) =
      subst (λ (n : ℕ). Birth (is_fork first.answer) (served_child first r) n) (sym s.each) (subst (λ (o : Option ℕ). Birth (is_fork first.answer) o (given old.deputies.kernel)) (sym s.comes.born) s.comes.birth) in
      served_believed (is_fork first.answer) from old.deputies.rows p s.row s.here s.high (served_child first r) birth

  served_tells : (old : Node) (p : ℕ) (r : Request) (first : calls.First) → served_pokes old p r first ≡ does.pokes_of (machine policy plan) p (lasts first p r).kernel (slot_of policy plan old) first.raised (last (machine policy plan) first.kernel p r.room).raised
  served_tells old p r first = ap (λ (o : Option ℕ). does.pokes_of (machine policy plan) p (lasts first p r).kernel (slot_of policy plan old) first.raised o) (ap (λ (x : Rattle.protocol.specs.Home.Last (machine policy plan)). x.raised) (sym (last_is policy plan first.kernel p r.room)))

  held_slots : (old : Node) (stamp from p : ℕ) (r : Request) (first : calls.First) (s : Serving old stamp from p r first) (q : ℕ)
      → held_of (at_pid (served_home old from p r first).rows q) ≡ cond (q == p) None (held_of (at_pid old.deputies.rows q))
  held_slots old stamp from p r first s = served_held (is_fork first.answer) from old.deputies.rows p s.row s.here s.high

  -- ---- a call that came

  abbrev call_post : Node → ℕ → ℕ → ℕ → Request → Post (machine policy plan)
  call_post old from sent p r = letter (machine policy plan) from old.id sent (Call p r)

  -- a slot by what is held of its pid
  pub slot_by : (old : Node) (d : HomeState) (q : ℕ) (x : Option HeldCall) → held_of (at_pid d.rows q) ≡ x → slot_of policy plan (home_in old d) q ≡ record (slot_of policy plan old q) { call = option_map (called_of policy plan) x }
  slot_by old d q x e = ap (λ (o : Option HeldCall). record (slot_of policy plan old q) { call = option_map (called_of policy plan) o }) e

  unheld_slots : (old : Node) (stamp from p : ℕ) (r : Request) (first : calls.First) (s : Serving old stamp from p r first) → held_at old.deputies.rows p ≡ None → (q : ℕ)
      → slot_of policy plan (home_in old (served_home old from p r first)) q ≡ cond (q == p) (slot_of policy plan old q) (slot_of policy plan old q)
  unheld_slots old stamp from p r first s free q =
      slot_by old (served_home old from p r first) q _ (held_slots old stamp from p r first s q)
      ∙ by_same (λ k. record (slot_of policy plan old q) { call = option_map (called_of policy plan) (cond k None (held_of (at_pid old.deputies.rows q))) } ≡ cond k (slot_of policy plan old q) (slot_of policy plan old q)) q p
      (λ e. let here : None ≡ held_of (at_pid old.deputies.rows q) = sym (ap (held_at old.deputies.rows) e ∙ free) in ap (λ (o : Option HeldCall). record (slot_of policy plan old q) { call = option_map (called_of policy plan) o }) here)
      (λ ne. refl)

  freed_slots : (old : Node) (stamp from p : ℕ) (r : Request) (first : calls.First) (s : Serving old stamp from p r first) → (q : ℕ)
      → slot_of policy plan (home_in old (served_home old from p r first)) q ≡ cond (q == p) (does.holds (machine policy plan) None (slot_of policy plan old q)) (slot_of policy plan old q)
  freed_slots old stamp from p r first s q =
      slot_by old (served_home old from p r first) q _ (held_slots old stamp from p r first s q) ∙ go (q == p)
    where
      go : (k : Bool) → record (slot_of policy plan old q) { call = option_map (called_of policy plan) (cond k None (held_of (at_pid old.deputies.rows q))) } ≡ cond k (does.holds (machine policy plan) None (slot_of policy plan old q)) (slot_of policy plan old q)
      go true = refl
      go false = refl

  pub called_acts : (old : Node) (stamp from sent p : ℕ) (r : Request) (first : calls.First) → Serving old stamp from p r first → held_at old.deputies.rows p ≡ None
      → Acts policy plan stamp (Some (call_post old from sent p r)) (served_acted old from p r first) old (home_in old (served_home old from p r first))
  called_acts old stamp from sent p r first s free =
      let new : Node = home_in old (served_home old from p r first) in
      let deed = deed_is old from p r first in
      let turn : Turn (machine policy plan) = served_turn old stamp (Some (call_post old from sent p r)) from p r first (served_deed old p r first) in
      record {
        usual = subst (λ (d : Deed). IsUsual d) (sym deed) tt;
        does = subst (λ (d : Deed). Does (machine policy plan) d old.id (local policy plan old) (served_turn old stamp (Some (call_post old from sent p r)) from p r first d) (local policy plan (at_clock stamp new))) (sym deed)
            (by_letter first.way old.id p (Some r.number) (calls.value_in first.answer) (served_child first r) (deliverable first.kernel p) (end_at (lasts first p r).kernel p) (is_some (deliverable (lasts first p r).kernel p)) (served_pokes old p r first) (local policy plan old) turn (local policy plan (at_clock stamp new))
            (record {
              home = s.at;
              from = from;
              stamp = sent;
              request = r;
              first = first_in policy plan first;
              acts = s.comes.acts;
              answers = answers_same policy plan (calls.call_asks from p r) first old.deputies.kernel s.comes.born;
              number_is = refl;
              tells = served_tells old p r first;
              base = record { took = refl; posts = mail_same policy plan old stamp (calls.call_asks from p r) first s.at; slots = unheld_slots old stamp from p r first s free };
              gossip = refl;
              believed = served_places old stamp from p r first s;
              progress = served_progress old stamp from p r first s;
            }));
        same = refl;
        suits = suits_served old stamp from p r first s;
      }

  -- a call that was held goes on
  pub retried_acts : (old : Node) (stamp from p : ℕ) (r : Request) (first : calls.First) → Serving old stamp from p r first → held_at old.deputies.rows p ≡ Some (record { from = from; request = r }) → (r.number == 0) ≡ false
      → Acts policy plan stamp None (served_acted old from p r first) old (home_in old (served_home old from p r first))
  retried_acts old stamp from p r first s held call =
      let new : Node = home_in old (served_home old from p r first) in
      let deed = deed_is old from p r first in
      let turn : Turn (machine policy plan) = served_turn old stamp None from p r first (served_deed old p r first) in
      record {
        usual = subst (λ (d : Deed). IsUsual d) (sym deed) tt;
        does = subst (λ (d : Deed). Does (machine policy plan) d old.id (local policy plan old) (served_turn old stamp None from p r first d) (local policy plan (at_clock stamp new))) (sym deed)
            (by_retry first.way old.id p (Some r.number) (calls.value_in first.answer) (served_child first r) (deliverable first.kernel p) (end_at (lasts first p r).kernel p) (is_some (deliverable (lasts first p r).kernel p)) (served_pokes old p r first) (local policy plan old) turn (local policy plan (at_clock stamp new)) (no_fault r call)
            (record {
              home = s.at;
              from = from;
              request = r;
              was = ap (option_map (called_of policy plan)) held;
              first = first_in policy plan first;
              acts = s.comes.acts;
              answers = answers_same policy plan (calls.call_asks from p r) first old.deputies.kernel s.comes.born;
              number_is = refl;
              tells = served_tells old p r first;
              base = record { took = refl; posts = mail_same policy plan old stamp (calls.call_asks from p r) first s.at; slots = freed_slots old stamp from p r first s };
              gossip = refl;
              believed = served_places old stamp from p r first s;
              progress = served_progress old stamp from p r first s;
            }));
        same = refl;
        suits = suits_served old stamp from p r first s;
      }

-- ---- which calls fit

abbrev pub turned_as : HomeState → Acted → calls.Turned
turned_as home acted = record { home = home; acted = acted }

live_place : (tree : List Process) (i : ℕ) → option_map_or Rattle.proc_tree.specs.Processes.is_live (slice_get tree i) false ≡ true → i < length tree
live_place [] i e = absurd cc
live_place (x ∷ tree) zero e = omega arith
live_place (x ∷ tree) (suc i) e = let k = live_place tree i e in omega (arith, k)

-- a process that lives has a pid that was given
pub live_given : (k : KernelState) (p : ℕ) → is_live k p ≡ true → (1 ≤ p) × (p ≤ given k)
live_given k zero e = absurd cc
live_given k (suc i) e = let l = live_place k.processes.tree i e in (omega arith, omega (arith, l))

pub above_zero : (p : ℕ) → 1 ≤ p → (p == 0) ≡ false
above_zero p h = other_numbers p 0 (λ e. omega (arith, e, h))

-- a test that fails, and one that holds
and_fails : (a b : Bool) → (a && b) ≡ false → (a ≡ false) ⊎ (b ≡ false)
and_fails true b e = inr e
and_fails false b e = inl refl

and_first : (a b : Bool) → (a && b) ≡ true → a ≡ true
and_first true b e = refl
and_first false b e = absurd cc

and_second : (a b : Bool) → (a && b) ≡ true → b ≡ true
and_second true b e = e
and_second false b e = absurd cc

is_some_held : (o : Option HeldCall) → is_none o ≡ false → o ≢ None
is_some_held None e = absurd cc
is_some_held (Some c) e = λ n. cc

module _ (policy : Policy) (plan : Plan) where
  called_some : (o : Option HeldCall) → o ≢ None → option_map (called_of policy plan) o ≢ None
  called_some None ne e = ne refl
  called_some (Some c) ne e = cc

  -- what a turn of home left is what stands now
  pub acts_on : (old mid : Node) (stamp : ℕ) (taken : Option (Post (machine policy plan))) (d : HomeState) (a acted : Acted) → turned_as d a ≡ turned_as mid.deputies acted → mid ≡ record old { deputies = mid.deputies }
      → Acts policy plan stamp taken a old (record old { deputies = d }) → Acts policy plan stamp taken acted old mid
  acts_on old mid stamp taken d a acted is rest x =
      let home : d ≡ mid.deputies = ap (λ (t : calls.Turned). t.home) is in
      let made : a ≡ acted = ap (λ (t : calls.Turned). t.acted) is in
      subst (λ (m : Node). Acts policy plan stamp taken acted old m) (sym rest)
      (subst (λ (w : Acted). Acts policy plan stamp taken w old (record old { deputies = mid.deputies })) made
      (subst (λ (h : HomeState). Acts policy plan stamp taken a old (record old { deputies = h })) home x))

  pub strange_on : (old mid : Node) (stamp from sent : ℕ) (m : Message) (acted : Acted) → calls.strange old.deputies ≡ turned_as mid.deputies acted → mid ≡ record old { deputies = mid.deputies }
      → Unfit (machine policy plan) old.id from (local policy plan old) (note_of policy plan m) → Hears policy plan stamp old.id from sent m acted old mid
  strange_on old mid stamp from sent m acted is rest unfit =
      let home : mid.deputies ≡ old.deputies = sym (ap (λ (t : calls.Turned). t.home) is) in
      Misfits (sym (ap (λ (t : calls.Turned). t.acted.what) is)) unfit (rest ∙ ap (λ (h : HomeState). record old { deputies = h }) home)

  call_unfit : (old : Node) (from p : ℕ) (r : Request) → calls.fits_call old.deputies p r ≡ false → Unfit (machine policy plan) old.id from (local policy plan old) (note_of policy plan (message.Call p r))
  call_unfit old from p r e = inl (inr (go (and_fails (is_live old.deputies.kernel p && is_none (held_at old.deputies.rows p)) (user_fits.fits_request r) e)))
    where
      ask : (is_live old.deputies.kernel p ≡ false) ⊎ (is_none (held_at old.deputies.rows p) ≡ false) → (is_live old.deputies.kernel p ≡ false) ⊎ (((slot_of policy plan old p).call ≢ None) ⊎ (user_fits.fits_request r ≡ false))
      ask (inl dead) = inl dead
      ask (inr held) = inr (inl (called_some (held_at old.deputies.rows p) (is_some_held (held_at old.deputies.rows p) held)))

      go : ((is_live old.deputies.kernel p && is_none (held_at old.deputies.rows p)) ≡ false) ⊎ (user_fits.fits_request r ≡ false) → (is_live old.deputies.kernel p ≡ false) ⊎ (((slot_of policy plan old p).call ≢ None) ⊎ (user_fits.fits_request r ≡ false))
      go (inl f) = ask (and_fails (is_live old.deputies.kernel p) (is_none (held_at old.deputies.rows p)) f)
      go (inr f) = inr (inr f)

  -- a call that fits
  pub record CallFits (old : Node) (p : ℕ) (r : Request) : Type 0 where
    pub live : is_live old.deputies.kernel p ≡ true
    pub free : held_at old.deputies.rows p ≡ None
    pub request : user_fits.fits_request r ≡ true

  call_fits : (old : Node) (p : ℕ) (r : Request) → calls.fits_call old.deputies p r ≡ true → CallFits old p r
  call_fits old p r e =
      let ask = and_first (is_live old.deputies.kernel p && is_none (held_at old.deputies.rows p)) (user_fits.fits_request r) e in
      record {
        live = and_first (is_live old.deputies.kernel p) (is_none (held_at old.deputies.rows p)) ask;
        free = is_none_same (held_at old.deputies.rows p) (and_second (is_live old.deputies.kernel p) (is_none (held_at old.deputies.rows p)) ask);
        request = and_second (is_live old.deputies.kernel p && is_none (held_at old.deputies.rows p)) (user_fits.fits_request r) e;
      }

  call_no_misfit : (old : Node) (from p : ℕ) (r : Request) → old.id ≡ 0 → from < plan.nodes → CallFits old p r → Unfit (machine policy plan) old.id from (local policy plan old) (note_of policy plan (message.Call p r)) → ⊥
  call_no_misfit old from p r at near f (inl (inl away)) = away at
  call_no_misfit old from p r at near f (inl (inr (inl dead))) = let z : true ≡ false = sym f.live ∙ dead in absurd cc
  call_no_misfit old from p r at near f (inl (inr (inr (inl held)))) = held (ap (option_map (called_of policy plan)) f.free)
  call_no_misfit old from p r at near f (inl (inr (inr (inr wrong)))) = let z : true ≡ false = sym f.request ∙ wrong in absurd cc
  call_no_misfit old from p r at near f (inr (inl far)) = omega (arith, near, far)
  call_no_misfit old from p r at near f (inr (inr far)) = absurd far

  -- a call that is to wait
  abbrev held_call : ℕ → Request → HeldCall
  held_call from r = record { from = from; request = r }

  pub held_acts : (old : Node) (stamp from sent p : ℕ) (r : Request) (row : Row) → Suits plan old → old.id ≡ 0 → stamp ≤ stamp_end + (length old.journal.events + 1) → at_pid old.deputies.rows p ≡ Some row → Waits policy plan old.deputies.kernel p r
      → Acts policy plan stamp (Some (letter (machine policy plan) from old.id sent (Call p r))) (record { what = what.Held p r.number; mail = [] }) old (record old { deputies = calls.with_held old.deputies p (held_call from r) })
  held_acts old stamp from sent p r row suits at early here w =
      let rows : List Row = old.deputies.rows in
      let change : Row → Row = holding (held_call from r) in
      let served = kept_row served_of change rows p row here refl in
      record {
        usual = tt;
        does = record {
          home = at;
          from = from;
          stamp = sent;
          request = r;
          number_is = refl;
          some = w.some;
          blocks = w.blocks;
          quiet = w.quiet;
          base = record { took = refl; posts = refl; slots = slots };
          still = record { kernel = refl; believed = kept_row believed_of change rows p row here refl; progress = λ i. record { line = old.course.line; done = old.course.done; launched = reverse old.course.launched; served = λ q. (served q) i }; gossip = refl };
        };
        same = refl;
        suits = suits_home policy plan old (calls.with_held old.deputies p (held_call from r)) stamp early (λ q. let k = suits.within.served q in let e = served q in omega (arith, k, e)) suits;
      }
    where
      slots : (q : ℕ) → slot_of policy plan (record old { deputies = calls.with_held old.deputies p (held_call from r) }) q ≡ cond (q == p) (does.holds (machine policy plan) (Some (record { from = from; request = r })) (slot_of policy plan old q)) (slot_of policy plan old q)
      slots q = slot_by policy plan old (calls.with_held old.deputies p (held_call from r)) q _ (new_row_at held_of (holding (held_call from r)) old.deputies.rows p row here q) ∙ go (q == p)
        where
          go : (k : Bool) → record (slot_of policy plan old q) { call = option_map (called_of policy plan) (cond k (Some (held_call from r)) (held_of (at_pid old.deputies.rows q))) } ≡ cond k (does.holds (machine policy plan) (Some (record { from = from; request = r })) (slot_of policy plan old q)) (slot_of policy plan old q)
          go true = refl
          go false = refl

  -- a call comes to home
  pub call_hears : (old mid : Node) (stamp from sent p : ℕ) (r : Request) (acted : Acted) → Suits plan old → old.id ≡ 0 → from < plan.nodes
      → stamp ≤ stamp_end + (length old.journal.events + 1) → length old.journal.events < old.journal.room → length old.deputies.rows ≡ given old.deputies.kernel
      → OnHome (calls.called_in old.deputies from p r) acted old mid → Hears policy plan stamp old.id from sent (message.Call p r) acted old mid
  call_hears old mid stamp from sent p r acted suits at near early space each o = go (calls.fits_call old.deputies p r) refl o.is
    where
      called : (f : Option calls.First) → calls.first_of old.deputies.kernel p r ≡ f → CallFits old p r → calls.call_turn f old.deputies from p r ≡ turned_as mid.deputies acted → Hears policy plan stamp old.id from sent (message.Call p r) acted old mid
      called (Some first) e f is =
          let pid = live_given old.deputies.kernel p f.live in
          let low = above_zero p pid.0 in
          let high : p ≤ length old.deputies.rows = omega (arith, pid.1, each) in
          let row = row_of old.deputies.rows p pid.0 high in
          let s : Serving policy plan old stamp from p r first = record { suits = suits; at = at; early = early; space = space; each = each; row = row.0; here = row.1; high = high; comes = comes policy plan old.deputies.kernel p r low first e } in
          Fits (acts_on old mid stamp _ (served_home policy plan old from p r first) (served_acted policy plan old from p r first) acted is o.rest (called_acts policy plan old stamp from sent p r first s f.free)) (call_no_misfit old from p r at near f)
      called None e f is =
          let pid = live_given old.deputies.kernel p f.live in
          let low = above_zero p pid.0 in
          let high : p ≤ length old.deputies.rows = omega (arith, pid.1, each) in
          let row = row_of old.deputies.rows p pid.0 high in
          Fits (acts_on old mid stamp _ (calls.with_held old.deputies p (held_call from r)) (record { what = what.Held p r.number; mail = [] }) acted is o.rest (held_acts old stamp from sent p r row.0 suits at early row.1 (waits policy plan old.deputies.kernel p r low e))) (call_no_misfit old from p r at near f)

      go : (b : Bool) → calls.fits_call old.deputies p r ≡ b → cond b (calls.call_turn (calls.first_of old.deputies.kernel p r) old.deputies from p r) (calls.strange old.deputies) ≡ turned_as mid.deputies acted → Hears policy plan stamp old.id from sent (message.Call p r) acted old mid
      go true e is = called (calls.first_of old.deputies.kernel p r) refl (call_fits old p r e) is
      go false e is = strange_on old mid stamp from sent (message.Call p r) acted is o.rest (call_unfit old from p r e)

  -- ---- a pause

  abbrev pause_last : Node → ℕ → Bool → calls.Last
  pause_last old p room = calls.last_of old.deputies.kernel p room

  abbrev paused_home : Node → ℕ → Bool → HomeState
  paused_home old p room = record { kernel = (pause_last old p room).kernel; rows = old.deputies.rows }

  abbrev pause_acted : Node → ℕ → ℕ → Bool → Acted
  pause_acted old from p room = calls.served_acted (calls.pause_asks from p room) (calls.paused old.deputies.kernel) (pause_last old p room) old.deputies.rows (calls.pokes_of (pause_last old p room).kernel old.deputies.rows p None (pause_last old p room).raised)

  abbrev pause_pokes : Node → ℕ → Bool → List ℕ
  pause_pokes old p room = does.pokes_of (machine policy plan) p (pause_last old p room).kernel (slot_of policy plan old) None (pause_last old p room).raised

  abbrev pause_deed : Node → ℕ → Bool → Deed
  pause_deed old p room = Served p Paused None None None (deliverable old.deputies.kernel p) (end_at (pause_last old p room).kernel p) (is_some (deliverable (pause_last old p room).kernel p)) (pause_pokes old p room)

  pause_is : (old : Node) (from p : ℕ) (room : Bool) → deed_of plan.script (pause_acted old from p room).what ≡ pause_deed old p room
  pause_is old from p room = served_is p Paused None None (deliverable old.deputies.kernel p) (end_at (pause_last old p room).kernel p) (is_some (deliverable (pause_last old p room).kernel p)) _ _ (pause_pokes old p room) (pokes_same policy plan old (pause_last old p room).kernel p None (pause_last old p room).raised)

  pub paused_acts : (old : Node) (stamp from sent p : ℕ) (room : Bool) → Suits plan old → old.id ≡ 0 → stamp ≤ stamp_end + (length old.journal.events + 1)
      → Acts policy plan stamp (Some (letter (machine policy plan) from old.id sent (Pause p room))) (pause_acted old from p room) old (record old { deputies = paused_home old p room })
  paused_acts old stamp from sent p room suits at early =
      let new : Node = record old { deputies = paused_home old p room } in
      let taken : Option (Post (machine policy plan)) = Some (letter (machine policy plan) from old.id sent (Pause p room)) in
      let deed = pause_is old from p room in
      record {
        usual = subst (λ (d : Deed). IsUsual d) (sym deed) tt;
        does = subst (λ (d : Deed). Does (machine policy plan) d old.id (local policy plan old) (turn_at policy plan old.id stamp d taken (pause_acted old from p room).mail) (local policy plan (at_clock stamp new))) (sym deed) (record {
          home = at;
          from = from;
          stamp = sent;
          room = room;
          answers = answers_same policy plan (calls.pause_asks from p room) (calls.paused old.deputies.kernel) old.deputies.kernel refl;
          number_is = refl;
          tells = ap (λ (o : Option ℕ). does.pokes_of (machine policy plan) p (pause_last old p room).kernel (slot_of policy plan old) None o) (ap (λ (x : Last (machine policy plan)). x.raised) (sym (last_is policy plan old.deputies.kernel p room)));
          base = record { took = refl; posts = mail_same policy plan old stamp (calls.pause_asks from p room) (calls.paused old.deputies.kernel) at; slots = λ q. cond_same (q == p) (slot_of policy plan old q) };
          gossip = refl;
          believed = λ q. refl;
          progress = refl;
        });
        same = refl;
        suits = suits_home policy plan old (paused_home old p room) stamp early (λ q. let k = suits.within.served q in omega (arith, k)) suits;
      }

  pause_unfit : (old : Node) (from p : ℕ) (room : Bool) → calls.may_ask old.deputies p ≡ false → Unfit (machine policy plan) old.id from (local policy plan old) (note_of policy plan (message.Pause p room))
  pause_unfit old from p room e = inl (inr (go (and_fails (is_live old.deputies.kernel p) (is_none (held_at old.deputies.rows p)) e)))
    where
      go : (is_live old.deputies.kernel p ≡ false) ⊎ (is_none (held_at old.deputies.rows p) ≡ false) → (is_live old.deputies.kernel p ≡ false) ⊎ ((slot_of policy plan old p).call ≢ None)
      go (inl dead) = inl dead
      go (inr held) = inr (called_some (held_at old.deputies.rows p) (is_some_held (held_at old.deputies.rows p) held))

  pause_no_misfit : (old : Node) (from p : ℕ) (room : Bool) → old.id ≡ 0 → from < plan.nodes → calls.may_ask old.deputies p ≡ true → Unfit (machine policy plan) old.id from (local policy plan old) (note_of policy plan (message.Pause p room)) → ⊥
  pause_no_misfit old from p room at near f (inl (inl away)) = away at
  pause_no_misfit old from p room at near f (inl (inr (inl dead))) = let z : true ≡ false = sym (and_first (is_live old.deputies.kernel p) (is_none (held_at old.deputies.rows p)) f) ∙ dead in absurd cc
  pause_no_misfit old from p room at near f (inl (inr (inr held))) = held (ap (option_map (called_of policy plan)) (is_none_same (held_at old.deputies.rows p) (and_second (is_live old.deputies.kernel p) (is_none (held_at old.deputies.rows p)) f)))
  pause_no_misfit old from p room at near f (inr (inl far)) = omega (arith, near, far)
  pause_no_misfit old from p room at near f (inr (inr far)) = absurd far

  -- a pause comes to home
  pub pause_hears : (old mid : Node) (stamp from sent p : ℕ) (room : Bool) (acted : Acted) → Suits plan old → old.id ≡ 0 → from < plan.nodes
      → stamp ≤ stamp_end + (length old.journal.events + 1)
      → OnHome (calls.paused_in old.deputies from p room) acted old mid → Hears policy plan stamp old.id from sent (message.Pause p room) acted old mid
  pause_hears old mid stamp from sent p room acted suits at near early o = go (calls.may_ask old.deputies p) refl o.is
    where
      go : (b : Bool) → calls.may_ask old.deputies p ≡ b → cond b (calls.answered (calls.pause_asks from p room) (calls.paused old.deputies.kernel) old.deputies.rows) (calls.strange old.deputies) ≡ turned_as mid.deputies acted → Hears policy plan stamp old.id from sent (message.Pause p room) acted old mid
      go true e is = Fits (acts_on old mid stamp _ (paused_home old p room) (pause_acted old from p room) acted is o.rest (paused_acts old stamp from sent p room suits at early)) (pause_no_misfit old from p room at near e)
      go false e is = strange_on old mid stamp from sent (message.Pause p room) acted is o.rest (pause_unfit old from p room e)
