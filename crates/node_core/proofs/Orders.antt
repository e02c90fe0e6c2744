-- What home does with the lines that launch nothing is a turn by the laws.
use Rattle.std.proofs.Common.{◌≡◌, ◌⊎◌, inl, inr, ℕ, zero, suc, ◌+◌, ◌<◌, ◌≤◌, ◌==◌, ◌&&◌, cond, Bool, true, false, Option, Some, None, List, [], ◌∷◌, map, length, take, refl, sym, ap, ◌∙◌, subst, arith}
use Rattle.std.specs.Prelude.{is_some, is_none, reverse, nat_le}
use Rattle.std.proofs.lemmas.Bool.Decides.{nat_tests}
use Rattle.call_forward.specs.declared.acted.Acted.{Acted}
use Rattle.node_event.specs.declared.event.What.TheVariants as what
use Rattle.node_event.specs.declared.event.Unsent as unsent_type
use Rattle.node_event.specs.declared.event.Unsent.TheVariants as unsent
use Rattle.node_event.specs.declared.script.Order.{Order}
use Rattle.node_event.specs.declared.script.Order.TheVariants as order
use Rattle.node_event.specs.declared.script.ScriptLine.{ScriptLine}
use Rattle.kernel_spec.specs.Kernel.{KernelState, given, is_live, deliverable, with_raised, fed}
use Rattle.deputy.specs.declared.row.Row.{Row}
use Rattle.deputy.specs.Rows.{HomeState, held_at, served_at, place_at}
use Rattle.deputy.specs.Calls.{poke_mail}
use Rattle.deputy.specs.Moves as moves
use Rattle.protocol.specs.Deeds.{Deed, deed_of, command_deed, one_run, Kill, Bid, Unsent, Other, Input, Text, Finish, Nothing, kill_deed, move_deed as move_deed_of, runs_before, feeds_before}
use Rattle.protocol.specs.Notes.{Local, Post, letter, Poke, Go, SameProgress}
use Rattle.protocol.specs.Notes as notes
use Rattle.protocol.specs.Home.{both, to_poke, pokes, unheld, UnsentFor}
use Rattle.protocol.specs.Ops.{typed, has_text as has_text_for}
use Rattle.kernel_spec.specs.Pids.{at_pid}
use Rattle.protocol.specs.Does.{Does, Ordered, EnabledHere, Feeds}
use Rattle.protocol.specs.Odd.{stamp_end}
use Rattle.run_laws.specs.Carried.{IsUsual}
use Rattle.node_machine.specs.Plan.{Plan, run_count, texts, text_at}
use Rattle.node_machine.specs.Machine.{Policy, machine, is_hit}
use Rattle.node_machine.proofs.Scripts.{has_text}
use Rattle.node_core.specs.declared.node.Node.{Node}
use Rattle.node_core.specs.Letters.{posted_by}
use Rattle.node_core.specs.Locals.{local, slot_of, believed_of, post_of}
use Rattle.node_core.specs.Kinds.{Passes, FeedsText, EndsInput, advanced, passed}
use Rattle.node_core.proofs.Settling.{Acts, at_clock, turn_at}
use Rattle.node_core.proofs.Signals.{is_some_same}
use Rattle.node_core.proofs.Slots.{cond_same}
use Rattle.node_core.proofs.Serving.{unheld_same}
use Rattle.node_core.proofs.Courses.{run_step, text_taken}
use Rattle.node_core.proofs.Launching.{AtLine, in_plan, command_is, past_line, suits_line}

module _ (policy : Policy) (plan : Plan) where
  abbrev lined : Node → HomeState → ℕ → Node
  lined old d line = record old { deputies = d; course = advanced line old.course }

  -- the next line, carried out without a launch
  ordered_by : (old : Node) (stamp : ℕ) (s : ScriptLine) (d : HomeState) → AtLine policy plan old s → EnabledHere (machine policy plan) s.order (local policy plan old) → d.rows ≡ old.deputies.rows
      → Ordered (machine policy plan) s.line s.order (reverse old.course.launched) (local policy plan old) (local policy plan (at_clock stamp (lined old d s.line)))
  ordered_by old stamp s d a enabled rows = record {
    next = in_plan policy plan old s a;
    enabled = enabled;
    rises = (a.suits.course a.home).next s (in_plan policy plan old s a);
    is = record { line = refl; done = refl; launched = refl; served = λ q. ap (λ rs. served_at rs q) rows };
  }

  slots_same : (old : Node) (d : HomeState) (line : ℕ) → d.rows ≡ old.deputies.rows → (q : ℕ) → slot_of policy plan (lined old d line) q ≡ slot_of policy plan old q
  slots_same old d line rows q = ap (λ (rs : List Row). slot_of policy plan (record old { deputies = record old.deputies { rows = rs } }) q) rows

  slots_kept : (old : Node) (d : HomeState) (line p : ℕ) → d.rows ≡ old.deputies.rows → (q : ℕ) → slot_of policy plan (lined old d line) q ≡ cond (q == p) (slot_of policy plan old q) (slot_of policy plan old q)
  slots_kept old d line p rows q = slots_same old d line rows q ∙ cond_same (q == p) (slot_of policy plan old q)

  line_made : (old mid : Node) (stamp : ℕ) (s : ScriptLine) (d : HomeState) (a acted : Acted) (deed : Deed) → AtLine policy plan old s → one_run s.order ≡ 0 → stamp ≤ stamp_end + (length old.journal.events + 1) → d.rows ≡ old.deputies.rows
      → deed_of plan.script a.what ≡ deed → IsUsual deed → Does (machine policy plan) deed old.id (local policy plan old) (turn_at policy plan old.id stamp deed None a.mail) (local policy plan (at_clock stamp (lined old d s.line)))
      → Passes s.line (record { home = d; acted = a }) acted old mid → Acts policy plan stamp None acted old mid
  line_made old mid stamp s d a acted deed at none early rows is usual does p =
      let home : d ≡ mid.deputies = ap (λ (t : Rattle.deputy.specs.Calls.Turned). t.home) p.is in
      let made : a ≡ acted = ap (λ (t : Rattle.deputy.specs.Calls.Turned). t.acted) p.is in
      let step = run_step plan.script old.course.done s (in_plan policy plan old s at) in
      let still : run_count (take (old.course.done + 1) plan.script) ≡ run_count (take old.course.done plan.script) = omega (arith, step, none) in
      subst (λ (x : Acted). Acts policy plan stamp None x old mid) made
      (subst (λ (m : Node). Acts policy plan stamp None a old m) (sym p.rest)
      (subst (λ (h : HomeState). Acts policy plan stamp None a old (lined old h s.line)) home (record {
        usual = subst (λ (x : Deed). IsUsual x) (sym is) usual;
        does = subst (λ (x : Deed). Does (machine policy plan) x old.id (local policy plan old) (turn_at policy plan old.id stamp x None a.mail) (local policy plan (at_clock stamp (lined old d s.line)))) (sym is) does;
        same = refl;
        suits = suits_line policy plan old stamp d old.hosted (advanced s.line old.course) at.suits early (λ q. let k = at.suits.within.served q in let e : served_at d.rows q ≡ served_at old.deputies.rows q = ap (λ rs. served_at rs q) rows in omega (arith, k, e)) (past_line policy plan old s at still);
      })))

  -- ---- a raised signal

  kill_same : (old : Node) (p s : ℕ) → moves.kill_poke old.deputies.kernel old.deputies.rows p s ≡ to_poke (machine policy plan) (with_raised old.deputies.kernel p s) (slot_of policy plan old) (cond (is_hit old.deputies.kernel p s) (Some p) None)
  kill_same old p s = go (is_hit old.deputies.kernel p s)
    where
      test : (is_some (deliverable (with_raised old.deputies.kernel p s) p) && is_none (held_at old.deputies.rows p)) ≡ (notes.is_some (deliverable (with_raised old.deputies.kernel p s) p) && unheld (machine policy plan) (slot_of policy plan old p).call)
      test = ap (λ b. is_some (deliverable (with_raised old.deputies.kernel p s) p) && b) (unheld_same policy plan (held_at old.deputies.rows p)) ∙ ap (λ b. b && unheld (machine policy plan) (slot_of policy plan old p).call) (sym (is_some_same (deliverable (with_raised old.deputies.kernel p s) p)))

      go : (hit : Bool) → cond ((hit && is_some (deliverable (with_raised old.deputies.kernel p s) p)) && is_none (held_at old.deputies.rows p)) (Some p) None ≡ to_poke (machine policy plan) (with_raised old.deputies.kernel p s) (slot_of policy plan old) (cond hit (Some p) None)
      go true = ap (λ b. cond b (Some p) None) test
      go false = refl

  kill_deed_is : (line p s : ℕ) (o : Option ℕ) → kill_deed line p s None None o ≡ Kill line p s (both o None)
  kill_deed_is line p s None = refl
  kill_deed_is line p s (Some q) = refl

  kill_mail : (old : Node) (stamp : ℕ) (o : Option ℕ) → old.id ≡ 0 → map (post_of policy plan) (map (posted_by old.id stamp) (poke_mail old.deputies.rows o)) ≡ pokes (machine policy plan) stamp (local policy plan old).believed (both o None)
  kill_mail old stamp None at = refl
  kill_mail old stamp (Some q) at = ap (λ n. letter (machine policy plan) n (place_at old.deputies.rows q) stamp (Poke q) ∷ []) at

  pub kill_acts : (old mid : Node) (stamp : ℕ) (s : ScriptLine) (p signal : ℕ) (acted : Acted) → AtLine policy plan old s → s.order ≡ order.Kill p signal → stamp ≤ stamp_end + (length old.journal.events + 1)
      → Passes s.line (moves.killed_in old.deputies p signal s.line) acted old mid → Acts policy plan stamp None acted old mid
  kill_acts old mid stamp s p signal acted at is early passes =
      let o = moves.kill_poke old.deputies.kernel old.deputies.rows p signal in
      let d : HomeState = record old.deputies { kernel = with_raised old.deputies.kernel p signal } in
      let a : Acted = record { what = what.Command s.line None None o; mail = poke_mail old.deputies.rows o } in
      let deed : deed_of plan.script a.what ≡ Kill s.line p signal (both o None) = command_is policy plan old s at None None o ∙ (ap (λ x. command_deed (Some x) s.line (runs_before s.line plan.script) (feeds_before s.line plan.script) None None o) is ∙ kill_deed_is s.line p signal o) in
      line_made old mid stamp s d a acted (Kill s.line p signal (both o None)) at (ap one_run is) early refl deed tt (record {
        home = at.home;
        signal_is = at.suits.is_plan.signals old.course.done s p signal (in_plan policy plan old s at) is;
        kernel = refl;
        tells = ap (λ x. both x None) (kill_same old p signal);
        base = record { took = refl; posts = kill_mail old stamp o at.home; slots = slots_kept old d s.line p refl };
        gossip = refl;
        believed = λ q. refl;
        order = subst (λ x. Ordered (machine policy plan) s.line x (reverse old.course.launched) (local policy plan old) (local policy plan (at_clock stamp (lined old d s.line)))) is (ordered_by old stamp s d at (subst (λ x. EnabledHere (machine policy plan) x (local policy plan old)) (sym is) tt) refl);
      }) passes

  -- ---- an order to move

  given_is : (k : KernelState) (p : ℕ) → moves.was_given k p ≡ true → (1 ≤ p) × (p ≤ given k)
  given_is k p e = (grind (arith, nat_tests, first (nat_le 1 p) _ e), grind (arith, nat_tests, second (nat_le 1 p) _ e))
    where
      first : (a b : Bool) → (a && b) ≡ true → a ≡ true
      first true b f = refl
      first false b f = absurd cc

      second : (a b : Bool) → (a && b) ≡ true → b ≡ true
      second true b f = f
      second false b f = absurd cc

  never_given : (k : KernelState) (p : ℕ) → moves.was_given k p ≡ false → (p ≡ 0) ⊎ (given k < p)
  never_given k zero e = inl refl
  never_given k (suc i) e = inr (grind (arith, nat_tests, e))

  abbrev bid_acted : Node → ℕ → ℕ → ℕ → Acted
  bid_acted old p to line = record { what = what.Command line None None None; mail = moves.go_mail old.deputies.rows p to line }

  abbrev unsent_acted : ℕ → unsent_type.Unsent → Acted
  unsent_acted line why = record { what = what.Command line None (Some why) None; mail = [] }

  move_order : (old : Node) (stamp : ℕ) (s : ScriptLine) (p to : ℕ) → AtLine policy plan old s → s.order ≡ order.Move p to → Ordered (machine policy plan) s.line (order.Move p to) (reverse old.course.launched) (local policy plan old) (local policy plan (at_clock stamp (lined old old.deputies s.line)))
  move_order old stamp s p to at is = subst (λ x. Ordered (machine policy plan) s.line x (reverse old.course.launched) (local policy plan old) (local policy plan (at_clock stamp (lined old old.deputies s.line)))) is (ordered_by old stamp s old.deputies at (subst (λ x. EnabledHere (machine policy plan) x (local policy plan old)) (sym is) tt) refl)

  move_deed : (old : Node) (s : ScriptLine) (p to : ℕ) (why : Option unsent_type.Unsent) → AtLine policy plan old s → s.order ≡ order.Move p to → deed_of plan.script (what.Command s.line None why None) ≡ move_deed_of s.line p to None why None
  move_deed old s p to why at is = command_is policy plan old s at None why None ∙ ap (λ x. command_deed (Some x) s.line (runs_before s.line plan.script) (feeds_before s.line plan.script) None why None) is

  pub move_acts : (old mid : Node) (stamp : ℕ) (s : ScriptLine) (p to : ℕ) (acted : Acted) → AtLine policy plan old s → s.order ≡ order.Move p to → stamp ≤ stamp_end + (length old.journal.events + 1)
      → Passes s.line (moves.went_in old.deputies p to s.line) acted old mid → Acts policy plan stamp None acted old mid
  move_acts old mid stamp s p to acted at is early passes = go (is_live old.deputies.kernel p) refl passes
    where
      none : one_run s.order ≡ 0
      none = ap one_run is

      unsent_acts : (never : Bool) (why : unsent_type.Unsent) → move_deed_of s.line p to None (Some why) None ≡ Unsent s.line p never → UnsentFor (machine policy plan) never old.deputies.kernel p → Passes s.line (record { home = old.deputies; acted = unsent_acted s.line why }) acted old mid → Acts policy plan stamp None acted old mid
      unsent_acts never why deed cause passes = line_made old mid stamp s old.deputies (unsent_acted s.line why) acted (Unsent s.line p never) at none early refl (move_deed old s p to (Some why) at is ∙ deed) tt (record {
        home = at.home;
        why = cause;
        base = record { took = refl; posts = refl; slots = slots_kept old old.deputies s.line p refl };
        kernel = refl;
        gossip = refl;
        believed = λ q. refl;
        to = to;
        order = move_order old stamp s p to at is;
      }) passes

      dead : (b : Bool) → moves.was_given old.deputies.kernel p ≡ b → is_live old.deputies.kernel p ≡ false → Passes s.line (record { home = old.deputies; acted = cond b (unsent_acted s.line unsent.Ended) (unsent_acted s.line unsent.Never) }) acted old mid → Acts policy plan stamp None acted old mid
      dead true g d passes = unsent_acts false unsent.Ended refl (record { given = given_is old.deputies.kernel p g; dead = d }) passes
      dead false g d passes = unsent_acts true unsent.Never refl (never_given old.deputies.kernel p g) passes

      go : (b : Bool) → is_live old.deputies.kernel p ≡ b → Passes s.line (record { home = old.deputies; acted = cond b (bid_acted old p to s.line) (cond (moves.was_given old.deputies.kernel p) (unsent_acted s.line unsent.Ended) (unsent_acted s.line unsent.Never)) }) acted old mid → Acts policy plan stamp None acted old mid
      go true live passes = line_made old mid stamp s old.deputies (bid_acted old p to s.line) acted (Bid s.line p to) at none early refl (move_deed old s p to None at is) tt (record {
        home = at.home;
        live = live;
        base = record { took = refl; posts = ap (λ n. letter (machine policy plan) n (place_at old.deputies.rows p) stamp (Go p to (Rattle.deputy.specs.Rows.hops_at old.deputies.rows p) s.line) ∷ []) at.home; slots = slots_kept old old.deputies s.line p refl };
        kernel = refl;
        gossip = refl;
        believed = λ q. refl;
        order = move_order old stamp s p to at is;
      }) passes
      go false d passes = dead (moves.was_given old.deputies.kernel p) refl d passes

  -- ---- input, and lines that only wait

  other_acts : (old mid : Node) (stamp : ℕ) (s : ScriptLine) (input : Input) (d : HomeState) (acted : Acted) → AtLine policy plan old s → one_run s.order ≡ 0 → stamp ≤ stamp_end + (length old.journal.events + 1) → d.rows ≡ old.deputies.rows → EnabledHere (machine policy plan) s.order (local policy plan old)
      → command_deed (Some s.order) s.line (runs_before s.line plan.script) (feeds_before s.line plan.script) None None None ≡ Other s.line input → has_text_for (machine policy plan) input ≡ true → d.kernel ≡ typed (machine policy plan) input old.deputies.kernel → Feeds (machine policy plan) input s.order
      → Passes s.line (record { home = d; acted = passed s.line }) acted old mid → Acts policy plan stamp None acted old mid
  other_acts old mid stamp s input d acted at none early rows enabled deed text kernel feeds passes =
      line_made old mid stamp s d (passed s.line) acted (Other s.line input) at none early rows (command_is policy plan old s at None None None ∙ deed) tt (record {
        home = at.home;
        text = text;
        kernel = kernel;
        base = record { took = refl; posts = refl; slots = slots_kept old d s.line 0 rows };
        gossip = refl;
        believed = λ q. ap (λ rs. believed_of (at_pid rs q)) rows;
        what = s.order;
        suits = feeds;
        order = ordered_by old stamp s d at enabled rows;
      }) passes

  -- nothing more is typed
  pub end_acts : (old mid : Node) (stamp : ℕ) (s : ScriptLine) (acted : Acted) → AtLine policy plan old s → s.order ≡ order.Eof → stamp ≤ stamp_end + (length old.journal.events + 1) → EndsInput s.line acted old mid → Acts policy plan stamp None acted old mid
  end_acts old mid stamp s acted at is early passes =
      other_acts old mid stamp s Finish (record old.deputies { kernel = record old.deputies.kernel { input = record old.deputies.kernel.input { ended = true } } }) acted at (ap one_run is) early refl (subst (λ x. EnabledHere (machine policy plan) x (local policy plan old)) (sym is) tt)
      (ap (λ x. command_deed (Some x) s.line (runs_before s.line plan.script) (feeds_before s.line plan.script) None None None) is) refl refl (subst (λ x. Feeds (machine policy plan) Finish x) (sym is) tt) passes

  -- a line that only waits
  pub pass_acts : (old mid : Node) (stamp : ℕ) (s : ScriptLine) (o : Order) (acted : Acted) → AtLine policy plan old s → s.order ≡ o → one_run o ≡ 0 → Feeds (machine policy plan) Nothing o → command_deed (Some o) s.line (runs_before s.line plan.script) (feeds_before s.line plan.script) None None None ≡ Other s.line Nothing
      → EnabledHere (machine policy plan) o (local policy plan old) → stamp ≤ stamp_end + (length old.journal.events + 1) → Passes s.line (record { home = old.deputies; acted = passed s.line }) acted old mid → Acts policy plan stamp None acted old mid
  pass_acts old mid stamp s o acted at is none feeds deed enabled early passes =
      other_acts old mid stamp s Nothing old.deputies acted at (ap one_run is ∙ none) early refl (subst (λ x. EnabledHere (machine policy plan) x (local policy plan old)) (sym is) enabled)
      (ap (λ x. command_deed (Some x) s.line (runs_before s.line plan.script) (feeds_before s.line plan.script) None None None) is ∙ deed) refl refl (subst (λ x. Feeds (machine policy plan) Nothing x) (sym is) feeds) passes

  -- a text is typed
  pub feed_acts : (old mid : Node) (stamp : ℕ) (s : ScriptLine) (text : List ℕ) (acted : Acted) → AtLine policy plan old s → s.order ≡ order.Feed text → stamp ≤ stamp_end + (length old.journal.events + 1) → FeedsText s.line acted old mid → Acts policy plan stamp None acted old mid
  feed_acts old mid stamp s text acted at is early f =
      let found : Some s ≡ Some (record { line = s.line; order = order.Feed f.text }) = sym at.line ∙ f.here in
      let same : s.order ≡ order.Feed f.text = order_in found in
      let index = feeds_before s.line plan.script in
      let text_is : text_at (texts plan.script) index ≡ f.text = text_taken plan.script at.suits.is_plan.rising old.course.done s f.text (in_plan policy plan old s at) same in
      other_acts old mid stamp s (Text index) (record old.deputies { kernel = record old.deputies.kernel { input = fed f.text old.deputies.kernel.input } }) acted at (ap one_run same) early refl (subst (λ x. EnabledHere (machine policy plan) x (local policy plan old)) (sym same) tt)
      (ap (λ x. command_deed (Some x) s.line (runs_before s.line plan.script) index None None None) same)
      (has_text plan.script at.suits.is_plan.rising old.course.done s (in_plan policy plan old s at) f.text same)
      (ap (λ t. record old.deputies.kernel { input = fed t old.deputies.kernel.input }) (sym text_is)) (subst (λ x. Feeds (machine policy plan) (Text index) x) (sym same) tt) f.passes
    where
      order_in : Some s ≡ Some (record { line = s.line; order = order.Feed f.text }) → s.order ≡ order.Feed f.text
      order_in e = ap order_of e
        where
          order_of : Option ScriptLine → Order
          order_of None = s.order
          order_of (Some x) = x.order
