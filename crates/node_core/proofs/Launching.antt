-- What home does with a line of the script is a turn by the laws.
use Rattle.std.proofs.Common.{◌≡◌, ℕ, ◌+◌, ◌<◌, ◌≤◌, ◌==◌, cond, Bool, true, false, Option, Some, None, List, [], ◌∷◌, ◌++◌, length, take, slice_get, refl, sym, ap, ◌∙◌, subst, arith}
use Rattle.std.specs.Prelude.{reverse, nat_lt}
use Rattle.std.specs.Option.{option_map}
use Rattle.std.specs.FinMap as fin_map
use Rattle.std.proofs.lemmas.Bool.Decides.{nat_tests}
use Rattle.std.proofs.lemmas.List.{reverse-append, length-append, append-nil}
use Rattle.call_forward.specs.declared.acted.Acted.{Acted}
use Rattle.node_event.specs.declared.event.What.TheVariants as what
use Rattle.node_event.specs.declared.event.Unsent as unsent_type
use Rattle.node_event.specs.declared.script.Order.TheVariants as order
use Rattle.node_event.specs.declared.script.ScriptLine.{ScriptLine}
use Rattle.user_spec.specs.User.{UserState}
use Rattle.kernel_spec.specs.Pids.{at_pid}
use Rattle.kernel_spec.specs.Kernel.{given, with_process}
use Rattle.kernel_spec.proofs.KernelFacts.{given_launch}
use Rattle.remote_ctx.specs.declared.context.Context as code_context
use Rattle.remote_ctx.specs.Hosted.{lookup, Puts}
use Rattle.remote_ctx.specs.Acting.{fresh}
use Rattle.deputy.specs.declared.row.Row.{Row}
use Rattle.deputy.specs.Rows.{HomeState, new_row, held_of, served_of, served_at}
use Rattle.protocol.specs.Deeds.{Deed, deed_of, command_deed, run_deed, Run, order_at, runs_before, feeds_before}
use Rattle.protocol.specs.Notes.{Running, context, fresh as fresh_body}
use Rattle.protocol.specs.Does.{Does, hosts}
use Rattle.protocol.specs.Odd.{stamp_end}
use Rattle.run_laws.specs.Carried.{IsUsual}
use Rattle.node_machine.specs.Plan.{Plan, run_count, user_at}
use Rattle.node_machine.specs.Machine.{Policy, machine, launched}
use Rattle.node_machine.proofs.Scripts.{stands_once, has_image}
use Rattle.node_core.specs.declared.course.Course.{Course}
use Rattle.node_core.specs.declared.node.Node.{Node}
use Rattle.node_core.specs.Locals.{local, slot_of, slot_with, context_of, believed_of}
use Rattle.node_core.specs.Suits.{SuitsAt, Suits, Follows}
use Rattle.node_core.specs.Kinds.{Launches, advanced}
use Rattle.node_core.proofs.Settling.{Acts, at_clock, turn_at}
use Rattle.node_core.proofs.Rows.{by_same, at_pushed, none_after}
use Rattle.node_core.proofs.Courses.{runs_taken, run_step, line_in, user_after, users_left, users_more, next_above}

-- a row that is new at home is as none
pub pushed_kept : {B : Type 0} (f : Option Row → B) (rows : List Row) → f (Some (new_row 0)) ≡ f None → (q : ℕ) → f (at_pid (rows ++ new_row 0 ∷ []) q) ≡ f (at_pid rows q)
pushed_kept f rows e q = ap f (at_pushed rows (new_row 0) q) ∙ by_same (λ k. f (cond k (Some (new_row 0)) (at_pid rows q)) ≡ f (at_pid rows q)) q (length rows + 1)
    (λ same. e ∙ sym (ap f (none_after rows q (omega (arith, same)))))
    (λ ne. refl)

module _ (policy : Policy) (plan : Plan) where
  -- the next line of the script, at its place
  pub record AtLine (old : Node) (s : ScriptLine) : Type 0 where
    pub suits : Suits plan old
    pub home : old.id ≡ 0
    pub line : slice_get old.course.script old.course.done ≡ Some s

  pub in_plan : (old : Node) (s : ScriptLine) → AtLine old s → slice_get plan.script old.course.done ≡ Some s
  in_plan old s a = ap (λ script. slice_get script old.course.done) (sym (a.suits.course a.home).script) ∙ a.line

  found : (old : Node) (s : ScriptLine) → AtLine old s → order_at s.line plan.script ≡ Some s.order
  found old s a = stands_once plan.script a.suits.is_plan.rising old.course.done s (in_plan old s a)

  -- a command by its line
  pub command_is : (old : Node) (s : ScriptLine) → AtLine old s → (launched : Option ℕ) (unsent : Option unsent_type.Unsent) (poked : Option ℕ)
      → deed_of plan.script (what.Command s.line launched unsent poked) ≡ command_deed (Some s.order) s.line (runs_before s.line plan.script) (feeds_before s.line plan.script) launched unsent poked
  command_is old s a launched unsent poked = ap (λ o. command_deed o s.line (runs_before s.line plan.script) (feeds_before s.line plan.script) launched unsent poked) (found old s a)

  -- home follows the script past a line that launches nothing
  pub past_line : (old : Node) (s : ScriptLine) → AtLine old s → (zero_runs : run_count (take (old.course.done + 1) plan.script) ≡ run_count (take old.course.done plan.script)) → Follows plan (advanced s.line old.course)
  past_line old s a none =
      let f = a.suits.course a.home in
      record {
        script = f.script;
        done = line_in plan.script old.course.done s (in_plan old s a);
        next = next_above plan a.suits.is_plan old.course.done s (in_plan old s a);
        launched = f.launched;
        users = f.users;
        count = f.count ∙ sym none;
      }

  -- and past one that launches the next context
  past_run : (old : Node) (s : ScriptLine) → AtLine old s → (words : List (List ℕ)) → s.order ≡ order.Run words → (users : List UserState) (user : UserState) (pids : List ℕ) → old.course.users ≡ users ++ user ∷ []
      → Follows plan (record (advanced s.line old.course) { users = users; launched = pids })
  past_run old s a words is users user pids left =
      let f = a.suits.course a.home in
      let step = run_step plan.script old.course.done s (in_plan old s a) in
      let one : Rattle.protocol.specs.Deeds.one_run s.order ≡ 1 = ap Rattle.protocol.specs.Deeds.one_run is in
      let count = f.count in
      let longer = length-append f.launched (user ∷ []) in
      record {
        script = f.script;
        done = line_in plan.script old.course.done s (in_plan old s a);
        next = next_above plan a.suits.is_plan old.course.done s (in_plan old s a);
        launched = f.launched ++ user ∷ [];
        users = users_left plan.users f.launched old.course.users users user f.users left ∙ users_more f.launched users user;
        count = omega (arith, step, one, count, longer);
      }

  -- the context that the line launches
  loaded_is : (old : Node) (s : ScriptLine) → AtLine old s → (users : List UserState) (user : UserState) → old.course.users ≡ users ++ user ∷ [] → (p : ℕ) → user_at plan.users (runs_before s.line plan.script) p ≡ record user { pid = p }
  loaded_is old s a users user left p =
      let f = a.suits.course a.home in
      let index : runs_before s.line plan.script ≡ length f.launched = runs_taken plan.script a.suits.is_plan.rising old.course.done s (in_plan old s a) ∙ sym f.count in
      ap (λ (us : List UserState). user_at us (runs_before s.line plan.script) p) (users_left plan.users f.launched old.course.users users user f.users left)
      ∙ (ap (λ (i : ℕ). user_at (f.launched ++ user ∷ reverse users) i p) index ∙ user_after f.launched user (reverse users) p)

  -- ---- a launch

  launched_slots : (old : Node) (p : ℕ) (user : UserState) (h : List code_context.Context) (d : HomeState) → d.rows ≡ old.deputies.rows ++ new_row 0 ∷ [] → Puts p (Some (fresh (record user { pid = p }) 0)) old.hosted h
      → (q : ℕ) → slot_of policy plan (record old { deputies = d; hosted = h }) q ≡ cond (q == p) (hosts (machine policy plan) (Some (context (machine policy plan) (fresh_body (machine policy plan) (record user { pid = p })) Running)) (slot_of policy plan old q)) (slot_of policy plan old q)
  launched_slots old p user h d rows puts q =
      let held = ap held_of (ap (λ rs. at_pid rs q) rows) ∙ pushed_kept held_of old.deputies.rows refl q in
      (λ i. record { context = option_map (context_of policy plan) (puts.each q i); reserve = fin_map.get old.reserve q; call = option_map (Rattle.node_core.specs.Locals.called_of policy plan) (held i) }) ∙ go (q == p)
    where
      go : (k : Bool) → record { context = option_map (context_of policy plan) (cond k (Some (fresh (record user { pid = p }) 0)) (lookup q old.hosted)); reserve = fin_map.get old.reserve q; call = (slot_of policy plan old q).call }
          ≡ cond k (hosts (machine policy plan) (Some (context (machine policy plan) (fresh_body (machine policy plan) (record user { pid = p })) Running)) (slot_of policy plan old q)) (slot_of policy plan old q)
      go true = refl
      go false = refl

  launched_places : (old : Node) (p : ℕ) (rows : List Row) → rows ≡ old.deputies.rows ++ new_row 0 ∷ [] → length old.deputies.rows < p → (q : ℕ) → believed_of (at_pid rows q) ≡ cond (q == p) (record { place = 0; hops = 0 }) (believed_of (at_pid old.deputies.rows q))
  launched_places old p rows is new q =
      ap believed_of (ap (λ rs. at_pid rs q) is) ∙ (pushed_kept believed_of old.deputies.rows refl q
      ∙ by_same (λ k. believed_of (at_pid old.deputies.rows q) ≡ cond k (record { place = 0; hops = 0 }) (believed_of (at_pid old.deputies.rows q))) q p
      (λ same. ap believed_of (none_after old.deputies.rows q (omega (arith, same, new))))
      (λ ne. refl))

  -- a `run` line to come has its context
  pub has_context : (old : Node) (s : ScriptLine) (words : List (List ℕ)) → AtLine old s → s.order ≡ order.Run words → old.course.users ≡ [] → ⊥
  has_context old s words a is none =
      let f = a.suits.course a.home in
      let here = in_plan old s a in
      let image = has_image plan.script (length plan.users) a.suits.is_plan.images a.suits.is_plan.rising old.course.done s here words is in
      let before = runs_taken plan.script a.suits.is_plan.rising old.course.done s here in
      let all : plan.users ≡ f.launched ++ [] = f.users ∙ ap (λ (us : List UserState). f.launched ++ reverse us) none in
      let few : length plan.users ≡ length f.launched = ap length (all ∙ append-nil f.launched) in
      let count = f.count in
      less_not (runs_before s.line plan.script) (length plan.users) image (omega (arith, few, count, before))
    where
      less_not : (a b : ℕ) → nat_lt a b ≡ true → b ≤ a → ⊥
      less_not a b e h = grind (arith, nat_tests, e, h)

  abbrev launched_node : Node → HomeState → List code_context.Context → Course → Node
  launched_node old d h c = record old { deputies = d; hosted = h; course = c }

  pub suits_line : (old : Node) (stamp : ℕ) (d : HomeState) (h : List code_context.Context) (c : Course) → Suits plan old → stamp ≤ stamp_end + (length old.journal.events + 1) → ((q : ℕ) → served_at d.rows q ≤ length old.journal.events + 1) → Follows plan c
      → SuitsAt plan (length old.journal.events + 1) (at_clock stamp (launched_node old d h c))
  suits_line old stamp d h c s early served follows = record {
    is_plan = s.is_plan;
    below = s.below;
    shape = s.shape;
    room = s.room;
    within = record { clock = early; served = served; sent = let k = s.within.sent in omega (arith, k); steps = let k = s.within.steps in omega (arith, k) };
    course = λ at. follows;
    chance = s.chance;
  }

  pub launch_acts : (old mid : Node) (stamp : ℕ) (s : ScriptLine) (words : List (List ℕ)) (acted : Acted) → AtLine old s → s.order ≡ order.Run words → stamp ≤ stamp_end + (length old.journal.events + 1)
      → Launches s.line acted old mid → Acts policy plan stamp None acted old mid
  launch_acts old mid stamp s words acted a is early l =
      let k = old.deputies.kernel in
      let home_is : mid.deputies ≡ record { kernel = with_process k; rows = old.deputies.rows ++ new_row 0 ∷ [] } = l.launched.1 in
      let rows_are : mid.deputies.rows ≡ old.deputies.rows ++ new_row 0 ∷ [] = ap (λ (d : HomeState). d.rows) home_is in
      let kernel_is : mid.deputies.kernel ≡ with_process k = ap (λ (d : HomeState). d.kernel) home_is in
      let pid_is : l.pid ≡ given k + 1 = l.launched.2 ∙ (ap given kernel_is ∙ given_launch k) in
      let each = l.each in
      let new_pid : length old.deputies.rows < l.pid = omega (arith, each, pid_is) in
      let made : Acted = record { what = what.Command s.line (Some l.pid) None None; mail = [] } in
      let acted_is : acted ≡ made = λ i. record { what = l.what i; mail = l.mail i } in
      let deed : deed_of plan.script made.what ≡ Run s.line (runs_before s.line plan.script) l.pid = command_is old s a (Some l.pid) None None ∙ ap (λ o. command_deed (Some o) s.line (runs_before s.line plan.script) (feeds_before s.line plan.script) (Some l.pid) None None) is in
      let served = λ (q : ℕ). ap served_of (ap (λ rs. at_pid rs q) rows_are) ∙ pushed_kept served_of old.deputies.rows refl q in
      let f = a.suits.course a.home in
      let new : Node = launched_node old mid.deputies mid.hosted mid.course in
      let pids : reverse mid.course.launched ≡ l.pid ∷ reverse old.course.launched = ap (λ (c : Course). reverse c.launched) l.course ∙ reverse-append old.course.launched (l.pid ∷ []) in
      let goes : launched k ≡ Some mid.deputies.kernel = ap (λ b. cond b (Some (with_process k)) None) l.launched.0 ∙ ap (λ x. Some x) (sym kernel_is) in
      let loaded = loaded_is old s a l.users l.user l.left l.pid in
      subst (λ (x : Acted). Acts policy plan stamp None x old mid) (sym acted_is)
      (subst (λ (m : Node). Acts policy plan stamp None made old m) (sym l.rest) (record {
        usual = subst (λ (d : Deed). IsUsual d) (sym deed) tt;
        does = subst (λ (d : Deed). Does (machine policy plan) d old.id (local policy plan old) (turn_at policy plan old.id stamp d None made.mail) (local policy plan (at_clock stamp new))) (sym deed) (record {
          home = a.home;
          image = has_image plan.script (length plan.users) a.suits.is_plan.images a.suits.is_plan.rising old.course.done s (in_plan old s a) words is;
          launched = goes;
          next = pid_is;
          base = record { took = refl; posts = refl; slots = λ q. launched_slots old l.pid l.user mid.hosted mid.deputies rows_are l.puts q ∙ ap (λ u. cond (q == l.pid) (hosts (machine policy plan) (Some (context (machine policy plan) (fresh_body (machine policy plan) u) Running)) (slot_of policy plan old q)) (slot_of policy plan old q)) (sym loaded) };
          gossip = refl;
          believed = launched_places old l.pid mid.deputies.rows rows_are new_pid;
          words = words;
          order = record {
            next = in_plan old s a ∙ ap (λ o. Some (record { line = s.line; order = o })) is;
            enabled = λ none. let z : Some mid.deputies.kernel ≡ None = sym goes ∙ none in cc;
            rises = f.next s (in_plan old s a);
            is = record { line = ap (λ (c : Course). c.line) l.course; done = ap (λ (c : Course). c.done) l.course; launched = pids; served = served };
          };
        });
        same = refl;
        suits = suits_line old stamp mid.deputies mid.hosted mid.course a.suits early (λ q. let e = served q in let m = a.suits.within.served q in omega (arith, e, m)) (subst (λ (c : Course). Follows plan c) (sym l.course) (past_run old s a words is l.users l.user _ l.left));
      }))
