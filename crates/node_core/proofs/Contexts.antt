-- What contexts do in a turn is a turn by the laws.
use Rattle.std.proofs.Common.{◌≡◌, ◌⊎◌, inl, inr, ℕ, ◌+◌, ◌<◌, ◌≤◌, ◌==◌, Bool, true, false, Option, Some, None, List, [], ◌∷◌, length, refl, sym, ap, ◌∙◌, subst, arith}
use Rattle.std.specs.Prelude.{◌-◌, ◌^◌, max, min}
use Rattle.std.specs.Option.{option_map}
use Rattle.call_forward.specs.declared.acted.Acted.{Acted}
use Rattle.call_forward.specs.declared.message.Message.TheVariants as message
use Rattle.node_event.specs.declared.event.What.TheVariants as what
use Rattle.user_spec.specs.Fits.{has_room_at}
use Rattle.remote_ctx.specs.declared.context.Context as code_context
use Rattle.remote_ctx.specs.declared.context.Stance.{Stance}
use Rattle.remote_ctx.specs.declared.context.Stance.TheVariants as stance
use Rattle.remote_ctx.specs.Hosted.{lookup, is_running, runs_as, runs_at}
use Rattle.remote_ctx.specs.Acting as acting
use Rattle.protocol.specs.Notes.{Kept, Running, Waiting, context, Post, letter, Poke}
use Rattle.protocol.specs.Does.{Awake, Asleep, Unfit}
use Rattle.protocol.specs.Odd.{stamp_end}
use Rattle.node_machine.specs.Plan.{Plan}
use Rattle.node_machine.specs.Machine.{Policy, machine}
use Rattle.node_core.specs.declared.node.Node.{Node}
use Rattle.node_core.specs.declared.talk.Talk.{Talk}
use Rattle.node_core.specs.Locals.{local, slot_of, body_of, context_of, state_of, kept_of, gossip_of, note_of}
use Rattle.node_core.specs.Suits.{SuitsAt, Suits}
use Rattle.node_core.specs.Kinds.{OnHosted, Steps, stepped}
use Rattle.node_core.proofs.Settling.{Acts, Hears, Fits, at_clock}
use Rattle.node_core.proofs.Slots.{cond_same, slots_put}

runs_is : (s : Stance) → is_running s ≡ true → s ≡ stance.Running
runs_is stance.Running e = refl
runs_is (stance.Waiting pause kept) e = cc
runs_is (stance.Asking to line) e = cc

-- a context that runs
pub runs_here : (h : List code_context.Context) (p : ℕ) (c : code_context.Context) → runs_at p h ≡ true → lookup p h ≡ Some c → c.state ≡ stance.Running
runs_here h p c runs here = runs_is c.state (sym (ap runs_as here) ∙ runs)

module _ (policy : Policy) (plan : Plan) where
  was_running : (h : List code_context.Context) (p : ℕ) (c : code_context.Context) → lookup p h ≡ Some c → c.state ≡ stance.Running → option_map (context_of policy plan) (lookup p h) ≡ Some (context (machine policy plan) (body_of policy plan c) Running)
  was_running h p c here running = ap (option_map (context_of policy plan)) here ∙ ap (λ s. Some (context (machine policy plan) (body_of policy plan c) (state_of s))) running

  poked_is : (h : List code_context.Context) (p : ℕ) (c : code_context.Context) (b : Bool) → acting.poked_as (lookup p h) ≡ b → lookup p h ≡ Some c → c.poked ≡ b
  poked_is h p c b poked here = sym (ap acting.poked_as here) ∙ poked

  -- what of a node suits the plan where its contexts change alone, or its quanta are counted
  pub suits_hosted : (old : Node) (h : List code_context.Context) (stamp : ℕ) → stamp ≤ stamp_end + (length old.journal.events + 1) → Suits plan old → SuitsAt plan (length old.journal.events + 1) (at_clock stamp (record old { hosted = h }))
  suits_hosted old h stamp early s = record {
    is_plan = s.is_plan;
    below = s.below;
    shape = s.shape;
    room = s.room;
    within = record { clock = early; served = λ q. let k = s.within.served q in omega (arith, k); sent = let k = s.within.sent in omega (arith, k); steps = let k = s.within.steps in omega (arith, k) };
    course = s.course;
    chance = s.chance;
  }

  -- a call or a fault goes home
  pub sent_acts : (old : Node) (p : ℕ) (acted : Acted) (h : List code_context.Context) → Suits plan old → runs_at p old.hosted ≡ true → acting.poked_as (lookup p old.hosted) ≡ false
      → acting.Sends acted p old.hosted h → Acts policy plan (old.clock + 1) None acted old (record old { hosted = h })
  sent_acts old p acted h suits runs poked s =
      let c = s.changes.context in
      let running = runs_here old.hosted p c runs s.changes.here in
      let is : acted ≡ record { what = what.Sent p s.request.number; mail = (0, message.Call p s.request) ∷ [] } = λ i. record { what = s.what i; mail = s.mail i } in
      subst (λ (a : Acted). Acts policy plan (old.clock + 1) None a old (record old { hosted = h })) (sym is) (record {
        usual = tt;
        does = record {
          body = body_of policy plan c;
          request = s.request;
          was = was_running old.hosted p c s.changes.here running;
          unpoked = poked_is old.hosted p c false poked s.changes.here;
          asks = s.asks;
          number_is = refl;
          base = record { took = refl; posts = refl; slots = slots_put policy plan old p (Some (acting.standing_as (stance.Waiting false None) c)) h _ refl s.changes.puts };
          still = record { kernel = refl; believed = λ q. refl; progress = refl; gossip = refl };
        };
        same = refl;
        suits = suits_hosted old h (old.clock + 1) (let k = suits.within.clock in omega (arith, k)) suits;
      })

  -- a poked process pauses
  pub heeded_acts : (old : Node) (p : ℕ) (acted : Acted) (h : List code_context.Context) → Suits plan old → runs_at p old.hosted ≡ true → acting.poked_as (lookup p old.hosted) ≡ true
      → acting.Heeds acted p old.hosted h → Acts policy plan (old.clock + 1) None acted old (record old { hosted = h })
  heeded_acts old p acted h suits runs poked s =
      let c = s.changes.context in
      let running = runs_here old.hosted p c runs s.changes.here in
      let is : acted ≡ record { what = what.Heed p; mail = (0, message.Pause p (has_room_at c.user)) ∷ [] } = λ i. record { what = s.what i; mail = s.mail i } in
      subst (λ (a : Acted). Acts policy plan (old.clock + 1) None a old (record old { hosted = h })) (sym is) (record {
        usual = tt;
        does = record {
          body = body_of policy plan c;
          was = was_running old.hosted p c s.changes.here running;
          poked = poked_is old.hosted p c true poked s.changes.here;
          base = record { took = refl; posts = refl; slots = slots_put policy plan old p (Some (acting.standing false (stance.Waiting true None) c)) h _ refl s.changes.puts };
          still = record { kernel = refl; believed = λ q. refl; progress = refl; gossip = refl };
        };
        same = refl;
        suits = suits_hosted old h (old.clock + 1) (let k = suits.within.clock in omega (arith, k)) suits;
      })

  -- a quantum of steps
  suits_stepped : (old : Node) (h : List code_context.Context) (t : Talk) → t ≡ record old.talk { steps = old.talk.steps + 1 } → Suits plan old → SuitsAt plan (length old.journal.events + 1) (at_clock (old.clock + 1) (record old { hosted = h; talk = t }))
  suits_stepped old h t is s = subst (λ (x : Talk). SuitsAt plan (length old.journal.events + 1) (at_clock (old.clock + 1) (record old { hosted = h; talk = x }))) (sym is) (record {
    is_plan = s.is_plan;
    below = s.below;
    shape = s.shape;
    room = s.room;
    within = record { clock = let k = s.within.clock in omega (arith, k); served = λ q. let k = s.within.served q in omega (arith, k); sent = let k = s.within.sent in omega (arith, k); steps = let k = s.within.steps in omega (arith, k) };
    course = s.course;
    chance = s.chance;
  })

  count_steps : (steps events room : ℕ) → steps ≤ events → events < room → room ≤ 1048576 → min (steps + 1) (2 ^ 32 - 1) ≡ steps + 1
  count_steps steps events room a b c = omega (arith, a, b, c)

  pub stepped_acts : (old : Node) (p k : ℕ) (acted : Acted) (mid : Node) → Suits plan old → length old.journal.events < old.journal.room
      → runs_at p old.hosted ≡ true → acting.poked_as (lookup p old.hosted) ≡ false → (2 ≤ plan.nodes → old.talk.steps < 16)
      → Steps k p acted old mid → Acts policy plan (old.clock + 1) None acted old mid
  stepped_acts old p k acted mid suits room runs poked no_half s =
      let c = s.ran.context in
      let running = runs_here old.hosted p c runs s.ran.here in
      let few : old.journal.room ≤ 1048576 = let e = suits.room in let m = suits.shape.most_events in omega (arith, e, m) in
      let count = count_steps old.talk.steps (length old.journal.events) old.journal.room suits.within.steps room few in
      let talk : stepped old.talk ≡ record old.talk { steps = old.talk.steps + 1 } = λ i. record old.talk { steps = count i } in
      let is : acted ≡ record { what = what.Steps p k; mail = [] } = λ i. record { what = s.what i; mail = s.mail i } in
      let w = s.ran.went in
      let long : max old.shape.quantum 1 ≡ plan.quantum = let e = suits.shape.quantum in let one = suits.is_plan.quantum in omega (arith, e, one) in
      subst (λ (a : Acted). Acts policy plan (old.clock + 1) None a old mid) (sym is)
      (subst (λ (m : Node). Acts policy plan (old.clock + 1) None (record { what = what.Steps p k; mail = [] }) old m) (sym s.rest) (record {
        usual = tt;
        does = record {
          body = body_of policy plan c;
          user = s.ran.user;
          was = was_running old.hosted p c s.ran.here running;
          unpoked = poked_is old.hosted p c false poked s.ran.here;
          went = w.went;
          bounds = record { least = w.least; most = subst (λ (q : ℕ). k ≤ q) long w.most; whole = subst (λ (q : ℕ). (k ≡ q) ⊎ ((machine policy plan).went s.ran.user 1 ≡ None ⊎ (machine policy plan).grows s.ran.user ≡ true)) long w.whole };
          no_half = no_half;
          base = record { took = refl; posts = refl; slots = slots_put policy plan old p (Some (acting.with_user s.ran.user c)) mid.hosted _ (ap (λ t. Some (context (machine policy plan) (record { user = s.ran.user; hops = c.hops; poked = c.poked }) (state_of t))) running) s.ran.puts };
          still = record { kernel = refl; believed = λ q. refl; progress = refl; gossip = ap gossip_of talk };
        };
        same = refl;
        suits = suits_stepped old mid.hosted (stepped old.talk) talk suits;
      }))

  -- ---- a poke

  awake_state : (s : Stance) → acting.is_awake s ≡ true → Awake (machine policy plan) (state_of s)
  awake_state stance.Running e = tt
  awake_state (stance.Waiting pause kept) e = absurd cc
  awake_state (stance.Asking to line) e = tt

  asleep_state : (s : Stance) → acting.is_awake s ≡ false → (pause : Bool) × (k : Option Kept) × (state_of s ≡ Waiting pause k)
  asleep_state stance.Running e = absurd cc
  asleep_state (stance.Waiting pause kept) e = (pause, option_map kept_of kept, refl)
  asleep_state (stance.Asking to line) e = absurd cc

  asleep_context : (o : Option code_context.Context) → acting.holds_for acting.is_awake o ≡ false → Asleep (machine policy plan) (option_map (context_of policy plan) o)
  asleep_context None e = tt
  asleep_context (Some c) e = asleep_state c.state e

  abbrev poke_post : Node → ℕ → ℕ → ℕ → Post (machine policy plan)
  poke_post old from sent p = letter (machine policy plan) from old.id sent (Poke p)

  marked_acts : (old : Node) (stamp from sent p : ℕ) (h : List code_context.Context) → Suits plan old → stamp ≤ stamp_end + (length old.journal.events + 1) → acting.Marks p old.hosted h
      → Acts policy plan stamp (Some (poke_post old from sent p)) (record { what = what.Poked p true; mail = [] }) old (record old { hosted = h })
  marked_acts old stamp from sent p h suits early s =
      let c = s.changes.context in
      record {
        usual = tt;
        does = record {
          from = from;
          stamp = sent;
          body = body_of policy plan c;
          state = state_of c.state;
          was = ap (option_map (context_of policy plan)) s.changes.here;
          awake = awake_state c.state s.awake;
          base = record { took = refl; posts = refl; slots = slots_put policy plan old p (Some (acting.poked_context c)) h _ refl s.changes.puts };
          still = record { kernel = refl; believed = λ q. refl; progress = refl; gossip = refl };
        };
        same = refl;
        suits = suits_hosted old h stamp early suits;
      }

  ignored_acts : (old : Node) (stamp from sent p : ℕ) → Suits plan old → stamp ≤ stamp_end + (length old.journal.events + 1) → acting.holds_for acting.is_awake (lookup p old.hosted) ≡ false
      → Acts policy plan stamp (Some (poke_post old from sent p)) (record { what = what.Poked p false; mail = [] }) old old
  ignored_acts old stamp from sent p suits early asleep = record {
    usual = tt;
    does = record {
      from = from;
      stamp = sent;
      asleep = asleep_context (lookup p old.hosted) asleep;
      base = record { took = refl; posts = refl; slots = λ q. cond_same (q == p) (slot_of policy plan old q) };
      still = record { kernel = refl; believed = λ q. refl; progress = refl; gossip = refl };
    };
    same = refl;
    suits = suits_hosted old old.hosted stamp early suits;
  }

  poked_acts : (used : Bool) (old mid : Node) (stamp from sent p : ℕ) → Suits plan old → stamp ≤ stamp_end + (length old.journal.events + 1) → acting.PokedBy used p old.hosted mid.hosted → mid ≡ record old { hosted = mid.hosted }
      → Acts policy plan stamp (Some (poke_post old from sent p)) (record { what = what.Poked p used; mail = [] }) old mid
  poked_acts true old mid stamp from sent p suits early s rest = subst (λ (m : Node). Acts policy plan stamp (Some (poke_post old from sent p)) (record { what = what.Poked p true; mail = [] }) old m) (sym rest) (marked_acts old stamp from sent p mid.hosted suits early s)
  poked_acts false old mid stamp from sent p suits early s rest =
      let same : mid ≡ old = rest ∙ ap (λ (h : List code_context.Context). record old { hosted = h }) s.1 in
      subst (λ (m : Node). Acts policy plan stamp (Some (poke_post old from sent p)) (record { what = what.Poked p false; mail = [] }) old m) (sym same) (ignored_acts old stamp from sent p suits early s.0)

  poke_no_misfit : (old : Node) (from p : ℕ) → from < plan.nodes → Unfit (machine policy plan) old.id from (local policy plan old) (note_of policy plan (message.Poke p)) → ⊥
  poke_no_misfit old from p near (inl none) = absurd none
  poke_no_misfit old from p near (inr (inl far)) = omega (arith, near, far)
  poke_no_misfit old from p near (inr (inr far)) = absurd far

  -- a poke comes
  pub poke_hears : (old mid : Node) (stamp from sent p : ℕ) (acted : Acted) → Suits plan old → from < plan.nodes → stamp ≤ stamp_end + (length old.journal.events + 1)
      → OnHosted (acting.PokedOn acted p) old mid → Hears policy plan stamp old.id from sent (message.Poke p) acted old mid
  poke_hears old mid stamp from sent p acted suits near early o =
      let s = o.does in
      let is : acted ≡ record { what = what.Poked p s.used; mail = [] } = λ i. record { what = s.what i; mail = s.mail i } in
      Fits (subst (λ (a : Acted). Acts policy plan stamp (Some (poke_post old from sent p)) a old mid) (sym is) (poked_acts s.used old mid stamp from sent p suits early s.is o.rest)) (poke_no_misfit old from p near)
