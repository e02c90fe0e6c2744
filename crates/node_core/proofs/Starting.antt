-- A node before anything happened suits its plan, and is fresh by the laws.
use Rattle.std.proofs.Common.{◌≡◌, ℕ, zero, suc, ◌+◌, ◌≤◌, List, [], None, Result, Ok, Err, IfOk, refl, sym, ap, ◌∙◌, subst, arith}
use Rattle.std.specs.Prelude.{◌-◌}
use Rattle.std.proofs.lemmas.List.{reverse-reverse}
use Rattle.node_event.specs.declared.script.ScriptLine.{ScriptLine}
use Rattle.call_forward.specs.declared.letter.Letter.{Letter}
use Rattle.user_spec.specs.User.{UserState}
use Rattle.kernel_spec.specs.Pids.{at_pid}
use Rattle.deputy.specs.declared.row.Row.{Row}
use Rattle.deputy.specs.Rows.{served_of}
use Rattle.node_machine.specs.Plan.{Plan}
use Rattle.node_core.specs.declared.shape.Shape.{Shape}
use Rattle.node_core.specs.declared.node.Node.{Node}
use Rattle.node_core.specs.Suits.{Suits, contexts_below}
use Rattle.node_core.specs.Making.{new_node, Beginning}

none_at : (q : ℕ) → at_pid {A = Row} [] q ≡ None
none_at zero = refl
none_at (suc i) = refl

served_none : (q : ℕ) → served_of (at_pid [] q) ≤ 0
served_none q = let e : served_of (at_pid [] q) ≡ 0 = ap served_of (none_at q) in omega (arith, e)

none_below : (k : ℕ) → contexts_below k [] ≤ 0
none_below zero = omega arith
none_below (suc k) = let less = none_below k in omega (arith, less)

pub new_suits : (plan : Plan) (id : ℕ) (shape : Shape) (script : List ScriptLine) (users : List UserState) → Beginning plan id shape script users → Suits plan (new_node id shape script users)
new_suits plan id shape script users b = record {
  is_plan = b.is_plan;
  below = b.below;
  shape = b.shape_is;
  room = refl;
  within = record { clock = omega arith; served = served_none; sent = omega arith; steps = omega arith };
  course = λ home. record { script = b.script_is home; done = omega arith; next = λ s e. omega arith; launched = []; users = sym (b.users_is home) ∙ sym (reverse-reverse users); count = refl };
  chance = λ k. let zero_off : 0 - (plan.nodes - 1) + k ≡ k = omega arith in ap (plan.word id) zero_off ∙ b.words k;
  few = none_below;
}

pub new_suits_of : (plan : Plan) (id : ℕ) (shape : Shape) (script : List ScriptLine) (users : List UserState) (n : Node) → n ≡ new_node id shape script users → Beginning plan id shape script users → Suits plan n
new_suits_of plan id shape script users n is b = subst (λ (m : Node). Suits plan m) (sym is) (new_suits plan id shape script users b)

pub new_suits_ok : {E : Type 0} (id : ℕ) (shape : Shape) (script : List ScriptLine) (users : List UserState) (r : Result Node E) → IfOk r (λ (n : Node). n ≡ new_node id shape script users)
    → IfOk r (λ (n : Node). (run : Plan) → Beginning run id shape script users → Suits run n)
new_suits_ok id shape script users (Ok n) is = λ run b. new_suits_of run id shape script users n is b
new_suits_ok id shape script users (Err e) is = tt

-- what is taken out of the outbox is not missed
pub suits_out : (plan : Plan) (n : Node) (outbox : List Letter) → Suits plan n → Suits plan (record n { outbox = outbox })
suits_out plan n outbox s = record {
  is_plan = s.is_plan;
  below = s.below;
  shape = s.shape;
  room = s.room;
  within = record { clock = s.within.clock; served = s.within.served; sent = s.within.sent; steps = s.within.steps };
  course = s.course;
  chance = s.chance;
  few = s.few;
}
