-- Slots of a node, as its tables change.
use Rattle.std.proofs.Common.{◌≡◌, ℕ, ◌==◌, cond, Bool, true, false, Option, Some, None, List, refl, ap, ◌∙◌}
use Rattle.std.specs.Option.{option_map}
use Rattle.std.specs.FinMap as fin_map
use Rattle.remote_ctx.specs.declared.context.Context as code_context
use Rattle.remote_ctx.specs.Hosted.{lookup, Puts, PutsBoth, is_pid}
use Rattle.protocol.specs.Ops.{is_child}
use Rattle.protocol.specs.Notes.{Context}
use Rattle.protocol.specs.Does.{hosts}
use Rattle.node_machine.specs.Plan.{Plan}
use Rattle.node_machine.specs.Machine.{Policy, machine}
use Rattle.node_core.specs.declared.node.Node.{Node}
use Rattle.node_core.specs.Locals.{context_of, slot_with, slot_of}
use Rattle.kernel_spec.specs.Pids.{at_pid}

pub cond_same : {A : Type 0} (b : Bool) (x : A) → x ≡ cond b x x
cond_same true x = refl
cond_same false x = refl

module _ (policy : Policy) (plan : Plan) where
  abbrev hosted_in : Node → List code_context.Context → Node
  hosted_in n h = record n { hosted = h }

  -- the context of one pid is another one, or gone
  pub slots_put : (n : Node) (p : ℕ) (x : Option code_context.Context) (h : List code_context.Context) (y : Option (Context (machine policy plan))) → option_map (context_of policy plan) x ≡ y → Puts p x n.hosted h
      → (q : ℕ) → slot_of policy plan (hosted_in n h) q ≡ cond (q == p) (hosts (machine policy plan) y (slot_of policy plan n q)) (slot_of policy plan n q)
  slots_put n p x h y e puts q = ap (λ (o : Option code_context.Context). slot_with policy plan o (fin_map.get n.reserve q) (at_pid n.deputies.rows q)) (puts.each q) ∙ go (q == p)
    where
      go : (t : Bool) → slot_with policy plan (cond t x (lookup q n.hosted)) (fin_map.get n.reserve q) (at_pid n.deputies.rows q) ≡ cond t (hosts (machine policy plan) y (slot_of policy plan n q)) (slot_of policy plan n q)
      go true = ap (λ (o : Option (Context (machine policy plan))). hosts (machine policy plan) o (slot_of policy plan n q)) e
      go false = refl

  child_same : (o : Option ℕ) (q : ℕ) → is_pid o q ≡ is_child o q
  child_same None q = refl
  child_same (Some c) q = refl

  -- the same of two pids
  pub slots_put_both : (n : Node) (p : ℕ) (x : Option code_context.Context) (child : Option ℕ) (born : Option code_context.Context) (h : List code_context.Context) (y z : Option (Context (machine policy plan)))
      → option_map (context_of policy plan) x ≡ y → option_map (context_of policy plan) born ≡ z → PutsBoth p x child born n.hosted h
      → (q : ℕ) → slot_of policy plan (hosted_in n h) q ≡ cond (q == p) (hosts (machine policy plan) y (slot_of policy plan n q)) (cond (is_child child q) (hosts (machine policy plan) z (slot_of policy plan n q)) (slot_of policy plan n q))
  slots_put_both n p x child born h y z e f puts q =
      ap (λ (o : Option code_context.Context). slot_with policy plan o (fin_map.get n.reserve q) (at_pid n.deputies.rows q)) (puts.each q ∙ ap (λ t. cond (q == p) x (cond t born (lookup q n.hosted))) (child_same child q)) ∙ go (q == p) (is_child child q)
    where
      go : (s t : Bool) → slot_with policy plan (cond s x (cond t born (lookup q n.hosted))) (fin_map.get n.reserve q) (at_pid n.deputies.rows q) ≡ cond s (hosts (machine policy plan) y (slot_of policy plan n q)) (cond t (hosts (machine policy plan) z (slot_of policy plan n q)) (slot_of policy plan n q))
      go true t = ap (λ (o : Option (Context (machine policy plan))). hosts (machine policy plan) o (slot_of policy plan n q)) e
      go false true = ap (λ (o : Option (Context (machine policy plan))). hosts (machine policy plan) o (slot_of policy plan n q)) f
      go false false = refl
