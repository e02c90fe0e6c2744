-- A held call that goes on, and when none does.
use Rattle.std.proofs.Common.{◌≡◌, ℕ, ◌+◌, ◌<◌, ◌≤◌, Option, Some, None, length, refl, ap, arith}
use Rattle.call_forward.specs.declared.acted.Acted.{Acted}
use Rattle.deputy.specs.declared.row.HeldCall.{HeldCall}
use Rattle.deputy.specs.Rows.{HomeState, held_at}
use Rattle.deputy.specs.Calls as calls
use Rattle.protocol.specs.Odd.{stamp_end}
use Rattle.node_machine.specs.Plan.{Plan}
use Rattle.node_machine.specs.Machine.{Policy}
use Rattle.node_core.specs.declared.node.Node.{Node}
use Rattle.node_core.specs.Suits.{Suits}
use Rattle.node_core.specs.Kinds.{Retries}
use Rattle.node_core.proofs.Settling.{Acts}
use Rattle.node_core.proofs.Rows.{row_of}
use Rattle.node_core.proofs.Firsts.{comes}
use Rattle.node_core.proofs.Home.{Serving, served_home, served_acted, retried_acts, acts_on, live_given, above_zero}

abbrev retried_as : HomeState → Acted → calls.Retried
retried_as home acted = record { home = home; acted = Some acted }

some_same : {A : Type 0} (a b : A) → Some a ≡ Some b → a ≡ b
some_same a b h = cc

module _ (policy : Policy) (plan : Plan) where
  -- a held call goes on
  pub retry_acts : (old mid : Node) (stamp : ℕ) (acted : Acted) → Suits plan old → old.id ≡ 0 → stamp ≤ stamp_end + (length old.journal.events + 1) → length old.journal.events < old.journal.room
      → Retries acted old mid → Acts policy plan stamp None acted old mid
  retry_acts old mid stamp acted suits at early space r = go (calls.next_ready old.deputies) r.is
    where
      nothing : calls.nothing old.deputies ≡ retried_as mid.deputies acted → Acts policy plan stamp None acted old mid
      nothing is = let z : None ≡ Some acted = ap (λ (x : calls.Retried). x.acted) is in absurd cc

      served : (p : ℕ) (call : HeldCall) → held_at old.deputies.rows p ≡ Some call → (f : Option calls.First) → calls.first_of old.deputies.kernel p call.request ≡ f → calls.retry_turn f old.deputies p call ≡ retried_as mid.deputies acted → Acts policy plan stamp None acted old mid
      served p call held None e is = nothing is
      served p call held (Some first) e is =
          let waits = r.held p call held in
          let pid = live_given old.deputies.kernel p waits.live in
          let each = r.each in
          let high : p ≤ length old.deputies.rows = omega (arith, pid.1, each) in
          let row = row_of old.deputies.rows p pid.0 high in
          let s : Serving policy plan old stamp call.from p call.request first = record { suits = suits; at = at; early = early; space = space; each = each; row = row.0; here = row.1; high = high; comes = comes policy plan old.deputies.kernel p call.request (above_zero p pid.0) first e } in
          let turned : calls.Turned = calls.answered (calls.call_asks call.from p call.request) first old.deputies.rows in
          let home : turned.home ≡ mid.deputies = ap (λ (x : calls.Retried). x.home) is in
          let made : turned.acted ≡ acted = some_same turned.acted acted (ap (λ (x : calls.Retried). x.acted) is) in
          acts_on policy plan old mid stamp None (served_home policy plan old call.from p call.request first) (served_acted policy plan old call.from p call.request first) acted (λ i. record { home = home i; acted = made i }) r.rest (retried_acts policy plan old stamp call.from p call.request first s held waits.call)

      held : (p : ℕ) (c : Option HeldCall) → held_at old.deputies.rows p ≡ c → calls.retry_call c old.deputies p ≡ retried_as mid.deputies acted → Acts policy plan stamp None acted old mid
      held p None e is = nothing is
      held p (Some call) e is = served p call e (calls.first_of old.deputies.kernel p call.request) refl is

      go : (o : Option ℕ) → calls.retry_by o old.deputies ≡ retried_as mid.deputies acted → Acts policy plan stamp None acted old mid
      go None is = nothing is
      go (Some p) is = held p (held_at old.deputies.rows p) refl is
