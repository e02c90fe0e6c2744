-- The status that home tells of each process is the machine's.
use Rattle.std.proofs.Common.{◌≡◌, ℕ, zero, suc, Bool, true, false, cond, List, [], ◌∷◌, ◌++◌, refl, sym, ap, ◌∙◌, Option, Some, None}
use Rattle.std.specs.Option.{option_map}
use Rattle.call_table.specs.declared.process.PidState.{PidState}
use Rattle.call_table.specs.declared.process.PidState.TheVariants as states
use Rattle.kernel_spec.specs.Kernel.{KernelState, given, end_at, is_live}
use Rattle.deputy.specs.declared.row.HeldCall.{HeldCall}
use Rattle.deputy.specs.Rows.{held_at}
use Rattle.deputy.specs.Moves.{held_number}
use Rattle.protocol.specs.Ops.{Ops}
use Rattle.protocol.specs.Deeds.{Noted}
use Rattle.protocol.specs.Notes.{Called, Local}
use Rattle.protocol.specs.Cluster.{World}
use Rattle.protocol.specs.Rests.{AllRest}
use Rattle.run_laws.specs.Ends.{end_state, live_state, blocked_number, status, status_cut, statuses_to, IsDone}
use Rattle.run_laws.specs.Ending.{Ending}
use Rattle.node_machine.specs.Plan.{Plan}
use Rattle.node_machine.specs.Machine.{Policy, machine}
use Rattle.node_core.specs.declared.node.Node.{Node}
use Rattle.node_core.specs.Locals.{called_of, local}
use Rattle.shell_text.specs.declared.run.Last.{Last}
use Rattle.shell_text.specs.declared.run.Last.TheVariants as last
use Rattle.mosix_shell.specs.Headline.{status_at}
use Rattle.mosix_shell.specs.Left.{going_state, state_at, states_to, states_at}
use Rattle.mosix_shell.proofs.Truth.{true_false}

each_same : (O : Ops) (f g : ℕ → PidState) → ((p : ℕ) → f p ≡ g p) → (n : ℕ) → states_to f n ≡ statuses_to O g n
each_same O f g h zero = refl
each_same O f g h (suc n) = ap (λ (x : PidState). states_to f n ++ (suc n, x) ∷ []) (h (suc n)) ∙ ap (λ (xs : List (ℕ × PidState)). xs ++ (suc n, g (suc n)) ∷ []) (each_same O f g h n)

cond_same : (b c : Bool) (x y e f : PidState) → b ≡ c → (c ≡ true → x ≡ y) → e ≡ f → cond b x e ≡ cond c y f
cond_same b true x y e f s t u = ap (λ (k : Bool). cond k x e) s ∙ t refl
cond_same b false x y e f s t u = ap (λ (k : Bool). cond k x e) s ∙ u

module _ (policy : Policy) (plan : Plan) where
  held_told : (o : Option HeldCall) (c : Called (machine policy plan)) → option_map (called_of policy plan) o ≡ Some c → held_number o ≡ Some c.request.number
  held_told None c e = absurd cc
  held_told (Some h) c e = let same : called_of policy plan h ≡ c = cc in ap (λ (x : Called (machine policy plan)). Some x.request.number) same

  module _ (home : Node) (es : List Noted) (w : World (machine policy plan)) (at : w.nodes 0 ≡ local policy plan home) (ending : Ending (machine policy plan) es w) (kernel : home.deputies.kernel ≡ ending.machine.kernel) where
    by_live : (going : PidState) (target : PidState) (p : ℕ) → (is_live ending.machine.kernel p ≡ true → going ≡ target)
        → cond (is_live home.deputies.kernel p) going (end_state (end_at home.deputies.kernel p)) ≡ cond (is_live ending.machine.kernel p) target (end_state (end_at ending.machine.kernel p))
    by_live going target p h = cond_same (is_live home.deputies.kernel p) (is_live ending.machine.kernel p) going target (end_state (end_at home.deputies.kernel p)) (end_state (end_at ending.machine.kernel p))
        (ap (λ (k : KernelState). is_live k p) kernel) h (ap (λ (k : KernelState). end_state (end_at k p)) kernel)

    done_at : IsDone (machine policy plan) es ending.machine → (p : ℕ) → state_at last.Done home.deputies p ≡ status (machine policy plan) ending.machine p
    done_at d p = by_live (going_state last.Done (held_number (held_at home.deputies.rows p))) (live_state (blocked_number (machine policy plan) ending.machine p)) p (λ live. true_false (sym live ∙ d.ended p))

    held_at_home : (p : ℕ) → ((w.nodes 0).slots p).call ≡ option_map (called_of policy plan) (held_at home.deputies.rows p)
    held_at_home p = ap (λ (l : Local (machine policy plan)). (l.slots p).call) at

    blocked_at : AllRest (machine policy plan) w → (p : ℕ) → is_live ending.machine.kernel p ≡ true → live_state (held_number (held_at home.deputies.rows p)) ≡ live_state (blocked_number (machine policy plan) ending.machine p)
    blocked_at rest p live =
        let h = ending.held rest p live in
        ap live_state (held_told (held_at home.deputies.rows p) h.0 (sym (held_at_home p) ∙ h.1))
        ∙ (sym ((ending.blocked p h.0.request.number).0 h.2)
        ∙ ap (λ (b : Bool). cond b (live_state (blocked_number (machine policy plan) ending.machine p)) (end_state (end_at ending.machine.kernel p))) live)

    stuck_at : AllRest (machine policy plan) w → (p : ℕ) → state_at last.Stuck home.deputies p ≡ status (machine policy plan) ending.machine p
    stuck_at rest p = by_live (live_state (held_number (held_at home.deputies.rows p))) (live_state (blocked_number (machine policy plan) ending.machine p)) p (blocked_at rest p)

    full_at : (n p : ℕ) → state_at (last.Full n) home.deputies p ≡ status_cut (machine policy plan) ending.machine p
    full_at n p = by_live states.Live states.Live p (λ live. refl)

    all_states : (l : Last) → ((p : ℕ) → state_at l home.deputies p ≡ status_at policy plan l ending.machine p) → states_at l home.deputies ≡ statuses_to (machine policy plan) (status_at policy plan l ending.machine) (given ending.machine.kernel)
    all_states l h = ap (states_to (state_at l home.deputies)) (ap given kernel) ∙ each_same (machine policy plan) (state_at l home.deputies) (status_at policy plan l ending.machine) h (given ending.machine.kernel)

    pub done_states : IsDone (machine policy plan) es ending.machine → states_at last.Done home.deputies ≡ statuses_to (machine policy plan) (status_at policy plan last.Done ending.machine) (given ending.machine.kernel)
    done_states d = all_states last.Done (done_at d)

    pub stuck_states : AllRest (machine policy plan) w → states_at last.Stuck home.deputies ≡ statuses_to (machine policy plan) (status_at policy plan last.Stuck ending.machine) (given ending.machine.kernel)
    stuck_states rest = all_states last.Stuck (stuck_at rest)

    pub full_states : (n : ℕ) → states_at (last.Full n) home.deputies ≡ statuses_to (machine policy plan) (status_at policy plan (last.Full n) ending.machine) (given ending.machine.kernel)
    full_states n = all_states (last.Full n) (full_at n)
