-- The status of a process says that it is blocked exactly where it is.
use Rattle.std.proofs.Common.{◌≡◌, ◌≢◌, ℕ, zero, suc, Bool, true, false, cond, Option, Some, None, refl, sym, ap, ◌∙◌}
use Rattle.std.specs.Prelude.{option_and_then}
use Rattle.call_table.specs.declared.process.End.{End}
use Rattle.call_table.specs.declared.process.End.TheVariants as ends
use Rattle.call_table.specs.declared.process.PidState.TheVariants as states
use Rattle.protocol.specs.Ops.{Ops, Acted}
use Rattle.run_laws.specs.Machine.{MachineState}
use Rattle.run_laws.specs.Due.{Same}
use Rattle.run_laws.specs.Ends.{Blocked, blocked_by, blocked_number, end_state, live_state, status}

end_not : (o : Option End) (number : ℕ) → end_state o ≡ states.Blocked number → ⊥
end_not None number e = cc
end_not (Some (ends.Exit code)) number e = cc
end_not (Some (ends.Signal signal)) number e = cc

live_is : (o : Option ℕ) (number : ℕ) → live_state o ≡ states.Blocked number → o ≡ Some number
live_is None number e = absurd cc
live_is (Some x) number e = let same : x ≡ number = cc in ap (λ (k : ℕ). Some k) same

module _ (O : Ops) where
  some_number : (k : ℕ) → k ≢ 0 → blocked_by O None None k ≡ Some k
  some_number zero f = absurd (f refl)
  some_number (suc k) f = refl

  by_number : (o : Option (Acted O.Kernel O.Answer)) (s : Option ℕ) (k number : ℕ) → blocked_by O o s k ≡ Some number → (o ≡ None) × (s ≡ None) × (k ≡ number) × (number ≢ 0)
  by_number None None zero number e = absurd cc
  by_number None None (suc k) number e = let same : suc k ≡ number = cc in (refl, refl, same, λ z. (let y : suc k ≡ 0 = same ∙ z in cc))
  by_number None (Some s) k number e = absurd cc
  by_number (Some d) s k number e = absurd cc

  module _ (m : MachineState O) (p : ℕ) where
    told : (number : ℕ) → Blocked O m p number → status O m p ≡ states.Blocked number
    told number d =
        let none : blocked_by O None None number ≡ Some number = some_number number d.forwarded in
        let is : blocked_number O m p ≡ Some number = rw (d.requests.has, d.requests.asks, d.blocks, d.quiet) (ap (blocked_by O None None) (sym d.requests.number_is) ∙ none) in
        ap (λ (b : Bool). cond b (live_state (blocked_number O m p)) (end_state (O.end_of m.kernel p))) d.live ∙ ap live_state is

    back : (number : ℕ) → O.live m.kernel p ≡ true → blocked_number O m p ≡ Some number → Blocked O m p number
    back number live e = by_user (m.users p) refl e
      where
        by_request : (u : O.User) → m.users p ≡ Some u → (o : Option O.Request) → O.asks u ≡ o → option_and_then (λ r. blocked_by O (O.serve m.kernel p r) (O.lowest m.kernel p) (O.number r)) o ≡ Some number → Blocked O m p number
        by_request u has None asks f = absurd cc
        by_request u has (Some r) asks f =
            let x = by_number (O.serve m.kernel p r) (O.lowest m.kernel p) (O.number r) number f in
            record { live = live; requests = record { user = u; request = r; has = has; asks = asks; number_is = sym x.2 }; forwarded = x.3; blocks = x.0; quiet = x.1 }

        by_user : (o : Option O.User) → m.users p ≡ o → option_and_then (λ u. option_and_then (λ r. blocked_by O (O.serve m.kernel p r) (O.lowest m.kernel p) (O.number r)) (O.asks u)) o ≡ Some number → Blocked O m p number
        by_user None has f = absurd cc
        by_user (Some u) has f = by_request u has (O.asks u) refl f

    pub blocked_told : (number : ℕ) → Same (Blocked O m p number) (status O m p ≡ states.Blocked number)
    blocked_told number = (told number, λ e. go (O.live m.kernel p) refl e)
      where
        go : (b : Bool) → O.live m.kernel p ≡ b → cond b (live_state (blocked_number O m p)) (end_state (O.end_of m.kernel p)) ≡ states.Blocked number → Blocked O m p number
        go true live e = back number live (live_is (blocked_number O m p) number e)
        go false live e = absurd (end_not (O.end_of m.kernel p) number e)

    pub ended_told : O.live m.kernel p ≡ false → O.end_of m.kernel p ≢ None → (how : End) × (O.end_of m.kernel p ≡ Some how) × (status O m p ≡ end_state (Some how))
    ended_told dead some = go (O.end_of m.kernel p) refl
      where
        go : (o : Option End) → O.end_of m.kernel p ≡ o → (how : End) × (O.end_of m.kernel p ≡ Some how) × (status O m p ≡ end_state (Some how))
        go None e = absurd (some e)
        go (Some how) e = (how, e, ap (λ (b : Bool). cond b (live_state (blocked_number O m p)) (end_state (O.end_of m.kernel p))) dead ∙ ap end_state e)
