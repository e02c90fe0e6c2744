-- What home's pokes are in the machine's words.
use Rattle.std.proofs.Common.{◌≡◌, ◌≢◌, ℕ, ◌<◌, ◌==◌, ◌&&◌, Bool, true, false, not, cond, Option, Some, None, List, [], ◌∷◌, ◌++◌, refl, sym, ap, ◌∙◌, subst, arith}
use Rattle.std.specs.Prelude.{nat_lt}
use Rattle.std.proofs.lemmas.Bool.Decides.{nat_tests}
use Rattle.std.proofs.lemmas.List.{append-nil}
use Rattle.protocol.specs.Ops.{Ops, Sound, Took, is_child}
use Rattle.protocol.specs.Deeds.{Manner, Did, Broke, Fell, Paused}
use Rattle.protocol.specs.Notes.{is_some, Slot}
use Rattle.protocol.specs.Home.{First, last, last_by, Acts, give, unheld, to_poke, both, in_order as ordered, other_than}
use Rattle.protocol.specs.Does.{pokes_of}
use Rattle.protocol.proofs.Talk.{same_numbers, other_numbers, numbers_same, numbers_other}
use Rattle.run_laws.specs.Machine.{Do, Take, Fall, MachineState, listed, raised_in, raised_by}
use Rattle.run_laws.specs.Schedule.{call_step, take_step}
use Rattle.run_laws.specs.PokeLaw.{in_order, to_wake}
use Rattle.run_laws.proofs.Plays.{served}
use Rattle.run_laws.proofs.Replay.{FirstPlayed}

lt_apart : (q r : ℕ) → nat_lt q r ≡ true → q ≢ r
lt_apart q r e f = let z : q < r = grind (arith, nat_tests) in omega (arith, z, f)

pub both_ordered : (a b : Option ℕ) → both a b ≡ in_order (listed a ++ listed b)
both_ordered None None = refl
both_ordered None (Some r) = refl
both_ordered (Some q) None = refl
both_ordered (Some q) (Some r) = go (nat_lt q r) (q == r) refl refl
  where
    go : (x y : Bool) → nat_lt q r ≡ x → (q == r) ≡ y → ordered x y q r ≡ cond y (r ∷ []) (cond x (q ∷ r ∷ []) (r ∷ q ∷ []))
    go true true e f = absurd (lt_apart q r e (numbers_same q r f))
    go true false e f = refl
    go false true e f = ap (λ (k : ℕ). k ∷ []) (numbers_same q r f)
    go false false e f = refl

module _ (O : Ops) (S : Sound O) where
  wake_append : (own : Option ℕ) (held : ℕ → Bool) (m2 : MachineState O) (xs ys : List ℕ) → to_wake O own held m2 (xs ++ ys) ≡ to_wake O own held m2 xs ++ to_wake O own held m2 ys
  wake_append own held m2 [] ys = refl
  wake_append own held m2 (q ∷ xs) ys = go (not (is_child own q) && (is_some (O.lowest m2.kernel q) && not (held q))) (wake_append own held m2 xs ys)
    where
      go : (b : Bool) → to_wake O own held m2 (xs ++ ys) ≡ to_wake O own held m2 xs ++ to_wake O own held m2 ys → cond b (q ∷ to_wake O own held m2 (xs ++ ys)) (to_wake O own held m2 (xs ++ ys)) ≡ cond b (q ∷ to_wake O own held m2 xs) (to_wake O own held m2 xs) ++ to_wake O own held m2 ys
      go true e = ap (λ (k : List ℕ). q ∷ k) e
      go false e = e

  module _ (k : O.Kernel) (slots : ℕ → Slot O) (held : ℕ → Bool) (m2 : MachineState O) (same : k ≡ m2.kernel) (holds : (q : ℕ) → unheld O (slots q).call ≡ not (held q)) where
    -- one that a signal was raised at, of whom none is served
    wake_any : (a : Option ℕ) → listed (to_poke O k slots a) ≡ to_wake O None held m2 (listed a)
    wake_any None = refl
    wake_any (Some q) =
        ap (λ (b : Bool). listed (cond b (Some q) None)) (λ i. is_some (O.lowest (same i) q) && (holds q) i) ∙ go (is_some (O.lowest m2.kernel q) && not (held q))
      where
        go : (b : Bool) → listed (cond b (Some q) None) ≡ cond b (q ∷ []) []
        go true = refl
        go false = refl

    wake_other : (p : ℕ) (a : Option ℕ) → listed (to_poke O k slots (other_than p a)) ≡ to_wake O (Some p) held m2 (listed a)
    wake_other p None = refl
    wake_other p (Some q) = go (q == p) refl
      where
        own : (q == p) ≡ true → (p == q) ≡ true
        own e = same_numbers p q (sym (numbers_same q p e))

        apart : (q == p) ≡ false → (p == q) ≡ false
        apart e = other_numbers p q (λ z. numbers_other q p e (sym z))

        at : (b : Bool) → listed (cond b (Some q) None) ≡ cond b (q ∷ []) []
        at true = refl
        at false = refl

        go : (b : Bool) → (q == p) ≡ b → listed (to_poke O k slots (cond b None (Some q))) ≡ to_wake O (Some p) held m2 (q ∷ [])
        go true e = rw (own e) refl
        go false e =
            ap (λ (b : Bool). listed (cond b (Some q) None)) (λ i. is_some (O.lowest (same i) q) && (holds q) i)
            ∙ (at (is_some (O.lowest m2.kernel q) && not (held q)) ∙ sym (ap (λ (b : Bool). cond (not b && (is_some (O.lowest m2.kernel q) && not (held q))) (q ∷ []) []) (apart e)))

    pub wakes : (p : ℕ) (a b : Option ℕ) → pokes_of O p k slots a b ≡ in_order (to_wake O (Some p) held m2 (listed a ++ listed b))
    wakes p a b =
        both_ordered (to_poke O k slots (other_than p a)) (to_poke O k slots (other_than p b))
        ∙ ap in_order ((λ i. (wake_other p a) i ++ (wake_other p b) i) ∙ sym (wake_append (Some p) held m2 (listed a) (listed b)))

    pub wakes_any : (a : Option ℕ) → both (to_poke O k slots a) None ≡ in_order (to_wake O None held m2 (listed a))
    wakes_any a = both_ordered (to_poke O k slots a) None ∙ ap in_order (append-nil (listed (to_poke O k slots a)) ∙ wake_any a)

  -- what the steps of a served call raise
  take_raised : (p : ℕ) (room : Bool) (u : O.User) (signal : Option ℕ) (m : MachineState O) → m.users p ≡ Some u → ((s : ℕ) → O.lowest m.kernel p ≡ Some s → O.take m.kernel p (O.room u) ≡ O.take m.kernel p room) → signal ≡ (last O m.kernel p room).signal → raised_by O (take_step signal p) (Some m) ≡ listed (last O m.kernel p room).raised
  take_raised p room u signal m user rooms is = go (O.lowest m.kernel p) refl is
    where
      go : (o : Option ℕ) → O.lowest m.kernel p ≡ o → signal ≡ (last_by O o m.kernel p room).signal → raised_by O (take_step signal p) (Some m) ≡ listed (last_by O o m.kernel p room).raised
      go None e f = ap (λ (s : Option ℕ). raised_by O (take_step s p) (Some m)) f
      go (Some s) e f =
          ap (λ (s : Option ℕ). raised_by O (take_step s p) (Some m)) f
          ∙ (append-nil (raised_in O (Take p) m)
          ∙ (rw user (ap (λ (x : Took O.Kernel O.Taken). listed x.raised) (rooms s e))))

  pub pause_raised : (p : ℕ) (room : Bool) (u : O.User) (signal : Option ℕ) (m : MachineState O) → m.users p ≡ Some u → O.room u ≡ room → signal ≡ (last O m.kernel p room).signal → raised_by O (call_step Paused p ++ take_step signal p) (Some m) ≡ listed None ++ listed (last O m.kernel p room).raised
  pause_raised p room u signal m user rooms is = take_raised p room u signal m user (λ s e. ap (O.take m.kernel p) rooms) is

  pub call_raised : (manner : Manner) (p : ℕ) (u : O.User) (r : O.Request) (f : First O) (signal : Option ℕ) (m : MachineState O) → m.users p ≡ Some u → O.asks u ≡ Some r → Acts O manner m.kernel p r f → (x : FirstPlayed O S manner p u r f m) → signal ≡ (last O x.machine.kernel p (O.room_of r)).signal
      → raised_by O (call_step manner p ++ take_step signal p) (Some m) ≡ listed f.raised ++ listed (last O x.machine.kernel p (O.room_of r)).raised
  call_raised Did p u r f signal m user asks (d, served, some, is) x sig =
      let first : raised_in O (Do p) m ≡ listed f.raised = rw (user, asks, served) (ap (λ (k : First O). listed k.raised) (sym is)) in
      (λ i. first i ++ raised_by O (take_step signal p) (x.plays_it i)) ∙ ap (λ (k : List ℕ). listed f.raised ++ k) (take_raised p (O.room_of r) (give O u f.answer) signal x.machine x.user (λ s e. subst (λ (k : O.Kernel). O.take k p (O.room (give O u f.answer)) ≡ O.take k p (O.room_of r)) (sym x.kernel) (x.room s (ap (λ (k : O.Kernel). O.lowest k p) (sym x.kernel) ∙ e))) sig)
  call_raised Broke p u r f signal m user asks (s, low, blocked, some, is) x sig =
      let first : [] ≡ listed f.raised = ap (λ (k : First O). listed k.raised) (sym is) in
      (λ i. first i ++ raised_by O (take_step signal p) (x.plays_it i)) ∙ ap (λ (k : List ℕ). listed f.raised ++ k) (take_raised p (O.room_of r) (give O u f.answer) signal x.machine x.user (λ s e. subst (λ (k : O.Kernel). O.take k p (O.room (give O u f.answer)) ≡ O.take k p (O.room_of r)) (sym x.kernel) (x.room s (ap (λ (k : O.Kernel). O.lowest k p) (sym x.kernel) ∙ e))) sig)
  call_raised Fell p u r f signal m user asks (none, is) x sig =
      let first : raised_in O (Fall p) m ≡ listed f.raised = rw (user, asks) (ap (λ (k : First O). listed k.raised) (sym is)) in
      (λ i. first i ++ raised_by O (take_step signal p) (x.plays_it i)) ∙ ap (λ (k : List ℕ). listed f.raised ++ k) (take_raised p (O.room_of r) (give O u f.answer) signal x.machine x.user (λ s e. subst (λ (k : O.Kernel). O.take k p (O.room (give O u f.answer)) ≡ O.take k p (O.room_of r)) (sym x.kernel) (x.room s (ap (λ (k : O.Kernel). O.lowest k p) (sym x.kernel) ∙ e))) sig)
  call_raised Paused p u r f signal m user asks a x sig = absurd a
