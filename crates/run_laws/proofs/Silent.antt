-- No process at which a signal becomes deliverable is missed by the pokes.
use Rattle.std.proofs.Common.{◌≡◌, ◌≢◌, ℕ, ◌==◌, inl, inr, Bool, true, false, not, cond, Option, Some, None, List, refl, sym, ap, ◌∙◌, subst}
use Rattle.std.specs.Prelude.{nat_lt, ℤ}
use Rattle.protocol.specs.Ops.{Ops, Sound, is_child}
use Rattle.protocol.specs.Deeds.{Manner, Did, Broke, Fell, Paused, Deed, Run, Kill, Bid, Unsent, Other, Steps, Sent, Heed, Held, Served, Got, Poked, Begin, Keep, Missed, Again, Allows, Denies, Depart, Stay, Land, Told, Refused, Closed, Gossips, Strange}
use Rattle.protocol.specs.Notes.{Slot, Local}
use Rattle.protocol.specs.Spots.{Spot}
use Rattle.protocol.specs.Home.{First, last, last_by, Acts, unheld, to_poke, both, in_order, other_than}
use Rattle.protocol.specs.Does.{pokes_of}
use Rattle.protocol.specs.Needs.{Needs, ServedSo, ServedCall}
use Rattle.protocol.proofs.Talk.{other_numbers, numbers_same, numbers_other}
use Rattle.run_laws.specs.Machine.{MachineState}
use Rattle.run_laws.specs.SilentLaw.{Among, SilentAt}
use Rattle.call_table.specs.declared.process.End.{End}

child_is : (o : Option ℕ) (q : ℕ) → is_child o q ≡ true → o ≡ Some q
child_is None q e = absurd cc
child_is (Some c) q e = ap (λ (k : ℕ). Some k) (numbers_same c q e)

among_left : (q : ℕ) (b : Option ℕ) → Among q (both (Some q) b)
among_left q None = inl refl
among_left q (Some r) = go (nat_lt q r) (q == r) refl
  where
    go : (x y : Bool) → (q == r) ≡ y → Among q (in_order x y q r)
    go true y e = inl refl
    go false true e = inl refl
    go false false e = inr (inl refl)

among_right : (q : ℕ) (a : Option ℕ) → Among q (both a (Some q))
among_right q None = inl refl
among_right q (Some r) = go (nat_lt r q) (r == q) refl
  where
    go : (x y : Bool) → (r == q) ≡ y → Among q (in_order x y r q)
    go true y e = inr (inl refl)
    go false true e = inl (sym (numbers_same r q e))
    go false false e = inl refl

module _ (O : Ops) (S : Sound O) where
  quiet_last : (k : O.Kernel) (p : ℕ) (room : Bool) (q : ℕ) → q ≢ p → is_child (last O k p room).raised q ≡ false → O.lowest (last O k p room).kernel q ≡ O.lowest k q
  quiet_last k p room q ne = go (O.lowest k p)
    where
      go : (o : Option ℕ) → is_child (last_by O o k p room).raised q ≡ false → O.lowest (last_by O o k p room).kernel q ≡ O.lowest k q
      go None h = refl
      go (Some s) h = S.quiet_take k p room q ne h

  quiet_acts : (m : Manner) (k : O.Kernel) (p : ℕ) (r : O.Request) (f : First O) (q : ℕ) → Acts O m k p r f → q ≢ p → is_child f.child q ≡ false → is_child f.raised q ≡ false → O.lowest f.kernel q ≡ O.lowest k q
  quiet_acts Did k p r f q (d, served, some, is) ne h g = ap (λ (x : First O). O.lowest x.kernel q) is ∙ S.quiet_serve k p r d q served ne (ap (λ (x : First O). is_child x.child q) (sym is) ∙ h) (ap (λ (x : First O). is_child x.raised q) (sym is) ∙ g)
  quiet_acts Broke k p r f q (s, low, blocked, some, is) ne h g = ap (λ (x : First O). O.lowest x.kernel q) is
  quiet_acts Fell k p r f q (none, is) ne h g = ap (λ (x : First O). O.lowest x.kernel q) is ∙ S.quiet_fall k p r q ne (ap (λ (x : First O). is_child x.raised q) (sym is) ∙ g)
  quiet_acts Paused k p r f q a ne h g = absurd a

  -- one at which a signal was raised, that has a deliverable one and whose call is not held, is poked
  poked_one : (k : O.Kernel) (slots : ℕ → Slot O) (q s : ℕ) → O.lowest k q ≡ Some s → unheld O (slots q).call ≡ true → to_poke O k slots (Some q) ≡ Some q
  poked_one k slots q s low free = rw (low, free) refl

  other_one : (p q : ℕ) → q ≢ p → other_than p (Some q) ≡ Some q
  other_one p q ne = rw (other_numbers q p ne) refl

  among_poked : (p : ℕ) (k : O.Kernel) (slots : ℕ → Slot O) (a b : Option ℕ) (q s : ℕ) → q ≢ p → O.lowest k q ≡ Some s → unheld O (slots q).call ≡ true → (x y : Bool) → is_child a q ≡ x → is_child b q ≡ y → (x ≡ false → y ≡ false → ⊥) → Among q (pokes_of O p k slots a b)
  among_poked p k slots a b q s ne low free true y e f h =
      let one : to_poke O k slots (other_than p a) ≡ Some q = ap (λ (o : Option ℕ). to_poke O k slots (other_than p o)) (child_is a q e) ∙ (ap (to_poke O k slots) (other_one p q ne) ∙ poked_one k slots q s low free) in
      subst (λ (o : Option ℕ). Among q (both o (to_poke O k slots (other_than p b)))) (sym one) (among_left q _)
  among_poked p k slots a b q s ne low free false true e f h =
      let one : to_poke O k slots (other_than p b) ≡ Some q = ap (λ (o : Option ℕ). to_poke O k slots (other_than p o)) (child_is b q f) ∙ (ap (to_poke O k slots) (other_one p q ne) ∙ poked_one k slots q s low free) in
      subst (λ (o : Option ℕ). Among q (both (to_poke O k slots (other_than p a)) o)) (sym one) (among_right q _)
  among_poked p k slots a b q s ne low free false false e f h = absurd (h refl refl)

  module _ (n : ℕ) (old new : Local O) (s r : Spot O) (m m2 : MachineState O) (before : n ≡ 0 → old.kernel ≡ m.kernel) (now : n ≡ 0 → new.kernel ≡ m2.kernel) (held : ℕ → Bool) (holds : n ≡ 0 → (q : ℕ) → unheld O (old.slots q).call ≡ not (held q)) where
    apart : (p q : ℕ) → is_child (Some p) q ≡ false → q ≢ p
    apart p q e z = numbers_other p q e (sym z)

    call_silent : (manner : Manner) (p : ℕ) (number : Option ℕ) (value : Option ℤ) (child signal : Option ℕ) (ends : Option End) (more : Bool) (poked : List ℕ) → ServedCall O n p manner number value child signal ends more poked old new s r → SilentAt O (Served p manner number value child signal ends more poked) held m m2
    call_silent manner p number value child signal ends more poked d q g e f none some free =
        let ne = apart p q e in
        let room = O.room_of d.request in
        let low : O.lowest new.kernel q ≡ Some g = ap (λ (k : O.Kernel). O.lowest k q) (now d.home) ∙ some in
        subst (Among q) (sym d.tells)
        (among_poked p new.kernel old.slots d.first.raised (last O d.first.kernel p room).raised q g ne low (holds d.home q ∙ ap not free) _ _ refl refl
        (λ x y. (let z : Some g ≡ None = sym low ∙ (ap (λ (k : O.Kernel). O.lowest k q) d.answers.kernel ∙ (quiet_last d.first.kernel p room q ne y ∙ (quiet_acts manner old.kernel p d.request d.first q d.acts ne (ap (λ (o : Option ℕ). is_child o q) (sym d.answers.child_is) ∙ f) x ∙ (ap (λ (k : O.Kernel). O.lowest k q) (before d.home) ∙ none)))) in cc)))

    so_silent : (manner : Manner) (p : ℕ) (number : Option ℕ) (value : Option ℤ) (child signal : Option ℕ) (ends : Option End) (more : Bool) (poked : List ℕ) → ServedSo O manner n p number value child signal ends more poked old new s r → SilentAt O (Served p manner number value child signal ends more poked) held m m2
    so_silent Did p number value child signal ends more poked d = call_silent Did p number value child signal ends more poked d
    so_silent Broke p number value child signal ends more poked d = call_silent Broke p number value child signal ends more poked d
    so_silent Fell p number value child signal ends more poked d = call_silent Fell p number value child signal ends more poked d
    so_silent Paused p number value child signal ends more poked d = λ q g e f none some free.
        (let ne = apart p q e in
        let low : O.lowest new.kernel q ≡ Some g = ap (λ (k : O.Kernel). O.lowest k q) (now d.home) ∙ some in
        subst (Among q) (sym d.tells)
        (among_poked p new.kernel old.slots None (last O old.kernel p d.room).raised q g ne low (holds d.home q ∙ ap not free) _ _ refl refl
        (λ x y. (let z : Some g ≡ None = sym low ∙ (ap (λ (k : O.Kernel). O.lowest k q) d.answers.kernel ∙ (quiet_last old.kernel p d.room q ne y ∙ (ap (λ (k : O.Kernel). O.lowest k q) (before d.home) ∙ none))) in cc))))

    kill_silent : (line p g : ℕ) (poked : List ℕ) → Needs O (Kill line p g poked) n old new s r → SilentAt O (Kill line p g poked) held m m2
    kill_silent line p g poked d q x e f none some free =
        let low : O.lowest new.kernel q ≡ Some x = ap (λ (k : O.Kernel). O.lowest k q) (now d.home) ∙ some in
        subst (Among q) (sym d.tells) (go low (is_child (cond (O.hit old.kernel p g) (Some p) None) q) refl)
      where
        go : O.lowest new.kernel q ≡ Some x → (b : Bool) → is_child (cond (O.hit old.kernel p g) (Some p) None) q ≡ b → Among q (both (to_poke O new.kernel old.slots (cond (O.hit old.kernel p g) (Some p) None)) None)
        go low true h =
            let one : to_poke O new.kernel old.slots (cond (O.hit old.kernel p g) (Some p) None) ≡ Some q = ap (to_poke O new.kernel old.slots) (child_is _ q h) ∙ poked_one new.kernel old.slots q x low (holds d.home q ∙ ap not free) in
            subst (λ (o : Option ℕ). Among q (both o None)) (sym one) (among_left q None)
        go low false h = let z : Some x ≡ None = sym low ∙ (ap (λ (k : O.Kernel). O.lowest k q) d.kernel ∙ (S.quiet_raise old.kernel p g q h ∙ (ap (λ (k : O.Kernel). O.lowest k q) (before d.home) ∙ none))) in absurd cc

    pub silent_law : (what : Deed) → Needs O what n old new s r → SilentAt O what held m m2
    silent_law (Run line i p) d = tt
    silent_law (Kill line p g poked) d = kill_silent line p g poked d
    silent_law (Bid line p to) d = tt
    silent_law (Unsent line p never) d = tt
    silent_law (Other line input) d = tt
    silent_law (Steps p k) d = tt
    silent_law (Sent p k) d = tt
    silent_law (Heed p) d = tt
    silent_law (Held p k) d = tt
    silent_law (Served p manner number value child signal ends more poked) d = so_silent manner p number value child signal ends more poked d
    silent_law (Got p child ended kept) d = tt
    silent_law (Poked p used) d = tt
    silent_law (Begin p to reason) d = tt
    silent_law (Keep p to line) d = tt
    silent_law (Missed p to line) d = tt
    silent_law (Again p to place line) d = tt
    silent_law (Allows p from need) d = tt
    silent_law (Denies p from need free) d = tt
    silent_law (Depart p to) d = tt
    silent_law (Stay p to need free) d = tt
    silent_law (Land p source) d = tt
    silent_law (Told p at source hops line poked) d = tt
    silent_law (Refused p to why line) d = tt
    silent_law (Closed line) d = tt
    silent_law (Gossips heard other) d = tt
    silent_law (Strange p) d = tt
