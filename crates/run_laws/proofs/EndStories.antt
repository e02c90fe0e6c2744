-- The worked ends: which runs are done, which are stuck, and where more is due.
use Rattle.std.proofs.Common.{◌≡◌, ◌≢◌, ◌<◌, ◌≤◌, ℕ, zero, suc, ◌==◌, ◌⊎◌, inl, inr, Bool, true, false, Option, Some, None, [], ◌∷◌, refl, sym, ap, ◌∙◌, subst, arith}
use Rattle.protocol.specs.Ops.{Ops}
use Rattle.protocol.specs.Rests.{Retry, RunOn, NextLine, SendHalf}
use Rattle.protocol.proofs.Talk.{numbers_same}
use Rattle.run_laws.specs.Machine.{MachineState, empty}
use Rattle.run_laws.specs.Schedule.{machine_at}
use Rattle.run_laws.specs.Facts.{facts, is_held}
use Rattle.protocol.specs.Does.{HalfDueTo}
use Rattle.run_laws.specs.Due.{CanGoOn}
use Rattle.run_laws.specs.Loads.{IsFree}
use Rattle.run_laws.specs.GossipLaw.{HalfIsDue}
use Rattle.run_laws.specs.Vectors.{exchanged}
use Rattle.run_laws.specs.Ends.{Blocked, IsDone, IsStuck}
use Rattle.run_laws.specs.SmallMachine.{Request, ReadCall, Calls, Program, named}
use Rattle.run_laws.specs.Histories.{read, program, hello_script, hello, hello_events}
use Rattle.run_laws.specs.EndStories.{NothingDue, reader_script, reader, reader_events, keeper_script, keeper, keeper_events, hello_ends, reader_ends, keeper_ends, reached_goes_on, one_event_full, context_before}

abbrev pub the : (O : Ops) → Option (MachineState O) → MachineState O
the O None = empty O
the O (Some m) = m

pub first_or : (p : ℕ) → (p ≡ 1) ⊎ ((p == 1) ≡ false)
first_or p = go (p == 1) refl
  where
    go : (b : Bool) → (p == 1) ≡ b → (p ≡ 1) ⊎ ((p == 1) ≡ false)
    go true e = inl (numbers_same p 1 e)
    go false e = inr e

abbrev pub hello_end : MachineState hello
hello_end = the hello (machine_at hello (read hello_script hello_events))

abbrev pub reader_end : MachineState reader
reader_end = the reader (machine_at reader (read reader_script reader_events))

abbrev pub keeper_end : MachineState keeper
keeper_end = the keeper (machine_at keeper (read keeper_script keeper_events))

hello_dead : (p : ℕ) → hello_end.kernel.alive p ≡ false
hello_dead p = go (first_or p)
  where
    go : (p ≡ 1) ⊎ ((p == 1) ≡ false) → hello_end.kernel.alive p ≡ false
    go (inl e) = ap hello_end.kernel.alive e
    go (inr e) = rw e refl

hello_unheld : (p : ℕ) → is_held (facts p (read hello_script hello_events)) ≡ false
hello_unheld p = go (first_or p)
  where
    go : (p ≡ 1) ⊎ ((p == 1) ≡ false) → is_held (facts p (read hello_script hello_events)) ≡ false
    go (inl e) = ap (λ (k : ℕ). is_held (facts k (read hello_script hello_events))) e
    go (inr e) = rw e refl

pub hello_nothing : NothingDue hello (read hello_script hello_events) hello_end
hello_nothing (Retry p) n d = let z : true ≡ false = sym d.1.held ∙ hello_unheld p in cc
hello_nothing (RunOn p) n d = let z : true ≡ false = sym d.live ∙ hello_dead p in cc
hello_nothing (SendHalf other) n d = let z : 2 ≤ 1 = d.many in omega (arith, z)
hello_nothing NextLine n d = let z : None ≡ Some d.1.line = d.1.next in cc

hello_done : IsDone hello (read hello_script hello_events) hello_end
hello_done = record { script = refl; ended = hello_dead }

pub hello_over : hello_ends
hello_over = (hello_nothing, hello_done, refl)

-- the reader
reads : (u : Program) (r : Request) (o : Option Program) → o ≡ Some u → o ≡ Some (named 1 (program (Calls ReadCall ∷ []))) → Rattle.run_laws.specs.SmallMachine.asked u.todo ≡ Some r → r ≡ ReadCall
reads u r o e f a = let same : u ≡ named 1 (program (Calls ReadCall ∷ [])) = cc in let x : Some ReadCall ≡ Some r = ap (λ (k : Program). Rattle.run_laws.specs.SmallMachine.asked k.todo) (sym same) ∙ a in cc

reader_other : (p : ℕ) → (p == 1) ≡ false → (is_held (facts p (read reader_script reader_events)) ≡ false) × (reader_end.kernel.alive p ≡ false)
reader_other p e = (rw e refl, rw e refl)

reader_blocks : CanGoOn reader 1 (read reader_script reader_events) reader_end → ⊥
reader_blocks d = go d.ready
  where
    is : d.requests.request ≡ ReadCall
    is = reads d.requests.user d.requests.request (reader_end.users 1) d.requests.has refl d.requests.asks

    go : (reader.serve reader_end.kernel 1 d.requests.request ≢ None) ⊎ (reader.lowest reader_end.kernel 1 ≢ None) → ⊥
    go (inl f) = f (ap (reader.serve reader_end.kernel 1) is)
    go (inr f) = f refl

pub reader_nothing : NothingDue reader (read reader_script reader_events) reader_end
reader_nothing (Retry p) n d = go (first_or p)
  where
    go : (p ≡ 1) ⊎ ((p == 1) ≡ false) → ⊥
    go (inl e) = reader_blocks (subst (λ (k : ℕ). CanGoOn reader k (read reader_script reader_events) reader_end) e d.1)
    go (inr e) = let z : true ≡ false = sym d.1.held ∙ (reader_other p e).0 in cc
reader_nothing (RunOn p) n d = go (first_or p)
  where
    go : (p ≡ 1) ⊎ ((p == 1) ≡ false) → ⊥
    go (inl e) = let z : true ≡ false = sym (ap (λ (k : ℕ). (facts k (read reader_script reader_events)).waits) e) ∙ d.awake in cc
    go (inr e) = let z : true ≡ false = sym d.live ∙ (reader_other p e).1 in cc
reader_nothing (SendHalf other) n d = let z : 2 ≤ 1 = d.many in omega (arith, z)
reader_nothing NextLine n d = let z : None ≡ Some d.1.line = d.1.next in cc

reader_blocked : Blocked reader reader_end 1 8
reader_blocked = record { live = refl; requests = record { user = _; request = ReadCall; has = refl; asks = refl; number_is = refl }; forwarded = λ z. omega (arith, z); blocks = refl; quiet = refl }

reader_stuck : IsStuck reader (read reader_script reader_events) reader_end
reader_stuck = record {
  not_done = λ d. (let z : true ≡ false = d.ended 1 in cc);
  blocked = λ p live. go p live (first_or p);
  script = λ d. (let z : None ≡ Some d.line = d.next in cc);
}
  where
    go : (p : ℕ) → reader_end.kernel.alive p ≡ true → (p ≡ 1) ⊎ ((p == 1) ≡ false) → (number : ℕ) × Blocked reader reader_end p number
    go p live (inl e) = (8, subst (λ (k : ℕ). Blocked reader reader_end k 8) (sym e) reader_blocked)
    go p live (inr e) = let z : true ≡ false = sym live ∙ (reader_other p e).1 in absurd cc

pub reader_over : reader_ends
reader_over = (reader_nothing, reader_stuck, refl)

-- the reader that is to move
keeper_other : (p : ℕ) → (p == 1) ≡ false → (is_held (facts p (read keeper_script keeper_events)) ≡ false) × (keeper_end.kernel.alive p ≡ false)
keeper_other p e = go (p == 0) refl
  where
    go : (b : Bool) → (p == 0) ≡ b → (is_held (facts p (read keeper_script keeper_events)) ≡ false) × (keeper_end.kernel.alive p ≡ false)
    go true f = (rw (e, f) refl, rw e refl)
    go false f = (rw (e, f) refl, rw e refl)

keeper_blocks : CanGoOn keeper 1 (read keeper_script keeper_events) keeper_end → ⊥
keeper_blocks d = go d.ready
  where
    is : d.requests.request ≡ ReadCall
    is = reads d.requests.user d.requests.request (keeper_end.users 1) d.requests.has refl d.requests.asks

    go : (keeper.serve keeper_end.kernel 1 d.requests.request ≢ None) ⊎ (keeper.lowest keeper_end.kernel 1 ≢ None) → ⊥
    go (inl f) = f (ap (keeper.serve keeper_end.kernel 1) is)
    go (inr f) = f refl

-- each has told what it still has
keeper_told : (n other : ℕ) → HalfIsDue keeper n other (read keeper_script keeper_events) keeper_end → ⊥
keeper_told zero other d = go d.due
  where
    go : HalfDueTo keeper 0 other 1 3 ((p : ℕ) → IsFree keeper 0 p (read keeper_script keeper_events) keeper_end → ⊥) ((exchanged keeper (read keeper_script keeper_events)).nodes 0) → ⊥
    go (inl x) = let z : 1 < 1 = x.0 in omega (arith, z)
    go (inr (past, is, inl x)) = let z : 16 ≤ 0 = x in omega (arith, z)
    go (inr (past, is, inr (none, inl x))) = x refl
    go (inr (past, is, inr (none, inr x))) = x refl
keeper_told (suc zero) other d = go d.due
  where
    go : HalfDueTo keeper 1 other 0 4 ((p : ℕ) → IsFree keeper 1 p (read keeper_script keeper_events) keeper_end → ⊥) ((exchanged keeper (read keeper_script keeper_events)).nodes 1) → ⊥
    go (inl x) = let z : 1 < 1 = x.0 in omega (arith, z)
    go (inr (past, is, inl x)) = let z : 16 ≤ 0 = x in omega (arith, z)
    go (inr (past, is, inr (none, inl x))) = x refl
    go (inr (past, is, inr (none, inr x))) = x refl
keeper_told (suc (suc n)) other d = let z : suc (suc n) < 2 = d.here in omega (arith, z)

pub keeper_nothing : NothingDue keeper (read keeper_script keeper_events) keeper_end
keeper_nothing (Retry p) n d = go (first_or p)
  where
    go : (p ≡ 1) ⊎ ((p == 1) ≡ false) → ⊥
    go (inl e) = keeper_blocks (subst (λ (k : ℕ). CanGoOn keeper k (read keeper_script keeper_events) keeper_end) e d.1)
    go (inr e) = let z : true ≡ false = sym d.1.held ∙ (keeper_other p e).0 in cc
keeper_nothing (RunOn p) n d = go (first_or p)
  where
    go : (p ≡ 1) ⊎ ((p == 1) ≡ false) → ⊥
    go (inl e) = let z : true ≡ false = sym (ap (λ (k : ℕ). (facts k (read keeper_script keeper_events)).waits) e) ∙ d.awake in cc
    go (inr e) = let z : true ≡ false = sym d.live ∙ (keeper_other p e).1 in cc
keeper_nothing (SendHalf other) n d = keeper_told n other d
keeper_nothing NextLine n d = let z : None ≡ Some d.1.line = d.1.next in cc

keeper_blocked : Blocked keeper keeper_end 1 8
keeper_blocked = record { live = refl; requests = record { user = _; request = ReadCall; has = refl; asks = refl; number_is = refl }; forwarded = λ z. omega (arith, z); blocks = refl; quiet = refl }

keeper_stuck : IsStuck keeper (read keeper_script keeper_events) keeper_end
keeper_stuck = record {
  not_done = λ d. (let z : true ≡ false = d.ended 1 in cc);
  blocked = λ p live. go p live (first_or p);
  script = λ d. (let z : None ≡ Some d.line = d.next in cc);
}
  where
    go : (p : ℕ) → keeper_end.kernel.alive p ≡ true → (p ≡ 1) ⊎ ((p == 1) ≡ false) → (number : ℕ) × Blocked keeper keeper_end p number
    go p live (inl e) = (8, subst (λ (k : ℕ). Blocked keeper keeper_end k 8) (sym e) keeper_blocked)
    go p live (inr e) = let z : true ≡ false = sym live ∙ (keeper_other p e).1 in absurd cc

pub keeper_over : keeper_ends
keeper_over = (keeper_nothing, keeper_stuck, refl, record { waits = refl; kept = refl; for_line = refl; number = 8; blocked = keeper_blocked }, refl)

pub reached_over : reached_goes_on
reached_over = (
  (refl, record { held = refl; number = 8; requests = record { user = _; request = ReadCall; has = refl; asks = refl; number_is = refl }; ready = inr (λ z. cc) }),
  λ d. (let z : Some 15 ≡ None = (d.blocked 1 refl).1.quiet in cc),
)

pub full_over : one_event_full
full_over = λ w. record { full = refl; has = inr (RunOn 1, record { holder = refl; live = refl; awake = refl; settled = refl }); least = λ k less full x. omega (arith, less) }

pub before_over : context_before
before_over = (refl, refl)
