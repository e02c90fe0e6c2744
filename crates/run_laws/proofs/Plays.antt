-- How the machine plays a run, event by event.
use Rattle.std.proofs.Common.{◌≡◌, ℕ, cond, Option, Some, None, List, [], ◌∷◌, ◌++◌, refl, sym, ap, ◌∙◌, subst}
use Rattle.std.specs.Prelude.{option_and_then}
use Rattle.protocol.specs.Ops.{Ops, typed, has_text}
use Rattle.protocol.specs.Deeds.{Input, Text, Finish, Nothing, Manner, Did, Broke, Fell, Paused, Deed, Run, Kill, Bid, Unsent, Other, Steps, Sent, Heed, Held, Served, Got, Poked, Begin, Keep, Missed, Again, Allows, Denies, Depart, Stay, Land, Told, Refused, Closed, Gossips, Strange, Noted}
use Rattle.run_laws.specs.Machine.{Step, MachineState, empty, with_kernel, launched, raised, fed, stepped, did, broke, fell, took, machine_step, machine_steps}
use Rattle.run_laws.specs.Schedule.{call_step, take_step, steps_of, schedule, machine_at, With}

pub with_some : {A : Type 0} (o : Option A) (a : A) (P : A → Type 0) → o ≡ Some a → P a → With o P
with_some {A = A} o a P e x = subst (λ (k : Option A). With k P) (sym e) x

module _ (O : Ops) where
  abbrev pub typed_in : Input → MachineState O → Option (MachineState O)
  typed_in input m = cond (has_text O input) (Some (with_kernel O (typed O input m.kernel) m)) None

  abbrev pub took_where : Option ℕ → ℕ → MachineState O → Option (MachineState O)
  took_where None p m = Some m
  took_where (Some s) p m = took O p m

  abbrev pub served : Manner → ℕ → MachineState O → Option (MachineState O)
  served Did p m = did O p m
  served Broke p m = broke O p m
  served Fell p m = fell O p m
  served Paused p m = Some m

  abbrev pub plays : Deed → MachineState O → Option (MachineState O)
  plays (Run line i p) m = launched O i m
  plays (Kill line p g poked) m = raised O p g m
  plays (Bid line p to) m = Some m
  plays (Unsent line p never) m = Some m
  plays (Other line input) m = typed_in input m
  plays (Steps p k) m = stepped O p k m
  plays (Sent p k) m = Some m
  plays (Heed p) m = Some m
  plays (Held p k) m = Some m
  plays (Served p manner number value child signal ends more poked) m = option_and_then (took_where signal p) (served manner p m)
  plays (Got p child ended kept) m = Some m
  plays (Poked p used) m = Some m
  plays (Begin p to reason) m = Some m
  plays (Keep p to line) m = Some m
  plays (Missed p to line) m = Some m
  plays (Again p to place line) m = Some m
  plays (Allows p from need) m = Some m
  plays (Denies p from need free) m = Some m
  plays (Depart p to) m = Some m
  plays (Stay p to need free) m = Some m
  plays (Land p source) m = Some m
  plays (Told p at source hops line poked) m = Some m
  plays (Refused p to why line) m = Some m
  plays (Closed line) m = Some m
  plays (Gossips heard other) m = Some m
  plays (Strange p) m = Some m

  abbrev pub replay : List Noted → Option (MachineState O)
  replay [] = Some (empty O)
  replay (e ∷ before) = option_and_then (plays e.what) (replay before)

  steps_append : (xs ys : List Step) (m : MachineState O) → machine_steps O (xs ++ ys) m ≡ option_and_then (machine_steps O ys) (machine_steps O xs m)
  steps_append [] ys m = refl
  steps_append (s ∷ xs) ys m = go (machine_step O s m) (λ k. steps_append xs ys k)
    where
      go : (o : Option (MachineState O)) → ((k : MachineState O) → machine_steps O (xs ++ ys) k ≡ option_and_then (machine_steps O ys) (machine_steps O xs k)) → option_and_then (machine_steps O (xs ++ ys)) o ≡ option_and_then (machine_steps O ys) (option_and_then (machine_steps O xs) o)
      go None later = refl
      go (Some k) later = later k

  -- one step, and no other
  alone : (o : Option (MachineState O)) → option_and_then (machine_steps O []) o ≡ o
  alone None = refl
  alone (Some k) = refl

  pub call_plays : (manner : Manner) (p : ℕ) (m : MachineState O) → machine_steps O (call_step manner p) m ≡ served manner p m
  call_plays Did p m = alone (did O p m)
  call_plays Broke p m = alone (broke O p m)
  call_plays Fell p m = alone (fell O p m)
  call_plays Paused p m = refl

  take_plays : (signal : Option ℕ) (p : ℕ) (m : MachineState O) → machine_steps O (take_step signal p) m ≡ took_where signal p m
  take_plays None p m = refl
  take_plays (Some s) p m = alone (took O p m)

  then_same : (f g : MachineState O → Option (MachineState O)) → ((m : MachineState O) → f m ≡ g m) → (o : Option (MachineState O)) → option_and_then f o ≡ option_and_then g o
  then_same f g e None = refl
  then_same f g e (Some m) = e m

  other_plays : (line : ℕ) (input : Input) (m : MachineState O) → machine_steps O (steps_of (Other line input)) m ≡ typed_in input m
  other_plays line (Text i) m = alone (fed O i m)
  other_plays line Finish m = refl
  other_plays line Nothing m = refl

  one_plays : (what : Deed) (m : MachineState O) → machine_steps O (steps_of what) m ≡ plays what m
  one_plays (Run line i p) m = alone (launched O i m)
  one_plays (Kill line p g poked) m = alone (raised O p g m)
  one_plays (Bid line p to) m = refl
  one_plays (Unsent line p never) m = refl
  one_plays (Other line input) m = other_plays line input m
  one_plays (Steps p k) m = alone (stepped O p k m)
  one_plays (Sent p k) m = refl
  one_plays (Heed p) m = refl
  one_plays (Held p k) m = refl
  one_plays (Served p manner number value child signal ends more poked) m =
      steps_append (call_step manner p) (take_step signal p) m ∙ (ap (option_and_then (machine_steps O (take_step signal p))) (call_plays manner p m) ∙ then_same (machine_steps O (take_step signal p)) (took_where signal p) (take_plays signal p) (served manner p m))
  one_plays (Got p child ended kept) m = refl
  one_plays (Poked p used) m = refl
  one_plays (Begin p to reason) m = refl
  one_plays (Keep p to line) m = refl
  one_plays (Missed p to line) m = refl
  one_plays (Again p to place line) m = refl
  one_plays (Allows p from need) m = refl
  one_plays (Denies p from need free) m = refl
  one_plays (Depart p to) m = refl
  one_plays (Stay p to need free) m = refl
  one_plays (Land p source) m = refl
  one_plays (Told p at source hops line poked) m = refl
  one_plays (Refused p to why line) m = refl
  one_plays (Closed line) m = refl
  one_plays (Gossips heard other) m = refl
  one_plays (Strange p) m = refl

  -- event by event, or by the whole schedule
  pub at_replay : (es : List Noted) → machine_at O es ≡ replay es
  at_replay [] = refl
  at_replay (e ∷ before) =
      steps_append (schedule before) (steps_of e.what) (empty O) ∙ (ap (option_and_then (machine_steps O (steps_of e.what))) (at_replay before) ∙ then_same (machine_steps O (steps_of e.what)) (plays e.what) (one_plays e.what) (replay before))
