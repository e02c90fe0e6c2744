-- Policies of choosers: their choices fit, and they have answers where the chooser has.
use Rattle.std.proofs.Common.{◌≡◌, ◌≢◌, ◌<◌, ◌≤◌, ◌^◌, ◌⊎◌, inl, inr, ℕ, suc, Bool, true, false, Option, Some, None, List, [], ◌∷◌, map, refl, sym, ap, ◌∙◌, subst, arith}
use Rattle.std.specs.Option.{option_map}
use Rattle.std.specs.Prelude.{All, Contains}
use Rattle.std.proofs.lemmas.Bool.Decides.{leb_tells, eqb_tells}
use Rattle.std.proofs.lemmas.List.Elements.{All-nil, All-cons, All-head, All-tail, All-weaker, All-map, All-contains}
use Rattle.call_table.specs.declared.process.Entry as entry_row
use Rattle.mem_usher.specs.declared.sight.Sight as sight_row
use Rattle.mem_usher.specs.declared.sight.Choice as choice_row
use Rattle.policy_box.specs.Policies.{IsInRange, FitsEntry, Fits, ChoosesFit}
use Rattle.protocol.specs.Gossip.{Entry, Movable, Sight, Choice, IsKnown, IsMovable}
use Rattle.node_machine.specs.Machine.{Policy}
use Rattle.node_machine.specs.Policy.{told_entry, told_movable, told_sight, told_choice, given_by, never, IsFitting, Answers, HasAnswers}

-- ---- members of what is told are members

all_movable : (xs : List Movable) → All (λ (m : Movable). IsMovable m.pid xs) xs
all_movable [] = All-nil (λ (m : Movable). IsMovable m.pid [])
all_movable (x ∷ xs) = All-cons (λ (m : Movable). IsMovable m.pid (x ∷ xs)) x xs (inl refl) (All-weaker (λ (m : Movable). IsMovable m.pid xs) (λ (m : Movable). IsMovable m.pid (x ∷ xs)) (λ y h. inr h) xs (all_movable xs))

all_known : (xs : List Entry) → All (λ (e : Entry). IsKnown e.node xs) xs
all_known [] = All-nil (λ (e : Entry). IsKnown e.node [])
all_known (x ∷ xs) = All-cons (λ (e : Entry). IsKnown e.node (x ∷ xs)) x xs (inl refl) (All-weaker (λ (e : Entry). IsKnown e.node xs) (λ (e : Entry). IsKnown e.node (x ∷ xs)) (λ y h. inr h) xs (all_known xs))

fits_movable : (s : Sight) (c : Choice) → Fits (told_sight s) (told_choice c) → IsMovable c.pid s.movable
fits_movable s c fits = All-contains (λ (m : ℕ × ℕ). IsMovable m.0 s.movable) (map told_movable s.movable) (c.pid, fits.pages) (All-map (λ (m : ℕ × ℕ). IsMovable m.0 s.movable) told_movable s.movable (all_movable s.movable)) fits.movable

fits_known : (s : Sight) (c : Choice) → Fits (told_sight s) (told_choice c) → IsKnown c.to s.known
fits_known s c fits =
    subst (λ (n : ℕ). IsKnown n s.known) fits.target
    (All-contains (λ (e : entry_row.Entry). IsKnown e.node s.known) (map told_entry s.known) fits.entry (All-map (λ (e : entry_row.Entry). IsKnown e.node s.known) told_entry s.known (all_known s.known)) fits.known)

module _ (answers : sight_row.Sight → Option choice_row.Choice → Type 0) (fit : (sight : sight_row.Sight) (choice : choice_row.Choice) → IsInRange sight → answers sight (Some choice) → Fits sight choice) where
  fits_here : (s : Sight) (c : Choice) → given_by answers s (Some c) → Fits (told_sight s) (told_choice c)
  fits_here s c (inl x) = fit (told_sight s) (told_choice c) x.0 x.1
  fits_here s c (inr x) = let z : Some c ≡ None = x.1 in absurd cc

  pub fitting : IsFitting (given_by answers)
  fitting = record {
    movable = λ s c e. fits_movable s c (fits_here s c e);
    known = λ s c e. fits_known s c (fits_here s c e);
    other = λ s c e. (fits_here s c e).other;
  }

pub never_fitting : IsFitting never
never_fitting = record { movable = λ s c e. absurd cc; known = λ s c e. absurd cc; other = λ s c e. absurd cc }

-- ---- whether a sight is in range is decided

abbrev Decided : Type 0 → Type 0
Decided P = P ⊎ (P → ⊥)

below : (a b : ℕ) → Decided (a < b)
below a b =
    elim (leb_tells b a) as (λ _. Decided (a < b)) [
      | inl h ↦ inr (λ l. let z = h.1 in omega (arith, z, l))
      | inr h ↦ inl h.1
    ]

apart : (a b : ℕ) → Decided (a ≢ b)
apart a b =
    elim (eqb_tells a b) as (λ _. Decided (a ≢ b)) [
      | inl h ↦ inr (λ ne. ne h.1)
      | inr h ↦ inl h.1
    ]

both : (P Q : Type 0) → Decided P → Decided Q → Decided (P × Q)
both P Q (inl p) (inl q) = inl (p, q)
both P Q (inl p) (inr q) = inr (λ x. q x.1)
both P Q (inr p) q = inr (λ x. p x.0)

each : {X : Type 0} (P : X → Type 0) → ((x : X) → Decided (P x)) → (xs : List X) → Decided (All P xs)
each P d [] = inl (All-nil P)
each P d (x ∷ xs) = go (d x) (each P d xs)
  where
    go : Decided (P x) → Decided (All P xs) → Decided (All P (x ∷ xs))
    go (inl p) (inl q) = inl (All-cons P x xs p q)
    go (inl p) (inr q) = inr (λ a. q (All-tail P x xs a))
    go (inr p) q = inr (λ a. p (All-head P x xs a))

entry_fits : (e : entry_row.Entry) → Decided (FitsEntry e)
entry_fits e = go (both _ _ (both _ _ (below e.node 256) (below e.load (2 ^ 32))) (both _ _ (below e.free (2 ^ 32)) (below e.stamp (2 ^ 64))))
  where
    go : Decided (((e.node < 256) × (e.load < 2 ^ 32)) × ((e.free < 2 ^ 32) × (e.stamp < 2 ^ 64))) → Decided (FitsEntry e)
    go (inl x) = inl (record { node = x.0.0; load = x.0.1; free = x.1.0; stamp = x.1.1 })
    go (inr x) = inr (λ f. x ((f.node, f.load), (f.free, f.stamp)))

in_range : (s : sight_row.Sight) → Decided (IsInRange s)
in_range s =
    go (both _ _ (both _ _ (both _ _ (below s.node 256) (below s.cap (2 ^ 32))) (both _ _ (below s.free (2 ^ 32)) (below s.load (2 ^ 32))))
    (both _ _ (each (λ (e : entry_row.Entry). FitsEntry e) entry_fits s.known)
    (both _ _ (each (λ (e : entry_row.Entry). e.node ≢ s.node) (λ e. apart e.node s.node) s.known)
    (each (λ (p : ℕ × ℕ). (p.0 < 2 ^ 32) × (p.1 < 2 ^ 32)) (λ p. both _ _ (below p.0 (2 ^ 32)) (below p.1 (2 ^ 32))) s.movable))))
  where
    go : Decided ((((s.node < 256) × (s.cap < 2 ^ 32)) × ((s.free < 2 ^ 32) × (s.load < 2 ^ 32))) × (All (λ (e : entry_row.Entry). FitsEntry e) s.known × (All (λ (e : entry_row.Entry). e.node ≢ s.node) s.known × All (λ (p : ℕ × ℕ). (p.0 < 2 ^ 32) × (p.1 < 2 ^ 32)) s.movable))) → Decided (IsInRange s)
    go (inl x) = inl (record { node = x.0.0.0; cap = x.0.0.1; free = x.0.1.0; load = x.0.1.1; entries = x.1.0; others = x.1.1.0; movable = x.1.1.1 })
    go (inr x) = inr (λ r. x (((r.node, r.cap), (r.free, r.load)), (r.entries, (r.others, r.movable))))

-- ---- answers

choice_of : choice_row.Choice → Choice
choice_of c = record { pid = c.pid; to = c.to }

told_again : (o : Option choice_row.Choice) → option_map told_choice (option_map choice_of o) ≡ o
unfolding choice_of
told_again None = refl
told_again (Some c) = refl

pub answered : (answers : sight_row.Sight → Option choice_row.Choice → Type 0) → HasAnswers answers → Answers (given_by answers)
answered answers has s = go (in_range (told_sight s))
  where
    go : Decided (IsInRange (told_sight s)) → (c : Option Choice) × given_by answers s c
    go (inl r) = let a = has (told_sight s) r in (option_map choice_of a.0, inl (r, subst (λ (o : Option choice_row.Choice). answers (told_sight s) o) (sym (told_again a.0)) a.1))
    go (inr r) = (None, inr (r, refl))
