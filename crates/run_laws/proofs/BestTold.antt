-- The best that was told of a process, and what home then believes.
use Rattle.std.proofs.Common.{◌≡◌, ℕ, ◌+◌, ◌<◌, ◌≤◌, ◌==◌, ◌⊎◌, inl, inr, Bool, true, false, cond, Option, Some, None, List, [], ◌∷◌, refl, sym, ap, ◌∙◌, subst, arith}
use Rattle.std.specs.Prelude.{nat_lt}
use Rattle.std.proofs.lemmas.Bool.Decides.{nat_tests}
use Rattle.protocol.specs.Deeds.{Deed, Run, Kill, Bid, Unsent, Other, Steps, Sent, Heed, Held, Served, Got, Poked, Begin, Keep, Missed, Again, Allows, Denies, Depart, Stay, Land, Told, Refused, Closed, Gossips, Strange, Noted, pid_of}
use Rattle.protocol.specs.Notes.{Believed}
use Rattle.protocol.proofs.Talk.{same_numbers, numbers_same}
use Rattle.run_laws.specs.Believed.{better, best_by, best_told, hops_of, place_or}
use Rattle.run_laws.proofs.ToldAt.{told_by_hops, told_at}

-- no landing of it was told
pub never_told : (q : ℕ) (es : List Noted) → ((i : ℕ) → told_at q i es ≡ 0) → best_told q es ≡ None
never_told q [] none = refl
never_told q (e ∷ before) none = by (q == pid_of e.what) refl none (λ f. never_told q before f)
  where
    told_once : (what : Deed) → q ≡ pid_of what → ((i : ℕ) → told_by_hops what i (told_at q i before) ≡ 0) → (((i : ℕ) → told_at q i before ≡ 0) → best_told q before ≡ None) → best_by what q (best_told q before) ≡ None
    told_once (Run line i p) same none again = again none
    told_once (Kill line p g poked) same none again = again none
    told_once (Bid line p to) same none again = again none
    told_once (Unsent line p never) same none again = again none
    told_once (Other line input) same none again = again none
    told_once (Steps p k) same none again = again none
    told_once (Sent p k) same none again = again none
    told_once (Heed p) same none again = again none
    told_once (Held p k) same none again = again none
    told_once (Served p manner number value child signal ends more poked) same none again = again none
    told_once (Got p child ended kept) same none again = again none
    told_once (Poked p used) same none again = again none
    told_once (Begin p to reason) same none again = again none
    told_once (Keep p to line) same none again = again none
    told_once (Missed p to line) same none again = again none
    told_once (Again p to place line) same none again = again none
    told_once (Allows p from need) same none again = again none
    told_once (Denies p from need free) same none again = again none
    told_once (Depart p to) same none again = again none
    told_once (Stay p to need free) same none again = again none
    told_once (Land p source) same none again = again none
    told_once (Told p at source hops line poked) same none again = absurd (let z : cond (hops == hops) (told_at q hops before + 1) (told_at q hops before) ≡ 0 = none hops in let y : told_at q hops before + 1 ≡ 0 = sym (ap (λ (b : Bool). cond b (told_at q hops before + 1) (told_at q hops before)) (same_numbers hops hops refl)) ∙ z in omega (arith, y))
    told_once (Refused p to why line) same none again = again none
    told_once (Closed line) same none again = again none
    told_once (Gossips heard other) same none again = again none
    told_once (Strange p) same none again = again none

    not_told : (what : Deed) → (q == pid_of what) ≡ false → best_told q before ≡ None → best_by what q (best_told q before) ≡ None
    not_told (Run line i p) off is = is
    not_told (Kill line p g poked) off is = is
    not_told (Bid line p to) off is = is
    not_told (Unsent line p never) off is = is
    not_told (Other line input) off is = is
    not_told (Steps p k) off is = is
    not_told (Sent p k) off is = is
    not_told (Heed p) off is = is
    not_told (Held p k) off is = is
    not_told (Served p manner number value child signal ends more poked) off is = is
    not_told (Got p child ended kept) off is = is
    not_told (Poked p used) off is = is
    not_told (Begin p to reason) off is = is
    not_told (Keep p to line) off is = is
    not_told (Missed p to line) off is = is
    not_told (Again p to place line) off is = is
    not_told (Allows p from need) off is = is
    not_told (Denies p from need free) off is = is
    not_told (Depart p to) off is = is
    not_told (Stay p to need free) off is = is
    not_told (Land p source) off is = is
    not_told (Told p at source hops line poked) off is = ap (λ (b : Bool). cond b (better (record { place = at; hops = hops }) (best_told q before)) (best_told q before)) off ∙ is
    not_told (Refused p to why line) off is = is
    not_told (Closed line) off is = is
    not_told (Gossips heard other) off is = is
    not_told (Strange p) off is = is

    by : (b : Bool) → (q == pid_of e.what) ≡ b → ((i : ℕ) → cond b (told_by_hops e.what i (told_at q i before)) (told_at q i before) ≡ 0) → (((i : ℕ) → told_at q i before ≡ 0) → best_told q before ≡ None) → best_by e.what q (best_told q before) ≡ None
    by true x none again = told_once e.what (numbers_same q (pid_of e.what) x) none again
    by false x none again = not_told e.what x (again none)

-- what home believes, by the best that was told
abbrev pub BestIs : Option Believed → ℕ → Believed → Type 0
BestIs None born b = (b.place ≡ born) × (b.hops ≡ 0)
BestIs (Some t) born b = b ≡ t

pub best_place : (o : Option Believed) (born : ℕ) (b : Believed) → BestIs o born b → b.place ≡ place_or o born
best_place None born b is = is.0
best_place (Some t) born b is = ap (λ (k : Believed). k.place) is

pub best_hops : (o : Option Believed) (born : ℕ) (b : Believed) → BestIs o born b → b.hops ≡ hops_of o
best_hops None born b is = is.1
best_hops (Some t) born b is = ap (λ (k : Believed). k.hops) is

-- one more landing is told
pub better_is : (o : Option Believed) (born at hops : ℕ) (was b : Believed) → 1 ≤ hops → BestIs o born was → ((was.hops < hops) × (b ≡ record { place = at; hops = hops })) ⊎ ((hops ≤ was.hops) × (b ≡ was)) → BestIs (better (record { place = at; hops = hops }) o) born b
better_is None born at hops was b one is (inl (less, e)) = e
better_is None born at hops was b one is (inr (most, e)) = absurd (omega (arith, one, most, is.1))
better_is (Some t) born at hops was b one is (inl (less, e)) = subst (λ (k : Bool). BestIs (cond k (Some (record { place = at; hops = hops })) (Some t)) born b) (sym (yes (ap (λ (k : Believed). k.hops) is) less)) e
  where
    yes : was.hops ≡ t.hops → was.hops < hops → nat_lt t.hops hops ≡ true
    yes x y = grind (arith, nat_tests)
better_is (Some t) born at hops was b one is (inr (most, e)) = subst (λ (k : Bool). BestIs (cond k (Some (record { place = at; hops = hops })) (Some t)) born b) (sym (no (ap (λ (k : Believed). k.hops) is) most)) (e ∙ is)
  where
    no : was.hops ≡ t.hops → hops ≤ was.hops → nat_lt t.hops hops ≡ false
    no x y = grind (arith, nat_tests)
