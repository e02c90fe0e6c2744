-- The newest entry as a function, and that no other is newer.
use Rattle.std.proofs.Common.{◌≡◌, ◌≢◌, ℕ, zero, suc, ◌<◌, ◌≤◌, Bool, true, false, nat_eq, nat_lt, if◌then◌else◌, List, [], ◌∷◌, Option, Some, None, MatchOption, IfSome, IfNone, length, drop, refl, sym, ap, ◌∙◌, subst, arith}
use Rattle.std.proofs.lemmas.Bool.{ltb-true, eq-eqb, eqb-true}
use Rattle.std.proofs.lemmas.List.{drop_all}
use Rattle.call_table.specs.declared.process.Entry.{Entry}
use Rattle.load_gossip.specs.Vectors.{StandsAt, IsNewest, HasNone, entry_of, newer, newest_of}

pub newer_none : (a : Option Entry) → newer a None ≡ a
newer_none None = refl
newer_none (Some a) = refl

pub newer_assoc : (a b c : Option Entry) → newer (newer a b) c ≡ newer a (newer b c)
newer_assoc None b c = refl
newer_assoc (Some a) None c = refl
newer_assoc (Some a) (Some b) None = newer_none (newer (Some a) (Some b))
newer_assoc (Some a) (Some b) (Some c) = grind arith

-- the answer of a search: an entry that no other is newer than, or none where none stands
abbrev pub IsFound : ℕ → List (Option Entry) → Option Entry → Type 0
IsFound node places found = MatchOption found (HasNone node places) (IsNewest node places)

-- a place that is not of the node changes nothing
abbrev Skips : ℕ → Option Entry → Type 0
Skips node place = (entry : Entry) → place ≡ Some entry → entry.node ≢ node

skipped_newest : (node : ℕ) (place : Option Entry) (places : List (Option Entry)) (entry : Entry) → Skips node place → IsNewest node places entry → IsNewest node (place ∷ places) entry
skipped_newest node place places entry off n = record {
  at = suc n.at;
  stands = n.stands;
  own = n.own;
  newest = newest;
  lowest = lowest;
}
  where
    newest : (k : ℕ) (other : Entry) → StandsAt (place ∷ places) k other → other.node ≡ node → other.stamp ≤ entry.stamp
    newest zero other s o = let e : place ≡ Some other = cc in absurd (off other e o)
    newest (suc k) other s o = n.newest k other s o

    lowest : (k : ℕ) (other : Entry) → k < suc n.at → StandsAt (place ∷ places) k other → other.node ≡ node → other.stamp < entry.stamp
    lowest zero other l s o = let e : place ≡ Some other = cc in absurd (off other e o)
    lowest (suc k) other l s o = n.lowest k other (omega arith) s o

skipped_none : (node : ℕ) (place : Option Entry) (places : List (Option Entry)) → Skips node place → HasNone node places → HasNone node (place ∷ places)
skipped_none node place places off n zero other s = let e : place ≡ Some other = cc in off other e
skipped_none node place places off n (suc k) other s = n k other s

skipped : (node : ℕ) (place : Option Entry) (places : List (Option Entry)) (found : Option Entry) → Skips node place → IsFound node places found → IsFound node (place ∷ places) found
skipped node place places None off f = skipped_none node place places off f
skipped node place places (Some entry) off f = skipped_newest node place places entry off f

-- the first place is of the node, and no later one is newer
stays : (node : ℕ) (first : Entry) (places : List (Option Entry)) → first.node ≡ node → ((k : ℕ) (other : Entry) → StandsAt places k other → other.node ≡ node → other.stamp ≤ first.stamp) → IsNewest node (Some first ∷ places) first
stays node first places own h = record {
  at = 0;
  stands = refl;
  own = own;
  newest = newest;
  lowest = λ k other l s o. absurd (omega arith);
}
  where
    newest : (k : ℕ) (other : Entry) → StandsAt (Some first ∷ places) k other → other.node ≡ node → other.stamp ≤ first.stamp
    newest zero other s o = let e : first ≡ other = cc in let t : first.stamp ≡ other.stamp = ap (λ (x : Entry). x.stamp) e in omega arith
    newest (suc k) other s o = h k other s o

-- a later one is newer
passes : (node : ℕ) (first later : Entry) (places : List (Option Entry)) → first.stamp < later.stamp → IsNewest node places later → IsNewest node (Some first ∷ places) later
passes node first later places l n = record {
  at = suc n.at;
  stands = n.stands;
  own = n.own;
  newest = newest;
  lowest = lowest;
}
  where
    newest : (k : ℕ) (other : Entry) → StandsAt (Some first ∷ places) k other → other.node ≡ node → other.stamp ≤ later.stamp
    newest zero other s o = let e : first ≡ other = cc in let t : first.stamp ≡ other.stamp = ap (λ (x : Entry). x.stamp) e in omega arith
    newest (suc k) other s o = n.newest k other s o

    lowest : (k : ℕ) (other : Entry) → k < suc n.at → StandsAt (Some first ∷ places) k other → other.node ≡ node → other.stamp < later.stamp
    lowest zero other h s o = let e : first ≡ other = cc in let t : first.stamp ≡ other.stamp = ap (λ (x : Entry). x.stamp) e in omega arith
    lowest (suc k) other h s o = n.lowest k other (omega arith) s o

taken : (node : ℕ) (first : Entry) (places : List (Option Entry)) (found : Option Entry) → first.node ≡ node → IsFound node places found → IsFound node (Some first ∷ places) (newer (Some first) found)
taken node first places None own f = stays node first places own (λ k other s o. absurd (f k other s o))
taken node first places (Some later) own f = go (nat_lt first.stamp later.stamp) refl
  where
    go : (b : Bool) → nat_lt first.stamp later.stamp ≡ b → IsFound node (Some first ∷ places) (if b then Some later else Some first)
    go true t = passes node first later places (ltb-true first.stamp later.stamp t) f
    go false t = stays node first places own (λ k other s o. let m = f.newest k other s o in let n : later.stamp ≤ first.stamp = grind arith in omega arith)

found_first : (node : ℕ) (first : Entry) (places : List (Option Entry)) (found : Option Entry) → IsFound node places found → IsFound node (Some first ∷ places) (newer (entry_of node (Some first)) found)
found_first node first places found f = go (nat_eq first.node node) refl
  where
    go : (b : Bool) → nat_eq first.node node ≡ b → IsFound node (Some first ∷ places) (newer (if b then Some first else None) found)
    go true t = taken node first places found (eqb-true first.node node t) f
    go false t = skipped node (Some first) places found (λ entry e o. let s : first ≡ entry = cc in let m : first.node ≡ node = ap (λ (x : Entry). x.node) s ∙ o in let z : true ≡ false = sym (eq-eqb first.node node m) ∙ t in cc) f

pub found_is : (node : ℕ) (places : List (Option Entry)) → IsFound node places (newest_of node places)
found_is node [] = λ k other s. cc
found_is node (None ∷ places) = skipped node None places (newest_of node places) (λ entry e. cc) (found_is node places)
found_is node (Some first ∷ places) = found_first node first places (newest_of node places) (found_is node places)

pub found_some : (node : ℕ) (places : List (Option Entry)) (found : Option Entry) → found ≡ newest_of node places → IfSome found (IsNewest node places)
found_some node places None e = tt
found_some node places (Some entry) e = subst (IsFound node places) (sym e) (found_is node places)

pub found_none : (node : ℕ) (places : List (Option Entry)) (found : Option Entry) → found ≡ newest_of node places → IfNone found (HasNone node places)
found_none node places None e = subst (IsFound node places) (sym e) (found_is node places)
found_none node places (Some entry) e = tt

pub looked_at_all : (node : ℕ) (places : List (Option Entry)) (i : ℕ) (found : Option Entry) → length places ≤ i → newer found (newest_of node (drop i places)) ≡ newest_of node places → found ≡ newest_of node places
looked_at_all node places i found l h =
    sym (newer_none found) ∙ (ap (λ (w : List (Option Entry)). newer found (newest_of node w)) (sym (drop_all i places l)) ∙ h)
