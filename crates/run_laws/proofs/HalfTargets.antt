-- Where a half goes, and where a choice moves: to other nodes of the cluster.
use Rattle.std.proofs.Common.{◌≡◌, ◌≢◌, ℕ, zero, suc, ◌+◌, ◌-◌, ◌%◌, ◌<◌, ◌≤◌, ◌==◌, ◌⊎◌, inl, inr, Bool, true, false, cond, Option, Some, None, List, [], ◌∷◌, ◌++◌, refl, sym, ap, ◌∙◌, subst, arith}
use Rattle.std.specs.Prelude.{nat_lt}
use Rattle.std.proofs.Math.Nat.{mod-lt}
use Rattle.std.proofs.lemmas.Bool.Decides.{nat_tests}
use Rattle.protocol.specs.Ops.{Ops, Sound}
use Rattle.protocol.specs.Gossip.{Entry, Gossip, Choice, IsKnown, later, newest, one_entry, known_below, other_at}
use Rattle.protocol.specs.Notes.{Turn, Local}
use Rattle.protocol.specs.Does.{NoneRuns, HalfDueTo, Talks}
use Rattle.protocol.proofs.Talk.{numbers_same}
use Rattle.protocol.proofs.Talking.{other_apart}

pub other_below : (nodes n k : ℕ) → k + 1 < nodes → other_at n k < nodes
other_below nodes n k more = go (nat_lt k n)
  where
    go : (b : Bool) → cond b k (k + 1) < nodes
    go true = omega (arith, more)
    go false = more

-- the newest entry of a node is of that node
later_node : (m : ℕ) (e f : Entry) (o : Option Entry) → e.node ≡ m → ((g : Entry) → o ≡ Some g → g.node ≡ m) → later e o ≡ Some f → f.node ≡ m
later_node m e f None is rest x = let same : e ≡ f = cc in sym (ap (λ (k : Entry). k.node) same) ∙ is
later_node m e f (Some g) is rest x = go (nat_lt e.stamp g.stamp) x
  where
    go : (b : Bool) → cond b (Some g) (Some e) ≡ Some f → f.node ≡ m
    go true y = let same : g ≡ f = cc in sym (ap (λ (k : Entry). k.node) same) ∙ rest g refl
    go false y = let same : e ≡ f = cc in sym (ap (λ (k : Entry). k.node) same) ∙ is

newest_node : (m : ℕ) (v : List (Option Entry)) (f : Entry) → newest m v ≡ Some f → f.node ≡ m
newest_node m [] f x = absurd cc
newest_node m (None ∷ rest) f x = newest_node m rest f x
newest_node m (Some e ∷ rest) f x = go (e.node == m) refl x (newest_node m rest)
  where
    go : (b : Bool) → (e.node == m) ≡ b → cond b (later e (newest m rest)) (newest m rest) ≡ Some f → ((g : Entry) → newest m rest ≡ Some g → g.node ≡ m) → f.node ≡ m
    go true y z more = later_node m e f (newest m rest) (numbers_same e.node m y) more z
    go false y z more = more f z

known_split : (to : ℕ) (xs ys : List Entry) → IsKnown to (xs ++ ys) → IsKnown to xs ⊎ IsKnown to ys
known_split to [] ys k = inr k
known_split to (x ∷ xs) ys (inl k) = inl (inl k)
known_split to (x ∷ xs) ys (inr k) = go (known_split to xs ys k)
  where
    go : IsKnown to xs ⊎ IsKnown to ys → ((x.node ≡ to) ⊎ IsKnown to xs) ⊎ IsKnown to ys
    go (inl y) = inl (inr y)
    go (inr y) = inr y

-- a known node is one of those asked for
pub known_near : (m n : ℕ) (v : List (Option Entry)) (to : ℕ) → IsKnown to (known_below m n v) → to < m
known_near zero n v to k = absurd k
known_near (suc m) n v to k = go (known_split to (known_below m n v) (cond (m == n) [] (one_entry (newest m v))) k) (known_near m n v to)
  where
    one : (o : Option Entry) → newest m v ≡ o → IsKnown to (one_entry o) → to ≡ m
    one None e x = absurd x
    one (Some f) e (inl x) = sym x ∙ newest_node m v f e
    one (Some f) e (inr x) = absurd x

    here : (b : Bool) → IsKnown to (cond b [] (one_entry (newest m v))) → to ≡ m
    here true x = absurd x
    here false x = one (newest m v) refl x

    go : IsKnown to (known_below m n v) ⊎ IsKnown to (cond (m == n) [] (one_entry (newest m v))) → (IsKnown to (known_below m n v) → to < m) → to < suc m
    go (inl x) rest = let less = rest x in omega (arith, less)
    go (inr x) rest = let e = here (m == n) x in omega (arith, e)

module _ (O : Ops) where
  -- a half goes to another node of the cluster
  pub target_near : (n other load free : ℕ) (P : Type 0) (g : Gossip) → 2 ≤ O.nodes → HalfDueTo O n other load free P g → (other < O.nodes) × (other ≢ n)
  target_near n other load free P g many (inl (first, is)) = (subst (λ (k : ℕ). k < O.nodes) (sym is) (other_below O.nodes n g.sent (omega (arith, first, many))), λ e. other_apart n g.sent (sym is ∙ e))
  target_near n other load free P g many (inr (past, is, why)) =
      let k : ℕ = O.word n (g.sent - (O.nodes - 1)) % (O.nodes - 1) in
      let less : k < O.nodes - 1 = mod-lt (O.word n (g.sent - (O.nodes - 1))) (omega (arith, many)) in
      (subst (λ (x : ℕ). x < O.nodes) (sym is) (other_below O.nodes n k (omega (arith, less, many))), λ e. other_apart n k (sym is ∙ e))

  pub half_near : (n : ℕ) (old : Local O) (t : Turn O) (new : Local O) (other : ℕ) (chosen : Option Choice) → Talks O false n other chosen old t new → other < O.nodes
  half_near n old t new other chosen d = (target_near n other d.own.load d.own.free (NoneRuns O old) old.gossip d.sends.0 d.sends.1).0

  pub choice_near : (S : Sound O) (n : ℕ) (old : Local O) (t : Turn O) (new : Local O) (heard : Bool) (other p to : ℕ) → Talks O heard n other (Some (record { pid = p; to = to })) old t new → to < O.nodes
  choice_near S n old t new heard other p to d = known_near O.nodes n new.gossip.vector to (S.chosen _ _ d.chooses).1
