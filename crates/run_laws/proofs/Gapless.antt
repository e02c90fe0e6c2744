-- Where each stamp is exactly one more than its node's clock and its letter's stamp, stamps are at most the number of turns.
use Rattle.std.proofs.Common.{◌≡◌, ℕ, suc, ◌≤◌, ◌==◌, ◌&&◌, Bool, true, false, cond, Option, Some, None, List, [], ◌∷◌, length, refl, sym, subst, arith, IfSome}
use Rattle.protocol.specs.Ops.{Ops}
use Rattle.protocol.specs.Notes.{Post, Turn}
use Rattle.protocol.specs.Does.{next_stamp}
use Rattle.protocol.specs.Cluster.{for_link, at_front}
use Rattle.protocol.proofs.Talk.{same_numbers}
use Rattle.run_laws.specs.Carried.{steps, Each, Marked, Carried, posted_on, taken_on}
use Rattle.run_laws.specs.Weaving.{own}
use Rattle.run_laws.proofs.Weaving.{all-append}
use Rattle.run_laws.proofs.Cutting.{each_left, each_end, each_to, stamped}

module _ (O : Ops) where
  abbrev pub last_stamp : List (Turn O) → ℕ
  last_stamp [] = 0
  last_stamp (t ∷ h) = t.event.stamp

  abbrev pub Exact : List (Turn O) → Type 0
  Exact [] = Unit {0}
  Exact (t ∷ h) = (t.event.stamp ≡ next_stamp O (last_stamp h) t.taken) × Exact h

  abbrev Low : ℕ → List (Turn O) → Type 0
  Low k h = Each (λ t. t.event.stamp ≤ k) h

  pub low_more : (j k : ℕ) (h : List (Turn O)) → j ≤ k → Low j h → Low k h
  low_more j k [] le p = tt
  low_more j k (t ∷ h) le p = (let x = p.0 in omega (arith, x, le), low_more j k h le p.1)

  low_last : (k n : ℕ) (h : List (Turn O)) → Low k h → last_stamp (own (steps O) n h) ≤ k
  low_last k n [] p = omega arith
  low_last k n (t ∷ h) p = go (t.event.node == n) (low_last k n h p.1)
    where
      go : (b : Bool) → last_stamp (own (steps O) n h) ≤ k → last_stamp (cond b (t ∷ own (steps O) n h) (own (steps O) n h)) ≤ k
      go true r = p.0
      go false r = r

  low_posted : (k a b : ℕ) (h : List (Turn O)) → Each (λ t. Marked O t) h → Low k h → Each (λ l. l.stamp ≤ k) (posted_on O a b h)
  low_posted k a b [] m p = tt
  low_posted k a b (t ∷ h) m p = all-append (steps O) (λ l. l.stamp ≤ k) (posted_on O a b h) (for_link O a b t.posted) (low_posted k a b h m.1 p.1)
      (each_to O (λ l. l.stamp ≡ t.event.stamp) (λ l. l.stamp ≤ k) (λ l e. (let x = p.0 in omega (arith, e, x))) (for_link O a b t.posted) (stamped O a b t.event.node t.event.stamp t.posted m.0.posted))

  front : (k : ℕ) (o : Option (Post O)) → ((a b : ℕ) → Each (λ l. l.stamp ≤ k) (at_front O o a b)) → IfSome o (λ l. l.stamp ≤ k)
  front k None h = tt
  front k (Some l) h =
      let e : ((l.from == l.from) && (l.to == l.to)) ≡ true = rw (same_numbers l.from l.from refl, same_numbers l.to l.to refl) refl in
      (subst (λ (x : Bool). Each (λ m. m.stamp ≤ k) (cond x (l ∷ []) [])) e (h l.from l.to)).0

  next : (k c : ℕ) (o : Option (Post O)) → c ≤ k → IfSome o (λ l. l.stamp ≤ k) → next_stamp O c o ≤ suc k
  next k c None x y = omega (arith, x)
  next k c (Some l) x y = omega (arith, x, y)

  first : (t : Turn O) (h : List (Turn O)) → Exact (own (steps O) t.event.node (t ∷ h)) → t.event.stamp ≡ next_stamp O (last_stamp (own (steps O) t.event.node h)) t.taken
  first t h e = (subst (λ (b : Bool). Exact (cond b (t ∷ own (steps O) t.event.node h) (own (steps O) t.event.node h))) (same_numbers t.event.node t.event.node refl) e).0

  others : (n : ℕ) (t : Turn O) (h : List (Turn O)) → Exact (own (steps O) n (t ∷ h)) → Exact (own (steps O) n h)
  others n t h e = go (t.event.node == n) e
    where
      go : (b : Bool) → Exact (cond b (t ∷ own (steps O) n h) (own (steps O) n h)) → Exact (own (steps O) n h)
      go true x = x.1
      go false x = x

  pub stamps_few : (h : List (Turn O)) → Carried O h → Each (λ t. Marked O t) h → ((n : ℕ) → Exact (own (steps O) n h)) → Each (λ t. t.event.stamp ≤ length h) h
  stamps_few [] c m e = tt
  stamps_few (t ∷ h) c m e =
      let ih = stamps_few h c.1 m.1 (λ n. others n t h (e n)) in
      let taken : (a b : ℕ) → Each (λ l. l.stamp ≤ length h) (at_front O t.taken a b) = λ a b.
      each_end O (λ l. l.stamp ≤ length h) (taken_on O a b h) (at_front O t.taken a b) (each_left O (λ l. l.stamp ≤ length h) (taken_on O a b (t ∷ h)) (c.0 a b).0 (subst (Each (λ l. l.stamp ≤ length h)) (sym (c.0 a b).1) (low_posted (length h) a b h m.1 ih))) in
      let up : t.event.stamp ≤ suc (length h) = subst (λ (k : ℕ). k ≤ suc (length h)) (sym (first t h (e t.event.node))) (next (length h) (last_stamp (own (steps O) t.event.node h)) t.taken (low_last (length h) t.event.node h ih) (front (length h) t.taken taken)) in
      (up, low_more (length h) (suc (length h)) h (omega arith) ih)
