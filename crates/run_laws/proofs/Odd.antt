-- In a run that keeps the rule of stamps exactly, stamps and hops are at most the number of turns, so no letter is odd.
use Rattle.std.proofs.Common.{◌≡◌, ℕ, suc, ◌<◌, ◌≤◌, ◌==◌, ◌&&◌, inl, inr, Bool, true, false, cond, Option, Some, None, List, [], ◌∷◌, ◌++◌, length, refl, sym, ap, ◌∙◌, subst, arith, IfSome}
use Rattle.protocol.specs.Ops.{Ops, Sound}
use Rattle.protocol.specs.Deeds.{Deed, Run, Kill, Bid, Unsent, Other, Steps, Sent, Heed, Held, Served, Got, Poked, Begin, Keep, Missed, Again, Allows, Denies, Depart, Stay, Land, Told, Refused, Closed, Gossips, Strange, pid_of}
use Rattle.protocol.specs.Notes.{Note, Move, Post, Turn, Local, Way}
use Rattle.protocol.specs.Spots.{Spot, Travels, way_by}
use Rattle.protocol.specs.Does.{next_stamp}
use Rattle.protocol.specs.Cluster.{World, for_link, at_front, Reached, events}
use Rattle.protocol.specs.Odd.{IsOdd, ManyHops, Timed, hops_end}
use Rattle.protocol.proofs.Talk.{same_numbers, numbers_same, numbers_other, on_link, talk}
use Rattle.protocol.proofs.Process.{WayTells, way_tells}
use Rattle.protocol.proofs.Stand.{Standing, reached_stands}
use Rattle.run_laws.specs.UnderWay.{Moves, moves_own, moves}
use Rattle.run_laws.specs.Carried.{Each}
use Rattle.run_laws.proofs.Moves.{Balanced, path_balanced}
use Rattle.run_laws.proofs.Weave.{marked}

module _ (O : Ops) (S : Sound O) where
  each_append : (P : Post O → Type 0) (xs ys : List (Post O)) → Each P xs → Each P ys → Each P (xs ++ ys)
  each_append P [] ys p q = q
  each_append P (x ∷ xs) ys p q = (p.0, each_append P xs ys p.1 q)

  each_right : (P : Post O → Type 0) (xs ys : List (Post O)) → Each P (xs ++ ys) → Each P ys
  each_right P [] ys p = p
  each_right P (x ∷ xs) ys p = each_right P xs ys p.1

  each_more : (P Q : Post O → Type 0) → ((l : Post O) → P l → Q l) → (xs : List (Post O)) → Each P xs → Each Q xs
  each_more P Q f [] p = tt
  each_more P Q f (x ∷ xs) p = (f x p.0, each_more P Q f xs p.1)

  each_link : (P : Post O → Type 0) (a b : ℕ) (ls : List (Post O)) → Each P ls → Each (λ l. P l × (l.to ≡ b)) (for_link O a b ls)
  each_link P a b [] p = tt
  each_link P a b (l ∷ ls) p = go (a == l.from) (b == l.to) refl refl (each_link P a b ls p.1)
    where
      go : (x y : Bool) → (a == l.from) ≡ x → (b == l.to) ≡ y → Each (λ l. P l × (l.to ≡ b)) (for_link O a b ls) → Each (λ l. P l × (l.to ≡ b)) (cond (x && y) (l ∷ for_link O a b ls) (for_link O a b ls))
      go true true e f r = ((p.0, sym (numbers_same b l.to f)), r)
      go true false e f r = r
      go false true e f r = r
      go false false e f r = r

  -- a letter that lies on a link has its target and a stamp of at most the number of turns
  abbrev pub Low : ℕ → ℕ → Post O → Type 0
  Low k b l = (l.stamp ≤ k) × (l.to ≡ b)

  pub record Clocks (k : ℕ) (w : World O) : Type 0 where
    pub clocks : (n : ℕ) → (w.nodes n).clock ≤ k
    pub letters : (a b : ℕ) → Each (λ l. Low k b l) (w.links a b)

  front_low : (k : ℕ) (o : Option (Post O)) (rest : ℕ → ℕ → List (Post O)) → ((a b : ℕ) → Each (λ l. Low k b l) (at_front O o a b ++ rest a b)) → IfSome o (λ l. l.stamp ≤ k)
  front_low k None rest h = tt
  front_low k (Some l) rest h =
      let e : ((l.from == l.from) && (l.to == l.to)) ≡ true = rw (same_numbers l.from l.from refl, same_numbers l.to l.to refl) refl in
      (subst (λ (x : Bool). Each (λ l2. Low k l.to l2) (cond x (l ∷ []) [] ++ rest l.from l.to)) e (h l.from l.to)).0.0

  next_low : (k clock : ℕ) (o : Option (Post O)) → clock ≤ k → IfSome o (λ l. l.stamp ≤ k) → next_stamp O clock o ≤ suc k
  next_low k clock None c l = omega (arith, c)
  next_low k clock (Some m) c l = omega (arith, c, l)

  pub clocks_at : (h : List (Turn O)) (w : World O) (r : Reached O h w) → Timed O h w r → Clocks (length h) w
  clocks_at [] w r timed = record {
    clocks = λ n. (let e = (r.nodes n).clock in omega (arith, e));
    letters = λ a b. subst (Each (λ l. Low 0 b l)) (sym (r.links a b)) tt;
  }
  clocks_at (t ∷ h) v (w, r, goes) timed = next (clocks_at h w r timed.1)
    where
      next : Clocks (length h) w → Clocks (suc (length h)) v
      next c = record { clocks = λ n. clock n (n == t.event.node) refl; letters = letter_at }
        where
          stamp : t.event.stamp ≤ suc (length h)
          stamp = subst (λ (k : ℕ). k ≤ suc (length h)) (sym timed.0.stamp_is) (next_low (length h) (w.nodes t.event.node).clock t.taken (c.clocks t.event.node) (front_low (length h) t.taken goes.rest (λ a b. subst (Each (λ l. Low (length h) b l)) (goes.takes a b) (c.letters a b))))

          clock : (n : ℕ) (x : Bool) → (n == t.event.node) ≡ x → (v.nodes n).clock ≤ suc (length h)
          clock n true e = subst (λ (k : ℕ). (v.nodes k).clock ≤ suc (length h)) (sym (numbers_same n t.event.node e)) (subst (λ (k : ℕ). k ≤ suc (length h)) (sym goes.makes.clock) stamp)
          clock n false e = let x = c.clocks n in let same = ap (λ (k : Local O). k.clock) (goes.elsewhere n (numbers_other n t.event.node e)) in omega (arith, x, same)

          posted : Each (λ l. l.stamp ≤ suc (length h)) t.posted
          posted = each_more (λ l. (l.from ≡ t.event.node) × (l.stamp ≡ t.event.stamp)) (λ l. l.stamp ≤ suc (length h)) (λ l m. (let e = m.1 in omega (arith, e, stamp))) t.posted (marked O t.event.node (w.nodes t.event.node) t (v.nodes t.event.node) goes.makes).posted

          letter_at : (a b : ℕ) → Each (λ l. Low (suc (length h)) b l) (v.links a b)
          letter_at a b =
              subst (Each (λ l. Low (suc (length h)) b l)) (sym (goes.posts a b))
              (each_append (λ l. Low (suc (length h)) b l) (goes.rest a b) (for_link O a b t.posted)
              (each_more (λ l. Low (length h) b l) (λ l. Low (suc (length h)) b l) (λ l x. (let y = x.0 in omega (arith, y), x.1)) (goes.rest a b) (each_right (λ l. Low (length h) b l) (at_front O t.taken a b) (goes.rest a b) (subst (Each (λ l. Low (length h) b l)) (goes.takes a b) (c.letters a b))))
              (each_link (λ l. l.stamp ≤ suc (length h)) a b t.posted posted))

  -- no process landed more often than there were events
  own_lands : (what : Deed) (m : Moves) → (moves_own what m).lands ≤ suc m.lands
  own_lands (Run line i p) m = omega arith
  own_lands (Kill line p g poked) m = omega arith
  own_lands (Bid line p to) m = omega arith
  own_lands (Unsent line p never) m = omega arith
  own_lands (Other line input) m = omega arith
  own_lands (Steps p x) m = omega arith
  own_lands (Sent p x) m = omega arith
  own_lands (Heed p) m = omega arith
  own_lands (Held p x) m = omega arith
  own_lands (Served p manner number value child signal ends more poked) m = omega arith
  own_lands (Got p child ended kept) m = omega arith
  own_lands (Poked p used) m = omega arith
  own_lands (Begin p to reason) m = omega arith
  own_lands (Keep p to line) m = omega arith
  own_lands (Missed p to line) m = omega arith
  own_lands (Again p to place line) m = omega arith
  own_lands (Allows p from need) m = omega arith
  own_lands (Denies p from need free) m = omega arith
  own_lands (Depart p to) m = omega arith
  own_lands (Stay p to need free) m = omega arith
  own_lands (Land p source) m = omega arith
  own_lands (Told p at source hops line poked) m = omega arith
  own_lands (Refused p to why line) m = omega arith
  own_lands (Closed line) m = omega arith
  own_lands (Gossips heard other) m = omega arith
  own_lands (Strange p) m = omega arith

  pub few_lands : (p : ℕ) (h : List (Turn O)) → (moves p (events O h)).lands ≤ length h
  few_lands p [] = omega arith
  few_lands p (t ∷ h) = go (p == pid_of t.event.what) (few_lands p h)
    where
      go : (b : Bool) → (moves p (events O h)).lands ≤ length h → (cond b (moves_own t.event.what (moves p (events O h))) (moves p (events O h))).lands ≤ suc (length h)
      go true less = omega (arith, less, own_lands t.event.what (moves p (events O h)))
      go false less = omega (arith, less)

  -- a move on a link is the one that its process's spot tells
  link_way : (o : Option (Way O)) (a b : ℕ) (m : Note O) (ms : List (Note O)) → on_link O o a b ≡ m ∷ ms → (w : Way O) × (o ≡ Some w) × (w.note ≡ m)
  link_way None a b m ms e = absurd cc
  link_way (Some w) a b m ms e = go ((a == w.from) && (b == w.to)) e
    where
      go : (x : Bool) → cond x (w.note ∷ []) [] ≡ m ∷ ms → (z : Way O) × (Some w ≡ Some z) × (z.note ≡ m)
      go true e = (w, refl, cc)
      go false e = absurd cc

  hops_by : (h : List (Turn O)) (w : World O) (st : Standing O S h w) (a b : ℕ) (l : Post O) (rest : List (Post O)) → w.links a b ≡ l ∷ rest → (p : ℕ) (u : O.User) (hops : ℕ) (line : Option ℕ) → l.note ≡ Move p u hops line → hops ≤ length h
  hops_by h w st a b l rest is p u hops line note = go x.0 x.1 x.2
    where
      heard : talk O p (l ∷ rest) ≡ Move p u hops line ∷ talk O p rest
      heard = rw (note, same_numbers p p refl) refl

      x : (z : Way O) × (way_by O p (st.spots p) ≡ Some z) × (z.note ≡ Move p u hops line)
      x = link_way (way_by O p (st.spots p)) a b _ _ (sym ((st.stands.at p).letters a b) ∙ (ap (talk O p) is ∙ heard))

      go : (z : Way O) → way_by O p (st.spots p) ≡ Some z → z.note ≡ Move p u hops line → hops ≤ length h
      go z e f =
          let told : WayTells O (Move p u hops line) z.from z.to (st.spots p) = subst (λ (k : Note O). WayTells O k z.from z.to (st.spots p)) f (way_tells O p (st.spots p) z e) in
          let b : Balanced O S (Travels z.from z.to told.0 line told.1) (moves p (events O h)) = subst (λ (k : Spot O). Balanced O S k (moves p (events O h))) told.2 (path_balanced O S h st.spots w st.path p) in
          let lands : told.0.hops ≡ (moves p (events O h)).lands = b.hops in
          let same : told.0.hops ≡ hops = told.4 in
          omega (arith, lands, same, few_lands p h)

  pub not_odd : (h : List (Turn O)) (w : World O) (r : Reached O h w) → Timed O h w r → length h < hops_end → (a n : ℕ) (l : Post O) (rest : List (Post O)) → n < O.nodes → w.links a n ≡ l ∷ rest → IsOdd O n (w.nodes n) l → ⊥
  not_odd h w r timed few a n l rest below is odd = go odd
    where
      c : Clocks (length h) w
      c = clocks_at h w r timed

      low : Low (length h) n l
      low = (subst (Each (λ k. Low (length h) n k)) is (c.letters a n)).0

      many : (m : Note O) → l.note ≡ m → ManyHops O m → ⊥
      many (Move p u hops line) e far = let less = hops_by h w (reached_stands O S h w r) a n l rest is p u hops line e in omega (arith, far, less, few)
      many _ e far = absurd far

      go : IsOdd O n (w.nodes n) l → ⊥
      go (inl x) = let y = low.0 in omega (arith, x, y, few)
      go (inr (inl x)) = let y = low.1 in omega (arith, x, y, below)
      go (inr (inr (inl x))) = many l.note refl x
      go (inr (inr (inr x))) = let y = c.clocks n in let z = x.0 in omega (arith, y, z, few)
