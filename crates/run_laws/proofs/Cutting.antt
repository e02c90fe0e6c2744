-- What the nodes did up to a stamp, where the odd letters that they skipped came later, is what nodes do that skip none.
use Rattle.std.proofs.Common.{◌≡◌, ℕ, suc, ◌<◌, ◌≤◌, ◌==◌, ◌&&◌, ◌⊎◌, inl, inr, Bool, true, false, cond, Option, Some, None, List, [], ◌∷◌, ◌++◌, refl, sym, ap, ◌∙◌, subst, append_assoc, arith, IfSome}
use Rattle.std.proofs.lemmas.List.{append-nil}
use Rattle.std.proofs.lemmas.Bool.Decides.{leb_tells}
use lib.Dec.{leb}
use Rattle.protocol.specs.Ops.{Ops}
use Rattle.protocol.specs.Notes.{Post, Turn, Local}
use Rattle.protocol.specs.Cluster.{World, for_link, at_front}
use Rattle.run_laws.specs.Carried.{steps, Each, Alone, Did, Marked, posted_on, taken_on}
use Rattle.run_laws.specs.Weaving.{Begins}
use Rattle.run_laws.specs.Skipping.{Act, Made, Skipped, Lone, DidAll, all_posted, all_taken}
use Rattle.run_laws.proofs.Stamps.{rises}
use Rattle.run_laws.proofs.Weave.{marked, keeps}
use Rattle.run_laws.proofs.Weaving.{prefix_cut, all-append, taken_before, run_marked, each_part}

module _ (O : Ops) where
  abbrev pub clock_of : List (Act O) → ℕ
  clock_of [] = 0
  clock_of (Made t ∷ before) = t.event.stamp
  clock_of (Skipped a l ∷ before) = clock_of before

  pub clock_is : (n : ℕ) (acts : List (Act O)) (l : Local O) → Lone O n acts l → l.clock ≡ clock_of acts
  clock_is n [] l r = r.clock
  clock_is n (Made t ∷ before) l r = r.2.clock
  clock_is n (Skipped a m ∷ before) l r = ap (λ (k : Local O). k.clock) r.3.same ∙ clock_is n before r.0 r.1

  -- a list by rising stamps
  abbrev pub Rising : List (Post O) → Type 0
  Rising [] = Unit {0}
  Rising (x ∷ xs) = Each (λ y. x.stamp ≤ y.stamp) xs × Rising xs

  pub each_to : (P Q : Post O → Type 0) → ((l : Post O) → P l → Q l) → (xs : List (Post O)) → Each P xs → Each Q xs
  each_to P Q f [] p = tt
  each_to P Q f (x ∷ xs) p = (f x p.0, each_to P Q f xs p.1)

  pub each_left : (P : Post O → Type 0) (xs ys : List (Post O)) → Each P (xs ++ ys) → Each P xs
  each_left P [] ys p = tt
  each_left P (x ∷ xs) ys p = (p.0, each_left P xs ys p.1)

  pub each_end : (P : Post O → Type 0) (xs ys : List (Post O)) → Each P (xs ++ ys) → Each P ys
  each_end P [] ys p = p
  each_end P (x ∷ xs) ys p = each_end P xs ys p.1

  rising_same : (s : ℕ) (ys : List (Post O)) → Each (λ l. l.stamp ≡ s) ys → Rising ys
  rising_same s [] e = tt
  rising_same s (y ∷ ys) e = (each_to (λ l. l.stamp ≡ s) (λ l. y.stamp ≤ l.stamp) (λ l k. (let z = e.0 in omega (arith, z, k))) ys e.1, rising_same s ys e.1)

  rising_more : (s : ℕ) (xs ys : List (Post O)) → Rising xs → Each (λ l. l.stamp ≤ s) xs → Each (λ l. l.stamp ≡ s) ys → Rising (xs ++ ys)
  rising_more s [] ys r low e = rising_same s ys e
  rising_more s (x ∷ xs) ys r low e = (all-append (steps O) (λ l. x.stamp ≤ l.stamp) xs ys r.0 (each_to (λ l. l.stamp ≡ s) (λ l. x.stamp ≤ l.stamp) (λ l k. (let z = low.0 in omega (arith, z, k))) ys e), rising_more s xs ys r.1 low.1 e)

  rising_left : (xs ys : List (Post O)) → Rising (xs ++ ys) → Rising xs
  rising_left [] ys r = tt
  rising_left (x ∷ xs) ys r = (each_left (λ y. x.stamp ≤ y.stamp) xs ys r.0, rising_left xs ys r.1)

  rising_last : (xs : List (Post O)) (l : Post O) → Rising (xs ++ (l ∷ [])) → Each (λ m. m.stamp ≤ l.stamp) xs
  rising_last [] l r = tt
  rising_last (x ∷ xs) l r = ((each_end (λ y. x.stamp ≤ y.stamp) xs (l ∷ []) r.0).0, rising_last xs l r.1)

  pub stamped : (a b n s : ℕ) (ls : List (Post O)) → Each (λ l. (l.from ≡ n) × (l.stamp ≡ s)) ls → Each (λ l. l.stamp ≡ s) (for_link O a b ls)
  stamped a b n s [] m = tt
  stamped a b n s (l ∷ ls) m = elim ((a == l.from) && (b == l.to)) as (λ k. Each (λ l. l.stamp ≡ s) (cond k (l ∷ for_link O a b ls) (for_link O a b ls))) [ true ↦ (m.0.1, stamped a b n s ls m.1) | false ↦ stamped a b n s ls m.1 ]

  pub record Risen (a b : ℕ) (acts : List (Act O)) : Type 0 where
    pub rising : Rising (all_posted O a b acts)
    pub low : Each (λ l. l.stamp ≤ clock_of acts) (all_posted O a b acts)

  pub risen : (a b n : ℕ) (acts : List (Act O)) (l : Local O) → Lone O n acts l → Risen a b acts
  risen a b n [] l r = record { rising = tt; low = tt }
  risen a b n (Made t ∷ before) l r =
      let ih = risen a b n before r.0 r.1 in
      let up : r.0.clock < t.event.stamp = rises O n r.0 t l r.2 in
      let was : r.0.clock ≡ clock_of before = clock_is n before r.0 r.1 in
      let low : Each (λ m. m.stamp ≤ t.event.stamp) (all_posted O a b before) = each_to (λ m. m.stamp ≤ clock_of before) (λ m. m.stamp ≤ t.event.stamp) (λ m k. omega (arith, up, was, k)) (all_posted O a b before) ih.low in
      let same : Each (λ m. m.stamp ≡ t.event.stamp) (for_link O a b t.posted) = stamped a b t.event.node t.event.stamp t.posted (marked O n r.0 t l r.2).posted in
      record {
        rising = rising_more t.event.stamp (all_posted O a b before) (for_link O a b t.posted) ih.rising low same;
        low = all-append (steps O) (λ m. m.stamp ≤ t.event.stamp) (all_posted O a b before) (for_link O a b t.posted) low (each_to (λ m. m.stamp ≡ t.event.stamp) (λ m. m.stamp ≤ t.event.stamp) (λ m k. omega (arith, k)) (for_link O a b t.posted) same);
      }
  risen a b n (Skipped c m ∷ before) l r = let ih = risen a b n before r.0 r.1 in record { rising = ih.rising; low = ih.low }

  module _ (T : ℕ) where
    abbrev pub cut : List (Act O) → List (Turn O)
    cut [] = []
    cut (Made t ∷ before) = cond (leb t.event.stamp T) (t ∷ cut before) (cut before)
    cut (Skipped a l ∷ before) = cut before

    -- each skipped letter came late: its stamp or its node's clock was past the cut
    abbrev pub AllLate : List (Act O) → Type 0
    AllLate [] = Unit {0}
    AllLate (Made t ∷ before) = AllLate before
    AllLate (Skipped a l ∷ before) = ((T ≤ l.stamp) ⊎ (T < clock_of before)) × AllLate before

    pub record Cut (n : ℕ) (acts : List (Act O)) (l : Local O) : Type 0 where
      pub state : Local O
      pub alone : Alone O n (cut acts) state
      pub same : l.clock ≤ T → state ≡ l

    pub cut_alone : (n : ℕ) (acts : List (Act O)) (l : Local O) → Lone O n acts l → Cut n acts l
    cut_alone n [] l r = record { state = l; alone = r; same = λ less. refl }
    cut_alone n (Made t ∷ before) l r = go (leb_tells t.event.stamp T) (cut_alone n before r.0 r.1)
      where
        go : ((leb t.event.stamp T ≡ true) × (t.event.stamp ≤ T)) ⊎ ((leb t.event.stamp T ≡ false) × (T < t.event.stamp)) → Cut n before r.0 → Cut n (Made t ∷ before) l
        go (inl x) c =
            let up : r.0.clock < t.event.stamp = rises O n r.0 t l r.2 in
            let is : c.state ≡ r.0 = c.same (omega (arith, up, x.1)) in
            record { state = l; alone = subst (λ (b : Bool). Alone O n (cond b (t ∷ cut before) (cut before)) l) (sym x.0) (r.0, subst (λ (k : Local O). Alone O n (cut before) k) is c.alone, r.2); same = λ less. refl }
        go (inr x) c = record {
          state = c.state;
          alone = subst (λ (b : Bool). Alone O n (cond b (t ∷ cut before) (cut before)) c.state) (sym x.0) c.alone;
          same = λ less. (let e : l.clock ≡ t.event.stamp = r.2.clock in absurd (omega (arith, e, x.1)));
        }
    cut_alone n (Skipped a m ∷ before) l r =
        let c = cut_alone n before r.0 r.1 in
        record { state = c.state; alone = c.alone; same = λ less. c.same (subst (λ (k : Local O). k.clock ≤ T) r.3.same less) ∙ sym r.3.same }

    -- what is posted past the cut has later stamps
    pub record Posts (a b : ℕ) (acts : List (Act O)) : Type 0 where
      pub rest : List (Post O)
      pub is : all_posted O a b acts ≡ posted_on O a b (cut acts) ++ rest
      pub late : Each (λ m. m.stamp < suc T → ⊥) rest
      pub none : clock_of acts ≤ T → rest ≡ []

    pub cut_posts : (a b n : ℕ) (acts : List (Act O)) (l : Local O) → Lone O n acts l → Posts a b acts
    cut_posts a b n [] l r = record { rest = []; is = refl; late = tt; none = λ less. refl }
    cut_posts a b n (Made t ∷ before) l r = go (leb_tells t.event.stamp T) (cut_posts a b n before r.0 r.1)
      where
        F : List (Post O)
        F = for_link O a b t.posted

        go : ((leb t.event.stamp T ≡ true) × (t.event.stamp ≤ T)) ⊎ ((leb t.event.stamp T ≡ false) × (T < t.event.stamp)) → Posts a b before → Posts a b (Made t ∷ before)
        go (inl x) p =
            let up : r.0.clock < t.event.stamp = rises O n r.0 t l r.2 in
            let was : r.0.clock ≡ clock_of before = clock_is n before r.0 r.1 in
            let none : p.rest ≡ [] = p.none (omega (arith, up, was, x.1)) in
            let P = posted_on O a b (cut before) in
            let e : all_posted O a b before ≡ P = p.is ∙ (ap (λ (k : List (Post O)). P ++ k) none ∙ append-nil P) in
            record {
              rest = [];
              is = subst (λ (k : Bool). all_posted O a b before ++ F ≡ posted_on O a b (cond k (t ∷ cut before) (cut before)) ++ []) (sym x.0) (ap (λ (k : List (Post O)). k ++ F) e ∙ sym (append-nil (P ++ F)));
              late = tt;
              none = λ less. refl;
            }
        go (inr x) p =
            let P = posted_on O a b (cut before) in
            record {
              rest = p.rest ++ F;
              is = subst (λ (k : Bool). all_posted O a b before ++ F ≡ posted_on O a b (cond k (t ∷ cut before) (cut before)) ++ (p.rest ++ F)) (sym x.0) (ap (λ (k : List (Post O)). k ++ F) p.is ∙ append_assoc P p.rest F);
              late = all-append (steps O) (λ m. m.stamp < suc T → ⊥) p.rest F p.late (each_to (λ m. m.stamp ≡ t.event.stamp) (λ m. m.stamp < suc T → ⊥) (λ m e less. omega (arith, e, less, x.1)) F (stamped a b t.event.node t.event.stamp t.posted (marked O n r.0 t l r.2).posted));
              none = λ less. absurd (omega (arith, less, x.1));
            }
    cut_posts a b n (Skipped c m ∷ before) l r = let p = cut_posts a b n before r.0 r.1 in record { rest = p.rest; is = p.is; late = p.late; none = p.none }

    -- what is taken up to the cut is what is taken first
    pub record Takes (a b : ℕ) (acts : List (Act O)) : Type 0 where
      pub rest : List (Post O)
      pub is : taken_on O a b (cut acts) ++ rest ≡ all_taken O a b acts
      pub none : clock_of acts ≤ T → Each (λ m. m.stamp < T) rest → rest ≡ []

    fronts : (a b n s : ℕ) (o : Option (Post O)) → IfSome o (λ l. (l.to ≡ n) × (l.stamp < s)) → (at_front O o a b ≡ []) ⊎ ((m : Post O) × (at_front O o a b ≡ m ∷ []) × (m.stamp < s))
    fronts a b n s None h = inl refl
    fronts a b n s (Some m) h = go ((a == m.from) && (b == m.to))
      where
        go : (k : Bool) → (cond k (m ∷ []) [] ≡ []) ⊎ ((z : Post O) × (cond k (m ∷ []) [] ≡ z ∷ []) × (z.stamp < s))
        go true = inr (m, refl, h.1)
        go false = inl refl

    pub cut_takes : (a b n : ℕ) (acts : List (Act O)) (l : Local O) → Lone O n acts l → Rising (all_taken O a b acts) → AllLate acts → Takes a b acts
    cut_takes a b n [] l r up late = record { rest = []; is = refl; none = λ less each. refl }
    cut_takes a b n (Made t ∷ before) l r up late = go (leb_tells t.event.stamp T) (cut_takes a b n before r.0 r.1 (rising_left (all_taken O a b before) (at_front O t.taken a b) up) late)
      where
        F : List (Post O)
        F = at_front O t.taken a b

        go : ((leb t.event.stamp T ≡ true) × (t.event.stamp ≤ T)) ⊎ ((leb t.event.stamp T ≡ false) × (T < t.event.stamp)) → Takes a b before → Takes a b (Made t ∷ before)
        go (inr x) p =
            let C = taken_on O a b (cut before) in
            record {
              rest = p.rest ++ F;
              is = subst (λ (k : Bool). taken_on O a b (cond k (t ∷ cut before) (cut before)) ++ (p.rest ++ F) ≡ all_taken O a b before ++ F) (sym x.0) (sym (append_assoc C p.rest F) ∙ ap (λ (k : List (Post O)). k ++ F) p.is);
              none = λ less each. absurd (omega (arith, less, x.1));
            }
        go (inl x) p = which (fronts a b t.event.node t.event.stamp t.taken (marked O n r.0 t l r.2).taken)
          where
            C : List (Post O)
            C = taken_on O a b (cut before)

            below : clock_of before ≤ T
            below = let y : r.0.clock < t.event.stamp = rises O n r.0 t l r.2 in let was : r.0.clock ≡ clock_of before = clock_is n before r.0 r.1 in omega (arith, y, was, x.1)

            with_rest : (rest : List (Post O)) → (C ++ F) ++ rest ≡ all_taken O a b before ++ F → (Each (λ m. m.stamp < T) rest → rest ≡ []) → Takes a b (Made t ∷ before)
            with_rest rest e f = record { rest = rest; is = subst (λ (k : Bool). taken_on O a b (cond k (t ∷ cut before) (cut before)) ++ rest ≡ all_taken O a b before ++ F) (sym x.0) e; none = λ less each. f each }

            which : (F ≡ []) ⊎ ((m : Post O) × (F ≡ m ∷ []) × (m.stamp < t.event.stamp)) → Takes a b (Made t ∷ before)
            which (inl e) = with_rest p.rest (ap (λ (k : List (Post O)). (C ++ k) ++ p.rest) e ∙ (ap (λ (k : List (Post O)). k ++ p.rest) (append-nil C) ∙ (p.is ∙ (sym (append-nil (all_taken O a b before)) ∙ ap (λ (k : List (Post O)). all_taken O a b before ++ k) (sym e))))) (p.none below)
            which (inr (m, e, less)) =
                let last : Each (λ k. k.stamp ≤ m.stamp) (C ++ p.rest) = subst (λ (k : List (Post O)). Each (λ z. z.stamp ≤ m.stamp) k) (sym p.is) (rising_last (all_taken O a b before) m (subst (λ (k : List (Post O)). Rising (all_taken O a b before ++ k)) e up)) in
                let none : p.rest ≡ [] = p.none below (each_to (λ k. k.stamp ≤ m.stamp) (λ k. k.stamp < T) (λ k y. omega (arith, y, less, x.1)) p.rest (each_end (λ k. k.stamp ≤ m.stamp) C p.rest last)) in
                with_rest [] (append-nil (C ++ F) ∙ ap (λ (k : List (Post O)). k ++ F) (sym (append-nil C) ∙ (ap (λ (k : List (Post O)). C ++ k) (sym none) ∙ p.is))) (λ each. refl)
    cut_takes a b n (Skipped c m ∷ before) l r up late = whole (cut_takes a b n before r.0 r.1 (rising_left (all_taken O a b before) (cond (a == c) (m ∷ []) []) up) late.1)
      where
        none : (p : Takes a b before) (k : Bool) → clock_of before ≤ T → Each (λ z. z.stamp < T) (p.rest ++ cond k (m ∷ []) []) → (T ≤ m.stamp) ⊎ (T < clock_of before) → p.rest ++ cond k (m ∷ []) [] ≡ []
        none p true less each (inl x) = let y = (each_end (λ z. z.stamp < T) p.rest (m ∷ []) each).0 in absurd (omega (arith, x, y))
        none p true less each (inr x) = absurd (omega (arith, x, less))
        none p false less each x = append-nil p.rest ∙ p.none less (each_left (λ z. z.stamp < T) p.rest [] each)

        whole : Takes a b before → Takes a b (Skipped c m ∷ before)
        whole p = record {
          rest = p.rest ++ cond (a == c) (m ∷ []) [];
          is = sym (append_assoc (taken_on O a b (cut before)) p.rest (cond (a == c) (m ∷ []) [])) ∙ ap (λ (k : List (Post O)). k ++ cond (a == c) (m ∷ []) []) p.is;
          none = λ less each. none p (a == c) less each late.0;
        }

    cut_low : (acts : List (Act O)) → Each (λ t. t.event.stamp ≤ suc T) (cut acts)
    cut_low [] = tt
    cut_low (Made t ∷ before) = go (leb_tells t.event.stamp T) (cut_low before)
      where
        go : ((leb t.event.stamp T ≡ true) × (t.event.stamp ≤ T)) ⊎ ((leb t.event.stamp T ≡ false) × (T < t.event.stamp)) → Each (λ z. z.event.stamp ≤ suc T) (cut before) → Each (λ z. z.event.stamp ≤ suc T) (cond (leb t.event.stamp T) (t ∷ cut before) (cut before))
        go (inl x) ih = subst (λ (k : Bool). Each (λ z. z.event.stamp ≤ suc T) (cond k (t ∷ cut before) (cut before))) (sym x.0) (omega (arith, x.1), ih)
        go (inr x) ih = subst (λ (k : Bool). Each (λ z. z.event.stamp ≤ suc T) (cond k (t ∷ cut before) (cut before))) (sym x.0) ih
    cut_low (Skipped a m ∷ before) = cut_low before

    -- the nodes up to the cut
    pub cut_did : (acts : ℕ → List (Act O)) (w : World O) → DidAll O acts w → ((n : ℕ) → AllLate (acts n)) → (v : World O) × Did O (λ n. cut (acts n)) v
    cut_did acts w did late = (record { nodes = λ n. (nodes n).state; links = λ a b. (begins a b).0 }, record { nodes = λ n. (nodes n).alone; links = λ a b. (begins a b).1 })
      where
        nodes : (n : ℕ) → Cut n (acts n) (w.nodes n)
        nodes n = cut_alone n (acts n) (w.nodes n) (did.nodes n)

        posts : (a b : ℕ) → Posts a b (acts a)
        posts a b = cut_posts a b a (acts a) (w.nodes a) (did.nodes a)

        takes : (a b : ℕ) → Takes a b (acts b)
        takes a b = cut_takes a b b (acts b) (w.nodes b) (did.nodes b) (rising_left (all_taken O a b (acts b)) (w.links a b) (subst Rising (sym (did.links a b)) (risen a b a (acts a) (w.nodes a) (did.nodes a)).rising)) (late b)

        low : (a b : ℕ) → Each (λ m. m.stamp < suc T) (taken_on O a b (cut (acts b)))
        low a b = taken_before (steps O) a b (suc T) (cut (acts b)) (each_part (steps O) _ (Marked O) (cut (acts b)) (λ t k. k.0) (run_marked (steps O) (keeps O) b (cut (acts b)) (nodes b).state (nodes b).alone)) (cut_low (acts b))

        begins : (a b : ℕ) → Begins (steps O) (taken_on O a b (cut (acts b))) (posted_on O a b (cut (acts a)))
        begins a b =
            let t = takes a b in
            let p = posts a b in
            prefix_cut (steps O) (λ m. m.stamp < suc T) (taken_on O a b (cut (acts b))) (posted_on O a b (cut (acts a))) p.rest (low a b) p.late
            (t.rest ++ w.links a b, sym (append_assoc (taken_on O a b (cut (acts b))) t.rest (w.links a b)) ∙ (ap (λ (k : List (Post O)). k ++ w.links a b) t.is ∙ (did.links a b ∙ p.is)))
