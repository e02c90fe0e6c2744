-- No letter is odd where turns keep the rule of stamps exactly: known is only each node's own order.
use Rattle.std.proofs.Common.{◌+◌, ◌≡◌, ℕ, zero, suc, ◌<◌, ◌≤◌, ◌==◌, ◌&&◌, ◌⊎◌, inl, inr, Bool, true, false, cond, Option, Some, None, List, [], ◌∷◌, ◌++◌, length, refl, sym, ap, ◌∙◌, subst, append_assoc, arith, ◌-◌, IfSome}
use Rattle.std.proofs.lemmas.Bool.Decides.{leb_tells}
use lib.Dec.{leb}
use Rattle.protocol.specs.Ops.{Ops, Sound}
use Rattle.protocol.specs.Deeds.{Deed, Strange, Noted}
use Rattle.protocol.specs.Notes.{Note, Move, Post, Turn, Local, Way}
use Rattle.protocol.specs.Spots.{Spot, Travels, way_by}
use Rattle.protocol.specs.Cluster.{World, for_link, at_front, Reached, events}
use Rattle.protocol.specs.Odd.{IsOdd, ManyHops, hops_end, stamp_end}
use Rattle.protocol.proofs.Talk.{same_numbers, numbers_same, on_link, talk, talk-append}
use Rattle.protocol.proofs.Process.{WayTells, way_tells}
use Rattle.protocol.proofs.Stand.{Standing, reached_stands}
use Rattle.run_laws.specs.UnderWay.{moves}
use Rattle.run_laws.specs.Carried.{steps, world_of, Each, Sorted, Later, own_events, recorded, shown, posted_on, NoneStrange}
use Rattle.run_laws.specs.Weaving.{own, Woven}
use Rattle.run_laws.proofs.Gapless.{Exact, last_stamp, low_more, stamps_few}
use Rattle.run_laws.proofs.Stamps.{rises}
use Rattle.protocol.specs.Does.{next_stamp}
use Rattle.run_laws.specs.Skipping.{Act, Made, Skipped, Lone, DidAll, all_posted, all_taken, journal, NoneSkipped}
use Rattle.run_laws.proofs.Moves.{Balanced, path_balanced}
use Rattle.run_laws.proofs.Odd.{few_lands}
use Rattle.run_laws.proofs.Did.{line_usual, did_holds}
use Rattle.run_laws.proofs.Weave.{marked, did_woven, reached_so}
use Rattle.run_laws.proofs.Weaving.{posted_own, all-append}
use Rattle.run_laws.proofs.Cutting.{clock_of, clock_is, cut, AllLate, cut_did, cut_posts, each_left, each_to, each_end, stamped}

-- the events up to a stamp
abbrev low : ℕ → List Noted → List Noted
low T [] = []
low T (e ∷ es) = cond (leb e.stamp T) (e ∷ low T es) (low T es)

low_each : (P : Noted → Type 0) (T : ℕ) (es : List Noted) → Each P es → Each P (low T es)
low_each P T [] p = tt
low_each P T (e ∷ es) p = go (leb e.stamp T) (low_each P T es p.1)
  where
    go : (b : Bool) → Each P (low T es) → Each P (cond b (e ∷ low T es) (low T es))
    go true r = (p.0, r)
    go false r = r

low_sorted : (T : ℕ) (es : List Noted) → Sorted es → Sorted (low T es)
low_sorted T [] s = tt
low_sorted T (e ∷ es) s = go (leb e.stamp T) (low_sorted T es s.1)
  where
    go : (b : Bool) → Sorted (low T es) → Sorted (cond b (e ∷ low T es) (low T es))
    go true r = (low_each (λ f. Later e f) T es s.0, r)
    go false r = r

low_length : (T : ℕ) (es : List Noted) → length (low T es) ≤ length es
low_length T [] = omega arith
low_length T (e ∷ es) = go (leb e.stamp T) (low_length T es)
  where
    go : (b : Bool) → length (low T es) ≤ length es → length (cond b (e ∷ low T es) (low T es)) ≤ suc (length es)
    go true r = omega (arith, r)
    go false r = omega (arith, r)

low_own : (T n : ℕ) (es : List Noted) → own_events n (low T es) ≡ low T (own_events n es)
low_own T n [] = refl
low_own T n (e ∷ es) = go (leb e.stamp T) (e.node == n) refl refl (low_own T n es)
  where
    go : (b c : Bool) → leb e.stamp T ≡ b → (e.node == n) ≡ c → own_events n (low T es) ≡ low T (own_events n es) → own_events n (cond b (e ∷ low T es) (low T es)) ≡ low T (cond c (e ∷ own_events n es) (own_events n es))
    go true true x y r = ap (λ (k : Bool). cond k (e ∷ own_events n (low T es)) (own_events n (low T es))) y ∙ (ap (λ (k : List Noted). e ∷ k) r ∙ sym (ap (λ (k : Bool). cond k (e ∷ low T (own_events n es)) (low T (own_events n es))) x))
    go true false x y r = ap (λ (k : Bool). cond k (e ∷ own_events n (low T es)) (own_events n (low T es))) y ∙ r
    go false true x y r = r ∙ sym (ap (λ (k : Bool). cond k (e ∷ low T (own_events n es)) (low T (own_events n es))) x)
    go false false x y r = r

both_same : {A : Type 0} (b : Bool) (x : A) → x ≡ cond b x x
both_same true x = refl
both_same false x = refl

low_recorded : (T : ℕ) (e : Noted) (what : Deed) (xs : List Noted) → low T (recorded e what ++ xs) ≡ cond (leb e.stamp T) (recorded e what ++ low T xs) (low T xs)
low_recorded T e (Strange p) xs = both_same (leb e.stamp T) (low T xs)
low_recorded T e _ xs = refl

module _ (O : Ops) where
  low_journal : (T : ℕ) (acts : List (Act O)) → low T (journal O acts) ≡ shown O (cut O T acts)
  low_journal T [] = refl
  low_journal T (Made t ∷ before) = low_recorded T t.event t.event.what (journal O before) ∙ go (leb t.event.stamp T) (low_journal T before)
    where
      go : (b : Bool) → low T (journal O before) ≡ shown O (cut O T before) → cond b (recorded t.event t.event.what ++ low T (journal O before)) (low T (journal O before)) ≡ shown O (cond b (t ∷ cut O T before) (cut O T before))
      go true r = ap (λ (k : List Noted). recorded t.event t.event.what ++ k) r
      go false r = r
  low_journal T (Skipped a l ∷ before) = low_journal T before

  shown_plain : (h : List (Turn O)) → NoneStrange O h → shown O h ≡ events O h
  shown_plain [] u = refl
  shown_plain (t ∷ h) u = ap (λ (x : List Noted). x ++ shown O h) (line_usual t.event t.event.what u.0) ∙ ap (λ (x : List Noted). t.event ∷ x) (shown_plain h u.1)

  events_length : (h : List (Turn O)) → length (events O h) ≡ length h
  events_length [] = refl
  events_length (t ∷ h) = ap suc (events_length h)

  each_at : (P : Post O → Type 0) (xs : List (Post O)) → ((us : List (Post O)) (l : Post O) (vs : List (Post O)) → xs ≡ us ++ (l ∷ vs) → P l) → Each P xs
  each_at P [] f = tt
  each_at P (x ∷ xs) f = (f [] x xs refl, each_at P xs (λ us l vs e. f (x ∷ us) l vs (ap (λ (k : List (Post O)). x ∷ k) e)))

  not_nil : (xs : List (Note O)) (m : Note O) (ms : List (Note O)) → [] ≡ xs ++ (m ∷ ms) → ⊥
  not_nil [] m ms e = cc
  not_nil (x ∷ xs) m ms e = cc

  in_way : (o : Option (Way O)) (a b : ℕ) (xs : List (Note O)) (m : Note O) (ms : List (Note O)) → on_link O o a b ≡ xs ++ (m ∷ ms) → (w : Way O) × (o ≡ Some w) × (w.note ≡ m)
  in_way None a b xs m ms e = absurd (not_nil xs m ms e)
  in_way (Some w) a b xs m ms e = go ((a == w.from) && (b == w.to)) xs e
    where
      go : (k : Bool) (xs : List (Note O)) → cond k (w.note ∷ []) [] ≡ xs ++ (m ∷ ms) → (z : Way O) × (Some w ≡ Some z) × (z.note ≡ m)
      go true [] e = (w, refl, cc)
      go true (x ∷ xs) e = absurd (not_nil xs m ms (cc))
      go false xs e = absurd (not_nil xs m ms e)

  module _ (S : Sound O) where
    hops_on : (h : List (Turn O)) (w : World O) (st : Standing O S h w) (a b : ℕ) (us : List (Post O)) (l : Post O) (vs : List (Post O)) → w.links a b ≡ us ++ (l ∷ vs) → (p : ℕ) (u : O.User) (hops : ℕ) (line : Option ℕ) → l.note ≡ Move p u hops line → hops ≤ length h
    hops_on h w st a b us l vs is p u hops line note = go x.0 x.1 x.2
      where
        heard : talk O p (l ∷ vs) ≡ Move p u hops line ∷ talk O p vs
        heard = rw (note, same_numbers p p refl) refl

        x : (z : Way O) × (way_by O p (st.spots p) ≡ Some z) × (z.note ≡ Move p u hops line)
        x = in_way (way_by O p (st.spots p)) a b (talk O p us) _ _ (sym ((st.stands.at p).letters a b) ∙ (ap (talk O p) is ∙ (talk-append O p us (l ∷ vs) ∙ ap (λ (k : List (Note O)). talk O p us ++ k) heard)))

        go : (z : Way O) → way_by O p (st.spots p) ≡ Some z → z.note ≡ Move p u hops line → hops ≤ length h
        go z e f =
            let told : WayTells O (Move p u hops line) z.from z.to (st.spots p) = subst (λ (k : Note O). WayTells O k z.from z.to (st.spots p)) f (way_tells O p (st.spots p) z e) in
            let b : Balanced O S (Travels z.from z.to told.0 line told.1) (moves p (events O h)) = subst (λ (k : Spot O). Balanced O S k (moves p (events O h))) told.2 (path_balanced O S h st.spots w st.path p) in
            let lands : told.0.hops ≡ (moves p (events O h)).lands = b.hops in
            let same : told.0.hops ≡ hops = told.4 in
            omega (arith, lands, same, few_lands O S p h)

    -- a letter of a run goes to its link's end and has few hops
    abbrev Plain : ℕ → Post O → Type 0
    Plain b l = (l.to ≡ b) × (ManyHops O l.note → ⊥)

    to_link : (a b : ℕ) (ls : List (Post O)) → Each (λ l. l.to ≡ b) (for_link O a b ls)
    to_link a b [] = tt
    to_link a b (l ∷ ls) = go (a == l.from) (b == l.to) refl (to_link a b ls)
      where
        go : (x y : Bool) → (b == l.to) ≡ y → Each (λ l. l.to ≡ b) (for_link O a b ls) → Each (λ l. l.to ≡ b) (cond (x && y) (l ∷ for_link O a b ls) (for_link O a b ls))
        go true true e r = (sym (numbers_same b l.to e), r)
        go true false e r = r
        go false true e r = r
        go false false e r = r

    each_pair : (P Q : Post O → Type 0) (xs : List (Post O)) → Each P xs → Each Q xs → Each (λ l. P l × Q l) xs
    each_pair P Q [] p q = tt
    each_pair P Q (x ∷ xs) p q = ((p.0, q.0), each_pair P Q xs p.1 q.1)

    run_plain : (a b : ℕ) (h : List (Turn O)) (w : World O) → Reached O h w → length h < hops_end → Each (Plain b) (posted_on O a b h)
    run_plain a b [] w r few = tt
    run_plain a b (t ∷ h) v r few = all-append (steps O) (Plain b) (posted_on O a b h) (for_link O a b t.posted) (run_plain a b h r.0 r.1 (omega (arith, few)))
        (each_pair (λ l. l.to ≡ b) (λ l. ManyHops O l.note → ⊥) (for_link O a b t.posted) (to_link a b t.posted) (each_at (λ l. ManyHops O l.note → ⊥) (for_link O a b t.posted) (λ us l vs e. fewer us l vs e l.note refl)))
      where
        fewer : (us : List (Post O)) (l : Post O) (vs : List (Post O)) → for_link O a b t.posted ≡ us ++ (l ∷ vs) → (m : Note O) → l.note ≡ m → ManyHops O m → ⊥
        fewer us l vs e (Move p u hops line) f far =
            let less = hops_on (t ∷ h) v (reached_stands O S (t ∷ h) v r) a b (r.2.rest a b ++ us) l vs (r.2.posts a b ∙ (ap (λ (k : List (Post O)). r.2.rest a b ++ k) e ∙ sym (append_assoc (r.2.rest a b) us (l ∷ vs)))) p u hops line f in
            omega (arith, far, less, few)
        fewer us l vs e _ f far = absurd far

    -- a letter of a stamp up to the cut is plain
    abbrev Sent : ℕ → ℕ → Post O → Type 0
    Sent T b l = l.stamp ≤ T → Plain b l

    later : (T n : ℕ) (acts : List (Act O)) (l : Local O) → suc T < stamp_end → Lone O n acts l → ((a : ℕ) → Each (Sent T n) (all_taken O a n acts)) → AllLate O T acts → AllLate O (suc T) acts
    later T n [] l far r sent late = tt
    later T n (Made t ∷ before) l far r sent late = later T n before r.0 far r.1 (λ a. each_left O (Sent T n) (all_taken O a n before) (at_front O t.taken a n) (sent a)) late
    later T n (Skipped a m ∷ before) l far r sent late = (
      go (leb_tells (suc T) m.stamp) (leb_tells (suc (suc T)) (clock_of O before)),
      later T n before r.0 far r.1 (λ c. each_left O (Sent T n) (all_taken O c n before) (cond (c == a) (m ∷ []) []) (sent c)) late.1,
    )
      where
        this : Sent T n m
        this = (each_end O (Sent T n) (all_taken O a n before) (m ∷ []) (subst (λ (k : Bool). Each (Sent T n) (all_taken O a n before ++ cond k (m ∷ []) [])) (same_numbers a a refl) (sent a))).0

        bad : m.stamp ≤ T → clock_of O before ≤ suc T → IsOdd O n r.0 m → ⊥
        bad less soon (inl x) = omega (arith, x, less, far)
        bad less soon (inr (inl x)) = let y = (this less).0 in let z = r.2 in omega (arith, x, y, z)
        bad less soon (inr (inr (inl x))) = (this less).1 x
        bad less soon (inr (inr (inr x))) = let y = x.0 in let z = clock_is O n before r.0 r.1 in omega (arith, y, z, soon, far)

        go : ((leb (suc T) m.stamp ≡ true) × (suc T ≤ m.stamp)) ⊎ ((leb (suc T) m.stamp ≡ false) × (m.stamp < suc T)) → ((leb (suc (suc T)) (clock_of O before) ≡ true) × (suc (suc T) ≤ clock_of O before)) ⊎ ((leb (suc (suc T)) (clock_of O before) ≡ false) × (clock_of O before < suc (suc T))) → (suc T ≤ m.stamp) ⊎ (suc T < clock_of O before)
        go (inl x) y = inl x.1
        go (inr x) (inl y) = inr y.1
        go (inr x) (inr y) = absurd (bad (omega (arith, x.1)) (omega (arith, y.1)) r.3.odd)

    -- the rule of stamps up to a cut
    cut_exact : (T n : ℕ) (acts : List (Act O)) (l : Local O) → Lone O n acts l → Exact O (cut O T acts) × (clock_of O acts ≤ T → last_stamp O (cut O T acts) ≡ clock_of O acts)
    cut_exact T n [] l r = (tt, λ less. refl)
    cut_exact T n (Made t ∷ before) l r = go (leb_tells t.event.stamp T) (cut_exact T n before r.0 r.1)
      where
        go : ((leb t.event.stamp T ≡ true) × (t.event.stamp ≤ T)) ⊎ ((leb t.event.stamp T ≡ false) × (T < t.event.stamp)) → Exact O (cut O T before) × (clock_of O before ≤ T → last_stamp O (cut O T before) ≡ clock_of O before) → Exact O (cond (leb t.event.stamp T) (t ∷ cut O T before) (cut O T before)) × (t.event.stamp ≤ T → last_stamp O (cond (leb t.event.stamp T) (t ∷ cut O T before) (cut O T before)) ≡ t.event.stamp)
        go (inl x) ih =
            let up : r.0.clock < t.event.stamp = rises O n r.0 t l r.2 in
            let was : r.0.clock ≡ clock_of O before = clock_is O n before r.0 r.1 in
            let e : last_stamp O (cut O T before) ≡ r.0.clock = ih.1 (omega (arith, up, was, x.1)) ∙ sym was in
            subst (λ (k : Bool). Exact O (cond k (t ∷ cut O T before) (cut O T before)) × (t.event.stamp ≤ T → last_stamp O (cond k (t ∷ cut O T before) (cut O T before)) ≡ t.event.stamp)) (sym x.0) ((subst (λ (k : ℕ). t.event.stamp ≡ next_stamp O k t.taken) (sym e) r.3.stamp_is, ih.0), λ less. refl)
        go (inr x) ih = subst (λ (k : Bool). Exact O (cond k (t ∷ cut O T before) (cut O T before)) × (t.event.stamp ≤ T → last_stamp O (cond k (t ∷ cut O T before) (cut O T before)) ≡ t.event.stamp)) (sym x.0) (ih.0, λ less. absurd (omega (arith, less, x.1)))
    cut_exact T n (Skipped a m ∷ before) l r = cut_exact T n before r.0 r.1

    each_own : (P : Turn O → Type 0) (n : ℕ) (h : List (Turn O)) → Each P h → Each P (own (steps O) n h)
    each_own P n [] p = tt
    each_own P n (t ∷ h) p = go (t.event.node == n) (each_own P n h p.1)
      where
        go : (b : Bool) → Each P (own (steps O) n h) → Each P (cond b (t ∷ own (steps O) n h) (own (steps O) n h))
        go true r = (p.0, r)
        go false r = r

    -- no stamp is above L and at most s
    abbrev Far : ℕ → ℕ → ℕ → Type 0
    Far L s x = (x ≤ L) ⊎ (s < x)

    abbrev Gap : ℕ → ℕ → List (Act O) → Type 0
    Gap L s [] = Unit {0}
    Gap L s (Made t ∷ before) = Far L s t.event.stamp × Gap L s before
    Gap L s (Skipped a m ∷ before) = Gap L s before

    gap_cut : (L T : ℕ) (acts : List (Act O)) → Each (λ t. t.event.stamp ≤ L) (cut O T acts) → Gap L T acts
    gap_cut L T [] p = tt
    gap_cut L T (Made t ∷ before) p = go (leb_tells t.event.stamp T) p (gap_cut L T before)
      where
        go : ((leb t.event.stamp T ≡ true) × (t.event.stamp ≤ T)) ⊎ ((leb t.event.stamp T ≡ false) × (T < t.event.stamp)) → Each (λ z. z.event.stamp ≤ L) (cond (leb t.event.stamp T) (t ∷ cut O T before) (cut O T before)) → (Each (λ z. z.event.stamp ≤ L) (cut O T before) → Gap L T before) → Far L T t.event.stamp × Gap L T before
        go (inl x) p f = let q = subst (λ (k : Bool). Each (λ z. z.event.stamp ≤ L) (cond k (t ∷ cut O T before) (cut O T before))) x.0 p in (inl q.0, f q.1)
        go (inr x) p f = let q = subst (λ (k : Bool). Each (λ z. z.event.stamp ≤ L) (cond k (t ∷ cut O T before) (cut O T before))) x.0 p in (inr x.1, f q)
    gap_cut L T (Skipped a m ∷ before) p = gap_cut L T before p

    gap_clock : (L s : ℕ) (acts : List (Act O)) → Gap L s acts → Far L s (clock_of O acts)
    gap_clock L s [] g = inl (omega arith)
    gap_clock L s (Made t ∷ before) g = g.0
    gap_clock L s (Skipped a m ∷ before) g = gap_clock L s before g

    gap_posted : (L s a b n : ℕ) (acts : List (Act O)) (l : Local O) → Lone O n acts l → Gap L s acts → Each (λ m. Far L s m.stamp) (all_posted O a b acts)
    gap_posted L s a b n [] l r g = tt
    gap_posted L s a b n (Made t ∷ before) l r g = all-append (steps O) (λ m. Far L s m.stamp) (all_posted O a b before) (for_link O a b t.posted) (gap_posted L s a b n before r.0 r.1 g.1)
        (each_to O (λ m. m.stamp ≡ t.event.stamp) (λ m. Far L s m.stamp) (λ m e. subst (Far L s) (sym e) g.0) (for_link O a b t.posted) (stamped O a b t.event.node t.event.stamp t.posted (marked O n r.0 t l r.2).posted))
    gap_posted L s a b n (Skipped c m ∷ before) l r g = gap_posted L s a b n before r.0 r.1 g

    came : (P : Post O → Type 0) (n : ℕ) (o : Option (Post O)) (s : ℕ) → IfSome o (λ l. (l.to ≡ n) × (l.stamp < s)) → ((a : ℕ) → Each P (at_front O o a n)) → IfSome o P
    came P n None s e h = tt
    came P n (Some l) s e h =
        let x : ((l.from == l.from) && (n == l.to)) ≡ true = rw (same_numbers l.from l.from refl, same_numbers n l.to (sym e.0)) refl in
        (subst (λ (k : Bool). Each P (cond k (l ∷ []) [])) x (h l.from)).0

    next_far : (L s c : ℕ) (o : Option (Post O)) → L < s → Far L s c → IfSome o (λ l. Far L s l.stamp) → next_stamp O c o ≡ suc s → ⊥
    next_far L s c None less (inl x) y e = omega (arith, less, x, e)
    next_far L s c None less (inr x) y e = omega (arith, less, x, e)
    next_far L s c (Some l) less (inl x) (inl y) e = omega (arith, less, x, y, e)
    next_far L s c (Some l) less (inl x) (inr y) e = omega (arith, less, x, y, e)
    next_far L s c (Some l) less (inr x) y e = omega (arith, less, x, e)

    gap_step : (L s n : ℕ) (acts : List (Act O)) (l : Local O) → L < s → Lone O n acts l → Gap L s acts → ((a : ℕ) → Each (λ m. Far L s m.stamp) (all_taken O a n acts)) → Gap L (suc s) acts
    gap_step L s n [] l less r g taken = tt
    gap_step L s n (Made t ∷ before) l less r g taken = (
      go g.0 (leb_tells t.event.stamp (suc s)),
      gap_step L s n before r.0 less r.1 g.1 (λ a. each_left O (λ m. Far L s m.stamp) (all_taken O a n before) (at_front O t.taken a n) (taken a)),
    )
      where
        letter : IfSome t.taken (λ m. Far L s m.stamp)
        letter = came (λ m. Far L s m.stamp) n t.taken t.event.stamp (subst (λ (k : ℕ). IfSome t.taken (λ m. (m.to ≡ k) × (m.stamp < t.event.stamp))) r.2.node (marked O n r.0 t l r.2).taken) (λ a. each_end O (λ m. Far L s m.stamp) (all_taken O a n before) (at_front O t.taken a n) (taken a))

        go : Far L s t.event.stamp → ((leb t.event.stamp (suc s) ≡ true) × (t.event.stamp ≤ suc s)) ⊎ ((leb t.event.stamp (suc s) ≡ false) × (suc s < t.event.stamp)) → Far L (suc s) t.event.stamp
        go (inl x) y = inl x
        go (inr x) (inr y) = inr y.1
        go (inr x) (inl y) = absurd (next_far L s r.0.clock t.taken less (subst (Far L s) (sym (clock_is O n before r.0 r.1)) (gap_clock L s before g.1)) letter (sym r.3.stamp_is ∙ omega (arith, x, y.1)))
    gap_step L s n (Skipped a m ∷ before) l less r g taken = gap_step L s n before r.0 less r.1 g (λ c. each_left O (λ z. Far L s z.stamp) (all_taken O c n before) (cond (c == a) (m ∷ []) []) (taken c))

    none_at : (L T n : ℕ) (acts : List (Act O)) (l : Local O) → L < T → ((s : ℕ) → T ≤ s → Gap L s acts) → ((s : ℕ) → T ≤ s → (a : ℕ) → Each (λ m. Far L s m.stamp) (all_taken O a n acts)) → AllLate O T acts → NoneSkipped O acts
    none_at L T n [] l far gap taken late = tt
    none_at L T n (Made t ∷ before) l far gap taken late = none_at L T n before l far (λ s k. (gap s k).1) (λ s k a. each_left O (λ m. Far L s m.stamp) (all_taken O a n before) (at_front O t.taken a n) (taken s k a)) late
    none_at L T n (Skipped a m ∷ before) l far gap taken late = go late.0 (gap_clock L (T + clock_of O before) before (gap (T + clock_of O before) (omega arith))) (this (T + m.stamp) (omega arith))
      where
        this : (s : ℕ) → T ≤ s → Far L s m.stamp
        this s k = (each_end O (λ z. Far L s z.stamp) (all_taken O a n before) (m ∷ []) (subst (λ (x : Bool). Each (λ z. Far L s z.stamp) (all_taken O a n before ++ cond x (m ∷ []) [])) (same_numbers a a refl) (taken s k a))).0

        go : (T ≤ m.stamp) ⊎ (T < clock_of O before) → Far L (T + clock_of O before) (clock_of O before) → Far L (T + m.stamp) m.stamp → ⊥
        go (inl x) c (inl y) = omega (arith, x, y, far)
        go (inl x) c (inr y) = omega (arith, y, x, far)
        go (inr x) (inl y) z = omega (arith, x, y, far)
        go (inr x) (inr y) z = omega (arith, y, x, far)

    module _ (acts : ℕ → List (Act O)) (w : World O) (es : List Noted) (did : DidAll O acts w) (sorted : Sorted es) (own_is : (n : ℕ) → own_events n es ≡ journal O (acts n)) (few : length es < hops_end) where
      run_to : (T : ℕ) → ((n : ℕ) → AllLate O T (acts n)) → (v : World O) × Woven (steps O) (λ n. cut O T (acts n)) (low T es) (world_of O v)
      run_to T late =
          let d = cut_did O T acts w did late in
          let turns : ℕ → List (Turn O) = λ n. cut O T (acts n) in
          let own_low : (n : ℕ) → own_events n (low T es) ≡ shown O (turns n) = λ n. low_own T n es ∙ (ap (low T) (own_is n) ∙ low_journal T (acts n)) in
          let holds = did_holds O S turns d.0 (low T es) d.1 (low_sorted T es sorted) own_low in
          (d.0, did_woven O turns d.0 (low T es) d.1 (low_sorted T es sorted) (λ n. sym (own_low n ∙ shown_plain (turns n) (holds.2 n))))

      short : (T : ℕ) (late : (n : ℕ) → AllLate O T (acts n)) → length (run_to T late).1.all ≤ length es
      short T late = let x = (run_to T late).1 in let long : length x.all ≡ length (low T es) = sym (events_length x.all) ∙ ap length x.events_are in let y = low_length T es in omega (arith, long, y)

      all_sent : (T : ℕ) → ((n : ℕ) → AllLate O T (acts n)) → (a b : ℕ) → Each (Sent T b) (all_taken O a b (acts b))
      all_sent T late a b =
          let d = run_to T late in
          let x = d.1 in
          let less : length x.all < hops_end = let y = short T late in omega (arith, y, few) in
          let plain : Each (Plain b) (posted_on O a b x.all) = run_plain a b x.all _ (reached_so O x.all (world_of O d.0) x.reached) less in
          let here : Each (Plain b) (posted_on O a b (cut O T (acts a))) = subst (Each (Plain b)) (sym (posted_own (steps O) a b x.all x.marked) ∙ ap (posted_on O a b) (x.own_are a)) plain in
          let p = cut_posts O T a b a (acts a) (w.nodes a) (did.nodes a) in
          let soon : Each (Sent T b) (all_posted O a b (acts a)) = subst (Each (Sent T b)) (sym p.is)
          (all-append (steps O) (Sent T b) (posted_on O a b (cut O T (acts a))) p.rest (each_to O (Plain b) (Sent T b) (λ l k less. k) (posted_on O a b (cut O T (acts a))) here) (each_to O (λ l. l.stamp < suc T → ⊥) (Sent T b) (λ l k less. absurd (k (omega (arith, less)))) p.rest p.late)) in
          each_left O (Sent T b) (all_taken O a b (acts b)) (w.links a b) (subst (Each (Sent T b)) (sym (did.links a b)) soon)

      late_first : (list : List (Act O)) → AllLate O 0 list
      late_first [] = tt
      late_first (Made t ∷ before) = late_first before
      late_first (Skipped a m ∷ before) = (inl (omega arith), late_first before)

      all_late : (T : ℕ) → T < stamp_end → (n : ℕ) → AllLate O T (acts n)
      all_late zero less n = late_first (acts n)
      all_late (suc T) less n = later T n (acts n) (w.nodes n) less (did.nodes n) (λ a. all_sent T (all_late T (omega (arith, less))) a n) (all_late T (omega (arith, less)) n)

      first_gap : (T : ℕ) → ((n : ℕ) → AllLate O T (acts n)) → (n : ℕ) → Gap (length es) T (acts n)
      first_gap T late n =
          let x = (run_to T late).1 in
          let y = short T late in
          let tops : Each (λ t. t.event.stamp ≤ length x.all) x.all = stamps_few O x.all x.carried x.marked (λ k. subst (Exact O) (sym (x.own_are k)) (cut_exact T k (acts k) (w.nodes k) (did.nodes k)).0) in
          gap_cut (length es) T (acts n) (low_more O (length x.all) (length es) (cut O T (acts n)) y (subst (Each (λ t. t.event.stamp ≤ length x.all)) (x.own_are n) (each_own (λ t. t.event.stamp ≤ length x.all) n x.all tops)))

      far_taken : (s : ℕ) → ((n : ℕ) → Gap (length es) s (acts n)) → (n a : ℕ) → Each (λ m. Far (length es) s m.stamp) (all_taken O a n (acts n))
      far_taken s g n a = each_left O (λ m. Far (length es) s m.stamp) (all_taken O a n (acts n)) (w.links a n) (subst (Each (λ m. Far (length es) s m.stamp)) (sym (did.links a n)) (gap_posted (length es) s a n a (acts a) (w.nodes a) (did.nodes a) (g a)))

      gaps : (T : ℕ) → length es < T → ((n : ℕ) → Gap (length es) T (acts n)) → (k n : ℕ) → Gap (length es) (k + T) (acts n)
      gaps T less g zero n = subst (λ (s : ℕ). Gap (length es) s (acts n)) (omega arith) (g n)
      gaps T less g (suc k) n = subst (λ (s : ℕ). Gap (length es) s (acts n)) (omega arith) (gap_step (length es) (k + T) n (acts n) (w.nodes n) (omega (arith, less)) (did.nodes n) (gaps T less g k n) (far_taken (k + T) (gaps T less g k) n))

      gap_from : (T : ℕ) → length es < T → ((n : ℕ) → Gap (length es) T (acts n)) → (s : ℕ) → T ≤ s → (n : ℕ) → Gap (length es) s (acts n)
      gap_from T less g s le n = let e : (s - T) + T ≡ s = omega (arith, le) in subst (λ (x : ℕ). Gap (length es) x (acts n)) e (gaps T less g (s - T) n)

      pub none_skipped : (n : ℕ) → NoneSkipped O (acts n)
      none_skipped n =
          let late = all_late hops_end (omega arith) in
          let g = gap_from hops_end few (first_gap hops_end late) in
          none_at (length es) hops_end n (acts n) (w.nodes n) few (λ s le. g s le n) (λ s le a. far_taken s (g s le) n a) (late n)
