-- How the seats stand after the search for the least node with a full journal at which an event is due.
use Rattle.std.proofs.Common.{◌≡◌, ◌≢◌, ℕ, ◌<◌, ◌≤◌, ◌==◌, ◌++◌, ◌⊎◌, inl, inr, Bool, true, false, cond, Option, Some, None, List, [], ◌∷◌, refl, sym, ap, ◌∙◌, subst, arith, length, map, slice_get, slice_set}
use Rattle.std.specs.Option.{option_map}
use Rattle.std.proofs.lemmas.Bool.{eqb-true, eq-eqb, ne_eqb}
use Rattle.std.proofs.lemmas.Bool.Decides.{leb_tells}
use lib.Dec.{leb}
use Rattle.call_forward.specs.declared.letter.Letter.{Letter}
use Rattle.protocol.specs.Rests.{Rests, HasMore}
use Rattle.run_laws.specs.Carried.{Each}
use Rattle.node_machine.specs.Plan.{Plan}
use Rattle.node_machine.specs.Machine.{Policy, machine}
use Rattle.node_core.specs.declared.node.Node.{Node}
use Rattle.node_core.specs.Letters.{any_to}
use Rattle.node_core.specs.Locals.{local, post_of, post_at}
use Rattle.cluster_run.specs.declared.seat.Seat.{Seat}
use Rattle.cluster_run.specs.Sides.{towards}
use Rattle.cluster_run.specs.Standing.{SeatCalm, Calm}
use Rattle.cluster_run.specs.Seats.{bound, waiting, CameBy, Lives, LivesAt, Ready, Filled}
use Rattle.cluster_run.specs.Passing.{SomeFull}
use Rattle.cluster_run.specs.Filling.{IsFilled, AllLive, GoesOn, RestsFilled, AreAsked, Stopped, NoneComes, OneWaits, OneTaken, IsAwaited, FirstAwaited}
use Rattle.cluster_run.proofs.Calming.{below, get_set, length_set, some_is}
use Rattle.cluster_run.proofs.Living.{lives_step}
use Rattle.cluster_run.proofs.Passing.{set_all, set_here, set_off}
use Rattle.cluster_run.proofs.Asking.{none_same}
use Rattle.cluster_run.proofs.Awaited.{none_calm}
use Rattle.cluster_run.proofs.Stilled.{seat_at}
use Rattle.cluster_run.proofs.Stopping.{IsLeast}

module _ (policy : Policy) (plan : Plan) {C : Type 0} (puts gives : C → List Letter) (pair : C → C → Type 0) where
  -- ---- nothing changes in a calm

  lives_calm : (room n : ℕ) (hand : Option Letter) (s t : Seat Node C) → SeatCalm puts gives pair s t → LivesAt policy plan puts gives room n hand s → LivesAt policy plan puts gives room n hand t
  lives_calm room n hand s t c v = subst (λ (w : Seat Node C). Lives policy plan room n hand (towards puts t.side) (towards gives t.side) (waiting w) w.source w.node) (sym c.same) here
    where
      here : Lives policy plan room n hand (towards puts t.side) (towards gives t.side) (waiting s) s.source s.node
      here = record {
        acts = v.acts;
        lone = v.lone;
        id = v.id;
        suits = v.suits;
        room_is = v.room_is;
        fits = v.fits;
        journal_is = v.journal_is;
        strange = v.strange;
        mail = λ m. ap (λ (w : List Letter). map (post_of policy plan) (w ++ bound m (waiting s))) (c.side.put_same m) ∙ v.mail m;
        takes = λ marks m. ap (map (post_of policy plan)) (c.side.given_same m) ∙ v.takes (λ q. subst (λ (w : List Letter). Each (CameBy policy plan q n) w) (c.side.given_same q) (marks q)) m;
      }

  module _ (xs ys : List (Seat Node C)) (calm : Calm puts gives pair xs ys) where
    live_calm : (room : ℕ) (hands : ℕ → Option Letter) → AllLive policy plan puts gives room hands xs → AllLive policy plan puts gives room hands ys
    live_calm room hands l = record {
      lives = λ k t e. let p = calm.each k t e in lives_calm room k (hands k) p.0 t p.2 (l.lives k p.0 p.1);
      none = λ k e. l.none k (none_same xs ys k calm.count e);
    }

    full_calm : (n : ℕ) → ((s : Seat Node C) → slice_get xs n ≡ Some s → IsFilled s) → (s : Seat Node C) → slice_get ys n ≡ Some s → IsFilled s
    full_calm n f t e = let p = calm.each n t e in subst (λ (w : Seat Node C). IsFilled w) (sym p.2.same) (f p.0 p.1)

    more_calm : (hands : ℕ → Option Letter) (n : ℕ) → ((s : Seat Node C) → slice_get xs n ≡ Some s → HasMore (machine policy plan) n (option_map (post_at policy plan n) (hands n)) (local policy plan s.node))
        → (s : Seat Node C) → slice_get ys n ≡ Some s → HasMore (machine policy plan) n (option_map (post_at policy plan n) (hands n)) (local policy plan s.node)
    more_calm hands n f t e = let p = calm.each n t e in subst (λ (w : Seat Node C). HasMore (machine policy plan) n (option_map (post_at policy plan n) (hands n)) (local policy plan w.node)) (sym p.2.same) (f p.0 p.1)

    rests_calm : (n : ℕ) → RestsFilled policy plan puts gives n xs → RestsFilled policy plan puts gives n ys
    rests_calm n f t e = let p = calm.each n t e in subst (λ (w : Seat Node C). IsFilled w → Rests (machine policy plan) n (local policy plan w.node)) (sym p.2.same) (f p.0 p.1)

    waits_calm : (nodes n : ℕ) → OneWaits puts gives pair nodes n xs → OneWaits puts gives pair nodes n ys
    waits_calm nodes n w =
        let g = seat_at ys w.from (let b = below xs w.from w.seat w.is in let c = calm.count in omega (arith, b, c)) in
        let p = calm.each w.from g.0 g.1 in
        let same : w.seat ≡ p.0 = some_is w.seat p.0 (sym w.is ∙ p.1) in
        record { from = w.from; seat = g.0; below = w.below; is = g.1; one = ap (λ (v : Seat Node C). any_to n (waiting v)) p.2.same ∙ (ap (λ (v : Seat Node C). any_to n (waiting v)) (sym same) ∙ w.one) }

    has_calm : (nodes : ℕ) (hands : ℕ → Option Letter) (n : ℕ) → ((s : Seat Node C) → slice_get xs n ≡ Some s → HasMore (machine policy plan) n (option_map (post_at policy plan n) (hands n)) (local policy plan s.node)) ⊎ OneWaits puts gives pair nodes n xs
        → ((s : Seat Node C) → slice_get ys n ≡ Some s → HasMore (machine policy plan) n (option_map (post_at policy plan n) (hands n)) (local policy plan s.node)) ⊎ OneWaits puts gives pair nodes n ys
    has_calm nodes hands n (inl f) = inl (more_calm hands n f)
    has_calm nodes hands n (inr w) = inr (waits_calm nodes n w)

    pub least_calm : (nodes room : ℕ) (hands : ℕ → Option Letter) (r : ℕ) → IsLeast policy plan puts gives pair nodes room hands r xs → IsLeast policy plan puts gives pair nodes room hands r ys
    least_calm nodes room hands r l = record {
      live = live_calm room hands l.live;
      within = (let w = l.within in let c = calm.count in omega (arith, w, c));
      full = full_calm r l.full;
      has = has_calm nodes hands r l.has;
      rest = λ k less. rests_calm k (l.rest k less);
      below = λ k less. none_calm puts gives pair nodes k xs ys calm (l.below k less);
      empty = l.empty;
    }

    asked_calm : (room : ℕ) (hands : ℕ → Option Letter) (n : ℕ) → AreAsked policy plan puts gives room hands n xs → AreAsked policy plan puts gives room hands n ys
    asked_calm room hands n k = record {
      live = live_calm room hands k.live;
      goes = λ t e. (full_calm n (λ s f. (k.goes s f).0) t e, more_calm hands n (λ s f. (k.goes s f).1) t e);
      below = λ i less. rests_calm i (k.below i less);
    }

  -- ---- a letter was taken

  module _ (nodes room : ℕ) (hands : ℕ → Option Letter) (first r : ℕ) (mid zs : List (Seat Node C)) (less : r < first) (asked : AreAsked policy plan puts gives room hands first mid) (none : (k : ℕ) → k < r → NoneComes puts gives pair nodes k mid) (off : (k : ℕ) → k < first → hands k ≡ None) (taken : OneTaken puts gives pair r mid zs) (full : (s : Seat Node C) → slice_get zs r ≡ Some s → IsFilled s) where
    abbrev now_seats : List (Seat Node C)
    now_seats = slice_set mid r taken.t

    abbrev with_hand : ℕ → Option Letter
    with_hand k = cond (k == r) (Some taken.letter) (hands k)

    hand_here : with_hand r ≡ Some taken.letter
    hand_here = ap (λ (b : Bool). cond b (Some taken.letter) (hands r)) (eq-eqb r r refl)

    hand_off : (k : ℕ) → k ≢ r → with_hand k ≡ hands k
    hand_off k apart = ap (λ (b : Bool). cond b (Some taken.letter) (hands k)) (ne_eqb k r apart)

    live_taken : AllLive policy plan puts gives room with_hand now_seats
    live_taken = record {
      lives = set_all mid r taken.s taken.t taken.is (λ k u. LivesAt policy plan puts gives room k (with_hand k) u)
          (subst (λ (o : Option Letter). LivesAt policy plan puts gives room r o taken.t) (sym hand_here) (lives_step policy plan puts gives pair room r (Some taken.letter) taken.s taken.t taken.step (subst (λ (o : Option Letter). LivesAt policy plan puts gives room r o taken.s) (off r less) (asked.live.lives r taken.s taken.is))))
          (λ k u apart e. subst (λ (o : Option Letter). LivesAt policy plan puts gives room k o u) (sym (hand_off k apart)) (asked.live.lives k u e));
      none = λ k e.
          let there : slice_get now_seats r ≡ Some taken.t = get_set mid r taken.t (below mid r taken.s taken.is) in
          hand_off k (λ same. let z : Some taken.t ≡ None = sym there ∙ (ap (slice_get now_seats) (sym same) ∙ e) in absurd cc) ∙ asked.live.none k (none_same mid now_seats k (length_set mid r taken.t) e);
    }

    least_taken : IsLeast policy plan puts gives pair nodes room with_hand r now_seats
    least_taken = record {
      live = live_taken;
      within = (let b = below mid r taken.s taken.is in let c = length_set mid r taken.t in omega (arith, b, c));
      full = λ s e. full s (ap (λ (w : List (Seat Node C)). slice_get w r) taken.now ∙ e);
      has = inl (λ s e. subst (λ (o : Option Letter). HasMore (machine policy plan) r (option_map (post_at policy plan r) o) (local policy plan s.node)) (sym hand_here) tt);
      rest = λ k lower s e f. asked.below k (omega (arith, lower, less)) s (set_off mid r taken.s taken.t taken.is k s (λ same. absurd (omega (arith, same, lower))) e) f;
      below = λ k lower s e f a u a_below g.
          let s_mid = set_off mid r taken.s taken.t taken.is k s (λ same. absurd (omega (arith, same, lower))) e in
          set_all mid r taken.s taken.t taken.is (λ b w. b < nodes → (towards gives s.side b ≡ towards puts w.side k) × (any_to k (waiting w) ≡ false))
          (λ b_below. let was = none k lower s s_mid f r taken.s b_below taken.is in (was.0 ∙ sym (taken.put_same k), ap (any_to k) taken.waits_same ∙ was.1))
          (λ b w apart h b_below. none k lower s s_mid f b w b_below h)
          a u g a_below;
      empty = λ k lower. hand_off k (λ same. absurd (omega (arith, same, lower))) ∙ off k (omega (arith, lower, less));
    }

  -- ---- the search

  -- with the letters in hand then
  pub record Led (nodes room r : ℕ) (seats : List (Seat Node C)) : Type 0 where
    pub hands : ℕ → Option Letter
    pub least : IsLeast policy plan puts gives pair nodes room hands r seats

  module _ (nodes room : ℕ) (hands : ℕ → Option Letter) (first r : ℕ) (ys zs : List (Seat Node C)) (within : first < length ys) (asked : AreAsked policy plan puts gives room hands first ys) (off : (k : ℕ) → k < first → hands k ≡ None) (found : FirstAwaited puts gives pair nodes first r ys zs) where
    asked_mid : AreAsked policy plan puts gives room hands first found.mid
    asked_mid = asked_calm ys found.mid found.calm room hands first asked

    none_awaited : IsLeast policy plan puts gives pair nodes room hands first found.mid → r ≡ first → zs ≡ found.mid → Led nodes room r zs
    none_awaited l same now = record { hands = hands; least = subst (λ (w : List (Seat Node C)). IsLeast policy plan puts gives pair nodes room hands r w) (sym now) (subst (λ (i : ℕ). IsLeast policy plan puts gives pair nodes room hands i found.mid) (sym same) l) }

    at_first : r ≡ first → IsLeast policy plan puts gives pair nodes room hands first found.mid
    at_first same = record {
      live = asked_mid.live;
      within = (let c = found.calm.count in omega (arith, within, c));
      full = λ s e. (asked_mid.goes s e).0;
      has = inl (λ s e. (asked_mid.goes s e).1);
      rest = asked_mid.below;
      below = λ k less. found.below k (omega (arith, less, same));
      empty = off;
    }

    one_awaited : r < first → IsAwaited puts gives pair nodes r found.mid zs → Led nodes room r zs
    one_awaited less k = go k.comes
      where
        asked_there : AreAsked policy plan puts gives room hands first k.mid
        asked_there = asked_calm found.mid k.mid k.calm room hands first asked_mid

        none_there : (i : ℕ) → i < r → NoneComes puts gives pair nodes i k.mid
        none_there i lower = none_calm puts gives pair nodes i found.mid k.mid k.calm (found.below i lower)

        go : ((zs ≡ k.mid) × OneWaits puts gives pair nodes r k.mid) ⊎ OneTaken puts gives pair r k.mid zs → Led nodes room r zs
        go (inl x) = record {
          hands = hands;
          least = subst (λ (w : List (Seat Node C)). IsLeast policy plan puts gives pair nodes room hands r w) (sym x.0) (record {
            live = asked_there.live;
            within = (let c = found.calm.count in let d = k.calm.count in omega (arith, within, less, c, d));
            full = λ s e. k.full s (ap (λ (w : List (Seat Node C)). slice_get w r) x.0 ∙ e);
            has = inr x.1;
            rest = λ i lower. asked_there.below i (omega (arith, lower, less));
            below = none_there;
            empty = λ i lower. off i (omega (arith, lower, less));
          });
        }
        go (inr x) = record {
          hands = λ i. cond (i == r) (Some x.letter) (hands i);
          least = subst (λ (w : List (Seat Node C)). IsLeast policy plan puts gives pair nodes room (λ i. cond (i == r) (Some x.letter) (hands i)) r w) (sym x.now) (least_taken nodes room hands first r k.mid zs less asked_there none_there off x k.full);
        }

    pub led : Led nodes room r zs
    led = go found.found
      where
        go : ((r ≡ first) × (zs ≡ found.mid)) ⊎ ((r < first) × IsAwaited puts gives pair nodes r found.mid zs) → Led nodes room r zs
        go (inl x) = none_awaited (at_first x.0) x.0 x.1
        go (inr x) = one_awaited x.0 x.1

  pub led_calm : (nodes room r : ℕ) (zs fs : List (Seat Node C)) → Calm puts gives pair zs fs → Led nodes room r zs → Led nodes room r fs
  led_calm nodes room r zs fs calm l = record { hands = l.hands; least = least_calm zs fs calm nodes room l.hands r l.least }

  -- ---- the stop

  -- the letter in hand at node k
  pub record HandAt (room at k : ℕ) (xs : List (Seat Node C)) : Type 0 where
    pub hand : Option Letter
    pub lives : (s : Seat Node C) → slice_get xs k ≡ Some s → LivesAt policy plan puts gives room k hand s
    pub none : slice_get xs k ≡ None → hand ≡ None
    pub off : k < at → hand ≡ None
    pub goes : k ≡ at → (s : Seat Node C) → slice_get xs k ≡ Some s → IsFilled s × HasMore (machine policy plan) k (option_map (post_at policy plan k) hand) (local policy plan s.node)

  module _ (room at : ℕ) (xs : List (Seat Node C)) (some : SomeFull policy puts gives plan room at xs) where
    module _ (k : ℕ) (s : Seat Node C) (is : slice_get xs k ≡ Some s) where
      other_none : slice_get xs k ≡ None → ⊥
      other_none e = let z : Some s ≡ None = sym is ∙ e in absurd cc

      hand_ready : k ≢ at → Ready policy plan puts gives room k s → HandAt room at k xs
      hand_ready apart r = record {
        hand = None;
        lives = λ u e. subst (λ (w : Seat Node C). LivesAt policy plan puts gives room k None w) (some_is s u (sym is ∙ e)) r.lives;
        none = λ e. refl;
        off = λ less. refl;
        goes = λ same. absurd (apart same);
      }

      hand_filled : (k < at → ⊥) → Filled policy plan puts gives room k s → HandAt room at k xs
      hand_filled least f = record {
        hand = f.hand;
        lives = λ u e. subst (λ (w : Seat Node C). LivesAt policy plan puts gives room k f.hand w) (some_is s u (sym is ∙ e)) f.lives;
        none = λ e. absurd (other_none e);
        off = λ less. absurd (least less);
        goes = λ same u e. subst (λ (w : Seat Node C). IsFilled w × HasMore (machine policy plan) k (option_map (post_at policy plan k) f.hand) (local policy plan w.node)) (some_is s u (sym is ∙ e)) (f.full ∙ sym f.lives.room_is, f.more);
      }

      hand_above : at < k → Ready policy plan puts gives room k s ⊎ Filled policy plan puts gives room k s → HandAt room at k xs
      hand_above more (inl r) = hand_ready (λ same. absurd (omega (arith, same, more))) r
      hand_above more (inr f) = hand_filled (λ less. absurd (omega (arith, less, more))) f

      hand_from : at ≤ k → (b : Bool) → (k == at) ≡ b → HandAt room at k xs
      hand_from least true q =
          let same : k ≡ at = eqb-true k at q in
          hand_filled (λ less. absurd (omega (arith, less, same))) (subst (λ (i : ℕ). Filled policy plan puts gives room i s) (sym same) (some.full s (ap (slice_get xs) (sym same) ∙ is)))
      hand_from least false q =
          let apart : k ≢ at = (λ n. let z : true ≡ false = sym (eq-eqb k at n) ∙ q in absurd cc) in
          let more : at < k = omega (arith, least, apart) in
          hand_above more (some.above k s more is)

      hand_of : ((leb at k ≡ true) × (at ≤ k)) ⊎ ((leb at k ≡ false) × (k < at)) → HandAt room at k xs
      hand_of (inl x) = hand_from x.1 (k == at) refl
      hand_of (inr x) = let less = x.1 in hand_ready (λ same. absurd (omega (arith, same, less))) (some.below k s less is)

    pub hand_at : (k : ℕ) → HandAt room at k xs
    hand_at k = go (slice_get xs k) refl
      where
        go : (o : Option (Seat Node C)) → slice_get xs k ≡ o → HandAt room at k xs
        go (Some s) e = hand_of k s e (leb_tells at k)
        go None e = record {
          hand = None;
          lives = λ s f. let z : None ≡ Some s = sym e ∙ f in absurd cc;
          none = λ f. refl;
          off = λ less. refl;
          goes = λ same s f. let z : None ≡ Some s = sym e ∙ f in absurd cc;
        }

    abbrev pub stop_hands : ℕ → Option Letter
    stop_hands k = (hand_at k).hand

    pub stop_off : (k : ℕ) → k < at → stop_hands k ≡ None
    stop_off k less = (hand_at k).off less

    pub stopped : Stopped policy puts gives plan room stop_hands at xs
    stopped = record {
      live = record { lives = λ k s e. (hand_at k).lives s e; none = λ k e. (hand_at k).none e };
      goes = λ s e. (hand_at at).goes refl s e;
      off = stop_off;
    }
