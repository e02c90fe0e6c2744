-- What a node has, counted by its own slots: it is what the events tell.
use Rattle.std.proofs.Common.{◌≡◌, ℕ, zero, suc, ◌+◌, ◌≤◌, ◌==◌, ◌⊎◌, inl, inr, Bool, true, false, cond, Option, Some, None, List, [], ◌∷◌, ◌++◌, refl, sym, ap, ◌∙◌, subst, arith}
use Rattle.std.proofs.lemmas.List.{append-nil}
use Rattle.protocol.specs.Ops.{Ops, Sound, sum_below, one_if}
use Rattle.protocol.specs.Gossip.{Movable, IsMovable, listed_below}
use Rattle.protocol.specs.Notes.{Turn, Body, State, Running, Waiting, Asking, Context, context, Slot, Local}
use Rattle.protocol.specs.Spots.{Spot, Nowhere, Runs, Calls, Holds, Pauses, Answered, Asks, Granted, Denied, Travels, InReply, Ended, site, kept_at, slot_by}
use Rattle.protocol.specs.Does.{slot_pages, InUse, is_here, Loaded, movable_as, movable_one, CanMove}
use Rattle.protocol.specs.Cluster.{World, events}
use Rattle.protocol.proofs.Process.{cond_same}
use Rattle.protocol.proofs.Stand.{Stands, Path}
use Rattle.run_laws.specs.Machine.{MachineState}
use Rattle.run_laws.specs.Facts.{Facts, facts}
use Rattle.run_laws.specs.Pages.{is_at, used_pages}
use Rattle.run_laws.specs.Loads.{load_at, movable_by, movable_at}
use Rattle.run_laws.proofs.Facts.{facts_of, path_tells}
use Rattle.run_laws.proofs.Replay.{user_of}
use Rattle.run_laws.proofs.Played.{Agrees}
use Rattle.run_laws.proofs.Pages.{sums, path_used}

-- lists of the same, each to a bound of its own
listed_more : (k a : ℕ) (f : ℕ → List Movable) → ((p : ℕ) → a ≤ p → f p ≡ []) → listed_below (k + a) f ≡ listed_below a f
listed_more zero a f none = (let e : 0 + a ≡ a = omega arith in ap (λ (i : ℕ). listed_below i f) e)
listed_more (suc k) a f none =
    let e : suc k + a ≡ suc (k + a) = omega arith in
    let x : listed_below (suc k + a) f ≡ listed_below (k + a) f ++ f (k + a) = ap (λ (i : ℕ). listed_below i f) e in
    x ∙ (ap (λ (ys : List Movable). listed_below (k + a) f ++ ys) (none (k + a) (omega arith)) ∙ (append-nil (listed_below (k + a) f) ∙ listed_more k a f none))

listed_same : (a : ℕ) (f g : ℕ → List Movable) → ((p : ℕ) → f p ≡ g p) → listed_below a f ≡ listed_below a g
listed_same zero f g e = refl
listed_same (suc a) f g e = λ i. (listed_same a f g e) i ++ (e a) i

lists : (a b : ℕ) (f g : ℕ → List Movable) → ((p : ℕ) → f p ≡ g p) → ((p : ℕ) → a ≤ p → f p ≡ []) → ((p : ℕ) → b ≤ p → g p ≡ []) → listed_below a f ≡ listed_below b g
lists a b f g e none none2 =
    let c : b + a ≡ a + b = omega arith in
    sym (listed_more b a f none) ∙ (ap (λ (k : ℕ). listed_below k f) c ∙ (listed_same (a + b) f g e ∙ listed_more a b g none2))

movable_split : (p : ℕ) (xs ys : List Movable) → IsMovable p (xs ++ ys) → IsMovable p xs ⊎ IsMovable p ys
movable_split p [] ys k = inr k
movable_split p (x ∷ xs) ys (inl k) = inl (inl k)
movable_split p (x ∷ xs) ys (inr k) = go (movable_split p xs ys k)
  where
    go : IsMovable p xs ⊎ IsMovable p ys → ((x.pid ≡ p) ⊎ IsMovable p xs) ⊎ IsMovable p ys
    go (inl y) = inl (inr y)
    go (inr y) = inr y

module _ (O : Ops) where
  -- what can move runs here
  movable_runs : (k : ℕ) (s : ℕ → Option (Context O)) (p : ℕ) → IsMovable p (listed_below k (λ q. movable_one O q (s q))) → (b : Body O) × (s p ≡ Some (context O b Running))
  movable_runs zero s p x = absurd x
  movable_runs (suc k) s p x = go (movable_split p (listed_below k (λ q. movable_one O q (s q))) (movable_one O k (s k)) x) (movable_runs k s p)
    where
      by : (b : Body O) (st : State) → s k ≡ Some (context O b st) → IsMovable p (movable_as O k b st) → (b2 : Body O) × (s p ≡ Some (context O b2 Running))
      by b Running e (inl y) = (b, ap s (sym y) ∙ e)
      by b Running e (inr y) = absurd y
      by b (Waiting pause kept) e y = absurd y
      by b (Asking to line) e y = absurd y

      one : (o : Option (Context O)) → s k ≡ o → IsMovable p (movable_one O k o) → (b : Body O) × (s p ≡ Some (context O b Running))
      one None e y = absurd y
      one (Some c) e y = by c.body c.state e y

      go : IsMovable p (listed_below k (λ q. movable_one O q (s q))) ⊎ IsMovable p (movable_one O k (s k)) → (IsMovable p (listed_below k (λ q. movable_one O q (s q))) → (b : Body O) × (s p ≡ Some (context O b Running))) → (b : Body O) × (s p ≡ Some (context O b Running))
      go (inl y) rest = rest y
      go (inr y) rest = one (s k) refl y

  pub can_run : (l : Local O) (movable : List Movable) → CanMove O l movable → (p : ℕ) → IsMovable p movable → (b : Body O) × ((l.slots p).context ≡ Some (context O b Running))
  can_run l movable d p x = movable_runs d.bound (λ q. (l.slots q).context) p (subst (IsMovable p) d.is x)

module _ (O : Ops) (S : Sound O) where
  module _ (sp : ℕ → Spot O) (w : World O) (st : Stands O S sp w) (n : ℕ) where
    -- of so many pids something may be here
    abbrev pub pids : ℕ
    pids = O.count (w.nodes 0).kernel + 1

    none_slot : (p : ℕ) → pids ≤ p → (w.nodes n).slots p ≡ slot_by O Nowhere n
    none_slot p most = (st.at p).slots n ∙ ap (λ (s : Spot O). slot_by O s n) (st.unborn p (omega (arith, most)))

    none_here : (p : ℕ) → pids ≤ p → ((w.nodes n).slots p).context ≡ None
    none_here p most = ap (λ (s : Slot O). s.context) (none_slot p most) ∙ cond_same (n == 0) None

    pub in_use : InUse O (w.nodes n) (sum_below pids (λ p. slot_pages O ((w.nodes n).slots p)))
    in_use = record { bound = pids; beyond = λ p most. ap (slot_pages O) (none_slot p most) ∙ none (n == 0); sum = refl }
      where
        none : (k : Bool) → slot_pages O (record { context = cond k None None; reserve = cond k None None; call = cond k None None }) ≡ 0
        none true = refl
        none false = refl

    pub loaded : Loaded O (w.nodes n) (sum_below pids (λ p. one_if (is_here O ((w.nodes n).slots p).context)))
    loaded = record { bound = pids; beyond = none_here; sum = refl }

    pub can_move : CanMove O (w.nodes n) (listed_below pids (λ p. movable_one O p ((w.nodes n).slots p).context))
    can_move = record { bound = pids; beyond = none_here; is = refl }

  -- one process by its spot
  at_here : (x : Bool) (c : Context O) → one_if (is_here O (cond x (Some c) None)) ≡ one_if x
  at_here true c = refl
  at_here false c = refl

  at_none : (x : Bool) → one_if (is_here O (cond x None None)) ≡ 0
  at_none true = refl
  at_none false = refl

  spot_here : (s : Spot O) (n : ℕ) → one_if (is_here O (cond (n == site O s) (kept_at O s) None)) ≡ one_if (is_at n (facts_of O S s).places)
  spot_here Nowhere n = at_none (n == 0)
  spot_here (Runs m b) n = at_here (n == m) _
  spot_here (Calls m b k r) n = at_here (n == m) _
  spot_here (Holds m b k r) n = at_here (n == m) _
  spot_here (Pauses m b k r) n = at_here (n == m) _
  spot_here (Answered m b k d x y) n = at_here (n == m) _
  spot_here (Asks m b to l need) n = at_here (n == m) _
  spot_here (Granted m b to l need) n = at_here (n == m) _
  spot_here (Denied m b to l need free) n = at_here (n == m) _
  spot_here (Travels a c b l need) n = at_none (n == 0)
  spot_here (InReply q u) n = at_none (n == 0)
  spot_here (Ended u) n = at_none (n == 0)

  move_run : (p : ℕ) (x : Bool) (b : Body O) → movable_one O p (cond x (Some (context O b Running)) None) ≡ cond x (record { pid = p; pages = O.pages b.user } ∷ []) []
  move_run p true b = refl
  move_run p false b = refl

  move_wait : (p : ℕ) (x : Bool) (b : Body O) (pause : Bool) (k : Option Rattle.protocol.specs.Notes.Kept) → movable_one O p (cond x (Some (context O b (Waiting pause k))) None) ≡ cond x [] []
  move_wait p true b pause k = refl
  move_wait p false b pause k = refl

  move_ask : (p : ℕ) (x : Bool) (b : Body O) (to : ℕ) (l : Option ℕ) → movable_one O p (cond x (Some (context O b (Asking to l))) None) ≡ cond x [] []
  move_ask p true b to l = refl
  move_ask p false b to l = refl

  move_none : (p : ℕ) (x : Bool) → movable_one O p (cond x None None) ≡ []
  move_none p true = refl
  move_none p false = refl

  spot_moves : (p : ℕ) (s : Spot O) (n : ℕ) → movable_one O p (cond (n == site O s) (kept_at O s) None) ≡ movable_by O n p (facts_of O S s) (user_of O S s)
  spot_moves p Nowhere n = move_none p (n == 0)
  spot_moves p (Runs m b) n = move_run p (n == m) b
  spot_moves p (Calls m b k r) n = move_wait p (n == m) b false k
  spot_moves p (Holds m b k r) n = move_wait p (n == m) b false k
  spot_moves p (Pauses m b k r) n = move_wait p (n == m) b true k
  spot_moves p (Answered m b k d x y) n = move_wait p (n == m) b x k
  spot_moves p (Asks m b to l need) n = move_ask p (n == m) b to l
  spot_moves p (Granted m b to l need) n = move_ask p (n == m) b to l
  spot_moves p (Denied m b to l need free) n = move_ask p (n == m) b to l
  spot_moves p (Travels a c b l need) n = move_none p (n == 0)
  spot_moves p (InReply q u) n = move_none p (n == 0)
  spot_moves p (Ended u) n = move_none p (n == 0)

  module _ (h : List (Turn O)) (sp : ℕ → Spot O) (w : World O) (path : Path O S h sp w) (st : Stands O S sp w) (m : MachineState O) (agrees : Agrees O S h sp (w.nodes 0) m) (n : ℕ) where
    kept : (p : ℕ) → ((w.nodes n).slots p).context ≡ cond (n == site O (sp p)) (kept_at O (sp p)) None
    kept p = ap (λ (s : Slot O). s.context) ((st.at p).slots n)

    tells : (p : ℕ) → facts p (events O h) ≡ facts_of O S (sp p)
    tells p = path_tells O S h sp w path p

    here_same : (p : ℕ) → one_if (is_here O ((w.nodes n).slots p).context) ≡ one_if (is_at n (facts p (events O h)).places)
    here_same p = ap (λ (c : Option (Context O)). one_if (is_here O c)) (kept p) ∙ (spot_here (sp p) n ∙ sym (ap (λ (f : Facts). one_if (is_at n f.places)) (tells p)))

    moves_same : (p : ℕ) → movable_one O p ((w.nodes n).slots p).context ≡ movable_by O n p (facts p (events O h)) (m.users p)
    moves_same p = ap (movable_one O p) (kept p) ∙ (spot_moves p (sp p) n ∙ λ i. movable_by O n p ((sym (tells p)) i) ((sym (agrees.users p)) i))

    beyond : (p : ℕ) → O.count m.kernel + 1 ≤ p → ((w.nodes n).slots p).context ≡ None
    beyond p most = none_here sp w st n p (let e = ap O.count agrees.kernel in omega (arith, most, e))

    pub load_told : (load : ℕ) → Loaded O (w.nodes n) load → load ≡ load_at O n (events O h) m
    load_told load d = d.sum ∙ sums d.bound (O.count m.kernel + 1) (λ p. one_if (is_here O ((w.nodes n).slots p).context)) (λ p. one_if (is_at n (facts p (events O h)).places)) here_same (λ p most. ap (λ (c : Option (Context O)). one_if (is_here O c)) (d.beyond p most)) (λ p most. sym (here_same p) ∙ ap (λ (c : Option (Context O)). one_if (is_here O c)) (beyond p most))

    pub movable_told : (movable : List Movable) → CanMove O (w.nodes n) movable → movable ≡ movable_at O n (events O h) m
    movable_told movable d = d.is ∙ lists d.bound (O.count m.kernel + 1) (λ p. movable_one O p ((w.nodes n).slots p).context) (λ p. movable_by O n p (facts p (events O h)) (m.users p)) moves_same (λ p most. ap (movable_one O p) (d.beyond p most)) (λ p most. sym (moves_same p) ∙ ap (movable_one O p) (beyond p most))

    pub used_told : (used : ℕ) → InUse O (w.nodes n) used → used ≡ used_pages O n (events O h) m
    used_told used d = path_used O S h sp w path st m agrees n used d

    -- so these are there
    pub loaded_at : Loaded O (w.nodes n) (load_at O n (events O h) m)
    loaded_at = subst (Loaded O (w.nodes n)) (load_told _ (loaded sp w st n)) (loaded sp w st n)

    pub used_at : InUse O (w.nodes n) (used_pages O n (events O h) m)
    used_at = subst (InUse O (w.nodes n)) (used_told _ (in_use sp w st n)) (in_use sp w st n)
