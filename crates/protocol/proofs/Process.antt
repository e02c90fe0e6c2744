-- Each process is where its spot says: at each node is the slot, and on each link the letter, that its spot tells.
use Rattle.std.proofs.Common.{◌≡◌, ◌≢◌, ℕ, ◌==◌, ◌⊎◌, inl, inr, Bool, true, false, cond, Option, Some, None, List, [], ◌∷◌, ◌++◌, refl, sym, ap, ◌∙◌, subst}
use Rattle.protocol.specs.Ops.{Ops}
use Rattle.protocol.specs.Notes.{Done, Note, Call, Pause, Reply, Poke, Half, Go, NotHere, Ask, Allow, Deny, Move, Landed, NoMove, Post, Turn, Body, Kept, State, Running, Waiting, Asking, Context, context, Called, Slot, Local, Way, way}
use Rattle.protocol.specs.Spots.{Spot, Nowhere, Runs, Calls, Holds, Pauses, Answered, Asks, Granted, Denied, Travels, InReply, Ended, site, kept_at, call_at, slot_by, way_by}
use Rattle.protocol.specs.Cluster.{World, for_link, at_front, Goes}
use Rattle.protocol.proofs.Talk.{same_numbers, other_numbers, numbers_same, numbers_other, on_link, talk, talk-append, taken_whole}

pub cond_here : {A : Type 0} (n : ℕ) (x y : A) → cond (n == n) x y ≡ x
cond_here n x y = ap (λ (b : Bool). cond b x y) (same_numbers n n refl)

pub cond_off : {A : Type 0} (m n : ℕ) (x y : A) → m ≢ n → cond (m == n) x y ≡ y
cond_off m n x y ne = ap (λ (b : Bool). cond b x y) (other_numbers m n ne)

pub cond_same : {A : Type 0} (b : Bool) (x : A) → cond b x x ≡ x
cond_same true x = refl
cond_same false x = refl

module _ (O : Ops) where
  pub record At (p : ℕ) (s : Spot O) (w : World O) : Type 0 where
    pub slots : (n : ℕ) → (w.nodes n).slots p ≡ slot_by O s n
    pub letters : (a b : ℕ) → talk O p (w.links a b) ≡ on_link O (way_by O p s) a b

  -- what a turn takes and posts of one process's letters
  pub record Letters (p : ℕ) (took posts : Option (Way O)) (w v : World O) : Type 0 where
    pub rest : ℕ → ℕ → List (Note O)
    pub takes : (a b : ℕ) → talk O p (w.links a b) ≡ on_link O took a b ++ rest a b
    pub leaves : (a b : ℕ) → talk O p (v.links a b) ≡ rest a b ++ on_link O posts a b

  pub letters_of : (p : ℕ) (w : World O) (t : Turn O) (v : World O) → Goes O w t v → (taken : Option (Post O)) (posted : List (Post O)) → t.taken ≡ taken → t.posted ≡ posted → (took posts : Option (Way O))
      → ((a b : ℕ) → talk O p (at_front O taken a b) ≡ on_link O took a b) → ((a b : ℕ) → talk O p (for_link O a b posted) ≡ on_link O posts a b) → Letters p took posts w v
  letters_of p w t v g taken posted e f took posts h k =
      record {
        rest = λ a b. talk O p (g.rest a b);
        takes = λ a b. ap (talk O p) (g.takes a b) ∙ (talk-append O p (at_front O t.taken a b) (g.rest a b) ∙ ap (λ (x : List (Note O)). x ++ talk O p (g.rest a b)) (ap (λ (o : Option (Post O)). talk O p (at_front O o a b)) e ∙ h a b));
        leaves = λ a b. ap (talk O p) (g.posts a b) ∙ (talk-append O p (g.rest a b) (for_link O a b t.posted) ∙ ap (λ (x : List (Note O)). talk O p (g.rest a b) ++ x) (ap (λ (o : List (Post O)). talk O p (for_link O a b o)) f ∙ k a b));
      }

  -- the letter that was under way is taken, and what is posted is under way
  pub letters_after : (p : ℕ) (s r : Spot O) (w v : World O) → At p s w → (took posts : Option (Way O)) → Letters p took posts w v → way_by O p s ≡ took → way_by O p r ≡ posts → (a b : ℕ) → talk O p (v.links a b) ≡ on_link O (way_by O p r) a b
  letters_after p s r w v at None posts l e f a b =
      let x : [] ≡ l.rest a b = ap (λ (k : Option (Way O)). on_link O k a b) (sym e) ∙ (sym (at.letters a b) ∙ l.takes a b) in
      l.leaves a b ∙ (ap (λ (k : List (Note O)). k ++ on_link O posts a b) (sym x) ∙ ap (λ (k : Option (Way O)). on_link O k a b) (sym f))
  letters_after p s r w v at (Some o) posts l e f a b =
      let all = taken_whole O (way_by O p s) o l.rest (λ c d. sym (at.letters c d) ∙ l.takes c d) in
      l.leaves a b ∙ (ap (λ (k : List (Note O)). k ++ on_link O posts a b) (all.1 a b) ∙ ap (λ (k : Option (Way O)). on_link O k a b) (sym f))

  -- letters that were under way stay, where none is taken or posted
  nil : (xs : List (Note O)) → xs ++ [] ≡ xs
  nil [] = refl
  nil (x ∷ xs) = ap (λ (k : List (Note O)). x ∷ k) (nil xs)

  pub letters_stay : (p : ℕ) (s : Spot O) (w v : World O) → At p s w → Letters p None None w v → (a b : ℕ) → talk O p (v.links a b) ≡ on_link O (way_by O p s) a b
  letters_stay p s w v at l a b = l.leaves a b ∙ (nil (l.rest a b) ∙ (sym (l.takes a b) ∙ at.letters a b))

  -- a letter that is taken was under way
  pub took_way : (p : ℕ) (s : Spot O) (w v : World O) → At p s w → (o : Way O) (posts : Option (Way O)) → Letters p (Some o) posts w v → way_by O p s ≡ Some (way O o.from o.to o.note)
  took_way p s w v at o posts l = (taken_whole O (way_by O p s) o l.rest (λ c d. sym (at.letters c d) ∙ l.takes c d)).0

  -- what a letter under way tells of the spot
  abbrev pub WayTells : Note O → ℕ → ℕ → Spot O → Type 0
  WayTells (Call q r) a b s = (body : Body O) × (kept : Option Kept) × (s ≡ Calls a body kept r) × (b ≡ 0)
  WayTells (Pause q r) a b s = (body : Body O) × (kept : Option Kept) × (s ≡ Pauses a body kept r) × (b ≡ 0)
  WayTells (Reply q d) a b s = (body : Body O) × (kept : Option Kept) × (x : Bool) × (y : Bool) × (s ≡ Answered b body kept d x y) × (a ≡ 0)
  WayTells (Poke q) a b s = ⊥
  WayTells (Half places) a b s = ⊥
  WayTells (Go q to hops line) a b s = ⊥
  WayTells (NotHere q to hops line) a b s = ⊥
  WayTells (Ask q need) a b s = (body : Body O) × (line : Option ℕ) × (s ≡ Asks a body b line need)
  WayTells (Allow q) a b s = (body : Body O) × (line : Option ℕ) × (need : ℕ) × (s ≡ Granted b body a line need)
  WayTells (Deny q need free) a b s = (body : Body O) × (line : Option ℕ) × (s ≡ Denied b body a line need free)
  WayTells (Move q u h line) a b s = (body : Body O) × (need : ℕ) × (s ≡ Travels a b body line need) × (body.user ≡ u) × (body.hops ≡ h)
  WayTells (Landed q source hops line) a b s = ⊥
  WayTells (NoMove line) a b s = ⊥

  some_way : (v w : Way O) → Some v ≡ Some w → v ≡ w
  some_way v w e = cc

  told_on : (s : Spot O) (v w : Way O) → Some v ≡ Some w → WayTells v.note v.from v.to s → WayTells w.note w.from w.to s
  told_on s v w e t = subst (λ (k : Way O). WayTells k.note k.from k.to s) (some_way v w e) t

  pub way_tells : (p : ℕ) (s : Spot O) (w : Way O) → way_by O p s ≡ Some w → WayTells w.note w.from w.to s
  way_tells p Nowhere w h = absurd cc
  way_tells p (Runs n b) w h = absurd cc
  way_tells p (Calls n b k r) w h = told_on (Calls n b k r) (way O n 0 (Call p r)) w h (b, k, refl, refl)
  way_tells p (Holds n b k r) w h = absurd cc
  way_tells p (Pauses n b k r) w h = told_on (Pauses n b k r) (way O n 0 (Pause p r)) w h (b, k, refl, refl)
  way_tells p (Answered n b k d x y) w h = told_on (Answered n b k d x y) (way O 0 n (Reply p d)) w h (b, k, x, y, refl, refl)
  way_tells p (Asks n b to l need) w h = told_on (Asks n b to l need) (way O n to (Ask p need)) w h (b, l, refl)
  way_tells p (Granted n b to l need) w h = told_on (Granted n b to l need) (way O to n (Allow p)) w h (b, l, need, refl)
  way_tells p (Denied n b to l need free) w h = told_on (Denied n b to l need free) (way O to n (Deny p need free)) w h (b, l, refl)
  way_tells p (Travels s t b l need) w h = told_on (Travels s t b l need) (way O s t (Move p b.user b.hops l)) w h (b, need, refl, refl, refl)
  way_tells p (InReply q u) w h = absurd cc
  way_tells p (Ended u) w h = absurd cc

  -- what a context tells of the spot
  abbrev pub StateTells : State → Body O → ℕ → Spot O → Type 0
  StateTells Running b n s = s ≡ Runs n b
  StateTells (Waiting pause k) b n s = ((r : O.Request) × (s ≡ Calls n b k r) × (pause ≡ false)) ⊎ (((r : O.Request) × (s ≡ Holds n b k r) × (pause ≡ false)) ⊎ (((r : Bool) × (s ≡ Pauses n b k r) × (pause ≡ true)) ⊎ ((d : Done O) × (y : Bool) × (s ≡ Answered n b k d pause y))))
  StateTells (Asking to line) b n s = ((need : ℕ) × (s ≡ Asks n b to line need)) ⊎ (((need : ℕ) × (s ≡ Granted n b to line need)) ⊎ ((need : ℕ) × (free : ℕ) × (s ≡ Denied n b to line need free)))

  some_context : (c d : Context O) → Some c ≡ Some d → c ≡ d
  some_context c d e = cc

  held_on : (s : Spot O) (c d : Context O) → Some c ≡ Some d → StateTells c.state c.body (site O s) s → StateTells d.state d.body (site O s) s
  held_on s c d e t = subst (λ (k : Context O). StateTells k.state k.body (site O s) s) (some_context c d e) t

  state_tells : (s : Spot O) (c : Context O) → kept_at O s ≡ Some c → StateTells c.state c.body (site O s) s
  state_tells Nowhere c h = absurd cc
  state_tells (Runs n b) c h = held_on (Runs n b) (context O b Running) c h refl
  state_tells (Calls n b k r) c h = held_on (Calls n b k r) (context O b (Waiting false k)) c h (inl (r, refl, refl))
  state_tells (Holds n b k r) c h = held_on (Holds n b k r) (context O b (Waiting false k)) c h (inr (inl (r, refl, refl)))
  state_tells (Pauses n b k r) c h = held_on (Pauses n b k r) (context O b (Waiting true k)) c h (inr (inr (inl (r, refl, refl))))
  state_tells (Answered n b k d x y) c h = held_on (Answered n b k d x y) (context O b (Waiting x k)) c h (inr (inr (inr (d, y, refl))))
  state_tells (Asks n b to l need) c h = held_on (Asks n b to l need) (context O b (Asking to l)) c h (inl (need, refl))
  state_tells (Granted n b to l need) c h = held_on (Granted n b to l need) (context O b (Asking to l)) c h (inr (inl (need, refl)))
  state_tells (Denied n b to l need free) c h = held_on (Denied n b to l need free) (context O b (Asking to l)) c h (inr (inr (need, free, refl)))
  state_tells (Travels s t b l need) c h = absurd cc
  state_tells (InReply q u) c h = absurd cc
  state_tells (Ended u) c h = absurd cc

  -- the context at a node tells the spot and its node
  at_site : (s : Spot O) (n : ℕ) (c : Context O) → cond (n == site O s) (kept_at O s) None ≡ Some c → (kept_at O s ≡ Some c) × (site O s ≡ n)
  at_site s n c h = go (n == site O s) refl h
    where
      go : (b : Bool) → (n == site O s) ≡ b → cond b (kept_at O s) None ≡ Some c → (kept_at O s ≡ Some c) × (site O s ≡ n)
      go true e h = (h, sym (numbers_same n (site O s) e))
      go false e h = absurd cc

  pub context_tells : (p : ℕ) (s : Spot O) (w : World O) → At p s w → (n : ℕ) (b : Body O) (st : State) → ((w.nodes n).slots p).context ≡ Some (context O b st) → StateTells st b n s
  context_tells p s w at n b st h =
      let e : cond (n == site O s) (kept_at O s) None ≡ Some (context O b st) = sym (ap (λ (k : Slot O). k.context) (at.slots n)) ∙ h in
      let f = at_site s n (context O b st) e in
      subst (λ (m : ℕ). StateTells st b m s) f.1 (state_tells s (context O b st) f.0)

  -- what was held at home tells the spot
  call_tells_at : (s : Spot O) (c : Called O) → call_at O s ≡ Some c → (b : Body O) × (k : Option Kept) × (s ≡ Holds c.from b k c.request)
  call_tells_at Nowhere c h = absurd cc
  call_tells_at (Runs n b) c h = absurd cc
  call_tells_at (Calls n b k r) c h = absurd cc
  call_tells_at (Holds n b k r) c h = go (some_called (record { from = n; request = r }) c h)
    where
      some_called : (c d : Called O) → Some c ≡ Some d → c ≡ d
      some_called c d e = cc

      go : record { from = n; request = r } ≡ c → (b2 : Body O) × (k2 : Option Kept) × (Holds n b k r ≡ Holds c.from b2 k2 c.request)
      go e = (b, k, ap (λ (x : Called O). Holds x.from b k x.request) e)
  call_tells_at (Pauses n b k r) c h = absurd cc
  call_tells_at (Answered n b k d x y) c h = absurd cc
  call_tells_at (Asks n b to l need) c h = absurd cc
  call_tells_at (Granted n b to l need) c h = absurd cc
  call_tells_at (Denied n b to l need free) c h = absurd cc
  call_tells_at (Travels s t b l need) c h = absurd cc
  call_tells_at (InReply q u) c h = absurd cc
  call_tells_at (Ended u) c h = absurd cc

  pub call_tells : (p : ℕ) (s : Spot O) (w : World O) → At p s w → (n : ℕ) → n ≡ 0 → (c : Called O) → ((w.nodes n).slots p).call ≡ Some c → (b : Body O) × (k : Option Kept) × (s ≡ Holds c.from b k c.request)
  call_tells p s w at n home c h =
      let e : cond (n == 0) (call_at O s) None ≡ Some c = sym (ap (λ (k : Slot O). k.call) (at.slots n)) ∙ h in
      call_tells_at s c (subst (λ (x : Bool). cond x (call_at O s) None ≡ Some c) (same_numbers n 0 home) e)

  module _ (w : World O) (t : Turn O) (v : World O) (goes : Goes O w t v) where
    -- from the spot s to r, where the node's slot and the letter change
    pub settle : (p : ℕ) (s r : Spot O) → At p s w → (took posts : Option (Way O)) → Letters p took posts w v → way_by O p s ≡ took → way_by O p r ≡ posts
        → (v.nodes t.event.node).slots p ≡ slot_by O r t.event.node → ((m : ℕ) → m ≢ t.event.node → slot_by O s m ≡ slot_by O r m) → At p r v
    settle p s r at took posts l e f here off =
        record {
          slots = λ m. go m (m == t.event.node) refl;
          letters = letters_after p s r w v at took posts l e f;
        }
      where
        go : (m : ℕ) (b : Bool) → (m == t.event.node) ≡ b → (v.nodes m).slots p ≡ slot_by O r m
        go m true x = subst (λ (k : ℕ). (v.nodes k).slots p ≡ slot_by O r k) (sym (numbers_same m t.event.node x)) here
        go m false x = let ne = numbers_other m t.event.node x in ap (λ (k : Local O). k.slots p) (goes.elsewhere m ne) ∙ (at.slots m ∙ off m ne)

    -- a process whose letters and slot stay
    pub rests : (p : ℕ) (s : Spot O) → At p s w → Letters p None None w v → (v.nodes t.event.node).slots p ≡ (w.nodes t.event.node).slots p → At p s v
    rests p s at l same =
        record {
          slots = λ m. go m (m == t.event.node) refl;
          letters = letters_stay p s w v at l;
        }
      where
        go : (m : ℕ) (b : Bool) → (m == t.event.node) ≡ b → (v.nodes m).slots p ≡ slot_by O s m
        go m true x = subst (λ (k : ℕ). (v.nodes k).slots p ≡ slot_by O s k) (sym (numbers_same m t.event.node x)) (same ∙ at.slots t.event.node)
        go m false x = ap (λ (k : Local O). k.slots p) (goes.elsewhere m (numbers_other m t.event.node x)) ∙ at.slots m

    -- the letter under way stays, and the slot changes
    pub settle_stay : (p : ℕ) (s r : Spot O) → At p s w → Letters p None None w v → way_by O p s ≡ way_by O p r
        → (v.nodes t.event.node).slots p ≡ slot_by O r t.event.node → ((m : ℕ) → m ≢ t.event.node → slot_by O s m ≡ slot_by O r m) → At p r v
    settle_stay p s r at l e here off =
        record {
          slots = λ m. go m (m == t.event.node) refl;
          letters = λ a b. letters_stay p s w v at l a b ∙ ap (λ (k : Option (Way O)). on_link O k a b) e;
        }
      where
        go : (m : ℕ) (b : Bool) → (m == t.event.node) ≡ b → (v.nodes m).slots p ≡ slot_by O r m
        go m true x = subst (λ (k : ℕ). (v.nodes k).slots p ≡ slot_by O r k) (sym (numbers_same m t.event.node x)) here
        go m false x = let ne = numbers_other m t.event.node x in ap (λ (k : Local O). k.slots p) (goes.elsewhere m ne) ∙ (at.slots m ∙ off m ne)
