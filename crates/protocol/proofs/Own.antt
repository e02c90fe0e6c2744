-- One lemma for each kind of event: what it needs of its process's spot, and where the process is after it.
use Rattle.std.proofs.Common.{◌≡◌, ◌≢◌, ℕ, ◌+◌, ◌==◌, ◌⊎◌, inl, inr, Bool, true, false, cond, Option, Some, None, List, [], ◌∷◌, refl, sym, ap, ◌∙◌, subst}
use Rattle.protocol.specs.Ops.{Ops}
use Rattle.protocol.specs.Deeds.{Manner, KeptTold, Reason, ForLine, Chosen, line_for}
use Rattle.protocol.specs.Notes.{Done, Call, Pause, Reply, Ask, Allow, Deny, Move, NoMove, Post, Turn, letter, Body, fresh, Kept, State, Running, Waiting, Asking, Context, context, Slot, Local, Way, way}
use Rattle.protocol.specs.Spots.{Spot, Nowhere, Runs, Calls, Holds, Pauses, Answered, Asks, Granted, Denied, Travels, InReply, Ended, site, kept_at, goal, reserved, call_at, slot_by, way_by, mine}
use Rattle.protocol.specs.Does.{Base, hosts, reserves, holds, lands, same, Launches, Stepped, Sends, Heeds, Holding, Serves, Retries, Pausing, Gets, Marks, Ignores, Begins, Keeps, Misses, Grants, Refuses, Departs, Stays, Lands, got_context, got_posts, Awake, Asleep}
use Rattle.protocol.specs.Cluster.{World, Goes}
use Rattle.protocol.specs.Home.{returned, after, done_of, last, first_none, pokes}
use Rattle.protocol.specs.Needs.{got_spot, AwakeAt, FreeAt, AwayFrom, AsleepAt, mark, keep_in, Quiet, Launched, Ran, SentCall, Heeded, HeldCall, ServedCall, ServedPause, GotReply, Marked, Dropped, Begun, KeptMove, MissedIt, AllowedMove, DeniedMove, Departed, StayedHere, LandedHere}
use Rattle.protocol.proofs.Talk.{same_numbers, Loose, pokes_loose, closed_loose, talk_loose, talk_own, talk_second, heard_own, heard_loose}
use Rattle.protocol.proofs.Process.{cond_here, cond_off, cond_same, At, Letters, letters_of, took_way, way_tells, context_tells, call_tells, settle, settle_stay, rests}
use Rattle.std.specs.Prelude.{ℤ}
use Rattle.call_table.specs.declared.process.End.{End}

module _ (O : Ops) where
  pub same_slot : (a b : Slot O) → a.context ≡ b.context → a.reserve ≡ b.reserve → a.call ≡ b.call → a ≡ b
  same_slot a b e f g = λ i. record { context = e i; reserve = f i; call = g i }

  off_both : {A : Type 0} (m n : ℕ) (x y z : A) → m ≢ n → cond (m == n) x z ≡ cond (m == n) y z
  off_both m n x y z ne = cond_off m n x z ne ∙ sym (cond_off m n y z ne)

  -- nothing at a number is nothing at another
  nothing : {A : Type 0} (m n : ℕ) (x : A) → m ≢ n → (k : ℕ) (y : A) → cond (m == n) x y ≡ cond (m == k) y y
  nothing m n x ne k y = cond_off m n x y ne ∙ sym (cond_same (m == k) y)

  pub own_slot : (p : ℕ) (child : Option ℕ) (taken : Option (Post O)) (posted : List (Post O)) (change born : Slot O → Slot O) (old : Local O) (t : Turn O) (new : Local O) → Base O p child taken posted change born old t new → new.slots p ≡ change (old.slots p)
  own_slot p child taken posted change born old t new b = b.slots p ∙ cond_here p _ _

  abbrev pub Turned : (Spot O → Type 0) → ℕ → World O → Type 0
  Turned need p v = (r : Spot O) × need r × At O p r v

  module _ (w : World O) (t : Turn O) (v : World O) (goes : Goes O w t v) where
    abbrev n : ℕ
    n = t.event.node

    abbrev old : Local O
    old = w.nodes t.event.node

    abbrev new : Local O
    new = v.nodes t.event.node

    -- the letters of a process by the letter that was taken and those posted
    pub silent : (p : ℕ) (ls : List (Post O)) → t.taken ≡ None → t.posted ≡ ls → Loose O p ls → Letters O p None None w v
    silent p ls e f k = letters_of O p w t v goes None ls e f None None (λ a b. refl) (λ a b. talk_loose O p a b ls k)

    pub loose_in : (p : ℕ) (l : Post O) (ls : List (Post O)) → t.taken ≡ Some l → t.posted ≡ ls → mine O p l.note ≡ false → Loose O p ls → Letters O p None None w v
    loose_in p l ls e f h k = letters_of O p w t v goes (Some l) ls e f None None (λ a b. heard_loose O p a b l h) (λ a b. talk_loose O p a b ls k)

    pub sends_out : (p : ℕ) (m : Post O) (ls : List (Post O)) → t.taken ≡ None → t.posted ≡ m ∷ ls → mine O p m.note ≡ true → Loose O p ls → Letters O p None (Some (way O m.from m.to m.note)) w v
    sends_out p m ls e f h k = letters_of O p w t v goes None (m ∷ ls) e f None (Some (way O m.from m.to m.note)) (λ a b. refl) (λ a b. talk_own O p a b m ls h k)

    pub loose_out : (p : ℕ) (l m : Post O) (ls : List (Post O)) → t.taken ≡ Some l → t.posted ≡ m ∷ ls → mine O p l.note ≡ false → mine O p m.note ≡ true → Loose O p ls → Letters O p None (Some (way O m.from m.to m.note)) w v
    loose_out p l m ls e f g h k = letters_of O p w t v goes (Some l) (m ∷ ls) e f None (Some (way O m.from m.to m.note)) (λ a b. heard_loose O p a b l g) (λ a b. talk_own O p a b m ls h k)

    pub takes_in : (p : ℕ) (l : Post O) (ls : List (Post O)) → t.taken ≡ Some l → t.posted ≡ ls → mine O p l.note ≡ true → Loose O p ls → Letters O p (Some (way O l.from l.to l.note)) None w v
    takes_in p l ls e f h k = letters_of O p w t v goes (Some l) ls e f (Some (way O l.from l.to l.note)) None (λ a b. heard_own O p a b l h) (λ a b. talk_loose O p a b ls k)

    pub in_out : (p : ℕ) (l m : Post O) (ls : List (Post O)) → t.taken ≡ Some l → t.posted ≡ m ∷ ls → mine O p l.note ≡ true → mine O p m.note ≡ true → Loose O p ls → Letters O p (Some (way O l.from l.to l.note)) (Some (way O m.from m.to m.note)) w v
    in_out p l m ls e f g h k = letters_of O p w t v goes (Some l) (m ∷ ls) e f (Some (way O l.from l.to l.note)) (Some (way O m.from m.to m.note)) (λ a b. heard_own O p a b l g) (λ a b. talk_own O p a b m ls h k)

    sends_second : (p : ℕ) (l m : Post O) (ls : List (Post O)) → t.taken ≡ None → t.posted ≡ l ∷ m ∷ ls → mine O p l.note ≡ false → mine O p m.note ≡ true → Loose O p ls → Letters O p None (Some (way O m.from m.to m.note)) w v
    sends_second p l m ls e f h g k = letters_of O p w t v goes None (l ∷ m ∷ ls) e f None (Some (way O m.from m.to m.note)) (λ a b. refl) (λ a b. talk_second O p a b l m ls h g k)

    itself : (p : ℕ) → (p == p) ≡ true
    itself p = same_numbers p p refl

    -- a change of the context alone, at the node that has it
    rehost : (p : ℕ) (s r : Spot O) (c : Option (Context O)) → At O p s w → new.slots p ≡ hosts O c (old.slots p) → cond (n == site O r) (kept_at O r) None ≡ c
        → cond (n == goal O r) (reserved O r) None ≡ cond (n == goal O s) (reserved O s) None → cond (n == 0) (call_at O r) None ≡ cond (n == 0) (call_at O s) None → new.slots p ≡ slot_by O r n
    rehost p s r c at e f g h = e ∙ (ap (hosts O c) (at.slots n) ∙ same_slot (hosts O c (slot_by O s n)) (slot_by O r n) (sym f) (sym g) (sym h))

    pub launch_own : (line i p : ℕ) (s : Spot O) → s ≡ Nowhere → At O p s w → Launches O n line i p old t new → Turned (Launched O n i p old new s) p v
    launch_own line i p s is at d =
        let r = Runs n (fresh O (O.loaded i p)) in
        let here = subst (λ (k : Spot O). At O p k w) is at in (
          r,
          record { home = d.home; image = d.image; launched = d.launched; next = d.next; was = is; now = refl },
          settle O w t v goes p Nowhere r here None None (silent p [] d.base.took d.base.posts tt) refl refl
              (rehost p Nowhere r (Some (context O (fresh O (O.loaded i p)) Running)) here (own_slot p _ _ _ _ _ old t new d.base) (cond_here n _ _) refl refl)
              (λ m ne. same_slot (slot_by O Nowhere m) (slot_by O r m) (sym (nothing m n _ ne 0 None)) refl refl),
        )

    pub step_own : (p k : ℕ) (s : Spot O) → At O p s w → Stepped O n p k old t new → Turned (λ r. Quiet O (Ran O n p k s r) old new) p v
    step_own p k s at d =
        let b = record d.body { user = d.user } in
        let r = Runs n b in
        let is : s ≡ Runs n d.body = context_tells O p s w at n d.body Running d.was in
        let here = subst (λ (k : Spot O). At O p k w) is at in (
          r,
          record { is = record { body = d.body; user = d.user; was = is; unpoked = d.unpoked; went = d.went; bounds = d.bounds; now = refl }; kernel = d.still.kernel },
          settle O w t v goes p (Runs n d.body) r here None None (silent p [] d.base.took d.base.posts tt) refl refl
              (rehost p (Runs n d.body) r (Some (context O b Running)) here (own_slot p _ _ _ _ _ old t new d.base) (cond_here n _ _) refl refl)
              (λ m ne. same_slot (slot_by O (Runs n d.body) m) (slot_by O r m) (off_both m n _ _ _ ne) refl refl),
        )

    pub send_own : (p k : ℕ) (s : Spot O) → At O p s w → Sends O n p k old t new → Turned (λ r. Quiet O (SentCall O n p k s r) old new) p v
    send_own p k s at d =
        let r = Calls n d.body None d.request in
        let is : s ≡ Runs n d.body = context_tells O p s w at n d.body Running d.was in
        let here = subst (λ (k : Spot O). At O p k w) is at in (
          r,
          record { is = record { body = d.body; request = d.request; was = is; unpoked = d.unpoked; asks = d.asks; number_is = d.number_is; now = refl }; kernel = d.still.kernel },
          settle O w t v goes p (Runs n d.body) r here None _ (sends_out p _ [] d.base.took d.base.posts (itself p) tt) refl refl
              (rehost p (Runs n d.body) r (Some (context O d.body (Waiting false None))) here (own_slot p _ _ _ _ _ old t new d.base) (cond_here n _ _) refl refl)
              (λ m ne. same_slot (slot_by O (Runs n d.body) m) (slot_by O r m) (off_both m n _ _ _ ne) refl refl),
        )

    pub heed_own : (p : ℕ) (s : Spot O) → At O p s w → Heeds O n p old t new → Turned (λ r. Quiet O (Heeded O n p s r) old new) p v
    heed_own p s at d =
        let b = record d.body { poked = false } in
        let r = Pauses n b None (O.room d.body.user) in
        let is : s ≡ Runs n d.body = context_tells O p s w at n d.body Running d.was in
        let here = subst (λ (k : Spot O). At O p k w) is at in (
          r,
          record { is = record { body = d.body; was = is; poked = d.poked; now = refl }; kernel = d.still.kernel },
          settle O w t v goes p (Runs n d.body) r here None _ (sends_out p _ [] d.base.took d.base.posts (itself p) tt) refl refl
              (rehost p (Runs n d.body) r (Some (context O b (Waiting true None))) here (own_slot p _ _ _ _ _ old t new d.base) (cond_here n _ _) refl refl)
              (λ m ne. same_slot (slot_by O (Runs n d.body) m) (slot_by O r m) (off_both m n _ _ _ ne) refl refl),
        )

    -- a change at the node of the event, where the context stays as it is
    pub hold_own : (p k : ℕ) (s : Spot O) → At O p s w → Holding O n p k old t new → Turned (λ r. Quiet O (HeldCall O n p k old s r) old new) p v
    hold_own p k s at d =
        let letters = takes_in p _ [] d.base.took d.base.posts (itself p) tt in
        let told = way_tells O p s (way O d.from n (Call p d.request)) (took_way O p s w v at _ None letters) in
        let b = told.0 in
        let x = told.1 in
        let r = Holds d.from b x d.request in
        let here = subst (λ (k : Spot O). At O p k w) told.2 at in
        let home : (n == 0) ≡ true = same_numbers n 0 d.home in (
          r,
          record { is = record { home = d.home; from = d.from; body = b; kept = x; request = d.request; number_is = d.number_is; some = d.some; blocks = d.blocks; quiet = d.quiet; was = told.2; now = refl }; kernel = d.still.kernel },
          settle O w t v goes p (Calls d.from b x d.request) r here _ None letters (ap (λ (k : ℕ). Some (way O d.from k (Call p d.request))) (sym d.home)) refl
              (own_slot p _ _ _ _ _ old t new d.base ∙ (ap (holds O (Some (record { from = d.from; request = d.request }))) (here.slots n) ∙ same_slot (holds O (Some (record { from = d.from; request = d.request })) (slot_by O (Calls d.from b x d.request) n)) (slot_by O r n) refl refl (sym (ap (λ (k : Bool). cond k (Some (record { from = d.from; request = d.request })) None) home))))
              (λ m ne. same_slot (slot_by O (Calls d.from b x d.request) m) (slot_by O r m) refl refl (off_both m 0 None (Some (record { from = d.from; request = d.request })) None (λ z. ne (z ∙ sym d.home)))),
        )

    pub serve_own : (p : ℕ) (manner : Manner) (number : Option ℕ) (value : Option ℤ) (child signal : Option ℕ) (ends : Option End) (more : Bool) (poked : List ℕ) (s : Spot O) → At O p s w → Serves O n p manner number value child signal ends more poked old t new
        → Turned (λ r. ServedCall O n p manner number value child signal ends more poked old new s r) p v
    serve_own p manner number value child signal ends more poked s at d =
        let done = done_of O p d.first (last O d.first.kernel p (O.room_of d.request)) in
        let letters = in_out p _ _ (pokes O t.event.stamp old.believed poked) d.base.took d.base.posts (itself p) (itself p) (pokes_loose O p t.event.stamp old.believed poked) in
        let told = way_tells O p s (way O d.from n (Call p d.request)) (took_way O p s w v at _ _ letters) in
        let b = told.0 in
        let x = told.1 in
        let r = Answered d.from b x done false false in
        let here = subst (λ (k : Spot O). At O p k w) told.2 at in (
          r,
          record { home = d.home; from = d.from; body = b; kept = x; request = d.request; held = false; first = d.first; acts = d.acts; answers = d.answers; number_is = d.number_is; tells = d.tells; was = told.2; now = refl },
          settle O w t v goes p (Calls d.from b x d.request) r here _ _ letters (ap (λ (k : ℕ). Some (way O d.from k (Call p d.request))) (sym d.home)) (ap (λ (k : ℕ). Some (way O k d.from (Reply p done))) (sym d.home))
              (own_slot p _ _ _ _ _ old t new d.base ∙ here.slots n) (λ m ne. refl),
        )

    pub retry_own : (p : ℕ) (manner : Manner) (number : Option ℕ) (value : Option ℤ) (child signal : Option ℕ) (ends : Option End) (more : Bool) (poked : List ℕ) (s : Spot O) → At O p s w → Retries O n p manner number value child signal ends more poked old t new
        → Turned (λ r. ServedCall O n p manner number value child signal ends more poked old new s r) p v
    retry_own p manner number value child signal ends more poked s at d =
        let done = done_of O p d.first (last O d.first.kernel p (O.room_of d.request)) in
        let letters = sends_out p _ (pokes O t.event.stamp old.believed poked) d.base.took d.base.posts (itself p) (pokes_loose O p t.event.stamp old.believed poked) in
        let told = call_tells O p s w at n d.home (record { from = d.from; request = d.request }) d.was in
        let b = told.0 in
        let x = told.1 in
        let r = Answered d.from b x done false true in
        let here = subst (λ (k : Spot O). At O p k w) told.2 at in (
          r,
          record { home = d.home; from = d.from; body = b; kept = x; request = d.request; held = true; first = d.first; acts = d.acts; answers = d.answers; number_is = d.number_is; tells = d.tells; was = told.2; now = refl },
          settle O w t v goes p (Holds d.from b x d.request) r here None _ letters refl (ap (λ (k : ℕ). Some (way O k d.from (Reply p done))) (sym d.home))
              (own_slot p _ _ _ _ _ old t new d.base ∙ (ap (holds O None) (here.slots n) ∙ same_slot (holds O None (slot_by O (Holds d.from b x d.request) n)) (slot_by O r n) refl refl (sym (cond_same (n == 0) None))))
              (λ m ne. same_slot (slot_by O (Holds d.from b x d.request) m) (slot_by O r m) refl refl (off_both m 0 (Some (record { from = d.from; request = d.request })) None None (λ z. ne (z ∙ sym d.home)))),
        )

    pub pause_own : (p : ℕ) (number : Option ℕ) (value : Option ℤ) (child signal : Option ℕ) (ends : Option End) (more : Bool) (poked : List ℕ) (s : Spot O) → At O p s w → Pausing O n p number value child signal ends more poked old t new
        → Turned (λ r. ServedPause O n p number value child signal ends more poked old new s r) p v
    pause_own p number value child signal ends more poked s at d =
        let done = done_of O p (first_none O old.kernel) (last O old.kernel p d.room) in
        let letters = in_out p _ _ (pokes O t.event.stamp old.believed poked) d.base.took d.base.posts (itself p) (itself p) (pokes_loose O p t.event.stamp old.believed poked) in
        let told = way_tells O p s (way O d.from n (Pause p d.room)) (took_way O p s w v at _ _ letters) in
        let b = told.0 in
        let x = told.1 in
        let r = Answered d.from b x done true false in
        let here = subst (λ (k : Spot O). At O p k w) told.2 at in (
          r,
          record { home = d.home; from = d.from; body = b; kept = x; room = d.room; answers = d.answers; number_is = d.number_is; tells = d.tells; was = told.2; now = refl },
          settle O w t v goes p (Pauses d.from b x d.room) r here _ _ letters (ap (λ (k : ℕ). Some (way O d.from k (Pause p d.room))) (sym d.home)) (ap (λ (k : ℕ). Some (way O k d.from (Reply p done))) (sym d.home))
              (own_slot p _ _ _ _ _ old t new d.base ∙ here.slots n) (λ m ne. refl),
        )

    -- the context that the node has is the one that the spot tells
    some_context : (c d : Context O) → Some c ≡ Some d → c ≡ d
    some_context c d e = cc

    same_body : (p : ℕ) (s : Spot O) → At O p s w → site O s ≡ n → (b c : Body O) (x y : State) → kept_at O s ≡ Some (context O b x) → (old.slots p).context ≡ Some (context O c y) → (b ≡ c) × (x ≡ y)
    same_body p s at e b c x y f g =
        let h : cond (n == site O s) (kept_at O s) None ≡ Some (context O c y) = sym (ap (λ (k : Slot O). k.context) (at.slots n)) ∙ g in
        let i : kept_at O s ≡ Some (context O c y) = sym (ap (λ (k : Bool). cond k (kept_at O s) None) (same_numbers n (site O s) (sym e))) ∙ h in
        let j : context O b x ≡ context O c y = some_context (context O b x) (context O c y) (sym f ∙ i) in
        (ap (λ (k : Context O). k.body) j, ap (λ (k : Context O). k.state) j)

    waiting_same : (p q : Bool) (x y : Option Kept) → Waiting p x ≡ Waiting q y → (p ≡ q) × (x ≡ y)
    waiting_same p q x y e = (cc, cc)

    asking_same : (to l : ℕ) (x y : Option ℕ) → Asking to x ≡ Asking l y → x ≡ y
    asking_same to l x y e = cc

    -- a reply's four outcomes
    got_runs : (p : ℕ) (b : Body O) (x : Option Kept) (done : Done O) (y z : Bool) (from stamp : ℕ) → from ≡ 0 → At O p (Answered n b x done y z) w → t.taken ≡ Some (letter O from n stamp (Reply p done)) → t.posted ≡ []
        → new.slots p ≡ hosts O (Some (context O (returned O b done) Running)) (old.slots p) → At O p (Runs n (returned O b done)) v
    got_runs p b x done y z from stamp e at took posts slots =
        let r = Runs n (returned O b done) in
        settle O w t v goes p (Answered n b x done y z) r at _ None (takes_in p _ [] took posts (itself p) tt) (ap (λ (k : ℕ). Some (way O k n (Reply p done))) (sym e)) refl
        (rehost p (Answered n b x done y z) r (Some (context O (returned O b done) Running)) at slots (cond_here n _ _) refl refl)
        (λ m ne. same_slot (slot_by O (Answered n b x done y z) m) (slot_by O r m) (off_both m n _ _ _ ne) refl refl)

    got_ends : (p : ℕ) (b : Body O) (x : Option Kept) (done : Done O) (y z : Bool) (from stamp : ℕ) (u : O.User) (ls : List (Post O)) → from ≡ 0 → At O p (Answered n b x done y z) w → t.taken ≡ Some (letter O from n stamp (Reply p done)) → t.posted ≡ ls → Loose O p ls
        → new.slots p ≡ hosts O None (old.slots p) → At O p (Ended u) v
    got_ends p b x done y z from stamp u ls e at took posts loose slots =
        settle O w t v goes p (Answered n b x done y z) (Ended u) at _ None (takes_in p _ ls took posts (itself p) loose) (ap (λ (k : ℕ). Some (way O k n (Reply p done))) (sym e)) refl
        (rehost p (Answered n b x done y z) (Ended u) None at slots (cond_same (n == 0) None) refl refl)
        (λ m ne. same_slot (slot_by O (Answered n b x done y z) m) (slot_by O (Ended u) m) (nothing m n _ ne 0 None) refl refl)

    got_asks : (p : ℕ) (b : Body O) (x : Option Kept) (done : Done O) (y z : Bool) (from stamp : ℕ) (k : Kept) → from ≡ 0 → At O p (Answered n b x done y z) w → t.taken ≡ Some (letter O from n stamp (Reply p done)) → t.posted ≡ letter O n k.to t.event.stamp (Ask p (O.pages (after O b.user done))) ∷ []
        → new.slots p ≡ hosts O (Some (context O (returned O b done) (Asking k.to (Some k.line)))) (old.slots p) → At O p (Asks n (returned O b done) k.to (Some k.line) (O.pages (after O b.user done))) v
    got_asks p b x done y z from stamp k e at took posts slots =
        let r = Asks n (returned O b done) k.to (Some k.line) (O.pages (after O b.user done)) in
        settle O w t v goes p (Answered n b x done y z) r at _ _ (in_out p _ _ [] took posts (itself p) (itself p) tt) (ap (λ (k : ℕ). Some (way O k n (Reply p done))) (sym e)) refl
        (rehost p (Answered n b x done y z) r (Some (context O (returned O b done) (Asking k.to (Some k.line)))) at slots (cond_here n _ _) refl refl)
        (λ m ne. same_slot (slot_by O (Answered n b x done y z) m) (slot_by O r m) (off_both m n _ _ _ ne) refl refl)

    got_at : (p : ℕ) (b : Body O) (x : Option Kept) (done : Done O) (y z : Bool) (from stamp : ℕ) → from ≡ 0 → At O p (Answered n b x done y z) w → t.taken ≡ Some (letter O from n stamp (Reply p done)) → t.posted ≡ got_posts O n t.event.stamp p b x done
        → new.slots p ≡ hosts O (got_context O b x done) (old.slots p) → At O p (got_spot O n b x done) v
    got_at p b None done y z from stamp e at took posts slots = go done.ended slots
      where
        go : (k : Bool) → new.slots p ≡ hosts O (cond k None (Some (context O (returned O b done) Running))) (old.slots p) → At O p (cond k (Ended (after O b.user done)) (Runs n (returned O b done))) v
        go true h = got_ends p b None done y z from stamp (after O b.user done) [] e at took posts tt h
        go false h = got_runs p b None done y z from stamp e at took posts h
    got_at p b (Some x) done y z from stamp e at took posts slots = go done.ended posts slots
      where
        go : (k : Bool) → t.posted ≡ cond k (letter O n 0 t.event.stamp (NoMove x.line) ∷ []) (letter O n x.to t.event.stamp (Ask p (O.pages (after O b.user done))) ∷ []) → new.slots p ≡ hosts O (cond k None (Some (context O (returned O b done) (Asking x.to (Some x.line))))) (old.slots p)
            → At O p (cond k (Ended (after O b.user done)) (Asks n (returned O b done) x.to (Some x.line) (O.pages (after O b.user done)))) v
        go true f h = got_ends p b (Some x) done y z from stamp (after O b.user done) _ e at took f (refl, tt) h
        go false f h = got_asks p b (Some x) done y z from stamp x e at took f h

    got_mail : (p : ℕ) (b : Body O) (x : Option Kept) (done : Done O) (from stamp : ℕ) → t.taken ≡ Some (letter O from n stamp (Reply p done)) → t.posted ≡ got_posts O n t.event.stamp p b x done → (posts : Option (Way O)) × Letters O p (Some (way O from n (Reply p done))) posts w v
    got_mail p b None done from stamp took posts = (None, takes_in p _ [] took posts (itself p) tt)
    got_mail p b (Some x) done from stamp took posts = go done.ended posts
      where
        go : (k : Bool) → t.posted ≡ cond k (letter O n 0 t.event.stamp (NoMove x.line) ∷ []) (letter O n x.to t.event.stamp (Ask p (O.pages (after O b.user done))) ∷ []) → (posts : Option (Way O)) × Letters O p (Some (way O from n (Reply p done))) posts w v
        go true f = (None, takes_in p _ _ took f (itself p) (refl, tt))
        go false f = (_, in_out p _ _ [] took f (itself p) (itself p) tt)

    pub get_own : (p : ℕ) (child : Option ℕ) (ended : Bool) (kept : Option KeptTold) (s : Spot O) → At O p s w → Gets O n p child ended kept old t new → Turned (λ r. Quiet O (GotReply O n p child ended kept s r) old new) p v
    get_own p child ended kept s at d =
        let mail = got_mail p d.body d.keeps d.done d.from d.stamp d.base.took d.base.posts in
        let told = way_tells O p s (way O d.from n (Reply p d.done)) (took_way O p s w v at _ mail.0 mail.1) in
        let here = subst (λ (k : Spot O). At O p k w) told.4 at in
        let same = same_body p (Answered n told.0 told.1 d.done told.2 told.3) here refl told.0 d.body (Waiting told.2 told.1) (Waiting d.pause d.keeps) refl d.was in
        let kept = waiting_same told.2 d.pause told.1 d.keeps same.1 in
        let is : s ≡ Answered n d.body d.keeps d.done d.pause told.3 = told.4 ∙ (λ i. Answered n (same.0 i) (kept.1 i) d.done (kept.0 i) told.3) in
        let here2 = subst (λ (k : Spot O). At O p k w) is at in (
          got_spot O n d.body d.keeps d.done,
          record { is = record { body = d.body; keeps = d.keeps; done = d.done; paused = d.pause; held = told.3; child_is = d.child_is; ended_is = d.ended_is; kept_is = d.kept_is; was = is; now = refl }; kernel = d.still.kernel },
          got_at p d.body d.keeps d.done d.pause told.3 d.from d.stamp told.5 here2 d.base.took d.base.posts (own_slot p _ _ _ _ _ old t new d.base),
        )

    -- a context that changes and its letter stays
    rebody : (p : ℕ) (s r : Spot O) (c : Context O) → At O p s w → Letters O p None None w v → way_by O p s ≡ way_by O p r → new.slots p ≡ hosts O (Some c) (old.slots p) → cond (n == site O r) (kept_at O r) None ≡ Some c
        → cond (n == goal O r) (reserved O r) None ≡ cond (n == goal O s) (reserved O s) None → cond (n == 0) (call_at O r) None ≡ cond (n == 0) (call_at O s) None → ((m : ℕ) → m ≢ n → slot_by O s m ≡ slot_by O r m) → At O p r v
    rebody p s r c at l e slots f g h off = settle_stay O w t v goes p s r at l e (rehost p s r (Some c) at slots f g h) off

    mark_at : (p : ℕ) (b : Body O) (st : State) (s : Spot O) → Awake O st → At O p s w → Letters O p None None w v → new.slots p ≡ hosts O (Some (context O (record b { poked = true }) st)) (old.slots p) → (old.slots p).context ≡ Some (context O b st) → AwakeAt O n s × At O p (mark O s) v
    mark_at p b (Waiting pause k) s awake at l slots was = absurd awake
    mark_at p b Running s awake at l slots was =
        let is : s ≡ Runs n b = context_tells O p s w at n b Running was in
        let r = Runs n (record b { poked = true }) in
        let here = subst (λ (k : Spot O). At O p k w) is at in
        subst (λ (k : Spot O). AwakeAt O n k × At O p (mark O k) v) (sym is) (
          refl,
          rebody p (Runs n b) r (context O (record b { poked = true }) Running) here l refl slots (cond_here n _ _) refl refl
              (λ m ne. same_slot (slot_by O (Runs n b) m) (slot_by O r m) (off_both m n _ _ _ ne) refl refl),
        )
    mark_at p b (Asking to line) s awake at l slots was = go (context_tells O p s w at n b (Asking to line) was)
      where
        go : ((need : ℕ) × (s ≡ Asks n b to line need)) ⊎ (((need : ℕ) × (s ≡ Granted n b to line need)) ⊎ ((need : ℕ) × (free : ℕ) × (s ≡ Denied n b to line need free))) → AwakeAt O n s × At O p (mark O s) v
        go (inl (need, is)) =
            let r = Asks n (record b { poked = true }) to line need in
            subst (λ (k : Spot O). AwakeAt O n k × At O p (mark O k) v) (sym is) (
              refl,
              rebody p (Asks n b to line need) r (context O (record b { poked = true }) (Asking to line)) (subst (λ (k : Spot O). At O p k w) is at) l refl slots (cond_here n _ _) refl refl
                  (λ m ne. same_slot (slot_by O (Asks n b to line need) m) (slot_by O r m) (off_both m n _ _ _ ne) refl refl),
            )
        go (inr (inl (need, is))) =
            let r = Granted n (record b { poked = true }) to line need in
            subst (λ (k : Spot O). AwakeAt O n k × At O p (mark O k) v) (sym is) (
              refl,
              rebody p (Granted n b to line need) r (context O (record b { poked = true }) (Asking to line)) (subst (λ (k : Spot O). At O p k w) is at) l refl slots (cond_here n _ _) refl refl
                  (λ m ne. same_slot (slot_by O (Granted n b to line need) m) (slot_by O r m) (off_both m n _ _ _ ne) refl refl),
            )
        go (inr (inr (need, free, is))) =
            let r = Denied n (record b { poked = true }) to line need free in
            subst (λ (k : Spot O). AwakeAt O n k × At O p (mark O k) v) (sym is) (
              refl,
              rebody p (Denied n b to line need free) r (context O (record b { poked = true }) (Asking to line)) (subst (λ (k : Spot O). At O p k w) is at) l refl slots (cond_here n _ _) refl refl
                  (λ m ne. same_slot (slot_by O (Denied n b to line need free) m) (slot_by O r m) (off_both m n _ _ _ ne) refl refl),
            )

    pub mark_own : (p : ℕ) (s : Spot O) → At O p s w → Marks O n p old t new → Turned (λ r. Quiet O (Marked O n s r) old new) p v
    mark_own p s at d =
        let x = mark_at p d.body d.state s d.awake at (loose_in p _ [] d.base.took d.base.posts refl tt) (own_slot p _ _ _ _ _ old t new d.base) d.was in
        (mark O s, record { is = record { awake = x.0; now = refl }; kernel = d.still.kernel }, x.1)

    -- no context here, or one that waits, tells that the process is not awake here
    not_here : (s : Spot O) (c : Context O) → kept_at O s ≡ Some c → cond (n == site O s) (kept_at O s) None ≡ None → site O s ≢ n
    not_here s c e h x =
        let i : kept_at O s ≡ None = sym (ap (λ (k : Bool). cond k (kept_at O s) None) (same_numbers n (site O s) (sym x))) ∙ h in
        let j : Some c ≡ None = sym e ∙ i in absurd cc

    away_at : (s : Spot O) → cond (n == site O s) (kept_at O s) None ≡ None → AwayFrom O n s
    away_at Nowhere h = tt
    away_at (Runs m b) h = not_here (Runs m b) _ refl h
    away_at (Calls m b k r) h = not_here (Calls m b k r) _ refl h
    away_at (Holds m b k r) h = not_here (Holds m b k r) _ refl h
    away_at (Pauses m b k r) h = not_here (Pauses m b k r) _ refl h
    away_at (Answered m b k d x y) h = not_here (Answered m b k d x y) _ refl h
    away_at (Asks m b to l need) h = not_here (Asks m b to l need) _ refl h
    away_at (Granted m b to l need) h = not_here (Granted m b to l need) _ refl h
    away_at (Denied m b to l need free) h = not_here (Denied m b to l need free) _ refl h
    away_at (Travels a c b l need) h = tt
    away_at (InReply q u) h = tt
    away_at (Ended u) h = tt

    not_awake : (s : Spot O) (c : Context O) → Awake O c.state → kept_at O s ≡ Some c → Asleep O (cond (n == site O s) (kept_at O s) None) → site O s ≢ n
    not_awake s c awake e h x =
        let f : cond (n == site O s) (kept_at O s) None ≡ Some c = ap (λ (k : Bool). cond k (kept_at O s) None) (same_numbers n (site O s) (sym x)) ∙ e in
        let g : (pause : Bool) × (k : Option Kept) × (c.state ≡ Waiting pause k) = subst (Asleep O) f h in
        subst (Awake O) g.2 awake

    asleep_at : (s : Spot O) → Asleep O (cond (n == site O s) (kept_at O s) None) → AsleepAt O n s
    asleep_at Nowhere h = tt
    asleep_at (Runs m b) h = not_awake (Runs m b) (context O b Running) tt refl h
    asleep_at (Calls m b k r) h = tt
    asleep_at (Holds m b k r) h = tt
    asleep_at (Pauses m b k r) h = tt
    asleep_at (Answered m b k d x y) h = tt
    asleep_at (Asks m b to l need) h = not_awake (Asks m b to l need) (context O b (Asking to l)) tt refl h
    asleep_at (Granted m b to l need) h = not_awake (Granted m b to l need) (context O b (Asking to l)) tt refl h
    asleep_at (Denied m b to l need free) h = not_awake (Denied m b to l need free) (context O b (Asking to l)) tt refl h
    asleep_at (Travels a c b l need) h = tt
    asleep_at (InReply q u) h = tt
    asleep_at (Ended u) h = tt

    -- an event that leaves its process where it is
    pub stay_own : (p : ℕ) (s : Spot O) (taken : Option (Post O)) (posted : List (Post O)) → At O p s w → Letters O p None None w v → Base O p None taken posted (same O) (same O) old t new → At O p s v
    stay_own p s taken posted at l b = rests O w t v goes p s at l (own_slot p None taken posted (same O) (same O) old t new b)

    pub ignore_own : (p : ℕ) (s : Spot O) → At O p s w → Ignores O n p old t new → Turned (λ r. Quiet O (Dropped O n s r) old new) p v
    ignore_own p s at d = (
      s,
      record { is = record { asleep = asleep_at s (subst (Asleep O) (ap (λ (k : Slot O). k.context) (at.slots n)) d.asleep); now = refl }; kernel = d.still.kernel },
      stay_own p s _ _ at (loose_in p _ [] d.base.took d.base.posts refl tt) d.base,
    )

    pub miss_own : (p to line : ℕ) (s : Spot O) → At O p s w → Misses O n p to line old t new → Turned (λ r. Quiet O (MissedIt O n s r) old new) p v
    miss_own p to line s at d = (
      s,
      record { is = record { away = away_at s (sym (ap (λ (k : Slot O). k.context) (at.slots n)) ∙ d.was); now = refl }; kernel = d.still.kernel },
      stay_own p s _ _ at (loose_in p _ _ d.base.took d.base.posts refl (refl, tt)) d.base,
    )

    begin_letters : (p to : ℕ) (reason : Reason) (d : Begins O n p to reason old t new) → Letters O p None (Some (way O n to (Ask p (O.pages d.body.user)))) w v
    begin_letters p to (ForLine line) d = loose_out p _ _ [] d.base.took d.base.posts refl (itself p) tt
    begin_letters p to (Chosen false other) d = sends_second p _ _ [] d.base.took d.base.posts refl (itself p) tt
    begin_letters p to (Chosen true other) d = loose_out p _ _ [] d.base.took d.base.posts refl (itself p) tt

    pub begin_own : (p to : ℕ) (reason : Reason) (s : Spot O) → At O p s w → Begins O n p to reason old t new → Turned (λ r. Quiet O (Begun O n to (line_for reason) s r) old new) p v
    begin_own p to reason s at d =
        let is : s ≡ Runs n d.body = context_tells O p s w at n d.body Running d.was in
        let r = Asks n d.body to (line_for reason) (O.pages d.body.user) in
        let here = subst (λ (k : Spot O). At O p k w) is at in (
          r,
          record { is = record { body = d.body; away = d.away; was = is; now = refl }; kernel = d.still.kernel },
          settle O w t v goes p (Runs n d.body) r here None _ (begin_letters p to reason d) refl refl
              (rehost p (Runs n d.body) r (Some (context O d.body (Asking to (line_for reason)))) here (own_slot p _ _ _ _ _ old t new d.base) (cond_here n _ _) refl refl)
              (λ m ne. same_slot (slot_by O (Runs n d.body) m) (slot_by O r m) (off_both m n _ _ _ ne) refl refl),
        )

    keep_at : (p : ℕ) (x : Kept) (b : Body O) (pause : Bool) (s : Spot O) → At O p s w → Letters O p None None w v → new.slots p ≡ hosts O (Some (context O b (Waiting pause (Some x)))) (old.slots p) → (old.slots p).context ≡ Some (context O b (Waiting pause None)) → FreeAt O n s × At O p (keep_in O x s) v
    keep_at p x b pause s at l slots was = go (context_tells O p s w at n b (Waiting pause None) was)
      where
        held : (c : Bool) → pause ≡ c → new.slots p ≡ hosts O (Some (context O b (Waiting c (Some x)))) (old.slots p)
        held c e = slots ∙ ap (λ (k : Bool). hosts O (Some (context O b (Waiting k (Some x)))) (old.slots p)) e

        go : ((r : O.Request) × (s ≡ Calls n b None r) × (pause ≡ false)) ⊎ (((r : O.Request) × (s ≡ Holds n b None r) × (pause ≡ false)) ⊎ (((r : Bool) × (s ≡ Pauses n b None r) × (pause ≡ true)) ⊎ ((d : Done O) × (z : Bool) × (s ≡ Answered n b None d pause z)))) → FreeAt O n s × At O p (keep_in O x s) v
        go (inl (q, is, e)) =
            let r = Calls n b (Some x) q in
            subst (λ (k : Spot O). FreeAt O n k × At O p (keep_in O x k) v) (sym is) (
              (refl, refl),
              rebody p (Calls n b None q) r (context O b (Waiting false (Some x))) (subst (λ (k : Spot O). At O p k w) is at) l refl (held false e) (cond_here n _ _) refl refl
                  (λ m ne. same_slot (slot_by O (Calls n b None q) m) (slot_by O r m) (off_both m n _ _ _ ne) refl refl),
            )
        go (inr (inl (q, is, e))) =
            let r = Holds n b (Some x) q in
            subst (λ (k : Spot O). FreeAt O n k × At O p (keep_in O x k) v) (sym is) (
              (refl, refl),
              rebody p (Holds n b None q) r (context O b (Waiting false (Some x))) (subst (λ (k : Spot O). At O p k w) is at) l refl (held false e) (cond_here n _ _) refl refl
                  (λ m ne. same_slot (slot_by O (Holds n b None q) m) (slot_by O r m) (off_both m n _ _ _ ne) refl refl),
            )
        go (inr (inr (inl (q, is, e)))) =
            let r = Pauses n b (Some x) q in
            subst (λ (k : Spot O). FreeAt O n k × At O p (keep_in O x k) v) (sym is) (
              (refl, refl),
              rebody p (Pauses n b None q) r (context O b (Waiting true (Some x))) (subst (λ (k : Spot O). At O p k w) is at) l refl (held true e) (cond_here n _ _) refl refl
                  (λ m ne. same_slot (slot_by O (Pauses n b None q) m) (slot_by O r m) (off_both m n _ _ _ ne) refl refl),
            )
        go (inr (inr (inr (d, z, is)))) =
            let r = Answered n b (Some x) d pause z in
            subst (λ (k : Spot O). FreeAt O n k × At O p (keep_in O x k) v) (sym is) (
              (refl, refl),
              rebody p (Answered n b None d pause z) r (context O b (Waiting pause (Some x))) (subst (λ (k : Spot O). At O p k w) is at) l refl slots (cond_here n _ _) refl refl
                  (λ m ne. same_slot (slot_by O (Answered n b None d pause z) m) (slot_by O r m) (off_both m n _ _ _ ne) refl refl),
            )

    pub keep_own : (p to line : ℕ) (s : Spot O) → At O p s w → Keeps O n p to line old t new → Turned (λ r. Quiet O (KeptMove O n to line s r) old new) p v
    keep_own p to line s at d =
        let x = keep_at p (record { to = to; line = line }) d.body d.pause s at (loose_in p _ [] d.base.took d.base.posts refl tt) (own_slot p _ _ _ _ _ old t new d.base) d.was in
        (keep_in O (record { to = to; line = line }) s, record { is = record { away = d.away; free = x.0; now = refl }; kernel = d.still.kernel }, x.1)

    pub grant_own : (p from need : ℕ) (s : Spot O) → At O p s w → Grants O n p from need old t new → Turned (λ r. Quiet O (AllowedMove O n from need old s r) old new) p v
    grant_own p from need s at d =
        let letters = in_out p _ _ [] d.base.took d.base.posts (itself p) (itself p) tt in
        let told = way_tells O p s (way O from n (Ask p need)) (took_way O p s w v at _ _ letters) in
        let b = told.0 in
        let line = told.1 in
        let r = Granted from b n line need in
        let here = subst (λ (k : Spot O). At O p k w) told.2 at in (
          r,
          record { is = record { body = b; line = line; used = d.used; in_use = d.in_use; room = d.room; was = told.2; now = refl }; kernel = d.still.kernel },
          settle O w t v goes p (Asks from b n line need) r here _ _ letters refl refl
              (own_slot p _ _ _ _ _ old t new d.base ∙ (ap (reserves O (Some need)) (here.slots n) ∙ same_slot (reserves O (Some need) (slot_by O (Asks from b n line need) n)) (slot_by O r n) refl (sym (cond_here n (Some need) None)) refl))
              (λ m ne. same_slot (slot_by O (Asks from b n line need) m) (slot_by O r m) refl (sym (nothing m n (Some need) ne 0 None)) refl),
        )

    pub refuse_own : (p from need free : ℕ) (s : Spot O) → At O p s w → Refuses O n p from need free old t new → Turned (λ r. Quiet O (DeniedMove O n from need free old s r) old new) p v
    refuse_own p from need free s at d =
        let letters = in_out p _ _ [] d.base.took d.base.posts (itself p) (itself p) tt in
        let told = way_tells O p s (way O from n (Ask p need)) (took_way O p s w v at _ _ letters) in
        let b = told.0 in
        let line = told.1 in
        let r = Denied from b n line need free in
        let here = subst (λ (k : Spot O). At O p k w) told.2 at in (
          r,
          record { is = record { body = b; line = line; used = d.used; in_use = d.in_use; free_is = d.free_is; short = d.short; was = told.2; now = refl }; kernel = d.still.kernel },
          settle O w t v goes p (Asks from b n line need) r here _ _ letters refl refl
              (own_slot p _ _ _ _ _ old t new d.base ∙ here.slots n) (λ m ne. refl),
        )

    pub depart_own : (p to : ℕ) (s : Spot O) → At O p s w → Departs O n p to old t new → Turned (λ r. Quiet O (Departed O n to s r) old new) p v
    depart_own p to s at d =
        let letters = in_out p _ _ [] d.base.took d.base.posts (itself p) (itself p) tt in
        let told = way_tells O p s (way O to n (Allow p)) (took_way O p s w v at _ _ letters) in
        let need = told.2 in
        let here0 = subst (λ (k : Spot O). At O p k w) told.3 at in
        let eq = same_body p (Granted n told.0 to told.1 need) here0 refl told.0 d.body (Asking to told.1) (Asking to d.line) refl d.was in
        let is : s ≡ Granted n d.body to d.line need = told.3 ∙ (ap (λ (k : Body O). Granted n k to told.1 need) eq.0 ∙ ap (λ (k : Option ℕ). Granted n d.body to k need) (asking_same to to told.1 d.line eq.1)) in
        let here = subst (λ (k : Spot O). At O p k w) is at in
        let r = Travels n to d.body d.line need in (
          r,
          record { is = record { body = d.body; line = d.line; need = need; was = is; now = refl }; kernel = d.still.kernel },
          settle O w t v goes p (Granted n d.body to d.line need) r here _ _ letters refl refl
              (rehost p (Granted n d.body to d.line need) r None here (own_slot p _ _ _ _ _ old t new d.base) (cond_same (n == 0) None) refl refl)
              (λ m ne. same_slot (slot_by O (Granted n d.body to d.line need) m) (slot_by O r m) (nothing m n _ ne 0 None) refl refl),
        )

    pub stay_here_own : (p to need free : ℕ) (s : Spot O) → At O p s w → Stays O n p to need free old t new → Turned (λ r. Quiet O (StayedHere O n to need free s r) old new) p v
    stay_here_own p to need free s at d =
        let letters = takes_in p _ _ d.base.took d.base.posts (itself p) (closed_loose O p n t.event.stamp d.line) in
        let told = way_tells O p s (way O to n (Deny p need free)) (took_way O p s w v at _ _ letters) in
        let here0 = subst (λ (k : Spot O). At O p k w) told.2 at in
        let eq = same_body p (Denied n told.0 to told.1 need free) here0 refl told.0 d.body (Asking to told.1) (Asking to d.line) refl d.was in
        let is : s ≡ Denied n d.body to d.line need free = told.2 ∙ (ap (λ (k : Body O). Denied n k to told.1 need free) eq.0 ∙ ap (λ (k : Option ℕ). Denied n d.body to k need free) (asking_same to to told.1 d.line eq.1)) in
        let here = subst (λ (k : Spot O). At O p k w) is at in
        let r = Runs n d.body in (
          r,
          record { is = record { body = d.body; line = d.line; was = is; now = refl }; kernel = d.still.kernel },
          settle O w t v goes p (Denied n d.body to d.line need free) r here _ None letters refl refl
              (rehost p (Denied n d.body to d.line need free) r (Some (context O d.body Running)) here (own_slot p _ _ _ _ _ old t new d.base) (cond_here n _ _) refl refl)
              (λ m ne. same_slot (slot_by O (Denied n d.body to d.line need free) m) (slot_by O r m) (off_both m n _ _ _ ne) refl refl),
        )

    pub land_own : (p source : ℕ) (s : Spot O) → At O p s w → Lands O n p source old t new → Turned (λ r. Quiet O (LandedHere O n source s r) old new) p v
    land_own p source s at d =
        let letters = takes_in p _ _ d.base.took d.base.posts (itself p) (refl, tt) in
        let told = way_tells O p s (way O source n (Move p d.user d.hops d.line)) (took_way O p s w v at _ _ letters) in
        let b = told.0 in
        let need = told.1 in
        let s2 = Travels source n b d.line need in
        let here = subst (λ (k : Spot O). At O p k w) told.2 at in
        let b2 : Body O = record { user = b.user; hops = b.hops + 1; poked = false } in
        let r = Runs n b2 in
        let same_context : Some (context O (record { user = d.user; hops = d.hops + 1; poked = false }) Running) ≡ Some (context O b2 Running) = λ i. Some (context O (record { user = (sym told.3) i; hops = (sym told.4) i + 1; poked = false }) Running) in
        let slot2 : new.slots p ≡ lands O (Some (context O b2 Running)) (old.slots p) = own_slot p _ _ _ _ _ old t new d.base ∙ ap (λ (k : Option (Context O)). lands O k (old.slots p)) same_context in (
          r,
          record { is = record { body = b; line = d.line; need = need; was = told.2; now = refl }; kernel = d.still.kernel },
          settle O w t v goes p s2 r here _ None letters (λ i. Some (way O source n (Move p (told.3 i) (told.4 i) d.line))) refl
              (slot2 ∙ (ap (lands O (Some (context O b2 Running))) (here.slots n) ∙ same_slot (lands O (Some (context O b2 Running)) (slot_by O s2 n)) (slot_by O r n) (sym (cond_here n _ _)) (sym (cond_same (n == 0) None)) refl))
              (λ m ne. same_slot (slot_by O s2 m) (slot_by O r m) (sym (nothing m n _ ne 0 None)) (nothing m n (Some need) ne 0 None) refl),
        )
