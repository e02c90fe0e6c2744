-- Playing a run's own events on one node gives its kernel, its contexts and its replies.
use Rattle.std.proofs.Common.{arith, ◌≤◌, ◌≡◌, ◌≢◌, ℕ, ◌+◌, ◌==◌, Bool, true, false, cond, Option, Some, None, List, ◌∷◌, refl, sym, ap, ◌∙◌, subst}
use Rattle.std.proofs.lemmas.Bool.Decides.{nat_tests}
use Rattle.std.specs.Prelude.{nat_lt, option_and_then, ℤ}
use Rattle.protocol.specs.Ops.{Ops, Sound, Acted, is_child, typed}
use Rattle.protocol.specs.Deeds.{Manner, Did, Broke, Fell, Paused, Deed, Run, Kill, Bid, Unsent, Other, Steps, Sent, Heed, Held, Served, Got, Poked, Begin, Keep, Missed, Again, Allows, Denies, Depart, Stay, Land, Told, Refused, Closed, Gossips, Strange, pid_of, child_of}
use Rattle.protocol.specs.Notes.{Done, Body, Kept, Local}
use Rattle.protocol.specs.Spots.{Spot, Nowhere, Runs, Calls, Holds, Pauses, Answered, Asks, Granted, Denied, Travels, InReply, Ended}
use Rattle.protocol.specs.Home.{First, last, Acts, give, enter, returned, after, value_of}
use Rattle.protocol.specs.Needs.{Needs, ServedSo, ServedCall, ServedPause, got_spot, asked, mark, keep_in, brings, user_at, born_spot, alive, Right}
use Rattle.run_laws.specs.Machine.{ReplyGiven, MachineState, with_user, with_kernel, with_reply, with_child}
use Rattle.run_laws.specs.Schedule.{told_so, told_by}
use Rattle.run_laws.proofs.Plays.{took_where, served, plays}
use Rattle.protocol.proofs.Talk.{same_numbers, other_numbers}
use Rattle.protocol.proofs.Process.{cond_here, cond_off}
use Rattle.call_table.specs.declared.process.End.{End}

some_steps : (k : ℕ) → 1 ≤ k → nat_lt 0 k ≡ true
some_steps k e = grind (arith, nat_tests)

module _ (O : Ops) (S : Sound O) where
  -- the user state that the machine has of a process at this spot
  abbrev pub user_of : Spot O → Option O.User
  user_of Nowhere = None
  user_of (Runs m b) = Some b.user
  user_of (Calls m b k r) = Some b.user
  user_of (Holds m b k r) = Some b.user
  user_of (Pauses m b k r) = Some b.user
  user_of (Answered m b k d x y) = Some (after O b.user d)
  user_of (Asks m b to l need) = Some b.user
  user_of (Granted m b to l need) = Some b.user
  user_of (Denied m b to l need free) = Some b.user
  user_of (Travels a c b l need) = Some b.user
  user_of (InReply q u) = Some u
  user_of (Ended u) = Some u

  pub user_put : (p : ℕ) (u : O.User) (m : MachineState O) → (with_user O p u m).users p ≡ Some u
  user_put p u m = cond_here p (Some u) (m.users p)

  pub user_kept : (p : ℕ) (u : O.User) (m : MachineState O) (q : ℕ) → q ≢ p → (with_user O p u m).users q ≡ m.users q
  user_kept p u m q ne = cond_off q p (Some u) (m.users q) ne

  -- what the call itself makes of the machine
  pub record FirstPlayed (manner : Manner) (p : ℕ) (u : O.User) (r : O.Request) (f : First O) (m : MachineState O) : Type 0 where
    pub machine : MachineState O
    pub plays_it : served O manner p m ≡ Some machine
    pub kernel : machine.kernel ≡ f.kernel
    pub user : machine.users p ≡ Some (give O u f.answer)
    pub child : (c : ℕ) → f.child ≡ Some c → machine.users c ≡ Some (O.forked u c)
    pub others : (q : ℕ) → q ≢ p → is_child f.child q ≡ false → machine.users q ≡ m.users q
    pub replies : told_so p (Some (O.number r)) (value_of O f.answer) m.replies ≡ machine.replies
    pub room : (s : ℕ) → O.lowest f.kernel p ≡ Some s → O.take f.kernel p (O.room (give O u f.answer)) ≡ O.take f.kernel p (O.room_of r)

  some_acted : (k : O.Kernel) (p : ℕ) (r : O.Request) (d : Acted O.Kernel O.Answer) (m : MachineState O) (u : O.User) → O.serve k p r ≡ Some d → (c : Option ℕ) → ((x : ℕ) → c ≡ Some x → x ≢ p)
      → ((with_child O u c (with_user O p (O.given u d.answer) (with_reply O p r d.answer (with_kernel O d.kernel m)))).users p ≡ Some (O.given u d.answer))
      × ((x : ℕ) → c ≡ Some x → (with_child O u c (with_user O p (O.given u d.answer) (with_reply O p r d.answer (with_kernel O d.kernel m)))).users x ≡ Some (O.forked u x))
      × ((q : ℕ) → q ≢ p → is_child c q ≡ false → (with_child O u c (with_user O p (O.given u d.answer) (with_reply O p r d.answer (with_kernel O d.kernel m)))).users q ≡ m.users q)
      × ((with_child O u c (with_user O p (O.given u d.answer) (with_reply O p r d.answer (with_kernel O d.kernel m)))).kernel ≡ d.kernel)
      × ((with_child O u c (with_user O p (O.given u d.answer) (with_reply O p r d.answer (with_kernel O d.kernel m)))).replies ≡ record { pid = p; number = O.number r; value = O.value d.answer } ∷ m.replies)
  some_acted k p r d m u served None apart = (cond_here p _ _, λ x e. absurd cc, λ q ne h. cond_off q p _ _ ne, refl, refl)
  some_acted k p r d m u served (Some c) apart = (
    cond_off p c _ _ (λ z. apart c refl (sym z)) ∙ cond_here p _ _,
    λ x e. born x e,
    λ q ne h. cond_off q c _ _ (λ z. (let y : true ≡ false = sym (same_numbers c q (sym z)) ∙ h in cc)) ∙ cond_off q p _ _ ne,
    refl,
    refl,
  )
    where
      born : (x : ℕ) → Some c ≡ Some x → cond (x == c) (Some (O.forked u c)) (cond (x == p) (Some (O.given u d.answer)) (m.users x)) ≡ Some (O.forked u x)
      born x e = let same : c ≡ x = cc in subst (λ (k : ℕ). cond (k == c) (Some (O.forked u c)) (cond (k == p) (Some (O.given u d.answer)) (m.users k)) ≡ Some (O.forked u k)) same (cond_here c _ _)

  pub first_plays : (manner : Manner) (p : ℕ) (u : O.User) (r : O.Request) (f : First O) (m : MachineState O) → O.live m.kernel p ≡ true → m.users p ≡ Some u → O.asks u ≡ Some r → ((c : ℕ) → f.child ≡ Some c → c ≢ p) → Acts O manner m.kernel p r f → FirstPlayed manner p u r f m
  first_plays Did p u r f m live user asks apart (d, served, some, is) =
      let number : (O.number r == 0) ≡ false = other_numbers (O.number r) 0 some in
      let x = some_acted m.kernel p r d m u served d.child (λ c e. apart c (ap (λ (k : First O). k.child) is ∙ e)) in
      subst (λ (k : First O). FirstPlayed Did p u r k m) (sym is) (record {
        machine = with_child O u d.child (with_user O p (O.given u d.answer) (with_reply O p r d.answer (with_kernel O d.kernel m)));
        plays_it = rw (live, user, asks, number, served) refl;
        kernel = x.3;
        user = x.0;
        child = x.1;
        others = x.2;
        replies = sym x.4;
        room = λ s e. S.room_serve m.kernel p u r d asks served;
      })
  first_plays Broke p u r f m live user asks apart (s, low, blocked, some, is) =
      let number : (O.number r == 0) ≡ false = other_numbers (O.number r) 0 some in
      subst (λ (k : First O). FirstPlayed Broke p u r k m) (sym is) (record {
        machine = with_user O p (O.given u O.broken) (with_reply O p r O.broken m);
        plays_it = rw (live, user, asks, number, low, blocked) refl;
        kernel = refl;
        user = cond_here p _ _;
        child = λ c e. absurd cc;
        others = λ q ne h. cond_off q p _ _ ne;
        replies = refl;
        room = λ x e. S.room_broken m.kernel p s u r live low asks some blocked;
      })
  first_plays Fell p u r f m live user asks apart (none, is) =
      let number : (O.number r == 0) ≡ true = same_numbers (O.number r) 0 none in
      subst (λ (k : First O). FirstPlayed Fell p u r k m) (sym is) (record {
        machine = with_kernel O (O.fall m.kernel p r).kernel m;
        plays_it = rw (live, user, asks, number) refl;
        kernel = refl;
        user = user;
        child = λ c e. absurd cc;
        others = λ q ne h. refl;
        replies = refl;
        room = λ s e. (let z : true ≡ false = sym (S.lowest_live (O.fall m.kernel p r).kernel p s e) ∙ S.dead_fall m.kernel p r in absurd cc);
      })
  first_plays Paused p u r f m live user asks apart a = absurd a

  -- and the taking of a signal
  record LastPlayed (k : O.Kernel) (p : ℕ) (room : Bool) (u : O.User) (m : MachineState O) : Type 0 where
    machine : MachineState O
    plays_it : took_where O (last O k p room).signal p m ≡ Some machine
    kernel : machine.kernel ≡ (last O k p room).kernel
    user : machine.users p ≡ Some (enter O u (last O k p room).taken)
    others : (q : ℕ) → q ≢ p → machine.users q ≡ m.users q
    replies : machine.replies ≡ m.replies

  last_plays : (p : ℕ) (room : Bool) (u : O.User) (m : MachineState O) → m.users p ≡ Some u → ((s : ℕ) → O.lowest m.kernel p ≡ Some s → O.take m.kernel p (O.room u) ≡ O.take m.kernel p room) → LastPlayed m.kernel p room u m
  last_plays p room u m user rooms = go (O.lowest m.kernel p) refl
    where
      none : O.lowest m.kernel p ≡ None → LastPlayed m.kernel p room u m
      none e = record {
        machine = m;
        plays_it = rw e refl;
        kernel = rw e refl;
        user = rw e user;
        others = λ q ne. refl;
        replies = refl;
      }

      some : (s : ℕ) → O.lowest m.kernel p ≡ Some s → LastPlayed m.kernel p room u m
      some s e =
          let same : O.take m.kernel p (O.room u) ≡ O.take m.kernel p room = rooms s e in
          record {
            machine = with_user O p (O.entered u (O.take m.kernel p room).taken) (with_kernel O (O.take m.kernel p room).kernel m);
            plays_it = rw e (rw (e, user, same) refl);
            kernel = rw e refl;
            user = rw e (cond_here p _ _);
            others = λ q ne. cond_off q p _ _ ne;
            replies = refl;
          }

      go : (o : Option ℕ) → O.lowest m.kernel p ≡ o → LastPlayed m.kernel p room u m
      go None e = none e
      go (Some s) e = some s e

  -- one event played: the machine after it, and what it has of the process, its child and all others
  pub record PlayedAt (what : Deed) (n : ℕ) (after_kernel : O.Kernel) (s r : Spot O) (m : MachineState O) : Type 0 where
    pub machine : MachineState O
    pub plays_it : plays O what m ≡ Some machine
    pub kernel : machine.kernel ≡ after_kernel
    pub user : machine.users (pid_of what) ≡ user_of r
    pub child : (c : ℕ) → child_of what ≡ Some c → machine.users c ≡ user_of (born_spot O what n s c)
    pub others : (q : ℕ) → q ≢ pid_of what → is_child (child_of what) q ≡ false → machine.users q ≡ m.users q
    pub replies : told_by what m.replies ≡ machine.replies

  mark_user : (s : Spot O) → user_of (mark O s) ≡ user_of s
  mark_user Nowhere = refl
  mark_user (Runs m b) = refl
  mark_user (Calls m b k r) = refl
  mark_user (Holds m b k r) = refl
  mark_user (Pauses m b k r) = refl
  mark_user (Answered m b k d x y) = refl
  mark_user (Asks m b to l need) = refl
  mark_user (Granted m b to l need) = refl
  mark_user (Denied m b to l need free) = refl
  mark_user (Travels a c b l need) = refl
  mark_user (InReply q u) = refl
  mark_user (Ended u) = refl

  keep_user : (x : Kept) (s : Spot O) → user_of (keep_in O x s) ≡ user_of s
  keep_user x Nowhere = refl
  keep_user x (Runs m b) = refl
  keep_user x (Calls m b k r) = refl
  keep_user x (Holds m b k r) = refl
  keep_user x (Pauses m b k r) = refl
  keep_user x (Answered m b k d p y) = refl
  keep_user x (Asks m b to l need) = refl
  keep_user x (Granted m b to l need) = refl
  keep_user x (Denied m b to l need free) = refl
  keep_user x (Travels a c b l need) = refl
  keep_user x (InReply q u) = refl
  keep_user x (Ended u) = refl

  got_user : (n : ℕ) (b : Body O) (k : Option Kept) (d : Done O) → user_of (got_spot O n b k d) ≡ Some (after O b.user d)
  got_user n b None d = go d.ended
    where
      go : (e : Bool) → user_of (cond e (Ended (after O b.user d)) (Runs n (returned O b d))) ≡ Some (after O b.user d)
      go true = refl
      go false = refl
  got_user n b (Some k) d = go d.ended
    where
      go : (e : Bool) → user_of (cond e (Ended (after O b.user d)) (Asks n (returned O b d) k.to (Some k.line) (O.pages (after O b.user d)))) ≡ Some (after O b.user d)
      go true = refl
      go false = refl

  asked_at : (h : Bool) (m : ℕ) (b : Body O) (k : Option Kept) (x : O.Request) → (user_of (asked O h m b k x) ≡ Some b.user) × (alive O (asked O h m b k x) ≡ true) × (user_at O (asked O h m b k x) ≡ b.user) × (Right O (asked O h m b k x) → O.asks b.user ≡ Some x)
  asked_at true m b k x = (refl, refl, refl, λ z. z)
  asked_at false m b k x = (refl, refl, refl, λ z. z)

  module _ (n : ℕ) (old new : Local O) (s r : Spot O) (m : MachineState O) (k2 : O.Kernel) (home : n ≡ 0 → (old.kernel ≡ m.kernel) × (new.kernel ≡ k2)) (same : new.kernel ≡ old.kernel → k2 ≡ m.kernel) where
    -- an event that the machine does not see
    idle : (what : Deed) → ((x : MachineState O) → plays O what x ≡ Some x) → ((rs : List ReplyGiven) → told_by what rs ≡ rs) → new.kernel ≡ old.kernel → m.users (pid_of what) ≡ user_of s → user_of r ≡ user_of s
        → ((c : ℕ) → child_of what ≡ Some c → m.users c ≡ user_of (born_spot O what n s c)) → PlayedAt what n k2 s r m
    idle what still silent k user e child = record {
      machine = m;
      plays_it = still m;
      kernel = sym (same k);
      user = user ∙ sym e;
      child = child;
      others = λ q ne h. refl;
      replies = silent m.replies;
    }

    -- a served call
    served_played : (manner : Manner) (p : ℕ) (number : Option ℕ) (value : Option ℤ) (child signal : Option ℕ) (ends : Option End) (more : Bool) (poked : List ℕ) → ServedCall O n p manner number value child signal ends more poked old new s r → (plays O (Served p manner number value child signal ends more poked) m ≡ option_and_then (took_where O signal p) (served O manner p m))
        → ((c : ℕ) → child ≡ Some c → c ≢ p) → m.users p ≡ user_of s → O.live m.kernel p ≡ alive O s → Right O s → PlayedAt (Served p manner number value child signal ends more poked) n k2 s r m
    served_played manner p number value child signal ends more poked d is apart user live right =
        let h = home d.home in
        let a = asked_at d.held d.from d.body d.kept d.request in
        let u : m.users p ≡ Some d.body.user = user ∙ (ap user_of d.was ∙ a.0) in
        let l : O.live m.kernel p ≡ true = live ∙ (ap (alive O) d.was ∙ a.1) in
        let asks : O.asks d.body.user ≡ Some d.request = a.3 (subst (Right O) d.was right) in
        let acts : Acts O manner m.kernel p d.request d.first = subst (λ (k : O.Kernel). Acts O manner k p d.request d.first) h.0 d.acts in
        let first = first_plays manner p d.body.user d.request d.first m l u asks (λ c e. apart c (d.answers.child_is ∙ e)) acts in
        let room = O.room_of d.request in
        let then2 = last_plays p room (give O d.body.user d.first.answer) first.machine first.user (λ g e. subst (λ (k : O.Kernel). O.take k p (O.room (give O d.body.user d.first.answer)) ≡ O.take k p room) (sym first.kernel) (first.room g (ap (λ (k : O.Kernel). O.lowest k p) (sym first.kernel) ∙ e))) in
        let sig : signal ≡ (last O first.machine.kernel p room).signal = d.answers.signal_is ∙ ap (λ (k : O.Kernel). (last O k p room).signal) (sym first.kernel) in
        let kernel : then2.machine.kernel ≡ (last O d.first.kernel p room).kernel = then2.kernel ∙ ap (λ (k : O.Kernel). (last O k p room).kernel) first.kernel in
        let kernel2 : then2.machine.kernel ≡ new.kernel = kernel ∙ sym d.answers.kernel in
        record {
          machine = then2.machine;
          plays_it = is ∙ (ap (option_and_then (took_where O signal p)) first.plays_it ∙ (ap (λ (o : Option ℕ). took_where O o p first.machine) sig ∙ then2.plays_it));
          kernel = kernel2 ∙ h.1;
          user = then2.user ∙ (ap (λ (k : O.Kernel). Some (enter O (give O d.body.user d.first.answer) (last O k p room).taken)) first.kernel ∙ sym (ap user_of d.now));
          child = λ c e. then2.others c (apart c e) ∙ (first.child c (sym d.answers.child_is ∙ e) ∙ ap (λ (x : O.User). Some (O.forked x c)) (sym (ap (user_at O) d.was ∙ a.2)));
          others = λ q ne e. then2.others q ne ∙ first.others q ne (ap (λ (o : Option ℕ). is_child o q) (sym d.answers.child_is) ∙ e);
          replies = (λ i. told_so p (d.number_is i) (d.answers.value_is i) m.replies) ∙ (first.replies ∙ sym then2.replies);
        }

    paused_played : (p : ℕ) (number : Option ℕ) (value : Option ℤ) (child signal : Option ℕ) (ends : Option End) (more : Bool) (poked : List ℕ) → ServedPause O n p number value child signal ends more poked old new s r → m.users p ≡ user_of s → Right O s → PlayedAt (Served p Paused number value child signal ends more poked) n k2 s r m
    paused_played p number value child signal ends more poked d user right =
        let h = home d.home in
        let u : m.users p ≡ Some d.body.user = user ∙ ap user_of d.was in
        let room : O.room d.body.user ≡ d.room = subst (Right O) d.was right in
        let then2 = last_plays p d.room d.body.user m u (λ g e. ap (O.take m.kernel p) room) in
        let sig : signal ≡ (last O m.kernel p d.room).signal = d.answers.signal_is ∙ ap (λ (k : O.Kernel). (last O k p d.room).signal) h.0 in
        let kernel2 : then2.machine.kernel ≡ new.kernel = then2.kernel ∙ (ap (λ (k : O.Kernel). (last O k p d.room).kernel) (sym h.0) ∙ sym d.answers.kernel) in
        record {
          machine = then2.machine;
          plays_it = ap (λ (o : Option ℕ). took_where O o p m) sig ∙ then2.plays_it;
          kernel = kernel2 ∙ h.1;
          user = then2.user ∙ (ap (λ (k : O.Kernel). Some (enter O d.body.user (last O k p d.room).taken)) (sym h.0) ∙ sym (ap user_of d.now));
          child = λ c e. (let z : None ≡ Some c = sym d.answers.child_is ∙ e in absurd cc);
          others = λ q ne e. then2.others q ne;
          replies = (λ i. told_so p (d.number_is i) value m.replies) ∙ sym then2.replies;
        }

    not_true : (b : Bool) → b ≡ true → true ≡ b
    not_true b e = sym e

    none_child : (c : ℕ) (A : Type 0) → None ≡ Some c → A
    none_child c A e = absurd cc

    so_played : (manner : Manner) (p : ℕ) (number : Option ℕ) (value : Option ℤ) (child signal : Option ℕ) (ends : Option End) (more : Bool) (poked : List ℕ) → ServedSo O manner n p number value child signal ends more poked old new s r → ((c : ℕ) → child ≡ Some c → c ≢ p)
        → m.users p ≡ user_of s → O.live m.kernel p ≡ alive O s → Right O s → PlayedAt (Served p manner number value child signal ends more poked) n k2 s r m
    so_played Did p number value child signal ends more poked d apart user live right = served_played Did p number value child signal ends more poked d refl apart user live right
    so_played Broke p number value child signal ends more poked d apart user live right = served_played Broke p number value child signal ends more poked d refl apart user live right
    so_played Fell p number value child signal ends more poked d apart user live right = served_played Fell p number value child signal ends more poked d refl apart user live right
    so_played Paused p number value child signal ends more poked d apart user live right = paused_played p number value child signal ends more poked d user right

    -- an event that changes the kernel alone
    kernel_only : (what : Deed) (k : O.Kernel) → plays O what m ≡ Some (with_kernel O k m) → ((rs : List ReplyGiven) → told_by what rs ≡ rs) → ((c : ℕ) → child_of what ≡ Some c → ⊥) → k ≡ k2 → m.users (pid_of what) ≡ user_of s → r ≡ s → PlayedAt what n k2 s r m
    kernel_only what k is silent none e user now = record {
      machine = with_kernel O k m;
      plays_it = is;
      kernel = e;
      user = user ∙ sym (ap user_of now);
      child = λ c h. absurd (none c h);
      others = λ q ne h. refl;
      replies = silent m.replies;
    }

    ran : (what : Deed) → ((x : MachineState O) → plays O what x ≡ Some x) → ((rs : List ReplyGiven) → told_by what rs ≡ rs) → child_of what ≡ None → new.kernel ≡ old.kernel → m.users (pid_of what) ≡ user_of s → (a b : Spot O) → s ≡ a → r ≡ b → user_of b ≡ user_of a → PlayedAt what n k2 s r m
    ran what still silent none k user a b was now e =
        idle what still silent k user (ap user_of now ∙ (e ∙ sym (ap user_of was))) (λ c h. none_child c _ (sym none ∙ h))

    loose : (what : Deed) → ((x : MachineState O) → plays O what x ≡ Some x) → ((rs : List ReplyGiven) → told_by what rs ≡ rs) → child_of what ≡ None → new.kernel ≡ old.kernel → m.users (pid_of what) ≡ user_of s → r ≡ s → PlayedAt what n k2 s r m
    loose what still silent none k user now = ran what still silent none k user s s refl now refl

    pub played_at : (what : Deed) → Needs O what n old new s r → ((c : ℕ) → child_of what ≡ Some c → c ≢ pid_of what) → ((c : ℕ) → brings O s ≡ Some c → m.users c ≡ Some (O.forked (user_at O s) c))
        → m.users (pid_of what) ≡ user_of s → O.live m.kernel (pid_of what) ≡ alive O s → Right O s → PlayedAt what n k2 s r m
    played_at (Run line i p) d apart kid user live right =
        let h = home d.home in
        let launch : O.launch m.kernel ≡ Some new.kernel = ap O.launch (sym h.0) ∙ d.launched in
        let next : p ≡ O.count m.kernel + 1 = d.next ∙ ap (λ (k : O.Kernel). O.count k + 1) h.0 in
        record {
          machine = with_user O (O.count m.kernel + 1) (O.loaded i (O.count m.kernel + 1)) (with_kernel O new.kernel m);
          plays_it = rw (d.image, launch) refl;
          kernel = h.1;
          user = subst (λ (k : ℕ). (with_user O (O.count m.kernel + 1) (O.loaded i (O.count m.kernel + 1)) (with_kernel O new.kernel m)).users k ≡ Some (O.loaded i k)) (sym next) (cond_here (O.count m.kernel + 1) _ _) ∙ sym (ap user_of d.now);
          child = λ c e. absurd cc;
          others = λ q ne e. cond_off q (O.count m.kernel + 1) _ _ (λ z. ne (z ∙ sym next));
          replies = refl;
        }
    played_at (Kill line p g poked) d apart kid user live right = kernel_only (Kill line p g poked) (O.raise m.kernel p g) (rw d.signal_is refl) (λ rs. refl) (λ c e. cc) (ap (λ (k : O.Kernel). O.raise k p g) (sym (home d.home).0) ∙ (sym d.kernel ∙ (home d.home).1)) user d.now
    played_at (Bid line p to) d apart kid user live right = loose (Bid line p to) (λ x. refl) (λ rs. refl) refl d.kernel user d.is.now
    played_at (Unsent line p never) d apart kid user live right = loose (Unsent line p never) (λ x. refl) (λ rs. refl) refl d.kernel user d.is.now
    played_at (Other line input) d apart kid user live right = kernel_only (Other line input) (typed O input m.kernel) (rw d.text refl) (λ rs. refl) (λ c e. cc) (ap (λ (k : O.Kernel). typed O input k) (sym (home d.home).0) ∙ (sym d.kernel ∙ (home d.home).1)) user d.now
    played_at (Steps p x) d apart kid user live right =
        let u : m.users p ≡ Some d.is.body.user = user ∙ ap user_of d.is.was in
        let l : O.live m.kernel p ≡ true = live ∙ ap (alive O) d.is.was in
        record {
          machine = with_user O p d.is.user m;
          plays_it = rw (some_steps x d.is.bounds.least, l, u, d.is.went) refl;
          kernel = sym (same d.kernel);
          user = cond_here p _ _ ∙ sym (ap user_of d.is.now);
          child = λ c e. absurd cc;
          others = λ q ne e. cond_off q p _ _ ne;
          replies = refl;
        }
    played_at (Sent p x) d apart kid user live right = ran (Sent p x) (λ x. refl) (λ rs. refl) refl d.kernel user _ _ d.is.was d.is.now refl
    played_at (Heed p) d apart kid user live right = ran (Heed p) (λ x. refl) (λ rs. refl) refl d.kernel user _ _ d.is.was d.is.now refl
    played_at (Held p x) d apart kid user live right = ran (Held p x) (λ x. refl) (λ rs. refl) refl d.kernel user _ _ d.is.was d.is.now refl
    played_at (Served p manner number value child signal ends more poked) d apart kid user live right = so_played manner p number value child signal ends more poked d apart user live right
    played_at (Got p child ended kept) d apart kid user live right =
        let g = got_user n d.is.body d.is.keeps d.is.done in
        let b : (brings O s ≡ child) = ap (brings O) d.is.was ∙ sym d.is.child_is in
        idle (Got p child ended kept) (λ x. refl) (λ rs. refl) d.kernel user (ap user_of d.is.now ∙ (g ∙ sym (ap user_of d.is.was))) (λ c e. kid c (b ∙ e))
    played_at (Poked p true) d apart kid user live right = idle (Poked p true) (λ x. refl) (λ rs. refl) d.kernel user (ap user_of d.is.now ∙ mark_user s) (λ c h. none_child c _ h)
    played_at (Poked p false) d apart kid user live right = loose (Poked p false) (λ x. refl) (λ rs. refl) refl d.kernel user d.is.now
    played_at (Begin p to reason) d apart kid user live right = ran (Begin p to reason) (λ x. refl) (λ rs. refl) refl d.kernel user _ _ d.is.was d.is.now refl
    played_at (Keep p to line) d apart kid user live right =
        let x = keep_user (record { to = to; line = line }) s in
        idle (Keep p to line) (λ x. refl) (λ rs. refl) d.kernel user (ap user_of d.is.now ∙ x) (λ c h. none_child c _ h)
    played_at (Missed p to line) d apart kid user live right = loose (Missed p to line) (λ x. refl) (λ rs. refl) refl d.kernel user d.is.now
    played_at (Again p to place line) d apart kid user live right = loose (Again p to place line) (λ x. refl) (λ rs. refl) refl d.kernel user d.is.now
    played_at (Allows p from need) d apart kid user live right = ran (Allows p from need) (λ x. refl) (λ rs. refl) refl d.kernel user _ _ d.is.was d.is.now refl
    played_at (Denies p from need free) d apart kid user live right = ran (Denies p from need free) (λ x. refl) (λ rs. refl) refl d.kernel user _ _ d.is.was d.is.now refl
    played_at (Depart p to) d apart kid user live right = ran (Depart p to) (λ x. refl) (λ rs. refl) refl d.kernel user _ _ d.is.was d.is.now refl
    played_at (Stay p to need free) d apart kid user live right = ran (Stay p to need free) (λ x. refl) (λ rs. refl) refl d.kernel user _ _ d.is.was d.is.now refl
    played_at (Land p source) d apart kid user live right = ran (Land p source) (λ x. refl) (λ rs. refl) refl d.kernel user _ _ d.is.was d.is.now refl
    played_at (Told p at source hops line poked) d apart kid user live right = loose (Told p at source hops line poked) (λ x. refl) (λ rs. refl) refl d.kernel user d.is.now
    played_at (Refused p to why line) d apart kid user live right = loose (Refused p to why line) (λ x. refl) (λ rs. refl) refl d.kernel user d.is.now
    played_at (Closed line) d apart kid user live right = loose (Closed line) (λ x. refl) (λ rs. refl) refl d.kernel user d.is.now
    played_at (Gossips heard other) d apart kid user live right = loose (Gossips heard other) (λ x. refl) (λ rs. refl) refl d.kernel user d.is.now
    played_at (Strange p) d apart kid user live right = absurd d
