-- What the parts of a round keep.
use Rattle.std.proofs.Common.{◌≡◌, ℕ, ◌<◌, ◌≤◌, ◌==◌, ◌&&◌, ◌++◌, ◌⊎◌, inl, inr, Bool, true, false, cond, Option, Some, None, List, [], ◌∷◌, refl, sym, ap, ◌∙◌, subst, append_assoc, map, reverse, length}
use Rattle.std.specs.Prelude.{option_to_list}
use Rattle.std.specs.Option.{option_map}
use Rattle.std.proofs.lemmas.List.{append-nil, map-append, reverse-append}
use Rattle.call_forward.specs.declared.letter.Letter.{Letter}
use Rattle.protocol.specs.Ops.{Ops}
use Rattle.protocol.specs.Deeds.{Deed, Strange, Noted, all_noted}
use Rattle.protocol.specs.Notes.{Post, letter}
use Rattle.protocol.specs.Cluster.{for_link, at_front}
use Rattle.protocol.specs.Does.{Makes}
use Rattle.protocol.specs.Odd.{SkipsOdd, Timely}
use Rattle.protocol.specs.Rests.{Rests, Finished, HasMore}
use Rattle.protocol.proofs.Talk.{same_numbers}
use Rattle.run_laws.specs.Carried.{Each, IsUsual, recorded}
use Rattle.run_laws.specs.Skipping as skipping
use Rattle.run_laws.specs.Skipping.{Lone, all_posted, all_taken, journal}
use Rattle.run_laws.proofs.Weave.{marked}
use Rattle.node_machine.specs.Plan.{Plan}
use Rattle.node_machine.specs.Machine.{Policy, machine}
use Rattle.node_core.specs.declared.node.Node.{Node}
use Rattle.node_core.specs.declared.shape.Shape.{Shape}
use Rattle.node_core.specs.declared.turn.Turned.{Turned}
use Rattle.node_core.specs.declared.turn.Turned.TheVariants as turned
use Rattle.node_core.specs.Turns.{TurnsAs, strange_after, PassedOver, Rested, HasFinished, IsFull}
use Rattle.node_core.specs.Turns as turns
use Rattle.node_core.specs.Locals.{local, post_of, post_at, note_of}
use Rattle.node_core.specs.Suits.{Suits}
use Rattle.node_core.proofs.Alone.{line_reverse}
use Rattle.node_core.proofs.Starting.{suits_out}
use Rattle.cluster_run.specs.declared.seat.Seat.{Seat}
use Rattle.cluster_run.specs.declared.seat.Rest.{Rest}
use Rattle.cluster_run.specs.declared.seat.Rest.TheVariants as rested
use Rattle.cluster_run.specs.Sides.{towards}
use Rattle.cluster_run.specs.Seats.{rest_of, bound, Step, Made, CameBy, Lives, Found, LivesAt, Ready, Filled}

pub nothing_if : {A : Type 0} (b : Bool) → cond {A = List A} b [] [] ≡ []
nothing_if true = refl
nothing_if false = refl

-- ---- letters to a node

map_if : {A B : Type 0} (f : A → B) (b : Bool) (xs : List A) → map f (cond b xs []) ≡ cond b (map f xs) []
map_if f true xs = refl
map_if f false xs = refl

module _ (O : Ops) where
  abbrev pub posts_to : ℕ → List (Post O) → List (Post O)
  posts_to m [] = []
  posts_to m (l ∷ ls) = cond (m == l.to) (l ∷ posts_to m ls) (posts_to m ls)

  pub posts-append : (m : ℕ) (xs ys : List (Post O)) → posts_to m (xs ++ ys) ≡ posts_to m xs ++ posts_to m ys
  posts-append m [] ys = refl
  posts-append m (l ∷ ls) ys = go (m == l.to) (posts-append m ls ys)
    where
      go : (b : Bool) → posts_to m (ls ++ ys) ≡ posts_to m ls ++ posts_to m ys → cond b (l ∷ posts_to m (ls ++ ys)) (posts_to m (ls ++ ys)) ≡ cond b (l ∷ posts_to m ls) (posts_to m ls) ++ posts_to m ys
      go true e = ap (λ (w : List (Post O)). l ∷ w) e
      go false e = e

  pub posts_link : (n m s : ℕ) (ls : List (Post O)) → Each (λ (l : Post O). (l.from ≡ n) × (l.stamp ≡ s)) ls → for_link O n m ls ≡ posts_to m ls
  posts_link n m s [] e = refl
  posts_link n m s (l ∷ ls) e = ap (λ (b : Bool). cond (b && (m == l.to)) (l ∷ for_link O n m ls) (for_link O n m ls)) (same_numbers n l.from (sym e.0.0)) ∙ ap (λ (w : List (Post O)). cond (m == l.to) (l ∷ w) w) (posts_link n m s ls e.1)

pub each_left : {A : Type 0} (P : A → Type 0) (xs ys : List A) → Each P (xs ++ ys) → Each P xs
each_left P [] ys e = tt
each_left P (x ∷ xs) ys e = (e.0, each_left P xs ys e.1)

pub each_right : {A : Type 0} (P : A → Type 0) (xs ys : List A) → Each P (xs ++ ys) → Each P ys
each_right P [] ys e = e
each_right P (x ∷ xs) ys e = each_right P xs ys e.1

pub each_map : {A B : Type 0} (P : B → Type 0) (f : A → B) (xs : List A) → Each (λ (x : A). P (f x)) xs → Each P (map f xs)
each_map P f [] e = tt
each_map P f (x ∷ xs) e = (e.0, each_map P f xs e.1)

strange_same : (d : Deed) (count : ℕ) → IsUsual d → strange_after d count ≡ count
strange_same (Strange p) count u = absurd u
strange_same _ count u = refl

module _ (policy : Policy) (plan : Plan) where
  pub map_bound : (m : ℕ) (ls : List Letter) → map (post_of policy plan) (bound m ls) ≡ posts_to (machine policy plan) m (map (post_of policy plan) ls)
  map_bound m [] = refl
  map_bound m (l ∷ ls) = go (m == l.to) (map_bound m ls)
    where
      go : (b : Bool) → map (post_of policy plan) (bound m ls) ≡ posts_to (machine policy plan) m (map (post_of policy plan) ls)
          → map (post_of policy plan) (cond b (l ∷ bound m ls) (bound m ls)) ≡ cond b (post_of policy plan l ∷ posts_to (machine policy plan) m (map (post_of policy plan) ls)) (posts_to (machine policy plan) m (map (post_of policy plan) ls))
      go true e = ap (λ (w : List (Post (machine policy plan))). post_of policy plan l ∷ w) e
      go false e = e

  -- ---- a step without a turn

  module _ {C : Type 0} (puts gives : C → List Letter) (pair : C → C → Type 0) (room n : ℕ) where
    pub lives_step : (came : Option Letter) (s t : Seat Node C) → Step puts gives pair came s t → LivesAt policy plan puts gives room n None s → LivesAt policy plan puts gives room n came t
    lives_step came s t k v = record {
      acts = v.acts;
      lone = subst (λ (w : Node). Lone (machine policy plan) n v.acts (local policy plan w)) (sym k.node) v.lone;
      id = ap (λ (w : Node). w.id) k.node ∙ v.id;
      suits = subst (λ (w : Node). Suits plan w) (sym k.node) (suits_out plan s.node t.node.outbox v.suits);
      room_is = ap (λ (w : Node). w.journal.room) k.node ∙ v.room_is;
      fits = subst (λ (w : Node). length w.journal.events ≤ room) (sym k.node) v.fits;
      journal_is = ap (λ (w : Node). reverse (all_noted plan.script w.journal.events)) k.node ∙ v.journal_is;
      strange = λ u. ap (λ (w : Node). w.strange) k.node ∙ v.strange u;
      mail = λ m. ap (map (post_of policy plan)) (k.out m) ∙ v.mail m;
      takes = λ marks m. ap (map (post_of policy plan)) (k.into m) ∙ (map-append (post_of policy plan) (towards gives s.side m) (cond (m == t.source) (option_to_list came) [])
          ∙ (ap (λ (w : List (Post (machine policy plan))). w ++ map (post_of policy plan) (cond (m == t.source) (option_to_list came) [])) (was marks m)
          ∙ ap (λ (w : List (Post (machine policy plan))). all_taken (machine policy plan) m n v.acts ++ w) (map_if (post_of policy plan) (m == t.source) (option_to_list came))));
    }
      where
        was : ((m : ℕ) → Each (CameBy policy plan m n) (towards gives t.side m)) → (m : ℕ) → map (post_of policy plan) (towards gives s.side m) ≡ all_taken (machine policy plan) m n v.acts
        was marks m = v.takes (λ q. each_left (CameBy policy plan q n) (towards gives s.side q) (cond (q == t.source) (option_to_list came) []) (subst (λ (w : List Letter). Each (CameBy policy plan q n) w) (k.into q) (marks q))) m
            ∙ (ap (λ (w : List (Post (machine policy plan))). all_taken (machine policy plan) m n v.acts ++ w) (nothing_if (m == s.source)) ∙ append-nil (all_taken (machine policy plan) m n v.acts))

  -- ---- a turn

  module _ (room n : ℕ) (inbox : Option Letter) (put given : ℕ → List Letter) (back : Option Letter) (source : ℕ) (old new : Node) (v : Lives policy plan room n inbox put given (option_to_list back ++ old.outbox) source old) (fits : length new.journal.events ≤ new.journal.room) where
    -- where letters wait and what they are
    mail_more : (posted : List (Post (machine policy plan))) (stamp : ℕ) → Each (λ (l : Post (machine policy plan)). (l.from ≡ n) × (l.stamp ≡ stamp)) posted → map (post_of policy plan) new.outbox ≡ map (post_of policy plan) old.outbox ++ posted
        → (m : ℕ) → map (post_of policy plan) (put m ++ bound m (option_to_list back ++ new.outbox)) ≡ all_posted (machine policy plan) n m v.acts ++ for_link (machine policy plan) n m posted
    mail_more posted stamp marks out m =
        map-append P (put m) (bound m W2) ∙ (ap (λ (w : List (Post O)). map P (put m) ++ w) (map_bound m W2 ∙ (ap (posts_to O m) waits ∙ (posts-append O m (map P W) posted ∙ ap (λ (w : List (Post O)). w ++ posts_to O m posted) (sym (map_bound m W)))))
        ∙ (sym (append_assoc (map P (put m)) (map P (bound m W)) (posts_to O m posted)) ∙ (ap (λ (w : List (Post O)). w ++ posts_to O m posted) (sym (map-append P (put m) (bound m W)) ∙ v.mail m)
        ∙ ap (λ (w : List (Post O)). all_posted O n m v.acts ++ w) (sym (posts_link O n m stamp posted marks)))))
      where
        O : Ops
        O = machine policy plan

        P : Letter → Post (machine policy plan)
        P = post_of policy plan

        W : List Letter
        W = option_to_list back ++ old.outbox

        W2 : List Letter
        W2 = option_to_list back ++ new.outbox

        waits : map (post_of policy plan) (option_to_list back ++ new.outbox) ≡ map (post_of policy plan) (option_to_list back ++ old.outbox) ++ posted
        waits = map-append (post_of policy plan) (option_to_list back) new.outbox ∙ (ap (λ (w : List (Post (machine policy plan))). map (post_of policy plan) (option_to_list back) ++ w) out
            ∙ (sym (append_assoc (map (post_of policy plan) (option_to_list back)) (map (post_of policy plan) old.outbox) posted) ∙ ap (λ (w : List (Post (machine policy plan))). w ++ posted) (sym (map-append (post_of policy plan) (option_to_list back) old.outbox))))

    -- the letter in hand is the one that the turn takes
    in_hand : (o : Option Letter) → ((m : ℕ) → Each (λ (l : Post (machine policy plan)). (l.from ≡ m) × (l.to ≡ n)) (all_taken (machine policy plan) m n v.acts ++ cond (m == source) (map (post_of policy plan) (option_to_list o)) []))
        → (m : ℕ) → at_front (machine policy plan) (option_map (post_at policy plan n) o) m n ≡ cond (m == source) (map (post_of policy plan) (option_to_list o)) []
    in_hand None marks m = sym (nothing_if (m == source))
    in_hand (Some l) marks m =
        ap (λ (k : ℕ). cond ((m == k) && (n == n)) (post_at policy plan n l ∷ []) []) came.0
        ∙ (ap (λ (b : Bool). cond ((m == source) && b) (post_at policy plan n l ∷ []) []) (same_numbers n n refl)
        ∙ (go (m == source) ∙ ap (λ (k : ℕ). cond (m == source) (letter (machine policy plan) l.from k l.stamp (note_of policy plan l.message) ∷ []) []) (sym came.1)))
      where
        came : (l.from ≡ source) × (l.to ≡ n)
        came = (subst (λ (b : Bool). Each (λ (k : Post (machine policy plan)). (k.from ≡ source) × (k.to ≡ n)) (cond b (post_of policy plan l ∷ []) [])) (same_numbers source source refl) (each_right (λ (k : Post (machine policy plan)). (k.from ≡ source) × (k.to ≡ n)) (all_taken (machine policy plan) source n v.acts) (cond (source == source) (post_of policy plan l ∷ []) []) (marks source))).0

        go : (b : Bool) → cond (b && true) (post_at policy plan n l ∷ []) [] ≡ cond b (post_at policy plan n l ∷ []) []
        go true = refl
        go false = refl

    marks_of : ((m : ℕ) → Each (CameBy policy plan m n) (given m)) → (m : ℕ) → Each (λ (l : Post (machine policy plan)). (l.from ≡ m) × (l.to ≡ n)) (all_taken (machine policy plan) m n v.acts ++ cond (m == source) (map (post_of policy plan) (option_to_list inbox)) [])
    marks_of marks m = subst (λ (w : List (Post (machine policy plan))). Each (λ (l : Post (machine policy plan)). (l.from ≡ m) × (l.to ≡ n)) w) (v.takes marks m) (each_map (λ (l : Post (machine policy plan)). (l.from ≡ m) × (l.to ≡ n)) (post_of policy plan) (given m) (marks m))

    none_in_hand : (xs : List (Post (machine policy plan))) (m : ℕ) → xs ≡ xs ++ cond (m == source) [] []
    none_in_hand xs m = sym (ap (λ (w : List (Post (machine policy plan))). xs ++ w) (nothing_if (m == source)) ∙ append-nil xs)

    lives_made : turns.Made policy plan inbox old new → Lives policy plan room n None put given (option_to_list back ++ new.outbox) source new
    lives_made k = record {
      acts = skipping.Made k.turn ∷ v.acts;
      lone = (local policy plan old, v.lone, makes, timely);
      id = k.id ∙ v.id;
      suits = k.suits;
      room_is = k.suits.room ∙ (ap (λ (w : Shape). w.journal) k.shape ∙ (sym v.suits.room ∙ v.room_is));
      fits = subst (λ (r : ℕ). length new.journal.events ≤ r) (k.suits.room ∙ (ap (λ (w : Shape). w.journal) k.shape ∙ (sym v.suits.room ∙ v.room_is))) fits;
      journal_is = ap reverse k.journal ∙ (reverse-append (all_noted plan.script old.journal.events) (recorded k.turn.event k.turn.event.what)
          ∙ (ap (λ (w : List Noted). w ++ reverse (all_noted plan.script old.journal.events)) (line_reverse k.turn.event k.turn.event.what) ∙ ap (λ (w : List Noted). recorded k.turn.event k.turn.event.what ++ w) v.journal_is));
      strange = λ u. k.strange ∙ (strange_same k.turn.event.what old.strange u.0 ∙ v.strange u.1);
      mail = λ m. mail_more k.turn.posted k.turn.event.stamp posted_marks k.mail m;
      takes = λ marks m. v.takes marks m ∙ (ap (λ (w : List (Post (machine policy plan))). all_taken (machine policy plan) m n v.acts ++ w) (sym (front marks m)) ∙ none_in_hand (all_taken (machine policy plan) m n v.acts ++ at_front (machine policy plan) k.turn.taken m n) m);
    }
      where
        makes : Makes (machine policy plan) n (local policy plan old) k.turn (local policy plan new)
        makes = subst (λ (i : ℕ). Makes (machine policy plan) i (local policy plan old) k.turn (local policy plan new)) v.id k.makes

        timely : Timely (machine policy plan) n (local policy plan old) k.turn
        timely = subst (λ (i : ℕ). Timely (machine policy plan) i (local policy plan old) k.turn) v.id k.timely

        posted_marks : Each (λ (l : Post (machine policy plan)). (l.from ≡ n) × (l.stamp ≡ k.turn.event.stamp)) k.turn.posted
        posted_marks = subst (λ (i : ℕ). Each (λ (l : Post (machine policy plan)). (l.from ≡ i) × (l.stamp ≡ k.turn.event.stamp)) k.turn.posted) makes.node (marked (machine policy plan) n (local policy plan old) k.turn (local policy plan new) makes).posted

        taken_is : k.turn.taken ≡ option_map (post_at policy plan n) inbox
        taken_is = subst (λ (i : ℕ). k.turn.taken ≡ option_map (post_at policy plan i) inbox) v.id k.taken

        front : ((m : ℕ) → Each (CameBy policy plan m n) (given m)) → (m : ℕ) → at_front (machine policy plan) k.turn.taken m n ≡ cond (m == source) (map (post_of policy plan) (option_to_list inbox)) []
        front marks m = ap (λ (o : Option (Post (machine policy plan))). at_front (machine policy plan) o m n) taken_is ∙ in_hand inbox (marks_of marks) m

    lives_passed : PassedOver policy plan inbox old new → Lives policy plan room n None put given (option_to_list back ++ new.outbox) source new
    lives_passed k = record {
      acts = skipping.Skipped source (post_of policy plan k.letter) ∷ v.acts;
      lone = (local policy plan old, v.lone, subst (λ (i : ℕ). i < plan.nodes) v.id v.suits.below, subst (λ (i : ℕ). SkipsOdd (machine policy plan) i (local policy plan old) (post_of policy plan k.letter) (local policy plan new)) v.id k.skips);
      id = ap (λ (w : Node). w.id) k.same ∙ v.id;
      suits = k.suits;
      room_is = ap (λ (w : Node). w.journal.room) k.same ∙ v.room_is;
      fits = subst (λ (r : ℕ). length new.journal.events ≤ r) (ap (λ (w : Node). w.journal.room) k.same ∙ v.room_is) fits;
      journal_is = ap (λ (w : Node). reverse (all_noted plan.script w.journal.events)) k.same ∙ v.journal_is;
      strange = λ u. absurd u;
      mail = λ m. ap (λ (w : Node). map (post_of policy plan) (put m ++ bound m (option_to_list back ++ w.outbox))) k.same ∙ v.mail m;
      takes = λ marks m. v.takes marks m ∙ (ap (λ (o : Option Letter). all_taken (machine policy plan) m n v.acts ++ cond (m == source) (map (post_of policy plan) (option_to_list o)) []) k.is
          ∙ none_in_hand (all_taken (machine policy plan) m n v.acts ++ cond (m == source) (post_of policy plan k.letter ∷ []) []) m);
    }

    lives_same : new ≡ old → Lives policy plan room n inbox put given (option_to_list back ++ new.outbox) source new
    lives_same same = subst (λ (w : Node). Lives policy plan room n inbox put given (option_to_list back ++ w.outbox) source w) (sym same) v

    no_letter : inbox ≡ None → Lives policy plan room n inbox put given (option_to_list back ++ new.outbox) source new → Lives policy plan room n None put given (option_to_list back ++ new.outbox) source new
    no_letter none u = subst (λ (o : Option Letter). Lives policy plan room n o put given (option_to_list back ++ new.outbox) source new) none u

none_of : {A B : Type 0} (f : A → B) (o : Option A) → option_map f o ≡ None → o ≡ None
none_of f None e = refl
none_of f (Some x) e = absurd cc

-- ---- the answer of a turn

module _ (policy : Policy) {C : Type 0} (puts gives : C → List Letter) where
  abbrev pub After : Rest → Option Letter → Seat Node C → Seat Node C → Type 0
  After rested.Full inbox s t = (plan : Plan) (room n : ℕ) → LivesAt policy plan puts gives room n inbox s → Filled policy plan puts gives room n t
  After rested.Busy inbox s t = (plan : Plan) (room n : ℕ) → LivesAt policy plan puts gives room n inbox s → Ready policy plan puts gives room n t
  After rested.Idle inbox s t = (plan : Plan) (room n : ℕ) → LivesAt policy plan puts gives room n inbox s → Ready policy plan puts gives room n t
  After rested.Over inbox s t = (plan : Plan) (room n : ℕ) → LivesAt policy plan puts gives room n inbox s → Ready policy plan puts gives room n t

  did : (inbox : Option Letter) (s : Seat Node C) (new : Node) → length new.journal.events ≤ new.journal.room → TurnsAs policy turned.Did inbox s.node new → After rested.Busy inbox s (record s { node = new; rest = rested.Busy })
  did inbox s new fits t plan room n v = go (t plan v.suits)
    where
      go : turns.Made policy plan inbox s.node new ⊎ PassedOver policy plan inbox s.node new → Ready policy plan puts gives room n (record s { node = new; rest = rested.Busy })
      go (inl k) = record { lives = lives_made policy plan room n inbox (towards puts s.side) (towards gives s.side) s.waits s.source s.node new v fits k; found = tt }
      go (inr k) = record { lives = lives_passed policy plan room n inbox (towards puts s.side) (towards gives s.side) s.waits s.source s.node new v fits k; found = tt }

  rests_now : (plan : Plan) (room n : ℕ) (inbox : Option Letter) (s : Seat Node C) (new : Node) → LivesAt policy plan puts gives room n inbox s → new ≡ s.node → Rests (machine policy plan) s.node.id (local policy plan s.node) → Rests (machine policy plan) n (local policy plan new)
  rests_now plan room n inbox s new v same r = subst (λ (w : Node). Rests (machine policy plan) n (local policy plan w)) (sym same) (subst (λ (i : ℕ). Rests (machine policy plan) i (local policy plan s.node)) v.id r)

  rested_with : (plan : Plan) (room n : ℕ) (inbox : Option Letter) (s : Seat Node C) (new : Node) → length new.journal.events ≤ new.journal.room → (answer : Rest) (v : LivesAt policy plan puts gives room n inbox s) → new ≡ s.node → inbox ≡ None → Found policy plan n answer (local policy plan new) → Ready policy plan puts gives room n (record s { node = new; rest = answer })
  rested_with plan room n inbox s new fits answer v same none found = record {
    lives = no_letter policy plan room n inbox (towards puts s.side) (towards gives s.side) s.waits s.source s.node new v fits none (lives_same policy plan room n inbox (towards puts s.side) (towards gives s.side) s.waits s.source s.node new v fits same);
    found = found;
  }

  idle : (inbox : Option Letter) (s : Seat Node C) (new : Node) → length new.journal.events ≤ new.journal.room → TurnsAs policy turned.Idle inbox s.node new → After rested.Idle inbox s (record s { node = new; rest = rested.Idle })
  idle inbox s new fits turns plan room n v =
      let r : Rested policy plan inbox s.node new = turns plan v.suits in
      rested_with plan room n inbox s new fits rested.Idle v r.same (none_of (post_at policy plan s.node.id) inbox r.idle.letter)
      (rests_now plan room n inbox s new v r.same r.idle.rests, λ home fin. r.more (record { idle = r.idle; home = v.id ∙ home; finished = subst (λ (w : Node). Finished (machine policy plan) (local policy plan w)) r.same fin }))

  over : (inbox : Option Letter) (s : Seat Node C) (new : Node) → length new.journal.events ≤ new.journal.room → TurnsAs policy turned.Finished inbox s.node new → After rested.Over inbox s (record s { node = new; rest = rested.Over })
  over inbox s new fits turns plan room n v =
      let r : HasFinished policy plan inbox s.node new = turns plan v.suits in
      rested_with plan room n inbox s new fits rested.Over v r.same (none_of (post_at policy plan s.node.id) inbox r.finished.idle.letter)
      (rests_now plan room n inbox s new v r.same r.finished.idle.rests, sym v.id ∙ r.finished.home, subst (λ (w : Node). Finished (machine policy plan) (local policy plan w)) (sym r.same) r.finished.finished)

  full : (inbox : Option Letter) (s : Seat Node C) (new : Node) → length new.journal.events ≤ new.journal.room → TurnsAs policy turned.JournalFull inbox s.node new → After rested.Full inbox s (record s { node = new; rest = rested.Full })
  full inbox s new fits turns plan room n v =
      let r : IsFull policy plan inbox s.node new = turns plan v.suits in
      record {
        hand = inbox;
        lives = lives_same policy plan room n inbox (towards puts s.side) (towards gives s.side) s.waits s.source s.node new v fits r.same;
        full = ap (λ (w : Node). length w.journal.events) r.same ∙ (r.full ∙ v.room_is);
        more = subst (λ (w : Node). HasMore (machine policy plan) n (option_map (post_at policy plan n) inbox) (local policy plan w)) (sym r.same) (subst (λ (i : ℕ). HasMore (machine policy plan) i (option_map (post_at policy plan i) inbox) (local policy plan s.node)) v.id r.more);
      }

  by_answer : (d : Turned) (inbox : Option Letter) (s : Seat Node C) (new : Node) → length new.journal.events ≤ new.journal.room → TurnsAs policy d inbox s.node new → After (rest_of d) inbox s (record s { node = new; rest = rest_of d })
  by_answer turned.Did inbox s new fits t = did inbox s new fits t
  by_answer turned.Idle inbox s new fits t = idle inbox s new fits t
  by_answer turned.Finished inbox s new fits t = over inbox s new fits t
  by_answer turned.JournalFull inbox s new fits t = full inbox s new fits t

  pub made_after : (answer : Rest) (inbox : Option Letter) (s t : Seat Node C) → Made policy answer inbox s t → After answer inbox s t
  made_after answer inbox s t k = subst (λ (w : Seat Node C). After answer inbox s w) (sym k.same) (subst (λ (a : Rest). After a inbox s (record s { node = t.node; rest = a })) (sym k.answer_is) (by_answer k.turned inbox s t.node k.fits k.turns))
