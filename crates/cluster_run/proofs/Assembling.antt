-- What all seats did, each by itself, put together: the whole cluster between two turns.
use Rattle.std.proofs.Common.{◌≡◌, ℕ, zero, suc, ◌<◌, ◌≤◌, ◌==◌, ◌&&◌, ◌++◌, Bool, true, false, cond, Option, Some, None, List, [], ◌∷◌, refl, sym, ap, ◌∙◌, subst, append_assoc, arith, length, map, reverse, slice_get}
use Rattle.std.specs.Prelude.{option_to_list}
use Rattle.std.proofs.lemmas.List.{append-nil, map-append}
use Rattle.call_forward.specs.declared.letter.Letter.{Letter}
use Rattle.protocol.specs.Ops.{Ops}
use Rattle.protocol.specs.Deeds.{Noted, all_noted}
use Rattle.protocol.specs.Notes.{Post, Turn, Local}
use Rattle.protocol.specs.Cluster.{World, for_link}
use Rattle.protocol.proofs.Talk.{numbers_same}
use Rattle.run_laws.specs.Carried.{Each, own_events}
use Rattle.run_laws.specs.Skipping.{Act, Made, Skipped, Lone, DidAll, all_posted, all_taken, journal}
use Rattle.node_links.specs.Sides.{carrier_to}
use Rattle.node_links.specs.declared.side.Towards.{Towards}
use Rattle.node_machine.specs.Plan.{Plan}
use Rattle.node_machine.specs.Machine.{Policy, machine}
use Rattle.node_core.specs.declared.node.Node.{Node}
use Rattle.node_core.specs.Locals.{local, post_of}
use Rattle.node_core.specs.Making.{new_node}
use Rattle.cluster_run.specs.declared.seat.Seat.{Seat}
use Rattle.cluster_run.specs.Sides.{of_carrier, towards}
use Rattle.cluster_run.specs.Meeting.{Fronts}
use Rattle.cluster_run.specs.Standing.{BothFront}
use Rattle.cluster_run.specs.Seats.{bound, waiting, AreUsual, CameBy, LivesAt}
use Rattle.cluster_run.specs.Passing.{AreWithin}
use Rattle.cluster_run.proofs.Calming.{below, some_is}
use Rattle.cluster_run.proofs.Meetings.{fronts_none}
use Rattle.cluster_run.proofs.Living.{nothing_if, each_left, each_right}
use Rattle.node_core.proofs.Alone.{fresh_node}

pub none_past : {A : Type 0} (xs : List A) (k : ℕ) → slice_get xs k ≡ None → length xs ≤ k
none_past [] k e = omega arith
none_past (x ∷ xs) zero e = absurd cc
none_past (x ∷ xs) (suc k) e = let r = none_past xs k e in omega (arith, r)

each_of_map : {A B : Type 0} (P : B → Type 0) (f : A → B) (xs : List A) → Each P (map f xs) → Each (λ (x : A). P (f x)) xs
each_of_map P f [] e = tt
each_of_map P f (x ∷ xs) e = (e.0, each_of_map P f xs e.1)

each_join : {A : Type 0} (P : A → Type 0) (xs ys : List A) → Each P xs → Each P ys → Each P (xs ++ ys)
each_join P [] ys p q = q
each_join P (x ∷ xs) ys p q = (p.0, each_join P xs ys p.1 q)

module _ (O : Ops) where
  -- the letters that were posted on a link go that way
  link_way : (a b : ℕ) (ls : List (Post O)) → Each (λ (l : Post O). (l.from ≡ a) × (l.to ≡ b)) (for_link O a b ls)
  link_way a b [] = tt
  link_way a b (l ∷ ls) = go (a == l.from) (b == l.to) refl refl (link_way a b ls)
    where
      go : (x y : Bool) → (a == l.from) ≡ x → (b == l.to) ≡ y → Each (λ (k : Post O). (k.from ≡ a) × (k.to ≡ b)) (for_link O a b ls) → Each (λ (k : Post O). (k.from ≡ a) × (k.to ≡ b)) (cond (x && y) (l ∷ for_link O a b ls) (for_link O a b ls))
      go true true p q r = ((sym (numbers_same a l.from p), sym (numbers_same b l.to q)), r)
      go true false p q r = r
      go false true p q r = r
      go false false p q r = r

  posted_way : (a b : ℕ) (acts : List (Act O)) → Each (λ (l : Post O). (l.from ≡ a) × (l.to ≡ b)) (all_posted O a b acts)
  posted_way a b [] = tt
  posted_way a b (Made t ∷ before) = each_join (λ (l : Post O). (l.from ≡ a) × (l.to ≡ b)) (all_posted O a b before) (for_link O a b t.posted) (posted_way a b before) (link_way a b t.posted)
  posted_way a b (Skipped c m ∷ before) = posted_way a b before

module _ (policy : Policy) (plan : Plan) {C : Type 0} (puts gives : C → List Letter) (seats : List (Seat Node C)) (es : List Noted) where
  -- what node k did, whether it has a seat or not
  pub record Part (hand : Option Letter) (k : ℕ) : Type 0 where
    pub acts : List (Act (machine policy plan))
    pub state : Local (machine policy plan)
    pub lone : Lone (machine policy plan) k acts state
    pub put : ℕ → List Letter
    pub given : ℕ → List Letter
    pub waits : List Letter
    pub source : ℕ
    pub mail : (m : ℕ) → map (post_of policy plan) (put m ++ bound m waits) ≡ all_posted (machine policy plan) k m acts
    pub takes : ((m : ℕ) → Each (CameBy policy plan m k) (given m)) → (m : ℕ) → map (post_of policy plan) (given m) ≡ all_taken (machine policy plan) m k acts ++ cond (m == source) (map (post_of policy plan) (option_to_list hand)) []
    pub journal_is : own_events k es ≡ journal (machine policy plan) acts
    pub strange : (s : Seat Node C) → slice_get seats k ≡ Some s → AreUsual policy plan acts → s.node.strange ≡ 0
    pub state_is : (s : Seat Node C) → slice_get seats k ≡ Some s → state ≡ local policy plan s.node
    pub put_is : (s : Seat Node C) → slice_get seats k ≡ Some s → (m : ℕ) → put m ≡ towards puts s.side m
    pub given_is : (s : Seat Node C) → slice_get seats k ≡ Some s → (m : ℕ) → given m ≡ towards gives s.side m
    pub waits_is : (s : Seat Node C) → slice_get seats k ≡ Some s → waits ≡ waiting s
    pub none_put : slice_get seats k ≡ None → (m : ℕ) → put m ≡ []
    pub none_given : slice_get seats k ≡ None → (m : ℕ) → given m ≡ []
    pub none_waits : slice_get seats k ≡ None → waits ≡ []

  module _ (room : ℕ) (hands : ℕ → Option Letter) (lives : (k : ℕ) (s : Seat Node C) → slice_get seats k ≡ Some s → LivesAt policy plan puts gives room k (hands k) s) (no_hand : (k : ℕ) → slice_get seats k ≡ None → hands k ≡ None) (own : (k : ℕ) (s : Seat Node C) → slice_get seats k ≡ Some s → own_events k es ≡ reverse (all_noted plan.script s.node.journal.events)) (beyond : (k : ℕ) → slice_get seats k ≡ None → own_events k es ≡ []) where
    part_by : (k : ℕ) (o : Option (Seat Node C)) → slice_get seats k ≡ o → Part (hands k) k
    part_by k None e = record {
      acts = [];
      state = local policy plan (new_node k (record { nodes = 0; cap = 0; quantum = 0; journal = 0; word = 0 }) [] []);
      lone = fresh_node policy plan k (record { nodes = 0; cap = 0; quantum = 0; journal = 0; word = 0 }) [] [];
      put = λ m. [];
      given = λ m. [];
      waits = [];
      source = 0;
      mail = λ m. refl;
      takes = λ marks m. sym (ap (λ (o : Option Letter). cond (m == 0) (map (post_of policy plan) (option_to_list o)) []) (no_hand k e) ∙ nothing_if (m == 0));
      journal_is = beyond k e;
      strange = λ s f. absurd (no_seat s f);
      state_is = λ s f. absurd (no_seat s f);
      put_is = λ s f. absurd (no_seat s f);
      given_is = λ s f. absurd (no_seat s f);
      waits_is = λ s f. absurd (no_seat s f);
      none_put = λ f m. refl;
      none_given = λ f m. refl;
      none_waits = λ f. refl;
    }
      where
        no_seat : (s : Seat Node C) → slice_get seats k ≡ Some s → ⊥
        no_seat s f = let z : None ≡ Some s = sym e ∙ f in absurd cc
    part_by k (Some t) e = record {
      acts = v.acts;
      state = local policy plan t.node;
      lone = v.lone;
      put = towards puts t.side;
      given = towards gives t.side;
      waits = waiting t;
      source = t.source;
      mail = v.mail;
      takes = v.takes;
      journal_is = own k t e ∙ v.journal_is;
      strange = λ s f u. subst (λ (w : Seat Node C). w.node.strange ≡ 0) (same s f) (v.strange u);
      state_is = λ s f. ap (λ (w : Seat Node C). local policy plan w.node) (same s f);
      put_is = λ s f m. ap (λ (w : Seat Node C). towards puts w.side m) (same s f);
      given_is = λ s f m. ap (λ (w : Seat Node C). towards gives w.side m) (same s f);
      waits_is = λ s f. ap (λ (w : Seat Node C). waiting w) (same s f);
      none_put = λ f. absurd (some_seat f);
      none_given = λ f. absurd (some_seat f);
      none_waits = λ f. absurd (some_seat f);
    }
      where
        v : LivesAt policy plan puts gives room k (hands k) t
        v = lives k t e

        same : (s : Seat Node C) → slice_get seats k ≡ Some s → t ≡ s
        same s f = some_is t s (sym e ∙ f)

        some_seat : slice_get seats k ≡ None → ⊥
        some_seat f = let z : None ≡ Some t = sym f ∙ e in absurd cc

    pub part : (k : ℕ) → Part (hands k) k
    part k = part_by k (slice_get seats k) refl

  -- ---- the links between them

  module _ (hands : ℕ → Option Letter) (part : (k : ℕ) → Part (hands k) k) (pair : C → C → Type 0) (nodes : ℕ) (count : length seats ≡ nodes) (within : AreWithin nodes seats) (none : Bool) (met : (a b : ℕ) → a < nodes → b < nodes → BothFront puts gives pair none a b seats) where
    seat_below : (k : ℕ) (s : Seat Node C) → slice_get seats k ≡ Some s → k < nodes
    seat_below k s e = let r = below seats k s e in omega (arith, r, count)

    no_way : (f : C → List Letter) (k m : ℕ) (s : Seat Node C) → slice_get seats k ≡ Some s → slice_get seats m ≡ None → towards f s.side m ≡ []
    no_way f k m s e none_there = ap (of_carrier f) (within k m s e (let r = none_past seats m none_there in omega (arith, r, count)))

    front_by : (a b : ℕ) (x y : Option (Seat Node C)) → slice_get seats a ≡ x → slice_get seats b ≡ y → Fronts none ((part b).given a) ((part a).put b)
    front_by a b (Some s) (Some t) e f =
        subst (λ (w : List Letter). Fronts none ((part b).given a) w) (sym ((part a).put_is s e b))
        (subst (λ (w : List Letter). Fronts none w (towards puts s.side b)) (sym ((part b).given_is t f a)) ((met a b (seat_below a s e) (seat_below b t f)).there s t e f))
    front_by a b (Some s) None e f =
        subst (λ (w : List Letter). Fronts none ((part b).given a) w) (sym ((part a).put_is s e b ∙ no_way puts a b s e f))
        (subst (λ (w : List Letter). Fronts none w []) (sym ((part b).none_given f a)) (fronts_none none))
    front_by a b None (Some t) e f =
        subst (λ (w : List Letter). Fronts none ((part b).given a) w) (sym ((part a).none_put e b))
        (subst (λ (w : List Letter). Fronts none w []) (sym ((part b).given_is t f a ∙ no_way gives b a t f e)) (fronts_none none))
    front_by a b None None e f =
        subst (λ (w : List Letter). Fronts none ((part b).given a) w) (sym ((part a).none_put e b))
        (subst (λ (w : List Letter). Fronts none w []) (sym ((part b).none_given f a)) (fronts_none none))

    pub front : (a b : ℕ) → Fronts none ((part b).given a) ((part a).put b)
    front a b = front_by a b (slice_get seats a) (slice_get seats b) refl refl

    -- the letter in hand at b, if it came from a; those that lie on the link; those that wait at a
    abbrev pub in_hand : ℕ → ℕ → List (Post (machine policy plan))
    in_hand a b = cond (a == (part b).source) (map (post_of policy plan) (option_to_list (hands b))) []

    abbrev pub lying : ℕ → ℕ → List Letter
    lying a b = (front a b).order.0

    abbrev pub whole : World (machine policy plan)
    whole = record { nodes = λ k. (part k).state; links = λ a b. in_hand a b ++ (map (post_of policy plan) (lying a b) ++ map (post_of policy plan) (bound b (part a).waits)) }

    marks : (b a : ℕ) → Each (CameBy policy plan a b) ((part b).given a)
    marks b a = each_of_map (λ (l : Post (machine policy plan)). (l.from ≡ a) × (l.to ≡ b)) (post_of policy plan) ((part b).given a)
        (each_left (λ (l : Post (machine policy plan)). (l.from ≡ a) × (l.to ≡ b)) (map (post_of policy plan) ((part b).given a)) (map (post_of policy plan) (lying a b))
        (subst (λ (w : List (Post (machine policy plan))). Each (λ (l : Post (machine policy plan)). (l.from ≡ a) × (l.to ≡ b)) w) (ap (map (post_of policy plan)) (sym (front a b).order.1) ∙ map-append (post_of policy plan) ((part b).given a) (lying a b))
        (each_left (λ (l : Post (machine policy plan)). (l.from ≡ a) × (l.to ≡ b)) (map (post_of policy plan) ((part a).put b)) (map (post_of policy plan) (bound b (part a).waits))
        (subst (λ (w : List (Post (machine policy plan))). Each (λ (l : Post (machine policy plan)). (l.from ≡ a) × (l.to ≡ b)) w) (sym ((part a).mail b) ∙ map-append (post_of policy plan) ((part a).put b) (bound b (part a).waits)) (posted_way (machine policy plan) a b (part a).acts)))))

    pub did_all : DidAll (machine policy plan) (λ k. (part k).acts) whole
    did_all = record { nodes = λ k. (part k).lone; links = λ a b. link a b }
      where
        link : (a b : ℕ) → all_taken (machine policy plan) a b (part b).acts ++ (in_hand a b ++ (map (post_of policy plan) (lying a b) ++ map (post_of policy plan) (bound b (part a).waits))) ≡ all_posted (machine policy plan) a b (part a).acts
        link a b =
            sym (append_assoc (all_taken (machine policy plan) a b (part b).acts) (in_hand a b) (map (post_of policy plan) (lying a b) ++ map (post_of policy plan) (bound b (part a).waits)))
            ∙ (ap (λ (w : List (Post (machine policy plan))). w ++ (map (post_of policy plan) (lying a b) ++ map (post_of policy plan) (bound b (part a).waits))) (sym ((part b).takes (marks b) a))
            ∙ (sym (append_assoc (map (post_of policy plan) ((part b).given a)) (map (post_of policy plan) (lying a b)) (map (post_of policy plan) (bound b (part a).waits)))
            ∙ (ap (λ (w : List (Post (machine policy plan))). w ++ map (post_of policy plan) (bound b (part a).waits)) (sym (map-append (post_of policy plan) ((part b).given a) (lying a b)) ∙ ap (map (post_of policy plan)) (front a b).order.1)
            ∙ (sym (map-append (post_of policy plan) ((part a).put b) (bound b (part a).waits)) ∙ (part a).mail b))))
