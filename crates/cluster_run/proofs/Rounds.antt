-- The parts of a round, one after another.
use Rattle.std.proofs.Common.{◌≡◌, ℕ, ◌≤◌, ◌==◌, ◌++◌, Bool, true, false, cond, Option, Some, None, List, [], ◌∷◌, refl, sym, ap, ◌∙◌, subst, append_assoc, length, IfSome, IfNone}
use Rattle.std.specs.Prelude.{option_to_list}
use Rattle.std.proofs.lemmas.List.{append-nil}
use Rattle.call_forward.specs.declared.letter.Letter.{Letter}
use Rattle.node_links.specs.declared.side.Towards.{Towards}
use Rattle.node_machine.specs.Plan.{Plan}
use Rattle.node_machine.specs.Machine.{Policy}
use Rattle.node_core.specs.declared.node.Node.{Node}
use Rattle.node_core.specs.declared.turn.Turned.{Turned}
use Rattle.node_core.specs.Turns.{TurnsAs}
use Rattle.cluster_run.specs.declared.seat.Seat.{Seat}
use Rattle.cluster_run.specs.declared.seat.Rest.{Rest}
use Rattle.cluster_run.specs.declared.seat.Rest.TheVariants as rested
use Rattle.cluster_run.specs.Sides.{towards, LookTells, SameSide, unless, Handed, Looked}
use Rattle.cluster_run.specs.Seats.{rest_of, bound, waiting, Step, Took, Made, LivesAt, Turns, Went}
use Rattle.cluster_run.proofs.Places.{side_same, side_then}
use Rattle.cluster_run.proofs.Living.{nothing_if, lives_step, After, made_after}

pub if_none : (b : Bool) (ls : List Letter) → ls ≡ ls ++ cond b [] []
if_none b ls = sym (ap (λ (w : List Letter). ls ++ w) (nothing_if b) ∙ append-nil ls)

module _ {C : Type 0} (puts gives : C → List Letter) (pair : C → C → Type 0) where
  -- a letter goes on its link, or waits before those that are left
  out_one : (l : Letter) (back : Option Letter) (left : List Letter) (m : ℕ) (before after : List Letter) → IfSome back (λ b. b ≡ l) → after ≡ before ++ unless puts gives pair back (cond (m == l.to) (l ∷ []) []) → after ++ bound m (option_to_list back ++ left) ≡ before ++ bound m (l ∷ left)
  out_one l None left m before after same is = ap (λ (w : List Letter). w ++ bound m left) is ∙ (append_assoc before (cond (m == l.to) (l ∷ []) []) (bound m left) ∙ ap (λ (w : List Letter). before ++ w) (go (m == l.to)))
    where
      go : (b : Bool) → cond b (l ∷ []) [] ++ bound m left ≡ cond b (l ∷ bound m left) (bound m left)
      go true = refl
      go false = refl
  out_one l (Some b) left m before after same is = ap (λ (w : List Letter). w ++ bound m (b ∷ left)) (is ∙ append-nil before) ∙ ap (λ (k : Letter). before ++ bound m (k ∷ left)) same

  pub step_none : (s : Seat Node C) → Step puts gives pair None s s
  step_none s = record { out = λ m. refl; into = λ m. if_none (m == s.source) (towards gives s.side m); side = side_same pair s.side; node = refl; rest = refl }

  pub step_then : (came : Option Letter) (s t u : Seat Node C) → Step puts gives pair None s t → Step puts gives pair came t u → Step puts gives pair came s u
  step_then came s t u a b = record {
    out = λ m. b.out m ∙ a.out m;
    into = λ m. b.into m ∙ ap (λ (w : List Letter). w ++ cond (m == u.source) (option_to_list came) []) (a.into m ∙ sym (if_none (m == t.source) (towards gives s.side m)));
    side = side_then pair s.side t.side u.side a.side b.side;
    node = b.node ∙ ap (λ (w : Node). record w { outbox = u.node.outbox }) a.node;
    rest = b.rest ∙ a.rest;
  }

  -- the first letter that waits was taken out
  module _ (s mid : Seat Node C) (out_is : mid ≡ record s { node = record s.node { outbox = mid.node.outbox }; waits = None }) where
    left_is : waiting mid ≡ mid.node.outbox
    left_is = ap (λ (w : Seat Node C). option_to_list w.waits ++ mid.node.outbox) out_is

    side_is : mid.side ≡ s.side
    side_is = ap (λ (w : Seat Node C). w.side) out_is

    pub step_sent : (l : Letter) (back : Option Letter) (side : List (Towards C)) → waiting s ≡ l ∷ waiting mid → Handed puts gives pair l back mid.side side → Step puts gives pair None s (record mid { waits = back; side = side })
    step_sent l back side letters h = record {
      out = λ m. out_one l back mid.node.outbox m (towards puts mid.side m) (towards puts side m) h.same (h.put_now m) ∙ (ap (λ (w : List (Towards C)). towards puts w m ++ bound m (l ∷ mid.node.outbox)) side_is ∙ ap (λ (w : List Letter). towards puts s.side m ++ bound m w) (sym (letters ∙ ap (λ (w : List Letter). l ∷ w) left_is)));
      into = λ m. h.given_now m ∙ (ap (λ (w : List (Towards C)). towards gives w m) side_is ∙ if_none (m == mid.source) (towards gives s.side m));
      side = subst (λ (w : List (Towards C)). SameSide pair w side) side_is h.side;
      node = ap (λ (w : Seat Node C). w.node) out_is;
      rest = ap (λ (w : Seat Node C). w.rest) out_is;
    }

    -- where none waited
    pub step_left : waiting s ≡ waiting mid → Step puts gives pair None s mid
    step_left letters = record {
      out = λ m. ap (λ (w : List (Towards C)). towards puts w m ++ bound m (waiting mid)) side_is ∙ ap (λ (w : List Letter). towards puts s.side m ++ bound m w) (sym letters);
      into = λ m. ap (λ (w : List (Towards C)). towards gives w m) side_is ∙ if_none (m == mid.source) (towards gives s.side m);
      side = subst (λ (w : List (Towards C)). SameSide pair s.side w) (sym side_is) (side_same pair s.side);
      node = ap (λ (w : Seat Node C). w.node) out_is;
      rest = ap (λ (w : Seat Node C). w.rest) out_is;
    }

    pub step_held : (first : Option Letter) → waiting s ≡ option_to_list first ++ waiting mid → Step puts gives pair None s (record mid { waits = first })
    step_held first letters = record {
      out = λ m. ap (λ (w : List (Towards C)). towards puts w m ++ bound m (option_to_list first ++ mid.node.outbox)) side_is ∙ ap (λ (w : List Letter). towards puts s.side m ++ bound m w) (sym (letters ∙ ap (λ (w : List Letter). option_to_list first ++ w) left_is));
      into = λ m. ap (λ (w : List (Towards C)). towards gives w m) side_is ∙ if_none (m == mid.source) (towards gives s.side m);
      side = subst (λ (w : List (Towards C)). SameSide pair s.side w) (sym side_is) (side_same pair s.side);
      node = ap (λ (w : Seat Node C). w.node) out_is;
      rest = ap (λ (w : Seat Node C). w.rest) out_is;
    }

    pub none_held : (first : Option Letter) → waiting s ≡ option_to_list first ++ waiting mid → IfNone first (waiting s ≡ []) → first ≡ None → option_to_list first ++ mid.node.outbox ≡ []
    none_held None letters none e = sym left_is ∙ (sym letters ∙ none)
    none_held (Some l) letters none e = absurd cc

  -- a letter was looked for
  module _ (known : C → ℕ) where
    pub took_one : (l : Letter) (s : Seat Node C) (source : ℕ) (side : List (Towards C)) → Looked puts gives pair source (Some l) s.side side → LookTells known source (Some l) s.side side → Took puts gives pair known source (Some l) s (record s { side = side; source = source })
    took_one l s source side k t = record {
      step = record { out = λ m. ap (λ (w : List Letter). w ++ bound m (waiting s)) (k.put_now m); into = λ m. k.given_now m; side = k.side; node = refl; rest = refl };
      tells = t;
      put_same = k.put_now;
      waits_same = refl;
      none = λ e. absurd cc;
    }

    pub took_none : (s : Seat Node C) (source : ℕ) (side : List (Towards C)) → Looked puts gives pair source None s.side side → LookTells known source None s.side side → Took puts gives pair known source None s (record s { side = side })
    took_none s source side k t = record {
      step = record {
        out = λ m. ap (λ (w : List Letter). w ++ bound m (waiting s)) (k.put_now m);
        into = λ m. k.given_now m ∙ (sym (if_none (m == source) (towards gives s.side m)) ∙ if_none (m == s.source) (towards gives s.side m));
        side = k.side;
        node = refl;
        rest = refl;
      };
      tells = t;
      put_same = k.put_now;
      waits_same = refl;
      none = λ e. refl;
    }

  module _ (policy : Policy) where
    by_rest : (a : Rest) (inbox : Option Letter) (s t u v : Seat Node C) → Step puts gives pair None s t → Step puts gives pair inbox t u → After policy puts gives a inbox u v → Turns policy puts gives a s v
    by_rest rested.Full inbox s t u v a b k = λ plan room n r. k plan room n (lives_step policy plan puts gives pair room n inbox t u b (lives_step policy plan puts gives pair room n None s t a r.lives))
    by_rest rested.Busy inbox s t u v a b k = λ plan room n r. k plan room n (lives_step policy plan puts gives pair room n inbox t u b (lives_step policy plan puts gives pair room n None s t a r.lives))
    by_rest rested.Idle inbox s t u v a b k = λ plan room n r. k plan room n (lives_step policy plan puts gives pair room n inbox t u b (lives_step policy plan puts gives pair room n None s t a r.lives))
    by_rest rested.Over inbox s t u v a b k = λ plan room n r. k plan room n (lives_step policy plan puts gives pair room n inbox t u b (lives_step policy plan puts gives pair room n None s t a r.lives))

    pub went_round : (answer : Rest) (inbox : Option Letter) (s t u v : Seat Node C) → Step puts gives pair None s t → Step puts gives pair inbox t u → Made policy answer inbox u v → Went policy puts gives pair answer s v
    went_round answer inbox s t u v a b k = record {
      turns = by_rest answer inbox s t u v a b (made_after policy puts gives answer inbox u v k);
      rest = ap (λ (w : Seat Node C). w.rest) k.same;
      side = subst (λ (w : List (Towards C)). SameSide pair s.side w) (sym (ap (λ (w : Seat Node C). w.side) k.same)) (side_then pair s.side t.side u.side a.side b.side);
    }

  pub made_turn : (policy : Policy) (answer : Rest) (turned : Turned) (inbox : Option Letter) (s : Seat Node C) (new : Node) → answer ≡ rest_of turned → length new.journal.events ≤ new.journal.room → TurnsAs policy turned inbox s.node new → Made policy answer inbox s (record s { node = new; rest = answer })
  made_turn policy answer turned inbox s new e fits t = record { turned = turned; answer_is = e; turns = t; same = refl; fits = fits }
