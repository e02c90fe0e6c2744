-- Home asks again only where there is news, said of the events alone.
use Rattle.std.proofs.Common.{◌≡◌, ℕ, zero, suc, ◌+◌, ◌<◌, ◌≤◌, ◌==◌, ◌&&◌, ◌||◌, ◌⊎◌, Bool, true, false, not, cond, Option, Some, None, List, [], ◌∷◌, refl, sym, ap, ◌∙◌, subst, arith}
use Rattle.std.specs.Prelude.{nat_lt}
use Rattle.node_event.specs.declared.script.Order.{Order}
use Rattle.node_event.specs.declared.script.Order.TheVariants as order
use Rattle.protocol.specs.Ops.{Ops, Sound, IsMove, is_child}
use Rattle.protocol.specs.Deeds.{ForLine, Chosen, Input, Text, Finish, Nothing, Deed, Run, Kill, Bid, Unsent, Other, Steps, Sent, Heed, Held, Served, Got, Poked, Begin, Keep, Missed, Again, Allows, Denies, Depart, Stay, Land, Told, Refused, Closed, Gossips, Strange, Noted, pid_of, order_at}
use Rattle.protocol.specs.Notes.{Believed, Turn}
use Rattle.protocol.specs.Spots.{Spot, Nowhere}
use Rattle.protocol.specs.Does.{Does}
use Rattle.protocol.specs.Needs.{Names, Needs}
use Rattle.protocol.specs.Cluster.{World, events}
use Rattle.protocol.proofs.Talk.{numbers_same}
use Rattle.protocol.proofs.Quiet.{child_so, home_so}
use Rattle.protocol.proofs.Stand.{Stands, Step, Path, names_at}
use Rattle.run_laws.specs.Machine.{MachineState}
use Rattle.run_laws.specs.Schedule.{machine_at, With}
use Rattle.run_laws.specs.Facts.{Node, facts}
use Rattle.run_laws.specs.UnderWay.{moves}
use Rattle.run_laws.specs.Outcomes.{counted_if, outcome_line, outcomes}
use Rattle.run_laws.specs.Believed.{better, best_by, best_told, hops_of, most_hops, node_of, birth_by, parent_of, birth}
use Rattle.run_laws.specs.NewsLaw.{more_than, tells_more, asks_for, has_news, NewsAt, NewsLaw}
use Rattle.run_laws.specs.MoveLines.{MoveLineAt, MoveLines}
use Rattle.run_laws.proofs.Belief.{Pick, no_belief, BelievesBy, Believes, AskedBy, Asked}
use Rattle.run_laws.proofs.Moves.{Balanced, path_balanced}
use Rattle.run_laws.proofs.Reports.{path_reports, heard}
use Rattle.run_laws.proofs.News.{path_news}
use Rattle.run_laws.proofs.Plays.{at_replay, with_some}
use Rattle.run_laws.proofs.Played.{Agrees, path_played}
use Rattle.protocol.specs.Does.{Feeds, Ordered}
use Rattle.run_laws.proofs.Reports.{NotYet}
use Rattle.run_laws.proofs.Belief.{NewsLaw as Told_news, NewsEver}
use Rattle.run_laws.proofs.BestTold.{never_told, BestIs, best_place, best_hops, better_is}

uncounted : (b : Bool) (k : ℕ) → counted_if b k ≡ 0 → (b ≡ false) × (k ≡ 0)
uncounted true k e = absurd (omega (arith, e))
uncounted false k e = (refl, e)

child_is : (o : Option ℕ) (q : ℕ) → is_child o q ≡ true → o ≡ Some q
child_is None q e = absurd cc
child_is (Some c) q e = ap (λ (k : ℕ). Some k) (numbers_same c q e)

not_true : (x y : Bool) → (x ≡ true → ⊥) → y ≡ true → (not x && y) ≡ true
not_true true y deny e = absurd (deny refl)
not_true false y deny e = e

same_move : (p q to t : ℕ) → Some (order.Move p to) ≡ Some (order.Move q t) → p ≡ q
same_move p q to t e = cc

-- a landing is told: it is news, or it changes nothing
told_news : (x : Bool) (o : Option Believed) (at hops i : ℕ) (y : Bool) → i < hops_of (cond x (better (record { place = at; hops = hops }) o) o) → (i < hops_of o → y ≡ true) → ((x && more_than hops o) || y) ≡ true
told_news false o at hops i y less again = again less
told_news true None at hops i y less again = refl
told_news true (Some b) at hops i y less again = go (nat_lt b.hops hops) less
  where
    go : (z : Bool) → i < hops_of (cond z (Some (record { place = at; hops = hops })) (Some b)) → (z || y) ≡ true
    go true l = refl
    go false l = again l

module _ (O : Ops) (S : Sound O) where
  nowhere_told : (h : List (Turn O)) (sp : ℕ → Spot O) (w : World O) → Path O S h sp w → (q : ℕ) → sp q ≡ Nowhere → best_told q (events O h) ≡ None
  nowhere_told h sp w r q e = never_told q (events O h) (λ i. (path_reports O S h sp w r).counts q i ∙ ap heard (none i))
    where
      none : (i : ℕ) → (path_reports O S h sp w r).report q i ≡ NotYet
      none zero = (path_reports O S h sp w r).zero_not q
      none (suc i) =
          let b = subst (λ (k : Spot O). Balanced O S k (moves q (events O h))) e (path_balanced O S h sp w r q) in
          (path_reports O S h sp w r).later q (suc i) (omega (arith, b.hops))

  -- one event more of what home believes of q
  module _ (h : List (Turn O)) (w : World O) (t : Turn O) (v : World O) (sp next : ℕ → Spot O) (path : Path O S h sp w) (stands : Stands O S sp w) (st : Step O S sp w t next v) (q : ℕ) (b : Believed) where
    abbrev es : List Noted
    es = events O h

    abbrev Best_was : Believed → Type 0
    Best_was x = BestIs (best_told q es) (birth q es) x

    run_best : (p : ℕ) (x : Bool) → (q == p) ≡ x → sp p ≡ Nowhere → Pick x (b ≡ no_belief) (Believes q es b) → (Believes q es b → Best_was b) → BestIs (best_told q es) (cond x 0 (birth q es)) b
    run_best p false e none k again = again k
    run_best p true e none k again = subst (λ (o : Option Believed). BestIs o 0 b) (sym (nowhere_told h sp w path q (ap sp (numbers_same q p e) ∙ none))) (ap (λ (z : Believed). z.place) k, ap (λ (z : Believed). z.hops) k)

    fork_best : (p : ℕ) (x : Bool) → (x ≡ true → sp q ≡ Nowhere) → Pick x ((m : ℕ) × ((facts p es).places ≡ Node m ∷ []) × (b ≡ record { place = m; hops = 0 })) (Believes q es b) → (Believes q es b → Best_was b) → BestIs (best_told q es) (cond x (node_of (facts p es).places) (birth q es)) b
    fork_best p false none k again = again k
    fork_best p true none k again =
        subst (λ (o : Option Believed). BestIs o (node_of (facts p es).places) b) (sym (nowhere_told h sp w path q (none refl))) (ap (λ (z : Believed). z.place) k.2 ∙ sym (ap node_of k.1), ap (λ (z : Believed). z.hops) k.2)

    told_best : (p at hops : ℕ) (x : Bool) → 1 ≤ hops → Pick x ((was : Believed) × Believes q es was × (((was.hops < hops) × (b ≡ record { place = at; hops = hops })) ⊎ ((hops ≤ was.hops) × (b ≡ was)))) (Believes q es b) → ((y : Believed) → Believes q es y → Best_was y)
        → BestIs (cond x (better (record { place = at; hops = hops }) (best_told q es)) (best_told q es)) (birth q es) b
    told_best p at hops false one k again = again b k
    told_best p at hops true one k again = better_is (best_told q es) (birth q es) at hops k.0 b one (again k.0 k.1) k.2

    best_next : (what : Deed) → Names O what → Needs O what t.event.node (w.nodes t.event.node) (v.nodes t.event.node) (sp (pid_of what)) st.own → ((y : Believed) → Believes q es y → Best_was y) → BelievesBy what q es (Believes q es) b
        → BestIs (best_by what q (best_told q es)) (birth_by what q (node_of (facts (parent_of what) es).places) (birth q es)) b
    best_next (Run line i p) named d again k = run_best p (q == p) refl d.was k (again b)
    best_next (Kill line p g poked) named d again k = again b k
    best_next (Bid line p to) named d again k = again b k
    best_next (Unsent line p never) named d again k = again b k
    best_next (Other line input) named d again k = again b k
    best_next (Steps p x) named d again k = again b k
    best_next (Sent p x) named d again k = again b k
    best_next (Heed p) named d again k = again b k
    best_next (Held p x) named d again k = again b k
    best_next (Served p manner number value child signal ends more poked) named d again k = fork_best p (is_child child q) (λ x. unborn (child_is child q x)) k (again b)
      where
        unborn : child ≡ Some q → sp q ≡ Nowhere
        unborn e =
            let home = home_so O S t.event.node (w.nodes t.event.node) (v.nodes t.event.node) (sp p) st.own manner p number value child signal ends more poked d in
            let is : q ≡ O.count (w.nodes 0).kernel + 1 = child_so O S t.event.node (w.nodes t.event.node) (v.nodes t.event.node) (sp p) st.own manner p number value child signal ends more poked q e d ∙ ap (λ (k : ℕ). O.count (w.nodes k).kernel + 1) home in
            stands.unborn q (omega (arith, is))
    best_next (Got p child ended kept) named d again k = again b k
    best_next (Poked p used) named d again k = again b k
    best_next (Begin p to reason) named d again k = again b k
    best_next (Keep p to line) named d again k = again b k
    best_next (Missed p to line) named d again k = again b k
    best_next (Again p to place line) named d again k = again b k
    best_next (Allows p from need) named d again k = again b k
    best_next (Denies p from need free) named d again k = again b k
    best_next (Depart p to) named d again k = again b k
    best_next (Stay p to need free) named d again k = again b k
    best_next (Land p source) named d again k = again b k
    best_next (Told p at source hops line poked) named d again k = told_best p at hops (q == p) named k again
    best_next (Refused p to why line) named d again k = again b k
    best_next (Closed line) named d again k = again b k
    best_next (Gossips heard other) named d again k = again b k
    best_next (Strange p) named d again k = again b k

  believes_best : (h : List (Turn O)) (sp : ℕ → Spot O) (w : World O) → Path O S h sp w → (q : ℕ) (b : Believed) → Believes q (events O h) b → BestIs (best_told q (events O h)) (birth q (events O h)) b
  believes_best [] sp w r q b k = (ap (λ (z : Believed). z.place) k, ap (λ (z : Believed). z.hops) k)
  believes_best (t ∷ h) sp v r q b k = best_next h r.0 t v r.1 sp r.2 r.3 r.4 q b t.event.what (names_at O S r.0 t v r.4.goes r.1 r.3) r.4.needs (λ y z. believes_best h r.1 r.0 r.2 q y z) k

  no_feed : (input : Input) (p to : ℕ) → Feeds O input (order.Move p to) → ⊥
  no_feed (Text i) p to f = f
  no_feed Finish p to f = f
  no_feed Nothing p to f = f

  -- one event more of the news for a line
  module _ (h : List (Turn O)) (w : World O) (t : Turn O) (v : World O) (sp next : ℕ → Spot O) (path : Path O S h sp w) (stands : Stands O S sp w) (st : Step O S sp w t next v) (p line to i : ℕ) (move : IsMove O line p to) where
    abbrev es2 : List Noted
    es2 = events O h

    -- a line with another order is another line
    apart : (l : ℕ) (o : Order) (ps : List ℕ) → Ordered O l o ps (w.nodes t.event.node) (v.nodes t.event.node) → (o ≡ order.Move p to → ⊥) → (l == line) ≡ true → ⊥
    apart l o ps d deny e =
        let x : order_at line O.script ≡ Some o = subst (λ (k : ℕ). order_at k O.script ≡ Some o) (numbers_same l line e) (S.lines _ _ d.next) in
        deny (some_order o (order.Move p to) (sym x ∙ move))
      where
        some_order : (a b : Order) → Some a ≡ Some b → a ≡ b
        some_order a b z = cc

    asked_now : (l p2 t2 : ℕ) (x : Bool) → (l == line) ≡ x → IsMove O l p2 t2 → Pick x ((b : Believed) × Believes p2 es2 b × (i ≡ b.hops)) (Asked line es2 i) → i < most_hops p es2 → (Asked line es2 i → has_news p line es2 ≡ true) → (not x && has_news p line es2) ≡ true
    asked_now l p2 t2 false e m k less again = again k
    asked_now l p2 t2 true e m k less again =
        let same : p2 ≡ p = same_move p2 p t2 to (sym (subst (λ (z : ℕ). order_at z O.script ≡ Some (order.Move p2 t2)) (numbers_same l line e) m) ∙ move) in
        let best = best_hops (best_told p2 es2) (birth p2 es2) k.0 (believes_best h sp w path p2 k.0 k.1) in
        let hops : i ≡ most_hops p es2 = k.2 ∙ (best ∙ ap (λ (z : ℕ). most_hops z es2) same) in
        absurd (omega (arith, hops, less))

    news_next : (what : Deed) → Names O what → Does O what t.event.node (w.nodes t.event.node) t (v.nodes t.event.node) → is_child (outcome_line what (facts (pid_of what) es2)) line ≡ false → AskedBy what line es2 (Asked line es2) i → i < hops_of (best_by what p (best_told p es2)) → (Asked line es2 i → i < most_hops p es2 → has_news p line es2 ≡ true)
        → (tells_more what p es2 || (not (asks_for what line) && has_news p line es2)) ≡ true
    news_next (Run l j p2) named d none k less again = not_true (l == line) _ (apart l _ _ d.order (λ z. cc)) (again k less)
    news_next (Kill l p2 g poked) named d none k less again = not_true (l == line) _ (apart l _ _ d.order (λ z. cc)) (again k less)
    news_next (Bid l p2 t2) named d none k less again = asked_now l p2 t2 (l == line) refl (S.lines _ _ d.order.next) k less (λ z. again z less)
    news_next (Unsent l p2 never) named d none k less again = not_true (l == line) _ (λ z. (let y : true ≡ false = sym z ∙ none in cc)) (again k less)
    news_next (Other l input) named d none k less again = not_true (l == line) _ (apart l _ _ d.order (λ z. no_feed input p to (subst (λ (o : Order). Feeds O input o) z d.suits))) (again k less)
    news_next (Steps p2 x) named d none k less again = again k less
    news_next (Sent p2 x) named d none k less again = again k less
    news_next (Heed p2) named d none k less again = again k less
    news_next (Held p2 x) named d none k less again = again k less
    news_next (Served p2 manner number value child signal ends more poked) named d none k less again = again k less
    news_next (Got p2 child ended kept) named d none k less again = again k less
    news_next (Poked p2 used) named d none k less again = again k less
    news_next (Begin p2 t2 reason) named d none k less again = again k less
    news_next (Keep p2 t2 l) named d none k less again = again k less
    news_next (Missed p2 t2 l) named d none k less again = again k less
    news_next (Again p2 t2 place l) named d none k less again = asked_now l p2 t2 (l == line) refl named k less (λ z. again z less)
    news_next (Allows p2 from x) named d none k less again = again k less
    news_next (Denies p2 from x free) named d none k less again = again k less
    news_next (Depart p2 t2) named d none k less again = again k less
    news_next (Stay p2 t2 x free) named d none k less again = again k less
    news_next (Land p2 source) named d none k less again = again k less
    news_next (Told p2 at source hops l poked) named d none k less again = told_news (p == p2) (best_told p es2) at hops i _ less (λ z. again k z)
    news_next (Refused p2 t2 why l) named d none k less again = again k less
    news_next (Closed l) named d none k less again = again k less
    news_next (Gossips heard other) named d none k less again = again k less
    news_next (Strange p2) named d none k less again = again k less

  news_after : (h : List (Turn O)) (sp : ℕ → Spot O) (w : World O) → Path O S h sp w → (p line to i : ℕ) → IsMove O line p to → outcomes line (events O h) ≡ 0 → Asked line (events O h) i → i < most_hops p (events O h) → has_news p line (events O h) ≡ true
  news_after [] sp w r p line to i move none k less = absurd (omega (arith, less))
  news_after (t ∷ h) sp v r p line to i move none k less =
      let n = uncounted (is_child (outcome_line t.event.what (facts (pid_of t.event.what) (events O h))) line) (outcomes line (events O h)) none in
      news_next h r.0 t v r.1 sp r.2 r.3 r.4 p line to i move t.event.what (names_at O S r.0 t v r.4.goes r.1 r.3) r.4.goes.makes.does n.0 k less (λ z l. news_after h r.1 r.0 r.2 p line to i move n.1 z l)

  -- an `again`
  module _ (h : List (Turn O)) (w : World O) (t : Turn O) (v : World O) (sp next : ℕ → Spot O) (path : Path O S h sp w) (stands : Stands O S sp w) (st : Step O S sp w t next v) (m : MachineState O) (agrees : Agrees O S h sp (w.nodes 0) m) where
    again_at : (what : Deed) → Names O what → Does O what t.event.node (w.nodes t.event.node) t (v.nodes t.event.node) → Told_news what (events O h) → NewsAt O what (events O h) m
    again_at (Run line i p) named d k = tt
    again_at (Kill line p g poked) named d k = tt
    again_at (Bid line p to) named d k = tt
    again_at (Unsent line p never) named d k = tt
    again_at (Other line input) named d k = tt
    again_at (Steps p x) named d k = tt
    again_at (Sent p x) named d k = tt
    again_at (Heed p) named d k = tt
    again_at (Held p x) named d k = tt
    again_at (Served p manner number value child signal ends more poked) named d k = tt
    again_at (Got p child ended kept) named d k = tt
    again_at (Poked p used) named d k = tt
    again_at (Begin p to reason) named d k = tt
    again_at (Keep p to line) named d k = tt
    again_at (Missed p to line) named d k = tt
    again_at (Again p to place line) named d k =
        let best = believes_best h sp w path p k.belief k.believes in
        record {
          live = ap (λ (x : O.Kernel). O.live x p) (sym (ap (λ (x : ℕ). (w.nodes x).kernel) d.home ∙ agrees.kernel)) ∙ d.live;
          news = news_after h sp w path p line to k.told_then named k.open_line k.asked (subst (λ (x : ℕ). k.told_then < x) (best_hops (best_told p (events O h)) (birth p (events O h)) k.belief best) k.more);
          place_is = k.place_is ∙ best_place (best_told p (events O h)) (birth p (events O h)) k.belief best;
        }
    again_at (Allows p from need) named d k = tt
    again_at (Denies p from need free) named d k = tt
    again_at (Depart p to) named d k = tt
    again_at (Stay p to need free) named d k = tt
    again_at (Land p source) named d k = tt
    again_at (Told p at source hops line poked) named d k = tt
    again_at (Refused p to why line) named d k = tt
    again_at (Closed line) named d k = tt
    again_at (Gossips heard other) named d k = tt
    again_at (Strange p) named d k = tt

    line_at : (what : Deed) → Names O what → MoveLineAt O what
    line_at (Run line i p) named = tt
    line_at (Kill line p g poked) named = tt
    line_at (Bid line p to) named = tt
    line_at (Unsent line p never) named = tt
    line_at (Other line input) named = tt
    line_at (Steps p x) named = tt
    line_at (Sent p x) named = tt
    line_at (Heed p) named = tt
    line_at (Held p x) named = tt
    line_at (Served p manner number value child signal ends more poked) named = tt
    line_at (Got p child ended kept) named = tt
    line_at (Poked p used) named = tt
    line_at (Begin p to (ForLine line)) named = named
    line_at (Begin p to (Chosen heard other)) named = tt
    line_at (Keep p to line) named = named
    line_at (Missed p to line) named = named
    line_at (Again p to place line) named = named
    line_at (Allows p from need) named = tt
    line_at (Denies p from need free) named = tt
    line_at (Depart p to) named = tt
    line_at (Stay p to need free) named = tt
    line_at (Land p source) named = tt
    line_at (Told p at source hops line poked) named = tt
    line_at (Refused p to why line) named = named
    line_at (Closed line) named = tt
    line_at (Gossips heard other) named = tt
    line_at (Strange p) named = tt

  pub again_next : (h : List (Turn O)) (w : World O) (t : Turn O) (v : World O) (sp next : ℕ → Spot O) → Path O S h sp w → Stands O S sp w → Step O S sp w t next v → (m : MachineState O) → Agrees O S h sp (w.nodes 0) m → Told_news t.event.what (events O h) → With (machine_at O (events O h)) (λ x. NewsAt O t.event.what (events O h) x)
  again_next h w t v sp next path stands st m agrees k = with_some _ m _ (at_replay O (events O h) ∙ agrees.plays) (again_at h w t v sp next path stands st m agrees t.event.what (names_at O S w t v st.goes sp stands) st.goes.makes.does k)

  news_ever : (h : List (Turn O)) (sp : ℕ → Spot O) (w : World O) → Path O S h sp w → NewsEver (events O h) → NewsLaw O (events O h)
  news_ever [] sp w r k = tt
  news_ever (t ∷ h) sp v r k =
      let b = path_played O S h r.1 r.0 r.2 in
      (again_next h r.0 t v r.1 sp r.2 r.3 r.4 b.machine b.agrees k.0, news_ever h r.1 r.0 r.2 k.1)

  pub path_again : (h : List (Turn O)) (sp : ℕ → Spot O) (w : World O) → Path O S h sp w → NewsLaw O (events O h)
  path_again h sp w r = news_ever h sp w r (path_news O S h sp w r).1

  pub path_lines_of_moves : (h : List (Turn O)) (sp : ℕ → Spot O) (w : World O) → Path O S h sp w → MoveLines O (events O h)
  path_lines_of_moves [] sp w r = tt
  path_lines_of_moves (t ∷ h) sp v r =
      let b = path_played O S h r.1 r.0 r.2 in
      (line_at h r.0 t v r.1 sp r.2 r.3 r.4 b.machine b.agrees t.event.what (names_at O S r.0 t v r.4.goes r.1 r.3), path_lines_of_moves h r.1 r.0 r.2)
