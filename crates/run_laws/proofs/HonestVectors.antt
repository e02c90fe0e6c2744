-- Each entry of each vector is honest, and so is each of a half that is under way.
use Rattle.std.proofs.Common.{◌≡◌, ℕ, zero, suc, ◌+◌, ◌-◌, ◌==◌, ◌&&◌, inl, inr, Bool, true, false, cond, Option, Some, None, List, [], ◌∷◌, ◌++◌, refl, sym, ap, ◌∙◌}
use Rattle.std.proofs.lemmas.List.{append-nil}
use Rattle.protocol.specs.Ops.{Ops, sum_below, one_if}
use Rattle.protocol.specs.Gossip.{Entry, Gossip, Choice, renewed, first_places, told_places, woven, gossip_after, Talk, Silent, Stepping, Talking, talk_of}
use Rattle.protocol.specs.Deeds.{Chosen, Deed, Begin, Gossips, Noted}
use Rattle.run_laws.specs.Machine.{MachineState}
use Rattle.run_laws.specs.Schedule.{schedule, machine_or, the_machine}
use Rattle.run_laws.specs.Facts.{Place, facts}
use Rattle.run_laws.specs.Pages.{is_at, pages_of, pages_at, allowed}
use Rattle.run_laws.specs.Loads.{load_at, own_entry}
use Rattle.run_laws.specs.Vectors.{Exchange, in_front, behind_it, exchanged_by, exchanged}
use Rattle.run_laws.specs.Honest.{Honest, AllHonest, HonestLaw}
use Rattle.run_laws.proofs.Pages.{sum_same}

module _ (O : Ops) where
  all_later : (v : List (Option Entry)) (e : Noted) (es : List Noted) → AllHonest O v es → AllHonest O v (e ∷ es)
  all_later [] e es x = tt
  all_later (None ∷ v) e es x = all_later v e es x
  all_later (Some y ∷ v) e es x = (inr x.0, all_later v e es x.1)

  all_renewed : (own : Entry) (v : List (Option Entry)) (es : List Noted) → Honest O own es → AllHonest O v es → AllHonest O (renewed own v) es
  all_renewed own [] es o x = tt
  all_renewed own (None ∷ v) es o x = (o, x)
  all_renewed own (Some y ∷ v) es o x = (o, x.1)

  all_first : (k : ℕ) (v : List (Option Entry)) (es : List Noted) → AllHonest O v es → AllHonest O (first_places k v) es
  all_first zero v es x = tt
  all_first (suc k) [] es x = tt
  all_first (suc k) (None ∷ v) es x = all_first k v es x
  all_first (suc k) (Some y ∷ v) es x = (x.0, all_first k v es x.1)

  all_woven : (v z : List (Option Entry)) (es : List Noted) → AllHonest O v es → AllHonest O z es → AllHonest O (woven v z) es
  all_woven [] z es a b = tt
  all_woven (x ∷ v) [] es a b = tt
  all_woven (None ∷ v) (None ∷ z) es a b = all_woven v z es a b
  all_woven (None ∷ v) (Some y ∷ z) es a b = (b.0, all_woven v z es a b.1)
  all_woven (Some x ∷ v) (None ∷ z) es a b = (a.0, all_woven v z es a.1 b)
  all_woven (Some x ∷ v) (Some y ∷ z) es a b = (a.0, (b.0, all_woven v z es a.1 b.1))

  abbrev pub EachHonest : List (List (Option Entry)) → List Noted → Type 0
  EachHonest [] es = Unit {0}
  EachHonest (v ∷ vs) es = AllHonest O v es × EachHonest vs es

  each_later : (vs : List (List (Option Entry))) (e : Noted) (es : List Noted) → EachHonest vs es → EachHonest vs (e ∷ es)
  each_later [] e es x = tt
  each_later (v ∷ vs) e es x = (all_later v e es x.0, each_later vs e es x.1)

  each_push : (vs : List (List (Option Entry))) (v : List (Option Entry)) (es : List Noted) → EachHonest vs es → AllHonest O v es → EachHonest (vs ++ v ∷ []) es
  each_push [] v es x y = (y, tt)
  each_push (z ∷ vs) v es x y = (x.0, each_push vs v es x.1 y)

  front_honest : (vs : List (List (Option Entry))) (es : List Noted) → EachHonest vs es → AllHonest O (in_front vs) es
  front_honest [] es x = tt
  front_honest (v ∷ vs) es x = x.0

  behind_honest : (vs : List (List (Option Entry))) (es : List Noted) → EachHonest vs es → EachHonest (behind_it vs) es
  behind_honest [] es x = tt
  behind_honest (v ∷ vs) es x = x.1

  -- a half leaves the load and the free pages of each node
  abbrev Leaves : Noted → List Noted → Type 0
  Leaves e es = (n stamp : ℕ) → own_entry O n stamp es (the_machine O es) ≡ own_entry O n stamp (e ∷ es) (the_machine O (e ∷ es))

  leaves : (e : Noted) (es : List Noted) → schedule (e ∷ es) ≡ schedule es ++ [] → ((p : ℕ) → (facts p (e ∷ es)).places ≡ (facts p es).places) → ((n p : ℕ) → allowed n p (e ∷ es) ≡ allowed n p es) → Leaves e es
  leaves e es none places allows n stamp =
      sym (ap (own_entry O n stamp (e ∷ es)) same ∙ λ i. record { node = n; load = load i; free = O.cap - used i; stamp = stamp })
    where
      same : the_machine O (e ∷ es) ≡ the_machine O es
      same = ap (λ (k : List Rattle.run_laws.specs.Machine.Step). machine_or O (Rattle.run_laws.specs.Machine.play O k)) (none ∙ append-nil (schedule es))

      load : load_at O n (e ∷ es) (the_machine O es) ≡ load_at O n es (the_machine O es)
      load = sum_same (O.count (the_machine O es).kernel + 1) (λ p. one_if (is_at n (facts p (e ∷ es)).places)) (λ p. one_if (is_at n (facts p es).places)) (λ p. ap (λ (k : List Place). one_if (is_at n k)) (places p))

      used : sum_below (O.count (the_machine O es).kernel + 1) (λ p. pages_at O n (e ∷ es) (the_machine O es) p) ≡ sum_below (O.count (the_machine O es).kernel + 1) (λ p. pages_at O n es (the_machine O es) p)
      used = sum_same (O.count (the_machine O es).kernel + 1) (λ p. pages_at O n (e ∷ es) (the_machine O es) p) (λ p. pages_at O n es (the_machine O es) p) (λ p i. cond (is_at n ((places p) i)) (pages_of O ((the_machine O es).users p)) 0 + (allows n p) i)

  half_leaves : (stamp node : ℕ) (what : Deed) (heard : Bool) (other : ℕ) (chosen : Option Choice) (es : List Noted) → talk_of what ≡ Talking heard other chosen → Leaves (record { stamp = stamp; node = node; what = what }) es
  half_leaves stamp node (Begin p to (Chosen h o)) heard other chosen es e = leaves (record { stamp = stamp; node = node; what = Begin p to (Chosen h o) }) es refl (λ q. places q (q == p)) (λ n q. refl)
    where
      places : (q : ℕ) (b : Bool) → (cond b (record (facts q es) { asks = true; target = Some to; line = None }) (facts q es)).places ≡ (facts q es).places
      places q true = refl
      places q false = refl
  half_leaves stamp node (Gossips h o) heard other chosen es e = leaves (record { stamp = stamp; node = node; what = Gossips h o }) es refl (λ q. places q (q == 0)) (λ n q. refl)
    where
      places : (q : ℕ) (b : Bool) → (cond b (facts q es) (facts q es)).places ≡ (facts q es).places
      places q true = refl
      places q false = refl
  half_leaves stamp node what heard other chosen es e = absurd cc

  pub record HonestNow (es : List Noted) : Type 0 where
    pub nodes : (n : ℕ) → AllHonest O ((exchanged O es).nodes n).vector es
    pub unheard : (a b : ℕ) → EachHonest ((exchanged O es).unheard a b) es

  module _ (e : Noted) (es : List Noted) (was : HonestNow es) where
    abbrev n : ℕ
    n = e.node

    abbrev k : Exchange
    k = exchanged O es

    abbrev own : Entry
    own = own_entry O e.node e.stamp es (the_machine O es)

    later_nodes : (a : ℕ) → AllHonest O (k.nodes a).vector (e ∷ es)
    later_nodes a = all_later (k.nodes a).vector e es (was.nodes a)

    later_unheard : (a b : ℕ) → EachHonest (k.unheard a b) (e ∷ es)
    later_unheard a b = each_later (k.unheard a b) e es (was.unheard a b)

    by_node : (g : Gossip) (c : Bool) (a : ℕ) → AllHonest O g.vector (e ∷ es) → AllHonest O (cond c g (k.nodes a)).vector (e ∷ es)
    by_node g true a x = x
    by_node g false a x = later_nodes a

    by_link : (vs : List (List (Option Entry))) (c : Bool) (a b : ℕ) → EachHonest vs (e ∷ es) → EachHonest (cond c vs (k.unheard a b)) (e ∷ es)
    by_link vs true a b x = x
    by_link vs false a b x = later_unheard a b

    abbrev Next : Talk → Type 0
    Next talk = ((a : ℕ) → AllHonest O ((exchanged_by talk n own k).nodes a).vector (e ∷ es)) × ((a b : ℕ) → EachHonest ((exchanged_by talk n own k).unheard a b) (e ∷ es))

    honest_next : (talk : Talk) → ((heard : Bool) (other : ℕ) (chosen : Option Choice) → talk ≡ Talking heard other chosen → Honest O own (e ∷ es)) → Next talk
    honest_next Silent o = (later_nodes, later_unheard)
    honest_next Stepping o = (λ a. by_node _ (a == n) a (later_nodes n), later_unheard)
    honest_next (Talking false other chosen) o =
        let new = all_renewed own (k.nodes n).vector (e ∷ es) (o false other chosen refl) (later_nodes n) in
        (λ a. by_node (gossip_after false own [] (k.nodes n)) (a == n) a new, λ a b. by_link (k.unheard a b ++ told_places own (k.nodes n) ∷ []) ((a == n) && (b == other)) a b (each_push (k.unheard a b) (told_places own (k.nodes n)) (e ∷ es) (later_unheard a b) (all_first 4 (renewed own (k.nodes n).vector) (e ∷ es) new)))
    honest_next (Talking true other chosen) o =
        let new = all_renewed own (k.nodes n).vector (e ∷ es) (o true other chosen refl) (later_nodes n) in
        let told = all_first 4 (renewed own (k.nodes n).vector) (e ∷ es) new in
        (λ a. by_node (gossip_after true own (in_front (k.unheard other n)) (k.nodes n)) (a == n) a (all_woven (told_places own (k.nodes n)) (in_front (k.unheard other n)) (e ∷ es) told (front_honest (k.unheard other n) (e ∷ es) (later_unheard other n))), λ a b. by_link (behind_it (k.unheard a b)) ((a == other) && (b == n)) a b (behind_honest (k.unheard a b) (e ∷ es) (later_unheard a b)))

  honest_all : (es : List Noted) → HonestNow es
  honest_all [] = record { nodes = λ n. tt; unheard = λ a b. tt }
  honest_all (e ∷ es) = go (honest_next e es (honest_all es) (talk_of e.what) (λ heard other chosen is. inl (half_leaves e.stamp e.node e.what heard other chosen es is e.node e.stamp)))
    where
      go : ((a : ℕ) → AllHonest O ((exchanged_by (talk_of e.what) e.node (own_entry O e.node e.stamp es (the_machine O es)) (exchanged O es)).nodes a).vector (e ∷ es)) × ((a b : ℕ) → EachHonest ((exchanged_by (talk_of e.what) e.node (own_entry O e.node e.stamp es (the_machine O es)) (exchanged O es)).unheard a b) (e ∷ es)) → HonestNow (e ∷ es)
      go x = record { nodes = x.0; unheard = x.1 }

  -- whatever the events are: a vector has no entry but those that were told
  pub honest_law : (es : List Noted) → HonestLaw O es
  honest_law [] = tt
  honest_law (e ∷ es) = ((honest_all (e ∷ es)).nodes, honest_law es)
