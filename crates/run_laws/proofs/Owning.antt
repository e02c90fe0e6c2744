-- Each node owns the contexts of the processes that it holds.
use Rattle.std.proofs.Common.{◌≡◌, ◌≢◌, ℕ, ◌==◌, Bool, true, false, cond, Option, Some, None, List, [], ◌∷◌, refl, sym, ap, ◌∙◌, subst}
use Rattle.std.specs.Prelude.{option_map}
use Rattle.protocol.specs.Ops.{Ops, Sound}
use Rattle.protocol.specs.Notes.{Turn, Slot, Context, context, Running, Waiting, Asking}
use Rattle.protocol.specs.Spots.{Spot, Nowhere, Runs, Calls, Holds, Pauses, Answered, Asks, Granted, Denied, Travels, InReply, Ended, site, kept_at}
use Rattle.protocol.specs.Cluster.{World, events}
use Rattle.protocol.proofs.Talk.{numbers_same}
use Rattle.protocol.proofs.Process.{cond_here}
use Rattle.protocol.proofs.Stand.{Stands, Path}
use Rattle.run_laws.specs.Machine.{MachineState}
use Rattle.run_laws.specs.Facts.{Node, Facts, facts}
use Rattle.run_laws.specs.Owned.{Owned}
use Rattle.run_laws.proofs.Facts.{facts_of, path_tells}
use Rattle.run_laws.proofs.Replay.{user_of}
use Rattle.run_laws.proofs.Played.{Agrees}
use Rattle.run_laws.proofs.Sleeps.{Sleeps, Since, path_sleeps}

node_same : (a b : ℕ) → Node a ∷ [] ≡ Node b ∷ [] → a ≡ b
node_same a b e = cc

module _ (O : Ops) (S : Sound O) where
  kept_place : (s : Spot O) (c : Context O) → kept_at O s ≡ Some c → (facts_of O S s).places ≡ Node (site O s) ∷ []
  kept_place Nowhere c e = absurd cc
  kept_place (Runs m b) c e = refl
  kept_place (Calls m b k r) c e = refl
  kept_place (Holds m b k r) c e = refl
  kept_place (Pauses m b k r) c e = refl
  kept_place (Answered m b k d x y) c e = refl
  kept_place (Asks m b to l need) c e = refl
  kept_place (Granted m b to l need) c e = refl
  kept_place (Denied m b to l need free) c e = refl
  kept_place (Travels a z b l need) c e = absurd cc
  kept_place (InReply q u) c e = absurd cc
  kept_place (Ended u) c e = absurd cc

  place_kept : (n : ℕ) (s : Spot O) → (facts_of O S s).places ≡ Node n ∷ [] → (c : Context O) × (kept_at O s ≡ Some c) × (site O s ≡ n)
  place_kept n Nowhere e = absurd cc
  place_kept n (Runs m b) e = (context O b Running, refl, node_same m n e)
  place_kept n (Calls m b k r) e = (context O b (Waiting false k), refl, node_same m n e)
  place_kept n (Holds m b k r) e = (context O b (Waiting false k), refl, node_same m n e)
  place_kept n (Pauses m b k r) e = (context O b (Waiting true k), refl, node_same m n e)
  place_kept n (Answered m b k d x y) e = (context O b (Waiting x k), refl, node_same m n e)
  place_kept n (Asks m b to l need) e = (context O b (Asking to l), refl, node_same m n e)
  place_kept n (Granted m b to l need) e = (context O b (Asking to l), refl, node_same m n e)
  place_kept n (Denied m b to l need free) e = (context O b (Asking to l), refl, node_same m n e)
  place_kept n (Travels a z b l need) e = absurd cc
  place_kept n (InReply q u) e = absurd cc
  place_kept n (Ended u) e = absurd cc

  user_in : (c : Context O) (o : Option (Context O)) → o ≡ Some c → option_map (λ (x : Context O). x.body.user) o ≡ Some c.body.user
  user_in c o e = ap (option_map (λ (x : Context O). x.body.user)) e

  -- a context that was not served has the machine's user state
  user_same : (s : Spot O) (c : Context O) → kept_at O s ≡ Some c → (facts_of O S s).served ≡ 0 → user_of O S s ≡ Some c.body.user
  user_same Nowhere c e f = absurd cc
  user_same (Runs m b) c e f = user_in c (Some (context O b Running)) e
  user_same (Calls m b k r) c e f = user_in c (Some (context O b (Waiting false k))) e
  user_same (Holds m b k r) c e f = user_in c (Some (context O b (Waiting false k))) e
  user_same (Pauses m b k r) c e f = user_in c (Some (context O b (Waiting true k))) e
  user_same (Answered m b k d x y) c e f = absurd cc
  user_same (Asks m b to l need) c e f = user_in c (Some (context O b (Asking to l))) e
  user_same (Granted m b to l need) c e f = user_in c (Some (context O b (Asking to l))) e
  user_same (Denied m b to l need free) c e f = user_in c (Some (context O b (Asking to l))) e
  user_same (Travels a z b l need) c e f = absurd cc
  user_same (InReply q u) c e f = absurd cc
  user_same (Ended u) c e f = absurd cc

  -- and one that was has that of its `sent` or `heed`
  user_before : (p : ℕ) (P : O.User → Type 0) (s : Spot O) (c : Context O) → kept_at O s ≡ Some c → ((facts_of O S s).served ≢ 0) → Sleeps O S p P s → P c.body.user
  user_before p P Nowhere c e f x = absurd (f refl)
  user_before p P (Runs m b) c e f x = absurd (f refl)
  user_before p P (Calls m b k r) c e f x = absurd (f refl)
  user_before p P (Holds m b k r) c e f x = absurd (f refl)
  user_before p P (Pauses m b k r) c e f x = absurd (f refl)
  user_before p P (Answered m b k d z y) c e f x = let same : b.user ≡ c.body.user = some_user b.user c.body.user (user_in c (Some (context O b (Waiting z k))) e) in subst P same x.0
    where
      some_user : (u v : O.User) → Some u ≡ Some v → u ≡ v
      some_user u v e = cc
  user_before p P (Asks m b to l need) c e f x = absurd (f refl)
  user_before p P (Granted m b to l need) c e f x = absurd (f refl)
  user_before p P (Denied m b to l need free) c e f x = absurd (f refl)
  user_before p P (Travels a z b l need) c e f x = absurd (f refl)
  user_before p P (InReply q u) c e f x = absurd (f refl)
  user_before p P (Ended u) c e f x = absurd (f refl)

  at_site : (s : Spot O) (n : ℕ) (c : Context O) → cond (n == site O s) (kept_at O s) None ≡ Some c → (kept_at O s ≡ Some c) × (site O s ≡ n)
  at_site s n c h = go (n == site O s) refl h
    where
      go : (b : Bool) → (n == site O s) ≡ b → cond b (kept_at O s) None ≡ Some c → (kept_at O s ≡ Some c) × (site O s ≡ n)
      go true e h = (h, sym (numbers_same n (site O s) e))
      go false e h = absurd cc

  pub owned : (h : List (Turn O)) (sp : ℕ → Spot O) (w : World O) → Path O S h sp w → Stands O S sp w → (m : MachineState O) → Agrees O S h sp (w.nodes 0) m → Owned O (events O h) w m
  owned h sp w path st m agrees = record {
    holder = λ n p. (
      λ x. (let k = here n p x.0 x.1 in told p ∙ (kept_place (sp p) x.0 k.0 ∙ ap (λ (i : ℕ). Node i ∷ []) k.1)),
      λ e. (let k = place_kept n (sp p) (sym (told p) ∙ e) in (k.0, ap (λ (s : Slot O). s.context) ((st.at p).slots n) ∙ (ap (λ (i : ℕ). cond (n == i) (kept_at O (sp p)) None) k.2 ∙ (cond_here n (kept_at O (sp p)) None ∙ k.1)))),
    );
    same = λ n p c e f. agrees.users p ∙ user_same (sp p) c (here n p c e).0 (sym (ap (λ (k : Facts). k.served) (path_tells O S h sp w path p)) ∙ f);
    before = λ n p c e f. user_before p (Since O S (events O h) p) (sp p) c (here n p c e).0 (λ z. f (ap (λ (k : Facts). k.served) (path_tells O S h sp w path p) ∙ z)) (path_sleeps O S h sp w path p);
  }
    where
      told : (p : ℕ) → (facts p (events O h)).places ≡ (facts_of O S (sp p)).places
      told p = ap (λ (k : Facts). k.places) (path_tells O S h sp w path p)

      here : (n p : ℕ) (c : Context O) → ((w.nodes n).slots p).context ≡ Some c → (kept_at O (sp p) ≡ Some c) × (site O (sp p) ≡ n)
      here n p c e = at_site (sp p) n c (sym (ap (λ (s : Slot O). s.context) ((st.at p).slots n)) ∙ e)
