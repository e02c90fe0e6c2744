-- What nodes did by themselves where none skipped a letter: their acts are turns.
use Rattle.std.proofs.Common.{◌≡◌, ℕ, ◌++◌, List, [], ◌∷◌, refl, sym, ap, ◌∙◌}
use Rattle.protocol.specs.Ops.{Ops}
use Rattle.protocol.specs.Deeds.{Noted}
use Rattle.protocol.specs.Notes.{Post, Turn, Local}
use Rattle.protocol.specs.Cluster.{World, for_link, at_front}
use Rattle.run_laws.specs.Carried.{Alone, Did, posted_on, taken_on, shown, recorded, NoneStrange}
use Rattle.run_laws.specs.Skipping.{Act, Made, Skipped, Lone, DidAll, all_posted, all_taken, journal, NoneSkipped}

module _ (O : Ops) where
  abbrev pub turns_of : List (Act O) → List (Turn O)
  turns_of [] = []
  turns_of (Made t ∷ before) = t ∷ turns_of before
  turns_of (Skipped a l ∷ before) = turns_of before

  pub turns_alone : (n : ℕ) (acts : List (Act O)) (l : Local O) → Lone O n acts l → NoneSkipped O acts → Alone O n (turns_of acts) l
  turns_alone n [] l r u = r
  turns_alone n (Made t ∷ before) l r u = (r.0, turns_alone n before r.0 r.1 u, r.2)
  turns_alone n (Skipped a m ∷ before) l r u = absurd u

  pub turns_posted : (a b : ℕ) (acts : List (Act O)) → NoneSkipped O acts → all_posted O a b acts ≡ posted_on O a b (turns_of acts)
  turns_posted a b [] u = refl
  turns_posted a b (Made t ∷ before) u = ap (λ (k : List (Post O)). k ++ for_link O a b t.posted) (turns_posted a b before u)
  turns_posted a b (Skipped c m ∷ before) u = absurd u

  pub turns_taken : (a b : ℕ) (acts : List (Act O)) → NoneSkipped O acts → all_taken O a b acts ≡ taken_on O a b (turns_of acts)
  turns_taken a b [] u = refl
  turns_taken a b (Made t ∷ before) u = ap (λ (k : List (Post O)). k ++ at_front O t.taken a b) (turns_taken a b before u)
  turns_taken a b (Skipped c m ∷ before) u = absurd u

  pub turns_shown : (acts : List (Act O)) → NoneSkipped O acts → journal O acts ≡ shown O (turns_of acts)
  turns_shown [] u = refl
  turns_shown (Made t ∷ before) u = ap (λ (k : List Noted). recorded t.event t.event.what ++ k) (turns_shown before u)
  turns_shown (Skipped c m ∷ before) u = absurd u

  pub did_unskipped : (acts : ℕ → List (Act O)) (w : World O) → DidAll O acts w → ((n : ℕ) → NoneSkipped O (acts n)) → Did O (λ n. turns_of (acts n)) w
  did_unskipped acts w did none = record {
    nodes = λ n. turns_alone n (acts n) (w.nodes n) (did.nodes n) (none n);
    links = λ a b. ap (λ (k : List (Post O)). k ++ w.links a b) (sym (turns_taken a b (acts b) (none b))) ∙ (did.links a b ∙ turns_posted a b (acts a) (none a));
  }
