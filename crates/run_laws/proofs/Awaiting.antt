-- A letter lies on a link where one was posted that was not taken.
use Rattle.std.proofs.Common.{◌≡◌, ℕ, List, [], ◌∷◌, ◌++◌, sym, ap, ◌∙◌, append_assoc}
use Rattle.std.proofs.lemmas.List.{append-nil, append_cancel_left}
use Rattle.protocol.specs.Ops.{Ops}
use Rattle.protocol.specs.Notes.{Post, Turn}
use Rattle.protocol.specs.Cluster.{World, Reached, for_link, at_front}
use Rattle.protocol.specs.Rests.{Awaits}
use Rattle.run_laws.specs.Carried.{posted_on, taken_on}
use Rattle.run_laws.specs.Due.{Same, Untaken}

module _ (O : Ops) where
  pub lies : (h : List (Turn O)) (w : World O) → Reached O h w → (a b : ℕ) → taken_on O a b h ++ w.links a b ≡ posted_on O a b h
  lies [] w r a b = r.links a b
  lies (t ∷ h) v r a b =
      let front = at_front O t.taken a b in
      let rest = r.2.rest a b in
      ap (λ (x : List (Post O)). (taken_on O a b h ++ front) ++ x) (r.2.posts a b)
      ∙ (sym (append_assoc (taken_on O a b h ++ front) rest (for_link O a b t.posted))
      ∙ ap (λ (x : List (Post O)). x ++ for_link O a b t.posted) (append_assoc (taken_on O a b h) front rest ∙ (ap (λ (x : List (Post O)). taken_on O a b h ++ x) (sym (r.2.takes a b)) ∙ lies h r.0 r.1 a b)))

  pub awaits_untaken : (h : List (Turn O)) (w : World O) → Reached O h w → (n : ℕ) → Same (Awaits O n w) (Untaken O n h)
  awaits_untaken h w r n = (
    λ x. (x.0, λ e. x.1 (append_cancel_left (taken_on O x.0 n h) (w.links x.0 n) [] (lies h w r x.0 n ∙ (sym e ∙ sym (append-nil (taken_on O x.0 n h)))))),
    λ x. (x.0, λ e. x.1 (sym (append-nil (taken_on O x.0 n h)) ∙ (ap (λ (k : List (Post O)). taken_on O x.0 n h ++ k) (sym e) ∙ lies h w r x.0 n))),
  )
