-- The letters on links of which a process has at most one.
use Rattle.std.proofs.Common.{◌≡◌, ◌≢◌, ℕ, ◌==◌, ◌&&◌, Bool, true, false, cond, Option, Some, None, List, [], ◌∷◌, ◌++◌, refl, sym, ap, ◌∙◌, subst, arith}
use Rattle.std.proofs.lemmas.Bool.Decides.{nat_tests}
use Rattle.protocol.specs.Ops.{Ops}
use Rattle.protocol.specs.Notes.{Note, Call, Pause, Reply, Poke, Half, Go, NotHere, Ask, Allow, Deny, Move, Landed, NoMove, Post, Way, way, Believed}
use Rattle.protocol.specs.Spots.{mine}
use Rattle.protocol.specs.Cluster.{for_link, at_front}
use Rattle.protocol.specs.Home.{pokes, line_closed}

pub same_numbers : (a b : ℕ) → a ≡ b → (a == b) ≡ true
same_numbers a b e = grind (arith, nat_tests)

pub other_numbers : (a b : ℕ) → a ≢ b → (a == b) ≡ false
other_numbers a b e = grind (arith, nat_tests)

pub numbers_same : (a b : ℕ) → (a == b) ≡ true → a ≡ b
numbers_same a b e = grind (arith, nat_tests)

pub numbers_other : (a b : ℕ) → (a == b) ≡ false → a ≢ b
numbers_other a b e x = let z : true ≡ false = sym (same_numbers a b x) ∙ e in cc

module _ (O : Ops) where
  abbrev pub on_link : Option (Way O) → ℕ → ℕ → List (Note O)
  on_link None a b = []
  on_link (Some w) a b = cond ((a == w.from) && (b == w.to)) (w.note ∷ []) []

  abbrev pub talk : ℕ → List (Post O) → List (Note O)
  talk p [] = []
  talk p (l ∷ ls) = cond (mine O p l.note) (l.note ∷ talk p ls) (talk p ls)

  pub talk-append : (p : ℕ) (xs ys : List (Post O)) → talk p (xs ++ ys) ≡ talk p xs ++ talk p ys
  talk-append p [] ys = refl
  talk-append p (l ∷ ls) ys = go (mine O p l.note) (talk-append p ls ys)
    where
      go : (b : Bool) → talk p (ls ++ ys) ≡ talk p ls ++ talk p ys → cond b (l.note ∷ talk p (ls ++ ys)) (talk p (ls ++ ys)) ≡ cond b (l.note ∷ talk p ls) (talk p ls) ++ talk p ys
      go true e = ap (λ (w : List (Note O)). l.note ∷ w) e
      go false e = e

  -- the note is of this process, or of a kind that is loose
  abbrev pub Of : ℕ → Note O → Type 0
  Of p (Call q r) = q ≡ p
  Of p (Pause q r) = q ≡ p
  Of p (Reply q d) = q ≡ p
  Of p (Poke q) = Unit {0}
  Of p (Half places) = Unit {0}
  Of p (Go q to hops line) = Unit {0}
  Of p (NotHere q to hops line) = Unit {0}
  Of p (Ask q need) = q ≡ p
  Of p (Allow q) = q ≡ p
  Of p (Deny q need free) = q ≡ p
  Of p (Move q u hops line) = q ≡ p
  Of p (Landed q source hops line) = Unit {0}
  Of p (NoMove line) = Unit {0}

  abbrev pub AllOf : ℕ → List (Post O) → Type 0
  AllOf p [] = Unit {0}
  AllOf p (l ∷ ls) = Of p l.note × AllOf p ls

  abbrev pub TakenOf : ℕ → Option (Post O) → Type 0
  TakenOf p None = Unit {0}
  TakenOf p (Some l) = Of p l.note

  apart : (p q r : ℕ) → r ≡ p → q ≢ p → (r == q) ≡ false
  apart p q r e ne = other_numbers r q (λ x. ne (sym x ∙ e))

  pub of_other : (p q : ℕ) (m : Note O) → Of p m → q ≢ p → mine O q m ≡ false
  of_other p q (Call r x) o ne = apart p q r o ne
  of_other p q (Pause r x) o ne = apart p q r o ne
  of_other p q (Reply r d) o ne = apart p q r o ne
  of_other p q (Poke r) o ne = refl
  of_other p q (Half places) o ne = refl
  of_other p q (Go r to hops line) o ne = refl
  of_other p q (NotHere r to hops line) o ne = refl
  of_other p q (Ask r need) o ne = apart p q r o ne
  of_other p q (Allow r) o ne = apart p q r o ne
  of_other p q (Deny r need free) o ne = apart p q r o ne
  of_other p q (Move r u hops line) o ne = apart p q r o ne
  of_other p q (Landed r source hops line) o ne = refl
  of_other p q (NoMove line) o ne = refl

  -- letters that this process does not hear
  abbrev pub Loose : ℕ → List (Post O) → Type 0
  Loose p [] = Unit {0}
  Loose p (l ∷ ls) = (mine O p l.note ≡ false) × Loose p ls

  pub all_other : (p q : ℕ) (ls : List (Post O)) → AllOf p ls → q ≢ p → Loose q ls
  all_other p q [] o ne = tt
  all_other p q (l ∷ ls) o ne = (of_other p q l.note o.0 ne, all_other p q ls o.1 ne)

  pub pokes_of : (p s : ℕ) (believed : ℕ → Believed) (qs : List ℕ) → AllOf p (pokes O s believed qs)
  pokes_of p s believed [] = tt
  pokes_of p s believed (q ∷ qs) = (tt, pokes_of p s believed qs)

  pub pokes_loose : (p s : ℕ) (believed : ℕ → Believed) (qs : List ℕ) → Loose p (pokes O s believed qs)
  pokes_loose p s believed [] = tt
  pokes_loose p s believed (q ∷ qs) = (refl, pokes_loose p s believed qs)

  pub closed_of : (p n s : ℕ) (line : Option ℕ) → AllOf p (line_closed O n s line)
  closed_of p n s None = tt
  closed_of p n s (Some line) = (tt, tt)

  pub closed_loose : (p n s : ℕ) (line : Option ℕ) → Loose p (line_closed O n s line)
  closed_loose p n s None = tt
  closed_loose p n s (Some line) = (refl, tt)

  pub talk_loose : (p a b : ℕ) (ls : List (Post O)) → Loose p ls → talk p (for_link O a b ls) ≡ []
  talk_loose p a b [] k = refl
  talk_loose p a b (l ∷ ls) k = go ((a == l.from) && (b == l.to)) (talk_loose p a b ls k.1)
    where
      go : (x : Bool) → talk p (for_link O a b ls) ≡ [] → talk p (cond x (l ∷ for_link O a b ls) (for_link O a b ls)) ≡ []
      go true e = rw k.0 e
      go false e = e

  pub talk_own : (p a b : ℕ) (l : Post O) (ls : List (Post O)) → mine O p l.note ≡ true → Loose p ls → talk p (for_link O a b (l ∷ ls)) ≡ on_link (Some (way O l.from l.to l.note)) a b
  talk_own p a b l ls h k = go ((a == l.from) && (b == l.to)) (talk_loose p a b ls k)
    where
      go : (x : Bool) → talk p (for_link O a b ls) ≡ [] → talk p (cond x (l ∷ for_link O a b ls) (for_link O a b ls)) ≡ cond x (l.note ∷ []) []
      go true e = rw h (ap (λ (w : List (Note O)). l.note ∷ w) e)
      go false e = e

  -- after one that this process does not hear
  pub talk_second : (p a b : ℕ) (l m : Post O) (ls : List (Post O)) → mine O p l.note ≡ false → mine O p m.note ≡ true → Loose p ls → talk p (for_link O a b (l ∷ m ∷ ls)) ≡ on_link (Some (way O m.from m.to m.note)) a b
  talk_second p a b l m ls h g k = go ((a == l.from) && (b == l.to)) (talk_own p a b m ls g k)
    where
      go : (x : Bool) → talk p (for_link O a b (m ∷ ls)) ≡ on_link (Some (way O m.from m.to m.note)) a b → talk p (cond x (l ∷ for_link O a b (m ∷ ls)) (for_link O a b (m ∷ ls))) ≡ on_link (Some (way O m.from m.to m.note)) a b
      go true e = rw h e
      go false e = e

  pub heard_own : (p a b : ℕ) (l : Post O) → mine O p l.note ≡ true → talk p (at_front O (Some l) a b) ≡ on_link (Some (way O l.from l.to l.note)) a b
  heard_own p a b l h = go ((a == l.from) && (b == l.to))
    where
      go : (x : Bool) → talk p (cond x (l ∷ []) []) ≡ cond x (l.note ∷ []) []
      go true = rw h refl
      go false = refl

  pub heard_loose : (p a b : ℕ) (l : Post O) → mine O p l.note ≡ false → talk p (at_front O (Some l) a b) ≡ []
  heard_loose p a b l h = go ((a == l.from) && (b == l.to))
    where
      go : (x : Bool) → talk p (cond x (l ∷ []) []) ≡ []
      go true = rw h refl
      go false = refl

  pub taken_other : (p q a b : ℕ) (o : Option (Post O)) → TakenOf p o → q ≢ p → talk q (at_front O o a b) ≡ []
  taken_other p q a b None k ne = refl
  taken_other p q a b (Some l) k ne = heard_loose q a b l (of_other p q l.note k ne)

  pub same_way : (v w : Way O) → v.from ≡ w.from → v.to ≡ w.to → v.note ≡ w.note → v ≡ w
  same_way v w a b m = ap (λ (k : ℕ). way O k v.to v.note) a ∙ (ap (λ (k : ℕ). way O w.from k v.note) b ∙ ap (λ (k : Note O). way O w.from w.to k) m)

  off_link : (w l : Way O) (rest : List (Note O)) (a b : ℕ) (p q : Bool) → w ≡ way O l.from l.to l.note → (a == l.from) ≡ p → (b == l.to) ≡ q → (p && q) ≡ false
      → cond ((a == w.from) && (b == w.to)) (w.note ∷ []) [] ≡ cond ((a == l.from) && (b == l.to)) (l.note ∷ []) [] ++ rest → rest ≡ []
  off_link w l rest a b p q e ep eq off h =
      let f : cond ((a == l.from) && (b == l.to)) (l.note ∷ []) [] ≡ cond ((a == l.from) && (b == l.to)) (l.note ∷ []) [] ++ rest = subst (λ (k : Way O). cond ((a == k.from) && (b == k.to)) (k.note ∷ []) [] ≡ cond ((a == l.from) && (b == l.to)) (l.note ∷ []) [] ++ rest) e h in
      let test : ((a == l.from) && (b == l.to)) ≡ false = rw (ep, eq) off in
      sym (subst (λ (k : Bool). cond k (l.note ∷ []) [] ≡ cond k (l.note ∷ []) [] ++ rest) test f)

  -- of a process whose one letter is o, the letter that is taken is o, and then none is left
  pub taken_whole : (o : Option (Way O)) (l : Way O) (rest : ℕ → ℕ → List (Note O)) → ((a b : ℕ) → on_link o a b ≡ cond ((a == l.from) && (b == l.to)) (l.note ∷ []) [] ++ rest a b)
      → (o ≡ Some (way O l.from l.to l.note)) × ((a b : ℕ) → rest a b ≡ [])
  taken_whole None l rest h =
      absurd (none_here (h l.from l.to) (same_numbers l.from l.from refl) (same_numbers l.to l.to refl))
    where
      none_here : [] ≡ cond ((l.from == l.from) && (l.to == l.to)) (l.note ∷ []) [] ++ rest l.from l.to → (l.from == l.from) ≡ true → (l.to == l.to) ≡ true → ⊥
      none_here e x y = let e2 : [] ≡ l.note ∷ rest l.from l.to = rw (x, y) at e in cc
  taken_whole (Some w) l rest h =
      let x = same_numbers l.from l.from refl in
      let y = same_numbers l.to l.to refl in
      let e : cond ((l.from == w.from) && (l.to == w.to)) (w.note ∷ []) [] ≡ l.note ∷ rest l.from l.to = rw (x, y) at (h l.from l.to) in
      let same = one w (l.from == w.from) (l.to == w.to) refl refl e in
      (ap (λ (k : Way O). Some k) same.0, λ a b. others same.0 a b (a == l.from) (b == l.to) refl refl same.1)
    where
      one : (w : Way O) (p q : Bool) → (l.from == w.from) ≡ p → (l.to == w.to) ≡ q → cond (p && q) (w.note ∷ []) [] ≡ l.note ∷ rest l.from l.to → (w ≡ way O l.from l.to l.note) × (rest l.from l.to ≡ [])
      one w true true ep eq e =
          let a : l.from ≡ w.from = numbers_same _ _ ep in
          let b : l.to ≡ w.to = numbers_same _ _ eq in
          let m : w.note ≡ l.note = cc in
          (same_way w (way O l.from l.to l.note) (sym a) (sym b) m, cc)
      one w true false ep eq e = absurd cc
      one w false true ep eq e = absurd cc
      one w false false ep eq e = absurd cc

      others : w ≡ way O l.from l.to l.note → (a b : ℕ) (p q : Bool) → (a == l.from) ≡ p → (b == l.to) ≡ q → rest l.from l.to ≡ [] → rest a b ≡ []
      others e a b true true ep eq none = ap (λ (k : ℕ). rest k b) (numbers_same a l.from ep) ∙ ap (λ (k : ℕ). rest l.from k) (numbers_same b l.to eq) ∙ none
      others e a b true false ep eq none = off_link w l (rest a b) a b true false e ep eq refl (h a b)
      others e a b false true ep eq none = off_link w l (rest a b) a b false true e ep eq refl (h a b)
      others e a b false false ep eq none = off_link w l (rest a b) a b false false e ep eq refl (h a b)
