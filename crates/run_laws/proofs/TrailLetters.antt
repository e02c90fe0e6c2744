-- What the letters of a move's errand tell of the places that their process was at, link by link.
use Rattle.std.proofs.Common.{◌≡◌, ℕ, ◌==◌, ◌&&◌, inl, inr, Bool, true, false, cond, Option, Some, None, List, [], ◌∷◌, ◌++◌, refl, ap, subst, arith}
use Rattle.protocol.specs.Ops.{Ops, Sound}
use Rattle.protocol.specs.Notes.{Note, Call, Pause, Reply, Poke, Half, Go, NotHere, Ask, Allow, Deny, Move, Landed, NoMove, Post, Believed}
use Rattle.protocol.specs.Spots.{Spot, Nowhere, mine}
use Rattle.protocol.specs.Cluster.{for_link}
use Rattle.protocol.specs.Home.{pokes, line_closed}
use Rattle.run_laws.specs.UnderWay.{Moves}
use Rattle.protocol.proofs.Talk.{same_numbers, other_numbers, talk}
use Rattle.run_laws.proofs.Hops.{Ok}

module _ (O : Ops) (S : Sound O) where
  -- what a letter of a move tells: its place and its number of landings
  abbrev pub NoteOk : (ℕ → Spot O) → (ℕ → Moves) → ℕ → ℕ → Note O → Type 0
  NoteOk sp mv a b (Call p r) = Unit {0}
  NoteOk sp mv a b (Pause p r) = Unit {0}
  NoteOk sp mv a b (Reply p d) = Unit {0}
  NoteOk sp mv a b (Poke p) = Unit {0}
  NoteOk sp mv a b (Half places) = Unit {0}
  NoteOk sp mv a b (Go p to h line) = Ok O S sp (sp p) (mv p) b h × (a ≡ 0)
  NoteOk sp mv a b (NotHere p to h line) = (x : ℕ) → Ok O S sp (sp p) (mv p) x h
  NoteOk sp mv a b (Ask p need) = Unit {0}
  NoteOk sp mv a b (Allow p) = Unit {0}
  NoteOk sp mv a b (Deny p need free) = Unit {0}
  NoteOk sp mv a b (Move p u h line) = Unit {0}
  NoteOk sp mv a b (Landed p source h line) = Ok O S sp (sp p) (mv p) a h
  NoteOk sp mv a b (NoMove line) = Unit {0}

  abbrev pub EachOk : (ℕ → Spot O) → (ℕ → Moves) → List (Post O) → Type 0
  EachOk sp mv [] = Unit {0}
  EachOk sp mv (l ∷ ls) = NoteOk sp mv l.from l.to l.note × EachOk sp mv ls

  pub note_next : (sp next : ℕ → Spot O) (mv mv2 : ℕ → Moves) → ((q at i : ℕ) → Ok O S sp (sp q) (mv q) at i → Ok O S next (next q) (mv2 q) at i) → (a b : ℕ) (m : Note O) → NoteOk sp mv a b m → NoteOk next mv2 a b m
  note_next sp next mv mv2 f a b (Call p r) k = tt
  note_next sp next mv mv2 f a b (Pause p r) k = tt
  note_next sp next mv mv2 f a b (Reply p d) k = tt
  note_next sp next mv mv2 f a b (Poke p) k = tt
  note_next sp next mv mv2 f a b (Half places) k = tt
  note_next sp next mv mv2 f a b (Go p to h line) k = (f p b h k.0, k.1)
  note_next sp next mv mv2 f a b (NotHere p to h line) k = λ x. f p x h (k x)
  note_next sp next mv mv2 f a b (Ask p need) k = tt
  note_next sp next mv mv2 f a b (Allow p) k = tt
  note_next sp next mv mv2 f a b (Deny p need free) k = tt
  note_next sp next mv mv2 f a b (Move p u h line) k = tt
  note_next sp next mv mv2 f a b (Landed p source h line) k = f p a h k
  note_next sp next mv mv2 f a b (NoMove line) k = tt

  pub each_next : (sp next : ℕ → Spot O) (mv mv2 : ℕ → Moves) → ((q at i : ℕ) → Ok O S sp (sp q) (mv q) at i → Ok O S next (next q) (mv2 q) at i) → (ls : List (Post O)) → EachOk sp mv ls → EachOk next mv2 ls
  each_next sp next mv mv2 f [] k = tt
  each_next sp next mv mv2 f (l ∷ ls) k = (note_next sp next mv mv2 f l.from l.to l.note k.0, each_next sp next mv mv2 f ls k.1)

  pub each_right : (sp : ℕ → Spot O) (mv : ℕ → Moves) (xs ys : List (Post O)) → EachOk sp mv (xs ++ ys) → EachOk sp mv ys
  each_right sp mv [] ys k = k
  each_right sp mv (x ∷ xs) ys k = each_right sp mv xs ys k.1

  pub each_append : (sp : ℕ → Spot O) (mv : ℕ → Moves) (xs ys : List (Post O)) → EachOk sp mv xs → EachOk sp mv ys → EachOk sp mv (xs ++ ys)
  each_append sp mv [] ys k j = j
  each_append sp mv (x ∷ xs) ys k j = (k.0, each_append sp mv xs ys k.1 j)

  pub each_link : (sp : ℕ → Spot O) (mv : ℕ → Moves) (a b : ℕ) (ls : List (Post O)) → EachOk sp mv ls → EachOk sp mv (for_link O a b ls)
  each_link sp mv a b [] k = tt
  each_link sp mv a b (l ∷ ls) k = go ((a == l.from) && (b == l.to)) (each_link sp mv a b ls k.1)
    where
      go : (x : Bool) → EachOk sp mv (for_link O a b ls) → EachOk sp mv (cond x (l ∷ for_link O a b ls) (for_link O a b ls))
      go true r = (k.0, r)
      go false r = r

  pub front : (l : Post O) → ((l.from == l.from) && (l.to == l.to)) ≡ true
  front l = rw (same_numbers l.from l.from refl, same_numbers l.to l.to refl) refl

  -- no Go for p before the reply of q
  abbrev pub is_go : ℕ → Note O → Bool
  is_go x (Call p r) = false
  is_go x (Pause p r) = false
  is_go x (Reply p d) = false
  is_go x (Poke p) = false
  is_go x (Half places) = false
  is_go x (Go p to h line) = p == x
  is_go x (NotHere p to h line) = false
  is_go x (Ask p need) = false
  is_go x (Allow p) = false
  is_go x (Deny p need free) = false
  is_go x (Move p u h line) = false
  is_go x (Landed p source h line) = false
  is_go x (NoMove line) = false

  abbrev pub Unless : Bool → Type 0 → Type 0
  Unless true A = Unit {0}
  Unless false A = A

  abbrev pub ReplyFirst : ℕ → ℕ → List (Post O) → Type 0
  ReplyFirst q p [] = Unit {0}
  ReplyFirst q p (l ∷ ls) = Unless (mine O q l.note) ((is_go p l.note ≡ false) × ReplyFirst q p ls)

  abbrev pub NoGo : ℕ → List (Post O) → Type 0
  NoGo p [] = Unit {0}
  NoGo p (l ∷ ls) = (is_go p l.note ≡ false) × NoGo p ls

  pub nogo_first : (q p : ℕ) (ls : List (Post O)) → NoGo p ls → ReplyFirst q p ls
  nogo_first q p [] k = tt
  nogo_first q p (l ∷ ls) k = go (mine O q l.note) (nogo_first q p ls k.1)
    where
      go : (b : Bool) → ReplyFirst q p ls → Unless b ((is_go p l.note ≡ false) × ReplyFirst q p ls)
      go true r = tt
      go false r = (k.0, r)

  pub nogo_append : (p : ℕ) (xs ys : List (Post O)) → NoGo p xs → NoGo p ys → NoGo p (xs ++ ys)
  nogo_append p [] ys k j = j
  nogo_append p (x ∷ xs) ys k j = (k.0, nogo_append p xs ys k.1 j)

  pub nogo_link : (p a b : ℕ) (ls : List (Post O)) → NoGo p ls → NoGo p (for_link O a b ls)
  nogo_link p a b [] k = tt
  nogo_link p a b (l ∷ ls) k = go ((a == l.from) && (b == l.to)) (nogo_link p a b ls k.1)
    where
      go : (x : Bool) → NoGo p (for_link O a b ls) → NoGo p (cond x (l ∷ for_link O a b ls) (for_link O a b ls))
      go true r = (k.0, r)
      go false r = r

  -- where the reply is in the list, more may follow
  pub first_append : (q p : ℕ) (xs ys : List (Post O)) → (talk O q xs ≡ [] → ⊥) → ReplyFirst q p xs → ReplyFirst q p (xs ++ ys)
  first_append q p [] ys some k = absurd (some refl)
  first_append q p (l ∷ ls) ys some k = go (mine O q l.note) some k (λ f j. first_append q p ls ys f j)
    where
      go : (b : Bool) → (cond b (l.note ∷ talk O q ls) (talk O q ls) ≡ [] → ⊥) → Unless b ((is_go p l.note ≡ false) × ReplyFirst q p ls) → ((talk O q ls ≡ [] → ⊥) → ReplyFirst q p ls → ReplyFirst q p (ls ++ ys)) → Unless b ((is_go p l.note ≡ false) × ReplyFirst q p (ls ++ ys))
      go true f j again = tt
      go false f j again = (j.0, again f j.1)

  -- the rest of a list whose front is not the reply
  pub first_rest : (q p : ℕ) (l : Post O) (ls : List (Post O)) → mine O q l.note ≡ false → ReplyFirst q p (l ∷ ls) → ReplyFirst q p ls
  first_rest q p l ls e k = (subst (λ (b : Bool). Unless b ((is_go p l.note ≡ false) × ReplyFirst q p ls)) e k).1

  pub talk_rest : (q : ℕ) (l : Post O) (ls : List (Post O)) → mine O q l.note ≡ false → talk O q (l ∷ ls) ≡ talk O q ls
  talk_rest q l ls e = ap (λ (b : Bool). cond b (l.note ∷ talk O q ls) (talk O q ls)) e

  -- nobody goes to one that is nowhere
  pub note_nogo : (sp : ℕ → Spot O) (mv : ℕ → Moves) (x a b : ℕ) (m : Note O) → sp x ≡ Nowhere → (mv x).departs ≡ 0 → NoteOk sp mv a b m → is_go x m ≡ false
  note_nogo sp mv x a b (Call p r) e f k = refl
  note_nogo sp mv x a b (Pause p r) e f k = refl
  note_nogo sp mv x a b (Reply p d) e f k = refl
  note_nogo sp mv x a b (Poke p) e f k = refl
  note_nogo sp mv x a b (Half places) e f k = refl
  note_nogo sp mv x a b (Go p to h line) e f k = other_numbers p x (λ z. none (subst (λ (y : Spot O). Ok O S sp y (mv x) b h) e (subst (λ (y : ℕ). Ok O S sp (sp y) (mv y) b h) z k.0)))
    where
      none : Ok O S sp Nowhere (mv x) b h → ⊥
      none (inl i) = cc
      none (inr (inl i)) = omega (arith, i, f)
      none (inr (inr i)) = i.1
  note_nogo sp mv x a b (NotHere p to h line) e f k = refl
  note_nogo sp mv x a b (Ask p need) e f k = refl
  note_nogo sp mv x a b (Allow p) e f k = refl
  note_nogo sp mv x a b (Deny p need free) e f k = refl
  note_nogo sp mv x a b (Move p u h line) e f k = refl
  note_nogo sp mv x a b (Landed p source h line) e f k = refl
  note_nogo sp mv x a b (NoMove line) e f k = refl

  pub each_nogo : (sp : ℕ → Spot O) (mv : ℕ → Moves) (x : ℕ) (ls : List (Post O)) → sp x ≡ Nowhere → (mv x).departs ≡ 0 → EachOk sp mv ls → NoGo x ls
  each_nogo sp mv x [] e f k = tt
  each_nogo sp mv x (l ∷ ls) e f k = (note_nogo sp mv x l.from l.to l.note e f k.0, each_nogo sp mv x ls e f k.1)

  -- letters of other kinds tell nothing
  abbrev pub Plain : Note O → Type 0
  Plain (Call p r) = Unit {0}
  Plain (Pause p r) = Unit {0}
  Plain (Reply p d) = Unit {0}
  Plain (Poke p) = Unit {0}
  Plain (Half places) = Unit {0}
  Plain (Go p to h line) = ⊥
  Plain (NotHere p to h line) = ⊥
  Plain (Ask p need) = Unit {0}
  Plain (Allow p) = Unit {0}
  Plain (Deny p need free) = Unit {0}
  Plain (Move p u h line) = Unit {0}
  Plain (Landed p source h line) = ⊥
  Plain (NoMove line) = Unit {0}

  abbrev pub AllPlain : List (Post O) → Type 0
  AllPlain [] = Unit {0}
  AllPlain (l ∷ ls) = Plain l.note × AllPlain ls

  pub plain_ok : (sp : ℕ → Spot O) (mv : ℕ → Moves) (a b : ℕ) (m : Note O) → Plain m → NoteOk sp mv a b m
  plain_ok sp mv a b (Call p r) k = tt
  plain_ok sp mv a b (Pause p r) k = tt
  plain_ok sp mv a b (Reply p d) k = tt
  plain_ok sp mv a b (Poke p) k = tt
  plain_ok sp mv a b (Half places) k = tt
  plain_ok sp mv a b (Go p to h line) k = absurd k
  plain_ok sp mv a b (NotHere p to h line) k = absurd k
  plain_ok sp mv a b (Ask p need) k = tt
  plain_ok sp mv a b (Allow p) k = tt
  plain_ok sp mv a b (Deny p need free) k = tt
  plain_ok sp mv a b (Move p u h line) k = tt
  plain_ok sp mv a b (Landed p source h line) k = absurd k
  plain_ok sp mv a b (NoMove line) k = tt

  pub plain_nogo : (x : ℕ) (m : Note O) → Plain m → is_go x m ≡ false
  plain_nogo y (Call p r) k = refl
  plain_nogo y (Pause p r) k = refl
  plain_nogo y (Reply p d) k = refl
  plain_nogo y (Poke p) k = refl
  plain_nogo y (Half places) k = refl
  plain_nogo y (Go p to h line) k = absurd k
  plain_nogo y (NotHere p to h line) k = refl
  plain_nogo y (Ask p need) k = refl
  plain_nogo y (Allow p) k = refl
  plain_nogo y (Deny p need free) k = refl
  plain_nogo y (Move p u h line) k = refl
  plain_nogo y (Landed p source h line) k = refl
  plain_nogo y (NoMove line) k = refl

  pub all_ok : (sp : ℕ → Spot O) (mv : ℕ → Moves) (ls : List (Post O)) → AllPlain ls → EachOk sp mv ls
  all_ok sp mv [] k = tt
  all_ok sp mv (l ∷ ls) k = (plain_ok sp mv l.from l.to l.note k.0, all_ok sp mv ls k.1)

  pub all_nogo : (x : ℕ) (ls : List (Post O)) → AllPlain ls → NoGo x ls
  all_nogo x [] k = tt
  all_nogo x (l ∷ ls) k = (plain_nogo x l.note k.0, all_nogo x ls k.1)

  pub pokes_plain : (s : ℕ) (believed : ℕ → Believed) (qs : List ℕ) → AllPlain (pokes O s believed qs)
  pokes_plain s believed [] = tt
  pokes_plain s believed (q ∷ qs) = (tt, pokes_plain s believed qs)

  pub closed_plain : (n s : ℕ) (line : Option ℕ) → AllPlain (line_closed O n s line)
  closed_plain n s None = tt
  closed_plain n s (Some line) = (tt, tt)
