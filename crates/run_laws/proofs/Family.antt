-- A family of letters of which at most one is under way, by a test: what a turn makes of it.
use Rattle.std.proofs.Common.{◌≡◌, ℕ, ◌==◌, ◌&&◌, Bool, true, false, cond, Option, Some, None, List, [], ◌∷◌, ◌++◌, refl, sym, ap, ◌∙◌}
use Rattle.protocol.specs.Ops.{Ops}
use Rattle.protocol.specs.Notes.{Note, Post, Turn, Way, way}
use Rattle.protocol.specs.Cluster.{World, for_link, at_front, Goes}
use Rattle.protocol.proofs.Talk.{on_link, taken_whole}

module _ (O : Ops) (test : Note O → Bool) where
  abbrev pub words : List (Post O) → List (Note O)
  words [] = []
  words (l ∷ ls) = cond (test l.note) (l.note ∷ words ls) (words ls)

  pub words-append : (xs ys : List (Post O)) → words (xs ++ ys) ≡ words xs ++ words ys
  words-append [] ys = refl
  words-append (l ∷ ls) ys = go (test l.note) (words-append ls ys)
    where
      go : (b : Bool) → words (ls ++ ys) ≡ words ls ++ words ys → cond b (l.note ∷ words (ls ++ ys)) (words (ls ++ ys)) ≡ cond b (l.note ∷ words ls) (words ls) ++ words ys
      go true e = ap (λ (w : List (Note O)). l.note ∷ w) e
      go false e = e

  -- none of these letters is of the family
  abbrev pub NoneOf : List (Post O) → Type 0
  NoneOf [] = Unit {0}
  NoneOf (l ∷ ls) = (test l.note ≡ false) × NoneOf ls

  abbrev pub NotTaken : Option (Post O) → Type 0
  NotTaken None = Unit {0}
  NotTaken (Some l) = test l.note ≡ false

  pub words_none : (a b : ℕ) (ls : List (Post O)) → NoneOf ls → words (for_link O a b ls) ≡ []
  words_none a b [] k = refl
  words_none a b (l ∷ ls) k = go ((a == l.from) && (b == l.to)) (words_none a b ls k.1)
    where
      go : (x : Bool) → words (for_link O a b ls) ≡ [] → words (cond x (l ∷ for_link O a b ls) (for_link O a b ls)) ≡ []
      go true e = rw k.0 e
      go false e = e

  pub words_own : (a b : ℕ) (l : Post O) (ls : List (Post O)) → test l.note ≡ true → NoneOf ls → words (for_link O a b (l ∷ ls)) ≡ on_link O (Some (way O l.from l.to l.note)) a b
  words_own a b l ls h k = go ((a == l.from) && (b == l.to)) (words_none a b ls k)
    where
      go : (x : Bool) → words (for_link O a b ls) ≡ [] → words (cond x (l ∷ for_link O a b ls) (for_link O a b ls)) ≡ cond x (l.note ∷ []) []
      go true e = rw h (ap (λ (w : List (Note O)). l.note ∷ w) e)
      go false e = e

  pub heard_none : (a b : ℕ) (o : Option (Post O)) → NotTaken o → words (at_front O o a b) ≡ []
  heard_none a b None h = refl
  heard_none a b (Some l) h = go ((a == l.from) && (b == l.to))
    where
      go : (x : Bool) → words (cond x (l ∷ []) []) ≡ []
      go true = rw h refl
      go false = refl

  pub heard_own : (a b : ℕ) (l : Post O) → test l.note ≡ true → words (at_front O (Some l) a b) ≡ on_link O (Some (way O l.from l.to l.note)) a b
  heard_own a b l h = go ((a == l.from) && (b == l.to))
    where
      go : (x : Bool) → words (cond x (l ∷ []) []) ≡ cond x (l.note ∷ []) []
      go true = rw h refl
      go false = refl

  -- the one letter of the family that is under way
  abbrev pub Under : Option (Way O) → World O → Type 0
  Under o w = (a b : ℕ) → words (w.links a b) ≡ on_link O o a b

  nil : (xs : List (Note O)) → xs ++ [] ≡ xs
  nil [] = refl
  nil (x ∷ xs) = ap (λ (k : List (Note O)). x ∷ k) (nil xs)

  module _ (w : World O) (t : Turn O) (v : World O) (goes : Goes O w t v) where
    takes : (taken : Option (Post O)) (took : Option (Way O)) → t.taken ≡ taken → ((a b : ℕ) → words (at_front O taken a b) ≡ on_link O took a b) → (a b : ℕ) → words (w.links a b) ≡ on_link O took a b ++ words (goes.rest a b)
    takes taken took e h a b = ap words (goes.takes a b) ∙ (words-append (at_front O t.taken a b) (goes.rest a b) ∙ ap (λ (x : List (Note O)). x ++ words (goes.rest a b)) (ap (λ (o : Option (Post O)). words (at_front O o a b)) e ∙ h a b))

    leaves : (posted : List (Post O)) (posts : Option (Way O)) → t.posted ≡ posted → ((a b : ℕ) → words (for_link O a b posted) ≡ on_link O posts a b) → (a b : ℕ) → words (v.links a b) ≡ words (goes.rest a b) ++ on_link O posts a b
    leaves posted posts e h a b = ap words (goes.posts a b) ∙ (words-append (goes.rest a b) (for_link O a b t.posted) ∙ ap (λ (x : List (Note O)). words (goes.rest a b) ++ x) (ap (λ (o : List (Post O)). words (for_link O a b o)) e ∙ h a b))

    -- nothing of the family is taken or posted
    pub stays : (o : Option (Way O)) → Under o w → (taken : Option (Post O)) (posted : List (Post O)) → t.taken ≡ taken → t.posted ≡ posted → NotTaken taken → NoneOf posted → Under o v
    stays o u taken posted e f h k a b =
        leaves posted None f (λ x y. words_none x y posted k) a b ∙ (nil (words (goes.rest a b)) ∙ (sym (takes taken None e (λ x y. heard_none x y taken h) a b) ∙ u a b))

    -- one is posted, where none was under way
    pub goes_out : (m : Post O) (ls : List (Post O)) (taken : Option (Post O)) → Under None w → t.taken ≡ taken → NotTaken taken → t.posted ≡ m ∷ ls → test m.note ≡ true → NoneOf ls → Under (Some (way O m.from m.to m.note)) v
    goes_out m ls taken u e h f g k a b =
        leaves (m ∷ ls) (Some (way O m.from m.to m.note)) f (λ x y. words_own x y m ls g k) a b ∙ ap (λ (x : List (Note O)). x ++ on_link O (Some (way O m.from m.to m.note)) a b) (sym (takes taken None e (λ x y. heard_none x y taken h) a b) ∙ u a b)

    -- the one that is taken was under way
    pub was_under : (o : Option (Way O)) (l : Post O) → Under o w → t.taken ≡ Some l → test l.note ≡ true → (o ≡ Some (way O l.from l.to l.note)) × ((a b : ℕ) → words (goes.rest a b) ≡ [])
    was_under o l u e h = taken_whole O o (way O l.from l.to l.note) (λ a b. words (goes.rest a b)) (λ a b. sym (u a b) ∙ takes (Some l) (Some (way O l.from l.to l.note)) e (λ x y. heard_own x y l h) a b)

    -- it is taken, and none is posted
    pub comes_in : (o : Option (Way O)) (l : Post O) (posted : List (Post O)) → Under o w → t.taken ≡ Some l → test l.note ≡ true → t.posted ≡ posted → NoneOf posted → Under None v
    comes_in o l posted u e h f k a b =
        leaves posted None f (λ x y. words_none x y posted k) a b ∙ ap (λ (x : List (Note O)). x ++ []) ((was_under o l u e h).1 a b)

    -- it is taken, and another is posted
    pub turns : (o : Option (Way O)) (l m : Post O) (ls : List (Post O)) → Under o w → t.taken ≡ Some l → test l.note ≡ true → t.posted ≡ m ∷ ls → test m.note ≡ true → NoneOf ls → Under (Some (way O m.from m.to m.note)) v
    turns o l m ls u e h f g k a b =
        leaves (m ∷ ls) (Some (way O m.from m.to m.note)) f (λ x y. words_own x y m ls g k) a b ∙ ap (λ (x : List (Note O)). x ++ on_link O (Some (way O m.from m.to m.note)) a b) ((was_under o l u e h).1 a b)
