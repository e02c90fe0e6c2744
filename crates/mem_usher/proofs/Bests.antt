-- The best of a list that is walked from its front.
use Rattle.std.proofs.Common.{◌≡◌, ℕ, zero, suc, ◌+◌, ◌<◌, ◌≤◌, ◌⊎◌, inl, inr, ⊎_elim, Bool, true, false, cond, if◌then◌else◌, nat_le, List, [], ◌∷◌, ◌++◌, length, take, get_or, Option, Some, None, slice_get, refl, sym, ap, ◌∙◌, subst, arith, append-nil}
use Rattle.std.specs.List.{filter}
use Rattle.std.proofs.lemmas.List.{take_more, take_all}
use Rattle.std.proofs.lemmas.List.Elements.{filter_more}
use Rattle.call_table.specs.declared.process.Entry.{Entry}
use Rattle.mem_usher.specs.Best.{IsBest, IsBestOf, kept, Movable, is_smaller, is_larger, is_tighter, is_lighter, covering, roomy}
use Rattle.mem_usher.proofs.Before.{IsOrder, smaller_order, larger_order, tighter_order, lighter_order}

module _ {X : Type 0} where
  get_within : (xs : List X) (k : ℕ) (y : X) → slice_get xs k ≡ Some y → k < length xs
  get_within [] k y g = absurd cc
  get_within (x ∷ xs) zero y g = omega arith
  get_within (x ∷ xs) (suc k) y g = let r = get_within xs k y g in omega arith

  get_front : (xs ys : List X) (k : ℕ) (y : X) → slice_get xs k ≡ Some y → slice_get (xs ++ ys) k ≡ Some y
  get_front [] ys k y g = absurd cc
  get_front (x ∷ xs) ys zero y g = g
  get_front (x ∷ xs) ys (suc k) y g = get_front xs ys k y g

  get_last : (xs : List X) (x : X) → slice_get (xs ++ x ∷ []) (length xs) ≡ Some x
  get_last [] x = refl
  get_last (y ∷ xs) x = get_last xs x

  get_either : (xs : List X) (x : X) (k : ℕ) (y : X) → slice_get (xs ++ x ∷ []) k ≡ Some y → (slice_get xs k ≡ Some y) ⊎ (x ≡ y)
  get_either [] x zero y g = inr (cc)
  get_either [] x (suc k) y g = absurd cc
  get_either (z ∷ xs) x zero y g = inl g
  get_either (z ∷ xs) x (suc k) y g = get_either xs x k y g

  get_early : (xs : List X) (x : X) (k : ℕ) (y : X) → k < length xs → slice_get (xs ++ x ∷ []) k ≡ Some y → slice_get xs k ≡ Some y
  get_early [] x k y l g = absurd (omega arith)
  get_early (z ∷ xs) x zero y l g = g
  get_early (z ∷ xs) x (suc k) y l g = get_early xs x k y (omega arith) g

  stays : (better : X → X → Bool) (xs : List X) (b x : X) → IsBest better xs b → better x b ≡ false → IsBest better (xs ++ x ∷ []) b
  stays better xs b x i f =
      let within = get_within xs i.at b i.stands in
      record {
        at = i.at;
        stands = get_front xs (x ∷ []) i.at b i.stands;
        best = λ k y g. ⊎_elim (λ h. i.best k y h) (λ e. ap (λ (z : X). better z b) (sym e) ∙ f) (get_either xs x k y g);
        first = λ k y l g. i.first k y l (get_early xs x k y (omega arith) g);
      }

  passes : (better : X → X → Bool) → IsOrder better → (xs : List X) (b x : X) → IsBest better xs b → better x b ≡ true → IsBest better (xs ++ x ∷ []) x
  passes better o xs b x i t = record {
    at = length xs;
    stands = get_last xs x;
    best = λ k y g. ⊎_elim (λ h. (o.after x b y t (i.best k y h)).0) (λ e. ap (λ (z : X). better z x) (sym e) ∙ o.alone x) (get_either xs x k y g);
    first = λ k y l g. (o.after x b y t (i.best k y (get_early xs x k y l g))).1;
  }

  only : (better : X → X → Bool) → IsOrder better → (x : X) → IsBest better (x ∷ []) x
  only better o x = record {
    at = 0;
    stands = refl;
    best = λ k y g. ⊎_elim (λ h. absurd (let n = get_within [] k y h in omega arith)) (λ e. ap (λ (z : X). better z x) (sym e) ∙ o.alone x) (get_either [] x k y g);
    first = λ k y l g. absurd (omega arith);
  }

  kept_true : (better : X → X → Bool) → IsOrder better → (xs : List X) (x : X) (found : Option X) → IsBestOf better xs found → IsBestOf better (xs ++ x ∷ []) (kept true better found x)
  kept_true better o xs x None i = subst (λ (w : List X). IsBest better (w ++ x ∷ []) x) (sym i) (only better o x)
  kept_true better o xs x (Some b) i = go (better x b) refl
    where
      go : (r : Bool) → better x b ≡ r → IsBestOf better (xs ++ x ∷ []) (if r then Some x else Some b)
      go true t = passes better o xs b x i t
      go false t = stays better xs b x i t

  pub kept_more : (better : X → X → Bool) → IsOrder better → (xs : List X) (i : ℕ) (d : X) (found new : Option X) → i < length xs → new ≡ kept true better found (get_or xs i d) → IsBestOf better (take i xs) found → IsBestOf better (take (i + 1) xs) new
  kept_more better o xs i d found new l e b =
      let x = get_or xs i d in
      subst (λ (w : Option X). IsBestOf better (take (i + 1) xs) w) (sym e) (subst (λ (w : List X). IsBestOf better w (kept true better found x)) (sym (take_more xs i d l)) (kept_true better o (take i xs) x found b))

  pub kept_filter : (better : X → X → Bool) → IsOrder better → (fits : X → Bool) (xs : List X) (i : ℕ) (d : X) (found new : Option X) → i < length xs → new ≡ kept (fits (get_or xs i d)) better found (get_or xs i d) → IsBestOf better (filter fits (take i xs)) found → IsBestOf better (filter fits (take (i + 1) xs)) new
  kept_filter better o fits xs i d found new l e b =
      subst (λ (w : Option X). IsBestOf better (filter fits (take (i + 1) xs)) w) (sym e)
      (subst (λ (w : List X). IsBestOf better w (kept (fits (get_or xs i d)) better found (get_or xs i d))) (sym (filter_more fits xs i d l)) (go (fits (get_or xs i d))))
    where
      go : (r : Bool) → IsBestOf better (filter fits (take i xs) ++ cond r (get_or xs i d ∷ []) []) (kept r better found (get_or xs i d))
      go true = kept_true better o (filter fits (take i xs)) (get_or xs i d) found b
      go false = subst (λ (w : List X). IsBestOf better w found) (sym (append-nil (filter fits (take i xs)))) b

  pub kept_all : (better : X → X → Bool) (xs : List X) (i : ℕ) (found : Option X) → length xs ≤ i → IsBestOf better (take i xs) found → IsBestOf better xs found
  kept_all better xs i found l b = subst (λ (w : List X). IsBestOf better w found) (take_all i xs l) b

  pub kept_all_filter : (better : X → X → Bool) (fits : X → Bool) (xs : List X) (i : ℕ) (found : Option X) → length xs ≤ i → IsBestOf better (filter fits (take i xs)) found → IsBestOf better (filter fits xs) found
  kept_all_filter better fits xs i found l b = subst (λ (w : List X). IsBestOf better (filter fits w) found) (take_all i xs l) b

  -- there is one best member
  pub best_only : (better : X → X → Bool) (xs : List X) (x y : X) → IsBest better xs x → IsBest better xs y → x ≡ y
  best_only better xs x y a b = go (nat_le b.at a.at) (nat_le a.at b.at) refl refl
    where
      clash : (p q : X) → IsBest better xs p → (i : IsBest better xs q) → better p q ≡ true → better p q ≡ false → ⊥
      clash p q a i t f = let z : true ≡ false = sym t ∙ f in cc

      go : (r s : Bool) → nat_le b.at a.at ≡ r → nat_le a.at b.at ≡ s → x ≡ y
      go false s t u = let l : a.at < b.at = grind arith in absurd (clash y x b a (b.first a.at x l a.stands) (a.best b.at y b.stands))
      go true false t u = let l : b.at < a.at = grind arith in absurd (clash x y a b (a.first b.at y l b.stands) (b.best a.at x a.stands))
      go true true t u = let e : a.at ≡ b.at = grind arith in let s : Some x ≡ Some y = sym a.stands ∙ (ap (slice_get xs) e ∙ b.stands) in cc

  pub none_best : (better : X → X → Bool) (xs : List X) (x : X) → xs ≡ [] → IsBest better xs x → ⊥
  none_best better xs x e b = let g : slice_get [] b.at ≡ Some x = ap (λ (w : List X). slice_get w b.at) (sym e) ∙ b.stands in let n = get_within [] b.at x g in omega arith

-- one more of each walk
pub smallest_more : (shortage : ℕ) (movable : List Movable) (i : ℕ) (d : Movable) (found new : Option Movable) → new ≡ kept (nat_le shortage (get_or movable i d).1) is_smaller found (get_or movable i d) → i < length movable → IsBestOf is_smaller (covering shortage (take i movable)) found → IsBestOf is_smaller (covering shortage (take (i + 1) movable)) new
smallest_more shortage movable i d found new e l b = kept_filter is_smaller smaller_order (λ p. nat_le shortage p.1) movable i d found new l e b

pub largest_more : (movable : List Movable) (i : ℕ) (d : Movable) (found new : Option Movable) → new ≡ kept true is_larger found (get_or movable i d) → i < length movable → IsBestOf is_larger (take i movable) found → IsBestOf is_larger (take (i + 1) movable) new
largest_more movable i d found new e l b = kept_more is_larger larger_order movable i d found new l e b

pub tightest_more : (pages reserve : ℕ) (known : List Entry) (i : ℕ) (d : Entry) (found new : Option Entry) → new ≡ kept (nat_le (pages + reserve) (get_or known i d).free) is_tighter found (get_or known i d) → i < length known → IsBestOf is_tighter (roomy pages reserve (take i known)) found → IsBestOf is_tighter (roomy pages reserve (take (i + 1) known)) new
tightest_more pages reserve known i d found new e l b = kept_filter is_tighter tighter_order (λ x. nat_le (pages + reserve) x.free) known i d found new l e b

pub lightest_more : (known : List Entry) (i : ℕ) (d : Entry) (found new : Option Entry) → new ≡ kept true is_lighter found (get_or known i d) → i < length known → IsBestOf is_lighter (take i known) found → IsBestOf is_lighter (take (i + 1) known) new
lightest_more known i d found new e l b = kept_more is_lighter lighter_order known i d found new l e b
