-- Copies of a leaf and of a tree.
use Rattle.std.proofs.Common.{◌≡◌, ◌⊎◌, inl, inr, ℕ, zero, suc, ◌+◌, ◌/◌, ◌%◌, ◌<◌, ◌≤◌, List, [], ◌∷◌, ◌++◌, refl, ap, ◌∙◌, sym, arith, Option, Some, None, length, subst, length-append}
use Rattle.std.proofs.lemmas.Bool.Decides.{eqb_tells}
use Rattle.std.proofs.lemmas.Option.{slice_get_past}
use Rattle.std.specs.List.{slice_get}
use Rattle.std.specs.declared.boxed.Box.{Box}
use Rattle.std.specs.declared.alloc.Global.{Global}
use Rattle.page_set.specs.declared.frame.Frame.{Frame}
use Rattle.page_set.specs.declared.frame.Leaf.{Leaf}
use Rattle.page_set.specs.Tree.{Tree, content_of, leaf_at, frame_in, frame_at, pages_of, IsEditedLeaf, IsSameLeaf}
use Rattle.page_set.proofs.Maps.{same_pages}

-- the frames below i are copied, and there are none from there on
pub record IsFront (old new : Leaf) (i : ℕ) : Type 0 where
  pub below : (j : ℕ) → j < i → frame_in (Some new) j ≡ frame_in (Some old) j
  pub above : (j : ℕ) → i ≤ j → frame_in (Some new) j ≡ None

pub leaf_start : (old new : Leaf) → ((j : ℕ) → frame_in (Some new) j ≡ None) → IsFront old new 0
leaf_start old new h = record { below = λ j lt. absurd (omega arith); above = λ j _. h j }

pub leaf_skip : (old new : Leaf) (i : ℕ) → IsFront old new i → frame_in (Some old) i ≡ None → IsFront old new (i + 1)
leaf_skip old new i f none = record {
  below = λ j lt. elim (eqb_tells j i) as (λ _. frame_in (Some new) j ≡ frame_in (Some old) j) [
    | inl e ↦ f.above j (omega arith) ∙ sym (ap (frame_in (Some old)) e.1 ∙ none)
    | inr e ↦ f.below j (omega arith)
  ];
  above = λ j le. f.above j (omega arith);
}

pub leaf_more : (old mid new : Leaf) (i : ℕ) (b : Box Frame Global) → IsFront old mid i → frame_in (Some old) i ≡ Some b.value → IsEditedLeaf mid new i (content_of (Some (Some b))) → IsFront old new (i + 1)
leaf_more old mid new i b f some e = record {
  below = λ j lt. elim (eqb_tells j i) as (λ _. frame_in (Some new) j ≡ frame_in (Some old) j) [
    | inl s ↦ ap (frame_in (Some new)) s.1 ∙ e.here ∙ sym (ap (frame_in (Some old)) s.1 ∙ some)
    | inr s ↦ e.others j s.1 ∙ f.below j (omega arith)
  ];
  above = λ j le. e.others j (λ s. absurd (let w : j ≡ i = s in omega arith)) ∙ f.above j (omega arith);
}

below_or : (j n : ℕ) → (j < n) ⊎ (n ≤ j)
below_or j n = grind arith

pub leaf_end : (old new : Leaf) (n : ℕ) → length old.frames ≤ n → IsFront old new n → IsSameLeaf old new
leaf_end old new n e f = record {
  same = λ j. elim (below_or j n) as (λ _. frame_in (Some new) j ≡ frame_in (Some old) j) [
    | inl lt ↦ f.below j lt
    | inr le ↦ f.above j le ∙ sym (ap content_of (slice_get_past old.frames j (omega arith)))
  ];
}

-- ---- trees

-- the first i places are copied
pub record IsFrontTree (old new : Tree) (i : ℕ) : Type 0 where
  pub long : length new ≡ i
  pub same : (k j : ℕ) → k < i → frame_in (leaf_at new k) j ≡ frame_in (leaf_at old k) j

slice_get_end : {A : Type 0} (xs : List A) (y : A) (k : ℕ) → k ≡ length xs → slice_get (xs ++ y ∷ []) k ≡ Some y
slice_get_end [] y zero e = refl
slice_get_end [] y (suc k) e = absurd (omega arith)
slice_get_end (x ∷ xs) y zero e = absurd (omega arith)
slice_get_end (x ∷ xs) y (suc k) e = slice_get_end xs y k (omega arith)

slice_get_front : {A : Type 0} (xs : List A) (y : A) (k : ℕ) → k < length xs → slice_get (xs ++ y ∷ []) k ≡ slice_get xs k
slice_get_front [] y k h = absurd (omega arith)
slice_get_front (x ∷ xs) y zero h = refl
slice_get_front (x ∷ xs) y (suc k) h = slice_get_front xs y k (omega arith)

place_more : (old new : Tree) (i : ℕ) (place : Option (Box Leaf Global)) → IsFrontTree old new i → ((j : ℕ) → frame_in (content_of (Some place)) j ≡ frame_in (leaf_at old i) j) → IsFrontTree old (new ++ place ∷ []) (i + 1)
place_more old new i place f h = record {
  long = omega (arith, f.long, length-append new (place ∷ []));
  same = λ k j lt. elim (eqb_tells k i) as (λ _. frame_in (leaf_at (new ++ place ∷ []) k) j ≡ frame_in (leaf_at old k) j) [
    | inl s ↦ ap (λ p. frame_in (content_of p) j) (slice_get_end new place k (s.1 ∙ sym f.long)) ∙ h j ∙ sym (ap (λ n. frame_in (leaf_at old n) j) s.1)
    | inr s ↦ ap (λ p. frame_in (content_of p) j) (slice_get_front new place k (omega (arith, f.long))) ∙ f.same k j (omega arith)
  ];
}

pub tree_none : (old new after : Tree) (i : ℕ) → IsFrontTree old new i → slice_get old i ≡ Some None → after ≡ new ++ None ∷ [] → IsFrontTree old after (i + 1)
tree_none old new after i f none e = let P : Tree → Type 0 = λ t. IsFrontTree old t (i + 1) in subst P (sym e) (place_more old new i None f (λ j. sym (ap (λ p. frame_in (content_of p) j) none)))

pub tree_more : (old new after : Tree) (i : ℕ) (a b : Box Leaf Global) → IsFrontTree old new i → slice_get old i ≡ Some (Some a) → IsSameLeaf a.value b.value → after ≡ new ++ Some b ∷ [] → IsFrontTree old after (i + 1)
tree_more old new after i a b f some s e = let P : Tree → Type 0 = λ t. IsFrontTree old t (i + 1) in subst P (sym e) (place_more old new i (Some b) f (λ j. s.same j ∙ sym (ap (λ p. frame_in (content_of p) j) some)))

pub tree_end : (old new : Tree) (n : ℕ) → n ≡ length old → IsFrontTree old new n → pages_of new ≡ pages_of old
tree_end old new n e f = same_pages old new (λ q. elim (below_or (q / 1024) n) as (λ _. frame_at new q ≡ frame_at old q) [
  | inl lt ↦ f.same (q / 1024) (q % 1024) lt
  | inr le ↦ ap (λ p. frame_in (content_of p) (q % 1024)) (slice_get_past new (q / 1024) (omega (arith, f.long))) ∙ sym (ap (λ p. frame_in (content_of p) (q % 1024)) (slice_get_past old (q / 1024) (omega arith)))
])
