-- An edit of a leaf, and of the leaf in the tree.
use Rattle.std.proofs.Common.{◌≡◌, ◌≢◌, inl, inr, ℕ, zero, suc, ◌/◌, ◌%◌, ◌<◌, List, [], ◌∷◌, refl, ap, ◌∙◌, sym, arith, true, Option, Some, None, is_some, length, set, replicate, ◌++◌}
use Rattle.std.proofs.lemmas.Bool.Decides.{eqb_tells}
use Rattle.std.specs.List.{slice_get}
use Rattle.std.specs.declared.boxed.Box.{Box}
use Rattle.std.specs.declared.alloc.Global.{Global}
use Rattle.page_set.specs.declared.frame.Frame.{Frame}
use Rattle.page_set.specs.declared.frame.Leaf.{Leaf}
use Rattle.page_set.specs.Tree.{Tree, content_of, leaf_at, frame_in, frame_at, IsEdited, IsEditedLeaf, LeavesStay}

pub slice_get_set : {A : Type 0} (xs : List A) (i : ℕ) (v : A) → i < length xs → slice_get (set xs i v) i ≡ Some v
slice_get_set [] i v h = absurd (omega arith)
slice_get_set (x ∷ xs) zero v h = refl
slice_get_set (x ∷ xs) (suc i) v h = slice_get_set xs i v (omega arith)

pub slice_get_set_other : {A : Type 0} (xs : List A) (i j : ℕ) (v : A) → j ≢ i → slice_get (set xs i v) j ≡ slice_get xs j
slice_get_set_other [] i j v h = refl
slice_get_set_other (x ∷ xs) zero zero v h = absurd (h refl)
slice_get_set_other (x ∷ xs) zero (suc j) v h = refl
slice_get_set_other (x ∷ xs) (suc i) zero v h = refl
slice_get_set_other (x ∷ xs) (suc i) (suc j) v h = slice_get_set_other xs i j v (λ e. h (ap suc e))

-- a place of a leaf is set
pub leaf_set : (leaf new : Leaf) (number : ℕ) (place : Option (Box Frame Global)) → number < length leaf.frames → new.frames ≡ set leaf.frames number place → IsEditedLeaf leaf new number (content_of (Some place))
leaf_set leaf new number place h e = record {
  here = ap content_of (ap (λ fs. slice_get fs number) e ∙ slice_get_set leaf.frames number place h);
  others = λ j ne. ap content_of (ap (λ fs. slice_get fs j) e ∙ slice_get_set_other leaf.frames number j place ne);
}

same_page : (a b : ℕ) → a / 1024 ≡ b / 1024 → a % 1024 ≡ b % 1024 → a ≡ b
same_page a b d m = omega arith

-- a leaf of a tree is edited
pub tree_set : (old new : Tree) (page : ℕ) (leaf leaf2 : Leaf) (b : Box Leaf Global) (frame : Option Frame) → page / 1024 < length old → leaf_at old (page / 1024) ≡ Some leaf → b.value ≡ leaf2 → new ≡ set old (page / 1024) (Some b) → IsEditedLeaf leaf leaf2 (page % 1024) frame → IsEdited old new page frame
tree_set old new page leaf leaf2 b frame h was is e edit =
    let there : leaf_at new (page / 1024) ≡ Some leaf2 = ap content_of (ap (λ t. slice_get t (page / 1024)) e ∙ slice_get_set old (page / 1024) (Some b) h) ∙ ap Some is in
    record {
      here = ap (λ l. frame_in l (page % 1024)) there ∙ edit.here;
      others = λ q ne. elim (eqb_tells (q / 1024) (page / 1024)) as (λ _. frame_at new q ≡ frame_at old q) [
        | inl s ↦ ap (λ i. frame_in (leaf_at new i) (q % 1024)) s.1 ∙ ap (λ l. frame_in l (q % 1024)) there ∙ edit.others (q % 1024) (λ m. ne (same_page q page s.1 m)) ∙ sym (ap (λ l. frame_in l (q % 1024)) was) ∙ ap (λ i. frame_in (leaf_at old i) (q % 1024)) (sym s.1)
        | inr s ↦ ap (λ p. frame_in (content_of p) (q % 1024)) (ap (λ t. slice_get t (q / 1024)) e ∙ slice_get_set_other old (page / 1024) (q / 1024) (Some b) s.1)
      ];
    }

pub same_leaves : (old new : Tree) → new ≡ old → LeavesStay old new
same_leaves old new e = record { each = λ n h. ap (λ t. is_some (leaf_at t n)) e ∙ h }

pub leaves_stay : (old new : Tree) (first : ℕ) (b : Box Leaf Global) → first < length old → new ≡ set old first (Some b) → LeavesStay old new
leaves_stay old new first b h e = record {
  each = λ n there. elim (eqb_tells n first) as (λ _. is_some (leaf_at new n) ≡ true) [
    | inl s ↦ ap (λ p. is_some (content_of p)) (ap (slice_get new) s.1 ∙ ap (λ t. slice_get t first) e ∙ slice_get_set old first (Some b) h)
    | inr s ↦ ap (λ p. is_some (content_of p)) (ap (λ t. slice_get t n) e ∙ slice_get_set_other old first n (Some b) s.1) ∙ there
  ];
}

pub no_frames : (n j : ℕ) → content_of (slice_get (replicate {A = Option (Box Frame Global)} n None) j) ≡ None
no_frames zero j = refl
no_frames (suc n) zero = refl
no_frames (suc n) (suc j) = no_frames n j

-- one more place with no leaf
pub leaf_at_push : (tree : Tree) (i : ℕ) → leaf_at (tree ++ None ∷ []) i ≡ leaf_at tree i
leaf_at_push [] zero = refl
leaf_at_push [] (suc i) = refl
leaf_at_push (x ∷ xs) zero = refl
leaf_at_push (x ∷ xs) (suc i) = leaf_at_push xs i

pub frame_at_push : (tree : Tree) (q : ℕ) → frame_at (tree ++ None ∷ []) q ≡ frame_at tree q
frame_at_push tree q = ap (λ l. frame_in l (q % 1024)) (leaf_at_push tree (q / 1024))

-- a leaf of no frames put where none stood
pub leaf_put : (old new : Tree) (first : ℕ) (b : Box Leaf Global) → first < length old → leaf_at old first ≡ None → ((j : ℕ) → frame_in (Some b.value) j ≡ None) → new ≡ set old first (Some b) → (q : ℕ) → frame_at new q ≡ frame_at old q
leaf_put old new first b h none empty e q =
    elim (eqb_tells (q / 1024) first) as (λ _. frame_at new q ≡ frame_at old q) [
      | inl s ↦ ap (λ p. frame_in (content_of p) (q % 1024)) (ap (slice_get new) s.1 ∙ ap (λ t. slice_get t first) e ∙ slice_get_set old first (Some b) h) ∙ empty (q % 1024) ∙ sym (ap (λ l. frame_in l (q % 1024)) (ap (leaf_at old) s.1 ∙ none))
      | inr s ↦ ap (λ p. frame_in (content_of p) (q % 1024)) (ap (λ t. slice_get t (q / 1024)) e ∙ slice_get_set_other old first (q / 1024) (Some b) s.1)
    ]
