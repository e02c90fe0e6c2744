-- One write after another.
use Rattle.std.proofs.Common.{◌≡◌, ℕ, ◌+◌, ◌<◌, ◌≤◌, List, [], ◌∷◌, ◌++◌, length, drop, get_or, refl, ap, ◌∙◌, sym, subst, append_assoc, Option, Result, Ok, Err}
use Rattle.std.proofs.lemmas.List.{drop_more, drop_all}
use Rattle.std.specs.List.{flat_map}
use Rattle.outside.specs.declared.traits.Failed.{Failed}
use Rattle.shell_text.specs.declared.writing.PrintFault.{PrintFault}
use Rattle.shell_text.specs.declared.writing.PrintFault.TheVariants as fault
use Rattle.shell_text.specs.Printing.{IsCall, AreWritten, FailsAt, BreaksAt, StopsBy, Prints}

module _ {S : Type 0} (w : S → Option (List ℕ)) (f : S → ℕ) where
  pub written_then : (xs ys : List (List ℕ)) (a b c : S) → AreWritten w f xs a b → AreWritten w f ys b c → AreWritten w f (xs ++ ys) a c
  written_then [] ys a b c h k = subst (λ s. AreWritten w f ys s c) h k
  written_then (x ∷ xs) ys a b c h k = (h.0, h.1, written_then xs ys h.0 b c h.2 k)

  pub prints_then : (xs ys : List (List ℕ)) (a b c : S) (r : Result (Unit {0}) PrintFault) → AreWritten w f xs a b → Prints w f ys b c r → Prints w f (xs ++ ys) a c r
  prints_then xs ys a b c (Ok u) h k = written_then xs ys a b c h k
  prints_then xs ys a b c (Err fault.Failed) h k = record {
    front = xs ++ k.front;
    piece = k.piece;
    rest = k.rest;
    mid = k.mid;
    e = k.e;
    parts = ap (λ t. xs ++ t) k.parts ∙ sym (append_assoc xs k.front (k.piece ∷ k.rest));
    before = written_then xs k.front a b k.mid h k.before;
    failed = k.failed;
  }
  prints_then xs ys a b c (Err fault.NoMemory) h k = record {
    front = xs ++ k.front;
    rest = k.rest;
    parts = ap (λ t. xs ++ t) k.parts ∙ sym (append_assoc xs k.front k.rest);
    before = written_then xs k.front a b c h k.before;
  }

  pub prints_front : (xs ys : List (List ℕ)) (a b : S) (e : PrintFault) → StopsBy w f xs a b e → StopsBy w f (xs ++ ys) a b e
  prints_front xs ys a b fault.Failed h = record {
    front = h.front;
    piece = h.piece;
    rest = h.rest ++ ys;
    mid = h.mid;
    e = h.e;
    parts = ap (λ t. t ++ ys) h.parts ∙ append_assoc h.front (h.piece ∷ h.rest) ys;
    before = h.before;
    failed = h.failed;
  }
  prints_front xs ys a b fault.NoMemory h = record {
    front = h.front;
    rest = h.rest ++ ys;
    parts = ap (λ t. t ++ ys) h.parts ∙ append_assoc h.front h.rest ys;
    before = h.before;
  }

  -- no piece was written
  pub stops_first : (xs : List (List ℕ)) (a : S) → BreaksAt w f xs a a
  stops_first xs a = record { front = []; rest = xs; parts = refl; before = refl }

  pub one_written : (x : List ℕ) (a b : S) → IsCall w f a x (Ok tt) b → AreWritten w f (x ∷ []) a b
  one_written x a b h = (b, h, refl)

  pub one_failed : (x : List ℕ) (a b : S) (e : Failed) → IsCall w f a x (Err e) b → FailsAt w f (x ∷ []) a b
  one_failed x a b e h = record { front = []; piece = x; rest = []; mid = a; e = e; parts = refl; before = refl; failed = h }

  -- whatever comes of the rest comes of the whole
  abbrev pub GoesOn : List (List ℕ) → S → List (List ℕ) → S → Type 0
  GoesOn whole start rest now = (new : S) (r : Result (Unit {0}) PrintFault) → Prints w f rest now new r → Prints w f whole start new r

  module _ {X : Type 0} (g : X → List (List ℕ)) (xs : List X) (whole : List (List ℕ)) (start : S) where
    flat_step : (i : ℕ) (x : X) → i < length xs → x ≡ get_or xs i x → flat_map g (drop i xs) ≡ g x ++ flat_map g (drop (i + 1) xs)
    flat_step i x h e = ap (flat_map g) (drop_more xs i x h) ∙ ap (λ y. g y ++ flat_map g (drop (i + 1) xs)) (sym e)

    pub loop_more : (i : ℕ) (x : X) (a b : S) → i < length xs → x ≡ get_or xs i x → GoesOn whole start (flat_map g (drop i xs)) a → AreWritten w f (g x) a b → GoesOn whole start (flat_map g (drop (i + 1) xs)) b
    loop_more i x a b h e k one new r rest =
        k new r (subst (λ ps. Prints w f ps a new r) (sym (flat_step i x h e)) (prints_then (g x) (flat_map g (drop (i + 1) xs)) a b new r one rest))

    pub loop_stops : (i : ℕ) (x : X) (a b : S) (e : PrintFault) → i < length xs → x ≡ get_or xs i x → GoesOn whole start (flat_map g (drop i xs)) a → StopsBy w f (g x) a b e → StopsBy w f whole start b e
    loop_stops i x a b e h s k one =
        k b (Err e) (subst (λ ps. StopsBy w f ps a b e) (sym (flat_step i x h s)) (prints_front (g x) (flat_map g (drop (i + 1) xs)) a b e one))

    pub loop_ends : (i : ℕ) (a : S) → length xs ≤ i → GoesOn whole start (flat_map g (drop i xs)) a → AreWritten w f whole start a
    loop_ends i a h k = k a (Ok tt) (subst (λ ps. AreWritten w f ps a a) (sym (ap (flat_map g) (drop_all i xs h))) refl)
