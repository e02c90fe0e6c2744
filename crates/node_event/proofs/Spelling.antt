-- What is read is spelled so, and what is spelled so is read: of a word, of a field, and of fields one behind the other.
use Rattle.std.proofs.Common.{◌≡◌, ℕ, Bool, true, false, cond, List, [], ◌∷◌, ◌++◌, length, Option, Some, None, IfSome, ◌==◌, refl, sym, ◌∙◌, ap, subst, arith, append_assoc, append-nil, ◌⊎◌, inl, inr}
use Rattle.std.proofs.lemmas.Bool.{eqb-true}
use Rattle.std.proofs.lemmas.List.{take-append-drop}
use Rattle.std.proofs.Math.Seq.{take-append_seam, drop-append_seam}
use Rattle.std.proofs.lemmas.Option.{same_Some, some_pair_parts}
use Rattle.std.proofs.lemmas.Slice.Eq.{bytes_eq-Decides}
use Rattle.std.specs.Prelude.{codes}
use Rattle.std.specs.Option.{option_map}
use Rattle.std.specs.Str.{bytes_eq}
use Rattle.node_event.specs.Lines.{optional}
use Rattle.node_event.specs.Reading.{maybe, named, blank_at, word_at, field_at, with_rest, of_field, field, paired, second, both, at_end, ended, whole}

-- ---- tests and options

-- which way a test went
pub chosen : {A : Type 0} (b : Bool) (x y z : A) → cond b x y ≡ z → ((b ≡ true) × (x ≡ z)) ⊎ ((b ≡ false) × (y ≡ z))
chosen true x y z e = inl (refl, e)
chosen false x y z e = inr (refl, e)

pub mapped_some : {A B : Type 0} (f : A → B) (o : Option A) (y : B) → option_map f o ≡ Some y → (x : A) × (o ≡ Some x) × (f x ≡ y)
mapped_some f None y e = absurd (cc)
mapped_some f (Some x) y e = (x, refl, same_Some _ _ e)

-- ---- blanks

abbrev pub no_blank : List ℕ → Bool
no_blank [] = true
no_blank (byte ∷ bytes) = cond (byte == 32) false (no_blank bytes)

-- nothing, or a blank first
abbrev pub begins_blank : List ℕ → Bool
begins_blank [] = true
begins_blank (byte ∷ bytes) = byte == 32

-- a word without blanks ends at the blank behind it
blank_at-word : (word rest : List ℕ) → no_blank word ≡ true → begins_blank rest ≡ true → blank_at (word ++ rest) ≡ length word
blank_at-word [] [] solid ends = refl
blank_at-word [] (byte ∷ rest) solid ends = rw ends refl
blank_at-word (byte ∷ word) rest solid ends =
    elim (chosen (byte == 32) false (no_blank word) true solid) [
      | inl h ↦ absurd (cc (h.1))
      | inr h ↦ rw (h.0, blank_at-word word rest h.1 ends) (omega arith)
    ]

pub word_at-word : (word rest : List ℕ) → no_blank word ≡ true → begins_blank rest ≡ true → word_at (word ++ rest) ≡ (word, rest)
word_at-word word rest solid ends = rw (blank_at-word word rest solid ends, take-append_seam word rest, drop-append_seam word rest) refl

-- the two parts are the whole
pub word_at-whole : (bytes : List ℕ) → (word_at bytes).0 ++ (word_at bytes).1 ≡ bytes
word_at-whole bytes = take-append-drop (blank_at bytes) bytes

-- ---- words

pub record Reads {X : Type 0} (text : X → List ℕ) (Fits : X → Type 0) (of : List ℕ → Option X) : Type 0 where
  pub takes : (word : List ℕ) (x : X) → of word ≡ Some x → (text x ≡ word) × Fits x
  pub again : (x : X) → Fits x → of (text x) ≡ Some x
  pub solid : (x : X) → Fits x → no_blank (text x) ≡ true

-- no value is spelled as `-`
abbrev pub NoDash : {X : Type 0} → (X → List ℕ) → (X → Type 0) → Type 0
NoDash {X} text Fits = (x : X) → Fits x → bytes_eq (text x) (codes "-") ≡ false

maybe_takes : {X : Type 0} {text : X → List ℕ} {Fits : X → Type 0} {of : List ℕ → Option X} → Reads text Fits of → (word : List ℕ) (o : Option X) → maybe of word ≡ Some o → (optional text o ≡ word) × IfSome o Fits
maybe_takes {X = X} {text = text} {Fits = Fits} {of = of} reads word o e =
    let P : Option X → Type 0 = λ o. (optional text o ≡ word) × IfSome o Fits in
    elim (chosen (bytes_eq word (codes "-")) (Some None) (option_map Some (of word)) (Some o) e) [
      | inl h ↦ subst P (same_Some _ _ h.1) (sym ((bytes_eq-Decides word (codes "-")).0 h.0), tt)
      | inr h ↦ let found = mapped_some Some (of word) o h.1 in subst P found.2 (reads.takes word found.0 found.1)
    ]

maybe_again : {X : Type 0} {text : X → List ℕ} {Fits : X → Type 0} {of : List ℕ → Option X} → Reads text Fits of → NoDash text Fits → (o : Option X) → IfSome o Fits → maybe of (optional text o) ≡ Some o
maybe_again reads dash None fits = refl
maybe_again reads dash (Some x) fits = rw (dash x fits, reads.again x fits) refl

maybe_solid : {X : Type 0} {text : X → List ℕ} {Fits : X → Type 0} {of : List ℕ → Option X} → Reads text Fits of → (o : Option X) → IfSome o Fits → no_blank (optional text o) ≡ true
maybe_solid reads None fits = refl
maybe_solid reads (Some x) fits = reads.solid x fits

pub maybe_reads : {X : Type 0} {text : X → List ℕ} {Fits : X → Type 0} {of : List ℕ → Option X} → Reads text Fits of → NoDash text Fits → Reads (optional text) (λ o. IfSome o Fits) (maybe of)
maybe_reads reads dash = record { takes = maybe_takes reads; again = maybe_again reads dash; solid = maybe_solid reads }

-- ---- fields

pub record Spells {X : Type 0} (text : X → List ℕ) (Fits : X → Type 0) (read : List ℕ → Option (X × List ℕ)) : Type 0 where
  pub takes : (bytes : List ℕ) (x : X) (rest : List ℕ) → read bytes ≡ Some (x, rest) → (bytes ≡ text x ++ rest) × Fits x
  pub again : (x : X) (rest : List ℕ) → Fits x → begins_blank rest ≡ true → read (text x ++ rest) ≡ Some (x, rest)
  pub blank : (x : X) (rest : List ℕ) → begins_blank (text x ++ rest) ≡ true

with_rest_some : {X : Type 0} (o : Option X) (behind : List ℕ) (x : X) (rest : List ℕ) → with_rest o behind ≡ Some (x, rest) → (o ≡ Some x) × (behind ≡ rest)
with_rest_some None behind x rest e = absurd (cc)
with_rest_some (Some y) behind x rest e = let parts = some_pair_parts _ _ _ _ e in (ap Some parts.0, parts.1)

-- a field that was read: its word
pub of_field_some : {X : Type 0} (of : List ℕ → Option X) (o : Option (List ℕ × List ℕ)) (x : X) (rest : List ℕ) → of_field of o ≡ Some (x, rest) → (word : List ℕ) × (o ≡ Some (word, rest)) × (of word ≡ Some x)
of_field_some of None x rest e = absurd (cc)
of_field_some of (Some f) x rest e =
    let parts = with_rest_some (of f.0) f.1 x rest e in
    (f.0, ap (λ (r : List ℕ). Some (f.0, r)) parts.1, parts.0)

pub field_at_some : (bytes word rest : List ℕ) → field_at bytes ≡ Some (word, rest) → bytes ≡ 32 ∷ (word ++ rest)
field_at_some [] word rest e = absurd (cc)
field_at_some (byte ∷ bytes) word rest e =
    elim (chosen (byte == 32) (Some (word_at bytes)) None (Some (word, rest)) e) [
      | inl h ↦ let parts = some_pair_parts _ _ _ _ h.1 in
          rw (eqb-true byte 32 h.0, sym (word_at-whole bytes)) (rw (parts.0, parts.1) refl)
      | inr h ↦ absurd (cc (h.1))
    ]

pub field_at-word : (word rest : List ℕ) → no_blank word ≡ true → begins_blank rest ≡ true → field_at (32 ∷ (word ++ rest)) ≡ Some (word, rest)
field_at-word word rest solid ends = ap Some (word_at-word word rest solid ends)

field_takes : {X : Type 0} {text : X → List ℕ} {Fits : X → Type 0} {of : List ℕ → Option X} → Reads text Fits of → (bytes : List ℕ) (x : X) (rest : List ℕ) → field of bytes ≡ Some (x, rest) → (bytes ≡ 32 ∷ (text x ++ rest)) × Fits x
unfolding field
field_takes {of = of} reads bytes x rest e =
    let found = of_field_some of (field_at bytes) x rest e in
    let taken = reads.takes found.0 x found.2 in
    (rw (taken.0) (field_at_some bytes found.0 rest found.1), taken.1)

field_again : {X : Type 0} {text : X → List ℕ} {Fits : X → Type 0} {of : List ℕ → Option X} → Reads text Fits of → (x : X) (rest : List ℕ) → Fits x → begins_blank rest ≡ true → field of (32 ∷ (text x ++ rest)) ≡ Some (x, rest)
unfolding field
field_again {text = text} {of = of} reads x rest fits ends =
    ap (of_field of) (field_at-word (text x) rest (reads.solid x fits) ends) ∙ ap (λ o. with_rest o rest) (reads.again x fits)

pub field_spells : {X : Type 0} {text : X → List ℕ} {Fits : X → Type 0} {of : List ℕ → Option X} → Reads text Fits of → Spells (λ x. 32 ∷ text x) Fits (field of)
field_spells reads = record { takes = field_takes reads; again = field_again reads; blank = λ x rest. refl }

-- ---- one behind the other

paired_some : {A B : Type 0} (x : A) (o : Option (B × List ℕ)) (p : A × B) (rest : List ℕ) → paired x o ≡ Some (p, rest) → (x ≡ p.0) × (o ≡ Some (p.1, rest))
paired_some x None p rest e = absurd (cc)
paired_some {A = A} {B = B} x (Some y) p rest e =
    let parts = some_pair_parts _ _ _ _ e in
    (ap (λ (q : A × B). q.0) parts.0, rw (← parts.1) (ap (λ (q : A × B). Some (q.1, y.1)) parts.0))

pub second_some : {A B : Type 0} (next : List ℕ → Option (B × List ℕ)) (o : Option (A × List ℕ)) (p : A × B) (rest : List ℕ) → second next o ≡ Some (p, rest) → (middle : List ℕ) × (o ≡ Some (p.0, middle)) × (next middle ≡ Some (p.1, rest))
second_some next None p rest e = absurd (cc)
second_some {A = A} next (Some x) p rest e =
    let parts = paired_some x.0 (next x.1) p rest e in
    (x.1, ap (λ (q : A). Some (q, x.1)) parts.0, parts.1)

both_takes : {A B : Type 0} {t : A → List ℕ} {u : B → List ℕ} {F : A → Type 0} {G : B → Type 0} {first : List ℕ → Option (A × List ℕ)} {next : List ℕ → Option (B × List ℕ)} → Spells t F first → Spells u G next → (bytes : List ℕ) (p : A × B) (rest : List ℕ) → both first next bytes ≡ Some (p, rest) → (bytes ≡ (t p.0 ++ u p.1) ++ rest) × (F p.0 × G p.1)
both_takes {t = t} {u = u} {first = first} {next = next} a b bytes p rest e =
    let found = second_some next (first bytes) p rest e in
    let front = a.takes bytes p.0 found.0 found.1 in
    let back = b.takes found.0 p.1 rest found.2 in
    (front.0 ∙ ap (λ m. t p.0 ++ m) back.0 ∙ sym (append_assoc (t p.0) (u p.1) rest), (front.1, back.1))

both_again : {A B : Type 0} {t : A → List ℕ} {u : B → List ℕ} {F : A → Type 0} {G : B → Type 0} {first : List ℕ → Option (A × List ℕ)} {next : List ℕ → Option (B × List ℕ)} → Spells t F first → Spells u G next → (p : A × B) (rest : List ℕ) → F p.0 × G p.1 → begins_blank rest ≡ true → both first next ((t p.0 ++ u p.1) ++ rest) ≡ Some (p, rest)
both_again {t = t} {u = u} a b p rest fits ends =
    rw (append_assoc (t p.0) (u p.1) rest, a.again p.0 (u p.1 ++ rest) fits.0 (b.blank p.1 rest), b.again p.1 rest fits.1 ends) refl

both_blank : {A B : Type 0} {t : A → List ℕ} {u : B → List ℕ} {F : A → Type 0} {G : B → Type 0} {first : List ℕ → Option (A × List ℕ)} {next : List ℕ → Option (B × List ℕ)} → Spells t F first → Spells u G next → (p : A × B) (rest : List ℕ) → begins_blank ((t p.0 ++ u p.1) ++ rest) ≡ true
both_blank {t = t} {u = u} a b p rest = rw (append_assoc (t p.0) (u p.1) rest) (a.blank p.0 (u p.1 ++ rest))

pub both_spells : {A B : Type 0} {t : A → List ℕ} {u : B → List ℕ} {F : A → Type 0} {G : B → Type 0} {first : List ℕ → Option (A × List ℕ)} {next : List ℕ → Option (B × List ℕ)} → Spells t F first → Spells u G next → Spells (λ p. t p.0 ++ u p.1) (λ p. F p.0 × G p.1) (both first next)
both_spells a b = record { takes = both_takes a b; again = both_again a b; blank = both_blank a b }

-- ---- to the end of a line

at_end_some : {A : Type 0} (x : A) (rest : List ℕ) (y : A) → at_end x rest ≡ Some y → (rest ≡ []) × (x ≡ y)
at_end_some x [] y e = (refl, same_Some _ _ e)
at_end_some x (byte ∷ bytes) y e = absurd (cc)

ended_some : {A B : Type 0} (make : A → B) (o : Option (A × List ℕ)) (y : B) → ended make o ≡ Some y → (x : A) × (o ≡ Some (x, [])) × (make x ≡ y)
ended_some make None y e = absurd (cc)
ended_some make (Some f) y e =
    let parts = at_end_some (make f.0) f.1 y e in
    (f.0, ap (λ (r : List ℕ). Some (f.0, r)) parts.0, parts.1)

-- what was read to the end is made of fields that are spelled so
pub whole_takes : {A B : Type 0} {text : A → List ℕ} {Fits : A → Type 0} {read : List ℕ → Option (A × List ℕ)} → Spells text Fits read → (make : A → B) (bytes : List ℕ) (y : B) (P : B → List ℕ → Type 0) → whole make read bytes ≡ Some y → ((x : A) → Fits x → P (make x) (text x)) → P y bytes
whole_takes {B = B} {text = text} {read = read} spells make bytes y P e each =
    let found = ended_some make (read bytes) y e in
    let taken = spells.takes bytes found.0 [] found.1 in
    let spelled : bytes ≡ text found.0 = taken.0 ∙ append-nil (text found.0) in
    subst (λ (z : B). P z bytes) found.2 (subst (λ (bs : List ℕ). P (make found.0) bs) (sym spelled) (each found.0 taken.1))

-- fields that are spelled so are read to the end
pub whole_again : {A B : Type 0} {text : A → List ℕ} {Fits : A → Type 0} {read : List ℕ → Option (A × List ℕ)} → Spells text Fits read → (make : A → B) (x : A) → Fits x → whole make read (text x) ≡ Some (make x)
whole_again {text = text} {read = read} spells make x fits =
    let found : read (text x) ≡ Some (x, []) = rw (← append-nil (text x)) (spells.again x [] fits refl) in
    rw found refl

-- ---- tables of words

-- P holds of each word of the table with its value
abbrev pub EachNamed : {A : Type 0} → (List ℕ → A → Type 0) → List (List ℕ × A) → Type 0
EachNamed P [] = Unit {0}
EachNamed P (entry ∷ entries) = P entry.0 entry.1 × EachNamed P entries

pub named_takes : {A : Type 0} (P : List ℕ → A → Type 0) (table : List (List ℕ × A)) (word : List ℕ) (x : A) → EachNamed P table → named table word ≡ Some x → P word x
named_takes P [] word x each e = absurd (cc)
named_takes {A} P (entry ∷ entries) word x each e =
    elim (chosen (bytes_eq word entry.0) (Some entry.1) (named entries word) (Some x) e) [
      | inl h ↦ subst (λ (y : A). P word y) (same_Some _ _ h.1) (subst (λ (w : List ℕ). P w entry.1) (sym ((bytes_eq-Decides word entry.0).0 h.0)) each.0)
      | inr h ↦ named_takes P entries word x each.1 h.1
    ]
