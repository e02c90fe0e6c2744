-- The bytes of a text and the memory behind them end within the limit.
use Rattle.std.proofs.Common.{◌≡◌, inl, inr, ℕ, ◌+◌, ◌≤◌, List, [], ◌∷◌, ◌++◌, length, map, length-append, refl, ap, ◌∙◌, arith, Option, Result, Ok, Err, Bool, true, false, cond, ◌||◌, eqb}
use Rattle.std.proofs.lemmas.Bool.Decides.{eqb_tells}
use Rattle.rv_asm.specs.Layout.{after_line, is_bss}
use Rattle.rv_asm.specs.Lines.{line_of}
use Rattle.rv_asm.specs.Assembly.{limit, bss_of, bss_of_all, line_bytes, before_rest, bytes_from}
use Rattle.rv_asm.specs.declared.fault.Fault.{Fault}
use Rattle.rv_asm.specs.declared.fault.FaultKind.{FaultKind}
use Rattle.rv_asm.specs.declared.line.Line.{Line}
use Rattle.rv_asm.specs.declared.layout.Place.{Place}
use Rattle.rv_asm.specs.declared.layout.Definition.{Definition}
use Rattle.asm_laws.proofs.Lines.{fits_line}
use Rattle.asm_laws.proofs.Behind.{line_asks}

abbrev refused : Fault → Result (List ℕ) Fault
refused f = Err f

no_list : (f : Fault) (b : List ℕ) → refused f ≡ Ok b → ⊥
no_list f b e = cc

-- the bytes of a line and those of the rest
record Parts (r : Result (List ℕ) FaultKind) (rest : Result (List ℕ) Fault) (b : List ℕ) : Type 0 where
  head : List ℕ
  tail : List ℕ
  head_is : r ≡ Ok head
  tail_is : rest ≡ Ok tail
  both : b ≡ head ++ tail

parts_of : (n : ℕ) (r : Result (List ℕ) FaultKind) (rest : Result (List ℕ) Fault) (b : List ℕ) → before_rest n r rest ≡ Ok b → Parts r rest b
parts_of n (Err kind) rest b e = absurd (no_list _ b e)
parts_of n (Ok h) (Err fault) b e = absurd (no_list fault b e)
parts_of n (Ok h) (Ok t) b e = record { head = h; tail = t; head_is = refl; tail_is = refl; both = cc }

or_left : (a b : Bool) → a ≡ true → (a || b) ≡ true
or_left true b e = refl
or_left false b e = cc

or_right : (a b : Bool) → b ≡ true → (a || b) ≡ true
or_right true b e = refl
or_right false b e = e

asked_none : (lines : List Line) (n : ℕ) → n ≡ 0 → cond (eqb n 0) (bss_of_all lines) n ≡ bss_of_all lines
asked_none lines n e = ap (λ m. cond (eqb m 0) (bss_of_all lines) m) e

asked_some : (rest n : ℕ) → eqb n 0 ≡ false → cond (eqb n 0) rest n ≡ n
asked_some rest n e = ap (λ b. cond b rest n) e

module _ (labels : List ℕ → Option Definition) where
  -- behind a `.bss` stands nothing
  nothing_behind : (n : ℕ) (place : Place) (lines : List Line) (b : List ℕ) → place.address ≤ limit → place.closed ≡ true → bytes_from labels n place lines ≡ Ok b → (length b ≡ 0) × (bss_of_all lines ≡ 0)
  nothing_behind n place [] b h c e = let same : b ≡ [] = cc in (ap length same, refl)
  nothing_behind n place (line ∷ lines) b h c e =
      let next = after_line place line.body in
      let p = parts_of n (line_bytes labels n place line) (bytes_from labels (n + 1) next lines) b e in
      let fits = fits_line labels n place line p.head h p.head_is in
      let none = fits.shut c in
      let size = fits.size in
      let room = fits.room in
      let low : next.address ≤ limit = omega arith in
      let more = nothing_behind (n + 1) next lines p.tail low (or_left place.closed (is_bss line.body) c) p.tail_is in
      let long = ap length p.both ∙ length-append p.head p.tail in
      (omega (arith, long, more.0, none.0, size), asked_none lines (bss_of line.body) none.1 ∙ more.1)

  pub ends_within : (n : ℕ) (place : Place) (pieces : List (List ℕ)) (b : List ℕ) → place.address ≤ limit → bytes_from labels n place (map line_of pieces) ≡ Ok b → place.address + length b + bss_of_all (map line_of pieces) ≤ limit
  ends_within n place [] b h e = let same : b ≡ [] = cc in omega (arith, ap length same)
  ends_within n place (piece ∷ pieces) b h e =
      let line = line_of piece in
      let lines = map line_of pieces in
      let next = after_line place line.body in
      let p = parts_of n (line_bytes labels n place line) (bytes_from labels (n + 1) next lines) b e in
      let fits = fits_line labels n place line p.head h p.head_is in
      let size = fits.size in
      let room = fits.room in
      let low : next.address ≤ limit = omega arith in
      let long = ap length p.both ∙ length-append p.head p.tail in
      elim (eqb_tells (bss_of line.body) 0) as (λ _. place.address + length b + bss_of_all (line ∷ lines) ≤ limit) [
        | inl none ↦
            let more = ends_within (n + 1) next pieces p.tail low p.tail_is in
            let all = asked_none lines (bss_of line.body) none.1 in
            omega (arith, long, more, all, size, none.1)
        | inr some ↦
            let shut : next.closed ≡ true = elim (line_asks piece) as (λ _. next.closed ≡ true) [
              | inl is ↦ or_right place.closed (is_bss line.body) is
              | inr none ↦ absurd (some.1 none)
            ] in
            let more = nothing_behind (n + 1) next lines p.tail low shut p.tail_is in
            let all = asked_some (bss_of_all lines) (bss_of line.body) some.0 in
            omega (arith, long, more.0, all, size)
      ]
