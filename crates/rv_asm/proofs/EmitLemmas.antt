-- The second pass, line by line.
use Rattle.std.proofs.Common.{◌≡◌, ℕ, List, ◌∷◌, ◌++◌, ◌+◌, ◌<◌, length, drop, get_or, subst, refl, ap, sym, ◌∙◌, Option, Some, None, Result, Ok, Err, append_assoc}
use mathlib.Core.Path.{fun_ext}
use Rattle.rv_asm.specs.Assembly.{prefixed, before_rest, line_bytes, bytes_from}
use Rattle.std.proofs.lemmas.List.{drop_more}
use Rattle.rv_asm.specs.Layout.{after_line}
use Rattle.rv_asm.specs.Emitting.{Emits}
use Rattle.rv_asm.specs.declared.fault.Fault.{Fault}
use Rattle.rv_asm.specs.declared.fault.FaultKind.{FaultKind}
use Rattle.rv_asm.specs.declared.layout.Definition.{Definition}
use Rattle.rv_asm.specs.declared.layout.Place.{Place}
use Rattle.rv_asm.specs.declared.line.Line.{Line}

prefixed-prefixed : (out bytes : List ℕ) (rest : Result (List ℕ) Fault) → prefixed out (prefixed bytes rest) ≡ prefixed (out ++ bytes) rest
prefixed-prefixed out bytes (Err fault) = refl
prefixed-prefixed out bytes (Ok more) = ap Ok (sym (append_assoc out bytes more))

-- the bytes of a line stand at the end, and the rest follows
pub emitted : (whole : Result (List ℕ) Fault) (r : Result (List ℕ) FaultKind) (out new : List ℕ) (n : ℕ) (rest : Result (List ℕ) Fault) → whole ≡ prefixed out (before_rest n r rest) → Emits r None out new → whole ≡ prefixed new rest
emitted whole (Ok bytes) out new n rest e h = e ∙ prefixed-prefixed out bytes rest ∙ ap (λ o. prefixed o rest) (sym h.1)
emitted whole (Err kind) out new n rest e h = cc

-- a line's fault is that of the whole
pub stopped : (whole : Result (List ℕ) Fault) (r : Result (List ℕ) FaultKind) (out new : List ℕ) (n : ℕ) (kind : FaultKind) (rest : Result (List ℕ) Fault) → whole ≡ prefixed out (before_rest n r rest) → Emits r (Some kind) out new → whole ≡ Err (record { line = n; kind = kind })
stopped whole (Ok bytes) out new n kind rest e h = let none = h.0 in cc
stopped whole (Err found) out new n kind rest e h = let same : found ≡ kind = cc in e ∙ ap (λ k. Err (record { line = n; kind = k })) same

module _ (labels : List ℕ → Option Definition) (n i : ℕ) (place : Place) (lines : List Line) (line : Line) (out new : List ℕ) (whole : Result (List ℕ) Fault) (fault : Option FaultKind) where
  -- the lines from line i on
  at_line : i < length lines → line ≡ get_or lines i line → whole ≡ prefixed out (bytes_from labels n place (drop i lines)) → whole ≡ prefixed out (before_rest n (line_bytes labels n place line) (bytes_from labels (n + 1) (after_line place line.body) (drop (i + 1) lines)))
  at_line h is e =
      e ∙ ap (λ ls. prefixed out (bytes_from labels n place ls)) (drop_more lines i line h ∙ ap (λ x. x ∷ drop (i + 1) lines) (sym is))

  pub emit_stops : (kind : FaultKind) → i < length lines → line ≡ get_or lines i line → whole ≡ prefixed out (bytes_from labels n place (drop i lines)) → fault ≡ Some kind → Emits (line_bytes labels n place line) fault out new → Err (record { line = n; kind = kind }) ≡ whole
  emit_stops kind h is e f k =
      sym (stopped whole (line_bytes labels n place line) out new n kind (bytes_from labels (n + 1) (after_line place line.body) (drop (i + 1) lines)) (at_line h is e) (subst (λ o. Emits (line_bytes labels n place line) o out new) f k))

  pub emit_goes_on : (behind : Place) → i < length lines → line ≡ get_or lines i line → whole ≡ prefixed out (bytes_from labels n place (drop i lines)) → fault ≡ None → Emits (line_bytes labels n place line) fault out new → behind ≡ after_line place line.body → whole ≡ prefixed new (bytes_from labels (n + 1) behind (drop (i + 1) lines))
  emit_goes_on behind h is e f k b =
      emitted whole (line_bytes labels n place line) out new n (bytes_from labels (n + 1) (after_line place line.body) (drop (i + 1) lines)) (at_line h is e) (subst (λ o. Emits (line_bytes labels n place line) o out new) f k) ∙ ap (λ q. prefixed new (bytes_from labels (n + 1) q (drop (i + 1) lines))) (sym b)

-- labels that name the same give the same bytes
pub same_labels : (f g : List ℕ → Option Definition) (n : ℕ) (place : Place) (lines : List Line) → ((name : List ℕ) → f name ≡ g name) → bytes_from f n place lines ≡ bytes_from g n place lines
same_labels f g n place lines h = ap (λ k. bytes_from k n place lines) (fun_ext h)
