-- How many bytes a line gives, and where it ends.
use Rattle.std.proofs.Common.{◌≡◌, ℕ, ◌+◌, ◌≤◌, List, [], length, refl, ap, ◌∙◌, arith, Option, Some, None, Result, Ok, Err, Bool, true, false, cond, ◌||◌, ◌&&◌, not, nat_lt, ◌==◌, ◌%◌, ℤ}
use Rattle.std.proofs.lemmas.Bool.Decides.{nat_tests}
use Rattle.std.proofs.lemmas.List.{length-replicate}
use Rattle.rv_asm.specs.Keywords.{or_else, is_instruction}
use Rattle.rv_asm.specs.Layout.{padding, statement_size, size_of}
use Rattle.rv_asm.specs.Code.{code_of, branch_by, branch_to, jump_by, jump_to, address_of}
use Rattle.rv_asm.specs.Assembly.{limit, fault_of_place, statement_bytes, read_bytes, then_unless, unless, body_bytes, line_bytes, bss_of, fault_of_end}
use Rattle.rv_asm.specs.declared.fault.FaultKind.{FaultKind}
use Rattle.rv_asm.specs.declared.fault.FaultKind.TheVariants.{TooLong, BadOperand}
use Rattle.rv_asm.specs.declared.keyword.Keyword.{Keyword}
use Rattle.rv_asm.specs.declared.keyword.BranchOp.{BranchOp}
use Rattle.rv_asm.specs.declared.statement.Statement.{Statement}
use Rattle.rv_asm.specs.declared.statement.Statement.TheVariants.{Instruction, Branch, Jump, Address, Number, Call, Word, Byte, Text, Space, Align, Bss}
use Rattle.rv_asm.specs.declared.line.Line.{Line}
use Rattle.rv_asm.specs.declared.line.Body.{Body}
use Rattle.rv_asm.specs.declared.line.Body.TheVariants.{Empty, Unknown, Known}
use Rattle.rv_asm.specs.declared.layout.Place.{Place}
use Rattle.rv_asm.specs.declared.layout.Definition.{Definition}

-- ---- an outcome that is no fault

abbrev Outcome : Type 0
Outcome = Result (List ℕ) FaultKind

abbrev refused : FaultKind → Outcome
refused f = Err f

abbrev given : List ℕ → Outcome
given b = Ok b

no_bytes : (f : FaultKind) (b : List ℕ) → refused f ≡ given b → ⊥
no_bytes f b e = cc

pub unless_none : (o : Option FaultKind) (r : Outcome) (b : List ℕ) → unless o r ≡ Ok b → o ≡ None
unless_none None r b e = refl
unless_none (Some f) r b e = absurd (no_bytes f b e)

pub unless_ok : (o : Option FaultKind) (r : Outcome) (b : List ℕ) → unless o r ≡ Ok b → r ≡ Ok b
unless_ok None r b e = e
unless_ok (Some f) r b e = absurd (no_bytes f b e)

then_ok : (r : Outcome) (later : Option FaultKind) (b : List ℕ) → then_unless r later ≡ Ok b → r ≡ Ok b
then_ok (Err f) later b e = e
then_ok (Ok a) None b e = e
then_ok (Ok a) (Some f) b e = absurd (no_bytes f b e)

then_none : (r : Outcome) (later : Option FaultKind) (b : List ℕ) → then_unless r later ≡ Ok b → later ≡ None
then_none (Err f) later b e = absurd (no_bytes f b e)
then_none (Ok a) None b e = refl
then_none (Ok a) (Some f) b e = absurd (no_bytes f b e)

later_none : (extra later : Option FaultKind) → or_else extra later ≡ None → later ≡ None
later_none None later e = e
later_none (Some f) later e = cc

-- ---- the bytes of a statement

same_length : (xs b : List ℕ) (n : ℕ) → given xs ≡ given b → length xs ≡ n → length b ≡ n
same_length xs b n e h = let same : b ≡ xs = cc in ap length same ∙ h

module _ (address : ℕ) (b : List ℕ) where
  branch_made : (op : BranchOp) (rs1 rs2 : ℕ) (label : List ℕ) (offset : Option ℤ) → statement_bytes address (Branch op rs1 rs2 label) (branch_by op rs1 rs2 offset) ≡ Ok b → length b ≡ 4
  branch_made op rs1 rs2 label None e = cc
  branch_made op rs1 rs2 label (Some offset) e = same_length _ b 4 e refl

  branch_length : (op : BranchOp) (rs1 rs2 : ℕ) (label : List ℕ) (d : Option Definition) → statement_bytes address (Branch op rs1 rs2 label) (branch_to op rs1 rs2 address d) ≡ Ok b → length b ≡ 4
  branch_length op rs1 rs2 label None e = cc
  branch_length op rs1 rs2 label (Some d) e = branch_made op rs1 rs2 label _ e

  jump_made : (rd : ℕ) (label : List ℕ) (offset : Option ℤ) → statement_bytes address (Jump rd label) (jump_by rd offset) ≡ Ok b → length b ≡ 4
  jump_made rd label None e = cc
  jump_made rd label (Some offset) e = same_length _ b 4 e refl

  jump_length : (rd : ℕ) (label : List ℕ) (d : Option Definition) → statement_bytes address (Jump rd label) (jump_to rd address d) ≡ Ok b → length b ≡ 4
  jump_length rd label None e = cc
  jump_length rd label (Some d) e = jump_made rd label _ e

  address_length : (rd : ℕ) (label : List ℕ) (d : Option Definition) → statement_bytes address (Address rd label) (address_of rd d) ≡ Ok b → length b ≡ 8
  address_length rd label None e = cc
  address_length rd label (Some d) e = same_length _ b 8 e refl

  statement_length : (labels : List ℕ → Option Definition) (s : Statement) → statement_bytes address s (code_of labels address s) ≡ Ok b → length b ≡ statement_size address s
  statement_length labels (Instruction i) e = same_length _ b 4 e refl
  statement_length labels (Branch op rs1 rs2 label) e = branch_length op rs1 rs2 label (labels label) e
  statement_length labels (Jump rd label) e = jump_length rd label (labels label) e
  statement_length labels (Address rd label) e = address_length rd label (labels label) e
  statement_length labels (Number rd word) e = same_length _ b 8 e refl
  statement_length labels (Call number) e = same_length _ b 12 e refl
  statement_length labels (Word word) e = same_length _ b 4 e refl
  statement_length labels (Byte byte) e = same_length _ b 1 e refl
  statement_length labels (Text bytes) e = same_length _ b (length bytes) e refl
  statement_length labels (Space n) e = same_length _ b n e (length-replicate {A = ℕ} n 0)
  statement_length labels Align e = same_length _ b (padding address) e (length-replicate {A = ℕ} (padding address) 0)
  statement_length labels (Bss n) e = same_length _ b 0 e refl

  read_length : (labels : List ℕ → Option Definition) (keyword : Keyword) (s : Result Statement FaultKind) (extra : Option FaultKind) → read_bytes labels address s ≡ Ok b → length b ≡ size_of address (Known keyword s extra)
  read_length labels keyword (Err f) extra e = absurd (no_bytes f b e)
  read_length labels keyword (Ok s) extra e = statement_length labels s e

-- ---- the bytes of a line

within : (most n : ℕ) → cond (nat_lt most n) (Some TooLong) None ≡ None → n ≤ most
within most n e = grind (arith, nat_tests)

not_closed : (c rest : Bool) → cond (c || rest) (Some BadOperand) None ≡ None → c ≡ true → ⊥
not_closed true rest e t = cc
not_closed false rest e t = cc

-- what is known of a line that has no fault
pub record Fits (place : Place) (body : Body) (b : List ℕ) : Type 0 where
  pub size : length b ≡ size_of place.address body
  pub room : place.address + size_of place.address body + bss_of body ≤ limit
  pub shut : place.closed ≡ true → (size_of place.address body ≡ 0) × (bss_of body ≡ 0)

fits_known : (labels : List ℕ → Option Definition) (place : Place) (keyword : Keyword) (s : Result Statement FaultKind) (extra : Option FaultKind) (b : List ℕ) → body_bytes labels place (Known keyword s extra) ≡ Ok b → Fits place (Known keyword s extra) b
fits_known labels place keyword s extra b e =
    let body = Known keyword s extra in
    let later = or_else extra (fault_of_end place body) in
    let here = fault_of_place place keyword in
    let rest = unless_ok here (then_unless (read_bytes labels place.address s) later) b e in
    record {
      size = read_length place.address b labels keyword s extra (then_ok (read_bytes labels place.address s) later b rest);
      room = within limit (place.address + size_of place.address body + bss_of body) (later_none extra (fault_of_end place body) (then_none (read_bytes labels place.address s) later b rest));
      shut = λ t. absurd (not_closed place.closed (is_instruction keyword && not (place.address % 4 == 0)) (unless_none here (then_unless (read_bytes labels place.address s) later) b e) t);
    }

pub fits_body : (labels : List ℕ → Option Definition) (place : Place) (body : Body) (b : List ℕ) → place.address ≤ limit → body_bytes labels place body ≡ Ok b → Fits place body b
fits_body labels place Empty b h e = record { size = same_length [] b 0 e refl; room = omega arith; shut = λ t. (refl, refl) }
fits_body labels place Unknown b h e = absurd (no_bytes _ b e)
fits_body labels place (Known keyword s extra) b h e = fits_known labels place keyword s extra b e

pub fits_line : (labels : List ℕ → Option Definition) (n : ℕ) (place : Place) (line : Line) (b : List ℕ) → place.address ≤ limit → line_bytes labels n place line ≡ Ok b → Fits place line.body b
fits_line labels n place line b h e = fits_body labels place line.body b h (unless_ok _ (body_bytes labels place line.body) b e)
