-- Only a `.bss` asks for memory behind the file's bytes.
use Rattle.std.proofs.Common.{◌≡◌, ◌⊎◌, inl, inr, ℕ, ◌+◌, List, refl, Option, Some, None, Result, Ok, Err, Bool, true, false, cond, length, take, drop, eqb}
use Rattle.rv_asm.specs.Lexing.{trimmed, uncommented, label_end, word_end, past_blanks, operands_of}
use Rattle.rv_asm.specs.Keywords.{keyword_named}
use Rattle.rv_asm.specs.Layout.{is_bss_word, is_bss}
use Rattle.rv_asm.specs.Lines.{known, body_of, with_label, line_of}
use Rattle.rv_asm.specs.Assembly.{statement_bss, read_bss, bss_of}
use Rattle.rv_asm.specs.Statements.{one, two, three, statement_of, register_form, immediate_form, shift_form, load_form, store_form, upper_form, jalr_form, move_form, register_at, immediate_at, shift_at, upper_at, word_at, byte_at, size_at, place_at, label_at, text_at}
use Rattle.rv_asm.specs.declared.fault.FaultKind.{FaultKind}
use Rattle.rv_asm.specs.declared.keyword.Keyword.{Keyword}
use Rattle.rv_asm.specs.declared.keyword.Keyword.TheVariants as keyword
use Rattle.rv_asm.specs.declared.statement.Statement.{Statement}
use Rattle.rv_asm.specs.declared.statement.Statement.TheVariants.{Branch, Jump, Address, Number, Call, Word, Byte, Text, Space}
use Rattle.rv_asm.specs.declared.line.Body.{Body}
use Rattle.rv_asm.specs.declared.line.Body.TheVariants.{Empty}

one_none : {A : Type 0} (f : A → Statement) (a : Result A FaultKind) → ((x : A) → statement_bss (f x) ≡ 0) → read_bss (one f a) ≡ 0
one_none f (Err e) h = refl
one_none f (Ok a) h = h a

two_none : {A B : Type 0} (f : A → B → Statement) (a : Result A FaultKind) (b : Result B FaultKind) → ((x : A) (y : B) → statement_bss (f x y) ≡ 0) → read_bss (two f a b) ≡ 0
two_none f (Err e) b h = refl
two_none f (Ok a) (Err e) h = refl
two_none f (Ok a) (Ok b) h = h a b

three_none : {A B C : Type 0} (f : A → B → C → Statement) (a : Result A FaultKind) (b : Result B FaultKind) (c : Result C FaultKind) → ((x : A) (y : B) (z : C) → statement_bss (f x y z) ≡ 0) → read_bss (three f a b c) ≡ 0
three_none f (Err e) b c h = refl
three_none f (Ok a) (Err e) c h = refl
three_none f (Ok a) (Ok b) (Err e) h = refl
three_none f (Ok a) (Ok b) (Ok c) h = h a b c

-- a line that asks for memory behind the bytes is a `.bss`
abbrev pub Asks : Body → Type 0
Asks body = (is_bss body ≡ true) ⊎ (bss_of body ≡ 0)

word_asks : (k : Keyword) (xs : List (List ℕ)) → (is_bss_word k ≡ true) ⊎ (read_bss (statement_of k xs) ≡ 0)
word_asks (keyword.Register op) xs = inr (three_none (register_form op) (register_at xs 0) (register_at xs 1) (register_at xs 2) (λ x y z. refl))
word_asks (keyword.Immediate op) xs = inr (three_none (immediate_form op) (register_at xs 0) (register_at xs 1) (immediate_at xs 2) (λ x y z. refl))
word_asks (keyword.Shift op) xs = inr (three_none (shift_form op) (register_at xs 0) (register_at xs 1) (shift_at xs 2) (λ x y z. refl))
word_asks (keyword.Load op) xs = inr (two_none (load_form op) (register_at xs 0) (place_at xs 1) (λ x y. refl))
word_asks (keyword.Store op) xs = inr (two_none (store_form op) (register_at xs 0) (place_at xs 1) (λ x y. refl))
word_asks (keyword.Branch op) xs = inr (three_none (Branch op) (register_at xs 0) (register_at xs 1) (label_at xs 2) (λ x y z. refl))
word_asks (keyword.Upper op) xs = inr (two_none (upper_form op) (register_at xs 0) (upper_at xs 1) (λ x y. refl))
word_asks (keyword.Plain op) xs = inr refl
word_asks keyword.Jal xs = inr (two_none Jump (register_at xs 0) (label_at xs 1) (λ x y. refl))
word_asks keyword.Jalr xs = inr (two_none jalr_form (register_at xs 0) (place_at xs 1) (λ x y. refl))
word_asks keyword.J xs = inr (one_none (Jump 0) (label_at xs 0) (λ x. refl))
word_asks keyword.Li xs = inr (two_none Number (register_at xs 0) (word_at xs 1) (λ x y. refl))
word_asks keyword.La xs = inr (two_none Address (register_at xs 0) (label_at xs 1) (λ x y. refl))
word_asks keyword.Mv xs = inr (two_none move_form (register_at xs 0) (register_at xs 1) (λ x y. refl))
word_asks keyword.Sys xs = inr (one_none Call (size_at xs 0) (λ x. refl))
word_asks keyword.Word xs = inr (one_none Word (word_at xs 0) (λ x. refl))
word_asks keyword.Byte xs = inr (one_none Byte (byte_at xs 0) (λ x. refl))
word_asks keyword.Space xs = inr (one_none Space (size_at xs 0) (λ x. refl))
word_asks keyword.Ascii xs = inr (one_none Text (text_at xs 0) (λ x. refl))
word_asks keyword.Align xs = inr refl
word_asks keyword.Bss xs = inl refl

known_asks : (o : Option Keyword) (operands : List ℕ) → Asks (known o operands)
known_asks None operands = inr refl
known_asks (Some k) operands = word_asks k (operands_of operands)

either_asks : (empty : Bool) (o : Option Keyword) (operands : List ℕ) → Asks (cond empty Empty (known o operands))
either_asks true o operands = inr refl
either_asks false o operands = known_asks o operands

body_asks : (bytes : List ℕ) → Asks (body_of bytes)
body_asks bytes = either_asks (eqb (length bytes) 0) (keyword_named (take (word_end bytes) bytes)) (past_blanks (drop (word_end bytes) bytes))

labelled_asks : (o : Option ℕ) (bytes : List ℕ) → Asks (with_label o bytes).body
labelled_asks None bytes = body_asks bytes
labelled_asks (Some i) bytes = body_asks (past_blanks (drop (i + 1) bytes))

pub line_asks : (bytes : List ℕ) → Asks (line_of bytes).body
line_asks bytes = labelled_asks (label_end (trimmed (uncommented bytes))) (trimmed (uncommented bytes))
