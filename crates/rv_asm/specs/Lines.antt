-- The lines of a text, read.
use Rattle.std.specs.Prelude.{ℕ, ◌+◌, ◌==◌, List, [], length, take, drop, map, Option, Some, None, if◌then◌else◌}
use Rattle.std.specs.List.{slice_split}
use Rattle.rv_asm.specs.Lexing.{trimmed, uncommented, label_end, word_end, past_blanks, operands_of, fault_of_extra}
use Rattle.rv_asm.specs.Keywords.{keyword_named}
use Rattle.rv_asm.specs.Statements.{statement_of, operand_count}
use Rattle.rv_asm.specs.declared.keyword.Keyword.{Keyword}
use Rattle.rv_asm.specs.declared.line.Line.{Line}
use Rattle.rv_asm.specs.declared.line.Body.{Body}
use Rattle.rv_asm.specs.declared.line.Body.TheVariants.{Empty, Unknown, Known}

-- the statement of a keyword with the operands that stand behind it
abbrev pub known : Option Keyword → List ℕ → Body
known None operands = Unknown
known (Some keyword) operands =
    Known keyword (statement_of keyword (operands_of operands)) (fault_of_extra (drop (operand_count keyword) (operands_of operands)))

-- what stands behind the label, without blanks on both sides
abbrev pub body_of : List ℕ → Body
body_of bytes =
    if length bytes == 0 then Empty else known (keyword_named (take (word_end bytes) bytes)) (past_blanks (drop (word_end bytes) bytes))

abbrev pub with_label : Option ℕ → List ℕ → Line
with_label None bytes = record { label = None; body = body_of bytes }
with_label (Some i) bytes = record { label = Some (take i bytes); body = body_of (past_blanks (drop (i + 1) bytes)) }

abbrev pub line_of : List ℕ → Line
line_of bytes = let content = trimmed (uncommented bytes) in with_label (label_end content) content

-- newlines part lines
abbrev pub lines_of : List ℕ → List Line
lines_of text = map line_of (slice_split (λ b. b == 10) text)
