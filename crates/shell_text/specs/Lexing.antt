-- A script's lines, and the words of a line. Lines are those of `lines`: newlines end them, the last one with or without,
-- and one byte 13 before a newline is dropped.
use Rattle.std.specs.Prelude.{ℕ, Bool, not, ◌&&◌, ◌||◌, ◌==◌, nat_le, List, length, drop}
use Rattle.std.specs.List.{prefix_len, position_or_len, slice_split, filter}

-- the bytes that a line may have: 9 and 32 to 126
abbrev pub is_text_byte : ℕ → Bool
is_text_byte b = b == 9 || nat_le 32 b && nat_le b 126

-- a space or a tab
abbrev pub is_blank : ℕ → Bool
is_blank b = b == 32 || b == 9

abbrev pub is_word : List ℕ → Bool
is_word bytes = not (length bytes == 0)

-- blanks part words
abbrev pub words_of : List ℕ → List (List ℕ)
words_of line = filter is_word (slice_split is_blank line)

abbrev pub past_blanks : List ℕ → List ℕ
past_blanks bytes = drop (prefix_len is_blank bytes) bytes

-- what stands behind the word with which these bytes begin
abbrev pub behind_first : List ℕ → List ℕ
behind_first bytes = drop (position_or_len is_blank bytes) bytes

-- what stands behind the first word of a line
abbrev pub behind_word : List ℕ → List ℕ
behind_word line = behind_first (past_blanks line)
