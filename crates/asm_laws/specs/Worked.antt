-- Texts worked by hand.
use Rattle.std.specs.Prelude.{ℕ, List, [], ◌∷◌}

-- `addi a0, x0, 5`
abbrev pub five : List ℕ
five = 97 ∷ 100 ∷ 100 ∷ 105 ∷ 32 ∷ 97 ∷ 48 ∷ 44 ∷ 32 ∷ 120 ∷ 48 ∷ 44 ∷ 32 ∷ 53 ∷ []

-- `.byte 7`, a newline, `.bss 4096`
abbrev pub byte_and_bss : List ℕ
byte_and_bss = 46 ∷ 98 ∷ 121 ∷ 116 ∷ 101 ∷ 32 ∷ 55 ∷ 10 ∷ 46 ∷ 98 ∷ 115 ∷ 115 ∷ 32 ∷ 52 ∷ 48 ∷ 57 ∷ 54 ∷ []

-- `.align`
abbrev pub align : List ℕ
align = 46 ∷ 97 ∷ 108 ∷ 105 ∷ 103 ∷ 110 ∷ []

-- `.space 0`
abbrev pub no_space : List ℕ
no_space = 46 ∷ 115 ∷ 112 ∷ 97 ∷ 99 ∷ 101 ∷ 32 ∷ 48 ∷ []
