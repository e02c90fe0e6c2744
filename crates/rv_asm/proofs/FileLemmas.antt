-- The lowest bytes of a number are those of what is left of it.
use Rattle.std.proofs.Common.{◌≡◌, ℕ, ◌+◌, ◌*◌, ◌/◌, ◌%◌, ◌^◌, List, [], ◌∷◌, ◌++◌, length, refl, ap, sym, ◌∙◌, arith, append_assoc}
use Rattle.byteorder.specs.Endian.{little_bytes}
use Rattle.rv_asm.specs.File.{word, elf_header, program_header, file_of}

four : (a b c d e f g h : ℕ) → a ≡ e → b ≡ f → c ≡ g → d ≡ h → a ∷ b ∷ c ∷ d ∷ [] ≡ e ∷ f ∷ g ∷ h ∷ []
four a b c d e f g h p q r s = cc

low_word : (m n : ℕ) → m % 2 ^ 32 ≡ n % 2 ^ 32 → word m ≡ word n
low_word m n e = four _ _ _ _ _ _ _ _ (omega arith) (omega arith) (omega arith) (omega arith)

-- the program header with these two sizes
abbrev sized : List ℕ → List ℕ → List ℕ
sized file memory = ((word 1 ++ word 84) ++ (word 0x10000 ++ word 0x10000)) ++ ((file ++ memory) ++ (word 7 ++ word 4))

-- sizes may be told modulo 2 ^ 32
pub same_header : (f m g n : ℕ) → f % 2 ^ 32 ≡ g % 2 ^ 32 → m % 2 ^ 32 ≡ n % 2 ^ 32 → program_header f m ≡ program_header g n
same_header f m g n d e = ap (λ a. sized a (word m)) (low_word f g d) ∙ ap (λ b. sized (word g) b) (low_word m n e)

pub is_file : (bytes out file : List ℕ) (f m bss : ℕ) → f ≡ length bytes % 2 ^ 32 → m ≡ (f + bss) % 2 ^ 32 → out ≡ [] ++ (elf_header ++ program_header f m) → file ≡ out ++ bytes → file ≡ file_of bytes bss
is_file bytes out file f m bss d e o w =
    let header = same_header f m (length bytes) (length bytes + bss) (omega arith) (omega arith) in
    w ∙ ap (λ xs. xs ++ bytes) (o ∙ ap (λ h. elf_header ++ h) header)
