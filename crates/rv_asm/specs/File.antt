-- The file of a program: an ELF header, one program header, the bytes (System V ABI, "ELF Header" and "Program Header").
use Rattle.std.specs.Prelude.{ℕ, ◌+◌, List, [], ◌∷◌, ◌++◌, length, replicate}
use Rattle.byteorder.specs.Endian.{little_bytes}

abbrev pub half : ℕ → List ℕ
half n = little_bytes 2 n

abbrev pub word : ℕ → List ℕ
word n = little_bytes 4 n

-- 32 bits, little endian, version 1
abbrev pub identification : List ℕ
identification = 0x7F ∷ 0x45 ∷ 0x4C ∷ 0x46 ∷ 1 ∷ 1 ∷ 1 ∷ replicate 9 0

-- e_type, e_machine, e_version, e_entry, e_phoff, e_shoff, e_flags, then e_ehsize, e_phentsize, e_phnum, e_shentsize, e_shnum, e_shstrndx
abbrev pub elf_header : List ℕ
elf_header =
    identification ++ half 2 ++ half 243 ++ word 1 ++ word 0x10000 ++ word 52 ++ word 0 ++ word 0
    ++ half 52 ++ half 32 ++ half 1 ++ half 0 ++ half 0 ++ half 0

-- p_type, p_offset, p_vaddr, p_paddr, then p_filesz, p_memsz, p_flags, p_align
abbrev pub program_header : ℕ → ℕ → List ℕ
program_header file_size memory_size =
    ((word 1 ++ word 84) ++ (word 0x10000 ++ word 0x10000)) ++ ((word file_size ++ word memory_size) ++ (word 7 ++ word 4))

-- the file of these bytes, behind which so many zeros stand in memory
abbrev pub file_of : List ℕ → ℕ → List ℕ
file_of bytes bss = elf_header ++ program_header (length bytes) (length bytes + bss) ++ bytes
