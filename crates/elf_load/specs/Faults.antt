-- The numbers of the faults, and what a load's answer tells.
use Rattle.std.specs.Prelude.{ℕ, ◌≡◌, Result, Ok, Err}
use Rattle.user_spec.specs.User.{UserState}
use Rattle.elf_load.specs.declared.fault.ImageFault.{ImageFault}
use Rattle.elf_load.specs.declared.fault.ImageFault.TheVariants.{Short, NotElf32Le, NotExec, NotRiscv, Flags, Header, Dynamic, Segment, Range, TooManyPages, Entry}
use Rattle.elf_load.specs.declared.fault.LoadError.{LoadError}
use Rattle.elf_load.specs.declared.fault.LoadError.TheVariants.{Image, NoMemory}

abbrev pub fault_number : ImageFault → ℕ
fault_number Short = 1
fault_number NotElf32Le = 2
fault_number NotExec = 3
fault_number NotRiscv = 4
fault_number Flags = 5
fault_number Header = 6
fault_number Dynamic = 7
fault_number Segment = 8
fault_number Range = 9
fault_number TooManyPages = 10
fault_number Entry = 11

-- an answer other than a process: that fault, or want of memory
abbrev pub Refuses : LoadError → Result UserState ℕ → Type 0
Refuses (Image fault) image = image ≡ Err (fault_number fault)
Refuses NoMemory image = Unit {0}

-- the image's process, or its fault, unless memory ran out
abbrev pub Loads : Result UserState LoadError → Result UserState ℕ → Type 0
Loads (Ok u) image = image ≡ Ok u
Loads (Err e) image = Refuses e image
