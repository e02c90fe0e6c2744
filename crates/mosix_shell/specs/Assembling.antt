-- Mode `asm`: what a source's text comes to, and what is written.
use Rattle.std.specs.Prelude.{◌≡◌, ℕ, List, Option, Result, Ok, Err}
use Rattle.rv_asm.specs.Assembly.{assembled}
use Rattle.rv_asm.specs.Refusals.{IsRefusal}
use Rattle.asm_laws.specs.Loaded.{LoadsAs}
use Rattle.rv_asm.specs.declared.fault.Fault.{Fault}
use Rattle.rv_asm.specs.declared.fault.AsmError.TheVariants.{Source}
use Rattle.shell_text.specs.Report.{chunks_of}
use Rattle.mosix_shell.specs.Told.{Seen, IsTextOf, IsUntouched}
use Rattle.mosix_shell.specs.Why.{line_of}
use Rattle.mosix_shell.specs.Writing.{WritesAll, WritesFront, WritesLine}
use Rattle.mosix_shell.specs.declared.why.Why.{Why}
use Rattle.mosix_shell.specs.declared.why.Why.TheVariants.{Done, Stuck, BadWords, BadScript, BadImage, ReadFault, WriteFault, NoMemory, JournalFull, BadSource}

-- the text's first fault, unless the source failed or memory was wanting
abbrev pub IsFaultOf : Result (List ℕ) Fault → Why → Type 0
IsFaultOf outcome (BadSource line kind) = IsRefusal outcome (Source line kind)
IsFaultOf outcome ReadFault = Unit {0}
IsFaultOf outcome NoMemory = Unit {0}
IsFaultOf outcome Done = ⊥
IsFaultOf outcome Stuck = ⊥
IsFaultOf outcome BadWords = ⊥
IsFaultOf outcome (BadScript line kind) = ⊥
IsFaultOf outcome (BadImage line kind) = ⊥
IsFaultOf outcome WriteFault = ⊥
IsFaultOf outcome (JournalFull node) = ⊥

-- the text's file, or why there is none
abbrev pub IsMadeOf : Result (List ℕ) Fault → Result (List ℕ) Why → Type 0
IsMadeOf outcome (Ok file) = outcome ≡ Ok file
IsMadeOf outcome (Err why) = IsFaultOf outcome why

-- what is made of the text of a source
pub record IsMadeFrom (left : Option (List ℕ)) (made : Result (List ℕ) Why) : Type 0 where
  pub text : List ℕ
  pub text_is : IsTextOf left text
  pub made_is : IsMadeOf (assembled text) made

-- the text's file, which loads to the state of the text
pub record IsFileOf (text file : List ℕ) : Type 0 where
  pub assembled_is : assembled text ≡ Ok file
  pub loads : LoadsAs text file

-- all of the file at Done, a front of it at a write fault, in pieces of at most PIECE_BYTES bytes; else the answer's line
abbrev pub WritesFile : {O : Type 0} → List ℕ → Seen O (List ℕ) → Why → Type 0
WritesFile text sink Done = (file : List ℕ) × IsFileOf text file × WritesAll sink (chunks_of file)
WritesFile text sink WriteFault = (file : List ℕ) × IsFileOf text file × WritesFront sink (chunks_of file)
WritesFile text sink (BadSource line kind) = IsRefusal (assembled text) (Source line kind) × WritesLine sink (line_of (BadSource line kind))
WritesFile text sink ReadFault = WritesLine sink (line_of ReadFault)
WritesFile text sink NoMemory = IsUntouched sink
WritesFile text sink Stuck = ⊥
WritesFile text sink BadWords = ⊥
WritesFile text sink (BadScript line kind) = ⊥
WritesFile text sink (BadImage line kind) = ⊥
WritesFile text sink (JournalFull node) = ⊥

-- the answer of a source's text: by `assembled`
pub record IsAssembly {O : Type 0} (left : Option (List ℕ)) (sink : Seen O (List ℕ)) (why : Why) : Type 0 where
  pub text : List ℕ
  pub text_is : IsTextOf left text
  pub written : WritesFile text sink why
