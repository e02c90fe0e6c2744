-- The images of a script's `run` lines, in the order of the lines.
use Rattle.std.specs.Prelude.{◌≡◌, ℕ, ◌==◌, List, [], ◌∷◌, ◌++◌, length, nat_lt, true, Option, Some, None, Result, Ok, Err, if◌then◌else◌}
use Rattle.std.specs.List.{list_any}
use Rattle.call_table.specs.declared.limit.TheConstants.{IMAGE_BYTES}
use Rattle.outside.specs.Outside.{NamedFile, file_named}
use Rattle.node_event.specs.declared.script.Order.{Order}
use Rattle.node_event.specs.declared.script.Order.TheVariants.{Run}
use Rattle.node_event.specs.declared.script.ScriptLine.{ScriptLine}
use Rattle.user_spec.specs.User.{UserState}
use Rattle.elf_load.specs.Image.{image_of}
use Rattle.mosix_shell.specs.Told.{WhereTold}
use Rattle.outside.specs.declared.traits.LoadFault.{LoadFault}
use Rattle.outside.specs.declared.traits.LoadFault.TheVariants as fault
use Rattle.mosix_shell.specs.declared.images.Unloaded.{Unloaded}
use Rattle.mosix_shell.specs.declared.images.Unloaded.TheVariants.{Refused, Failed, WantsMemory}
use Rattle.mosix_shell.specs.declared.why.Why.{Why}
use Rattle.mosix_shell.specs.declared.why.Why.TheVariants.{Done, Stuck, BadWords, BadScript, BadImage, ReadFault, WriteFault, NoMemory, JournalFull, BadSource}

-- ---- the `run` lines

-- a line that launches: its number, and its words, the first of which names the image
pub record RunLine : Type 0 where
  pub line : ℕ
  pub words : List (List ℕ)

abbrev pub run_in : ℕ → Order → List RunLine
run_in line (Run words) = record { line = line; words = words } ∷ []
run_in line _ = []

abbrev pub runs_of : List ScriptLine → List RunLine
runs_of [] = []
runs_of (l ∷ ls) = run_in l.line l.order ++ runs_of ls

-- ---- one image

abbrev pub name_of : List (List ℕ) → List ℕ
name_of [] = []
name_of (name ∷ words) = name

-- the process of a file and words: kind 12 where the file is absent, 13 where it is too long
abbrev pub image_in : Option (List ℕ) → List (List ℕ) → Result UserState ℕ
image_in None words = Err 12
image_in (Some file) words = if nat_lt IMAGE_BYTES (length file) then Err 13 else image_of file words

abbrev pub image_named : List NamedFile → List (List ℕ) → Result UserState ℕ
image_named files words = image_in (file_named files (name_of words)) words

-- ---- all images

-- the refusal of a line's image
pub record Refusal : Type 0 where
  pub line : ℕ
  pub kind : ℕ

abbrev pub with_rest : UserState → Result (List UserState) Refusal → Result (List UserState) Refusal
with_rest user (Err refusal) = Err refusal
with_rest user (Ok users) = Ok (user ∷ users)

abbrev pub with_image : ℕ → Result UserState ℕ → Result (List UserState) Refusal → Result (List UserState) Refusal
with_image line (Err kind) rest = Err (record { line = line; kind = kind })
with_image line (Ok user) rest = with_rest user rest

abbrev pub behind : List UserState → Result (List UserState) Refusal → Result (List UserState) Refusal
behind users (Err refusal) = Err refusal
behind users (Ok us) = Ok (users ++ us)

-- the processes of all lines, or the first line whose image is refused
abbrev pub images_of : List NamedFile → List RunLine → Result (List UserState) Refusal
images_of files [] = Ok []
images_of files (r ∷ rs) = with_image r.line (image_named files r.words) (images_of files rs)

-- ---- what is known where the files are not told too

-- a process of words: the image of some file, which is that of their name where the files are told
pub record IsImageOf (files : Option (List NamedFile)) (words : List (List ℕ)) (user : UserState) : Type 0 where
  pub file : List ℕ
  pub image : image_of file words ≡ Ok user
  pub named : WhereTold files (λ fs. image_named fs words ≡ Ok user)

-- each process is that of its line's words and of some file
abbrev pub AreSomeImages : List RunLine → List UserState → Type 0
AreSomeImages [] [] = Unit {0}
AreSomeImages [] (u ∷ us) = ⊥
AreSomeImages (r ∷ rs) [] = ⊥
AreSomeImages (r ∷ rs) (u ∷ us) = ((file : List ℕ) × (image_of file r.words ≡ Ok u)) × AreSomeImages rs us

-- the processes of the lines' images: of the files, where they are told
pub record AreImagesOf (files : Option (List NamedFile)) (runs : List RunLine) (users : List UserState) : Type 0 where
  pub each : AreSomeImages runs users
  pub named : WhereTold files (λ fs. images_of fs runs ≡ Ok users)

-- one of the lines has this number
abbrev pub HasLine : List RunLine → ℕ → Type 0
HasLine runs line = list_any (λ (r : RunLine). r.line == line) runs ≡ true

-- the first refused image is that of one of the lines: by the files, where they are told
pub record IsRefused (files : Option (List NamedFile)) (runs : List RunLine) (line kind : ℕ) : Type 0 where
  pub of_line : HasLine runs line
  pub named : WhereTold files (λ fs. images_of fs runs ≡ Err (record { line = line; kind = kind }))

-- why there are no processes
abbrev pub IsUnloaded : Option (List NamedFile) → List RunLine → Why → Type 0
IsUnloaded files runs (BadImage line kind) = IsRefused files runs line kind
IsUnloaded files runs ReadFault = Unit {0}
IsUnloaded files runs NoMemory = Unit {0}
IsUnloaded files runs Done = ⊥
IsUnloaded files runs Stuck = ⊥
IsUnloaded files runs BadWords = ⊥
IsUnloaded files runs (BadScript line kind) = ⊥
IsUnloaded files runs WriteFault = ⊥
IsUnloaded files runs (JournalFull node) = ⊥
IsUnloaded files runs (BadSource line kind) = ⊥

-- ---- one line after the other

-- why a line's image was not had
abbrev pub by_fault : LoadFault → Unloaded
by_fault fault.Absent = Refused 12
by_fault fault.TooLong = Refused 13
by_fault fault.Failed = Failed
by_fault fault.NoMemory = WantsMemory

-- the kind of a refused image
abbrev pub IsKindOf : Result UserState ℕ → Unloaded → Type 0
IsKindOf image (Refused kind) = image ≡ Err kind
IsKindOf image Failed = ⊥
IsKindOf image WantsMemory = Unit {0}

abbrev pub IsImageRefused : Option (List NamedFile) → List (List ℕ) → Unloaded → Type 0
IsImageRefused files words (Refused kind) = WhereTold files (λ fs. image_named fs words ≡ Err kind)
IsImageRefused files words Failed = Unit {0}
IsImageRefused files words WantsMemory = Unit {0}

-- the answer of a line whose image was not had
abbrev pub refusal_of : ℕ → Unloaded → Why
refusal_of line (Refused kind) = BadImage line kind
refusal_of line Failed = ReadFault
refusal_of line WantsMemory = NoMemory

-- a line that launches adds its process, and another none
abbrev pub AddsImage : Option (List NamedFile) → Order → List UserState → List UserState → Type 0
AddsImage files (Run words) old new = (u : UserState) × IsImageOf files words u × (new ≡ old ++ u ∷ [])
AddsImage files _ old new = new ≡ old

-- why a line adds none that should
abbrev pub IsLineRefused : Option (List NamedFile) → ℕ → Order → Why → Type 0
IsLineRefused files number (Run words) (BadImage line kind) = (line ≡ number) × IsImageRefused files words (Refused kind)
IsLineRefused files number (Run words) ReadFault = Unit {0}
IsLineRefused files number (Run words) NoMemory = Unit {0}
IsLineRefused files number _ why = ⊥

-- where so many processes are loaded, whatever the rest comes to makes all
pub record LoadsOn (files : Option (List NamedFile)) (whole : List RunLine) (users : List UserState) (rest : List RunLine) : Type 0 where
  pub each : (us : List UserState) → AreSomeImages rest us → AreSomeImages whole (users ++ us)
  pub named : WhereTold files (λ fs. images_of fs whole ≡ behind users (images_of fs rest))
  pub lines : (line : ℕ) → HasLine rest line → HasLine whole line
