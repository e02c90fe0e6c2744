-- The script and the images of generated work.
use Rattle.std.specs.Prelude.{◌≡◌, ℕ, zero, suc, ◌+◌, ◌%◌, List, [], ◌∷◌, ◌++◌, codes, slice_get, Option, Some, Result, Ok, ⊤}
use Rattle.std.specs.Fmt.{decimal}
use Rattle.call_table.specs.declared.files.Named.{Named}
use Rattle.rv_asm.specs.Assembly.{assembled}
use Rattle.rv_asm.specs.Refusals.{IsRefusal}
use Rattle.rv_asm.specs.declared.fault.AsmError.TheVariants.{Source}
use Rattle.work_gen.specs.Draws.{draws_of}
use Rattle.work_gen.specs.Texts.{name_of, image_text}
use Rattle.work_gen.specs.declared.draw.Draw.{Draw}
use Rattle.work_gen.specs.declared.error.WorkError.{WorkError}
use Rattle.work_gen.specs.declared.error.WorkError.TheVariants.{Refused, NoMemory}
use Rattle.work_gen.specs.declared.made.Work.{Work}

-- ---- the script

abbrev pub run_line : ℕ → List ℕ
run_line index = codes "run " ++ name_of index ++ codes "\n"

-- so many images, from this one on
abbrev pub run_lines : ℕ → ℕ → List ℕ
run_lines index zero = []
run_lines index (suc n) = run_line index ++ run_lines (index + 1) n

abbrev pub move_line : ℕ → ℕ → List ℕ
move_line nodes pid = codes "move " ++ decimal pid ++ codes " " ++ decimal (pid % nodes) ++ codes "\n"

-- so many processes, from this one on
abbrev pub move_lines : ℕ → ℕ → ℕ → List ℕ
move_lines nodes pid zero = []
move_lines nodes pid (suc n) = move_line nodes pid ++ move_lines nodes (pid + 1) n

-- it runs the sixteen images and moves the first four processes
unfoldable pub script_text : ℕ → List ℕ
script_text nodes = run_lines 0 16 ++ move_lines nodes 1 4

-- ---- the images

-- the file that the assembler makes of the text of this image
abbrev pub IsImage : ℕ → Draw → Named → Type 0
IsImage index draw image = (image.name ≡ name_of index) × (assembled (image_text index draw) ≡ Ok image.bytes)

-- an image for each draw, the first of them with this number
abbrev pub AreImages : ℕ → List Draw → List Named → Type 0
AreImages index [] [] = ⊤
AreImages index [] (image ∷ images) = ⊥
AreImages index (draw ∷ draws) [] = ⊥
AreImages index (draw ∷ draws) (image ∷ images) = IsImage index draw image × AreImages (index + 1) draws images

-- the assembler refuses the text of this image by this fault, or memory was not found
abbrev pub IsFaulty : ℕ → Draw → WorkError → Type 0
IsFaulty index draw (Refused line kind) = IsRefusal (assembled (image_text index draw)) (Source line kind)
IsFaulty index draw NoMemory = ⊤

-- ---- the work, and why there is none

-- the script for so many nodes, and the images of the seed
pub record IsWork (seed nodes : ℕ) (work : Work) : Type 0 where
  pub script : work.script ≡ script_text nodes
  pub images : AreImages 0 (draws_of seed) work.images

-- the text of one of the draws is refused by this fault
pub record IsRefusedBy (draws : List Draw) (line kind : ℕ) : Type 0 where
  pub index : ℕ
  pub draw : Draw
  pub is_drawn : slice_get draws index ≡ Some draw
  pub is_refused : IsFaulty index draw (Refused line kind)

abbrev pub IsNoWorkOf : List Draw → WorkError → Type 0
IsNoWorkOf draws (Refused line kind) = IsRefusedBy draws line kind
IsNoWorkOf draws NoMemory = ⊤

abbrev pub IsNoWork : ℕ → WorkError → Type 0
IsNoWork seed error = IsNoWorkOf (draws_of seed) error
