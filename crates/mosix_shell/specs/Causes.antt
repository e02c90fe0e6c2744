-- When each answer of a script and images comes.
use Rattle.std.specs.Prelude.{◌≡◌, ◌⊎◌, ℕ, false, List, Option, Result, Ok, Err, if◌then◌else◌}
use Rattle.outside.specs.Outside.{NamedFile}
use Rattle.node_event.specs.declared.script.ScriptLine.{ScriptLine}
use Rattle.mosix_words.specs.declared.settings.Settings.{Settings}
use Rattle.user_spec.specs.User.{UserState}
use Rattle.shell_text.specs.Script.{script_of}
use Rattle.shell_text.specs.declared.fault.ScriptError.{ScriptError}
use Rattle.shell_text.specs.declared.fault.ScriptError.TheVariants as fault
use Rattle.mosix_shell.specs.Told.{Seen, WhereTold, told, HasRisen, IsUntouched}
use Rattle.mosix_shell.specs.Orders.{IsScriptOf, IsFaultOf}
use Rattle.mosix_shell.specs.Images.{Refusal, runs_of, images_of, AreImagesOf, IsRefused}
use Rattle.mosix_shell.specs.declared.why.Why.{Why}
use Rattle.mosix_shell.specs.declared.why.Why.TheVariants.{Done, Stuck, BadWords, BadScript, BadImage, ReadFault, WriteFault, NoMemory, JournalFull, BadSource}

-- ---- causes: what stands behind an answer that comes without a run

-- orders and processes of the script and of the images of its `run` lines, where nothing is refused
pub record AreAccepted (settings : Settings) (script : Option (List ℕ)) (files : Option (List NamedFile)) (orders : List ScriptLine) (users : List UserState) : Type 0 where
  pub orders_are : IsScriptOf settings.nodes script orders
  pub users_are : AreImagesOf files (runs_of orders) users

-- a script without a fault has an image that is refused
pub record HasRefused (settings : Settings) (script : Option (List ℕ)) (files : Option (List NamedFile)) (line kind : ℕ) : Type 0 where
  pub orders : List ScriptLine
  pub orders_are : IsScriptOf settings.nodes script orders
  pub refused : IsRefused files (runs_of orders) line kind

-- an image of a script without a fault could not be read
pub record IsUnreadable {I : Type 0} (settings : Settings) (script : Option (List ℕ)) (images : Seen I (List NamedFile)) : Type 0 where
  pub orders : List ScriptLine
  pub orders_are : IsScriptOf settings.nodes script orders
  pub failed : HasRisen images

-- the script could not be read, and no image was
abbrev pub IsScriptUnreadable : {S I : Type 0} → Seen S (List ℕ) → Seen I (List NamedFile) → Type 0
IsScriptUnreadable script images = HasRisen script × IsUntouched images

abbrev pub CauseOf : {S I : Type 0} → Settings → Seen S (List ℕ) → Seen I (List NamedFile) → Why → Type 0
CauseOf settings script images (BadScript line kind) = IsFaultOf settings.nodes (told script) line kind × IsUntouched images
CauseOf settings script images (BadImage line kind) = HasRefused settings (told script) (told images) line kind
CauseOf settings script images ReadFault = IsScriptUnreadable script images ⊎ IsUnreadable settings (told script) images
CauseOf settings script images NoMemory = Unit {0}
CauseOf settings script images BadWords = ⊥
CauseOf settings script images (BadSource line kind) = ⊥
CauseOf settings script images Done = ⊥
CauseOf settings script images Stuck = ⊥
CauseOf settings script images WriteFault = ⊥
CauseOf settings script images (JournalFull node) = ⊥

-- ---- completeness: what a script and files come to, where they are told

pub data Verdict : Type 0 where
  -- the first faulty line, and the kind of its fault
  IsFaulty : ℕ → ℕ → Verdict
  -- the first line whose image is refused, and the kind of the refusal
  HasBadImage : ℕ → ℕ → Verdict
  -- a run is made
  Runs : Verdict
  -- no text comes to this
  IsUnread : Verdict

abbrev pub verdict_on_users : Result (List UserState) Refusal → Verdict
verdict_on_users (Err refusal) = HasBadImage refusal.line refusal.kind
verdict_on_users (Ok users) = Runs

abbrev pub verdict_on_script : List NamedFile → Result (List ScriptLine) ScriptError → Verdict
verdict_on_script files (Err (fault.Fault line kind)) = IsFaulty line kind
verdict_on_script files (Err fault.NoMemory) = IsUnread
verdict_on_script files (Ok orders) = verdict_on_users (images_of files (runs_of orders))

-- for a cluster of so many nodes
abbrev pub verdict_of : ℕ → List ℕ → List NamedFile → Verdict
verdict_of nodes text files = verdict_on_script files (script_of nodes text)

-- an answer is that of the verdict, unless the outside failed or memory was wanting
abbrev pub Follows : Why → Verdict → Type 0
Follows (BadScript line kind) v = v ≡ IsFaulty line kind
Follows (BadImage line kind) v = v ≡ HasBadImage line kind
Follows Done v = v ≡ Runs
Follows Stuck v = v ≡ Runs
Follows (JournalFull node) v = v ≡ Runs
Follows WriteFault v = v ≡ Runs
Follows ReadFault v = Unit {0}
Follows NoMemory v = Unit {0}
Follows BadWords v = ⊥
Follows (BadSource line kind) v = ⊥

abbrev pub IsComplete : Settings → Option (List ℕ) → Option (List NamedFile) → Why → Type 0
IsComplete settings script files why = WhereTold script (λ s. WhereTold files (λ fs. Follows why (verdict_of settings.nodes s fs)))
