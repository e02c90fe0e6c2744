-- What the top call promises in each mode, by what it saw of the script's source, the images and the sink.
use Rattle.std.specs.Prelude.{◌≡◌, ◌⊎◌, ℕ, ◌+◌, List, Option, Some, None, is_some}
use Rattle.call_table.specs.declared.limit.TheConstants.{SCRIPT_BYTES, SOURCE_BYTES}
use Rattle.outside.specs.Outside.{NamedFile}
use Rattle.node_event.specs.declared.script.ScriptLine.{ScriptLine}
use Rattle.rand_core.specs.Stream.{Stream}
use Rattle.mosix_words.specs.declared.settings.Mode.{Mode}
use Rattle.mosix_words.specs.declared.settings.Mode.TheVariants as mode
use Rattle.mosix_words.specs.declared.settings.Settings.{Settings}
use Rattle.user_spec.specs.User.{UserState}
use Rattle.node_machine.specs.Machine.{Policy}
use Rattle.shell_text.specs.declared.run.Run.{Run}
use Rattle.work_gen.specs.Work.{IsWork}
use Rattle.work_gen.specs.declared.made.Work.{Work}
use Rattle.mosix_shell.specs.Told.{Seen, kept, told, tells_now, HasRisen, IsUntouched}
use Rattle.mosix_shell.specs.Reading.{Reads}
use Rattle.mosix_shell.specs.Why.{line_of, has_run, why_of_last, cuts_short}
use Rattle.mosix_shell.specs.Writing.{writes_of, WritesAll, WritesFront, WritesSome, WritesLine}
use Rattle.mosix_shell.specs.Stage.{IsRun}
use Rattle.mosix_shell.specs.Causes.{AreAccepted, CauseOf, IsComplete}
use Rattle.mosix_shell.specs.Assembling.{IsAssembly}
use Rattle.mosix_shell.specs.Generating.{seed_of, IsUnmade}
use Rattle.mosix_shell.specs.declared.mosix.Ended.{Ended}
use Rattle.mosix_shell.specs.declared.printing.Form.{Form}
use Rattle.mosix_shell.specs.declared.printing.Form.TheVariants.{Report, Summary}
use Rattle.mosix_shell.specs.declared.why.Why.{Why}
use Rattle.mosix_shell.specs.declared.why.Why.TheVariants.{BadWords, ReadFault, WriteFault, NoMemory}

-- the answer says how the run ended and all of its text was written, or the writing failed
abbrev pub IsReported : {O : Type 0} → Seen O (List ℕ) → List (List ℕ) → Run → Why → Type 0
IsReported sink writes run WriteFault = WritesFront sink writes
IsReported sink writes run why = (why ≡ why_of_last run.last) × WritesAll sink writes

-- ---- without a run

-- mode `asm`
pub record AsmAnswers {S I O : Type 0} (text : Seen S (List ℕ)) (images : Seen I (List NamedFile)) (sink : Seen O (List ℕ)) (ended : Ended) : Type 0 where
  pub no_run : ended.run ≡ None
  -- the file of the text, or its first fault, and what is written
  pub assembly : IsAssembly (told text) sink ended.why
  -- the text is read to its end or to the byte behind its limit, and no image is
  pub reads : Reads (SOURCE_BYTES + 1) (told text) (tells_now text) (cuts_short ended.why)
  pub unread : IsUntouched images
  pub read_fault : ended.why ≡ ReadFault → HasRisen text

-- words that are answered by this alone: neither a script nor an image is read
pub record Refuses {S I O : Type 0} (only : Why) (script : Seen S (List ℕ)) (images : Seen I (List NamedFile)) (sink : Seen O (List ℕ)) (ended : Ended) : Type 0 where
  pub why : (ended.why ≡ only) ⊎ (ended.why ≡ NoMemory)
  pub no_run : ended.run ≡ None
  pub unread : IsUntouched script × IsUntouched images
  pub printed : WritesLine sink (line_of ended.why)

-- there is no work of a seed
pub record MakesNone {O : Type 0} (settings : Settings) (sink : Seen O (List ℕ)) (ended : Ended) : Type 0 where
  pub no_run : ended.run ≡ None
  pub cause : IsUnmade (seed_of settings.seed) ended.why
  pub printed : WritesLine sink (line_of ended.why)

-- under a policy, with a caller's words of chance
module _ (policy : Policy) (chance : Stream) where
  -- ---- a run, and what is written of it in a form

  -- a run of the script and of the images of its `run` lines
  pub record IsRunOf (settings : Settings) (script : Option (List ℕ)) (files : Option (List NamedFile)) (orders : List ScriptLine) (run : Run) : Type 0 where
    pub users : List UserState
    pub accepted : AreAccepted settings script files orders users
    pub is : IsRun policy chance settings orders users run

  pub record TellsRun {S I O : Type 0} (form : Form) (settings : Settings) (script : Seen S (List ℕ)) (images : Seen I (List NamedFile)) (sink : Seen O (List ℕ)) (run : Run) (why : Why) : Type 0 where
    pub orders : List ScriptLine
    pub run_of : IsRunOf settings (told script) (told images) orders run
    -- printed: the report or the summary of the run, each write with its bytes
    pub printed : IsReported sink (writes_of form orders run) run why

  -- ---- no run

  -- memory was wanting while a run was written
  pub record IsPartlyTold {S I O : Type 0} (form : Form) (settings : Settings) (script : Seen S (List ℕ)) (images : Seen I (List NamedFile)) (sink : Seen O (List ℕ)) : Type 0 where
    pub run : Run
    pub orders : List ScriptLine
    pub run_of : IsRunOf settings (told script) (told images) orders run
    pub printed : WritesSome sink (writes_of form orders run)

  -- the answer's line; where memory was wanting nothing, or a front of what is written of a run
  abbrev pub WritesAnswer : {S I O : Type 0} → Form → Settings → Seen S (List ℕ) → Seen I (List NamedFile) → Seen O (List ℕ) → Why → Type 0
  WritesAnswer form settings script images sink NoMemory = IsUntouched sink ⊎ IsPartlyTold form settings script images sink
  WritesAnswer form settings script images sink why = WritesLine sink (line_of why)

  pub record TellsNone {S I O : Type 0} (form : Form) (settings : Settings) (script : Seen S (List ℕ)) (images : Seen I (List NamedFile)) (sink : Seen O (List ℕ)) (why : Why) : Type 0 where
    pub causes : CauseOf settings script images why
    pub printed : WritesAnswer form settings script images sink why

  -- ---- what a script and images come to

  abbrev pub Tells : {S I O : Type 0} → Form → Settings → Seen S (List ℕ) → Seen I (List NamedFile) → Seen O (List ℕ) → Option Run → Why → Type 0
  Tells form settings script images sink (Some run) why = TellsRun form settings script images sink run why
  Tells form settings script images sink None why = TellsNone form settings script images sink why

  pub record ScriptAnswers {S I O : Type 0} (form : Form) (settings : Settings) (script : Seen S (List ℕ)) (images : Seen I (List NamedFile)) (sink : Seen O (List ℕ)) (ended : Ended) : Type 0 where
    -- a run and what is written of it, or the cause and the line of an answer without one
    pub tells : Tells form settings script images sink ended.run ended.why
    -- a run is there exactly where it was made to its end, and it was written or failed to be
    pub has_run : is_some ended.run ≡ has_run ended.why
    -- where script and files are told, they say which of these answers comes
    pub completeness : IsComplete settings (told script) (told images) ended.why

  -- ---- the modes

  -- mode `run`
  pub record RunAnswers {S I O : Type 0} (settings : Settings) (script : Seen S (List ℕ)) (images : Seen I (List NamedFile)) (sink : Seen O (List ℕ)) (ended : Ended) : Type 0 where
    -- a run is told by its report
    pub answers : ScriptAnswers (Report settings.events) settings script images sink ended
    -- the script is read to its end or to the byte behind its limit
    pub reads : Reads (SCRIPT_BYTES + 1) (told script) (tells_now script) (cuts_short ended.why)

  -- the work of the seed: a run of its script by its images is told by its summary
  pub record RunsWork {O : Type 0} (settings : Settings) (sink : Seen O (List ℕ)) (ended : Ended) : Type 0 where
    pub work : Work
    pub is_work : IsWork (seed_of settings.seed) settings.nodes work
    pub answers : ScriptAnswers Summary settings (kept work.script) (kept work.images) sink ended

  -- what the seed comes to
  abbrev pub TellsWork : {O : Type 0} → Settings → Seen O (List ℕ) → Ended → Type 0
  TellsWork settings sink ended = RunsWork settings sink ended ⊎ MakesNone settings sink ended

  -- mode `gen`
  pub record GenAnswers {S I O : Type 0} (settings : Settings) (script : Seen S (List ℕ)) (images : Seen I (List NamedFile)) (sink : Seen O (List ℕ)) (ended : Ended) : Type 0 where
    pub work : TellsWork settings sink ended
    -- nothing of the caller's is read
    pub unread : IsUntouched script × IsUntouched images

  abbrev pub AnswersIn : {S I O : Type 0} → Mode → Settings → Seen S (List ℕ) → Seen I (List NamedFile) → Seen O (List ℕ) → Ended → Type 0
  AnswersIn mode.Run settings script images sink ended = RunAnswers settings script images sink ended
  AnswersIn mode.Asm settings script images sink ended = AsmAnswers script images sink ended
  AnswersIn mode.Gen settings script images sink ended = GenAnswers settings script images sink ended

  -- by what the words ask for; words that ask for nothing are refused
  abbrev pub Answers : {S I O : Type 0} → Option Settings → Seen S (List ℕ) → Seen I (List NamedFile) → Seen O (List ℕ) → Ended → Type 0
  Answers None script images sink ended = Refuses BadWords script images sink ended
  Answers (Some settings) script images sink ended = AnswersIn settings.mode settings script images sink ended
