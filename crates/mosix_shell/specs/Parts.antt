-- What the parts of the top call tell each other.
use Rattle.std.specs.Prelude.{◌≡◌, ◌⊎◌, ℕ, List, Option, Some, None, false}
use Rattle.outside.specs.Outside.{NamedFile}
use Rattle.node_event.specs.declared.script.ScriptLine.{ScriptLine}
use Rattle.rand_core.specs.Stream.{Stream}
use Rattle.mosix_words.specs.declared.settings.Settings.{Settings}
use Rattle.user_spec.specs.User.{UserState}
use Rattle.node_machine.specs.Machine.{Policy}
use Rattle.shell_text.specs.declared.run.Run.{Run}
use Rattle.mosix_shell.specs.Told.{Seen, told, HasRisen, IsUntouched}
use Rattle.mosix_shell.specs.Why.{line_of}
use Rattle.mosix_shell.specs.Writing.{writes_of, WritesSome, WritesLine}
use Rattle.mosix_shell.specs.Images.{runs_of, AreImagesOf, IsRefused}
use Rattle.mosix_shell.specs.Stage.{IsRun}
use Rattle.mosix_shell.specs.Answers.{IsReported}
use Rattle.mosix_shell.specs.declared.printing.Form.{Form}
use Rattle.mosix_shell.specs.declared.why.Why.{Why}
use Rattle.mosix_shell.specs.declared.why.Why.TheVariants.{Done, Stuck, BadWords, BadScript, BadImage, ReadFault, WriteFault, NoMemory, JournalFull, BadSource}

-- why there is no run of orders
abbrev pub IsUnrun : Option (List NamedFile) → List ScriptLine → Why → Type 0
IsUnrun files orders (BadImage line kind) = IsRefused files (runs_of orders) line kind
IsUnrun files orders ReadFault = Unit {0}
IsUnrun files orders NoMemory = Unit {0}
IsUnrun files orders BadWords = ⊥
IsUnrun files orders (BadScript line kind) = ⊥
IsUnrun files orders (BadSource line kind) = ⊥
IsUnrun files orders Done = ⊥
IsUnrun files orders Stuck = ⊥
IsUnrun files orders WriteFault = ⊥
IsUnrun files orders (JournalFull node) = ⊥

-- a run is told with its text; where memory was wanting, a front of that was written
abbrev pub IsTold : {O : Type 0} → Seen O (List ℕ) → List (List ℕ) → Run → Option Run → Why → Type 0
IsTold sink writes run (Some told) why = (told ≡ run) × IsReported sink writes run why
IsTold sink writes run None why = (why ≡ NoMemory) × WritesSome sink writes

-- under a policy, with a caller's words of chance
module _ (policy : Policy) (chance : Stream) where
  -- a run of orders and of the images of their `run` lines
  pub record IsRunFrom (settings : Settings) (files : Option (List NamedFile)) (orders : List ScriptLine) (run : Run) : Type 0 where
    pub users : List UserState
    pub users_are : AreImagesOf files (runs_of orders) users
    pub is : IsRun policy chance settings orders users run

  -- a front of the text of some run of orders
  pub record IsPartOf {I O : Type 0} (form : Form) (settings : Settings) (orders : List ScriptLine) (images : Seen I (List NamedFile)) (sink : Seen O (List ℕ)) : Type 0 where
    pub run : Run
    pub run_from : IsRunFrom settings (told images) orders run
    pub printed : WritesSome sink (writes_of form orders run)

  -- an answer without a run, and what is written of it
  abbrev pub RefusesOrders : {I O : Type 0} → Form → Settings → List ScriptLine → Seen I (List NamedFile) → Seen O (List ℕ) → Why → Type 0
  RefusesOrders form settings orders images sink (BadImage line kind) = IsRefused (told images) (runs_of orders) line kind × WritesLine sink (line_of (BadImage line kind))
  RefusesOrders form settings orders images sink ReadFault = HasRisen images × WritesLine sink (line_of ReadFault)
  RefusesOrders form settings orders images sink NoMemory = IsUntouched sink ⊎ IsPartOf form settings orders images sink
  RefusesOrders form settings orders images sink BadWords = ⊥
  RefusesOrders form settings orders images sink (BadScript line kind) = ⊥
  RefusesOrders form settings orders images sink (BadSource line kind) = ⊥
  RefusesOrders form settings orders images sink Done = ⊥
  RefusesOrders form settings orders images sink Stuck = ⊥
  RefusesOrders form settings orders images sink WriteFault = ⊥
  RefusesOrders form settings orders images sink (JournalFull node) = ⊥

  -- what orders come to, and what is written of it
  abbrev pub TellsOrders : {I O : Type 0} → Form → Settings → List ScriptLine → Seen I (List NamedFile) → Seen O (List ℕ) → Option Run → Why → Type 0
  TellsOrders form settings orders images sink (Some run) why = IsRunFrom settings (told images) orders run × IsReported sink (writes_of form orders run) run why
  TellsOrders form settings orders images sink None why = RefusesOrders form settings orders images sink why
