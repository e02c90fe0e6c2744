-- The orders of a script's text.
use Rattle.std.specs.Prelude.{◌≡◌, ◌≤◌, ℕ, List, [], ◌∷◌, Option, Ok, Err}
use Rattle.node_event.specs.declared.script.Order.{Order}
use Rattle.node_event.specs.declared.script.Order.TheVariants.{Run}
use Rattle.node_event.specs.declared.script.ScriptLine.{ScriptLine}
use Rattle.elf_load.specs.Image.{start_size}
use Rattle.shell_text.specs.Script.{script_of}
use Rattle.shell_text.specs.declared.fault.ScriptError.TheVariants as fault
use Rattle.mosix_shell.specs.Told.{IsTextOf}
use Rattle.mosix_shell.specs.declared.why.Why.{Why}
use Rattle.mosix_shell.specs.declared.why.Why.TheVariants.{Done, Stuck, BadWords, BadScript, BadImage, ReadFault, WriteFault, NoMemory, JournalFull, BadSource}

-- orders that a text writes for so many nodes: that of the source, where it is told
pub record IsScriptOf (nodes : ℕ) (left : Option (List ℕ)) (orders : List ScriptLine) : Type 0 where
  pub text : List ℕ
  pub text_is : IsTextOf left text
  pub reads : script_of nodes text ≡ Ok orders

-- the first fault of a text: that of the source, where it is told
pub record IsFaultOf (nodes : ℕ) (left : Option (List ℕ)) (line kind : ℕ) : Type 0 where
  pub text : List ℕ
  pub text_is : IsTextOf left text
  pub reads : script_of nodes text ≡ Err (fault.Fault line kind)

-- why there are no orders
abbrev pub IsUnread : ℕ → Option (List ℕ) → Why → Type 0
IsUnread nodes left (BadScript line kind) = IsFaultOf nodes left line kind
IsUnread nodes left ReadFault = Unit {0}
IsUnread nodes left NoMemory = Unit {0}
IsUnread nodes left Done = ⊥
IsUnread nodes left Stuck = ⊥
IsUnread nodes left BadWords = ⊥
IsUnread nodes left (BadImage line kind) = ⊥
IsUnread nodes left WriteFault = ⊥
IsUnread nodes left (JournalFull node) = ⊥
IsUnread nodes left (BadSource line kind) = ⊥

-- the orders are those of some text
pub record IsScript (nodes : ℕ) (orders : List ScriptLine) : Type 0 where
  pub text : List ℕ
  pub reads : script_of nodes text ≡ Ok orders

-- the words of each `run` line fit on the start stack of their process
abbrev pub FitsStack : Order → Type 0
FitsStack (Run words) = start_size words ≤ 8192
FitsStack _ = Unit {0}

abbrev pub FitStacks : List ScriptLine → Type 0
FitStacks [] = Unit {0}
FitStacks (l ∷ ls) = FitsStack l.order × FitStacks ls
