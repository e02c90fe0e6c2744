-- The line of an event: its stamp, its node and the words of what it is, with one blank between.
use Rattle.std.specs.Prelude.{ℕ, ◌^◌, ◌<◌, Bool, true, false, List, [], ◌∷◌, ◌++◌, Option, Some, None, ℤ, codes, IfSome, FitsSigned}
use Rattle.std.specs.Int.{w32}
use Rattle.std.specs.Fmt.{decimal, signed_decimal}
use Rattle.call_table.specs.declared.process.End.{End}
use Rattle.call_table.specs.declared.process.End.TheVariants.{Exit, Signal}
use Rattle.node_event.specs.declared.event.Event.{Event}
use Rattle.node_event.specs.declared.event.Unsent.{Unsent}
use Rattle.node_event.specs.declared.event.Unsent.TheVariants as unsent
use Rattle.node_event.specs.declared.event.Way.{Way}
use Rattle.node_event.specs.declared.event.Way.TheVariants.{Did, Broke, Fell, Paused}
use Rattle.node_event.specs.declared.event.Kept.{Kept}
use Rattle.node_event.specs.declared.event.Kept.TheVariants as kept
use Rattle.node_event.specs.declared.event.Refusal.{Refusal}
use Rattle.node_event.specs.declared.event.Refusal.TheVariants as refusal
use Rattle.node_event.specs.declared.event.What.{What}
use Rattle.node_event.specs.declared.event.What.TheVariants.{Command, Steps, Sent, Heed, Held, Served, Got, Poked, Begin, Keep, Missed, Again, Allow, Deny, Depart, Stay, Land, Told, Refused, Closed, Half, Heard, Strange}

-- `-` stands for none
abbrev pub optional : {A : Type 0} → (A → List ℕ) → Option A → List ℕ
optional text None = codes "-"
optional text (Some x) = text x

abbrev pub flag_text : Bool → List ℕ
flag_text false = codes "0"
flag_text true = codes "1"

abbrev pub unsent_text : Unsent → List ℕ
unsent_text unsent.Ended = codes "ended"
unsent_text unsent.Never = codes "none"

abbrev pub way_text : Way → List ℕ
way_text Did = codes "did"
way_text Broke = codes "broke"
way_text Fell = codes "fell"
way_text Paused = codes "paused"

abbrev pub end_text : End → List ℕ
end_text (Exit code) = codes "x" ++ decimal code
end_text (Signal signal) = codes "s" ++ decimal signal

abbrev pub kept_text : Kept → List ℕ
kept_text kept.Begins = codes "begins"
kept_text kept.Ended = codes "ended"

abbrev pub refusal_text : Refusal → List ℕ
refusal_text refusal.Ended = codes "ended"
refusal_text refusal.Moving = codes "moving"
refusal_text refusal.There = codes "there"

-- what an event is, by its word and its fields
abbrev pub words_of : What → List (List ℕ)
words_of (Command line launched outcome poked) =
    codes "command" ∷ decimal line ∷ optional decimal launched ∷ optional unsent_text outcome ∷ optional decimal poked ∷ []
words_of (Steps pid k) = codes "steps" ∷ decimal pid ∷ decimal k ∷ []
words_of (Sent pid number) = codes "sent" ∷ decimal pid ∷ decimal number ∷ []
words_of (Heed pid) = codes "heed" ∷ decimal pid ∷ []
words_of (Held pid number) = codes "held" ∷ decimal pid ∷ decimal number ∷ []
words_of (Served pid way number value taken end more poked poked_too) =
    codes "served" ∷ decimal pid ∷ way_text way ∷ optional decimal number ∷ optional signed_decimal value ∷ optional decimal taken ∷ optional end_text end ∷ flag_text more ∷ optional decimal poked ∷ optional decimal poked_too ∷ []
words_of (Got pid child ended kept_move to) =
    codes "got" ∷ decimal pid ∷ optional decimal child ∷ flag_text ended ∷ optional kept_text kept_move ∷ optional decimal to ∷ []
words_of (Poked pid used) = codes "poked" ∷ decimal pid ∷ flag_text used ∷ []
words_of (Begin pid to line) = codes "begin" ∷ decimal pid ∷ decimal to ∷ decimal line ∷ []
words_of (Keep pid to line) = codes "keep" ∷ decimal pid ∷ decimal to ∷ decimal line ∷ []
words_of (Missed pid to line) = codes "missed" ∷ decimal pid ∷ decimal to ∷ decimal line ∷ []
words_of (Again pid to place line) = codes "again" ∷ decimal pid ∷ decimal to ∷ decimal place ∷ decimal line ∷ []
words_of (Allow pid from need) = codes "allow" ∷ decimal pid ∷ decimal from ∷ decimal need ∷ []
words_of (Deny pid from need free) = codes "deny" ∷ decimal pid ∷ decimal from ∷ decimal need ∷ decimal free ∷ []
words_of (Depart pid to) = codes "depart" ∷ decimal pid ∷ decimal to ∷ []
words_of (Stay pid to need free) = codes "stay" ∷ decimal pid ∷ decimal to ∷ decimal need ∷ decimal free ∷ []
words_of (Land pid source) = codes "land" ∷ decimal pid ∷ decimal source ∷ []
words_of (Told pid at source hops line poked) =
    codes "told" ∷ decimal pid ∷ decimal at ∷ decimal source ∷ decimal hops ∷ optional decimal line ∷ optional decimal poked ∷ []
words_of (Refused pid to why line) = codes "refused" ∷ decimal pid ∷ decimal to ∷ refusal_text why ∷ decimal line ∷ []
words_of (Closed line) = codes "closed" ∷ decimal line ∷ []
words_of (Half other pid to) = codes "half" ∷ decimal other ∷ optional decimal pid ∷ optional decimal to ∷ []
words_of (Heard other pid to) = codes "heard" ∷ decimal other ∷ optional decimal pid ∷ optional decimal to ∷ []
words_of Strange = codes "strange" ∷ []

-- words with one blank between
abbrev pub joined : List (List ℕ) → List ℕ
joined [] = []
joined (word ∷ []) = word
joined (word ∷ next ∷ words) = word ++ 32 ∷ joined (next ∷ words)

abbrev pub what_text : What → List ℕ
what_text what = joined (words_of what)

abbrev pub event_line : Event → List ℕ
event_line event = joined (decimal event.stamp ∷ decimal event.node ∷ words_of event.what)

-- ---- which events have a line

-- of 32 bits
abbrev pub IsNumber : ℕ → Type 0
IsNumber n = n < 2 ^ 32

-- of 8 bits, as a node or a signal
abbrev pub IsSmall : ℕ → Type 0
IsSmall n = n < 2 ^ 8

abbrev pub IsInteger : ℤ → Type 0
IsInteger value = FitsSigned w32 value

abbrev pub IsEnd : End → Type 0
IsEnd (Exit code) = IsSmall code
IsEnd (Signal signal) = IsSmall signal

-- each number fits its field, and it is not `Strange`
abbrev pub IsWritten : What → Type 0
IsWritten (Command line launched outcome poked) = IsNumber line × IfSome launched IsNumber × IfSome poked IsNumber
IsWritten (Steps pid k) = IsNumber pid × IsNumber k
IsWritten (Sent pid number) = IsNumber pid × IsNumber number
IsWritten (Heed pid) = IsNumber pid
IsWritten (Held pid number) = IsNumber pid × IsNumber number
IsWritten (Served pid way number value taken end more poked poked_too) = IsNumber pid × IfSome number IsNumber × IfSome value IsInteger × IfSome taken IsSmall × IfSome end IsEnd × IfSome poked IsNumber × IfSome poked_too IsNumber
IsWritten (Got pid child ended kept_move to) = IsNumber pid × IfSome child IsNumber × IfSome to IsSmall
IsWritten (Poked pid used) = IsNumber pid
IsWritten (Begin pid to line) = IsNumber pid × IsSmall to × IsNumber line
IsWritten (Keep pid to line) = IsNumber pid × IsSmall to × IsNumber line
IsWritten (Missed pid to line) = IsNumber pid × IsSmall to × IsNumber line
IsWritten (Again pid to place line) = IsNumber pid × IsSmall to × IsSmall place × IsNumber line
IsWritten (Allow pid from need) = IsNumber pid × IsSmall from × IsNumber need
IsWritten (Deny pid from need free) = IsNumber pid × IsSmall from × IsNumber need × IsNumber free
IsWritten (Depart pid to) = IsNumber pid × IsSmall to
IsWritten (Stay pid to need free) = IsNumber pid × IsSmall to × IsNumber need × IsNumber free
IsWritten (Land pid source) = IsNumber pid × IsSmall source
IsWritten (Told pid at source hops line poked) = IsNumber pid × IsSmall at × IsSmall source × IsNumber hops × IfSome line IsNumber × IfSome poked IsNumber
IsWritten (Refused pid to why line) = IsNumber pid × IsSmall to × IsNumber line
IsWritten (Closed line) = IsNumber line
IsWritten (Half other pid to) = IsSmall other × IfSome pid IsNumber × IfSome to IsSmall
IsWritten (Heard other pid to) = IsSmall other × IfSome pid IsNumber × IfSome to IsSmall
IsWritten Strange = ⊥

abbrev pub HasLine : Event → Type 0
HasLine event = (event.stamp < 2 ^ 64) × IsSmall event.node × IsWritten event.what
