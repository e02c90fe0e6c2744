-- How a line is read, a word at a time.
use Rattle.std.specs.Prelude.{ℕ, zero, suc, ◌-◌, ◌^◌, ◌+◌, ◌==◌, Bool, true, false, List, [], ◌∷◌, Option, Some, None, ℤ, pos, negsuc, if◌then◌else◌, nat_le, length, slice_index, take, drop, codes}
use Rattle.std.specs.Option.{option_map}
use Rattle.std.specs.Str.{all_ascii_digits, bytes_eq}
use Rattle.std.specs.Str.Parse.{digits_value}
use Rattle.call_table.specs.declared.process.End.{End}
use Rattle.call_table.specs.declared.process.End.TheVariants.{Exit, Signal}
use Rattle.node_event.specs.declared.event.Event.{Event}
use Rattle.node_event.specs.declared.event.Unsent.{Unsent}
use Rattle.node_event.specs.declared.event.Unsent.TheVariants as unsent
use Rattle.node_event.specs.declared.event.Way.{Way}
use Rattle.node_event.specs.declared.event.Way.TheVariants.{Did, Broke, Fell, Paused}
use Rattle.node_event.specs.declared.event.Kept.{Kept}
use Rattle.node_event.specs.declared.event.Kept.TheVariants as kept
use Rattle.node_event.specs.declared.event.Refusal.{Refusal}
use Rattle.node_event.specs.declared.event.Refusal.TheVariants as refusal
use Rattle.node_event.specs.declared.event.What.{What}
use Rattle.node_event.specs.declared.event.What.TheVariants.{Command, Steps, Sent, Heed, Held, Served, Got, Poked, Begin, Keep, Missed, Again, Allow, Deny, Depart, Stay, Land, Told, Refused, Closed, Half, Heard}

-- ---- one word

-- decimal digits without a leading zero
abbrev pub is_plain : List ℕ → Bool
is_plain word =
    if length word == 0 then false else
    (if slice_index word 0 == 48 then length word == 1 else all_ascii_digits word)

abbrev pub at_most : ℕ → ℕ → Option ℕ
at_most most n = if nat_le n most then Some n else None

-- a number of at most `most`
unfoldable pub number_up_to : ℕ → List ℕ → Option ℕ
number_up_to most word = if is_plain word then at_most most (digits_value 10 word) else None

-- behind a minus, a number from 1 on
abbrev pub negative : Option ℕ → Option ℤ
negative None = None
negative (Some zero) = None
negative (Some (suc n)) = Some (negsuc n)

unfoldable pub integer_of : List ℕ → Option ℤ
integer_of [] = None
integer_of (byte ∷ bytes) =
    if byte == 45 then negative (number_up_to (2 ^ 31) bytes) else option_map pos (number_up_to (2 ^ 31 - 1) (byte ∷ bytes))

unfoldable pub end_of : List ℕ → Option End
end_of [] = None
end_of (byte ∷ bytes) =
    if byte == 120 then option_map Exit (number_up_to 255 bytes) else
    (if byte == 115 then option_map Signal (number_up_to 255 bytes) else None)

-- the value that the word stands for in the table, where it does
abbrev pub named : {A : Type 0} → List (List ℕ × A) → List ℕ → Option A
named [] word = None
named (entry ∷ entries) word = if bytes_eq word entry.0 then Some entry.1 else named entries word

unfoldable pub flag_of : List ℕ → Option Bool
flag_of = named ((codes "0", false) ∷ (codes "1", true) ∷ [])

unfoldable pub unsent_of : List ℕ → Option Unsent
unsent_of = named ((codes "ended", unsent.Ended) ∷ (codes "none", unsent.Never) ∷ [])

unfoldable pub way_of : List ℕ → Option Way
way_of = named ((codes "did", Did) ∷ (codes "broke", Broke) ∷ (codes "fell", Fell) ∷ (codes "paused", Paused) ∷ [])

unfoldable pub kept_of : List ℕ → Option Kept
kept_of = named ((codes "begins", kept.Begins) ∷ (codes "ended", kept.Ended) ∷ [])

unfoldable pub refusal_of : List ℕ → Option Refusal
refusal_of = named ((codes "ended", refusal.Ended) ∷ (codes "moving", refusal.Moving) ∷ (codes "there", refusal.There) ∷ [])

-- `-` is none
abbrev pub maybe : {A : Type 0} → (List ℕ → Option A) → List ℕ → Option (Option A)
maybe of word = if bytes_eq word (codes "-") then Some None else option_map Some (of word)

-- ---- a word and what is behind it

-- how many bytes stand before the first blank
abbrev pub blank_at : List ℕ → ℕ
blank_at [] = 0
blank_at (byte ∷ bytes) = if byte == 32 then 0 else blank_at bytes + 1

-- the bytes before the first blank, and the rest from there
abbrev pub word_at : List ℕ → List ℕ × List ℕ
word_at bytes = (take (blank_at bytes) bytes, drop (blank_at bytes) bytes)

-- a blank, a word, and the rest
abbrev pub field_at : List ℕ → Option (List ℕ × List ℕ)
field_at [] = None
field_at (byte ∷ bytes) = if byte == 32 then Some (word_at bytes) else None

abbrev pub with_rest : {A : Type 0} → Option A → List ℕ → Option (A × List ℕ)
with_rest None rest = None
with_rest (Some x) rest = Some (x, rest)

abbrev pub of_field : {A : Type 0} → (List ℕ → Option A) → Option (List ℕ × List ℕ) → Option (A × List ℕ)
of_field of None = None
of_field of (Some field) = with_rest (of field.0) field.1

-- a field, read by its word
unfoldable pub field : {A : Type 0} → (List ℕ → Option A) → List ℕ → Option (A × List ℕ)
field of bytes = of_field of (field_at bytes)

abbrev pub paired : {A B : Type 0} → A → Option (B × List ℕ) → Option ((A × B) × List ℕ)
paired x None = None
paired x (Some y) = Some ((x, y.0), y.1)

abbrev pub second : {A B : Type 0} → (List ℕ → Option (B × List ℕ)) → Option (A × List ℕ) → Option ((A × B) × List ℕ)
second next None = None
second next (Some x) = paired x.0 (next x.1)

-- one behind the other
abbrev pub both : {A B : Type 0} → (List ℕ → Option (A × List ℕ)) → (List ℕ → Option (B × List ℕ)) → List ℕ → Option ((A × B) × List ℕ)
both first next bytes = second next (first bytes)

-- nothing is behind it
abbrev pub at_end : {A : Type 0} → A → List ℕ → Option A
at_end x [] = Some x
at_end x (byte ∷ bytes) = None

abbrev pub ended : {A B : Type 0} → (A → B) → Option (A × List ℕ) → Option B
ended make None = None
ended make (Some x) = at_end (make x.0) x.1

-- all of the bytes
abbrev pub whole : {A B : Type 0} → (A → B) → (List ℕ → Option (A × List ℕ)) → List ℕ → Option B
whole make read bytes = ended make (read bytes)

-- ---- the kinds of field

abbrev pub number_at : List ℕ → Option (ℕ × List ℕ)
number_at = field (number_up_to (2 ^ 32 - 1))

abbrev pub small_at : List ℕ → Option (ℕ × List ℕ)
small_at = field (number_up_to 255)

abbrev pub flag_at : List ℕ → Option (Bool × List ℕ)
flag_at = field flag_of

abbrev pub way_at : List ℕ → Option (Way × List ℕ)
way_at = field way_of

abbrev pub refusal_at : List ℕ → Option (Refusal × List ℕ)
refusal_at = field refusal_of

abbrev pub maybe_number_at : List ℕ → Option (Option ℕ × List ℕ)
maybe_number_at = field (maybe (number_up_to (2 ^ 32 - 1)))

abbrev pub maybe_small_at : List ℕ → Option (Option ℕ × List ℕ)
maybe_small_at = field (maybe (number_up_to 255))

abbrev pub maybe_integer_at : List ℕ → Option (Option ℤ × List ℕ)
maybe_integer_at = field (maybe integer_of)

abbrev pub maybe_end_at : List ℕ → Option (Option End × List ℕ)
maybe_end_at = field (maybe end_of)

abbrev pub maybe_unsent_at : List ℕ → Option (Option Unsent × List ℕ)
maybe_unsent_at = field (maybe unsent_of)

abbrev pub maybe_kept_at : List ℕ → Option (Option Kept × List ℕ)
maybe_kept_at = field (maybe kept_of)

-- ---- what an event is, by its word

unfoldable pub command_at : List ℕ → Option What
command_at = whole (λ f. Command f.0 f.1.0 f.1.1.0 f.1.1.1) (both number_at (both maybe_number_at (both maybe_unsent_at maybe_number_at)))

unfoldable pub steps_at : List ℕ → Option What
steps_at = whole (λ f. Steps f.0 f.1) (both number_at number_at)

unfoldable pub sent_at : List ℕ → Option What
sent_at = whole (λ f. Sent f.0 f.1) (both number_at number_at)

unfoldable pub heed_at : List ℕ → Option What
heed_at = whole (λ f. Heed f) number_at

unfoldable pub held_at : List ℕ → Option What
held_at = whole (λ f. Held f.0 f.1) (both number_at number_at)

unfoldable pub served_at : List ℕ → Option What
served_at =
    whole (λ f. Served f.0 f.1.0 f.1.1.0 f.1.1.1.0 f.1.1.1.1.0 f.1.1.1.1.1.0 f.1.1.1.1.1.1.0 f.1.1.1.1.1.1.1.0 f.1.1.1.1.1.1.1.1)
    (both number_at (both way_at (both maybe_number_at (both maybe_integer_at (both maybe_small_at (both maybe_end_at (both flag_at (both maybe_number_at maybe_number_at))))))))

unfoldable pub got_at : List ℕ → Option What
got_at = whole (λ f. Got f.0 f.1.0 f.1.1.0 f.1.1.1.0 f.1.1.1.1) (both number_at (both maybe_number_at (both flag_at (both maybe_kept_at maybe_small_at))))

unfoldable pub poked_at : List ℕ → Option What
poked_at = whole (λ f. Poked f.0 f.1) (both number_at flag_at)

unfoldable pub begin_at : List ℕ → Option What
begin_at = whole (λ f. Begin f.0 f.1.0 f.1.1) (both number_at (both small_at number_at))

unfoldable pub keep_at : List ℕ → Option What
keep_at = whole (λ f. Keep f.0 f.1.0 f.1.1) (both number_at (both small_at number_at))

unfoldable pub missed_at : List ℕ → Option What
missed_at = whole (λ f. Missed f.0 f.1.0 f.1.1) (both number_at (both small_at number_at))

unfoldable pub again_at : List ℕ → Option What
again_at = whole (λ f. Again f.0 f.1.0 f.1.1.0 f.1.1.1) (both number_at (both small_at (both small_at number_at)))

unfoldable pub allow_at : List ℕ → Option What
allow_at = whole (λ f. Allow f.0 f.1.0 f.1.1) (both number_at (both small_at number_at))

unfoldable pub deny_at : List ℕ → Option What
deny_at = whole (λ f. Deny f.0 f.1.0 f.1.1.0 f.1.1.1) (both number_at (both small_at (both number_at number_at)))

unfoldable pub depart_at : List ℕ → Option What
depart_at = whole (λ f. Depart f.0 f.1) (both number_at small_at)

unfoldable pub stay_at : List ℕ → Option What
stay_at = whole (λ f. Stay f.0 f.1.0 f.1.1.0 f.1.1.1) (both number_at (both small_at (both number_at number_at)))

unfoldable pub land_at : List ℕ → Option What
land_at = whole (λ f. Land f.0 f.1) (both number_at small_at)

unfoldable pub told_at : List ℕ → Option What
told_at =
    whole (λ f. Told f.0 f.1.0 f.1.1.0 f.1.1.1.0 f.1.1.1.1.0 f.1.1.1.1.1)
    (both number_at (both small_at (both small_at (both number_at (both maybe_number_at maybe_number_at)))))

unfoldable pub refused_at : List ℕ → Option What
refused_at = whole (λ f. Refused f.0 f.1.0 f.1.1.0 f.1.1.1) (both number_at (both small_at (both refusal_at number_at)))

unfoldable pub closed_at : List ℕ → Option What
closed_at = whole (λ f. Closed f) number_at

unfoldable pub half_at : List ℕ → Option What
half_at = whole (λ f. Half f.0 f.1.0 f.1.1) (both small_at (both maybe_number_at maybe_small_at))

unfoldable pub heard_at : List ℕ → Option What
heard_at = whole (λ f. Heard f.0 f.1.0 f.1.1) (both small_at (both maybe_number_at maybe_small_at))

-- words with what is read behind each; `strange` is none

-- of moves that are answered or done
abbrev pub answer_words : List (List ℕ × (List ℕ → Option What))
answer_words = (codes "land", land_at) ∷ (codes "told", told_at) ∷ (codes "refused", refused_at) ∷ (codes "closed", closed_at) ∷ (codes "half", half_at) ∷ (codes "heard", heard_at) ∷ []

-- of moves
abbrev pub move_words : List (List ℕ × (List ℕ → Option What))
move_words = (codes "begin", begin_at) ∷ (codes "keep", keep_at) ∷ (codes "missed", missed_at) ∷ (codes "again", again_at) ∷ (codes "allow", allow_at) ∷ (codes "deny", deny_at) ∷ (codes "depart", depart_at) ∷ (codes "stay", stay_at) ∷ answer_words

-- of events
abbrev pub event_words : List (List ℕ × (List ℕ → Option What))
event_words = (codes "command", command_at) ∷ (codes "steps", steps_at) ∷ (codes "sent", sent_at) ∷ (codes "heed", heed_at) ∷ (codes "held", held_at) ∷ (codes "served", served_at) ∷ (codes "got", got_at) ∷ (codes "poked", poked_at) ∷ move_words

abbrev pub applied : Option (List ℕ → Option What) → List ℕ → Option What
applied None rest = None
applied (Some read) rest = read rest

abbrev pub what_behind : Option (List ℕ × List ℕ) → Option What
what_behind None = None
what_behind (Some field) = applied (named event_words field.0) field.1

unfoldable pub what_at : List ℕ → Option What
what_at rest = what_behind (field_at rest)

-- the stamp stands first, with no blank before it
abbrev pub stamp_at : List ℕ → Option (ℕ × List ℕ)
stamp_at line = of_field (number_up_to (2 ^ 64 - 1)) (Some (word_at line))

abbrev pub event_behind : Option ((ℕ × ℕ) × List ℕ) → Option Event
event_behind None = None
event_behind (Some x) = option_map (λ what. record { stamp = x.0.0; node = x.0.1; what = what }) (what_at x.1)

unfoldable pub event_of : List ℕ → Option Event
event_of line = event_behind (both stamp_at small_at line)
