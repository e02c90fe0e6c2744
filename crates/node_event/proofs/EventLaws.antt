-- What is read as an event is spelled so, and what is spelled so is read as that event.
use Rattle.std.proofs.Common.{◌≡◌, ℕ, ◌-◌, ◌^◌, ◌<◌, true, List, ◌∷◌, ◌++◌, Option, Some, None, refl, sym, ◌∙◌, ap}
use Rattle.std.proofs.lemmas.Option.{same_Some}
use Rattle.std.specs.Prelude.{codes, Bool, ℤ, IfSome}
use Rattle.call_table.specs.declared.process.End.{End}
use Rattle.node_event.specs.declared.event.Unsent.{Unsent}
use Rattle.node_event.specs.declared.event.Way.{Way}
use Rattle.node_event.specs.declared.event.Kept.{Kept}
use Rattle.node_event.specs.declared.event.Refusal.{Refusal}
use Rattle.std.specs.Fmt.{decimal}
use Rattle.std.specs.Option.{option_map}
use Rattle.node_event.specs.declared.event.Event.{Event}
use Rattle.node_event.specs.declared.event.What.{What}
use Rattle.node_event.specs.declared.event.What.TheVariants.{Command, Steps, Sent, Heed, Held, Served, Got, Poked, Begin, Keep, Missed, Again, Allow, Deny, Depart, Stay, Land, Told, Refused, Closed, Half, Heard, Strange}
use Rattle.node_event.specs.Lines.{words_of, joined, what_text, event_line, IsWritten, HasLine}
use Rattle.node_event.specs.Reading.{number_up_to, word_at, field_at, of_field, with_rest, paired, second, both, command_at, steps_at, sent_at, heed_at, held_at, served_at, got_at, poked_at, begin_at, keep_at, missed_at, again_at, allow_at, deny_at, depart_at, stay_at, land_at, told_at, refused_at, closed_at, half_at, heard_at, named, event_words, applied, what_behind, what_at, stamp_at, small_at, event_behind, event_of}
use Rattle.node_event.proofs.Spelling.{no_blank, begins_blank, mapped_some, word_at-word, word_at-whole, of_field_some, field_at_some, field_at-word, second_some, both_spells, whole_takes, whole_again, named_takes}
use Rattle.node_event.proofs.WordLaws.{Any, number_spells, small_spells, flag_spells, way_spells, refusal_spells, maybe_number_spells, maybe_small_spells, maybe_integer_spells, maybe_end_spells, maybe_unsent_spells, maybe_kept_spells, stamp_reads}

-- an event with this word, and the bytes behind the word
abbrev IsSpelled : List ℕ → What → List ℕ → Type 0
IsSpelled word what rest = (what_text what ≡ word ++ rest) × IsWritten what

-- what is read behind the word is spelled so
abbrev ReadsBehind : List ℕ → (List ℕ → Option What) → Type 0
ReadsBehind word read = (rest : List ℕ) (what : What) → read rest ≡ Some what → IsSpelled word what rest

-- what is spelled behind a word is read behind a blank and the word
word_again : (word rest : List ℕ) (read : List ℕ → Option What) (what : What) → no_blank word ≡ true → begins_blank rest ≡ true → named event_words word ≡ Some read → read rest ≡ Some what → what_at (32 ∷ (word ++ rest)) ≡ Some what
unfolding what_at
word_again word rest read what solid ends known e =
    ap what_behind (field_at-word word rest solid ends) ∙ ap (λ f. applied f rest) known ∙ e

command_takes : ReadsBehind (codes "command") command_at
unfolding command_at
command_takes rest what e =
    whole_takes (both_spells number_spells (both_spells maybe_number_spells (both_spells maybe_unsent_spells maybe_number_spells))) (λ f. Command f.0 f.1.0 f.1.1.0 f.1.1.1) rest what (IsSpelled (codes "command")) e (λ x fits. (refl, (fits.0, fits.1.0, fits.1.1.1)))

steps_takes : ReadsBehind (codes "steps") steps_at
unfolding steps_at
steps_takes rest what e =
    whole_takes (both_spells number_spells number_spells) (λ f. Steps f.0 f.1) rest what (IsSpelled (codes "steps")) e (λ x fits. (refl, (fits.0, fits.1)))

sent_takes : ReadsBehind (codes "sent") sent_at
unfolding sent_at
sent_takes rest what e =
    whole_takes (both_spells number_spells number_spells) (λ f. Sent f.0 f.1) rest what (IsSpelled (codes "sent")) e (λ x fits. (refl, (fits.0, fits.1)))

heed_takes : ReadsBehind (codes "heed") heed_at
unfolding heed_at
heed_takes rest what e =
    whole_takes (number_spells) (λ f. Heed f) rest what (IsSpelled (codes "heed")) e (λ x fits. (refl, fits))

held_takes : ReadsBehind (codes "held") held_at
unfolding held_at
held_takes rest what e =
    whole_takes (both_spells number_spells number_spells) (λ f. Held f.0 f.1) rest what (IsSpelled (codes "held")) e (λ x fits. (refl, (fits.0, fits.1)))

served_takes : ReadsBehind (codes "served") served_at
unfolding served_at
served_takes rest what e =
    whole_takes (both_spells number_spells (both_spells way_spells (both_spells maybe_number_spells (both_spells maybe_integer_spells (both_spells maybe_small_spells (both_spells maybe_end_spells (both_spells flag_spells (both_spells maybe_number_spells maybe_number_spells)))))))) (λ f. Served f.0 f.1.0 f.1.1.0 f.1.1.1.0 f.1.1.1.1.0 f.1.1.1.1.1.0 f.1.1.1.1.1.1.0 f.1.1.1.1.1.1.1.0 f.1.1.1.1.1.1.1.1) rest what (IsSpelled (codes "served")) e (λ x fits. (refl, (fits.0, fits.1.1.0, fits.1.1.1.0, fits.1.1.1.1.0, fits.1.1.1.1.1.0, fits.1.1.1.1.1.1.1.0, fits.1.1.1.1.1.1.1.1)))

got_takes : ReadsBehind (codes "got") got_at
unfolding got_at
got_takes rest what e =
    whole_takes (both_spells number_spells (both_spells maybe_number_spells (both_spells flag_spells (both_spells maybe_kept_spells maybe_small_spells)))) (λ f. Got f.0 f.1.0 f.1.1.0 f.1.1.1.0 f.1.1.1.1) rest what (IsSpelled (codes "got")) e (λ x fits. (refl, (fits.0, fits.1.0, fits.1.1.1.1)))

poked_takes : ReadsBehind (codes "poked") poked_at
unfolding poked_at
poked_takes rest what e =
    whole_takes (both_spells number_spells flag_spells) (λ f. Poked f.0 f.1) rest what (IsSpelled (codes "poked")) e (λ x fits. (refl, fits.0))

begin_takes : ReadsBehind (codes "begin") begin_at
unfolding begin_at
begin_takes rest what e =
    whole_takes (both_spells number_spells (both_spells small_spells number_spells)) (λ f. Begin f.0 f.1.0 f.1.1) rest what (IsSpelled (codes "begin")) e (λ x fits. (refl, (fits.0, fits.1.0, fits.1.1)))

keep_takes : ReadsBehind (codes "keep") keep_at
unfolding keep_at
keep_takes rest what e =
    whole_takes (both_spells number_spells (both_spells small_spells number_spells)) (λ f. Keep f.0 f.1.0 f.1.1) rest what (IsSpelled (codes "keep")) e (λ x fits. (refl, (fits.0, fits.1.0, fits.1.1)))

missed_takes : ReadsBehind (codes "missed") missed_at
unfolding missed_at
missed_takes rest what e =
    whole_takes (both_spells number_spells (both_spells small_spells number_spells)) (λ f. Missed f.0 f.1.0 f.1.1) rest what (IsSpelled (codes "missed")) e (λ x fits. (refl, (fits.0, fits.1.0, fits.1.1)))

again_takes : ReadsBehind (codes "again") again_at
unfolding again_at
again_takes rest what e =
    whole_takes (both_spells number_spells (both_spells small_spells (both_spells small_spells number_spells))) (λ f. Again f.0 f.1.0 f.1.1.0 f.1.1.1) rest what (IsSpelled (codes "again")) e (λ x fits. (refl, (fits.0, fits.1.0, fits.1.1.0, fits.1.1.1)))

allow_takes : ReadsBehind (codes "allow") allow_at
unfolding allow_at
allow_takes rest what e =
    whole_takes (both_spells number_spells (both_spells small_spells number_spells)) (λ f. Allow f.0 f.1.0 f.1.1) rest what (IsSpelled (codes "allow")) e (λ x fits. (refl, (fits.0, fits.1.0, fits.1.1)))

deny_takes : ReadsBehind (codes "deny") deny_at
unfolding deny_at
deny_takes rest what e =
    whole_takes (both_spells number_spells (both_spells small_spells (both_spells number_spells number_spells))) (λ f. Deny f.0 f.1.0 f.1.1.0 f.1.1.1) rest what (IsSpelled (codes "deny")) e (λ x fits. (refl, (fits.0, fits.1.0, fits.1.1.0, fits.1.1.1)))

depart_takes : ReadsBehind (codes "depart") depart_at
unfolding depart_at
depart_takes rest what e =
    whole_takes (both_spells number_spells small_spells) (λ f. Depart f.0 f.1) rest what (IsSpelled (codes "depart")) e (λ x fits. (refl, (fits.0, fits.1)))

stay_takes : ReadsBehind (codes "stay") stay_at
unfolding stay_at
stay_takes rest what e =
    whole_takes (both_spells number_spells (both_spells small_spells (both_spells number_spells number_spells))) (λ f. Stay f.0 f.1.0 f.1.1.0 f.1.1.1) rest what (IsSpelled (codes "stay")) e (λ x fits. (refl, (fits.0, fits.1.0, fits.1.1.0, fits.1.1.1)))

land_takes : ReadsBehind (codes "land") land_at
unfolding land_at
land_takes rest what e =
    whole_takes (both_spells number_spells small_spells) (λ f. Land f.0 f.1) rest what (IsSpelled (codes "land")) e (λ x fits. (refl, (fits.0, fits.1)))

told_takes : ReadsBehind (codes "told") told_at
unfolding told_at
told_takes rest what e =
    whole_takes (both_spells number_spells (both_spells small_spells (both_spells small_spells (both_spells number_spells (both_spells maybe_number_spells maybe_number_spells))))) (λ f. Told f.0 f.1.0 f.1.1.0 f.1.1.1.0 f.1.1.1.1.0 f.1.1.1.1.1) rest what (IsSpelled (codes "told")) e (λ x fits. (refl, (fits.0, fits.1.0, fits.1.1.0, fits.1.1.1.0, fits.1.1.1.1.0, fits.1.1.1.1.1)))

refused_takes : ReadsBehind (codes "refused") refused_at
unfolding refused_at
refused_takes rest what e =
    whole_takes (both_spells number_spells (both_spells small_spells (both_spells refusal_spells number_spells))) (λ f. Refused f.0 f.1.0 f.1.1.0 f.1.1.1) rest what (IsSpelled (codes "refused")) e (λ x fits. (refl, (fits.0, fits.1.0, fits.1.1.1)))

closed_takes : ReadsBehind (codes "closed") closed_at
unfolding closed_at
closed_takes rest what e =
    whole_takes (number_spells) (λ f. Closed f) rest what (IsSpelled (codes "closed")) e (λ x fits. (refl, fits))

half_takes : ReadsBehind (codes "half") half_at
unfolding half_at
half_takes rest what e =
    whole_takes (both_spells small_spells (both_spells maybe_number_spells maybe_small_spells)) (λ f. Half f.0 f.1.0 f.1.1) rest what (IsSpelled (codes "half")) e (λ x fits. (refl, (fits.0, fits.1.0, fits.1.1)))

heard_takes : ReadsBehind (codes "heard") heard_at
unfolding heard_at
heard_takes rest what e =
    whole_takes (both_spells small_spells (both_spells maybe_number_spells maybe_small_spells)) (λ f. Heard f.0 f.1.0 f.1.1) rest what (IsSpelled (codes "heard")) e (λ x fits. (refl, (fits.0, fits.1.0, fits.1.1)))

-- any value of an option fits
any_some : {X : Type 0} (o : Option X) → IfSome o Any
any_some None = tt
any_some (Some x) = tt

command_again : (line : ℕ) (launched : Option ℕ) (outcome : Option Unsent) (poked : Option ℕ) → IsWritten (Command line launched outcome poked) → what_at (32 ∷ what_text (Command line launched outcome poked)) ≡ Some (Command line launched outcome poked)
unfolding command_at
command_again line launched outcome poked fits =
    word_again (codes "command") _ command_at _ refl refl refl (whole_again (both_spells number_spells (both_spells maybe_number_spells (both_spells maybe_unsent_spells maybe_number_spells))) (λ f. Command f.0 f.1.0 f.1.1.0 f.1.1.1) (line, (launched, (outcome, poked))) (fits.0, (fits.1, (any_some outcome, fits.2))))

steps_again : (pid : ℕ) (k : ℕ) → IsWritten (Steps pid k) → what_at (32 ∷ what_text (Steps pid k)) ≡ Some (Steps pid k)
unfolding steps_at
steps_again pid k fits =
    word_again (codes "steps") _ steps_at _ refl refl refl (whole_again (both_spells number_spells number_spells) (λ f. Steps f.0 f.1) (pid, k) (fits.0, fits.1))

sent_again : (pid : ℕ) (number_ : ℕ) → IsWritten (Sent pid number_) → what_at (32 ∷ what_text (Sent pid number_)) ≡ Some (Sent pid number_)
unfolding sent_at
sent_again pid number_ fits =
    word_again (codes "sent") _ sent_at _ refl refl refl (whole_again (both_spells number_spells number_spells) (λ f. Sent f.0 f.1) (pid, number_) (fits.0, fits.1))

heed_again : (pid : ℕ) → IsWritten (Heed pid) → what_at (32 ∷ what_text (Heed pid)) ≡ Some (Heed pid)
unfolding heed_at
heed_again pid fits =
    word_again (codes "heed") _ heed_at _ refl refl refl (whole_again (number_spells) (λ f. Heed f) pid fits)

held_again : (pid : ℕ) (number_ : ℕ) → IsWritten (Held pid number_) → what_at (32 ∷ what_text (Held pid number_)) ≡ Some (Held pid number_)
unfolding held_at
held_again pid number_ fits =
    word_again (codes "held") _ held_at _ refl refl refl (whole_again (both_spells number_spells number_spells) (λ f. Held f.0 f.1) (pid, number_) (fits.0, fits.1))

served_again : (pid : ℕ) (way : Way) (number_ : Option ℕ) (value : Option ℤ) (taken : Option ℕ) (end : Option End) (more : Bool) (poked : Option ℕ) (poked_too : Option ℕ) → IsWritten (Served pid way number_ value taken end more poked poked_too) → what_at (32 ∷ what_text (Served pid way number_ value taken end more poked poked_too)) ≡ Some (Served pid way number_ value taken end more poked poked_too)
unfolding served_at
served_again pid way number_ value taken end more poked poked_too fits =
    word_again (codes "served") _ served_at _ refl refl refl (whole_again (both_spells number_spells (both_spells way_spells (both_spells maybe_number_spells (both_spells maybe_integer_spells (both_spells maybe_small_spells (both_spells maybe_end_spells (both_spells flag_spells (both_spells maybe_number_spells maybe_number_spells)))))))) (λ f. Served f.0 f.1.0 f.1.1.0 f.1.1.1.0 f.1.1.1.1.0 f.1.1.1.1.1.0 f.1.1.1.1.1.1.0 f.1.1.1.1.1.1.1.0 f.1.1.1.1.1.1.1.1) (pid, (way, (number_, (value, (taken, (end, (more, (poked, poked_too)))))))) (fits.0, (tt, (fits.1, (fits.2, (fits.3, (fits.4, (tt, (fits.5, fits.6)))))))))

got_again : (pid : ℕ) (child : Option ℕ) (ended : Bool) (kept_move : Option Kept) (to : Option ℕ) → IsWritten (Got pid child ended kept_move to) → what_at (32 ∷ what_text (Got pid child ended kept_move to)) ≡ Some (Got pid child ended kept_move to)
unfolding got_at
got_again pid child ended kept_move to fits =
    word_again (codes "got") _ got_at _ refl refl refl (whole_again (both_spells number_spells (both_spells maybe_number_spells (both_spells flag_spells (both_spells maybe_kept_spells maybe_small_spells)))) (λ f. Got f.0 f.1.0 f.1.1.0 f.1.1.1.0 f.1.1.1.1) (pid, (child, (ended, (kept_move, to)))) (fits.0, (fits.1, (tt, (any_some kept_move, fits.2)))))

poked_again : (pid : ℕ) (used : Bool) → IsWritten (Poked pid used) → what_at (32 ∷ what_text (Poked pid used)) ≡ Some (Poked pid used)
unfolding poked_at
poked_again pid used fits =
    word_again (codes "poked") _ poked_at _ refl refl refl (whole_again (both_spells number_spells flag_spells) (λ f. Poked f.0 f.1) (pid, used) (fits, tt))

begin_again : (pid : ℕ) (to : ℕ) (line : ℕ) → IsWritten (Begin pid to line) → what_at (32 ∷ what_text (Begin pid to line)) ≡ Some (Begin pid to line)
unfolding begin_at
begin_again pid to line fits =
    word_again (codes "begin") _ begin_at _ refl refl refl (whole_again (both_spells number_spells (both_spells small_spells number_spells)) (λ f. Begin f.0 f.1.0 f.1.1) (pid, (to, line)) (fits.0, (fits.1, fits.2)))

keep_again : (pid : ℕ) (to : ℕ) (line : ℕ) → IsWritten (Keep pid to line) → what_at (32 ∷ what_text (Keep pid to line)) ≡ Some (Keep pid to line)
unfolding keep_at
keep_again pid to line fits =
    word_again (codes "keep") _ keep_at _ refl refl refl (whole_again (both_spells number_spells (both_spells small_spells number_spells)) (λ f. Keep f.0 f.1.0 f.1.1) (pid, (to, line)) (fits.0, (fits.1, fits.2)))

missed_again : (pid : ℕ) (to : ℕ) (line : ℕ) → IsWritten (Missed pid to line) → what_at (32 ∷ what_text (Missed pid to line)) ≡ Some (Missed pid to line)
unfolding missed_at
missed_again pid to line fits =
    word_again (codes "missed") _ missed_at _ refl refl refl (whole_again (both_spells number_spells (both_spells small_spells number_spells)) (λ f. Missed f.0 f.1.0 f.1.1) (pid, (to, line)) (fits.0, (fits.1, fits.2)))

again_again : (pid : ℕ) (to : ℕ) (place : ℕ) (line : ℕ) → IsWritten (Again pid to place line) → what_at (32 ∷ what_text (Again pid to place line)) ≡ Some (Again pid to place line)
unfolding again_at
again_again pid to place line fits =
    word_again (codes "again") _ again_at _ refl refl refl (whole_again (both_spells number_spells (both_spells small_spells (both_spells small_spells number_spells))) (λ f. Again f.0 f.1.0 f.1.1.0 f.1.1.1) (pid, (to, (place, line))) (fits.0, (fits.1, (fits.2, fits.3))))

allow_again : (pid : ℕ) (from : ℕ) (need : ℕ) → IsWritten (Allow pid from need) → what_at (32 ∷ what_text (Allow pid from need)) ≡ Some (Allow pid from need)
unfolding allow_at
allow_again pid from need fits =
    word_again (codes "allow") _ allow_at _ refl refl refl (whole_again (both_spells number_spells (both_spells small_spells number_spells)) (λ f. Allow f.0 f.1.0 f.1.1) (pid, (from, need)) (fits.0, (fits.1, fits.2)))

deny_again : (pid : ℕ) (from : ℕ) (need : ℕ) (free : ℕ) → IsWritten (Deny pid from need free) → what_at (32 ∷ what_text (Deny pid from need free)) ≡ Some (Deny pid from need free)
unfolding deny_at
deny_again pid from need free fits =
    word_again (codes "deny") _ deny_at _ refl refl refl (whole_again (both_spells number_spells (both_spells small_spells (both_spells number_spells number_spells))) (λ f. Deny f.0 f.1.0 f.1.1.0 f.1.1.1) (pid, (from, (need, free))) (fits.0, (fits.1, (fits.2, fits.3))))

depart_again : (pid : ℕ) (to : ℕ) → IsWritten (Depart pid to) → what_at (32 ∷ what_text (Depart pid to)) ≡ Some (Depart pid to)
unfolding depart_at
depart_again pid to fits =
    word_again (codes "depart") _ depart_at _ refl refl refl (whole_again (both_spells number_spells small_spells) (λ f. Depart f.0 f.1) (pid, to) (fits.0, fits.1))

stay_again : (pid : ℕ) (to : ℕ) (need : ℕ) (free : ℕ) → IsWritten (Stay pid to need free) → what_at (32 ∷ what_text (Stay pid to need free)) ≡ Some (Stay pid to need free)
unfolding stay_at
stay_again pid to need free fits =
    word_again (codes "stay") _ stay_at _ refl refl refl (whole_again (both_spells number_spells (both_spells small_spells (both_spells number_spells number_spells))) (λ f. Stay f.0 f.1.0 f.1.1.0 f.1.1.1) (pid, (to, (need, free))) (fits.0, (fits.1, (fits.2, fits.3))))

land_again : (pid : ℕ) (source : ℕ) → IsWritten (Land pid source) → what_at (32 ∷ what_text (Land pid source)) ≡ Some (Land pid source)
unfolding land_at
land_again pid source fits =
    word_again (codes "land") _ land_at _ refl refl refl (whole_again (both_spells number_spells small_spells) (λ f. Land f.0 f.1) (pid, source) (fits.0, fits.1))

told_again : (pid : ℕ) (at : ℕ) (source : ℕ) (hops : ℕ) (line : Option ℕ) (poked : Option ℕ) → IsWritten (Told pid at source hops line poked) → what_at (32 ∷ what_text (Told pid at source hops line poked)) ≡ Some (Told pid at source hops line poked)
unfolding told_at
told_again pid at source hops line poked fits =
    word_again (codes "told") _ told_at _ refl refl refl (whole_again (both_spells number_spells (both_spells small_spells (both_spells small_spells (both_spells number_spells (both_spells maybe_number_spells maybe_number_spells))))) (λ f. Told f.0 f.1.0 f.1.1.0 f.1.1.1.0 f.1.1.1.1.0 f.1.1.1.1.1) (pid, (at, (source, (hops, (line, poked))))) (fits.0, (fits.1, (fits.2, (fits.3, (fits.4, fits.5))))))

refused_again : (pid : ℕ) (to : ℕ) (why : Refusal) (line : ℕ) → IsWritten (Refused pid to why line) → what_at (32 ∷ what_text (Refused pid to why line)) ≡ Some (Refused pid to why line)
unfolding refused_at
refused_again pid to why line fits =
    word_again (codes "refused") _ refused_at _ refl refl refl (whole_again (both_spells number_spells (both_spells small_spells (both_spells refusal_spells number_spells))) (λ f. Refused f.0 f.1.0 f.1.1.0 f.1.1.1) (pid, (to, (why, line))) (fits.0, (fits.1, (tt, fits.2))))

closed_again : (line : ℕ) → IsWritten (Closed line) → what_at (32 ∷ what_text (Closed line)) ≡ Some (Closed line)
unfolding closed_at
closed_again line fits =
    word_again (codes "closed") _ closed_at _ refl refl refl (whole_again (number_spells) (λ f. Closed f) line fits)

half_again : (other : ℕ) (pid : Option ℕ) (to : Option ℕ) → IsWritten (Half other pid to) → what_at (32 ∷ what_text (Half other pid to)) ≡ Some (Half other pid to)
unfolding half_at
half_again other pid to fits =
    word_again (codes "half") _ half_at _ refl refl refl (whole_again (both_spells small_spells (both_spells maybe_number_spells maybe_small_spells)) (λ f. Half f.0 f.1.0 f.1.1) (other, (pid, to)) (fits.0, (fits.1, fits.2)))

heard_again : (other : ℕ) (pid : Option ℕ) (to : Option ℕ) → IsWritten (Heard other pid to) → what_at (32 ∷ what_text (Heard other pid to)) ≡ Some (Heard other pid to)
unfolding heard_at
heard_again other pid to fits =
    word_again (codes "heard") _ heard_at _ refl refl refl (whole_again (both_spells small_spells (both_spells maybe_number_spells maybe_small_spells)) (λ f. Heard f.0 f.1.0 f.1.1) (other, (pid, to)) (fits.0, (fits.1, fits.2)))

applied_takes : (word rest : List ℕ) (what : What) (read : Option (List ℕ → Option What)) → named event_words word ≡ read → applied read rest ≡ Some what → IsSpelled word what rest
applied_takes word rest what None known e = absurd (cc)
applied_takes word rest what (Some read) known e =
    named_takes ReadsBehind event_words word read (command_takes, (steps_takes, (sent_takes, (heed_takes, (held_takes, (served_takes, (got_takes, (poked_takes, (begin_takes, (keep_takes, (missed_takes, (again_takes, (allow_takes, (deny_takes, (depart_takes, (stay_takes, (land_takes, (told_takes, (refused_takes, (closed_takes, (half_takes, (heard_takes, tt)))))))))))))))))))))) known rest what e

what_behind_some : (o : Option (List ℕ × List ℕ)) (what : What) → what_behind o ≡ Some what → (word : List ℕ) × (rest : List ℕ) × (o ≡ Some (word, rest)) × (applied (named event_words word) rest ≡ Some what)
what_behind_some None what e = absurd (cc)
what_behind_some (Some f) what e = (f.0, f.1, refl, e)

what_takes : (rest : List ℕ) (what : What) → what_at rest ≡ Some what → (rest ≡ 32 ∷ what_text what) × IsWritten what
unfolding what_at
what_takes rest what e =
    let found = what_behind_some (field_at rest) what e in
    let spelled = applied_takes found.0 found.1 what (named event_words found.0) refl found.3 in
    (field_at_some rest found.0 found.1 found.2 ∙ ap (λ t. 32 ∷ t) (sym spelled.0), spelled.1)

what_again : (what : What) → IsWritten what → what_at (32 ∷ what_text what) ≡ Some what
what_again (Command line launched outcome poked) fits = command_again line launched outcome poked fits
what_again (Steps pid k) fits = steps_again pid k fits
what_again (Sent pid number_) fits = sent_again pid number_ fits
what_again (Heed pid) fits = heed_again pid fits
what_again (Held pid number_) fits = held_again pid number_ fits
what_again (Served pid way number_ value taken end more poked poked_too) fits = served_again pid way number_ value taken end more poked poked_too fits
what_again (Got pid child ended kept_move to) fits = got_again pid child ended kept_move to fits
what_again (Poked pid used) fits = poked_again pid used fits
what_again (Begin pid to line) fits = begin_again pid to line fits
what_again (Keep pid to line) fits = keep_again pid to line fits
what_again (Missed pid to line) fits = missed_again pid to line fits
what_again (Again pid to place line) fits = again_again pid to place line fits
what_again (Allow pid from need) fits = allow_again pid from need fits
what_again (Deny pid from need free) fits = deny_again pid from need free fits
what_again (Depart pid to) fits = depart_again pid to fits
what_again (Stay pid to need free) fits = stay_again pid to need free fits
what_again (Land pid source) fits = land_again pid source fits
what_again (Told pid at source hops line poked) fits = told_again pid at source hops line poked fits
what_again (Refused pid to why line) fits = refused_again pid to why line fits
what_again (Closed line) fits = closed_again line fits
what_again (Half other pid to) fits = half_again other pid to fits
what_again (Heard other pid to) fits = heard_again other pid to fits
what_again Strange fits = absurd fits

-- a word before the words of an event
joined-words : (word : List ℕ) (what : What) → joined (word ∷ words_of what) ≡ word ++ 32 ∷ what_text what
joined-words word (Command line launched outcome poked) = refl
joined-words word (Steps pid k) = refl
joined-words word (Sent pid number_) = refl
joined-words word (Heed pid) = refl
joined-words word (Held pid number_) = refl
joined-words word (Served pid way number_ value taken end more poked poked_too) = refl
joined-words word (Got pid child ended kept_move to) = refl
joined-words word (Poked pid used) = refl
joined-words word (Begin pid to line) = refl
joined-words word (Keep pid to line) = refl
joined-words word (Missed pid to line) = refl
joined-words word (Again pid to place line) = refl
joined-words word (Allow pid from need) = refl
joined-words word (Deny pid from need free) = refl
joined-words word (Depart pid to) = refl
joined-words word (Stay pid to need free) = refl
joined-words word (Land pid source) = refl
joined-words word (Told pid at source hops line poked) = refl
joined-words word (Refused pid to why line) = refl
joined-words word (Closed line) = refl
joined-words word (Half other pid to) = refl
joined-words word (Heard other pid to) = refl
joined-words word Strange = refl

event_text : (event : Event) → event_line event ≡ decimal event.stamp ++ 32 ∷ (decimal event.node ++ 32 ∷ what_text event.what)
event_text event = ap (λ t. decimal event.stamp ++ 32 ∷ t) (joined-words (decimal event.node) event.what)

-- ---- the whole line

event_behind_some : (o : Option ((ℕ × ℕ) × List ℕ)) (event : Event) → event_behind o ≡ Some event → (rest : List ℕ) × (o ≡ Some ((event.stamp, event.node), rest)) × (what_at rest ≡ Some event.what)
event_behind_some None event e = absurd (cc)
event_behind_some (Some x) event e =
    let found = mapped_some (λ what. record { stamp = x.0.0; node = x.0.1; what = what }) (what_at x.1) event e in
    (x.1, ap (λ (ev : Event). Some ((ev.stamp, ev.node), x.1)) found.2, found.1 ∙ ap (λ (ev : Event). Some ev.what) found.2)

stamp_takes : (line : List ℕ) (stamp : ℕ) (rest : List ℕ) → stamp_at line ≡ Some (stamp, rest) → (line ≡ decimal stamp ++ rest) × (stamp < 2 ^ 64)
stamp_takes line stamp rest e =
    let found = of_field_some (number_up_to (2 ^ 64 - 1)) (Some (word_at line)) stamp rest e in
    let taken = stamp_reads.takes found.0 stamp found.2 in
    let same : word_at line ≡ (found.0, rest) = same_Some _ _ found.1 in
    (sym (word_at-whole line) ∙ ap (λ w. w.0 ++ w.1) same ∙ ap (λ w. w ++ rest) (sym taken.0), taken.1)

stamp_again : (stamp : ℕ) (rest : List ℕ) → stamp < 2 ^ 64 → begins_blank rest ≡ true → stamp_at (decimal stamp ++ rest) ≡ Some (stamp, rest)
stamp_again stamp rest fits ends =
    ap (λ w. of_field (number_up_to (2 ^ 64 - 1)) (Some w)) (word_at-word (decimal stamp) rest (stamp_reads.solid stamp fits) ends) ∙ ap (λ o. with_rest o rest) (stamp_reads.again stamp fits)

-- what is read is the line of an event
pub event_takes : (line : List ℕ) (event : Event) → event_of line ≡ Some event → HasLine event × (event_line event ≡ line)
unfolding event_of
event_takes line event e =
    let found = event_behind_some (both stamp_at small_at line) event e in
    let parts = second_some small_at (stamp_at line) (event.stamp, event.node) found.0 found.1 in
    let stamp = stamp_takes line event.stamp parts.0 parts.1 in
    let node = small_spells.takes parts.0 event.node found.0 parts.2 in
    let what = what_takes found.0 event.what found.2 in
    ((stamp.1, node.1, what.1), event_text event ∙ sym (stamp.0 ∙ ap (λ t. decimal event.stamp ++ t) (node.0 ∙ ap (λ t. (32 ∷ decimal event.node) ++ t) what.0)))

-- the line of an event is read as that event
pub event_again : (event : Event) → HasLine event → event_of (event_line event) ≡ Some event
unfolding event_of
event_again event fits =
    let behind = 32 ∷ what_text event.what in
    let rest = 32 ∷ (decimal event.node ++ behind) in
    let stamp = stamp_again event.stamp rest fits.0 refl in
    let node = small_spells.again event.node behind fits.1 refl in
    let what = what_again event.what fits.2 in
    ap event_of (event_text event)
    ∙ ap (λ o. event_behind (second small_at o)) stamp
    ∙ ap (λ o. event_behind (paired event.stamp o)) node
    ∙ ap (option_map (λ what. record { stamp = event.stamp; node = event.node; what = what })) what
