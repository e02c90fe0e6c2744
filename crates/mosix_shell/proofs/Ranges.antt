-- Words give values that are in their ranges.
use Rattle.std.proofs.Common.{◌≡◌, ℕ, ◌≤◌, List, length, refl, subst, arith, Option, Some, None, Bool, true, false, cond, nat_lt, nat_le, ◌==◌}
use Rattle.std.specs.Prelude.{codes}
use Rattle.std.specs.Str.Parse.{digits_value}
use Rattle.std.proofs.lemmas.Bool.Decides.{nat_tests}
use Rattle.call_table.specs.declared.limit.TheConstants.{NODES, LEAST_NODE_PAGES, NODE_PAGES, QUANTUM, JOURNAL}
use Rattle.clap.specs.Words.{Text, Row, first_of, fault_of, matches_of}
use Rattle.mosix_words.specs.Command.{the_app}
use Rattle.mosix_words.specs.Numbers.{is_number, at_most, at_least, number_or}
use Rattle.mosix_words.specs.Settings.{mode_in, seed_in, is_set, settings, settings_in, settings_of}
use Rattle.mosix_words.specs.declared.settings.Mode.{Mode}
use Rattle.mosix_words.specs.declared.settings.Settings.{Settings}
use Rattle.mosix_shell.specs.Ranges.{IsInRange}

abbrev Within : ℕ → ℕ → Option ℕ → Type 0
Within low high None = Unit {0}
Within low high (Some n) = (low ≤ n) × (n ≤ high)

within_least : (low high n : ℕ) (few : Bool) → nat_lt n low ≡ few → n ≤ high → Within low high (cond few None (Some n))
within_least low high n true t h = tt
within_least low high n false t h = let most : low ≤ n = grind (arith, nat_tests, t) in (most, h)

within_most : (low high n : ℕ) (few : Bool) → nat_le n high ≡ few → Within low high (at_least low (cond few (Some n) None))
within_most low high n true t = within_least low high n (nat_lt n low) refl (grind (arith, nat_tests, t))
within_most low high n false t = tt

within_number : (low high : ℕ) (o : Option ℕ) (b : Bool) → Within low high o → Within low high (cond b o None)
within_number low high o true h = h
within_number low high o false h = tt

within : (default low high : ℕ) (word : Option (List ℕ)) → low ≤ default → default ≤ high → Within low high (number_or default low high word)
within default low high None l m = (l, m)
within default low high (Some word) l m = within_number low high (at_least low (at_most high (digits_value 10 word))) (is_number word) (within_most low high (digits_value 10 word) (nat_le (digits_value 10 word) high) refl)

abbrev InRange : Option Settings → Type 0
InRange None = Unit {0}
InRange (Some s) = IsInRange s

all_within : (mode : Option Mode) (nodes pages quantum journal : Option ℕ) (seed : Option (Option ℕ)) (serial events : Bool) → Within 1 NODES nodes → Within LEAST_NODE_PAGES NODE_PAGES pages → Within 1 QUANTUM quantum → Within 1 JOURNAL journal
    → InRange (settings mode nodes pages quantum journal seed serial events)
all_within None nodes pages quantum journal seed serial events a b c d = tt
all_within (Some mode) None pages quantum journal seed serial events a b c d = tt
all_within (Some mode) (Some nodes) None quantum journal seed serial events a b c d = tt
all_within (Some mode) (Some nodes) (Some pages) None journal seed serial events a b c d = tt
all_within (Some mode) (Some nodes) (Some pages) (Some quantum) None seed serial events a b c d = tt
all_within (Some mode) (Some nodes) (Some pages) (Some quantum) (Some journal) None serial events a b c d = tt
all_within (Some mode) (Some nodes) (Some pages) (Some quantum) (Some journal) (Some seed) serial events a b c d =
    record { least_nodes = a.0; most_nodes = a.1; most_pages = b.1; least_quantum = c.0; most_journal = d.1 }

rows_within : (rows : List Row) → InRange (settings_in rows)
rows_within rows =
    all_within (mode_in (first_of (codes "mode") rows)) (number_or 4 1 NODES (first_of (codes "nodes") rows)) (number_or 4096 LEAST_NODE_PAGES NODE_PAGES (first_of (codes "pages") rows)) (number_or 16384 1 QUANTUM (first_of (codes "quantum") rows))
    (number_or 262144 1 JOURNAL (first_of (codes "journal") rows)) (seed_in (first_of (codes "seed") rows)) (is_set (first_of (codes "serial") rows)) (is_set (first_of (codes "events") rows))
    (within 4 1 NODES (first_of (codes "nodes") rows) (omega arith) (omega arith)) (within 4096 LEAST_NODE_PAGES NODE_PAGES (first_of (codes "pages") rows) (omega arith) (omega arith))
    (within 16384 1 QUANTUM (first_of (codes "quantum") rows) (omega arith) (omega arith)) (within 262144 1 JOURNAL (first_of (codes "journal") rows) (omega arith) (omega arith))

taken_within : (b : Bool) (o : Option Settings) → InRange o → InRange (cond b o None)
taken_within true o h = h
taken_within false o h = tt

pub in_range : (words : List Text) (s : Settings) → settings_of words ≡ Some s → IsInRange s
in_range words s e = subst InRange e (taken_within (length (fault_of the_app words) == 0) (settings_in (matches_of the_app words)) (rows_within (matches_of the_app words)))
