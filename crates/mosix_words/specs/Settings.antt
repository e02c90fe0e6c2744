-- What the words ask for: they are words that the command takes, and each value is in its range.
use Rattle.std.specs.Prelude.{ℕ, ◌-◌, ◌^◌, Bool, false, ◌==◌, List, length, Option, Some, None, codes, if◌then◌else◌}
use Rattle.std.specs.Str.{bytes_eq}
use Rattle.call_table.specs.declared.limit.TheConstants.{NODES, LEAST_NODE_PAGES, NODE_PAGES, QUANTUM, JOURNAL}
use Rattle.clap.specs.Words.{Row, Text, matches_of, first_of, fault_of}
use Rattle.mosix_words.specs.Command.{the_app}
use Rattle.mosix_words.specs.Numbers.{number_in, number_or}
use Rattle.mosix_words.specs.declared.settings.Mode.{Mode}
use Rattle.mosix_words.specs.declared.settings.Mode.TheVariants.{Run, Asm, Gen}
use Rattle.mosix_words.specs.declared.settings.Settings.{Settings}

abbrev pub mode_named : Text → Option Mode
mode_named name =
    if bytes_eq name (codes "run") then Some Run else
    (if bytes_eq name (codes "asm") then Some Asm else
    (if bytes_eq name (codes "gen") then Some Gen else
    None))

abbrev pub mode_in : Option Text → Option Mode
mode_in None = None
mode_in (Some name) = mode_named name

-- any number of 64 bits; none need be given
abbrev pub seed_of : Option ℕ → Option (Option ℕ)
seed_of None = None
seed_of (Some seed) = Some (Some seed)

abbrev pub seed_in : Option Text → Option (Option ℕ)
seed_in None = Some None
seed_in (Some word) = seed_of (number_in 0 (2 ^ 64 - 1) word)

abbrev pub is_set : Option Text → Bool
is_set None = false
is_set (Some word) = bytes_eq word (codes "true")

-- all values, or none where one is wrong
abbrev pub settings : Option Mode → Option ℕ → Option ℕ → Option ℕ → Option ℕ → Option (Option ℕ) → Bool → Bool → Option Settings
settings None nodes pages quantum journal seed serial events = None
settings (Some mode) None pages quantum journal seed serial events = None
settings (Some mode) (Some nodes) None quantum journal seed serial events = None
settings (Some mode) (Some nodes) (Some pages) None journal seed serial events = None
settings (Some mode) (Some nodes) (Some pages) (Some quantum) None seed serial events = None
settings (Some mode) (Some nodes) (Some pages) (Some quantum) (Some journal) None serial events = None
settings (Some mode) (Some nodes) (Some pages) (Some quantum) (Some journal) (Some seed) serial events = Some (record {
  mode = mode;
  nodes = nodes;
  pages = pages;
  quantum = quantum;
  journal = journal;
  seed = seed;
  serial = serial;
  events = events;
})

-- by the values that the command found: each within the cluster's limit, or the default where no word stands for it
abbrev pub settings_in : List Row → Option Settings
settings_in rows =
    settings (mode_in (first_of (codes "mode") rows))
    (number_or 4 1 NODES (first_of (codes "nodes") rows))
    (number_or 4096 LEAST_NODE_PAGES NODE_PAGES (first_of (codes "pages") rows))
    (number_or 16384 1 QUANTUM (first_of (codes "quantum") rows))
    (number_or 262144 1 JOURNAL (first_of (codes "journal") rows))
    (seed_in (first_of (codes "seed") rows))
    (is_set (first_of (codes "serial") rows))
    (is_set (first_of (codes "events") rows))

-- words that the command refuses ask for nothing
abbrev pub settings_of : List Text → Option Settings
settings_of words = if length (fault_of the_app words) == 0 then settings_in (matches_of the_app words) else None
