-- What the command takes and refuses, as settings.
use Rattle.std.proofs.Common.{◌≡◌, ◌≢◌, List, [], ◌∷◌, length, refl, ap, sym, ◌∙◌, arith, true, false, cond, eqb, None, inl, inr}
use Rattle.std.proofs.lemmas.Bool.{ne_eqb}
use Rattle.clap.specs.Words.{Text, HasMatchesOf, HasKind, IsAmong, Kinds, fault_of, matches_of, rows_of, found_of, kind_of, is_simple}
use Rattle.clap.specs.declared.error.Error.{Error}
use Rattle.clap.specs.declared.error.kind.ErrorKind.TheVariants.{OutOfMemory}
use Rattle.clap.specs.declared.parser.matches.ArgMatches.{ArgMatches}
use Rattle.mosix_words.specs.Command.{the_app}
use Rattle.mosix_words.specs.Settings.{settings_in, settings_of}

simple : is_simple the_app ≡ true
simple = refl

pub taken : (words : List Text) (m : ArgMatches) → HasMatchesOf the_app words m → fault_of the_app words ≡ [] → settings_in (rows_of (found_of m)) ≡ settings_of words
taken words m h e =
    ap settings_in ((h simple).0) ∙ sym (ap (λ k. cond (eqb (length k) 0) (settings_in (matches_of the_app words)) None) e)

among : (kinds : Kinds) (e : Error) → IsAmong (kind_of e) kinds → eqb (length kinds) 0 ≡ false
among [] e h = absurd h
among (k ∷ ks) e h = ne_eqb (length (k ∷ ks)) 0 (λ z. omega arith)

not_empty : (kinds : Kinds) (e : Error) → HasKind kinds e → kind_of e ≢ OutOfMemory → eqb (length kinds) 0 ≡ false
not_empty kinds e h n = elim h [ inl memory ↦ absurd (n memory) | inr one ↦ among kinds e one ]

pub refused : (words : List Text) (e : Error) → HasKind (fault_of the_app words) e → kind_of e ≢ OutOfMemory → settings_of words ≡ None
refused words e h n = ap (λ t. cond t (settings_in (matches_of the_app words)) None) (not_empty (fault_of the_app words) e h n)
