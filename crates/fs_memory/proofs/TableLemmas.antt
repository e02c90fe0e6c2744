-- A place of the table after two edits.
use Rattle.std.proofs.Common.{◌≡◌, ℕ, ◌<◌, Bool, true, false, List, length, set, get_or, Option, Some, None, IsSome, refl, sym, ap, ◌∙◌, arith}
use Rattle.std.proofs.lemmas.List.{set-set, set-get_or, get_or-set_same}
use Rattle.std.specs.Option.{option_and_then}
use Rattle.id_table.specs.Places.{at_id, with_value, without, edited}
use Rattle.id_table.proofs.PlaceLemmas.{id_within_some}
use Rattle.fs_memory.specs.declared.file.File.{File}
use Rattle.fs_memory.specs.Files.{FileTable, is_unheld, unless_unheld}

edited_is : (files : FileTable) (id : ℕ) (file : File) (edit : File → Option File) → at_id files id ≡ Some file → edited files id edit ≡ set files id (edit file)
edited_is files id file edit e = ap (λ o. set files id (option_and_then edit o)) e

pub dropped : (files : FileTable) (id : ℕ) (file : File) → at_id files id ≡ Some file → is_unheld file ≡ true → without files id ≡ edited files id unless_unheld
dropped files id file e f = sym (edited_is files id file unless_unheld e ∙ rw f refl)

pub stays : (files : FileTable) (id : ℕ) (file : File) → at_id files id ≡ Some file → is_unheld file ≡ false → files ≡ edited files id unless_unheld
stays files id file e f = sym (edited_is files id file unless_unheld e ∙ rw f (ap (set files id) (sym e) ∙ set-get_or files id None))

pub edited_after : (files new : FileTable) (id : ℕ) (file mid : File) (edit : File → Option File) → at_id files id ≡ Some file → edit file ≡ unless_unheld mid → new ≡ edited (with_value files id mid) id unless_unheld → new ≡ edited files id edit
edited_after files new id file mid edit e f n =
    n ∙ edited_is (with_value files id mid) id mid unless_unheld (get_or-set_same files id (Some mid) None (id_within_some files id file e))
    ∙ set-set files id (Some mid) (unless_unheld mid)
    ∙ ap (set files id) (sym f) ∙ sym (edited_is files id file edit e)
