-- A file that was made last and is taken back.
use Rattle.std.proofs.Common.{◌≡◌, ℕ, ◌+◌, ◌≤◌, Bool, true, false, cond, List, length, take, Option, Some, None, IsSome, refl, sym, ap, ◌∙◌, arith}
use Rattle.id_table.specs.Places.{at_id, without}
use Rattle.id_table.proofs.PlaceLemmas.{id_within_some}
use Rattle.id_table.proofs.ShortLemmas.{at_take, count_take}
use Rattle.fs_memory.specs.declared.file.File.{File}
use Rattle.fs_memory.specs.Files.{FileTable, is_called, has_name, IsFileTable}
use Rattle.fs_memory.proofs.FileLemmas.{some_of, table_set}

table_without : (files : FileTable) (id : ℕ) → IsFileTable files → IsSome (at_id files id) → IsFileTable (without files id)
table_without files id t present =
    let p = some_of (at_id files id) present in
    table_set files id None (id_within_some files id p.0 p.1) t (λ name e. absurd (cc)) (λ file e. absurd (cc)) (λ e. absurd (cc))

called_by : (files : FileTable) (n id : ℕ) (name : List ℕ) (o : Option File) → at_id (take n files) id ≡ o → is_called name o ≡ true → is_called name (at_id files id) ≡ true
called_by files n id name None e h = absurd (cc)
called_by files n id name (Some file) e h = ap (is_called name) (at_take n files id file e) ∙ h

called_short : (files : FileTable) (n id : ℕ) (name : List ℕ) → is_called name (at_id (take n files) id) ≡ true → is_called name (at_id files id) ≡ true
called_short files n id name h = called_by files n id name (at_id (take n files) id) refl h

table_short : (files : FileTable) (n : ℕ) → IsFileTable files → IsFileTable (take n files)
table_short files n t = record {
  names = λ one other name e f. t.names one other name (called_short files n one name e) (called_short files n other name f);
  kept = λ id file e. t.kept id file (at_take n files id file e);
  small = λ id file e. t.small id file (at_take n files id file e);
  few = omega (arith, count_take has_name n files, t.few);
}

pub table_taken_back : (files : FileTable) (id n : ℕ) → IsFileTable files → IsSome (at_id files id) → IsFileTable (take n (without files id))
table_taken_back files id n t present = table_short (without files id) n (table_without files id t present)
