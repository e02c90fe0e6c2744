-- Files under numbers. A place of the table is empty where its number is free.
use Rattle.std.specs.Prelude.{ℕ, ◌≡◌, ◌+◌, ◌-◌, ◌≤◌, ◌^◌, Bool, true, false, if◌then◌else◌, ◌&&◌, nat_eq, List, [], ◌∷◌, length, take, Option, Some, None, is_some, is_none, count_by, position, IsSome}
use Rattle.std.specs.Str.{bytes_eq}
use Rattle.std.specs.Ordering.{nat_cmp, is_lt}
use Rattle.std.specs.Cmp.Lexicographic.{slice_cmp}
use Rattle.call_table.specs.declared.files.Named.{Named}
use Rattle.call_table.specs.declared.limit.TheConstants.{FILE_BYTES, NAMED_FILES}
use Rattle.id_table.specs.Places.{at_id, edited}
use Rattle.fs_memory.specs.declared.file.File.{File}
use Rattle.fs_memory.specs.Blocks.{written}

abbrev pub FileTable : Type 0
FileTable = List (Option File)

-- ---- by name

abbrev pub is_name : List ℕ → Option (List ℕ) → Bool
is_name name None = false
is_name name (Some own) = bytes_eq own name

abbrev pub is_called : List ℕ → Option File → Bool
is_called name None = false
is_called name (Some file) = is_name name file.name

abbrev pub has_name : Option File → Bool
has_name None = false
has_name (Some file) = is_some file.name

-- the number of the file of a name
abbrev pub id_called : List ℕ → FileTable → Option ℕ
id_called name files = position (is_called name) files

abbrev pub named_count : FileTable → ℕ
named_count files = count_by has_name files

-- ---- one file

abbrev pub content_of : Option File → List ℕ
content_of None = []
content_of (Some file) = file.content

abbrev pub holders_of : Option File → ℕ
holders_of None = 0
holders_of (Some file) = file.holders

abbrev pub new_file : List ℕ → File
new_file name = record { name = Some name; holders = 0; content = [] }

abbrev pub held : File → File
held file = record file { holders = file.holders + 1 }

-- a file without a name is gone with its last holder
abbrev pub is_unheld : File → Bool
is_unheld file = is_none file.name && nat_eq file.holders 0

abbrev pub unless_unheld : File → Option File
unless_unheld file = if is_unheld file then None else Some file

abbrev pub released : File → Option File
released file = unless_unheld (record file { holders = file.holders - 1 })

abbrev pub unlinked : File → Option File
unlinked file = unless_unheld (record file { name = None })

abbrev pub emptied : File → File
emptied file = record file { content = [] }

-- the part of some bytes that lies below 1,048,576, where they are written from a place on
abbrev pub fitting : ℕ → List ℕ → List ℕ
fitting at bytes = take (FILE_BYTES - at) bytes

abbrev pub rewritten : ℕ → List ℕ → File → File
rewritten at bytes file = record file { content = written file.content at (fitting at bytes) }

-- the table without the name
abbrev pub after_unlink : Option ℕ → FileTable → FileTable
after_unlink None files = files
after_unlink (Some id) files = edited files id unlinked

-- ---- all named files, by the bytes of their names

abbrev pub comes_before : List ℕ → Named → Bool
comes_before name other = is_lt (slice_cmp nat_cmp other.name name)

abbrev pub with_named : Named → List Named → List Named
with_named file [] = file ∷ []
with_named file (other ∷ others) = if comes_before file.name other then other ∷ with_named file others else file ∷ other ∷ others

abbrev pub with_file : Option (List ℕ) → List ℕ → List Named → List Named
with_file None content others = others
with_file (Some name) content others = with_named (record { name = name; bytes = content }) others

abbrev pub named_files : FileTable → List Named
named_files [] = []
named_files (None ∷ files) = named_files files
named_files (Some file ∷ files) = with_file file.name file.content (named_files files)

-- ---- what holds of every table

-- no two files have one name, a file without a name has a holder, no file has more than 1,048,576 bytes, at most 128 have a name
pub record IsFileTable (files : FileTable) : Type 0 where
  pub names : (id other : ℕ) (name : List ℕ) → is_called name (at_id files id) ≡ true → is_called name (at_id files other) ≡ true → id ≡ other
  pub kept : (id : ℕ) (file : File) → at_id files id ≡ Some file → file.name ≡ None → 1 ≤ file.holders
  pub small : (id : ℕ) (file : File) → at_id files id ≡ Some file → length file.content ≤ FILE_BYTES
  pub few : named_count files ≤ NAMED_FILES
