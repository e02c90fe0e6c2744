-- What holds of every table still holds after each edit.
use Rattle.std.proofs.Common.{◌≡◌, ◌≢◌, ◌⊎◌, inl, inr, ℕ, zero, suc, ◌+◌, ◌-◌, ◌<◌, ◌≤◌, ◌&&◌, is_none, Bool, true, false, cond, not, List, [], ◌∷◌, ◌++◌, length, take, get_or, set, Option, Some, None, is_some, IsSome, IfSome, Result, Ok, Err, OnOk, OnErr, nat_eq, refl, sym, ap, subst, ◌∙◌, arith, length-append, length-drop, length-take}
use Rattle.std.proofs.lemmas.Bool.{cases_eq, cases_Bool, eqb-false}
use Rattle.std.proofs.lemmas.Bool.Decides.{nat_tests}
use Rattle.std.proofs.lemmas.List.{get_or-set_same, get_or-set_other, get_or_past, length-replicate}
use Rattle.std.proofs.lemmas.List.Sums.{sum_by-set, sum_by-cons}
use Rattle.std.proofs.lemmas.Slice.Eq.{bytes_eq-Decides}
use Rattle.std.specs.Str.{bytes_eq}
use Rattle.std.specs.Option.{option_map, option_and_then}
use Rattle.std.specs.List.{count_by}
use Rattle.id_table.specs.Places.{at_id, lowest_free, filled, changed, edited}
use Rattle.id_table.proofs.PlaceLemmas.{id_within_some, at_filled, at_filled_other}
use Rattle.fs_memory.specs.declared.file.File.{File}
use Rattle.fs_memory.specs.Blocks.{written, spliced, zeros}
use Rattle.fs_memory.specs.Files.{FileTable, is_name, is_called, has_name, id_called, named_count, new_file, held, is_unheld, unless_unheld, released, unlinked, emptied, fitting, rewritten, IsFileTable}
use Rattle.fs_memory.proofs.SearchLemmas.{absent, found_is_there}

-- what holds of each file
pub record IsKept (file : File) : Type 0 where
  pub kept : file.name ≡ None → 1 ≤ file.holders
  pub small : length file.content ≤ 1048576

kept_of : (files : FileTable) (id : ℕ) (file : File) → IsFileTable files → at_id files id ≡ Some file → IsKept file
kept_of files id file t e = record { kept = t.kept id file e; small = t.small id file e }

pub some_of : {A : Type 0} (o : Option A) → IsSome o → (x : A) × (o ≡ Some x)
some_of None h = absurd (cc)
some_of (Some x) h = (x, refl)

no_more : (a b : Bool) → (a ≡ true → b ≡ true) → cond a 1 0 ≤ cond b 1 0
no_more true true h = omega arith
no_more true false h = let e = h refl in absurd (cc)
no_more false b h = omega arith

-- one place was written
at_set : (files : FileTable) (id other : ℕ) (slot : Option File) → id < length files → ((other ≡ id) × (at_id (set files id slot) other ≡ slot)) ⊎ ((other ≢ id) × (at_id (set files id slot) other ≡ at_id files other))
at_set files id other slot within =
    elim (cases_eq other id) [
      | inl e ↦ inl (e, ap (at_id (set files id slot)) e ∙ get_or-set_same files id slot None within)
      | inr ne ↦ inr (ne, get_or-set_other files id other slot None ne)
    ]

pub table_set : (files : FileTable) (id : ℕ) (slot : Option File) → id < length files → IsFileTable files → ((name : List ℕ) → is_called name slot ≡ true → is_called name (at_id files id) ≡ true) → ((file : File) → slot ≡ Some file → IsKept file) → (has_name slot ≡ true → has_name (at_id files id) ≡ true) → IsFileTable (set files id slot)
table_set files id slot within t names kept few =
    let was : (other : ℕ) (name : List ℕ) → is_called name (at_id (set files id slot) other) ≡ true → is_called name (at_id files other) ≡ true =
    λ other name e. elim (at_set files id other slot within) [
      | inl p ↦ ap (λ k. is_called name (at_id files k)) p.0 ∙ names name (sym (ap (is_called name) p.1) ∙ e)
      | inr p ↦ sym (ap (is_called name) p.1) ∙ e
    ] in
    let each : (other : ℕ) (file : File) → at_id (set files id slot) other ≡ Some file → IsKept file =
    λ other file e. elim (at_set files id other slot within) [
      | inl p ↦ kept file (sym p.1 ∙ e)
      | inr p ↦ kept_of files other file t (sym p.1 ∙ e)
    ] in
    record {
      names = λ one other name e f. t.names one other name (was one name e) (was other name f);
      kept = λ other file e. (each other file e).kept;
      small = λ other file e. (each other file e).small;
      few = omega (arith, sum_by-set (λ x. cond (has_name x) 1 0) files id slot None within, no_more (has_name slot) (has_name (at_id files id)) few, t.few);
    }

-- ---- edits of one file

table_changed : (files : FileTable) (id : ℕ) (edit : File → File) → IsFileTable files → IsSome (at_id files id) → ((file : File) → (edit file).name ≡ file.name) → ((file : File) → IsKept file → IsKept (edit file)) → IsFileTable (changed files id edit)
table_changed files id edit t present names kept =
    let p = some_of (at_id files id) present in
    let is : set files id (Some (edit p.0)) ≡ changed files id edit = ap (λ o. set files id (option_map edit o)) (sym p.1) in
    subst IsFileTable is
    (table_set files id (Some (edit p.0)) (id_within_some files id p.0 p.1) t
    (λ name e. ap (is_called name) p.1 ∙ ap (is_name name) (sym (names p.0)) ∙ e)
    (λ file e. let same : edit p.0 ≡ file = cc in subst IsKept same (kept p.0 (kept_of files id p.0 t p.1)))
    (λ e. ap has_name p.1 ∙ ap is_some (sym (names p.0)) ∙ e))

pub table_held : (files : FileTable) (id : ℕ) → IsFileTable files → IsSome (at_id files id) → IsFileTable (changed files id held)
table_held files id t present = table_changed files id held t present (λ file. refl) (λ file k. record { kept = λ e. omega arith; small = k.small })

pub table_emptied : (files : FileTable) (id : ℕ) → IsFileTable files → IsSome (at_id files id) → IsFileTable (changed files id emptied)
table_emptied files id t present = table_changed files id emptied t present (λ file. refl) (λ file k. record { kept = k.kept; small = omega arith })

length-written : (bytes part : List ℕ) (at : ℕ) → length bytes ≤ 1048576 → at + length part ≤ 1048576 → length (written bytes at part) ≤ 1048576
length-written bytes [] at l h = l
length-written bytes (b ∷ part) at l h =
    let wide = bytes ++ zeros (at - length bytes) in
    let n : length wide ≡ length bytes + (at - length bytes) = length-append bytes (zeros (at - length bytes)) ∙ ap (λ k. length bytes + k) (length-replicate {A = ℕ} (at - length bytes) 0) in
    size wide (omega arith) (omega arith)
  where
    size : (xs : List ℕ) → length xs ≤ 1048576 → at ≤ length xs → length (spliced xs at (b ∷ part)) ≤ 1048576
    size xs few le = simp (length-append, length-take, length-drop) (omega arith)

pub table_rewritten : (files : FileTable) (id at : ℕ) (bytes : List ℕ) → IsFileTable files → IsSome (at_id files id) → at ≤ 1048576 → IsFileTable (changed files id (rewritten at bytes))
table_rewritten files id at bytes t present within =
    table_changed files id (rewritten at bytes) t present (λ file. refl)
    (λ file k. record { kept = k.kept; small = length-written file.content (fitting at bytes) at k.small (omega (arith, length-take (1048576 - at) bytes)) })

table_edited : (files : FileTable) (id : ℕ) (edit : File → Option File) → IsFileTable files → IsSome (at_id files id) → ((file new : File) → edit file ≡ Some new → ((name : List ℕ) → is_name name new.name ≡ true → is_name name file.name ≡ true) × (is_some new.name ≡ true → is_some file.name ≡ true)) → ((file new : File) → IsKept file → edit file ≡ Some new → IsKept new) → IsFileTable (edited files id edit)
table_edited files id edit t present names kept =
    let p = some_of (at_id files id) present in
    let is : set files id (edit p.0) ≡ edited files id edit = ap (λ o. set files id (option_and_then edit o)) (sym p.1) in
    subst IsFileTable is
    (table_set files id (edit p.0) (id_within_some files id p.0 p.1) t
    (λ name e. ap (is_called name) p.1 ∙ named p.0 name (edit p.0) (names p.0) e)
    (λ file e. kept p.0 file (kept_of files id p.0 t p.1) e)
    (λ e. ap has_name p.1 ∙ some_named p.0 (edit p.0) (names p.0) e))
  where
    named : (file : File) (name : List ℕ) (o : Option File) → ((new : File) → o ≡ Some new → ((name : List ℕ) → is_name name new.name ≡ true → is_name name file.name ≡ true) × (is_some new.name ≡ true → is_some file.name ≡ true)) → is_called name o ≡ true → is_name name file.name ≡ true
    named file name None h e = absurd (cc)
    named file name (Some new) h e = (h new refl).0 name e

    some_named : (file : File) (o : Option File) → ((new : File) → o ≡ Some new → ((name : List ℕ) → is_name name new.name ≡ true → is_name name file.name ≡ true) × (is_some new.name ≡ true → is_some file.name ≡ true)) → has_name o ≡ true → is_some file.name ≡ true
    some_named file None h e = absurd (cc)
    some_named file (Some new) h e = (h new refl).1 e

still_held : (name : Option (List ℕ)) (holders : ℕ) → (is_none name && nat_eq holders 0) ≡ false → name ≡ None → 1 ≤ holders
still_held (Some name) holders e f = absurd (cc)
still_held None holders e f = let ne = eqb-false holders 0 e in omega arith

left_by : (b : Bool) (file new : File) → is_unheld file ≡ b → cond b None (Some file) ≡ Some new → (file ≡ new) × (file.name ≡ None → 1 ≤ file.holders)
left_by true file new f e = absurd (cc)
left_by false file new f e = (cc, still_held file.name file.holders f)

left : (file new : File) → unless_unheld file ≡ Some new → (file ≡ new) × (file.name ≡ None → 1 ≤ file.holders)
left file new e = left_by (is_unheld file) file new refl e

pub table_released : (files : FileTable) (id : ℕ) → IsFileTable files → IsSome (at_id files id) → IsFileTable (edited files id released)
table_released files id t present =
    table_edited files id released t present
    (λ file new e. let p = left (record file { holders = file.holders - 1 }) new e in (λ name f. ap (λ (x : File). is_name name x.name) p.0 ∙ f, λ f. ap (λ (x : File). is_some x.name) p.0 ∙ f))
    (λ file new k e. let p = left (record file { holders = file.holders - 1 }) new e in subst IsKept p.0 (record { kept = p.1; small = k.small }))

pub table_unlinked : (files : FileTable) (id : ℕ) → IsFileTable files → IsSome (at_id files id) → IsFileTable (edited files id unlinked)
table_unlinked files id t present =
    table_edited files id unlinked t present
    (λ file new e. let p = left (record file { name = None }) new e in (λ name f. let g : false ≡ true = ap (λ (x : File). is_name name x.name) p.0 ∙ f in absurd (cc), λ f. let g : false ≡ true = ap (λ (x : File). is_some x.name) p.0 ∙ f in absurd (cc)))
    (λ file new k e. let p = left (record file { name = None }) new e in subst IsKept p.0 (record { kept = p.1; small = k.small }))

-- ---- a new file

at_new : (files : FileTable) (file : File) (id : ℕ) → ((id ≡ lowest_free files) × (at_id (filled files file) id ≡ Some file)) ⊎ ((id ≢ lowest_free files) × (at_id (filled files file) id ≡ at_id files id))
at_new files file id =
    elim (cases_eq id (lowest_free files)) [
      | inl e ↦ inl (e, ap (at_id (filled files file)) e ∙ at_filled files file)
      | inr ne ↦ inr (ne, at_filled_other files file id ne)
    ]

one_for : (file : File) → is_some file.name ≡ true → ◌≡◌ {A = ℕ} (cond (has_name (Some file)) 1 0) 1
one_for file e = let one : ℕ = 1 in ap (λ b. cond b one 0) e

first_counted : (place : Option File) (files : FileTable) → named_count (place ∷ files) ≡ cond (has_name place) 1 0 + named_count files
first_counted place files = sum_by-cons (λ x. cond (has_name x) 1 0) place files

count-filled : (files : FileTable) (file : File) → is_some file.name ≡ true → named_count (filled files file) ≡ named_count files + 1
count-filled [] file e = omega (arith, first_counted (Some file) [], one_for file e)
count-filled (None ∷ files) file e = omega (arith, first_counted (Some file) files, first_counted None files, one_for file e)
count-filled (Some x ∷ files) file e = omega (arith, first_counted (Some x) files, first_counted (Some x) (filled files file), count-filled files file e)

same_name : (name own : List ℕ) → is_name name (Some own) ≡ true → own ≡ name
same_name name own e = (bytes_eq-Decides own name).0 e

pub table_created : (files : FileTable) (name : List ℕ) → IsFileTable files → id_called name files ≡ None → named_count files < 128 → IsFileTable (filled files (new_file name))
table_created files name t none few =
    let free : (id : ℕ) → is_called name (at_id files id) ≡ false = absent name files none in
    let apart : (id : ℕ) (own : List ℕ) → is_called own (at_id files id) ≡ true → is_name own (Some name) ≡ true → ⊥ =
    λ id own e f. let g : true ≡ false = sym e ∙ ap (λ n. is_called n (at_id files id)) (sym (same_name own name f)) ∙ free id in absurd (cc) in
    let each : (id : ℕ) (file : File) → at_id (filled files (new_file name)) id ≡ Some file → IsKept file =
    λ id file e. elim (at_new files (new_file name) id) [
      | inl p ↦ let same : new_file name ≡ file = cc in subst IsKept same (record { kept = λ f. absurd (cc); small = omega arith })
      | inr p ↦ kept_of files id file t (sym p.1 ∙ e)
    ] in
    record {
      names = λ one other own e f. elim (at_new files (new_file name) one) [
        | inl p ↦ elim (at_new files (new_file name) other) [
          | inl q ↦ p.0 ∙ sym q.0
          | inr q ↦ absurd (apart other own (sym (ap (is_called own) q.1) ∙ f) (sym (ap (is_called own) p.1) ∙ e))
        ]
        | inr p ↦ elim (at_new files (new_file name) other) [
          | inl q ↦ absurd (apart one own (sym (ap (is_called own) p.1) ∙ e) (sym (ap (is_called own) q.1) ∙ f))
          | inr q ↦ t.names one other own (sym (ap (is_called own) p.1) ∙ e) (sym (ap (is_called own) q.1) ∙ f)
        ]
      ];
      kept = λ id file e. (each id file e).kept;
      small = λ id file e. (each id file e).small;
      few = omega (arith, count-filled files (new_file name) refl);
    }

pub table_written : {E : Type 0} (files new : FileTable) (id at : ℕ) (bytes : List ℕ) (r : Result ℕ E) → IsFileTable files → IsSome (at_id files id) → at ≤ 1048576 → OnOk r (new ≡ changed files id (rewritten at bytes)) → OnErr r (new ≡ files) → IsFileTable new
table_written files new id at bytes (Ok n) t present within ok err = rw ok (table_rewritten files id at bytes t present within)
table_written files new id at bytes (Err e) t present within ok err = rw err t

pub found_there : (name : List ℕ) (files : FileTable) (r : Option ℕ) → r ≡ id_called name files → IfSome r (λ id. IsSome (at_id files id))
found_there name files None e = tt
found_there name files (Some id) e = found_is_there name files id (sym e)
