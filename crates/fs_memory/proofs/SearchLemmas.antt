-- Searches through the table.
use Rattle.std.proofs.Common.{◌≡◌, ◌≢◌, ◌⊎◌, inl, inr, ℕ, zero, suc, ◌+◌, ◌-◌, ◌<◌, ◌≤◌, Bool, true, false, cond, not, List, [], ◌∷◌, ◌++◌, length, take, drop, get_or, Option, Some, None, is_some, IsSome, nat_lt, refl, sym, ap, ◌∙◌, arith}
use Rattle.std.proofs.lemmas.Bool.{cases_Bool, cases_lt, lt-ltb, le-ltb, ltb-true, ltb-false, not-true, not-false}
use Rattle.std.proofs.lemmas.List.{get_or_past, drop_more, drop_all}
use Rattle.std.proofs.lemmas.List.Sums.{prefix_len_is, prefix_len_passes, prefix_len_stops, prefix_len-le-length, position_or_len_is, count_by_more_yes, count_by_more_no}
use Rattle.std.specs.List.{prefix_len, position, position_or_len, count_by, insert}
use Rattle.call_table.specs.declared.files.Named.{Named}
use Rattle.id_table.specs.Places.{at_id}
use Rattle.fs_memory.specs.declared.file.File.{File}
use Rattle.fs_memory.specs.Files.{FileTable, is_called, has_name, id_called, named_count, comes_before, with_named, with_file, named_files}

position_at : (n m : ℕ) → n < m → cond (nat_lt n m) (Some n) None ≡ Some n
position_at n m h = rw (lt-ltb n m h) refl

position_none : (n m : ℕ) → m ≤ n → cond (nat_lt n m) (Some n) None ≡ None
position_none n m h = rw (le-ltb n m h) refl

pub called_here : (name : List ℕ) (files : FileTable) (id : ℕ) → id < length files → ((k : ℕ) → k < id → is_called name (at_id files k) ≡ false) → is_called name (at_id files id) ≡ true → Some id ≡ id_called name files
called_here name files id within before here =
    let p : position_or_len (is_called name) files ≡ id = position_or_len_is (is_called name) files id None (omega arith) before (λ _. here) in
    sym (ap (λ n. cond (nat_lt n (length files)) (Some n) None) p ∙ position_at id (length files) within)

pub called_nowhere : (name : List ℕ) (files : FileTable) → ((k : ℕ) → k < length files → is_called name (at_id files k) ≡ false) → None ≡ id_called name files
called_nowhere name files before =
    let p : position_or_len (is_called name) files ≡ length files = position_or_len_is (is_called name) files (length files) None (omega arith) before (λ h. absurd (omega arith)) in
    sym (ap (λ n. cond (nat_lt n (length files)) (Some n) None) p ∙ position_none (length files) (length files) (omega arith))

-- no file has a name that is absent
pub absent : (name : List ℕ) (files : FileTable) → id_called name files ≡ None → (id : ℕ) → is_called name (at_id files id) ≡ false
absent name files e id =
    elim (cases_lt (position_or_len (is_called name) files) (length files)) [
      | inl lt ↦ let f : ◌≡◌ {A = Option ℕ} (Some (position_or_len (is_called name) files)) None = sym (position_at _ (length files) lt) ∙ e in absurd (cc)
      | inr le ↦ elim (cases_lt id (length files)) [
        | inl within ↦ not-true (is_called name (at_id files id)) (prefix_len_passes (λ x. not (is_called name x)) files id None (omega arith))
        | inr past ↦ ap (is_called name) (get_or_past files id None past)
      ]
    ]

-- the file that was found has the name
pub called : (name : List ℕ) (files : FileTable) (id : ℕ) → id_called name files ≡ Some id → is_called name (at_id files id) ≡ true
called name files id e =
    elim (cases_lt (position_or_len (is_called name) files) (length files)) [
      | inl lt ↦
          let f : ◌≡◌ {A = Option ℕ} (Some (position_or_len (is_called name) files)) (Some id) = sym (position_at _ (length files) lt) ∙ e in
          let g : position_or_len (is_called name) files ≡ id = cc in
          ap (λ n. is_called name (at_id files n)) (sym g) ∙ not-false (is_called name (at_id files (position_or_len (is_called name) files))) (prefix_len_stops (λ x. not (is_called name x)) files None lt)
      | inr le ↦ let f : ◌≡◌ {A = Option ℕ} None (Some id) = sym (position_none _ (length files) le) ∙ e in absurd (cc)
    ]

there : (name : List ℕ) (o : Option File) → is_called name o ≡ true → IsSome o
there name None e = absurd (cc)
there name (Some file) e = refl

pub found_is_there : (name : List ℕ) (files : FileTable) (id : ℕ) → id_called name files ≡ Some id → IsSome (at_id files id)
found_is_there name files id e = there name (at_id files id) (called name files id e)

-- ---- the list by names

insert_by : (b : Bool) (file other : Named) (list : List Named) → comes_before file.name other ≡ b → insert list (prefix_len (comes_before file.name) list) file ≡ with_named file list → insert (other ∷ list) (prefix_len (comes_before file.name) (other ∷ list)) file ≡ with_named file (other ∷ list)
insert_by true file other list e h = let n : 1 + prefix_len (comes_before file.name) list ≡ suc (prefix_len (comes_before file.name) list) = omega arith in rw (e, n) (ap (λ others. other ∷ others) h)
insert_by false file other list e h = rw e refl

pub insert_is : (file : Named) (list : List Named) → insert list (prefix_len (comes_before file.name) list) file ≡ with_named file list
insert_is file [] = refl
insert_is file (other ∷ list) = insert_by (comes_before file.name other) file other list refl (insert_is file list)

pub place_here : (name : List ℕ) (list : List Named) (n : ℕ) (other : Named) → n < length list → ((k : ℕ) (d : Named) → k < n → comes_before name (get_or list k d) ≡ true) → other ≡ get_or list n other → comes_before name other ≡ false → n ≡ prefix_len (comes_before name) list
place_here name list n other within before is here = sym (prefix_len_is (comes_before name) list n other (omega arith) (λ k h. before k other h) (λ _. ap (comes_before name) (sym is) ∙ here))

all_before : (name : List ℕ) (list : List Named) → ((k : ℕ) (d : Named) → k < length list → comes_before name (get_or list k d) ≡ true) → length list ≡ prefix_len (comes_before name) list
all_before name [] h = refl
all_before name (other ∷ list) h = sym (prefix_len_is (comes_before name) (other ∷ list) (length (other ∷ list)) other (omega arith) (λ k. h k other) (λ f. absurd (omega arith)))

pub place_last : (name : List ℕ) (list : List Named) (n : ℕ) → length list ≤ n → n ≤ length list → ((k : ℕ) (d : Named) → k < n → comes_before name (get_or list k d) ≡ true) → length list ≡ prefix_len (comes_before name) list
place_last name list n lo hi h = all_before name list (λ k d lt. h k d (omega arith))

pub next_listed : (files : FileTable) (id : ℕ) (listed : List Named) → id < length files → listed ≡ named_files (drop (id + 1) files) → named_files (drop id files) ≡ named_files (at_id files id ∷ drop (id + 1) files)
next_listed files id listed within e = ap named_files (drop_more files id None within)
