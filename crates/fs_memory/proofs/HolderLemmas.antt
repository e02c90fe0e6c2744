-- How many holders each file has, after each edit of the table.
use Rattle.std.proofs.Common.{◌≡◌, ◌≢◌, ◌⊎◌, inl, inr, ℕ, zero, suc, ◌+◌, ◌-◌, ◌<◌, ◌≤◌, ◌&&◌, Bool, true, false, cond, List, [], ◌∷◌, length, Option, Some, None, is_some, is_none, IsSome, nat_eq, refl, sym, ap, subst, ◌∙◌, arith}
use Rattle.std.proofs.lemmas.Bool.{cases_eq, cases_Bool, eq-eqb, eqb-true, ne_eqb, and_parts}
use Rattle.std.specs.Option.{option_map, option_and_then}
use Rattle.id_table.specs.Places.{at_id, lowest_free, filled, changed, edited}
use Rattle.id_table.proofs.PlaceLemmas.{at_lowest_free}
use Rattle.id_table.proofs.EditLemmas.{at_changed, at_changed_other, at_edited, at_edited_other, some_changed, filled_cases, filled_some}
use Rattle.fs_memory.specs.declared.file.File.{File}
use Rattle.fs_memory.specs.Files.{FileTable, holders_of, id_called, new_file, held, is_unheld, unless_unheld, released, unlinked, emptied, rewritten, after_unlink}

-- one where the two numbers are one
abbrev pub one_at : ℕ → ℕ → ℕ
one_at id other = cond (nat_eq id other) 1 0

pub one_at_same : (id : ℕ) → ◌≡◌ {A = ℕ} (one_at id id) 1
one_at_same id = let one : ℕ = 1 in ap (λ b. cond b one 0) (eq-eqb id id refl)

pub one_at_other : (id other : ℕ) → other ≢ id → ◌≡◌ {A = ℕ} (one_at id other) 0
one_at_other id other ne = let one : ℕ = 1 in ap (λ b. cond b one 0) (ne_eqb id other (λ e. ne (sym e)))

-- a file that has holders is there
pub holders_some : (place : Option File) → 1 ≤ holders_of place → IsSome place
holders_some None h = absurd (omega arith)
holders_some (Some file) h = refl

-- ---- a file held once more

held_more : (place : Option File) → IsSome place → holders_of (option_map held place) ≡ holders_of place + 1
held_more None there = absurd (cc)
held_more (Some file) there = refl

pub holders_held : (files : FileTable) (id other : ℕ) → IsSome (at_id files id) → holders_of (at_id (changed files id held) other) ≡ holders_of (at_id files other) + one_at id other
holders_held files id other there =
    elim (cases_eq other id) [
      | inl same ↦
          omega (
            arith,
            ap (λ k. holders_of (at_id (changed files id held) k)) same,
            ap holders_of (at_changed files id held),
            held_more (at_id files id) there,
            ap (λ k. holders_of (at_id files k)) same,
            ap (one_at id) same,
            one_at_same id,
          )
      | inr ne ↦ omega (arith, ap holders_of (at_changed_other files id held other ne), one_at_other id other ne)
    ]

pub holders_held_at : (files : FileTable) (id : ℕ) → IsSome (at_id files id) → holders_of (at_id (changed files id held) id) ≡ holders_of (at_id files id) + 1
holders_held_at files id there = ap holders_of (at_changed files id held) ∙ held_more (at_id files id) there

pub holders_held_other : (files : FileTable) (id other : ℕ) → other ≢ id → holders_of (at_id (changed files id held) other) ≡ holders_of (at_id files other)
holders_held_other files id other ne = ap holders_of (at_changed_other files id held other ne)

pub some_held : (files : FileTable) (id other : ℕ) → is_some (at_id (changed files id held) other) ≡ is_some (at_id files other)
some_held files id other = some_changed files id held other

-- ---- contents that change

same_holders : (files : FileTable) (id : ℕ) (edit : File → File) → ((file : File) → (edit file).holders ≡ file.holders) → (other : ℕ) → holders_of (at_id (changed files id edit) other) ≡ holders_of (at_id files other)
same_holders files id edit same other =
    elim (cases_eq other id) [
      | inl e ↦
          ap (λ k. holders_of (at_id (changed files id edit) k)) e ∙ ap holders_of (at_changed files id edit)
          ∙ mapped (at_id files id) ∙ sym (ap (λ k. holders_of (at_id files k)) e)
      | inr ne ↦ ap holders_of (at_changed_other files id edit other ne)
    ]
  where
    mapped : (place : Option File) → holders_of (option_map edit place) ≡ holders_of place
    mapped None = refl
    mapped (Some file) = same file

pub holders_emptied : (files : FileTable) (id other : ℕ) → holders_of (at_id (changed files id emptied) other) ≡ holders_of (at_id files other)
holders_emptied files id other = same_holders files id emptied (λ file. refl) other

pub some_emptied : (files : FileTable) (id other : ℕ) → is_some (at_id (changed files id emptied) other) ≡ is_some (at_id files other)
some_emptied files id other = some_changed files id emptied other

pub holders_rewritten : (files : FileTable) (id at : ℕ) (bytes : List ℕ) (other : ℕ) → holders_of (at_id (changed files id (rewritten at bytes)) other) ≡ holders_of (at_id files other)
holders_rewritten files id at bytes other = same_holders files id (rewritten at bytes) (λ file. refl) other

pub some_rewritten : (files : FileTable) (id at : ℕ) (bytes : List ℕ) (other : ℕ) → is_some (at_id (changed files id (rewritten at bytes)) other) ≡ is_some (at_id files other)
some_rewritten files id at bytes other = some_changed files id (rewritten at bytes) other

-- ---- a file that may go

-- a file that goes had no holder
left_holders : (file : File) → holders_of (unless_unheld file) ≡ file.holders
left_holders file = by_test (is_unheld file) refl
  where
    by_test : (gone : Bool) → is_unheld file ≡ gone → holders_of (cond gone None (Some file)) ≡ file.holders
    by_test true e = sym (eqb-true file.holders 0 (and_parts (is_none file.name) (nat_eq file.holders 0) e).1)
    by_test false e = refl

released_less : (place : Option File) → holders_of (option_and_then released place) ≡ holders_of place - 1
released_less None = refl
released_less (Some file) = left_holders (record file { holders = file.holders - 1 })

pub holders_released : (files : FileTable) (id other : ℕ) → 1 ≤ holders_of (at_id files id) → holders_of (at_id (edited files id released) other) + one_at id other ≡ holders_of (at_id files other)
holders_released files id other h =
    elim (cases_eq other id) [
      | inl same ↦
          omega (
            arith,
            ap (λ k. holders_of (at_id (edited files id released) k)) same,
            ap holders_of (at_edited files id released),
            released_less (at_id files id),
            ap (λ k. holders_of (at_id files k)) same,
            ap (one_at id) same,
            one_at_same id,
          )
      | inr ne ↦ omega (arith, ap holders_of (at_edited_other files id released other ne), one_at_other id other ne)
    ]

pub holders_released_at : (files : FileTable) (id : ℕ) → holders_of (at_id (edited files id released) id) ≡ holders_of (at_id files id) - 1
holders_released_at files id = ap holders_of (at_edited files id released) ∙ released_less (at_id files id)

pub holders_released_other : (files : FileTable) (id other : ℕ) → other ≢ id → holders_of (at_id (edited files id released) other) ≡ holders_of (at_id files other)
holders_released_other files id other ne = ap holders_of (at_edited_other files id released other ne)

pub some_released_other : (files : FileTable) (id other : ℕ) → other ≢ id → is_some (at_id (edited files id released) other) ≡ is_some (at_id files other)
some_released_other files id other ne = ap is_some (at_edited_other files id released other ne)

-- a file stays while it has another holder
pub some_released : (files : FileTable) (id : ℕ) → 2 ≤ holders_of (at_id files id) → IsSome (at_id (edited files id released) id)
some_released files id h = holders_some (at_id (edited files id released) id) (omega (arith, holders_released_at files id))

-- a file stays while it has a name
pub some_released_named : (files : FileTable) (id : ℕ) (file : File) → at_id files id ≡ Some file → is_some file.name ≡ true → IsSome (at_id (edited files id released) id)
some_released_named files id file e named = ap is_some (at_edited files id released ∙ ap (option_and_then released) e) ∙ by_name file.name refl
  where
    by_name : (name : Option (List ℕ)) → file.name ≡ name → IsSome (released file)
    by_name None f = let g : false ≡ true = sym (ap is_some f) ∙ named in absurd (cc)
    by_name (Some name) f = rw f refl

-- ---- a name taken away

unlinked_holders : (place : Option File) → holders_of (option_and_then unlinked place) ≡ holders_of place
unlinked_holders None = refl
unlinked_holders (Some file) = left_holders (record file { name = None })

pub holders_unlinked : (slot : Option ℕ) (files : FileTable) (other : ℕ) → holders_of (at_id (after_unlink slot files) other) ≡ holders_of (at_id files other)
holders_unlinked None files other = refl
holders_unlinked (Some id) files other =
    elim (cases_eq other id) [
      | inl e ↦
          ap (λ k. holders_of (at_id (edited files id unlinked) k)) e ∙ ap holders_of (at_edited files id unlinked)
          ∙ unlinked_holders (at_id files id) ∙ sym (ap (λ k. holders_of (at_id files k)) e)
      | inr ne ↦ ap holders_of (at_edited_other files id unlinked other ne)
    ]

pub some_unlinked : (slot : Option ℕ) (files : FileTable) (other : ℕ) → 1 ≤ holders_of (at_id files other) → IsSome (at_id (after_unlink slot files) other)
some_unlinked slot files other h = holders_some (at_id (after_unlink slot files) other) (omega (arith, holders_unlinked slot files other))

pub at_unlinked_other : (id : ℕ) (files : FileTable) (other : ℕ) → other ≢ id → at_id (after_unlink (Some id) files) other ≡ at_id files other
at_unlinked_other id files other ne = at_edited_other files id unlinked other ne

-- a file that was held has a holder after a name is taken away
pub held_after_unlink : (files mid new : FileTable) (id : ℕ) (slot : Option ℕ) → IsSome (at_id files id) → mid ≡ changed files id held → new ≡ after_unlink slot mid → 1 ≤ holders_of (at_id new id)
held_after_unlink files mid new id slot there e f =
    omega (
      arith,
      ap (λ fs. holders_of (at_id fs id)) f,
      holders_unlinked slot mid id,
      ap (λ fs. holders_of (at_id fs id)) e,
      holders_held_at files id there,
    )

-- ---- a new file

-- a new file has no holder, and the others' holders stay
pub holders_created : (files : FileTable) (name : List ℕ) (other : ℕ) → holders_of (at_id (filled files (new_file name)) other) ≡ holders_of (at_id files other)
holders_created files name other =
    elim (filled_cases files (new_file name) other) [
      | inl p ↦ ap holders_of p.1 ∙ sym (ap (λ k. holders_of (at_id files k)) p.0 ∙ ap holders_of (at_lowest_free files))
      | inr p ↦ ap holders_of p.1
    ]

pub some_created : (files : FileTable) (name : List ℕ) (other : ℕ) → IsSome (at_id files other) → IsSome (at_id (filled files (new_file name)) other)
some_created files name other there = filled_some files (new_file name) other there
