-- Each file is held by each description of it, after each edit.
use Rattle.std.proofs.Common.{◌≡◌, ◌+◌, ◌<◌, ◌≤◌, ◌^◌, ℕ, ℤ, Bool, true, false, cond, List, length, take, Option, Some, None, is_some, IsSome, nat_eq, refl, sym, ap, subst, ◌∙◌, arith}
use Rattle.std.proofs.lemmas.Bool.{leb-false}
use Rattle.id_table.specs.Places.{at_id, lowest_free, filled, changed, edited, without}
use Rattle.id_table.proofs.ShortLemmas.{undone}
use Rattle.fs_memory.specs.Files.{FileTable, holders_of, new_file, held, released, emptied, rewritten, after_unlink}
use Rattle.fs_memory.proofs.HolderLemmas.{one_at, one_at_same, holders_some, holders_held, holders_emptied, some_emptied, holders_rewritten, holders_released, holders_unlinked, holders_created}
use Rattle.fd_table.specs.Descriptors.{FdTable, slots_at, free_count, counted, end_count, same_target, added, sought, closed, last_target}
use Rattle.fd_table.specs.declared.description.Target.{Target}
use Rattle.fd_table.specs.declared.description.Target.TheVariants.{TermIn, TermOut, File, ReadEnd, WriteEnd}
use Rattle.fd_table.proofs.EndLemmas.{HasTerminals, ends_gone, end_count_added, end_count_sought, end_count_closed_file, end_count_most, sought_targets, terminals_added, terminals_closed}
use Rattle.call_table.specs.declared.error.TheConstants.{EMFILE, ENFILE}
use Rattle.kernel_spec.specs.Io.{room_error, truncated_files, has_flag, after_last, with_ends}
use Rattle.home_kernel.specs.Rules.{IsIo, HaveHolders, IsHeldOnce}

terminals : (files : FileTable) (fds : FdTable) → IsIo files fds → HasTerminals fds.descriptions
terminals files fds h = record { input = h.input; output = h.output }

-- the files changed, and no holder
pub files_changed : (files new : FileTable) (fds : FdTable) → HaveHolders files new → IsIo files fds → IsIo new fds
files_changed files new fds same h = record { holders = λ id. same id ∙ h.holders id; input = h.input; output = h.output }

pub written_io : (files : FileTable) (fds : FdTable) (id at : ℕ) (bytes : List ℕ) → IsIo files fds → IsIo (changed files id (rewritten at bytes)) fds
written_io files fds id at bytes h = files_changed files (changed files id (rewritten at bytes)) fds (holders_rewritten files id at bytes) h

pub created_io : (files : FileTable) (fds : FdTable) (name : List ℕ) → IsIo files fds → IsIo (filled files (new_file name)) fds
created_io files fds name h = files_changed files (filled files (new_file name)) fds (holders_created files name) h

pub unlinked_io : (slot : Option ℕ) (files : FileTable) (fds : FdTable) → IsIo files fds → IsIo (after_unlink slot files) fds
unlinked_io slot files fds h = files_changed files (after_unlink slot files) fds (holders_unlinked slot files) h

truncated_holders_by : (b : Bool) (files : FileTable) (id : ℕ) → HaveHolders files (cond b (changed files id emptied) files)
truncated_holders_by true files id = holders_emptied files id
truncated_holders_by false files id = λ other. refl

pub truncated_holders : (files : FileTable) (id flags : ℕ) → HaveHolders files (truncated_files files id flags)
truncated_holders files id flags = truncated_holders_by (has_flag flags 8) files id

-- the offset of a description moved
pub sought_io_is : (files : FileTable) (fds : FdTable) (pid fd offset : ℕ) → IsIo files fds → IsIo files (sought fds pid fd offset)
sought_io_is files fds pid fd offset h = record {
  holders = λ id. h.holders id ∙ sym (end_count_sought (File id) fds pid fd offset);
  input = sought_targets fds pid fd offset 0 ∙ h.input;
  output = sought_targets fds pid fd offset 1 ∙ h.output;
}

-- one description more, and one holder more
pub opened_io : (files : FileTable) (fds : FdTable) (pid id rights : ℕ) → IsSome (at_id files id) → IsIo files fds → IsIo (changed files id held) (added fds pid (File id) rights)
opened_io files fds pid id rights there h =
    let t = terminals_added fds pid (File id) rights (terminals files fds h) in
    record {
      holders = λ other. omega (arith, holders_held files id other there, h.holders other, end_count_added (File other) fds pid (File id) rights);
      input = t.input;
      output = t.output;
    }

-- a file that was made last is taken back
pub taken_back : (files made : FileTable) (name : List ℕ) (id : ℕ) → made ≡ filled files (new_file name) → id ≡ lowest_free files → take (length files) (without made id) ≡ files
taken_back files made name id is at =
    ap (λ m. take (length files) (without m id)) is ∙ ap (λ i. take (length files) (without (filled files (new_file name)) i)) at ∙ undone files (new_file name)

none_of_two : (a b : Bool) (x y : ℤ) → ◌≡◌ {A = Option ℤ} (cond a (Some x) (cond b (Some y) None)) None → b ≡ false
none_of_two true b x y h = absurd (cc)
none_of_two false true x y h = absurd (cc)
none_of_two false false x y h = refl

room_few : (fds : FdTable) (pid : ℕ) → room_error fds pid ≡ None → counted fds.descriptions < 256
room_few fds pid h = leb-false 256 (counted fds.descriptions) (none_of_two (nat_eq (free_count (slots_at fds.processes pid)) 0) _ EMFILE ENFILE h)

-- where one more description has room, so has one more holder
pub few_holders : (files : FileTable) (fds : FdTable) (pid id : ℕ) → IsIo files fds → room_error fds pid ≡ None → holders_of (at_id files id) ≤ 258
few_holders files fds pid id h room = omega (arith, h.holders id, end_count_most (File id) fds.descriptions, room_few fds pid room)

-- a description closed
pub held_once : (files : FileTable) (fds : FdTable) (pid fd : ℕ) → IsIo files fds → IsHeldOnce (last_target fds pid fd) files
held_once files fds pid fd h = λ id e.
    let count = end_count_closed_file id fds pid fd (terminals files fds h) in
    let gone : ends_gone (File id) (last_target fds pid fd) ≡ one_at id id = ap (ends_gone (File id)) e in
    omega (arith, h.holders id, count, gone, one_at_same id)

after_last_holders : (gone : Option Target) (files : FileTable) (id : ℕ) → IsHeldOnce gone files → holders_of (at_id (after_last gone files) id) + ends_gone (File id) gone ≡ holders_of (at_id files id)
after_last_holders None files id h = omega arith
after_last_holders (Some TermIn) files id h = omega arith
after_last_holders (Some TermOut) files id h = omega arith
after_last_holders (Some (ReadEnd pipe)) files id h = omega arith
after_last_holders (Some (WriteEnd pipe)) files id h = omega arith
after_last_holders (Some (File gone)) files id h = holders_released files gone id (h gone refl)

pub closed_io : (files : FileTable) (fds : FdTable) (pid fd : ℕ) → IsIo files fds → IsIo (after_last (last_target fds pid fd) files) (closed fds pid fd)
closed_io files fds pid fd h =
    let t = terminals_closed fds pid fd (terminals files fds h) in
    let once = held_once files fds pid fd h in
    record {
      holders = λ id. omega (arith, after_last_holders (last_target fds pid fd) files id once, h.holders id, end_count_closed_file id fds pid fd (terminals files fds h));
      input = t.input;
      output = t.output;
    }

-- one description more that is no file's
other_added : (files : FileTable) (fds : FdTable) (pid rights : ℕ) (target : Target) → ((id : ℕ) → same_target target (File id) ≡ false) → IsIo files fds → IsIo files (added fds pid target rights)
other_added files fds pid rights target no_file h =
    let t = terminals_added fds pid target rights (terminals files fds h) in
    record {
      holders = λ id. let none : cond (same_target target (File id)) 1 0 ≡ 0 = ap (λ (b : Bool). let one : ℕ = 1 in cond b one 0) (no_file id) in omega (arith, h.holders id, end_count_added (File id) fds pid target rights, none);
      input = t.input;
      output = t.output;
    }

pub paired_io : (files : FileTable) (fds : FdTable) (pid pipe : ℕ) → IsIo files fds → IsIo files (with_ends fds pid pipe)
paired_io files fds pid pipe h =
    other_added files (added fds pid (ReadEnd pipe) 1) pid 2 (WriteEnd pipe) (λ id. refl) (other_added files fds pid 1 (ReadEnd pipe) (λ id. refl) h)
