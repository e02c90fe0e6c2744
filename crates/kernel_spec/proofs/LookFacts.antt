-- What the descriptors of one process stand for, after the calls of another on files, descriptors and pipes.
use Rattle.std.proofs.Common.{◌≡◌, ◌≢◌, ℕ, zero, suc, ◌+◌, ◌≤◌, ◌==◌, ◌%◌, nat_lt, not, Bool, true, false, cond, ℤ, List, [], ◌∷◌, Option, Some, None, IsSome, refl, ap, subst, sym, inl, inr, ◌∙◌, arith}
use Rattle.std.specs.Option.{option_map}
use Rattle.std.proofs.lemmas.Bool.{cases_eq, eq-eqb, ne_eqb}
use Rattle.std.proofs.lemmas.List.Sums.{sum_by-cons}
use Rattle.id_table.specs.Places.{at_id, lowest_free, put_under, changed}
use Rattle.id_table.proofs.PlaceLemmas.{at_with_value_other}
use Rattle.id_table.proofs.EditLemmas.{at_changed, at_changed_other, at_put_other, filled_kept}
use Rattle.call_table.specs.declared.limit.TheConstants.{NAMED_FILES}
use Rattle.fs_memory.specs.Files.{id_called, named_count}
use Rattle.fd_table.specs.declared.description.Look.{Look}
use Rattle.fd_table.specs.declared.description.Target.{Target}
use Rattle.fd_table.specs.declared.description.Target.TheVariants.{TermIn, TermOut, File, ReadEnd, WriteEnd}
use Rattle.fd_table.specs.Descriptors.{FdTable, Processes, Slots, slots_of, slots_at, description_of, look_up, look_at, end_count, free_count, with_slot, lowest_fd, added, with_offset, seek_in, sought, duplicated, is_for, slot_count, drop_in, is_dropped, is_unheld, holder_count, closed}
use Rattle.fd_table.proofs.EndLemmas.{closed_other, end_count_added, end_count_sought}
use Rattle.pipe_table.specs.Table.{pipe_at, bytes_at, room_at, with_pipe as one_more, free_id}
use Rattle.kernel_spec.specs.Io.{IoState, IoDone, unless, has_flag, open_called, open_result, name_error, flags_error, room_error, close_at, close_result, closed_from, all_closed, descriptor_count, seek_to, seek_in as seek_target, seek_at, seek_result, place_of, file_len, dup_at, dup_result, unlink_called, unlink_result, pipe_to, pipe_unless, pipe_result, with_ends, ends_error}

-- ---- what descriptors stand for

-- the same target with the same rights; the offset may have moved
abbrev pub Keeps : Option Look → Option Look → Type 0
Keeps None new = Unit {0}
Keeps (Some look) new = (l : Look) × (new ≡ Some l) × (l.target ≡ look.target) × (l.rights ≡ look.rights)

abbrev pub LooksStay : FdTable → FdTable → ℕ → Type 0
LooksStay old new p = (fd : ℕ) → Keeps (look_at old p fd) (look_at new p fd)

keeps_same : (o : Option Look) → Keeps o o
keeps_same None = tt
keeps_same (Some look) = (look, refl, refl, refl)

keeps_on : (a b c : Option Look) → Keeps a b → Keeps b c → Keeps a c
keeps_on None b c h g = tt
keeps_on (Some look) b c h g =
    let next : Keeps (Some h.0) c = subst (λ o. Keeps o c) h.1 g in
    (next.0, next.1, next.2 ∙ h.2, next.3 ∙ h.3)

pub looks_same : (table : FdTable) (p : ℕ) → LooksStay table table p
looks_same table p fd = keeps_same (look_at table p fd)

pub looks_on : (a b c : FdTable) (p : ℕ) → LooksStay a b p → LooksStay b c p → LooksStay a c p
looks_on a b c p f g fd = keeps_on (look_at a p fd) (look_at b p fd) (look_at c p fd) (f fd) (g fd)

-- from the descriptors, and the descriptions that they name
looks_by : (old new : FdTable) (p : ℕ) → slots_at new.processes p ≡ slots_at old.processes p → ((id fd : ℕ) → at_id (slots_at old.processes p) fd ≡ Some id → Keeps (at_id old.descriptions id) (at_id new.descriptions id)) → LooksStay old new p
looks_by old new p slots kept fd =
    subst (λ xs. Keeps (look_at old p fd) (look_up new.descriptions (at_id xs fd))) (sym slots) (by_slot (at_id (slots_at old.processes p) fd) refl)
  where
    by_slot : (slot : Option ℕ) → at_id (slots_at old.processes p) fd ≡ slot → Keeps (look_up old.descriptions slot) (look_up new.descriptions slot)
    by_slot None e = tt
    by_slot (Some id) e = kept id fd e

slots_other : (processes : Processes) (q fd p : ℕ) (slot : Option ℕ) → p ≢ q → slots_at (with_slot processes q fd slot) p ≡ slots_at processes p
slots_other processes q fd p slot other = ap slots_of (at_with_value_other processes q p _ other)

added_looks : (table : FdTable) (q : ℕ) (target : Target) (rights p : ℕ) → p ≢ q → LooksStay table (added table q target rights) p
added_looks table q target rights p other =
    looks_by table (added table q target rights) p (slots_other table.processes q (lowest_fd table q) p (Some (lowest_free table.descriptions)) other) (λ id fd e. by_place id (at_id table.descriptions id) refl)
  where
    by_place : (id : ℕ) (o : Option Look) → at_id table.descriptions id ≡ o → Keeps o (at_id (added table q target rights).descriptions id)
    by_place id None e = tt
    by_place id (Some look) e = (look, filled_kept table.descriptions (record { target = target; rights = rights; offset = 0 }) look id e, refl, refl)

moved : (offset : ℕ) (o : Option Look) → Keeps o (option_map (with_offset offset) o)
moved offset None = tt
moved offset (Some look) = (with_offset offset look, refl, refl, refl)

pub sought_looks : (table : FdTable) (q fd offset p : ℕ) → LooksStay table (sought table q fd offset) p
sought_looks table q fd offset p = looks_by table (sought table q fd offset) p refl (λ id at e. by_slot (description_of table q fd) id)
  where
    by_slot : (slot : Option ℕ) (id : ℕ) → Keeps (at_id table.descriptions id) (at_id (seek_in table.descriptions slot offset) id)
    by_slot None id = keeps_same (at_id table.descriptions id)
    by_slot (Some at) id = elim (cases_eq id at) [
      | inl same ↦
          let changed_one : at_id (changed table.descriptions at (with_offset offset)) id ≡ option_map (with_offset offset) (at_id table.descriptions id)
          = subst (λ (k : ℕ). at_id (changed table.descriptions at (with_offset offset)) k ≡ option_map (with_offset offset) (at_id table.descriptions k)) (sym same) (at_changed table.descriptions at (with_offset offset)) in
          subst (λ o. Keeps (at_id table.descriptions id) o) (sym changed_one) (moved offset (at_id table.descriptions id))
      | inr ne ↦ subst (λ o. Keeps (at_id table.descriptions id) o) (sym (at_changed_other table.descriptions at (with_offset offset) id ne)) (keeps_same (at_id table.descriptions id))
    ]

duplicated_looks : (table : FdTable) (q fd p : ℕ) → p ≢ q → LooksStay table (duplicated table q fd) p
duplicated_looks table q fd p other =
    looks_by table (duplicated table q fd) p (slots_other table.processes q (lowest_fd table q) p (description_of table q fd) other) (λ id at e. keeps_same (at_id table.descriptions id))

-- a description that a descriptor has is held
slot_counts : (id fd : ℕ) (slots : Slots) → at_id slots fd ≡ Some id → 1 ≤ slot_count id slots
slot_counts id fd [] e = absurd (cc)
slot_counts id zero (slot ∷ slots) e =
    let same : is_for id slot ≡ true = ap (is_for id) e ∙ eq-eqb id id refl in
    let one : ◌≡◌ {A = ℕ} (cond (is_for id slot) 1 0) 1 = rw same refl in
    omega (arith, sum_by-cons (λ x. cond (is_for id x) 1 0) slot slots, one)
slot_counts id (suc fd) (slot ∷ slots) e = omega (arith, sum_by-cons (λ x. cond (is_for id x) 1 0) slot slots, slot_counts id fd slots e)

holder_counts : (id p fd : ℕ) (processes : Processes) → at_id (slots_at processes p) fd ≡ Some id → 1 ≤ holder_count id processes
holder_counts id p fd [] e = absurd (cc)
holder_counts id zero fd (place ∷ processes) e = omega (arith, sum_by-cons (λ x. slot_count id (slots_of x)) place processes, slot_counts id fd (slots_of place) e)
holder_counts id (suc p) fd (place ∷ processes) e = omega (arith, sum_by-cons (λ x. slot_count id (slots_of x)) place processes, holder_counts id p fd processes e)

-- a description that is held stays
not_dropped : (id : ℕ) (processes : Processes) → 1 ≤ holder_count id processes → is_dropped id processes ≡ false
not_dropped id processes held = by_low (nat_lt id 2)
  where
    by_low : (b : Bool) → cond b false (is_unheld id processes) ≡ false
    by_low true = refl
    by_low false = ne_eqb (holder_count id processes) 0 (λ none. absurd (omega (arith, held, none)))

closed_looks : (table : FdTable) (q fd p : ℕ) → p ≢ q → LooksStay table (closed table q fd) p
closed_looks table q fd p other = looks_by table (closed table q fd) p slots kept
  where
    after : Processes
    after = with_slot table.processes q fd None

    slots : slots_at (with_slot table.processes q fd None) p ≡ slots_at table.processes p
    slots = slots_other table.processes q fd p None other

    kept : (id at : ℕ) → at_id (slots_at table.processes p) at ≡ Some id → Keeps (at_id table.descriptions id) (at_id (drop_in table.descriptions (description_of table q fd) (with_slot table.processes q fd None)) id)
    kept id at e = by_slot (description_of table q fd) refl
      where
        held : 1 ≤ holder_count id (with_slot table.processes q fd None)
        held = holder_counts id p at (with_slot table.processes q fd None) (ap (λ xs. at_id xs at) slots ∙ e)

        by_slot : (slot : Option ℕ) → description_of table q fd ≡ slot → Keeps (at_id table.descriptions id) (at_id (drop_in table.descriptions slot (with_slot table.processes q fd None)) id)
        by_slot None is = keeps_same (at_id table.descriptions id)
        by_slot (Some this) is = elim (cases_eq id this) [
          | inl same ↦
              let stays : is_dropped this (with_slot table.processes q fd None) ≡ false = subst (λ (k : ℕ). is_dropped k (with_slot table.processes q fd None) ≡ false) same (not_dropped id (with_slot table.processes q fd None) held) in
              rw stays (keeps_same (at_id table.descriptions id))
          | inr ne ↦
              let closed_one : at_id (closed table q fd).descriptions id ≡ at_id table.descriptions id = closed_other table q fd id (λ here. let s : Some this ≡ Some id = sym is ∙ here in absurd (ne (cc))) in
              let dropped : at_id (drop_in table.descriptions (Some this) (with_slot table.processes q fd None)) id ≡ at_id table.descriptions id = ap (λ slot. at_id (drop_in table.descriptions slot (with_slot table.processes q fd None)) id) (sym is) ∙ closed_one in
              subst (λ o. Keeps (at_id table.descriptions id) o) (sym dropped) (keeps_same (at_id table.descriptions id))
        ]

-- the descriptors of a new process
pub put_looks : (table : FdTable) (child : ℕ) (slots : Slots) (p : ℕ) → p ≢ child → LooksStay table (record table { processes = put_under table.processes child slots }) p
put_looks table child slots p other =
    looks_by table (record table { processes = put_under table.processes child slots }) p (ap slots_of (at_put_other table.processes child slots p other)) (λ id at e. keeps_same (at_id table.descriptions id))

-- ---- an end of a process

close_looks : (io : IoState) (q fd p : ℕ) → p ≢ q → LooksStay io.fds (close_result io q fd).io.fds p
close_looks io q fd p other = by_look (look_at io.fds q fd)
  where
    by_look : (o : Option Look) → LooksStay io.fds (close_at o io q fd).io.fds p
    by_look None = looks_same io.fds p
    by_look (Some look) = closed_looks io.fds q fd p other

closed_from_looks : (n q fd : ℕ) (io : IoState) (p : ℕ) → p ≢ q → LooksStay io.fds (closed_from n q fd io).fds p
unfolding closed_from
closed_from_looks zero q fd io p other = looks_same io.fds p
closed_from_looks (suc n) q fd io p other =
    looks_on io.fds (close_result io q fd).io.fds (closed_from n q (fd + 1) (close_result io q fd).io).fds p (close_looks io q fd p other) (closed_from_looks n q (fd + 1) (close_result io q fd).io p other)

pub closing_looks : (io : IoState) (q p : ℕ) → p ≢ q → LooksStay io.fds (all_closed io q).fds p
closing_looks io q p other = closed_from_looks descriptor_count q 0 io p other

pub close_call_looks : (io : IoState) (q fd p : ℕ) → p ≢ q → LooksStay io.fds (close_result io q fd).io.fds p
close_call_looks io q fd p other = close_looks io q fd p other

-- ---- the calls that close nothing, read no pipe and write none

-- what such a call of another process leaves of p: its descriptors, all ends, and what is in every pipe
pub record IsStill (io new : IoState) (p : ℕ) : Type 0 where
  pub looks : LooksStay io.fds new.fds p
  pub ends : (target : Target) → end_count target io.fds.descriptions ≤ end_count target new.fds.descriptions
  pub bytes : (pipe : ℕ) → bytes_at new.pipes pipe ≡ bytes_at io.pipes pipe
  pub room : (pipe : ℕ) → IsSome (pipe_at io.pipes pipe) → room_at new.pipes pipe ≡ room_at io.pipes pipe

pub stays : (io : IoState) (p : ℕ) → IsStill io io p
stays io p = record { looks = looks_same io.fds p; ends = λ target. omega arith; bytes = λ pipe. refl; room = λ pipe here. refl }

still_on : (a b c : IoState) (p : ℕ) → IsStill a b p → ((pipe : ℕ) → IsSome (pipe_at a.pipes pipe) → IsSome (pipe_at b.pipes pipe)) → IsStill b c p → IsStill a c p
still_on a b c p f there g = record {
  looks = looks_on a.fds b.fds c.fds p f.looks g.looks;
  ends = λ target. let l = f.ends target in let r = g.ends target in omega (arith, l, r);
  bytes = λ pipe. g.bytes pipe ∙ f.bytes pipe;
  room = λ pipe here. g.room pipe (there pipe here) ∙ f.room pipe here;
}

-- the pipes as they are, and no end less
of_fds : (io new : IoState) (p : ℕ) → new.pipes ≡ io.pipes → LooksStay io.fds new.fds p → ((target : Target) → end_count target io.fds.descriptions ≤ end_count target new.fds.descriptions) → IsStill io new p
of_fds io new p same looks ends = record { looks = looks; ends = ends; bytes = λ pipe. ap (λ pipes. bytes_at pipes pipe) same; room = λ pipe here. ap (λ pipes. room_at pipes pipe) same }

more_ends : (n m extra : ℕ) → m ≡ n + extra → n ≤ m
more_ends n m extra e = omega (arith, e)

added_still : (io new : IoState) (q : ℕ) (target : Target) (rights p : ℕ) → p ≢ q → new.pipes ≡ io.pipes → new.fds ≡ added io.fds q target rights → IsStill io new p
added_still io new q target rights p other pipes fds =
    of_fds io new p pipes (subst (λ t. LooksStay io.fds t p) (sym fds) (added_looks io.fds q target rights p other))
    (λ one. more_ends _ _ _ (ap (λ (t : FdTable). end_count one t.descriptions) fds ∙ end_count_added one io.fds q target rights))

same_fds : (io new : IoState) (p : ℕ) → new.pipes ≡ io.pipes → new.fds ≡ io.fds → IsStill io new p
same_fds io new p pipes fds =
    of_fds io new p pipes (subst (λ t. LooksStay io.fds t p) (sym fds) (looks_same io.fds p)) (λ one. more_ends _ _ 0 (ap (λ (t : FdTable). end_count one t.descriptions) fds ∙ omega arith))

unless_still : (e : Option ℤ) (io : IoState) (done : IoDone) (p : ℕ) → IsStill io done.io p → IsStill io (unless e io done).io p
unless_still None io done p h = h
unless_still (Some error) io done p h = stays io p

done_by : (b : Bool) (io : IoState) (x y : IoDone) (p : ℕ) → IsStill io x.io p → IsStill io y.io p → IsStill io (cond b x y).io p
done_by true io x y p f g = f
done_by false io x y p f g = g

open_still : (slot : Option ℕ) (io : IoState) (q : ℕ) (name : List ℕ) (flags p : ℕ) → p ≢ q → IsStill io (open_called slot io q name flags).io p
open_still None io q name flags p other =
    done_by (not (has_flag flags 4)) io _ _ p (stays io p)
    (done_by (named_count io.files == NAMED_FILES) io _ _ p (stays io p) (added_still io _ q (File (lowest_free io.files)) (flags % 4) p other refl refl))
open_still (Some id) io q name flags p other = done_by (has_flag flags 16) io _ _ p (stays io p) (added_still io _ q (File id) (flags % 4) p other refl refl)

pub open_call_still : (io : IoState) (q len : ℕ) (name : List ℕ) (flags p : ℕ) → p ≢ q → IsStill io (open_result io q len name flags).io p
open_call_still io q len name flags p other =
    unless_still (name_error len name) io _ p (unless_still (flags_error flags) io _ p (unless_still (room_error io.fds q) io _ p (open_still (id_called name io.files) io q name flags p other)))

seek_still : (place : Option ℕ) (io : IoState) (q fd p : ℕ) → IsStill io (seek_to place io q fd).io p
seek_still None io q fd p = stays io p
seek_still (Some place) io q fd p =
    of_fds io _ p refl (sought_looks io.fds q fd place p) (λ one. more_ends _ _ 0 (end_count_sought one io.fds q fd place ∙ omega arith))

seek_target_still : (target : Target) (offset : ℕ) (io : IoState) (q fd off whence p : ℕ) → IsStill io (seek_target target offset io q fd off whence).io p
seek_target_still (File id) offset io q fd off whence p = seek_still (place_of whence offset (file_len io.files id) off) io q fd p
seek_target_still TermIn offset io q fd off whence p = stays io p
seek_target_still TermOut offset io q fd off whence p = stays io p
seek_target_still (ReadEnd pipe) offset io q fd off whence p = stays io p
seek_target_still (WriteEnd pipe) offset io q fd off whence p = stays io p

pub seek_call_still : (io : IoState) (q fd off whence p : ℕ) → IsStill io (seek_result io q fd off whence).io p
seek_call_still io q fd off whence p = by_look (look_at io.fds q fd)
  where
    by_look : (o : Option Look) → IsStill io (seek_at o io q fd off whence).io p
    by_look None = stays io p
    by_look (Some look) = seek_target_still look.target look.offset io q fd off whence p

pub dup_call_still : (io : IoState) (q fd p : ℕ) → p ≢ q → IsStill io (dup_result io q fd).io p
dup_call_still io q fd p other = by_look (look_at io.fds q fd)
  where
    by_look : (o : Option Look) → IsStill io (dup_at o io q fd).io p
    by_look None = stays io p
    by_look (Some look) =
        done_by (free_count (slots_at io.fds.processes q) == 0) io _ _ p (stays io p)
        (of_fds io _ p refl (duplicated_looks io.fds q fd p other) (λ one. omega arith))

pub unlink_call_still : (io : IoState) (len : ℕ) (name : List ℕ) (p : ℕ) → IsStill io (unlink_result io len name).io p
unlink_call_still io len name p = unless_still (name_error len name) io _ p (by_slot (id_called name io.files))
  where
    by_slot : (slot : Option ℕ) → IsStill io (unlink_called slot io).io p
    by_slot None = stays io p
    by_slot (Some id) = same_fds io _ p refl refl

-- a new pipe changes none that is there
made_bytes : (pipes : List (Option (List ℕ))) (id : ℕ) → bytes_at (one_more pipes) id ≡ bytes_at pipes id
made_bytes [] zero = refl
made_bytes [] (suc id) = refl
made_bytes (None ∷ pipes) zero = refl
made_bytes (None ∷ pipes) (suc id) = refl
made_bytes (Some bytes ∷ pipes) zero = refl
made_bytes (Some bytes ∷ pipes) (suc id) = made_bytes pipes id

made_room : (pipes : List (Option (List ℕ))) (id : ℕ) → IsSome (pipe_at pipes id) → room_at (one_more pipes) id ≡ room_at pipes id
made_room [] zero here = absurd (cc)
made_room [] (suc id) here = absurd (cc)
made_room (None ∷ pipes) zero here = absurd (cc)
made_room (None ∷ pipes) (suc id) here = refl
made_room (Some bytes ∷ pipes) zero here = refl
made_room (Some bytes ∷ pipes) (suc id) here = made_room pipes id here

pub pipe_call_still : (io : IoState) (q p : ℕ) → p ≢ q → IsStill io (pipe_result io q).io p
pipe_call_still io q p other = by_error (ends_error io.fds q)
  where
    by_free : (o : Option ℕ) → IsStill io (pipe_to o io q).io p
    by_free None = stays io p
    by_free (Some pipe) =
        let first = added io.fds q (ReadEnd pipe) 1 in
        record {
          looks = looks_on io.fds first (with_ends io.fds q pipe) p (added_looks io.fds q (ReadEnd pipe) 1 p other) (added_looks first q (WriteEnd pipe) 2 p other);
          ends = λ one.
              let a = end_count_added one io.fds q (ReadEnd pipe) 1 in
              let b = end_count_added one first q (WriteEnd pipe) 2 in
              omega (arith, a, b);
          bytes = λ id. made_bytes io.pipes id;
          room = λ id here. made_room io.pipes id here;
        }

    by_error : (o : Option ℤ) → IsStill io (pipe_unless o io q).io p
    by_error None = by_free (free_id io.pipes)
    by_error (Some error) = stays io p
