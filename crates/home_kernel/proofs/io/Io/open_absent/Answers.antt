use Rattle.std.proofs.Common.{◌≡◌, Some, is_some, IsSome, length, take, ap, refl, sym, subst, ◌∙◌}
use Rattle.id_table.specs.Places.{at_id, lowest_free, filled, without}
use Rattle.fs_memory.specs.Files.{new_file}
use Rattle.home_kernel.proofs.Holding.{created_io, opened_io, taken_back}
use Rattle.home_kernel.specs.Rules.{IsIo}
use Rattle.home_kernel.proofs.io.Io.open_absent.Goals as goal

pub invariant_of-self-in-Ok : goal.invariant_of-self-in-Ok
invariant_of-self-in-Ok c =
    let made : c.create.new.self ≡ filled c.self.inside.files (new_file c.args.name.now) = rw c.in-Some.is at c.in_ok-id.ensures.new in
    let there : at_id c.create.new.self c.in-Some.id ≡ Some (new_file c.args.name.now) = rw c.in-Some.is at c.in_ok-id.ensures.here in
    rw c.hold.ensures (rw c.in-Ok.ensures.ok
    (opened_io c.create.new.self c.self.inside.fds c.args.pid c.in-Some.id _ (ap is_some there) (rw made (created_io c.self.inside.files c.self.inside.fds c.args.name.now c.self.invariant))))

pub invariant_of-self-in-Err : goal.invariant_of-self-in-Err
invariant_of-self-in-Err c =
    let made : c.create.new.self ≡ filled c.self.inside.files (new_file c.args.name.now) = rw c.in-Some.is at c.in_ok-id.ensures.new in
    let at = rw c.in-Some.is at c.in_ok-id.ensures.id in
    let files : c.take_back.new.self ≡ c.self.inside.files =
    c.take_back.ensures ∙ ap (λ n. take n (without c.create.new.self c.in-Some.id)) c.places-places.ensures ∙ taken_back c.self.inside.files c.create.new.self c.args.name.now c.in-Some.id made at.1 in
    rw files (rw c.in-Err.ensures.err c.self.invariant)

pub returns-in-Err-clause-err : goal.returns-in-Err-clause-err
returns-in-Err-clause-err c =
    let made : c.create.new.self ≡ filled c.self.inside.files (new_file c.args.name.now) = rw c.in-Some.is at c.in_ok-id.ensures.new in
    let at = rw c.in-Some.is at c.in_ok-id.ensures.id in
    let files : c.take_back.new.self ≡ c.self.inside.files =
    c.take_back.ensures ∙ ap (λ n. take n (without c.create.new.self c.in-Some.id)) c.places-places.ensures ∙ taken_back c.self.inside.files c.create.new.self c.args.name.now c.in-Some.id made at.1 in
    rw files (rw c.in-Err.ensures.err c.self.view_is)
