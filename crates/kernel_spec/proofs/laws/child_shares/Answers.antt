use Rattle.std.proofs.Common.{◌≡◌, ℕ, zero, suc, false, replicate, slice_get, unwrap_or, refl, ap}
use Rattle.id_table.specs.Places.{at_id}
use Rattle.fd_table.specs.Descriptors.{look_up, slots_of}
use Rattle.fd_table.proofs.EndLemmas.{at_forked}
use Rattle.kernel_spec.proofs.laws.child_shares.Goals as goal

none_pending : (n k : ℕ) → unwrap_or (slice_get (replicate n false) k) false ≡ false
none_pending zero k = refl
none_pending (suc n) zero = refl
none_pending (suc n) (suc k) = none_pending n k

pub returns-clause-descriptions : goal.returns-clause-descriptions
returns-clause-descriptions c = λ k pid child fd. ap (λ slots. look_up k.io.fds.descriptions (at_id (slots_of slots) fd)) (at_forked k.io.fds pid child)

pub returns-clause-mask : goal.returns-clause-mask
returns-clause-mask c = λ state. refl

pub returns-clause-acts : goal.returns-clause-acts
returns-clause-acts c = λ state signal. refl

pub returns-clause-pending : goal.returns-clause-pending
returns-clause-pending c = λ state signal. none_pending 32 signal
