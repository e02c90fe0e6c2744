-- All descriptors of a process are closed, one after the other.
use Rattle.std.proofs.Common.{◌≡◌, ◌+◌, ◌-◌, ◌<◌, ◌≤◌, ℕ, zero, suc, refl, ap, ◌∙◌, arith}
use Rattle.fd_table.specs.Descriptors.{Processes}
use Rattle.kernel_spec.specs.Io.{IoState, close_result, closed_from, descriptor_count}
use Rattle.home_kernel.specs.Rules.{AreKept}

pub descriptors : descriptor_count ≡ 16
unfolding descriptor_count
descriptors = refl

pub closed_step : (pid fd : ℕ) (io : IoState) → fd < descriptor_count → closed_from (descriptor_count - fd) pid fd io ≡ closed_from (descriptor_count - (fd + 1)) pid (fd + 1) (close_result io pid fd).io
unfolding descriptor_count closed_from
closed_step pid fd io h =
    let more : descriptor_count - fd ≡ suc (descriptor_count - (fd + 1)) = omega (arith, h) in
    ap (λ n. closed_from n pid fd io) more

pub closed_last : (pid fd : ℕ) (io : IoState) → descriptor_count ≤ fd → closed_from (descriptor_count - fd) pid fd io ≡ io
unfolding closed_from
closed_last pid fd io h =
    let none : descriptor_count - fd ≡ zero = omega (arith, h) in
    ap (λ n. closed_from n pid fd io) none

pub kept_on : (a b c : Processes) → AreKept a b → AreKept b c → AreKept a c
kept_on a b c h g = record { some = λ pid. g.some pid ∙ h.some pid; len = g.len ∙ h.len }
