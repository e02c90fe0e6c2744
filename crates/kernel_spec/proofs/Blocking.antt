-- Which calls may block.
use Rattle.std.proofs.Common.{◌≡◌, ℕ, ◌==◌, Bool, true, false, cond, List, Option, Some, is_none, refl}
use Rattle.call_table.specs.declared.call.TheConstants.{EXIT, GETPPID, FORK, WAIT, OPEN, CLOSE, READ, WRITE, LSEEK, PIPE, DUP, UNLINK, KILL, SIGACT, SIGRETURN, SIGMASK, YIELD}
use Rattle.kernel_spec.specs.Kernel.{KernelState, Called}
use Rattle.kernel_spec.specs.Calls.{call_row}

goes : (b : Bool) (x : Called) (rest : Option Called) → is_none rest ≡ false → is_none (cond b (Some x) rest) ≡ false
goes true x rest h = refl
goes false x rest h = h

other : (b : Bool) (x rest : Option Called) → b ≡ false → is_none rest ≡ false → is_none (cond b x rest) ≡ false
other true x rest e h = absurd (cc)
other false x rest e h = h

-- a call that is neither wait nor read nor write never blocks
pub never_blocks : (number : ℕ) (k : KernelState) (pid : ℕ) (args bytes : List ℕ) → (number == WAIT) ≡ false → (number == READ) ≡ false → (number == WRITE) ≡ false → is_none (call_row number k pid args bytes) ≡ false
unfolding call_row
never_blocks number k pid args bytes wait read write =
    goes (number == EXIT) _ _ (goes (number == GETPPID) _ _ (goes (number == FORK) _ _ (other (number == WAIT) _ _ wait
    (goes (number == OPEN) _ _ (goes (number == CLOSE) _ _ (other (number == READ) _ _ read (other (number == WRITE) _ _ write
    (goes (number == LSEEK) _ _ (goes (number == PIPE) _ _ (goes (number == DUP) _ _ (goes (number == UNLINK) _ _
    (goes (number == KILL) _ _ (goes (number == SIGACT) _ _ (goes (number == SIGRETURN) _ _ (goes (number == SIGMASK) _ _
    (goes (number == YIELD) _ _ refl))))))))))))))))
