-- Processes by number, and what the calls on the system leave.
use Rattle.std.proofs.Common.{◌≡◌, ℕ, zero, suc, ◌+◌, ◌-◌, ◌≤◌, ◌<◌, List, [], ◌∷◌, ◌++◌, length, cond, slice_get, slice_set, refl, ap, ◌∙◌, sym, arith, Option, Some, None, true, false}
use Rattle.std.specs.Option.{option_map, option_map_or}
use Rattle.std.proofs.lemmas.Option.{none-some}
use Rattle.call_table.specs.declared.process.Reply3.{Reply3}
use Rattle.proc_tree.specs.declared.process.Process.{Process}
use Rattle.proc_tree.specs.Processes as process
use Rattle.user_spec.specs.User.{UserState}
use Rattle.kernel_spec.specs.Kernel.{KernelState, with_process, given, is_live}
use Rattle.signal_set.specs.Signals.{no_signals}
use Rattle.kernel_spec.specs.Pids.{at_pid, set_pid}
use Rattle.kernel_spec.proofs.GivenLemmas.{given_joined}
use Rattle.kernel_spec.proofs.PidLemmas.{set_pid-at, at_pid-at}
use Rattle.home_kernel.specs.Serving.{IsLive, Launches}
use Rattle.one_node.specs.Machine.{MachineState, live_user, launched, next_pid}
use Rattle.one_node.specs.Going.{gone_on, gone_in, gone, GoneIn, gone_at, GoneAt}
use Rattle.one_node.specs.declared.going.Ran.{Ran}

same_some : {A : Type 0} (x y : A) → ◌≡◌ {A = Option A} (Some x) (Some y) → x ≡ y
same_some x y h = cc

-- ---- live processes

within : (tree : List Process) (i : ℕ) → option_map_or process.is_live (slice_get tree i) false ≡ true → i < length tree
within [] i h = absurd (let f : false ≡ true = h in cc)
within (p ∷ ps) zero h = omega arith
within (p ∷ ps) (suc i) h = let lt = within ps i h in omega arith

-- a live process was given
pub live_within : (k : KernelState) (pid : ℕ) → is_live k pid ≡ true → pid ≤ given k
live_within k zero h = omega arith
live_within k (suc i) h = let lt = within k.processes.tree i h in omega arith

-- pid 0 is none
pub live_low : (k : KernelState) (pid : ℕ) → is_live k pid ≡ true → 1 ≤ pid
live_low k zero h = absurd (let f : false ≡ true = h in cc)
live_low k (suc i) h = omega arith

-- ---- the state from what the code reads: the kernel, the contexts and the replies

abbrev pub state_of : KernelState → List UserState → List Reply3 → MachineState
state_of k users replies = record { kernel = k; users = users; replies = replies }

-- a live process is the one at its index
live_at : (m : MachineState) (pid : ℕ) → 1 ≤ pid → IsLive m.kernel pid → live_user m pid ≡ slice_get m.users (pid - 1)
live_at m pid low live = ap (λ b. cond b (at_pid m.users pid) None) live ∙ at_pid-at m.users pid low

pub user_here : (k : KernelState) (users : List UserState) (replies : List Reply3) (m : MachineState) (pid i : ℕ) → state_of k users replies ≡ m → 1 ≤ pid → IsLive k pid → i ≡ pid - 1 → live_user m pid ≡ slice_get users i
user_here k users replies m pid i is low live at =
    let x = state_of k users replies in
    ap (λ y. live_user y pid) (sym is) ∙ live_at x pid low live ∙ ap (slice_get users) (sym at)

-- a process that is not live has no context
pub dead : (m : MachineState) (pid : ℕ) → is_live m.kernel pid ≡ false → live_user m pid ≡ None
dead m pid h = ap (λ b. cond b (at_pid m.users pid) None) h

-- the contexts with another at an index are those with another of its pid
pub set_at : (users : List UserState) (pid i : ℕ) (u : UserState) → 1 ≤ pid → i ≡ pid - 1 → slice_set users i u ≡ set_pid users pid u
set_at users pid i u low at = ap (λ j. slice_set users j u) at ∙ sym (set_pid-at users pid u low)

-- ---- a turn of a process

gone_some : (q : ℕ) (x m : MachineState) (pid i : ℕ) (u : Option UserState) (ran : Ran) (after : List UserState) → 1 ≤ pid → i ≡ pid - 1 → gone_at x.users i (option_map (gone q) u) ≡ Some (record { ran = ran; users = after })
    → gone_on x pid (option_map (gone q) u) ≡ record { ran = Some ran; machine = state_of x.kernel after x.replies }
gone_some q x m pid i None ran after low at h = absurd (none-some _ h)
gone_some q x m pid i (Some u) ran after low at h =
    ap (λ us. let g : GoneIn = record { ran = Some (gone q u).ran; machine = state_of x.kernel us x.replies } in g) (sym (set_at x.users pid i (gone q u).user low at))
    ∙ ap (λ (g : GoneAt). let r : GoneIn = record { ran = Some g.ran; machine = state_of x.kernel g.users x.replies } in r) (same_some _ _ h)

pub goes_in : (k : KernelState) (users after : List UserState) (replies : List Reply3) (m : MachineState) (pid i q : ℕ) (ran : Ran) → state_of k users replies ≡ m → 1 ≤ pid → IsLive k pid → i ≡ pid - 1
    → gone_at users i (option_map (gone q) (slice_get users i)) ≡ Some (record { ran = ran; users = after }) → gone_in q m pid ≡ record { ran = Some ran; machine = state_of k after replies }
goes_in k users after replies m pid i q ran is low live at h =
    let x = state_of k users replies in
    let here : live_user x pid ≡ slice_get users i = user_here k users replies x pid i refl low live at in
    ap (λ y. gone_in q y pid) (sym is)
    ∙ ap (λ o. gone_on x pid (option_map (gone q) o)) here
    ∙ gone_some q x m pid i (slice_get users i) ran after low at h

pub goes_not : (q : ℕ) (m : MachineState) (pid : ℕ) → is_live m.kernel pid ≡ false → gone_in q m pid ≡ record { ran = None; machine = m }
goes_not q m pid h = ap (λ o. gone_on m pid (option_map (gone q) o)) (dead m pid h)

-- ---- a launch

-- one process more
pub launches_in : (k after : KernelState) (users : List UserState) (replies : List Reply3) (m : MachineState) (u : UserState) (pid : ℕ) (setup : Option UserState) → state_of k users replies ≡ m → setup ≡ Some u
    → Launches (Some pid) k after → launched setup m ≡ Some (state_of after (users ++ record u { pid = pid } ∷ []) replies)
launches_in k after users replies m u pid setup is here l =
    let x = state_of k users replies in
    let many : given k + 1 ≡ pid = sym (l.2 ∙ ap given l.1 ∙ given_joined k.processes 0 no_signals) in
    ap (launched setup) (sym is)
    ∙ ap (λ o. launched o x) here
    ∙ ap (λ b. cond b (Some (state_of (with_process k) (users ++ record u { pid = next_pid x } ∷ []) replies)) None) l.0
    ∙ ap (λ n. Some (state_of (with_process k) (users ++ record u { pid = n } ∷ []) replies)) many
    ∙ ap (λ y. Some (state_of y (users ++ record u { pid = pid } ∷ []) replies)) (sym l.1)

pub launches_not_in : (k after : KernelState) (users : List UserState) (replies : List Reply3) (m : MachineState) (u : UserState) (setup : Option UserState) → state_of k users replies ≡ m → setup ≡ Some u
    → Launches None k after → launched setup m ≡ None
launches_not_in k after users replies m u setup is here l =
    let x = state_of k users replies in
    ap (launched setup) (sym is)
    ∙ ap (λ o. launched o x) here
    ∙ ap (λ b. cond b (Some (state_of (with_process k) (users ++ record u { pid = next_pid x } ∷ []) replies)) None) l.0
