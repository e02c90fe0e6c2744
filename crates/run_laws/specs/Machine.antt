-- The machine of one node: one kernel, the user state of each pid ever given, and the replies. It knows no node and no letter.
use Rattle.std.specs.Prelude.{ℕ, ◌+◌, ◌==◌, ℤ, nat_lt, cond, Option, Some, None, List, [], ◌∷◌, ◌++◌, option_and_then}
use Rattle.protocol.specs.Ops.{Ops, Acted}

pub record ReplyGiven : Type 0 where
  pub pid : ℕ
  pub number : ℕ
  pub value : ℤ

-- the steps of the machine, by pids and by places in the setup
pub data Step : Type 0 where
  Launch : (index : ℕ) → Step
  Raise : (pid signal : ℕ) → Step
  Feed : (index : ℕ) → Step
  Eof : Step
  Advance : (pid count : ℕ) → Step
  Do : (pid : ℕ) → Step
  Break : (pid : ℕ) → Step
  Take : (pid : ℕ) → Step
  Fall : (pid : ℕ) → Step

abbrev pub listed : Option ℕ → List ℕ
listed None = []
listed (Some q) = q ∷ []

module _ (O : Ops) where
  pub record MachineState : Type 0 where
    pub kernel : O.Kernel
    pub users : ℕ → Option O.User
    pub replies : List ReplyGiven

  abbrev pub empty : MachineState
  empty = record { kernel = O.new_kernel; users = λ q. None; replies = [] }

  abbrev pub with_user : ℕ → O.User → MachineState → MachineState
  with_user p u m = record { kernel = m.kernel; users = λ q. cond (q == p) (Some u) (m.users q); replies = m.replies }

  abbrev pub with_kernel : O.Kernel → MachineState → MachineState
  with_kernel k m = record { kernel = k; users = m.users; replies = m.replies }

  abbrev pub with_reply : ℕ → O.Request → O.Answer → MachineState → MachineState
  with_reply p r a m = record { kernel = m.kernel; users = m.users; replies = record { pid = p; number = O.number r; value = O.value a } ∷ m.replies }

  abbrev pub with_child : O.User → Option ℕ → MachineState → MachineState
  with_child u None m = m
  with_child u (Some c) m = with_user c (O.forked u c) m

  -- a live process by its user state
  abbrev pub of_live : ℕ → MachineState → (O.User → Option MachineState) → Option MachineState
  of_live p m f = cond (O.live m.kernel p) (option_and_then f (m.users p)) None

  abbrev pub launched : ℕ → MachineState → Option MachineState
  launched i m = cond (nat_lt i O.images) (option_and_then (λ k. Some (with_user (O.count m.kernel + 1) (O.loaded i (O.count m.kernel + 1)) (with_kernel k m))) (O.launch m.kernel)) None

  abbrev pub raised : ℕ → ℕ → MachineState → Option MachineState
  raised p s m = cond (O.is_signal s) (Some (with_kernel (O.raise m.kernel p s) m)) None

  abbrev pub fed : ℕ → MachineState → Option MachineState
  fed i m = cond (nat_lt i O.texts) (Some (with_kernel (O.feed m.kernel i) m)) None

  abbrev pub stepped : ℕ → ℕ → MachineState → Option MachineState
  stepped p k m = cond (nat_lt 0 k) (of_live p m (λ u. option_and_then (λ x. Some (with_user p x m)) (O.went u k))) None

  abbrev pub did : ℕ → MachineState → Option MachineState
  did p m = of_live p m (λ u. option_and_then (λ r. cond (O.number r == 0) None (option_and_then (λ d. Some (with_child u d.child (with_user p (O.given u d.answer) (with_reply p r d.answer (with_kernel d.kernel m))))) (O.serve m.kernel p r))) (O.asks u))

  abbrev pub blocks : Option (Acted O.Kernel O.Answer) → MachineState → Option MachineState
  blocks None m = Some m
  blocks (Some d) m = None

  abbrev pub broke : ℕ → MachineState → Option MachineState
  broke p m = of_live p m (λ u. option_and_then (λ r. cond (O.number r == 0) None (option_and_then (λ s. blocks (O.serve m.kernel p r) (with_user p (O.given u O.broken) (with_reply p r O.broken m))) (O.lowest m.kernel p))) (O.asks u))

  abbrev pub took : ℕ → MachineState → Option MachineState
  took p m = option_and_then (λ s. option_and_then (λ u. Some (with_user p (O.entered u (O.take m.kernel p (O.room u)).taken) (with_kernel (O.take m.kernel p (O.room u)).kernel m))) (m.users p)) (O.lowest m.kernel p)

  abbrev pub fell : ℕ → MachineState → Option MachineState
  fell p m = of_live p m (λ u. option_and_then (λ r. cond (O.number r == 0) (Some (with_kernel (O.fall m.kernel p r).kernel m)) None) (O.asks u))

  -- None where the step's condition fails
  abbrev pub machine_step : Step → MachineState → Option MachineState
  machine_step (Launch i) m = launched i m
  machine_step (Raise p s) m = raised p s m
  machine_step (Feed i) m = fed i m
  machine_step Eof m = Some (with_kernel (O.finish m.kernel) m)
  machine_step (Advance p k) m = stepped p k m
  machine_step (Do p) m = did p m
  machine_step (Break p) m = broke p m
  machine_step (Take p) m = took p m
  machine_step (Fall p) m = fell p m

  -- the pids at which a step raises a signal that they do not ignore
  abbrev pub raised_do : Option (Acted O.Kernel O.Answer) → List ℕ
  raised_do None = []
  raised_do (Some d) = listed d.raised

  abbrev pub raised_take : O.Kernel → ℕ → Option O.User → List ℕ
  raised_take k p None = []
  raised_take k p (Some u) = listed (O.take k p (O.room u)).raised

  abbrev pub raised_fall : O.Kernel → ℕ → Option O.Request → List ℕ
  raised_fall k p None = []
  raised_fall k p (Some r) = listed (O.fall k p r).raised

  abbrev pub raised_in : Step → MachineState → List ℕ
  raised_in (Raise p s) m = listed (cond (O.hit m.kernel p s) (Some p) None)
  raised_in (Do p) m = raised_do (option_and_then (λ r. O.serve m.kernel p r) (option_and_then O.asks (m.users p)))
  raised_in (Take p) m = raised_take m.kernel p (m.users p)
  raised_in (Fall p) m = raised_fall m.kernel p (option_and_then O.asks (m.users p))
  raised_in _ m = []

  -- and those at which steps do, from a machine on
  abbrev pub raised_by : List Step → Option MachineState → List ℕ
  raised_by [] m = []
  raised_by (s ∷ ss) None = []
  raised_by (s ∷ ss) (Some m) = raised_in s m ++ raised_by ss (machine_step s m)

  -- the first step stands first
  abbrev pub machine_steps : List Step → MachineState → Option MachineState
  machine_steps [] m = Some m
  machine_steps (s ∷ ss) m = option_and_then (machine_steps ss) (machine_step s m)

  abbrev pub play : List Step → Option MachineState
  play steps = machine_steps steps empty
