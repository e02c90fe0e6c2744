-- What a run tells of the nodes that come back from it is the headline.
use Rattle.std.proofs.Common.{◌≡◌, ℕ, ◌≤◌, List, [], ◌∷◌, length, reverse, refl, sym, ap, ◌∙◌, subst, arith, Some, None}
use Rattle.std.specs.Prelude.{slice_get}
use Rattle.fs_memory.specs.Files.{named_files}
use Rattle.kernel_spec.specs.Kernel.{KernelState, given}
use Rattle.protocol.specs.Notes.{Local}
use Rattle.run_laws.specs.Machine.{MachineState}
use Rattle.run_laws.specs.Ends.{statuses_to}
use Rattle.node_machine.specs.Plan.{Plan}
use Rattle.node_machine.specs.Machine.{Policy, machine}
use Rattle.node_core.specs.declared.node.Node.{Node}
use Rattle.node_core.specs.Locals.{local}
use Rattle.cluster_run.specs.declared.over.OverWhy.{OverWhy}
use Rattle.cluster_run.specs.declared.over.OverWhy.TheVariants as why
use Rattle.cluster_run.specs.Over.{AreWoven, IsOver, Ran}
use Rattle.shell_text.specs.declared.run.Last.{Last}
use Rattle.shell_text.specs.declared.run.Last.TheVariants as last
use Rattle.shell_text.specs.declared.run.Run.{Run}
use Rattle.mosix_shell.specs.Headline.{replies_given, history, status_at, Tells, EndsAs, Headline}
use Rattle.mosix_shell.specs.Left.{HasHome, states_at, TellsEnd}
use Rattle.mosix_shell.specs.Stage.{last_of}
use Rattle.mosix_shell.proofs.Weaves.{are_woven, most_events}
use Rattle.mosix_shell.proofs.Replies.{replies_told}
use Rattle.mosix_shell.proofs.Statuses.{done_states, stuck_states, full_states}

module _ (policy : Policy) (plan : Plan) (room : ℕ) (nodes : List Node) (run : Run) where
  same_machine : (a b : MachineState (machine policy plan)) → Some a ≡ Some b → a ≡ b
  same_machine a b e = cc

  module _ (answer : OverWhy) (over : IsOver policy plan room answer nodes (reverse run.events)) (l : Last) (tells : TellsEnd nodes l run) where
    home_at : over.world.nodes 0 ≡ local policy plan tells.home
    home_at = over.nodes_are 0 tells.home tells.first

    machine_is : over.holds.replays.machine ≡ over.ending.machine
    machine_is = same_machine over.holds.replays.machine over.ending.machine (sym over.holds.replays.plays ∙ over.ending.plays)

    kernel_is : tells.home.deputies.kernel ≡ over.ending.machine.kernel
    kernel_is = ap (λ (x : Local (machine policy plan)). x.kernel) (sym home_at) ∙ (over.holds.replays.kernel ∙ ap (λ (m : MachineState (machine policy plan)). m.kernel) machine_is)

    replies_are : replies_given run.replies ≡ over.ending.machine.replies
    replies_are =
        ap replies_given tells.replies_are
        ∙ (replies_told (machine policy plan) run.events over.holds.lawful.script
        ∙ (over.holds.replays.replies ∙ ap (λ (m : MachineState (machine policy plan)). m.replies) machine_is))

    told_is : states_at l tells.home.deputies ≡ statuses_to (machine policy plan) (status_at policy plan l over.ending.machine) (given over.ending.machine.kernel) → Tells policy plan run over.ending.machine
    told_is states = record {
      statuses_are = tells.statuses_are ∙ (states ∙ ap (λ (x : Last). statuses_to (machine policy plan) (status_at policy plan x over.ending.machine) (given over.ending.machine.kernel)) (sym tells.last_is));
      terminal_is = tells.terminal_is ∙ ap (λ (k : KernelState). k.terminal) kernel_is;
      files_are = tells.files_are ∙ ap (λ (k : KernelState). named_files k.io.files) kernel_is;
      replies_are = replies_are;
    }

    so_far : AreWoven plan nodes (reverse run.events) → ((k : ℕ) (n : Node) → slice_get nodes k ≡ Some n → length n.journal.events ≤ room)
        → states_at l tells.home.deputies ≡ statuses_to (machine policy plan) (status_at policy plan l over.ending.machine) (given over.ending.machine.kernel)
        → EndsAs policy plan room l (history policy plan run) over.ending.machine over.world → Headline policy plan room run
    so_far woven most states ends = record {
      ordered = record { sorted = woven.sorted; most = most_events plan nodes room (reverse run.events) woven most };
      state = over.ending.machine;
      plays = over.ending.plays;
      tells = told_is states;
      lawful = over.holds.lawful;
      one_place = over.holds.one_place;
      grounded = over.holds.grounded;
      world = over.world;
      carried = over.carried;
      holds = over.holds;
      ending = over.ending;
      ended = subst (λ (x : Last). EndsAs policy plan room x (history policy plan run) over.ending.machine over.world) (sym tells.last_is) ends;
    }

  by_why : (answer : OverWhy) (l : Last) → last_of answer ≡ l → IsOver policy plan room answer nodes (reverse run.events) → TellsEnd nodes l run → AreWoven plan nodes (reverse run.events)
      → ((k : ℕ) (n : Node) → slice_get nodes k ≡ Some n → length n.journal.events ≤ room) → Headline policy plan room run
  by_why why.Done last.Done e over tells woven most =
      so_far why.Done over last.Done tells woven most (done_states policy plan tells.home (history policy plan run) over.world (home_at why.Done over last.Done tells) over.ending (kernel_is why.Done over last.Done tells) over.over.1) over.over
  by_why why.Stuck last.Stuck e over tells woven most =
      so_far why.Stuck over last.Stuck tells woven most (stuck_states policy plan tells.home (history policy plan run) over.world (home_at why.Stuck over last.Stuck tells) over.ending (kernel_is why.Stuck over last.Stuck tells) over.over.0) over.over
  by_why (why.Full n) (last.Full k) e over tells woven most =
      let same : n ≡ k = cc in
      so_far (why.Full n) over (last.Full k) tells woven most (full_states policy plan tells.home (history policy plan run) over.world (home_at (why.Full n) over (last.Full k) tells) over.ending (kernel_is (why.Full n) over (last.Full k) tells) k)
      (subst (λ (x : ℕ). EndsAs policy plan room (last.Full x) (history policy plan run) over.ending.machine over.world) same over.over)
  by_why why.Done last.Stuck e over tells woven most = absurd cc
  by_why why.Done (last.Full k) e over tells woven most = absurd cc
  by_why why.Stuck last.Done e over tells woven most = absurd cc
  by_why why.Stuck (last.Full k) e over tells woven most = absurd cc
  by_why (why.Full n) last.Done e over tells woven most = absurd cc
  by_why (why.Full n) last.Stuck e over tells woven most = absurd cc

  pub headline : (answer : OverWhy) (l : Last) → last_of answer ≡ l → Ran policy plan room answer nodes → TellsEnd nodes l run → ((k : ℕ) (n : Node) → slice_get nodes k ≡ Some n → length n.journal.events ≤ room)
      → Headline policy plan room run
  headline answer l e ran tells most =
      let woven = are_woven plan nodes run.events (tells.rising ran.journals) (tells.own ran.journals) in
      by_why answer l e (ran.over (reverse run.events) woven) tells woven most

-- ---- the nodes that come back from a run

first_is : (xs : List Node) → 1 ≤ length xs → ((k : ℕ) (n : Node) → slice_get xs k ≡ Some n → n.id ≡ k) → HasHome xs
first_is [] more ids = absurd (omega (arith, more))
first_is (x ∷ xs) more ids = record { home = x; first = refl; is_home = ids 0 x refl }

module _ (policy : Policy) (plan : Plan) (room : ℕ) (nodes : List Node) where
  pub has_home : (answer : OverWhy) (l : Last) → last_of answer ≡ l → Ran policy plan room answer nodes → 1 ≤ length nodes → HasHome nodes
  has_home answer l e ran more = first_is nodes more (λ k n at. (ran.places k n at).0)

  pub told_headline : (answer : OverWhy) (l : Last) (run : Run) → last_of answer ≡ l → Ran policy plan room answer nodes → TellsEnd nodes l run → Headline policy plan room run
  told_headline answer l run e ran tells = headline policy plan room nodes run answer l e ran tells (λ k n at. (ran.places k n at).1)
