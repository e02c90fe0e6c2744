-- What a call comes to, before a signal is taken, in the words of the laws.
use Rattle.std.proofs.Common.{◌≡◌, ◌≢◌, ℕ, zero, suc, ◌+◌, ◌==◌, ◌&&◌, ◌||◌, cond, Bool, true, false, Option, Some, None, List, length, refl, sym, ap, ◌∙◌, subst, arith}
use Rattle.std.specs.Prelude.{ℤ, pos, int_lt, slice_index}
use Rattle.std.specs.Option.{option_map}
use Rattle.call_table.specs.Calls.{need_of}
use Rattle.call_table.specs.declared.request.Answer.{Answer}
use Rattle.call_table.specs.declared.request.Need.{Need}
use Rattle.call_table.specs.declared.request.Kind.{Kind}
use Rattle.call_table.specs.declared.request.Kind.TheVariants.{Plain, Fork, Return}
use Rattle.call_table.specs.declared.request.Request.{Request}
use Rattle.kernel_spec.specs.Kernel.{KernelState, Called, deliverable, given}
use Rattle.kernel_spec.specs.Calls.{call_result, call_row, fork_to, fork_result}
use Rattle.kernel_spec.specs.Answers.{fits_kind}
use Rattle.kernel_spec.specs.Others as others
use Rattle.kernel_spec.proofs.AnswerFacts.{answer_fits}
use Rattle.kernel_spec.proofs.CallFacts.{call_leaves}
use Rattle.user_spec.specs.Fits.{child_of, child_as}
use Rattle.user_spec.specs.Fits.{positive as user_positive}
use Rattle.deputy.specs.Calls as calls
use Rattle.deputy.specs.Rows.{is_fork, is_fork_kind}
use Rattle.protocol.specs.Deeds.{manner_of, born_of, positive}
use Rattle.protocol.specs.Home.{Acts}
use Rattle.protocol.proofs.Talk.{numbers_same, numbers_other}
use Rattle.proc_tree.specs.Tree.{next_pid_of}
use Rattle.node_machine.specs.Plan.{Plan}
use Rattle.node_machine.specs.Machine.{Policy, machine, serve_at, acted}
use Rattle.node_core.specs.Locals.{child_in}
use Rattle.node_core.proofs.Serving.{first_in}
use Rattle.node_core.proofs.Rows.{Birth}

some_is : {A : Type 0} (a b : A) → Some a ≡ Some b → a ≡ b
some_is a b h = cc

-- ---- the child of a call

row_4 : (k : KernelState) (p : ℕ) (args bytes : List ℕ) → call_row 4 k p args bytes ≡ Some (fork_result k p)
unfolding call_row
row_4 k p args bytes = refl

fork_child : (next : Option ℕ) (k : KernelState) (p : ℕ) → positive (fork_to next k p).answer.value ≡ child_of (fork_to next k p).answer
fork_child None k p = refl
fork_child (Some zero) k p = refl
fork_child (Some (suc c)) k p = refl

no_fork : (kind : Kind) (number : ℕ) (buffer : Option Need) (a : Answer) → (number == 4) ≡ false → fits_kind kind number buffer a ≡ true → None ≡ child_as kind a.value
no_fork Plain number buffer a e h = refl
no_fork Return number buffer a e h = refl
no_fork Fork number buffer a e h = let z : false ≡ true = ap (λ b. b && (int_lt (pos 0) a.value && (length a.bytes == 0))) (sym e) ∙ h in absurd cc

-- the child that a call's event tells is the one that its answer brings
pub born_is : (k : KernelState) (p : ℕ) (r : Request) (c : Called) → call_result k p r ≡ Some c → cond (r.number == 4) (positive c.answer.value) None ≡ child_of c.answer
born_is k p r c e = go (r.number == 4) refl
  where
    at_fork : r.number ≡ 4 → positive c.answer.value ≡ child_of c.answer
    at_fork n =
        let row : Some (fork_result k p) ≡ Some c = sym (row_4 k p r.args r.bytes) ∙ ap (λ m. call_row m k p r.args r.bytes) (sym n) ∙ e in
        let is : fork_result k p ≡ c = some_is (fork_result k p) c row in
        subst (λ (x : Called). positive x.answer.value ≡ child_of x.answer) is (fork_child (next_pid_of k.processes.tree p) k p)

    go : (b : Bool) → (r.number == 4) ≡ b → cond b (positive c.answer.value) None ≡ child_of c.answer
    go true n = at_fork (numbers_same r.number 4 n)
    go false n = no_fork c.answer.kind r.number (need_of r.number r.args 0) c.answer n (answer_fits k p r c 0 e)

birth_by : (kind : Kind) (value : ℤ) (n : ℕ) → ((c : ℕ) → others.child_after kind n ≡ Some c → value ≡ pos c) → Birth (is_fork_kind kind) (child_as kind value) n
birth_by Plain value n told = refl
birth_by Return value n told = refl
birth_by Fork value n told = let next : n + 1 ≡ suc n = omega arith in ap user_positive (told (n + 1) refl) ∙ (ap (λ (m : ℕ). user_positive (pos m)) next ∙ ap (λ (m : ℕ). let o : Option ℕ = Some m in o) (sym next))

-- and it is the next pid
pub birth_is : (k : KernelState) (p : ℕ) (r : Request) (c : Called) → call_result k p r ≡ Some c → Birth (is_fork (Some c.answer)) (child_in (Some c.answer)) (given k)
birth_is k p r c e = birth_by c.answer.kind c.answer.value (given k) (call_leaves k p r c e).told

-- ---- how a call is served

-- what the laws need of what a call came to
pub record Comes (policy : Policy) (plan : Plan) (k : KernelState) (p : ℕ) (r : Request) (first : calls.First) : Type 0 where
  pub acts : Acts (machine policy plan) (manner_of first.way) k p r (first_in policy plan first)
  pub born : born_of (manner_of first.way) (Some r.number) (calls.value_in first.answer) ≡ child_in first.answer
  pub birth : Birth (is_fork first.answer) (child_in first.answer) (given k)

module _ (policy : Policy) (plan : Plan) (k : KernelState) (p : ℕ) (r : Request) where
  abbrev Is : calls.First → Type 0
  Is first = Comes policy plan k p r first

  pub serve_is : (p == 0) ≡ false → (r.number == 0) ≡ false → serve_at k p r ≡ option_map acted (call_result k p r)
  serve_is low some = ap (λ b. cond (b || (r.number == 0)) None (option_map acted (call_result k p r))) low ∙ ap (λ b. cond b None (option_map acted (call_result k p r))) some

  fell_comes : (r.number == 0) ≡ true → Is (calls.fell k p (slice_index r.args 0))
  fell_comes e = record { acts = (numbers_same r.number 0 e, refl); born = refl; birth = refl }

  did_comes : (p == 0) ≡ false → (r.number == 0) ≡ false → (c : Called) → call_result k p r ≡ Some c → Is (calls.did c)
  did_comes low some c e = record {
    acts = (acted c, serve_is low some ∙ ap (option_map acted) e, numbers_other r.number 0 some, refl);
    born = born_is k p r c e;
    birth = birth_is k p r c e;
  }

  broke_comes : (p == 0) ≡ false → (r.number == 0) ≡ false → call_result k p r ≡ None → (s : ℕ) → deliverable k p ≡ Some s → Is (calls.broke k)
  broke_comes low some e s takes = record {
    acts = (s, takes, serve_is low some ∙ ap (option_map acted) e, numbers_other r.number 0 some, refl);
    born = refl;
    birth = refl;
  }

  -- what a call comes to where it is served
  pub comes : (p == 0) ≡ false → (first : calls.First) → calls.first_of k p r ≡ Some first → Is first
  comes low first is = go (r.number == 0) refl is
    where
      here : (f : calls.First) → Some f ≡ Some first → Is f → Is first
      here f e x = subst Is (some_is f first e) x

      broken : (o : Option ℕ) → deliverable k p ≡ o → (r.number == 0) ≡ false → call_result k p r ≡ None → calls.broken_by o k ≡ Some first → Is first
      broken None d some e i = absurd cc
      broken (Some s) d some e i = here (calls.broke k) i (broke_comes low some e s d)

      called : (o : Option Called) → call_result k p r ≡ o → (r.number == 0) ≡ false → calls.first_by o k p ≡ Some first → Is first
      called None e some i = broken (deliverable k p) refl some e i
      called (Some c) e some i = here (calls.did c) i (did_comes low some c e)

      go : (b : Bool) → (r.number == 0) ≡ b → cond b (Some (calls.fell k p (slice_index r.args 0))) (calls.first_by (call_result k p r) k p) ≡ Some first → Is first
      go true e i = here (calls.fell k p (slice_index r.args 0)) i (fell_comes e)
      go false e i = called (call_result k p r) refl e i

  -- and where it is to wait
  pub record Waits : Type 0 where
    pub some : r.number ≢ 0
    pub blocks : serve_at k p r ≡ None
    pub quiet : deliverable k p ≡ None

  pub waits : (p == 0) ≡ false → calls.first_of k p r ≡ None → Waits
  waits low is = go (r.number == 0) refl is
    where
      broken : (o : Option ℕ) → deliverable k p ≡ o → (r.number == 0) ≡ false → call_result k p r ≡ None → calls.broken_by o k ≡ None → Waits
      broken None d some e i = record { some = numbers_other r.number 0 some; blocks = serve_is low some ∙ ap (option_map acted) e; quiet = d }
      broken (Some s) d some e i = absurd cc

      called : (o : Option Called) → call_result k p r ≡ o → (r.number == 0) ≡ false → calls.first_by o k p ≡ None → Waits
      called None e some i = broken (deliverable k p) refl some e i
      called (Some c) e some i = absurd cc

      go : (b : Bool) → (r.number == 0) ≡ b → cond b (Some (calls.fell k p (slice_index r.args 0))) (calls.first_by (call_result k p r) k p) ≡ None → Waits
      go true e i = absurd cc
      go false e i = called (call_result k p r) refl e i
