-- A call that home serves is one that the laws allow: what it comes to, the signal that is taken, the reply and the pokes.
use Rattle.std.proofs.Common.{◌≡◌, ℕ, ◌==◌, ◌&&◌, cond, not, Bool, true, false, Option, Some, None, List, [], ◌∷◌, ◌++◌, map, refl, sym, ap, ◌∙◌, subst}
use Rattle.std.specs.Prelude.{is_some, is_none}
use Rattle.std.specs.Option.{option_map}
use Rattle.call_table.specs.declared.request.Answer.{Answer}
use Rattle.kernel_spec.specs.Pids.{at_pid}
use Rattle.kernel_spec.specs.Kernel.{KernelState, deliverable, end_at, is_live}
use Rattle.deputy.specs.declared.asks.Asks.{Asks}
use Rattle.deputy.specs.declared.row.HeldCall.{HeldCall}
use Rattle.deputy.specs.Rows.{place_at, held_at}
use Rattle.deputy.specs.Calls as calls
use Rattle.protocol.specs.Deeds.{manner_of, born_of}
use Rattle.protocol.specs.Notes.{Believed, Post, letter, Reply, Poke, Slot}
use Rattle.protocol.specs.Notes as notes
use Rattle.protocol.specs.Home.{First, Last, last, done_of, value_of, pokes, both, other_than, unheld, Answers}
use Rattle.protocol.specs.Home as home
use Rattle.protocol.specs.Does as does
use Rattle.node_machine.specs.Plan.{Plan}
use Rattle.node_machine.specs.Machine.{Policy, machine}
use Rattle.node_core.specs.declared.node.Node.{Node}
use Rattle.node_core.specs.Letters.{posted_by}
use Rattle.node_core.specs.Locals.{local, slot_of, slot_with, called_of, believed_of, post_of, child_in}
use Rattle.node_core.specs.Locals as locals
use Rattle.node_core.proofs.Signals.{is_some_same, last_in, last_is, ArePokes, no_poke, one_poke, two_pokes, ordered_pokes}

value_same : (policy : Policy) (plan : Plan) (o : Option Answer) → calls.value_in o ≡ value_of (machine policy plan) o
value_same policy plan None = refl
value_same policy plan (Some a) = refl

module _ (policy : Policy) (plan : Plan) where
  -- what the call itself came to, as the laws have it
  abbrev pub first_in : calls.First → First (machine policy plan)
  first_in f = record { kernel = f.kernel; answer = f.answer; child = child_in f.answer; raised = f.raised }

  -- ---- who is poked

  pub unheld_same : (o : Option HeldCall) → is_none o ≡ unheld (machine policy plan) (option_map (called_of policy plan) o)
  unheld_same None = refl
  unheld_same (Some c) = refl

  to_poke_same : (old : Node) (k : KernelState) (p : ℕ) (o : Option ℕ) → calls.to_poke k old.deputies.rows p o ≡ home.to_poke (machine policy plan) k (slot_of policy plan old) (other_than p o)
  to_poke_same old k p None = refl
  to_poke_same old k p (Some q) = ap (λ b. cond b (Some q) None) (ap (λ b. not (q == p) && b) (ap (λ b. is_some (deliverable k q) && b) (unheld_same (held_at old.deputies.rows q)) ∙ ap (λ b. b && unheld (machine policy plan) (slot_of policy plan old q).call) (sym (is_some_same (deliverable k q))))) ∙ go (q == p) (notes.is_some (deliverable k q) && unheld (machine policy plan) (slot_of policy plan old q).call) refl
    where
      go : (same b : Bool) → b ≡ (notes.is_some (deliverable k q) && unheld (machine policy plan) (slot_of policy plan old q).call) → cond (not same && b) (Some q) None ≡ home.to_poke (machine policy plan) k (slot_of policy plan old) (cond same None (Some q))
      go true b e = refl
      go false b e = ap (λ x. cond x (Some q) None) e

  pub pokes_same : (old : Node) (k : KernelState) (p : ℕ) (a b : Option ℕ)
      → ArePokes (calls.pokes_of k old.deputies.rows p a b).first (calls.pokes_of k old.deputies.rows p a b).second (does.pokes_of (machine policy plan) p k (slot_of policy plan old) a b)
  pokes_same old k p a b =
      let e = to_poke_same old k p a in
      let f = to_poke_same old k p b in
      subst (λ (l : List ℕ). ArePokes (calls.pokes_of k old.deputies.rows p a b).first (calls.pokes_of k old.deputies.rows p a b).second l) (λ i. both (e i) (f i)) (ordered_pokes (calls.to_poke k old.deputies.rows p a) (calls.to_poke k old.deputies.rows p b))

  -- ---- what is posted

  abbrev believed_by : Node → ℕ → Believed
  believed_by old q = believed_of (at_pid old.deputies.rows q)

  poked_mail : (old : Node) (stamp : ℕ) (a b : Option ℕ) (list : List ℕ) → old.id ≡ 0 → ArePokes a b list
      → map (post_of policy plan) (map (posted_by old.id stamp) (calls.poke_mail old.deputies.rows a ++ calls.poke_mail old.deputies.rows b)) ≡ pokes (machine policy plan) stamp (believed_by old) list
  poked_mail old stamp None None [] at no_poke = refl
  poked_mail old stamp (Some q) None (_ ∷ []) at (one_poke _) = ap (λ n. letter (machine policy plan) n (place_at old.deputies.rows q) stamp (Poke q) ∷ []) at
  poked_mail old stamp (Some q) (Some r) (_ ∷ _ ∷ []) at (two_pokes _ _) = ap (λ n. letter (machine policy plan) n (place_at old.deputies.rows q) stamp (Poke q) ∷ letter (machine policy plan) n (place_at old.deputies.rows r) stamp (Poke r) ∷ []) at
  poked_mail old stamp None None (_ ∷ _) at x = elim x [ ]
  poked_mail old stamp None (Some r) list at x = elim x [ ]
  poked_mail old stamp (Some q) None [] at x = elim x [ ]
  poked_mail old stamp (Some q) None (_ ∷ (_ ∷ _)) at x = elim x [ ]
  poked_mail old stamp (Some q) (Some r) [] at x = elim x [ ]
  poked_mail old stamp (Some q) (Some r) (_ ∷ []) at x = elim x [ ]
  poked_mail old stamp (Some q) (Some r) (_ ∷ (_ ∷ (_ ∷ _))) at x = elim x [ ]

  done_same : (p : ℕ) (f : calls.First) (room : Bool) → locals.done_of policy plan (calls.done_of p f (calls.last_of f.kernel p room)) ≡ done_of (machine policy plan) p (first_in f) (last (machine policy plan) f.kernel p room)
  done_same p f room =
      let l = calls.last_of f.kernel p room in
      let more : is_some (deliverable l.kernel p) ≡ notes.is_some (deliverable l.kernel p) = sym (is_some_same (deliverable l.kernel p)) in
      let one : locals.done_of policy plan (calls.done_of p f l) ≡ done_of (machine policy plan) p (first_in f) (last_in policy plan f.kernel p room) =
      ap (λ (b : Bool). record { answer = f.answer; child = child_in f.answer; taken = l.taken; ended = not (is_live l.kernel p); more = b }) more in
      one ∙ ap (λ (x : Last (machine policy plan)). done_of (machine policy plan) p (first_in f) x) (sym (last_is policy plan f.kernel p room))

  -- the reply, and then the pokes
  pub mail_same : (old : Node) (stamp : ℕ) (asks : Asks) (f : calls.First) → old.id ≡ 0
      → (let l = calls.last_of f.kernel asks.pid asks.room in
      map (post_of policy plan) (map (posted_by old.id stamp) (calls.served_mail asks f l old.deputies.rows (calls.pokes_of l.kernel old.deputies.rows asks.pid f.raised l.raised))))
      ≡ letter (machine policy plan) old.id asks.from stamp (Reply asks.pid (done_of (machine policy plan) asks.pid (first_in f) (last (machine policy plan) f.kernel asks.pid asks.room)))
      ∷ pokes (machine policy plan) stamp (believed_by old) (does.pokes_of (machine policy plan) asks.pid (calls.last_of f.kernel asks.pid asks.room).kernel (slot_of policy plan old) f.raised (calls.last_of f.kernel asks.pid asks.room).raised)
  mail_same old stamp asks f at =
      let l = calls.last_of f.kernel asks.pid asks.room in
      let rest = poked_mail old stamp _ _ _ at (pokes_same old l.kernel asks.pid f.raised l.raised) in
      let d = done_same asks.pid f asks.room in
      λ i. letter (machine policy plan) old.id asks.from stamp (Reply asks.pid (d i)) ∷ rest i

  -- ---- what home tells

  pub answers_same : (asks : Asks) (f : calls.First) (k : KernelState) → born_of (manner_of f.way) asks.number (calls.value_in f.answer) ≡ child_in f.answer
      → (let l = calls.last_of f.kernel asks.pid asks.room in
      Answers (machine policy plan) asks.pid (manner_of f.way) (calls.value_in f.answer) (born_of (manner_of f.way) asks.number (calls.value_in f.answer)) (deliverable f.kernel asks.pid) (end_at l.kernel asks.pid) (is_some (deliverable l.kernel asks.pid)) asks.room (first_in f) k l.kernel)
  answers_same asks f k born =
      let l = calls.last_of f.kernel asks.pid asks.room in
      let is = sym (last_is policy plan f.kernel asks.pid asks.room) in
      record {
        kernel = ap (λ (x : Last (machine policy plan)). x.kernel) is;
        value_is = value_same policy plan f.answer;
        child_is = born;
        signal_is = ap (λ (x : Last (machine policy plan)). x.signal) is;
        end_is = refl;
        more_is = sym (is_some_same (deliverable l.kernel asks.pid));
      }
