-- An event brings one context more to its node at most.
use Rattle.std.proofs.Common.{◌≡◌, ◌≢◌, ◌⊎◌, inl, inr, ℕ, zero, suc, ◌+◌, ◌<◌, ◌≤◌, ◌==◌, cond, Bool, true, false, Option, Some, None, List, refl, sym, ap, ◌∙◌, subst, arith}
use Rattle.std.specs.Prelude.{ℤ}
use Rattle.std.specs.Option.{option_map}
use Rattle.call_table.specs.declared.process.End.{End}
use Rattle.remote_ctx.specs.declared.context.Context as code_context
use Rattle.remote_ctx.specs.Hosted.{lookup, counts, sum_to}
use Rattle.protocol.specs.Ops.{Ops, is_child, sum_below, one_if}
use Rattle.protocol.specs.Deeds.{Manner, Did, Broke, Fell, Paused, Deed, Run, Kill, Bid, Unsent, Other, Steps, Sent, Heed, Held, Served, Got, Poked, Begin, Keep, Missed, Again, Allows, Denies, Depart, Stay, Land, Told, Refused, Closed, Gossips, Strange}
use Rattle.protocol.specs.Notes.{Post, Turn, Slot, Local, Context}
use Rattle.protocol.specs.Does.{Base, Does, ServedBy, PokedBy, Gets, is_here}
use Rattle.protocol.proofs.Sums.{one_most, sum_below_le}
use Rattle.protocol.proofs.Talk.{numbers_same, numbers_other, same_numbers, other_numbers}
use Rattle.node_machine.specs.Plan.{Plan}
use Rattle.node_machine.specs.Machine.{Policy, machine}
use Rattle.node_core.specs.declared.node.Node.{Node}
use Rattle.node_core.specs.Locals.{local, slot_of, context_of}
use Rattle.node_core.specs.Suits.{contexts_below}
use Rattle.node_core.proofs.Rows.{by_same}
use Rattle.node_core.proofs.Using.{sum_words, sum_same}

-- where one term alone is greater, by one
sum_one_more : (p k : ℕ) (f g : ℕ → ℕ) → ((q : ℕ) → q ≢ p → f q ≤ g q) → f p ≤ g p + 1 → sum_below k f ≤ sum_below k g + 1
sum_one_more p zero f g h here = omega arith
sum_one_more p (suc k) f g h here = go (k == p) refl (sum_one_more p k f g h here)
  where
    go : (b : Bool) → (k == p) ≡ b → sum_below k f ≤ sum_below k g + 1 → sum_below k f + f k ≤ sum_below k g + g k + 1
    go true e less =
        let at : k ≡ p = numbers_same k p e in
        let most : f k ≤ g k + 1 = subst (λ (j : ℕ). f j ≤ g j + 1) (sym at) here in
        let rest = sum_below_le k f g (λ q low. h q (λ same. omega (arith, low, same, at))) in
        omega (arith, most, rest)
    go false e rest = let one = h k (numbers_other k p e) in omega (arith, rest, one)

module _ (O : Ops) where
  abbrev here : Local O → ℕ → ℕ
  here l q = one_if (is_here O (l.slots q).context)

  abbrev here_below : ℕ → Local O → ℕ
  here_below k l = sum_below k (here l)

  one_here : (l : Local O) (q : ℕ) → here l q ≤ 1
  one_here l q = one_most (is_here O (l.slots q).context)

  module _ (p : ℕ) (taken : Option (Post O)) (posted : List (Post O)) (change born : Slot O → Slot O) (old : Local O) (t : Turn O) (new : Local O) where
    -- one slot changes
    one : Base O p None taken posted change born old t new → (k : ℕ) → here_below k new ≤ here_below k old + 1
    one base k = sum_one_more p k (here new) (here old) (λ q ne. same q ne) (let a = one_here new p in omega (arith, a))
      where
        same : (q : ℕ) → q ≢ p → here new q ≤ here old q
        same q ne =
            let e : here new q ≡ here old q = ap (λ (s : Slot O). one_if (is_here O s.context)) (base.slots q ∙ ap (λ (b : Bool). cond b (change (old.slots q)) (old.slots q)) (other_numbers q p ne)) in
            omega (arith, e)

    -- two do, and at one of them a context was
    two : (child : Option ℕ) → Base O p child taken posted change born old t new → here old p ≡ 1 → (k : ℕ) → here_below k new ≤ here_below k old + 1
    two None base was k = one base k
    two (Some c) base was k = sum_one_more c k (here new) (here old) (λ q ne. by_same (λ b. (q == p) ≡ b → here new q ≤ here old q) q p (λ e f. at q e) (λ off f. other q ne off) refl) (let a = one_here new c in omega (arith, a))
      where
        at : (q : ℕ) → q ≡ p → here new q ≤ here old q
        at q e = let a = one_here new q in let b : here old q ≡ 1 = ap (here old) e ∙ was in omega (arith, a, b)

        other : (q : ℕ) → q ≢ c → q ≢ p → here new q ≤ here old q
        other q ne off =
            let e : here new q ≡ here old q = ap (λ (s : Slot O). one_if (is_here O s.context)) (base.slots q ∙ (ap (λ (b : Bool). cond b (change (old.slots q)) (cond (c == q) (born (old.slots q)) (old.slots q))) (other_numbers q p off)
            ∙ ap (λ (b : Bool). cond b (born (old.slots q)) (old.slots q)) (other_numbers c q (λ same. ne (sym same))))) in
            omega (arith, e)

  module _ (n : ℕ) (old : Local O) (t : Turn O) (new : Local O) where
    abbrev Grows : Type 0
    Grows = (k : ℕ) → here_below k new ≤ here_below k old + 1

    grows_served : (m : Manner) (p : ℕ) (number : Option ℕ) (value : Option ℤ) (child signal : Option ℕ) (ends : Option End) (more : Bool) (poked : List ℕ) → ServedBy O m n p number value child signal ends more poked old t new → Grows
    grows_served Did p number value child signal ends more poked (inl d) = one _ _ _ _ _ _ _ _ d.base
    grows_served Did p number value child signal ends more poked (inr d) = one _ _ _ _ _ _ _ _ d.base
    grows_served Broke p number value child signal ends more poked (inl d) = one _ _ _ _ _ _ _ _ d.base
    grows_served Broke p number value child signal ends more poked (inr d) = one _ _ _ _ _ _ _ _ d.base
    grows_served Fell p number value child signal ends more poked d = one _ _ _ _ _ _ _ _ d.base
    grows_served Paused p number value child signal ends more poked d = one _ _ _ _ _ _ _ _ d.base

    grows_poked : (used : Bool) (p : ℕ) → PokedBy O used n p old t new → Grows
    grows_poked true p d = one _ _ _ _ _ _ _ _ d.base
    grows_poked false p d = one _ _ _ _ _ _ _ _ d.base

    -- whatever the event is
    pub grows : (d : Deed) → Does O d n old t new → Grows
    grows (Run line i p) d = one _ _ _ _ _ _ _ _ d.base
    grows (Kill line p s poked) d = one _ _ _ _ _ _ _ _ d.base
    grows (Bid line p to) d = one _ _ _ _ _ _ _ _ d.base
    grows (Unsent line p never) d = one _ _ _ _ _ _ _ _ d.base
    grows (Other line input) d = one _ _ _ _ _ _ _ _ d.base
    grows (Steps p k) d = one _ _ _ _ _ _ _ _ d.base
    grows (Sent p k) d = one _ _ _ _ _ _ _ _ d.base
    grows (Heed p) d = one _ _ _ _ _ _ _ _ d.base
    grows (Held p k) d = one _ _ _ _ _ _ _ _ d.base
    grows (Served p manner number value child signal ends more poked) d = grows_served manner p number value child signal ends more poked d
    grows (Got p child ended kept) d = two _ _ _ _ _ _ _ _ child d.base (ap (λ (c : Option (Context O)). one_if (is_here O c)) d.was)
    grows (Poked p used) d = grows_poked used p d
    grows (Begin p to reason) d = one _ _ _ _ _ _ _ _ d.base
    grows (Keep p to line) d = one _ _ _ _ _ _ _ _ d.base
    grows (Missed p to line) d = one _ _ _ _ _ _ _ _ d.base
    grows (Again p to place line) d = one _ _ _ _ _ _ _ _ d.base
    grows (Allows p from need) d = one _ _ _ _ _ _ _ _ d.base
    grows (Denies p from need free) d = one _ _ _ _ _ _ _ _ d.base
    grows (Depart p to) d = one _ _ _ _ _ _ _ _ d.base
    grows (Stay p to need free) d = one _ _ _ _ _ _ _ _ d.base
    grows (Land p source) d = one _ _ _ _ _ _ _ _ d.base
    grows (Told p at source hops line poked) d = one _ _ _ _ _ _ _ _ d.base
    grows (Refused p to why line) (inl d) = one _ _ _ _ _ _ _ _ d.base
    grows (Refused p to why line) (inr d) = one _ _ _ _ _ _ _ _ d.base
    grows (Closed line) d = one _ _ _ _ _ _ _ _ d.base
    grows (Gossips heard other) d = one _ _ _ _ _ _ _ _ d.base
    grows (Strange p) d = one _ _ _ _ _ _ _ _ d.base

module _ (policy : Policy) (plan : Plan) where
  pub same_count : (o : Option code_context.Context) → counts (λ _. 1) o ≡ one_if (is_here (machine policy plan) (option_map (context_of policy plan) o))
  same_count None = refl
  same_count (Some c) = refl

  -- the contexts of a node, in the words of the laws
  pub contexts_here : (n : Node) (k : ℕ) → contexts_below k n.hosted ≡ here_below (machine policy plan) k (local policy plan n)
  contexts_here n k = sum_words k (λ q. counts (λ _. 1) (lookup q n.hosted)) ∙ sum_same k (λ q. counts (λ _. 1) (lookup q n.hosted)) (here (machine policy plan) (local policy plan n)) (λ q less. same_count (lookup q n.hosted))

  -- an event that a node makes brings one more at most
  pub one_more_context : (old new : Node) (d : Deed) (t : Turn (machine policy plan)) → Does (machine policy plan) d old.id (local policy plan old) t (local policy plan new) → (k : ℕ) → contexts_below k new.hosted ≤ contexts_below k old.hosted + 1
  one_more_context old new d t does k =
      let g = grows (machine policy plan) old.id (local policy plan old) t (local policy plan new) d does k in
      let a = contexts_here old k in
      let b = contexts_here new k in
      omega (arith, g, a, b)
