-- The pages in use at a node, and how many processes are to come, as sums over all pids.
use Rattle.std.proofs.Common.{◌≡◌, ◌≢◌, ◌⊎◌, inl, inr, ℕ, zero, suc, ◌+◌, ◌<◌, ◌≤◌, ◌==◌, ◌&&◌, cond, Bool, true, false, Option, Some, None, List, [], ◌∷◌, length, refl, sym, ap, ◌∙◌, arith}
use Rattle.std.specs.Prelude.{max}
use Rattle.std.specs.List.{sum_by}
use Rattle.std.specs.Option.{option_map}
use Rattle.std.specs.Ordering.{nat_cmp, eq_by_cmp, is_lt, is_eq}
use Rattle.std.specs.Cmp.{unsigned_tied}
use Rattle.std.specs.declared.cmp.Ordering.{Ordering}
use Rattle.std.specs.declared.cmp.Ordering.TheVariants.{Less, Equal, Greater}
use Rattle.std.specs.FinMap as fin_map
use Rattle.std.specs.FinMap.{entries_sorted, get-entries, len-entries}
use Rattle.std.specs.FinMap.Entries.{find, is_sorted, below_all}
use Rattle.std.proofs.Math.Dec.{T}
use Rattle.std.proofs.lemmas.List.Sums.{sum_by-cons}
use Rattle.migrate_proto.specs.Reservations.{reserved_pages}
use Rattle.remote_ctx.specs.declared.context.Context as code_context
use Rattle.remote_ctx.specs.Hosted.{lookup, pages_of, pages_here, IsPast, sum_to, counts}
use Rattle.protocol.specs.Ops.{sum_below, one_if}
use Rattle.protocol.specs.Does.{InUse, Reserved, context_pages, reserve_pages, is_reserved, slot_pages}
use Rattle.protocol.proofs.Talk.{same_numbers, other_numbers}
use Rattle.node_machine.specs.Plan.{Plan}
use Rattle.node_machine.specs.Machine.{Policy, machine}
use Rattle.node_core.specs.declared.node.Node.{Node}
use Rattle.node_core.specs.Locals.{local, slot_of, context_of}
use Rattle.node_core.proofs.Rows.{by_same}

abbrev Entries : Type 0
Entries = List (ℕ × ℕ)

abbrev Kept : Type 0
Kept = fin_map.FinMap nat_cmp ℕ

-- ---- sums

pub sum_words : (n : ℕ) (f : ℕ → ℕ) → sum_to n f ≡ sum_below n f
sum_words zero f = refl
sum_words (suc n) f = ap (λ (k : ℕ). k + f n) (sum_words n f)

sum_both : (n : ℕ) (f g : ℕ → ℕ) → sum_below n (λ q. f q + g q) ≡ sum_below n f + sum_below n g
sum_both zero f g = omega arith
sum_both (suc n) f g = let h = sum_both n f g in omega (arith, h)

sum_zero : (n : ℕ) → sum_below n (λ q. 0) ≡ 0
sum_zero zero = refl
sum_zero (suc n) = let h = sum_zero n in omega (arith, h)

pub sum_same : (n : ℕ) (f g : ℕ → ℕ) → ((q : ℕ) → q < n → f q ≡ g q) → sum_below n f ≡ sum_below n g
sum_same zero f g h = refl
sum_same (suc n) f g h = let a = sum_same n f g (λ q lt. h q (omega arith)) in let b = h n (omega arith) in omega (arith, a, b)

same_or_less : (p n : ℕ) → p < suc n → (p ≡ n) ⊎ (p < n)
same_or_less p n lt = grind arith

-- one term more
sum_more : (n p : ℕ) (f g : ℕ → ℕ) → p < n → g p ≡ 0 → ((q : ℕ) → q ≢ p → f q ≡ g q) → sum_below n f ≡ f p + sum_below n g
sum_more zero p f g lt z h = absurd (omega arith)
sum_more (suc n) p f g lt z h = elim (same_or_less p n lt) as (λ _. sum_below (suc n) f ≡ f p + sum_below (suc n) g) [
  | inl e ↦ (let a = sum_same n f g (λ q less. h q (λ same. let s : p ≡ n = e in omega (arith, less, same, s))) in let b : f n ≡ f p = ap f (sym e) in let c : g n ≡ 0 = ap g (sym e) ∙ z in omega (arith, a, b, c))
  | inr less ↦ (let a = sum_more n p f g less z h in let b = h n (λ same. let l : p < n = less in omega (arith, l, same)) in omega (arith, a, b))
]

-- ---- entries of a map

-- what an entry counts, 0 where there is none
worth : (ℕ → ℕ) → Option ℕ → ℕ
worth f None = 0
worth f (Some v) = f v

tied : (q k : ℕ) → q ≡ k → eq_by_cmp nat_cmp q k ≡ true
tied q k e = unsigned_tied q k ∙ same_numbers q k e

untied : (q k : ℕ) → q ≢ k → eq_by_cmp nat_cmp q k ≡ false
untied q k off = unsigned_tied q k ∙ other_numbers q k off

left : (a b : Bool) → T (a && b) → T a
left true b h = tt
left false b h = absurd h

right : (a b : Bool) → T (a && b) → T b
right true b h = h
right false b h = absurd h

less_apart : (o : Ordering) → T (is_lt o) → is_eq o ≡ false
less_apart Less h = refl
less_apart Equal h = absurd h
less_apart Greater h = absurd h

-- a key below all of a list is not found in it
find_below : (k : ℕ) (es : Entries) → T (below_all nat_cmp k es) → find nat_cmp k es ≡ None
find_below k [] h = refl
find_below k (e ∷ es) h = ap (λ b. cond b (Some e.1) (find nat_cmp k es)) (less_apart (nat_cmp k e.0) (left (is_lt (nat_cmp k e.0)) (below_all nat_cmp k es) h)) ∙ find_below k es (right (is_lt (nat_cmp k e.0)) (below_all nat_cmp k es) h)

rest_none : (e : ℕ × ℕ) (es : Entries) (q : ℕ) → find nat_cmp q (e ∷ es) ≡ None → find nat_cmp q es ≡ None
rest_none e es q h = go (eq_by_cmp nat_cmp q e.0) h
  where
    go : (b : Bool) → cond b (Some e.1) (find nat_cmp q es) ≡ None → find nat_cmp q es ≡ None
    go true x = absurd cc
    go false x = x

less_or_not : (p n : ℕ) → (p < n) ⊎ (n ≤ p)
less_or_not p n = grind arith

found_first : (e : ℕ × ℕ) (es : Entries) → find nat_cmp e.0 (e ∷ es) ≡ Some e.1
found_first e es = ap (λ b. cond b (Some e.1) (find nat_cmp e.0 es)) (tied e.0 e.0 refl)

first_below : (e : ℕ × ℕ) (es : Entries) (n : ℕ) → ((q : ℕ) → n ≤ q → find nat_cmp q (e ∷ es) ≡ None) → e.0 < n
first_below e es n none = go (less_or_not e.0 n)
  where
    go : (e.0 < n) ⊎ (n ≤ e.0) → e.0 < n
    go (inl lt) = lt
    go (inr le) = let z : None ≡ Some e.1 = sym (none e.0 le) ∙ found_first e es in absurd cc

-- a sum over entries is one over all keys below a bound that none reaches
entry_sum : (f : ℕ → ℕ) (es : Entries) (n : ℕ) → T (is_sorted nat_cmp es) → ((q : ℕ) → n ≤ q → find nat_cmp q es ≡ None) → sum_by (λ (e : ℕ × ℕ). f e.1) es ≡ sum_below n (λ q. worth f (find nat_cmp q es))
unfolding worth
entry_sum f [] n s none = sym (sum_zero n)
entry_sum f (e ∷ es) n s none =
    let least = left (below_all nat_cmp e.0 es) (is_sorted nat_cmp es) s in
    let ih = entry_sum f es n (right (below_all nat_cmp e.0 es) (is_sorted nat_cmp es) s) (λ q le. rest_none e es q (none q le)) in
    let more = sum_more n e.0 (λ q. worth f (find nat_cmp q (e ∷ es))) (λ q. worth f (find nat_cmp q es)) (first_below e es n none) (ap (worth f) (find_below e.0 es least)) (λ q ne. ap (λ b. worth f (cond b (Some e.1) (find nat_cmp q es))) (untied q e.0 ne)) in
    let one : worth f (find nat_cmp e.0 (e ∷ es)) ≡ f e.1 = ap (worth f) (found_first e es) in
    sum_by-cons (λ (x : ℕ × ℕ). f x.1) e es ∙ (let goal : f e.1 + sum_by (λ (x : ℕ × ℕ). f x.1) es ≡ sum_below n (λ q. worth f (find nat_cmp q (e ∷ es))) = omega (arith, ih, more, one) in goal)

length_sum : (es : Entries) → length es ≡ sum_by (λ (e : ℕ × ℕ). 1) es
length_sum [] = refl
length_sum (e ∷ es) = let h = length_sum es in let s = sum_by-cons (λ (x : ℕ × ℕ). 1) e es in omega (arith, h, s)

-- ---- bounds that no pid reaches

pub past_contexts : (cs : List code_context.Context) → (n : ℕ) × ((q : ℕ) → n ≤ q → lookup q cs ≡ None)
past_contexts [] = (0, λ q le. refl)
past_contexts (c ∷ cs) = go (past_contexts cs)
  where
    go : (n : ℕ) × ((q : ℕ) → n ≤ q → lookup q cs ≡ None) → (n : ℕ) × ((q : ℕ) → n ≤ q → lookup q (c ∷ cs) ≡ None)
    go (n, none) = (max n (c.pid + 1), λ q le. ap (λ b. cond b (Some c) (lookup q cs)) (other_numbers q c.pid (λ e. omega (arith, e, le))) ∙ none q (omega (arith, le)))

past_entries : (es : Entries) → (n : ℕ) × ((q : ℕ) → n ≤ q → find nat_cmp q es ≡ None)
past_entries [] = (0, λ q le. refl)
past_entries (e ∷ es) = go (past_entries es)
  where
    go : (n : ℕ) × ((q : ℕ) → n ≤ q → find nat_cmp q es ≡ None) → (n : ℕ) × ((q : ℕ) → n ≤ q → find nat_cmp q (e ∷ es) ≡ None)
    go (n, none) = (max n (e.0 + 1), λ q le. ap (λ b. cond b (Some e.1) (find nat_cmp q es)) (untied q e.0 (λ same. omega (arith, same, le))) ∙ none q (omega (arith, le)))

pub past_kept : (m : Kept) → (n : ℕ) × ((q : ℕ) → n ≤ q → fin_map.get m q ≡ None)
past_kept m = go (past_entries (fin_map.entries m))
  where
    go : (n : ℕ) × ((q : ℕ) → n ≤ q → find nat_cmp q (fin_map.entries m) ≡ None) → (n : ℕ) × ((q : ℕ) → n ≤ q → fin_map.get m q ≡ None)
    go (n, none) = (n, λ q le. get-entries m q ∙ none q le)

-- ---- what a node keeps for processes that are to come

none_in : (m : Kept) (n : ℕ) → ((q : ℕ) → n ≤ q → fin_map.get m q ≡ None) → (q : ℕ) → n ≤ q → find nat_cmp q (fin_map.entries m) ≡ None
none_in m n none q le = sym (get-entries m q) ∙ none q le

module _ (policy : Policy) (plan : Plan) where
  worth_pages : (o : Option ℕ) → worth (λ v. v) o ≡ reserve_pages (machine policy plan) o
  unfolding worth
  worth_pages None = refl
  worth_pages (Some v) = refl

  worth_one : (o : Option ℕ) → worth (λ v. 1) o ≡ one_if (is_reserved (machine policy plan) o)
  unfolding worth
  worth_one None = refl
  worth_one (Some v) = refl

  kept_pages : (m : Kept) (n : ℕ) → ((q : ℕ) → n ≤ q → fin_map.get m q ≡ None) → reserved_pages m ≡ sum_below n (λ q. reserve_pages (machine policy plan) (fin_map.get m q))
  kept_pages m n none =
      entry_sum (λ v. v) (fin_map.entries m) n (entries_sorted m) (none_in m n none)
      ∙ sum_same n _ _ (λ q less. worth_pages (find nat_cmp q (fin_map.entries m)) ∙ ap (reserve_pages (machine policy plan)) (sym (get-entries m q)))

  pub kept_count : (m : Kept) (n : ℕ) → ((q : ℕ) → n ≤ q → fin_map.get m q ≡ None) → fin_map.len m ≡ sum_below n (λ q. one_if (is_reserved (machine policy plan) (fin_map.get m q)))
  kept_count m n none =
      len-entries m ∙ (length_sum (fin_map.entries m) ∙ (entry_sum (λ v. 1) (fin_map.entries m) n (entries_sorted m) (none_in m n none)
      ∙ sum_same n _ _ (λ q less. worth_one (find nat_cmp q (fin_map.entries m)) ∙ ap (λ (o : Option ℕ). one_if (is_reserved (machine policy plan) o)) (sym (get-entries m q)))))

  -- so many processes are to come
  pub reserved_here : (n : Node) → Reserved (machine policy plan) (local policy plan n) (fin_map.len n.reserve)
  reserved_here n = let p = past_kept n.reserve in record { bound = p.0; beyond = p.1; sum = kept_count n.reserve p.0 p.1 }

  pub reserved_is : (n : Node) (total : ℕ) → Reserved (machine policy plan) (local policy plan n) total → total ≡ fin_map.len n.reserve
  reserved_is n total r = r.sum ∙ sym (kept_count n.reserve r.bound r.beyond)

  -- ---- the pages in use

  same_pages : (o : Option code_context.Context) → counts pages_of o ≡ context_pages (machine policy plan) (option_map (context_of policy plan) o)
  same_pages None = refl
  same_pages (Some c) = refl

  no_pages : (c : Option code_context.Context) (r : Option ℕ) → c ≡ None → r ≡ None → context_pages (machine policy plan) (option_map (context_of policy plan) c) + reserve_pages (machine policy plan) r ≡ 0
  no_pages c r e f = (λ i. context_pages (machine policy plan) (option_map (context_of policy plan) (e i)) + reserve_pages (machine policy plan) (f i))

  abbrev held_at : Node → ℕ → ℕ
  held_at n q = context_pages (machine policy plan) (option_map (context_of policy plan) (lookup q n.hosted))

  abbrev kept_at : Node → ℕ → ℕ
  kept_at n q = reserve_pages (machine policy plan) (fin_map.get n.reserve q)

  abbrev AreCounted : Node → Type 0
  AreCounted n = (k : ℕ) → IsPast k n.hosted → pages_here n.hosted ≡ sum_to k (λ q. counts pages_of (lookup q n.hosted))

  held_sum : (n : Node) (k : ℕ) → AreCounted n → ((q : ℕ) → k ≤ q → lookup q n.hosted ≡ None) → pages_here n.hosted ≡ sum_below k (held_at n)
  held_sum n k pages none = pages k (record { none = none }) ∙ (sum_words k _ ∙ sum_same k _ _ (λ q less. same_pages (lookup q n.hosted)))

  in_use_below : (n : Node) (k : ℕ) → AreCounted n → ((q : ℕ) → k ≤ q → lookup q n.hosted ≡ None) → ((q : ℕ) → k ≤ q → fin_map.get n.reserve q ≡ None)
      → InUse (machine policy plan) (local policy plan n) (pages_here n.hosted + reserved_pages n.reserve)
  in_use_below n k pages none gone =
      let x = held_sum n k pages none in
      let y = kept_pages n.reserve k gone in
      let z = sum_both k (held_at n) (kept_at n) in
      record {
        bound = k;
        beyond = λ p le. no_pages (lookup p n.hosted) (fin_map.get n.reserve p) (none p le) (gone p le);
        sum = (let goal : pages_here n.hosted + reserved_pages n.reserve ≡ sum_below k (λ q. held_at n q + kept_at n q) = omega (arith, x, y, z) in goal);
      }

  -- those of the contexts, and those that are kept
  pub in_use : (n : Node) → AreCounted n → InUse (machine policy plan) (local policy plan n) (pages_here n.hosted + reserved_pages n.reserve)
  in_use n pages = go (past_contexts n.hosted) (past_kept n.reserve)
    where
      go : (a : ℕ) × ((q : ℕ) → a ≤ q → lookup q n.hosted ≡ None) → (b : ℕ) × ((q : ℕ) → b ≤ q → fin_map.get n.reserve q ≡ None) → InUse (machine policy plan) (local policy plan n) (pages_here n.hosted + reserved_pages n.reserve)
      go (a, here) (b, there) = in_use_below n (max a b) pages (λ q le. here q (omega (arith, le))) (λ q le. there q (omega (arith, le)))
