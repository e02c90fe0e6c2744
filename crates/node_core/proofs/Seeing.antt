-- What a node's policy sees, in the words of the laws.
use Rattle.std.proofs.Common.{◌≡◌, ◌≢◌, ◌⊎◌, inl, inr, ℕ, zero, suc, ◌+◌, ◌<◌, ◌≤◌, ◌==◌, ◌||◌, cond, Bool, true, false, Option, Some, None, List, [], ◌∷◌, ◌++◌, map, length, take, refl, sym, ap, ◌∙◌, subst, arith, IfSome, All, Contains}
use Rattle.std.specs.Prelude.{◌-◌, ◌^◌, nat_lt, unwrap_or, option_to_list, slice_index}
use Rattle.std.specs.Option.{option_map}
use Rattle.std.proofs.lemmas.Bool.Decides.{nat_tests}
use Rattle.std.proofs.lemmas.List.{append-nil, map-append, take_all}
use Rattle.std.proofs.lemmas.List.Elements.{All-nil, All-cons, All-push, All-contains}
use Rattle.call_table.specs.declared.process.Entry as code_entry
use Rattle.load_gossip.specs.Vectors as vectors
use Rattle.mem_usher.specs.declared.sight.Sight as sight_row
use Rattle.mem_usher.specs.declared.sight.Choice as choice_row
use Rattle.policy_box.specs.Policies.{IsInRange}
use Rattle.policy_box.specs.Policies as policies
use Rattle.remote_ctx.specs.declared.context.Context as code_context
use Rattle.remote_ctx.specs.declared.context.Stance.{Stance}
use Rattle.remote_ctx.specs.declared.context.Stance.TheVariants as stance
use Rattle.remote_ctx.specs.Hosted.{lookup, IsRising, has, is_running, runs_as, runs_at, pages_of}
use Rattle.remote_ctx.proofs.Rising.{place_in}
use Rattle.protocol.specs.Gossip.{Entry, Movable, Sight, Choice, later, newest, known_below, one_entry, listed_below}
use Rattle.protocol.specs.Does.{CanMove, movable_one, seen}
use Rattle.protocol.proofs.Talk.{numbers_same, numbers_other, same_numbers, other_numbers}
use Rattle.node_machine.specs.Plan.{Plan}
use Rattle.node_machine.specs.Machine.{Policy, machine}
use Rattle.node_machine.specs.Policy.{told_entry, told_movable, told_sight, told_choice}
use Rattle.node_core.specs.declared.node.Node.{Node}
use Rattle.node_core.specs.Locals.{local, slot_of, context_of, state_of, entry_of, places_of}
use Rattle.node_core.specs.Sight.{Answerer, AreMovable, Sees, Chooses, pages_at}
use Rattle.node_core.proofs.Using.{past_contexts}

-- ---- the newest entry of a node

abbrev places : Type 0
places = List (Option code_entry.Entry)

pub newest_same : (m : ℕ) (v : places) → newest m (places_of v) ≡ option_map entry_of (vectors.newest_of m v)
newest_same m [] = refl
newest_same m (None ∷ rest) = newest_same m rest
newest_same m (Some e ∷ rest) = go (e.node == m) (vectors.newest_of m rest) (newest_same m rest)
  where
    by_stamp : (f : code_entry.Entry) (b : Bool) → cond b (Some (entry_of f)) (Some (entry_of e)) ≡ option_map entry_of (cond b (Some f) (Some e))
    by_stamp f true = refl
    by_stamp f false = refl

    go : (b : Bool) (r : Option code_entry.Entry) → newest m (places_of rest) ≡ option_map entry_of r
        → cond b (later (entry_of e) (newest m (places_of rest))) (newest m (places_of rest)) ≡ option_map entry_of (vectors.newer (cond b (Some e) None) r)
    go false r ih = ih
    go true None ih = ap (later (entry_of e)) ih
    go true (Some f) ih = ap (later (entry_of e)) ih ∙ by_stamp f (nat_lt e.stamp f.stamp)

-- one node more was looked at
pub known_more : (m n : ℕ) (v : List (Option Entry)) (known more : List code_entry.Entry) (o : Option code_entry.Entry) → map entry_of known ≡ known_below m n v → option_map entry_of o ≡ cond (m == n) None (newest m v) → more ≡ known ++ option_to_list o
    → map entry_of more ≡ known_below (m + 1) n v
known_more m n v known more o before found is =
    let next : m + 1 ≡ suc m = omega arith in
    ap (map entry_of) is ∙ (map-append entry_of known (option_to_list o) ∙ ((λ i. before i ++ listed i) ∙ sym (ap (λ (k : ℕ). known_below k n v) next)))
  where
    told : (p : Option code_entry.Entry) → map entry_of (option_to_list p) ≡ one_entry (option_map entry_of p)
    told None = refl
    told (Some e) = refl

    kept : (b : Bool) → one_entry (cond b None (newest m v)) ≡ cond b [] (one_entry (newest m v))
    kept true = refl
    kept false = refl

    listed : map entry_of (option_to_list o) ≡ cond (m == n) [] (one_entry (newest m v))
    listed = told o ∙ (ap one_entry found ∙ kept (m == n))

pub all_more : {X : Type 0} (P : X → Type 0) (xs ys : List X) (o : Option X) → All P xs → IfSome o P → ys ≡ xs ++ option_to_list o → All P ys
all_more P xs ys None all one is = subst (λ l. All P l) (sym (is ∙ append-nil xs)) all
all_more P xs ys (Some x) all one is = subst (λ l. All P l) (sym is) (All-push P xs x all one)

-- ---- numbers that rise, told from below

abbrev pub under : ℕ → List ℕ → List ℕ
under k [] = []
under k (x ∷ xs) = cond (nat_lt x k) (x ∷ under k xs) (under k xs)

abbrev pub Above : ℕ → List ℕ → Type 0
Above x xs = (q : ℕ) → has q xs ≡ true → x < q

abbrev pub Rises : List ℕ → Type 0
Rises [] = Unit {0}
Rises (x ∷ xs) = Above x xs × Rises xs

has_head : (x : ℕ) (xs : List ℕ) → has x (x ∷ xs) ≡ true
has_head x xs = ap (λ b. b || has x xs) (same_numbers x x refl)

has_rest : (q x : ℕ) (xs : List ℕ) → has q xs ≡ true → has q (x ∷ xs) ≡ true
has_rest q x xs h = go (q == x) (has q xs) h
  where
    go : (a b : Bool) → b ≡ true → (a || b) ≡ true
    go true b e = refl
    go false b e = e

rises_of : (xs : List ℕ) → IsRising xs → Rises xs
rises_of [] rising = tt
rises_of (x ∷ xs) rising = (above, rises_of xs (λ i j less within. rising (suc i) (suc j) (omega (arith, less)) (omega (arith, within))))
  where
    above : Above x xs
    above q h = let at = place_in xs q h in let within = at.1 in subst (λ (n : ℕ). x < n) at.2 (rising 0 (suc at.0) (omega arith) (omega (arith, within)))

none_under : (k : ℕ) (xs : List ℕ) → ((q : ℕ) → has q xs ≡ true → k ≤ q) → under k xs ≡ []
none_under k [] h = refl
none_under k (x ∷ xs) h =
    let low : k ≤ x = h x (has_head x xs) in
    let e : nat_lt x k ≡ false = grind (arith, nat_tests, low) in
    ap (λ b. cond b (x ∷ under k xs) (under k xs)) e ∙ none_under k xs (λ q m. h q (has_rest q x xs m))

has_none : (k : ℕ) (xs : List ℕ) → ((q : ℕ) → has q xs ≡ true → k < q) → has k xs ≡ false
has_none k xs h = go (has k xs) refl
  where
    go : (b : Bool) → has k xs ≡ b → has k xs ≡ false
    go true e = let less = h k e in absurd (omega (arith, less))
    go false e = e

trichotomy : (a b : ℕ) → (a < b) ⊎ ((a ≡ b) ⊎ (b < a))
trichotomy a b = go (nat_lt a b) (nat_lt b a) refl refl
  where
    go : (x y : Bool) → nat_lt a b ≡ x → nat_lt b a ≡ y → (a < b) ⊎ ((a ≡ b) ⊎ (b < a))
    go true y e f = inl (grind (arith, nat_tests, e))
    go false true e f = inr (inr (grind (arith, nat_tests, f)))
    go false false e f = inr (inl (grind (arith, nat_tests, e, f)))

abbrev IsMore : ℕ → List ℕ → List ℕ → Bool → Type 0
IsMore k ys zs b = ys ≡ zs ++ cond b (k ∷ []) []

-- one number more
under_more : (k : ℕ) (xs : List ℕ) → Rises xs → under (suc k) xs ≡ under k xs ++ cond (has k xs) (k ∷ []) []
under_more k [] r = refl
under_more k (x ∷ xs) (above, r) = by_place (under_more k xs r) (trichotomy x k)
  where
    lists : (a b c : Bool) → nat_lt x (suc k) ≡ a → nat_lt x k ≡ b → (k == x) ≡ c → (P : List ℕ → List ℕ → Bool → Type 0) → P (cond a (x ∷ under (suc k) xs) (under (suc k) xs)) (cond b (x ∷ under k xs) (under k xs)) (c || has k xs) → P (under (suc k) (x ∷ xs)) (under k (x ∷ xs)) (has k (x ∷ xs))
    lists a b c ea eb ec P p = subst (λ (t : Bool). P (cond t (x ∷ under (suc k) xs) (under (suc k) xs)) (under k (x ∷ xs)) (has k (x ∷ xs))) (sym ea)
        (subst (λ (t : Bool). P (cond a (x ∷ under (suc k) xs) (under (suc k) xs)) (cond t (x ∷ under k xs) (under k xs)) (has k (x ∷ xs))) (sym eb)
        (subst (λ (t : Bool). P (cond a (x ∷ under (suc k) xs) (under (suc k) xs)) (cond b (x ∷ under k xs) (under k xs)) (t || has k xs)) (sym ec) p))

    by_place : under (suc k) xs ≡ under k xs ++ cond (has k xs) (k ∷ []) [] → (x < k) ⊎ ((x ≡ k) ⊎ (k < x)) → IsMore k (under (suc k) (x ∷ xs)) (under k (x ∷ xs)) (has k (x ∷ xs))
    by_place ih (inl less) = lists true true false (grind (arith, nat_tests, less)) (grind (arith, nat_tests, less)) (other_numbers k x (λ e. omega (arith, less, e))) (IsMore k) (ap (λ ys. x ∷ ys) ih)
    by_place ih (inr (inl same)) =
        let none : under (suc k) xs ≡ [] = none_under (suc k) xs (λ q h. let l = above q h in omega (arith, l, same)) in
        let none2 : under k xs ≡ [] = none_under k xs (λ q h. let l = above q h in omega (arith, l, same)) in
        lists true false true (grind (arith, nat_tests, same)) (grind (arith, nat_tests, same)) (same_numbers k x (sym same)) (IsMore k) ((λ i. same i ∷ none i) ∙ ap (λ ys. ys ++ k ∷ []) (sym none2))
    by_place ih (inr (inr more)) =
        let none : under (suc k) xs ≡ [] = none_under (suc k) xs (λ q h. let l = above q h in omega (arith, l, more)) in
        let none2 : under k xs ≡ [] = none_under k xs (λ q h. let l = above q h in omega (arith, l, more)) in
        let lacks : has k xs ≡ false = has_none k xs (λ q h. let l = above q h in omega (arith, l, more)) in
        lists false false false (grind (arith, nat_tests, more)) (grind (arith, nat_tests, more)) (other_numbers k x (λ e. omega (arith, more, e))) (IsMore k) (none ∙ sym (λ i. none2 i ++ cond (lacks i) (k ∷ []) []))

all_under : (k : ℕ) (xs : List ℕ) → ((q : ℕ) → has q xs ≡ true → q < k) → under k xs ≡ xs
all_under k [] h = refl
all_under k (x ∷ xs) h =
    let low : x < k = h x (has_head x xs) in
    let e : nat_lt x k ≡ true = grind (arith, nat_tests, low) in
    ap (λ b. cond b (x ∷ under k xs) (under k xs)) e ∙ ap (λ ys. x ∷ ys) (all_under k xs (λ q m. h q (has_rest q x xs m)))

under_listed : (f : ℕ → Movable) (xs : List ℕ) → Rises xs → (k : ℕ) → map f (under k xs) ≡ listed_below k (λ q. cond (has q xs) (f q ∷ []) [])
under_listed f xs r zero = ap (map f) (none_under 0 xs (λ q h. omega arith))
under_listed f xs r (suc k) = ap (map f) (under_more k xs r) ∙ (map-append f (under k xs) (cond (has k xs) (k ∷ []) []) ∙ (λ i. under_listed f xs r k i ++ one (has k xs) i))
  where
    one : (b : Bool) → map f (cond b (k ∷ []) []) ≡ cond b (f k ∷ []) []
    one true = refl
    one false = refl

listed_same : (a : ℕ) (f g : ℕ → List Movable) → ((p : ℕ) → f p ≡ g p) → listed_below a f ≡ listed_below a g
listed_same zero f g e = refl
listed_same (suc a) f g e = λ i. (listed_same a f g e) i ++ (e a) i

-- ---- those that may move

abbrev pub movable_of : List code_context.Context → ℕ → Movable
movable_of h q = record { pid = q; pages = pages_at h q }

abbrev pub law_movable : ℕ × ℕ → Movable
law_movable m = record { pid = m.0; pages = m.1 }

abbrev pub law_choice : choice_row.Choice → Choice
law_choice c = record { pid = c.pid; to = c.to }

each_movable : (h : List code_context.Context) (pids : List ℕ) → map law_movable (map (λ (q : ℕ). (q, pages_at h q)) pids) ≡ map (movable_of h) pids
each_movable h [] = refl
each_movable h (q ∷ qs) = ap (λ ys. record { pid = q; pages = pages_at h q } ∷ ys) (each_movable h qs)

told_back : (ms : List (ℕ × ℕ)) → map told_movable (map law_movable ms) ≡ ms
told_back [] = refl
told_back (m ∷ ms) = ap (λ ys. m ∷ ys) (told_back ms)

entries_back : (es : List code_entry.Entry) → map told_entry (map entry_of es) ≡ es
entries_back [] = refl
entries_back (e ∷ es) = ap (λ ys. e ∷ ys) (entries_back es)

pub choice_back : (o : Option choice_row.Choice) → option_map told_choice (option_map law_choice o) ≡ o
choice_back None = refl
choice_back (Some c) = refl

module _ (policy : Policy) (plan : Plan) where
  one_movable : (q : ℕ) (h : List code_context.Context) (o : Option code_context.Context) → lookup q h ≡ o → cond (runs_as o) (record { pid = q; pages = unwrap_or (option_map pages_of o) 0 } ∷ []) [] ≡ movable_one (machine policy plan) q (option_map (context_of policy plan) o)
  one_movable q h None e = refl
  one_movable q h (Some c) e = go c.state refl
    where
      go : (s : Stance) → c.state ≡ s → cond (is_running c.state) (record { pid = q; pages = pages_of c } ∷ []) [] ≡ movable_one (machine policy plan) q (Some (context_of policy plan c))
      go stance.Running f = (λ i. cond (is_running (f i)) (record { pid = q; pages = pages_of c } ∷ []) []) ∙ sym (λ i. Rattle.protocol.specs.Does.movable_as (machine policy plan) q (Rattle.node_core.specs.Locals.body_of policy plan c) (state_of (f i)))
      go (stance.Waiting pause kept) f = (λ i. cond (is_running (f i)) (record { pid = q; pages = pages_of c } ∷ []) []) ∙ sym (λ i. Rattle.protocol.specs.Does.movable_as (machine policy plan) q (Rattle.node_core.specs.Locals.body_of policy plan c) (state_of (f i)))
      go (stance.Asking to line) f = (λ i. cond (is_running (f i)) (record { pid = q; pages = pages_of c } ∷ []) []) ∙ sym (λ i. Rattle.protocol.specs.Does.movable_as (machine policy plan) q (Rattle.node_core.specs.Locals.body_of policy plan c) (state_of (f i)))

  movable_at : (n : Node) (movable : List (ℕ × ℕ)) → (m : AreMovable n.hosted movable) → (b : ℕ) → ((q : ℕ) → b ≤ q → lookup q n.hosted ≡ None) → map law_movable movable ≡ listed_below b (λ q. movable_one (machine policy plan) q (slot_of policy plan n q).context)
  movable_at n movable m b past =
      ap (map law_movable) m.each ∙ (each_movable n.hosted m.pids ∙ (sym (ap (map (movable_of n.hosted)) (all_under b m.pids low)) ∙ (under_listed (movable_of n.hosted) m.pids (rises_of m.pids m.rising) b ∙ listed_same b _ _ same)))
    where
      low : (q : ℕ) → has q m.pids ≡ true → q < b
      low q h = go (nat_lt q b) refl
        where
          go : (t : Bool) → nat_lt q b ≡ t → q < b
          go true e = grind (arith, nat_tests, e)
          go false e = let far : b ≤ q = grind (arith, nat_tests, e) in let z : true ≡ false = sym h ∙ (m.run q ∙ ap runs_as (past q far)) in absurd cc

      same : (q : ℕ) → cond (has q m.pids) (movable_of n.hosted q ∷ []) [] ≡ movable_one (machine policy plan) q (slot_of policy plan n q).context
      same q = ap (λ t. cond t (record { pid = q; pages = pages_at n.hosted q } ∷ []) []) (m.run q) ∙ one_movable q n.hosted (lookup q n.hosted) refl

  pub can_move : (n : Node) (movable : List (ℕ × ℕ)) → AreMovable n.hosted movable → CanMove (machine policy plan) (local policy plan n) (map law_movable movable)
  can_move n movable m =
      let past = past_contexts n.hosted in
      record { bound = past.0; beyond = λ p far. ap (option_map (context_of policy plan)) (past.1 p far); is = movable_at n movable m past.0 past.1 }

  -- ---- the whole sight

  pub sight_is : (n : Node) (own : code_entry.Entry) (sight : sight_row.Sight) → n.shape.nodes ≡ plan.nodes → n.shape.cap ≡ plan.cap → (s : Sees own n sight)
      → told_sight (seen (machine policy plan) n.id (entry_of own) (places_of n.talk.vector) (map law_movable sight.movable)) ≡ sight
  sight_is n own sight nodes cap s =
      let known : map told_entry (known_below plan.nodes n.id (places_of n.talk.vector)) ≡ sight.known = ap (map told_entry) (ap (λ (k : ℕ). known_below k n.id (places_of n.talk.vector)) (sym nodes) ∙ sym s.known) ∙ entries_back sight.known in
      let caps : plan.cap ≡ sight.cap = sym cap ∙ sym s.cap in
      let nodes_are = sym s.node in
      let free_is = sym s.free in
      let load_is = sym s.load in
      λ i. record { node = nodes_are i; cap = caps i; free = free_is i; load = load_is i; known = known i; movable = told_back sight.movable i }

-- ---- what a policy chooses

all_here : (all : List ℕ) (g : ℕ → ℕ) (pids : List ℕ) → ((q : ℕ) → has q pids ≡ true → has q all ≡ true) → All (λ (m : ℕ × ℕ). has m.0 all ≡ true) (map (λ (q : ℕ). (q, g q)) pids)
all_here all g [] sub = All-nil (λ (m : ℕ × ℕ). has m.0 all ≡ true)
all_here all g (x ∷ xs) sub = All-cons (λ (m : ℕ × ℕ). has m.0 all ≡ true) (x, g x) (map (λ (q : ℕ). (q, g q)) xs) (sub x (has_head x xs)) (all_here all g xs (λ q h. sub q (has_rest q x xs h)))

-- what may move runs here
pub movable_runs : (contexts : List code_context.Context) (movable : List (ℕ × ℕ)) → AreMovable contexts movable → (pid pages : ℕ) → Contains movable (pid, pages) → runs_at pid contexts ≡ true
movable_runs contexts movable m pid pages c =
    let all : All (λ (x : ℕ × ℕ). has x.0 m.pids ≡ true) movable = subst (λ (l : List (ℕ × ℕ)). All (λ (x : ℕ × ℕ). has x.0 m.pids ≡ true) l) (sym m.each) (all_here m.pids (pages_at contexts) m.pids (λ q h. h)) in
    sym (m.run pid) ∙ All-contains (λ (x : ℕ × ℕ). has x.0 m.pids ≡ true) movable (pid, pages) all c

-- the choice is a process that runs here and another node
pub chosen : (answers : Answerer) (own : code_entry.Entry) (n : Node) (sight : sight_row.Sight) (choice : Option choice_row.Choice) → Sees own n sight → answers sight choice → (IsInRange sight → IfSome choice (policies.Fits sight)) → Chooses answers own n choice
chosen answers own n sight choice sees answer fits = record { sight = sight; sees = sees; answer = answer; runs = runs choice (fits sees.range); away = away choice (fits sees.range) }
  where
    runs : (o : Option choice_row.Choice) → IfSome o (policies.Fits sight) → IfSome o (λ c. runs_at c.pid n.hosted ≡ true)
    runs None f = tt
    runs (Some c) f = movable_runs n.hosted sight.movable sees.movable c.pid f.pages f.movable

    away : (o : Option choice_row.Choice) → IfSome o (policies.Fits sight) → IfSome o (λ c. c.to ≢ n.id)
    away None f = tt
    away (Some c) f = λ same. f.other (same ∙ sym sees.node)

-- all pids that run were gone over
pub all_movable : (contexts : List code_context.Context) (pids : List ℕ) (n : ℕ) (movable : List (ℕ × ℕ)) → IsRising pids → ((q : ℕ) → has q pids ≡ runs_at q contexts) → length pids ≤ n → movable ≡ map (λ (q : ℕ). (q, pages_at contexts q)) (take n pids) → AreMovable contexts movable
all_movable contexts pids n movable rising run all each = record { pids = pids; rising = rising; run = run; each = each ∙ ap (map (λ (q : ℕ). (q, pages_at contexts q))) (take_all n pids all) }
