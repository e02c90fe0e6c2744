-- What the machine's calls, faults and signals leave.
use Rattle.std.proofs.Common.{◌≡◌, ◌≢◌, ◌⊎◌, inl, inr, ℕ, zero, suc, ◌+◌, ◌≤◌, ◌<◌, ◌==◌, ◌||◌, nat_le, nat_lt, List, [], ◌∷◌, length, slice_get, refl, ap, ◌∙◌, sym, subst, arith, cond, Option, Some, None, Bool, true, false, is_some, ℤ, pos}
use Rattle.std.specs.Option.{option_map}
use Rattle.std.specs.Prelude.{count_by}
use Rattle.std.proofs.lemmas.Bool.Decides.{nat_tests}
use Rattle.std.proofs.lemmas.List.Sums.{sum_by-cons}
use Rattle.call_table.specs.declared.request.Request.{Request}
use Rattle.call_table.specs.declared.request.Answer.{Answer}
use Rattle.call_table.specs.declared.request.Kind.{Kind}
use Rattle.call_table.specs.declared.request.Kind.TheVariants.{Plain, Fork, Return}
use Rattle.call_table.specs.declared.request.Taken.{Taken}
use Rattle.call_table.specs.declared.process.End.{End}
use Rattle.call_table.specs.declared.process.End.TheVariants as ends
use Rattle.proc_tree.specs.declared.process.Process.{Process}
use Rattle.proc_tree.specs.Processes.{is_live as lives}
use Rattle.proc_tree.specs.Tree.{live_at}
use Rattle.kernel_spec.specs.Kernel.{KernelState, Called, AfterTake, given, is_live, has_room, with_process, with_end, deliverable, take_result, raised_by_end}
use Rattle.kernel_spec.specs.Calls.{call_result}
use Rattle.kernel_spec.specs.Others.{is_at, child_of, counted as counted_by, live_count, LeavesOthers, LeavesProcesses}
use Rattle.kernel_spec.proofs.CallFacts.{call_leaves, end_leaves}
use Rattle.kernel_spec.proofs.KernelFacts.{take_leaves, few_launch as few_there, given_launch, live_launch as live_there, live_launched}
use Rattle.protocol.specs.Deeds.{positive}
use Rattle.protocol.specs.Ops.{Acted, Took, counted, is_child, sum_below, one_if}
use Rattle.node_machine.specs.Machine.{acted, serve_at, took_as, taken_at, launched}
use Rattle.node_machine.proofs.Fitting.{child_is}

-- ---- the same words twice

child_at : (o : Option ℕ) (q : ℕ) → is_at o q ≡ is_child o q
child_at None q = refl
child_at (Some c) q = refl

count_at : (o : Option ℕ) (n : ℕ) → counted_by o n ≡ counted o n
count_at None n = refl
count_at (Some c) n = refl

-- ---- launches

pub launch_is : (k l : KernelState) → launched k ≡ Some l → (has_room k ≡ true) × (with_process k ≡ l)
launch_is k l e = go (has_room k) refl e
  where
    go : (b : Bool) → has_room k ≡ b → cond b (Some (with_process k)) None ≡ Some l → (has_room k ≡ true) × (with_process k ≡ l)
    go true f h = (f, cc)
    go false f h = absurd cc

pub count_launch : (k l : KernelState) → launched k ≡ Some l → given l ≡ given k + 1
count_launch k l e = ap given (sym (launch_is k l e).1) ∙ given_launch k

pub live_launch : (k l : KernelState) (q : ℕ) → launched k ≡ Some l → q ≢ given k + 1 → is_live l q ≡ is_live k q
live_launch k l q e ne = ap (λ (x : KernelState). is_live x q) (sym (launch_is k l e).1) ∙ live_there k q ne

pub live_new : (k l : KernelState) → launched k ≡ Some l → is_live l (given k + 1) ≡ true
live_new k l e = ap (λ (x : KernelState). is_live x (given k + 1)) (sym (launch_is k l e).1) ∙ live_launched k

-- ---- how many live

sum_first : (n : ℕ) (f : ℕ → ℕ) → sum_below (suc n) f ≡ f 0 + sum_below n (λ i. f (suc i))
sum_first zero f = omega arith
sum_first (suc n) f = let e = sum_first n f in omega (arith, e)

length_one : {A : Type 0} (x : A) (xs : List A) → length (x ∷ xs) ≡ suc (length xs)
length_one x xs = grind (arith)

live_sum : (xs : List Process) → sum_below (length xs) (λ i. one_if (live_at xs (suc i))) ≡ count_by lives xs
live_sum [] = refl
live_sum (x ∷ xs) =
    let f = λ (i : ℕ). one_if (live_at (x ∷ xs) (suc i)) in
    let n : length (x ∷ xs) ≡ suc (length xs) = length_one x xs in
    ap (λ (k : ℕ). sum_below k f) n ∙ (sum_first (length xs) f ∙ ((λ i. (first (lives x)) i + (live_sum xs) i) ∙ sym (sum_by-cons (λ (o : Process). cond (lives o) 1 0) x xs)))
  where
    first : (b : Bool) → one_if b ≡ cond b 1 0
    first true = refl
    first false = refl

all_live : (k : KernelState) → sum_below (given k + 1) (λ q. one_if (is_live k q)) ≡ live_count k
all_live k =
    let xs = k.processes.tree in
    let e : length xs + 1 ≡ suc (length xs) = omega arith in
    let a : sum_below (length xs + 1) (λ q. one_if (live_at xs q)) ≡ sum_below (suc (length xs)) (λ q. one_if (live_at xs q)) = ap (λ (n : ℕ). sum_below n (λ q. one_if (live_at xs q))) e in
    let b : sum_below (suc (length xs)) (λ q. one_if (live_at xs q)) ≡ 0 + sum_below (length xs) (λ i. one_if (live_at xs (suc i))) = sum_first (length xs) (λ q. one_if (live_at xs q)) in
    let c = live_sum xs in
    omega (arith, a, b, c)

few : (k : KernelState) → live_count k < 64 → sum_below (given k + 1) (λ q. one_if (is_live k q)) < 64
few k h = subst (λ (n : ℕ). n < 64) (sym (all_live k)) h

pub few_launch : (k l : KernelState) → launched k ≡ Some l → sum_below (given k + 1) (λ q. one_if (is_live k q)) < 64
few_launch k l e = few k (few_there k (launch_is k l e).0)

-- ---- calls

-- a call that was served
pub record Served (k : KernelState) (p : ℕ) (r : Request) (d : Acted KernelState Answer) : Type 0 where
  pub called : Called
  pub is : call_result k p r ≡ Some called
  pub acts : acted called ≡ d
  pub number : r.number ≢ 0
  pub leaves : LeavesProcesses k p called
  pub child : child_of k called ≡ d.child

mapped : (o : Option Called) (d : Acted KernelState Answer) → option_map acted o ≡ Some d → (c : Called) × (o ≡ Some c) × (acted c ≡ d)
mapped None d e = absurd cc
mapped (Some c) d e = (c, refl, cc)

or_parts : (a b : Bool) → (a || b) ≡ false → (a ≡ false) × (b ≡ false)
or_parts true b e = absurd cc
or_parts false b e = (refl, e)

not_zero : (n : ℕ) → (n == 0) ≡ false → n ≢ 0
not_zero n e f = let z : true ≡ false = ap (λ (m : ℕ). m == 0) (sym f) ∙ e in cc

pub served : (k : KernelState) (p : ℕ) (r : Request) (d : Acted KernelState Answer) → serve_at k p r ≡ Some d → Served k p r d
served k p r d e = go ((p == 0) || (r.number == 0)) refl e
  where
    go : (b : Bool) → ((p == 0) || (r.number == 0)) ≡ b → cond b None (option_map acted (call_result k p r)) ≡ Some d → Served k p r d
    go true f h = absurd cc
    go false f h =
        let m = mapped (call_result k p r) d h in
        record {
          called = m.0;
          is = m.1;
          acts = m.2;
          number = not_zero r.number (or_parts (p == 0) (r.number == 0) f).1;
          leaves = call_leaves k p r m.0 m.1;
          child = sym (child_is k p r m.0 m.1) ∙ ap (λ (x : Acted KernelState Answer). x.child) m.2;
        }

pub count_serve : (k : KernelState) (p : ℕ) (r : Request) (d : Acted KernelState Answer) → serve_at k p r ≡ Some d → given d.kernel ≡ counted d.child (given k)
count_serve k p r d e =
    let s = served k p r d e in
    ap (λ (x : Acted KernelState Answer). given x.kernel) (sym s.acts) ∙ s.leaves.others.count ∙ count_at (child_of k s.called) (given k) ∙ ap (λ (o : Option ℕ). counted o (given k)) s.child

is_new : (kind : Kind) (n c : ℕ) → Rattle.kernel_spec.specs.Others.child_after kind n ≡ Some c → c ≡ n + 1
is_new Plain n c e = absurd cc
is_new Fork n c e = let z : n + 1 ≡ c = cc in sym z
is_new Return n c e = absurd cc

pub child_serve : (k : KernelState) (p : ℕ) (r : Request) (d : Acted KernelState Answer) (c : ℕ) → serve_at k p r ≡ Some d → d.child ≡ Some c → c ≡ given k + 1
child_serve k p r d c e f = let s = served k p r d e in is_new s.called.answer.kind (given k) c (s.child ∙ f)

pub live_serve : (k : KernelState) (p : ℕ) (r : Request) (d : Acted KernelState Answer) (q : ℕ) → serve_at k p r ≡ Some d → q ≢ p → is_child d.child q ≡ false → is_live d.kernel q ≡ is_live k q
live_serve k p r d q e ne child =
    let s = served k p r d e in
    ap (λ (x : Acted KernelState Answer). is_live x.kernel q) (sym s.acts) ∙ s.leaves.others.live q ne (child_at (child_of k s.called) q ∙ ap (λ (o : Option ℕ). is_child o q) s.child ∙ child)

pub live_child : (k : KernelState) (p : ℕ) (r : Request) (d : Acted KernelState Answer) (c : ℕ) → serve_at k p r ≡ Some d → d.child ≡ Some c → is_live d.kernel c ≡ true
live_child k p r d c e f = let s = served k p r d e in ap (λ (x : Acted KernelState Answer). is_live x.kernel c) (sym s.acts) ∙ s.leaves.child c (s.child ∙ f)

pub quiet_serve : (k : KernelState) (p : ℕ) (r : Request) (d : Acted KernelState Answer) (q : ℕ) → serve_at k p r ≡ Some d → q ≢ p → is_child d.child q ≡ false → is_child d.raised q ≡ false → deliverable d.kernel q ≡ deliverable k q
quiet_serve k p r d q e ne child raised =
    let s = served k p r d e in
    let heard : s.called.raised ≡ d.raised = ap (λ (x : Acted KernelState Answer). x.raised) s.acts in
    ap (λ (x : Acted KernelState Answer). deliverable x.kernel q) (sym s.acts)
    ∙ s.leaves.others.quiet q ne (child_at (child_of k s.called) q ∙ ap (λ (o : Option ℕ). is_child o q) s.child ∙ child)
    (child_at s.called.raised q ∙ ap (λ (o : Option ℕ). is_child o q) heard ∙ raised)

pub few_serve : (k : KernelState) (p : ℕ) (r : Request) (d : Acted KernelState Answer) (c : ℕ) → serve_at k p r ≡ Some d → d.child ≡ Some c → sum_below (given k + 1) (λ q. one_if (is_live k q)) < 64
few_serve k p r d c e f = let s = served k p r d e in few k (s.leaves.few c (s.child ∙ f))

-- ---- taking

pub record Takes (k : KernelState) (p : ℕ) (t : Took KernelState Taken) : Type 0 where
  pub count : given t.kernel ≡ given k
  pub live : (q : ℕ) → q ≢ p → is_live t.kernel q ≡ is_live k q
  pub quiet : (q : ℕ) → q ≢ p → is_child t.raised q ≡ false → deliverable t.kernel q ≡ deliverable k q

takes_as : (k : KernelState) (p : ℕ) (o : Option AfterTake) → ((a : AfterTake) → o ≡ Some a → LeavesOthers k a.kernel p None a.raised) → Takes k p (took_as k o)
takes_as k p None h = record { count = refl; live = λ q ne. refl; quiet = λ q ne r. refl }
takes_as k p (Some a) h =
    let l = h a refl in
    record { count = l.count; live = λ q ne. l.live q ne refl; quiet = λ q ne r. l.quiet q ne refl (child_at a.raised q ∙ r) }

pub takes : (k : KernelState) (p : ℕ) (room : Bool) → Takes k p (taken_at k p room)
takes k p room = takes_as k p (take_result k p room) (λ a e. take_leaves k p room a e)

-- ---- a fault

pub quiet_end : (k : KernelState) (p : ℕ) (e : End) (q : ℕ) → q ≢ p → is_child (raised_by_end k p) q ≡ false → deliverable (with_end k p e) q ≡ deliverable k q
quiet_end k p e q ne raised = (end_leaves k p e).quiet q ne refl (child_at (raised_by_end k p) q ∙ raised)

pub live_end : (k : KernelState) (p : ℕ) (e : End) (q : ℕ) → q ≢ p → is_live (with_end k p e) q ≡ is_live k q
live_end k p e q ne = (end_leaves k p e).live q ne refl

pub count_end : (k : KernelState) (p : ℕ) (e : End) → given (with_end k p e) ≡ given k
count_end k p e = (end_leaves k p e).count
