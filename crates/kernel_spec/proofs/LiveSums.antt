-- How many processes live, as a sum over the pids that were given.
use Rattle.std.proofs.Common.{◌≡◌, ℕ, zero, suc, ◌+◌, Bool, true, false, cond, List, [], ◌∷◌, length, slice_get, refl, ap, sym, ◌∙◌, arith}
use Rattle.std.specs.List.{count_by}
use Rattle.std.proofs.lemmas.List.Sums.{sum_by-cons}
use Rattle.proc_tree.specs.declared.process.Process.{Process}
use Rattle.proc_tree.specs.Processes.{is_live as is_live_process}
use Rattle.kernel_spec.specs.Kernel.{KernelState, given, is_live}
use Rattle.kernel_spec.specs.Others.{live_count}
use Rattle.kernel_spec.proofs.TreeFacts.{live_in}

abbrev pub one_if : Bool → ℕ
one_if true = 1
one_if false = 0

one_if_is : (b : Bool) → one_if b ≡ cond b 1 0
one_if_is true = refl
one_if_is false = refl

-- over any sum of the first n values of a function
module _ (sum : ℕ → (ℕ → ℕ) → ℕ) (none : (f : ℕ → ℕ) → sum 0 f ≡ 0) (more : (n : ℕ) (f : ℕ → ℕ) → sum (suc n) f ≡ sum n f + f n) where
  first : (n : ℕ) (f : ℕ → ℕ) → sum (suc n) f ≡ f 0 + sum n (λ i. f (suc i))
  first zero f =
      let one : sum 1 f ≡ sum 0 f + f 0 = more 0 f in
      let empty : sum 0 f ≡ 0 = none f in
      let rest : sum 0 (λ i. f (suc i)) ≡ 0 = none (λ i. f (suc i)) in
      omega (arith, one, empty, rest)
  first (suc n) f =
      let last : sum (suc (suc n)) f ≡ sum (suc n) f + f (suc n) = more (suc n) f in
      let before : sum (suc n) f ≡ f 0 + sum n (λ i. f (suc i)) = first n f in
      let shifted : sum (suc n) (λ i. f (suc i)) ≡ sum n (λ i. f (suc i)) + f (suc n) = more n (λ i. f (suc i)) in
      omega (arith, last, before, shifted)

  by_place : (tree : List Process) → sum (length tree) (λ i. one_if (live_in (slice_get tree i))) ≡ count_by is_live_process tree
  by_place [] = none (λ i. one_if (live_in (slice_get {X = Process} [] i)))
  by_place (x ∷ tree) =
      let from : sum (suc (length tree)) (λ i. one_if (live_in (slice_get (x ∷ tree) i))) ≡ one_if (is_live_process x) + sum (length tree) (λ i. one_if (live_in (slice_get tree i))) = first (length tree) (λ i. one_if (live_in (slice_get (x ∷ tree) i))) in
      let rest : sum (length tree) (λ i. one_if (live_in (slice_get tree i))) ≡ count_by is_live_process tree = by_place tree in
      let all : count_by is_live_process (x ∷ tree) ≡ cond (is_live_process x) 1 0 + count_by is_live_process tree = sum_by-cons (λ y. cond (is_live_process y) 1 0) x tree in
      from ∙ ap (λ n. one_if (is_live_process x) + n) rest ∙ ap (λ n. n + count_by is_live_process tree) (one_if_is (is_live_process x)) ∙ sym all

  -- the sum over pid 0 and all that were given
  pub lives_by_pid : (k : KernelState) → sum (given k + 1) (λ q. one_if (is_live k q)) ≡ live_count k
  lives_by_pid k =
      let len : given k + 1 ≡ suc (length k.processes.tree) = omega arith in
      let from : sum (suc (length k.processes.tree)) (λ q. one_if (is_live k q)) ≡ 0 + sum (length k.processes.tree) (λ i. one_if (live_in (slice_get k.processes.tree i))) = first (length k.processes.tree) (λ q. one_if (is_live k q)) in
      let rest = by_place k.processes.tree in
      ap (λ n. sum n (λ q. one_if (is_live k q))) len ∙ from ∙ omega (arith, rest)
