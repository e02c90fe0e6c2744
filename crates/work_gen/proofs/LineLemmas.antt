-- One line after another.
use Rattle.std.proofs.Common.{◌≡◌, ℕ, suc, ◌+◌, ◌-◌, ◌<◌, List, ◌++◌, ap, ◌∙◌, sym, append_assoc, arith}
use Rattle.work_gen.specs.Work.{run_line, run_lines, move_line, move_lines}

pub runs_next : (count i : ℕ) (made more line all : List ℕ) → i < count → made ++ run_lines i (count - i) ≡ all → more ≡ made ++ line → line ≡ run_line i → more ++ run_lines (i + 1) (count - (i + 1)) ≡ all
runs_next count i made more line all less is push one =
    let left : count - i ≡ suc (count - (i + 1)) = omega arith in
    ap (λ (xs : List ℕ). xs ++ run_lines (i + 1) (count - (i + 1))) push
    ∙ (append_assoc made line (run_lines (i + 1) (count - (i + 1)))
    ∙ (ap (λ (xs : List ℕ). made ++ (xs ++ run_lines (i + 1) (count - (i + 1)))) one
    ∙ (ap (λ (n : ℕ). made ++ run_lines i n) (sym left) ∙ is)))

pub moves_next : (nodes count i pid : ℕ) (made more line all : List ℕ) → i < count → pid ≡ i + 1 → made ++ move_lines nodes (i + 1) (count - i) ≡ all → more ≡ made ++ line → line ≡ move_line nodes pid → more ++ move_lines nodes (i + 1 + 1) (count - (i + 1)) ≡ all
moves_next nodes count i pid made more line all less at is push one =
    let left : count - i ≡ suc (count - (i + 1)) = omega arith in
    ap (λ (xs : List ℕ). xs ++ move_lines nodes (i + 1 + 1) (count - (i + 1))) push
    ∙ (append_assoc made line (move_lines nodes (i + 1 + 1) (count - (i + 1)))
    ∙ (ap (λ (xs : List ℕ). made ++ (xs ++ move_lines nodes (i + 1 + 1) (count - (i + 1)))) (one ∙ ap (move_line nodes) at)
    ∙ (ap (λ (n : ℕ). made ++ move_lines nodes (i + 1) n) (sym left) ∙ is)))
