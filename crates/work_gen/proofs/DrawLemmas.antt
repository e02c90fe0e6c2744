-- One draw after another.
use Rattle.std.proofs.Common.{◌≡◌, ℕ, suc, ◌+◌, ◌-◌, ◌<◌, ◌≤◌, List, [], ◌∷◌, ◌++◌, ap, ◌∙◌, sym, append_assoc, arith}
use Rattle.std.proofs.lemmas.List.{append-nil}
use Rattle.rand_pcg.specs.Lcg.{Lcg}
use Rattle.work_gen.specs.Draws.{drawn, after, draws_from}
use Rattle.work_gen.specs.declared.draw.Draw.{Draw}

pub draws_next : (count i : ℕ) (draw : Draw) (made more all : List Draw) (chance rest : Lcg) → i < count → made ++ draws_from (count - i) chance ≡ all → more ≡ made ++ draw ∷ [] → draw ≡ drawn chance → rest ≡ after chance → more ++ draws_from (count - (i + 1)) rest ≡ all
draws_next count i draw made more all chance rest less is push one other =
    let left : count - i ≡ suc (count - (i + 1)) = omega arith in
    ap (λ (xs : List Draw). xs ++ draws_from (count - (i + 1)) rest) push
    ∙ (append_assoc made (draw ∷ []) (draws_from (count - (i + 1)) rest)
    ∙ (ap (λ (d : Draw). made ++ d ∷ draws_from (count - (i + 1)) rest) one
    ∙ (ap (λ (s : Lcg). made ++ drawn chance ∷ draws_from (count - (i + 1)) s) other
    ∙ (ap (λ (n : ℕ). made ++ draws_from n chance) (sym left) ∙ is))))

pub draws_end : (count i : ℕ) (made all : List Draw) (chance : Lcg) → count ≤ i → made ++ draws_from (count - i) chance ≡ all → made ≡ all
draws_end count i made all chance end is =
    let none : count - i ≡ 0 = omega arith in
    sym (append-nil made) ∙ (ap (λ (n : ℕ). made ++ draws_from n chance) (sym none) ∙ is)
