-- A context in the place of another, and contexts that change twice.
use Rattle.std.proofs.Common.{◌≡◌, ℕ, ◌==◌, cond, Bool, true, false, Option, Some, None, List, refl, ap, ◌∙◌, subst}
use Rattle.remote_ctx.specs.declared.context.Context.{Context}
use Rattle.remote_ctx.specs.Hosted.{lookup, Puts}
use Rattle.remote_ctx.specs.Acting.{TakesOut}
use Rattle.protocol.proofs.Talk.{same_numbers}

-- what was taken out is gone
pub gone_now : (o : Option Context) (pid : ℕ) (old new : List Context) → TakesOut o pid old new → lookup pid new ≡ None
gone_now None pid old new t = ap (lookup pid) t.1 ∙ t.0
gone_now (Some c) pid old new t = t.puts.each pid ∙ ap (λ b. cond b None (lookup pid old)) (same_numbers pid pid refl)

-- one is put where another was taken out
pub put_over : (o : Option Context) (pid : ℕ) (old mid : List Context) (x : Option Context) (new : List Context) → TakesOut o pid old mid → Puts pid x mid new → Puts pid x old new
put_over None pid old mid x new t p = subst (λ (h : List Context). Puts pid x h new) t.1 p
put_over (Some c) pid old mid x new t p = record { each = λ q. p.each q ∙ (ap (λ y. cond (q == pid) x y) (t.puts.each q) ∙ go (q == pid) (lookup q old)) }
  where
    go : (b : Bool) (y : Option Context) → cond b x (cond b None y) ≡ cond b x y
    go true y = refl
    go false y = refl

-- a change after one
pub put_twice : (pid : ℕ) (old mid new : List Context) (x y : Option Context) → Puts pid x old mid → Puts pid y mid new → Puts pid y old new
put_twice pid old mid new x y a b = record { each = λ q. b.each q ∙ (ap (λ z. cond (q == pid) y z) (a.each q) ∙ go (q == pid) (lookup q old)) }
  where
    go : (k : Bool) (z : Option Context) → cond k y (cond k x z) ≡ cond k y z
    go true z = refl
    go false z = refl
