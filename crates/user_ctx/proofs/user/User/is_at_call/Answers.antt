use Rattle.std.proofs.Common.{◌≡◌, ◌<◌, ◌∙◌, sym, ap, ◌&&◌, not, Bool, true, false, arith}
use Rattle.call_table.specs.declared.limit.TheConstants.{STEPS}
use Rattle.user_spec.specs.Request.{is_local_call}
use Rattle.user_ctx.specs.Calling.{is_calling}
use Rattle.user_ctx.proofs.Asking.{at_next}
use Rattle.user_ctx.proofs.Fitting.{next_forwards}
use Rattle.user_ctx.proofs.user.User.is_at_call.Goals as goal

told : (b f r : Bool) → b ≡ true → r ≡ f → r ≡ (b && f)
told true f r h e = e
told false f r h e = absurd (let z : false ≡ true = h in cc)

pub returns-clause-forwards : goal.returns-clause-forwards
returns-clause-forwards c =
    let room : c.self.inside.count < STEPS = omega arith in
    let e = next_forwards c.args.self.now _ c.self.inside.x c.next.result c.self.view_is room c.self.invariant.0 c.next.ensures in
    told _ _ _ (sym c.is_calling.ensures ∙ c.if-not-is_calling.false) c.is_forwarded.ensures ∙ sym e

pub returns-clause-at : goal.returns-clause-at
returns-clause-at c =
    let room : c.self.inside.count < STEPS = omega arith in
    let calling : is_calling c.next.result ≡ true = sym c.if-not-is_calling.ensures in
    c.is_forwarded.ensures
    ∙ sym (at_next c.args.self.now _ c.self.inside.x c.next.result c.self.view_is room c.self.invariant.0 c.next.ensures
    ∙ ap (λ b. b && not (is_local_call c.args.self.now)) calling)
