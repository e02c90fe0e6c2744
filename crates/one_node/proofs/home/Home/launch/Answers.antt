use Rattle.std.proofs.Common.{◌≡◌, ◌∙◌, ◌++◌, ◌∷◌, [], ap, sym, Some, List, slice_get, arith}
use Rattle.std.proofs.lemmas.Option.{gets}
use Rattle.user_spec.specs.User.{UserState}
use Rattle.one_node.proofs.Lives.{launches_in, state_of}
use Rattle.one_node.proofs.home.Home.launch.Goals as goal

pub returns-clause-ok : goal.returns-clause-ok
returns-clause-ok c =
    let there : slice_get c.args.setup.now c.args.i ≡ Some c.in-Some.user.now = grind (arith, gets, c.in-Some.ensures.lookup) in
    launches_in c.self.inside.kernel c.launch.new.self c.self.inside.users.items c.self.inside.replies.items c.args.self.now c.in_ok-user.user c.in-Some-2.pid _ c.self.view_is
    (there ∙ ap (λ (u : UserState). Some u) (sym c.in_ok-user.ensures)) (rw c.in-Some-2.is at c.in_ok-pid.ensures.ok)
    ∙ ap (λ us. Some (state_of c.launch.new.self us c.self.inside.replies.items))
    (ap (λ (us : List UserState). us ++ record c.in_ok-user.user { pid = c.in-Some-2.pid } ∷ []) (sym c.reserve.ensures.items)
    ∙ ap (λ (u : UserState). c.reserve.new.self.items ++ u ∷ []) (sym c.set_pid.ensures) ∙ sym c.push_reserved.ensures.items)
