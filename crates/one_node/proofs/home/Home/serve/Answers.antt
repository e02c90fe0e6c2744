use Rattle.std.proofs.Common.{◌≡◌, ◌∙◌, ◌-◌, ◌++◌, ◌∷◌, [], List, ap, sym, refl, slice_get, arith}
use Rattle.std.specs.Option.{option_and_then}
use Rattle.call_table.specs.declared.process.Reply3.{Reply3}
use Rattle.user_spec.specs.User.{UserState}
use Rattle.one_node.specs.Going.{copied_for, HasChild, child_in}
use Rattle.one_node.proofs.Lives.{state_of}
use Rattle.one_node.proofs.Applies.{serves_in, child_here}
use Rattle.one_node.proofs.home.Home.serve.Goals as goal

pub invariant_of-self-in-Done : goal.invariant_of-self-in-Done
invariant_of-self-in-Done c =
    let copy : option_and_then (copied_for c.in-Some.request.number) (slice_get c.self.inside.users.items (c.args.pid - 1)) ≡ c.in_ok-child.child =
    ap (λ (ys : List UserState). option_and_then (copied_for c.in-Some.request.number) (slice_get ys (c.args.pid - 1))) (sym c.as_slice.ensures.value) ∙ c.in_ok-child.ensures in
    let has : HasChild c.in-Done.answer.kind c.in_ok-child.child =
    child_here c.self.inside.kernel c.self.inside.users.items c.self.inside.replies.items c.args.self.now c.args.pid (c.args.pid - 1) c.in-Some.request _ c.in_ok-child.child c.self.view_is
    (c.in_ok-request.ensures ∙ c.in-Some.is) refl (rw c.in-Done.is at c.in_ok-serve.ensures.ok) copy in
    let more = c.push_child.ensures.len has in
    let count = rw c.in-Done.is at c.in_ok-serve.ensures.given in
    omega (arith, more, count, c.give_at.ensures.len, c.reserve.ensures.len, c.self.invariant)

pub returns : goal.returns
returns c =
    let k = c.self.inside.kernel in
    let us = c.reserve.new.self.items in
    let rs = c.self.inside.replies.items in
    serves_in k c.serve.new.self us c.give_at.new.users.items rs c.args.self.now _ c.args.pid (c.args.pid - 1) c.given-newest.result c.in-Some.request c.in-Done.answer c.in-Done.raised c.in_ok-child.child c.did_reply.result
    (ap (λ (ys : List UserState). state_of k ys rs) c.reserve.ensures.items ∙ c.self.view_is)
    (c.in_ok-request.ensures ∙ c.in-Some.is) refl (rw c.in-Done.is at c.in_ok-serve.ensures.ok) c.given-newest.ensures
    (ap (λ (ys : List UserState). option_and_then (copied_for c.in-Some.request.number) (slice_get ys (c.args.pid - 1))) (c.reserve.ensures.items ∙ sym c.as_slice.ensures.value) ∙ c.in_ok-child.ensures)
    c.give_at.ensures.is
    (ap (λ (ys : List UserState). state_of c.serve.new.self ys c.push_reserved.new.self.items) c.push_child.ensures.is
    ∙ ap (λ (xs : List Reply3). state_of c.serve.new.self (c.give_at.new.users.items ++ child_in c.in-Done.answer.kind c.in_ok-child.child c.given-newest.result) xs) (c.push_reserved.ensures.items ∙ ap (λ (xs : List Reply3). xs ++ c.reply_of.result ∷ []) c.reserve-2.ensures.items ∙ ap (λ (r : Reply3). rs ++ r ∷ []) c.reply_of.ensures))
    c.did_reply.ensures
