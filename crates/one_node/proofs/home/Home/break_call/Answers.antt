use Rattle.std.proofs.Common.{◌∙◌, ◌-◌, ◌++◌, ◌∷◌, [], List, ap, sym, refl, is_some, Option, ℕ}
use Rattle.call_table.specs.declared.process.Reply3.{Reply3}
use Rattle.one_node.proofs.Lives.{state_of}
use Rattle.one_node.proofs.Applies.{breaks_in}
use Rattle.one_node.proofs.home.Home.break_call.Goals as goal

pub returns : goal.returns
returns c =
    let k = c.self.inside.kernel in
    let rs = c.self.inside.replies.items in
    breaks_in k c.break_call-answer.new.self c.self.inside.users.items c.give_at.new.users.items rs c.args.self.now _ c.args.pid (c.args.pid - 1) c.in-Some.request c.break_call-answer.result c.did_reply.result
    c.self.view_is (c.in_ok-request.ensures ∙ c.in-Some.is) refl (sym c.if-not-blocks.ensures)
    (ap (λ (o : Option ℕ). is_some o) (sym c.deliverable.ensures) ∙ c.if-is_none.ensures)
    c.break_call-answer.ensures.answer c.break_call-answer.ensures.same c.give_at.ensures.is
    (ap (λ (xs : List Reply3). state_of c.break_call-answer.new.self c.give_at.new.users.items xs)
    (c.push_reserved.ensures.items ∙ ap (λ (xs : List Reply3). xs ++ c.reply_of.result ∷ []) c.reserve.ensures.items ∙ ap (λ (r : Reply3). rs ++ r ∷ []) c.reply_of.ensures))
    c.did_reply.ensures
