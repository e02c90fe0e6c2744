use Rattle.std.proofs.Common.{◌∙◌, ◌+◌, ap, Option, ℕ}
use Rattle.call_table.specs.declared.process.End.{End}
use Rattle.one_node.specs.Machine.{ended_of, state_of}
use Rattle.one_node.proofs.Statuses.{statuses_next}
use Rattle.one_node.proofs.home.Home.statuses.Goals as goal

pub loop-i-preserved : goal.loop-i-preserved
loop-i-preserved c =
    statuses_next c.args.self.now c.loop-i.i _ c.loop-i.list c.push.new.self _ c.state_of.result c.loop-i-test.true c.loop-i.invariant c.in_ok-push.ensures.ok
    (c.state_of.ensures
    ∙ ap (λ (e : Option End). state_of e c.in_ok-blocked.blocked) c.ended.ensures
    ∙ ap (λ (b : Option ℕ). state_of (ended_of c.args.self.now (c.loop-i.i + 1)) b) c.in_ok-blocked.ensures)
