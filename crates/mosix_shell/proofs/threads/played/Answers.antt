use Rattle.std.proofs.Common.{sym, arith}
use Rattle.node_machine.specs.Policy.{given_by}
use Rattle.node_machine.proofs.Policies.{fitting}
use Rattle.mosix_shell.proofs.Headlines.{has_home, told_headline}
use Rattle.mosix_shell.proofs.threads.played.Goals as goal

pub told_by-requires : goal.told_by-requires
told_by-requires g c =
    let begins = c.requires.begins.begins in
    let ran = c.in_ok-over.ensures c.requires.begins.plan c.requires.begins.room begins (fitting (g.P.Chooser.answers c.args.policy.now) c.is_fitting.ensures) in
    let there = ran.count in
    let first = begins.count in
    has_home (given_by (g.P.Chooser.answers c.args.policy.now)) c.requires.begins.plan c.requires.begins.room c.in_ok-over.over.nodes c.in_ok-over.over.why c.last_of-last.result (sym c.last_of-last.ensures)
    ran (omega (arith, there, first, c.requires.count, c.requires.range.least_nodes))

pub returns : goal.returns
returns g c = λ plan room begins.
    told_headline (given_by (g.P.Chooser.answers c.args.policy.now)) plan room c.in_ok-over.over.nodes c.in_ok-over.over.why c.last_of-last.result c.in_ok-told.told (sym c.last_of-last.ensures)
    (c.in_ok-over.ensures plan room begins (fitting (g.P.Chooser.answers c.args.policy.now) c.is_fitting.ensures)) c.in_ok-told.ensures
