use Rattle.std.proofs.Common.{List, ap, ◌∙◌}
use Rattle.node_event.specs.declared.script.ScriptLine.{ScriptLine}
use Rattle.mosix_shell.specs.Stage.{plan_of, seeds_of, first_nodes}
use Rattle.mosix_shell.proofs.Nodes.{begins}
use Rattle.mosix_shell.proofs.threads.run_users.Goals as goal

pub played-requires-clause-count : goal.played-requires-clause-count
played-requires-clause-count g c = λ w v. (begins (g.R.Rng.stream c.args.rng.now) c.args.settings.now c.args.orders.now c.args.users c.in_ok-nodes.nodes c.requires.range c.requires.plan
    (c.in_ok-nodes.ensures ∙ ap (λ (os : List ScriptLine). first_nodes c.args.settings.now (seeds_of c.args.settings.now (g.R.Rng.stream c.args.rng.now)) os c.args.users) c.as_slice.ensures)).count

pub played-requires-clause-begins : goal.played-requires-clause-begins
played-requires-clause-begins g c = λ w v. record {
  plan = plan_of (g.R.Rng.stream c.args.rng.now) c.args.settings.now c.args.orders.now c.args.users;
  room = c.args.settings.now.journal;
  begins = begins (g.R.Rng.stream c.args.rng.now) c.args.settings.now c.args.orders.now c.args.users c.in_ok-nodes.nodes c.requires.range c.requires.plan
      (c.in_ok-nodes.ensures ∙ ap (λ (os : List ScriptLine). first_nodes c.args.settings.now (seeds_of c.args.settings.now (g.R.Rng.stream c.args.rng.now)) os c.args.users) c.as_slice.ensures);
}

pub returns : goal.returns
returns g c = record {
  headline = c.in_ok-whole.ensures (plan_of (g.R.Rng.stream c.args.rng.now) c.args.settings.now c.args.orders.now c.args.users) c.args.settings.now.journal
      (begins (g.R.Rng.stream c.args.rng.now) c.args.settings.now c.args.orders.now c.args.users c.in_ok-nodes.nodes c.requires.range c.requires.plan
      (c.in_ok-nodes.ensures ∙ ap (λ (os : List ScriptLine). first_nodes c.args.settings.now (seeds_of c.args.settings.now (g.R.Rng.stream c.args.rng.now)) os c.args.users) c.as_slice.ensures));
}
