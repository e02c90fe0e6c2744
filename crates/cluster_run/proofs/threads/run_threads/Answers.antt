use Rattle.std.proofs.Common.{arith, ◌-◌, ◌∙◌, ap, map, length}
use Rattle.node_machine.specs.Policy.{given_by}
use Rattle.cluster_run.specs.Seating.{node_of}
use Rattle.cluster_run.proofs.SerialRun.{take_front, seated_linked, seated_count, serial_ran}
use Rattle.cluster_run.proofs.threads.run_threads.Goals as goal

pub run_shifts-requires-clause-nodes : goal.run_shifts-requires-clause-nodes
run_shifts-requires-clause-nodes g c = omega (arith, c.len-count.ensures, c.requires.most, seated_count g.C.Carrier.pair _ c.args.nodes c.args.carriers c.requires.pairs c.deref_mut.result.now (c.deref_mut.ensures.value ∙ c.in_ok-seats.ensures))

pub run_shifts-requires-clause-linked : goal.run_shifts-requires-clause-linked
run_shifts-requires-clause-linked g c = λ w v. seated_linked g.C.Carrier.pair _ c.args.nodes c.args.carriers c.requires.pairs c.deref_mut.result.now (c.deref_mut.ensures.value ∙ c.in_ok-seats.ensures)

pub returns : goal.returns
returns g c = λ plan room begins fit. serial_ran g.C.Carrier.pair _ c.args.nodes c.args.carriers c.requires.pairs c.deref_mut.result.now (c.deref_mut.ensures.value ∙ c.in_ok-seats.ensures) g.C.Carrier.puts g.C.Carrier.gives g.C.Carrier.total c.requires.fresh (given_by (g.P.Chooser.answers c.args.policy.now))
    c.in_ok-why.why c.run_shifts.new.seats c.in_ok-why.ensures _ (c.in_ok-nodes.ensures.nodes ∙ ap (map node_of) (take_front c.in_ok-seats.seats.len c.run_shifts.new.seats _ (omega (arith, c.run_shifts.auto.seats, c.deref_mut.ensures.len)))) c.requires.least c.requires.most plan room begins fit
