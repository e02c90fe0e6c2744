use Rattle.std.proofs.Common.{◌≡◌, ℕ, Bool, subst, arith}
use Rattle.cluster_run.specs.Filling.{AwaitedAs}
use Rattle.cluster_run.proofs.Calming.{linked_calm}
use Rattle.cluster_run.proofs.Awaited.{AwaitedTo, awaited_none, awaited_more, awaited_found, awaited_all}
use Rattle.cluster_run.proofs.full.first_awaited.Goals as goal

pub loop-at-init : goal.loop-at-init
loop-at-init g c = awaited_none g.C.Carrier.puts g.C.Carrier.gives g.C.Carrier.pair c.args.nodes c.args.seats.now

pub is_awaited-requires-clause-linked : goal.is_awaited-requires-clause-linked
is_awaited-requires-clause-linked g c = linked_calm g.C.Carrier.puts g.C.Carrier.gives g.C.Carrier.pair c.args.seats.now c.loop-at.seats c.loop-at.invariant.calm c.requires.linked

pub returns-then-branch : goal.returns-then-branch
returns-then-branch g c = awaited_found g.C.Carrier.puts g.C.Carrier.gives g.C.Carrier.pair c.args.nodes c.loop-at.at c.args.seats.now c.loop-at.seats c.is_awaited.new.seats c.loop-at.invariant c.args.node (omega (arith, c.loop-at-test.true))
    (subst (λ (b : Bool). AwaitedAs g.C.Carrier.puts g.C.Carrier.gives g.C.Carrier.pair b c.args.nodes c.loop-at.at c.loop-at.seats c.is_awaited.new.seats) c.if-branch.true c.in_ok-is_awaited.ensures)

pub loop-at-preserved : goal.loop-at-preserved
loop-at-preserved g c = awaited_more g.C.Carrier.puts g.C.Carrier.gives g.C.Carrier.pair c.args.nodes c.loop-at.at c.args.seats.now c.loop-at.seats c.is_awaited.new.seats c.loop-at.invariant
    (subst (λ (b : Bool). AwaitedAs g.C.Carrier.puts g.C.Carrier.gives g.C.Carrier.pair b c.args.nodes c.loop-at.at c.loop-at.seats c.is_awaited.new.seats) c.if-branch.false c.in_ok-is_awaited.ensures)

pub returns : goal.returns
returns g c =
    let same : c.loop-at.at ≡ c.args.node = omega (arith, c.loop-at-test.false, c.loop-at.auto.at-end) in
    awaited_all g.C.Carrier.puts g.C.Carrier.gives g.C.Carrier.pair c.args.nodes c.args.node c.args.seats.now c.loop-at.seats (subst (λ (k : ℕ). AwaitedTo g.C.Carrier.puts g.C.Carrier.gives g.C.Carrier.pair c.args.nodes k c.args.seats.now c.loop-at.seats) same c.loop-at.invariant)
