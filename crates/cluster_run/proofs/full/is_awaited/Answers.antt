use Rattle.std.proofs.Common.{◌≡◌, ◌<◌, Bool, true, false, get_or, sym, subst, ◌∙◌, arith, length, slice_set}
use Rattle.cluster_run.specs.Filling.{AwaitedAs}
use Rattle.cluster_run.proofs.Calming.{or_got}
use Rattle.cluster_run.proofs.Awaited.{not_awaited, awaited_out, awaited_by}
use Rattle.cluster_run.proofs.full.is_awaited.Goals as goal

pub returns-then-not-is_full : goal.returns-then-not-is_full
returns-then-not-is_full g c = not_awaited g.C.Carrier.puts g.C.Carrier.gives g.C.Carrier.pair c.args.nodes c.args.node c.args.seats.now (get_or c.args.seats.now c.args.node c.index-seats-node.result) (or_got c.args.seats.now c.args.node c.index-seats-node.result c.requires.within)
    (λ f. let e : true ≡ false = sym (c.is_full.ensures.1 f) ∙ c.if-not-is_full.true in absurd cc)

pub returns-then-waits : goal.returns-then-waits
returns-then-waits g c = awaited_out g.C.Carrier.puts g.C.Carrier.gives g.C.Carrier.pair c.args.nodes c.args.node c.args.seats.now (get_or c.args.seats.now c.args.node c.index-seats-node.result) (or_got c.args.seats.now c.args.node c.index-seats-node.result c.requires.within)
    (c.is_full.ensures.0 c.if-not-is_full.false) (c.one_waits-waits.ensures.one c.if-waits.true)

pub returns : goal.returns
returns g c =
    let by = awaited_by g.C.Carrier.puts g.C.Carrier.gives g.C.Carrier.pair g.C.Carrier.known c.args.nodes c.args.node c.args.seats.now c.meet_row.new.seats (get_or c.meet_row.new.seats c.args.node c.index-seats-node-2.result) c.take_any.new.self (get_or c.args.seats.now c.args.node c.index-seats-node.result) (or_got c.args.seats.now c.args.node c.index-seats-node.result c.requires.within)
    (c.is_full.ensures.0 c.if-not-is_full.false) (c.in_ok-_none._none, c.in_ok-_none.ensures.met) c.in_ok-_none.ensures.counted (or_got c.meet_row.new.seats c.args.node c.index-seats-node-2.result (let k = c.in_ok-_none.ensures.met.calm.count in omega (arith, k, c.requires.within)))
    c.in_ok-came.came c.in_ok-came.ensures (c.one_waits-waits.ensures.none c.if-waits.false) in
    subst (λ (b : Bool). AwaitedAs g.C.Carrier.puts g.C.Carrier.gives g.C.Carrier.pair b c.args.nodes c.args.node c.args.seats.now (slice_set c.meet_row.new.seats c.args.node c.take_any.new.self)) (sym c.is_some.ensures) by
