use Rattle.std.proofs.Common.{◌≡◌, arith}
use Rattle.node_links.proofs.rings.ring_carriers.Goals as goal

pub returns-clause-pairs : goal.returns-clause-pairs
returns-clause-pairs c =
    let last : c.loop-node.node ≡ c.args.nodes = omega (arith, c.loop-node-test.false, c.loop-node.auto.node-end, c.requires.least) in
    rw (c.from_vec.ensures, ← last) c.loop-node.invariant.pairs

pub returns-clause-fresh : goal.returns-clause-fresh
returns-clause-fresh c = rw c.from_vec.ensures (λ i j d e. let new = c.loop-node.invariant.each i j d e in record { put = new.put; given = new.taken; taken = new.count })

pub returns-clause-room : goal.returns-clause-room
returns-clause-room c = rw c.from_vec.ensures c.loop-node.invariant.each
