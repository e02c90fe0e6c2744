use Rattle.std.proofs.Common.{◌≡◌, length, rules}
use Rattle.load_gossip.proofs.Merging.{hear_own, hear_told}
use Rattle.load_gossip.proofs.vector.Vector.hear.Goals as goal

pub returns-clause-own : goal.returns-clause-own
returns-clause-own c =
    let four : length c.half.result ≡ 4 = search rules in
    hear_own c.args.self.now c.half.result c.args.heard.now c.interleaved-self-inside.result c.half.ensures c.interleaved-self-inside.ensures four c.told-heard

pub returns-clause-told : goal.returns-clause-told
returns-clause-told c =
    let four : length c.half.result ≡ 4 = search rules in
    hear_told c.half.result c.args.heard.now c.interleaved-self-inside.result c.interleaved-self-inside.ensures four c.told-heard
