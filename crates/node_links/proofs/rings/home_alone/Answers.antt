use Rattle.std.proofs.Common.{◌≡◌, ◌∷◌, ◌++◌, [], List, sym, ap, subst, ◌∙◌}
use Rattle.node_links.specs.declared.ring.RingCarrier.{RingCarrier}
use Rattle.node_links.specs.declared.side.Towards.{Towards}
use Rattle.node_links.specs.Sides.{IsGrown}
use Rattle.node_links.specs.Rings.{ring_pair, IsNew}
use Rattle.node_links.proofs.SideLemmas.{grown_one}
use Rattle.node_links.proofs.rings.home_alone.Goals as goal

pub returns : goal.returns
returns c =
    let own : Towards RingCarrier = record { node = 0; carrier = c.in_ok-carrier.carrier } in
    let one : c.push.new.self ≡ own ∷ [] = c.in_ok-push.ensures.ok ∙ ap (λ (k : List (Towards RingCarrier)). k ++ own ∷ []) c.new-side.ensures in
    let all : c.push-2.new.self.items ≡ (own ∷ []) ∷ [] =
    c.in_ok-push-2.ensures.items
    ∙ (ap (λ (k : List (List (Towards RingCarrier))). k ++ c.push.new.self ∷ []) c.new-sides.ensures.items ∙ ap (λ (k : List (Towards RingCarrier)). k ∷ []) one) in
    subst (λ (k : List (List (Towards RingCarrier))). IsGrown ring_pair IsNew 1 k) (sym all) (grown_one ring_pair IsNew c.in_ok-carrier.carrier c.in_ok-carrier.ensures.pair c.in_ok-carrier.ensures.new)
