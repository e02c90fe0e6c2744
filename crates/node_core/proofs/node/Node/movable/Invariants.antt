use Rattle.std.proofs.Common.{◌≡◌, ◌<◌, All, map, take}
use Rattle.std.specs.Prelude.{◌^◌}
use Rattle.node_core.specs.Sight.{pages_at}
use Rattle.node_core.proofs.node.Node.movable.Given as goal

abbrev pub invariant-loop-pid : goal.invariant-loop-pid
invariant-loop-pid l = record {
  each : l.movable ≡ map (λ q. (q, pages_at l.self.hosted q)) (take l.pid-index l.pid-items);
  range : All (λ p. (p.0 < 2 ^ 32) × (p.1 < 2 ^ 32)) l.movable;
}
