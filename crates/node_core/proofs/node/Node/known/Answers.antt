use Rattle.std.proofs.Common.{◌≢◌}
use Rattle.policy_box.specs.Policies.{FitsEntry}
use Rattle.node_core.specs.Locals.{places_of}
use Rattle.node_core.proofs.Seeing.{known_more, all_more}
use Rattle.node_core.proofs.node.Node.known.Goals as goal

-- src/sight.rt
pub loop-node-preserved : goal.loop-node-preserved
loop-node-preserved c =
    let before = c.loop-node.invariant in
    record {
      is = known_more c.loop-node.node c.args.self.now.id (places_of c.args.self.now.talk.vector) c.loop-node.known c.note.new.known c.newest_of-entry.result before.is c.newest_of-entry.ensures.is c.in_ok-note.ensures.ok;
      range = all_more (λ e. FitsEntry e) c.loop-node.known c.note.new.known c.newest_of-entry.result before.range c.note.ensures.range c.in_ok-note.ensures.ok;
      others = all_more (λ e. e.node ≢ c.args.self.now.id) c.loop-node.known c.note.new.known c.newest_of-entry.result before.others c.newest_of-entry.ensures.away c.in_ok-note.ensures.ok;
    }
