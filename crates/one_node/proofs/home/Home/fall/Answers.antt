use Rattle.std.proofs.Common.{◌-◌, refl}
use Rattle.one_node.proofs.Applies.{falls_in, falls_not}
use Rattle.one_node.proofs.home.Home.fall.Goals as goal

pub returns-in-None : goal.returns-in-None
returns-in-None c =
    falls_not c.self.inside.kernel c.self.inside.users.items c.self.inside.replies.items c.args.self.now c.args.self.now c.args.pid (c.args.pid - 1) c.self.view_is
    (c.if-not-live.ensures.bounds refl).0 (c.if-not-live.ensures.live refl) refl c.in-None.ensures.is

pub returns-in-Some : goal.returns-in-Some
returns-in-Some c =
    falls_in c.self.inside.kernel c.fall-raised.new.self c.self.inside.users.items c.fault_at.new.users.items c.self.inside.replies.items c.args.self.now _ c.args.pid (c.args.pid - 1) c.in-Some.signal c.fall-raised.result c.did.result c.self.view_is
    (c.if-not-live.ensures.bounds refl).0 (c.if-not-live.ensures.live refl) refl c.in-Some.ensures.is (c.in-Some.ensures.stays refl) c.fall-raised.ensures.is c.fall-raised.ensures.raised refl c.did.ensures
