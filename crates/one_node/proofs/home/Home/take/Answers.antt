use Rattle.std.proofs.Common.{◌≡◌, ◌∙◌, ◌-◌, ap, sym, refl, Bool, List, Some, slice_get}
use Rattle.std.specs.Option.{option_map}
use Rattle.user_spec.specs.User.{UserState}
use Rattle.one_node.specs.Machine.{has_room_at}
use Rattle.one_node.proofs.Taking.{taken_fit}
use Rattle.one_node.proofs.Applies.{takes_in, takes_none}
use Rattle.one_node.proofs.home.Home.take.Goals as goal

pub returns-in-None : goal.returns-in-None
returns-in-None c =
    let has : option_map has_room_at (slice_get c.self.inside.users.items (c.args.pid - 1)) ≡ Some c.room_at-room.result =
    ap (λ (ys : List UserState). option_map has_room_at (slice_get ys (c.args.pid - 1))) (sym c.as_slice.ensures.value) ∙ c.room_at-room.ensures in
    takes_none c.self.inside.kernel c.self.inside.users.items c.self.inside.replies.items c.args.self.now c.args.self.now c.args.pid (c.args.pid - 1) c.room_at-room.result c.self.view_is
    (c.if-not-live.ensures.bounds refl).0 (c.if-not-live.ensures.live refl) refl has (rw c.in-None.is at c.take-took.ensures).0

pub enter_at-requires-clause-room : goal.enter_at-requires-clause-room
enter_at-requires-clause-room c = λ entry.
    let has : option_map has_room_at (slice_get c.self.inside.users.items (c.args.pid - 1)) ≡ Some c.room_at-room.result =
    ap (λ (ys : List UserState). option_map has_room_at (slice_get ys (c.args.pid - 1))) (sym c.as_slice.ensures.value) ∙ c.room_at-room.ensures in
    let fit = taken_fit c.self.inside.kernel c.args.pid c.room_at-room.result _ (rw c.in-Some.is at c.take-took.ensures) in
    has ∙ ap (λ (b : Bool). Some b) (fit.room_for entry)

pub invariant_of-self-in-Some : goal.invariant_of-self-in-Some
invariant_of-self-in-Some c =
    let fit = taken_fit c.self.inside.kernel c.args.pid c.room_at-room.result _ (rw c.in-Some.is at c.take-took.ensures) in
    c.enter_at.ensures.len ∙ c.self.invariant ∙ sym fit.count

pub returns-in-Some : goal.returns-in-Some
returns-in-Some c =
    let has : option_map has_room_at (slice_get c.self.inside.users.items (c.args.pid - 1)) ≡ Some c.room_at-room.result =
    ap (λ (ys : List UserState). option_map has_room_at (slice_get ys (c.args.pid - 1))) (sym c.as_slice.ensures.value) ∙ c.room_at-room.ensures in
    takes_in c.self.inside.kernel c.take-took.new.self c.self.inside.users.items c.enter_at.new.users.items c.self.inside.replies.items c.args.self.now _ c.args.pid (c.args.pid - 1) c.room_at-room.result c.in-Some.taken c.take-took.result.raised c.did.result c.self.view_is
    (c.if-not-live.ensures.bounds refl).0 (c.if-not-live.ensures.live refl) refl has (rw c.in-Some.is at c.take-took.ensures) c.enter_at.ensures.is refl c.did.ensures
