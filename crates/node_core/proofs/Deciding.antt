-- What functions of a node on moves did, put together from what the functions that they call did.
use Rattle.std.proofs.Common.{◌≡◌, ℕ, ◌<◌, ◌≤◌, ◌&&◌, ◌||◌, not, nat_lt, Bool, true, false, Option, Some, None, List, [], ◌∷◌, refl, sym, ap, subst, arith}
use Rattle.call_forward.specs.declared.acted.Acted.{Acted}
use Rattle.call_forward.specs.declared.message.Message.{Message}
use Rattle.call_forward.specs.declared.message.Message.TheVariants as message
use Rattle.node_event.specs.declared.event.What.TheVariants as what
use Rattle.user_spec.specs.User.{UserState}
use Rattle.remote_ctx.specs.declared.context.Context as code_context
use Rattle.remote_ctx.specs.Acting.{Leaves}
use Rattle.node_core.specs.declared.node.Node.{Node}
use Rattle.node_core.specs.Moves.{Departs}

-- ---- a process leaves

pub departed : (pid to : ℕ) (line : Option ℕ) (user : UserState) (hops : ℕ) (old : Node) (h : List code_context.Context) (mail : List (ℕ × Message)) → Leaves user hops pid old.hosted h → mail ≡ (to, message.Move pid user hops line) ∷ []
    → Departs pid to line (record { what = what.Depart pid to; mail = mail }) old (record old { hosted = h })
departed pid to line user hops old h mail leaves mail_is = record { user = user; hops = hops; leaves = leaves; acted_is = ap (λ (m : List (ℕ × Message)). record { what = what.Depart pid to; mail = m }) mail_is; rest = refl }
