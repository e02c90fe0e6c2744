-- What the laws see of a node and of a letter.
use Rattle.std.specs.Prelude.{ℕ, Option, Some, None, List, map, reverse}
use Rattle.std.specs.Option.{option_map}
use Rattle.std.specs.FinMap as fin_map
use Rattle.call_table.specs.declared.request.Answer.{Answer}
use Rattle.call_table.specs.declared.process.Entry as code_entry
use Rattle.call_forward.specs.declared.message.Done as code_done
use Rattle.call_forward.specs.declared.message.Message.{Message}
use Rattle.call_forward.specs.declared.message.Message.TheVariants as message
use Rattle.call_forward.specs.declared.letter.Letter.{Letter}
use Rattle.kernel_spec.specs.Pids.{at_pid}
use Rattle.remote_ctx.specs.declared.context.Context as code_context
use Rattle.remote_ctx.specs.declared.context.KeptMove.{KeptMove}
use Rattle.remote_ctx.specs.declared.context.Stance.{Stance}
use Rattle.remote_ctx.specs.declared.context.Stance.TheVariants as stance
use Rattle.remote_ctx.specs.Hosted.{lookup}
use Rattle.deputy.specs.declared.row.Row.{Row}
use Rattle.deputy.specs.declared.row.HeldCall.{HeldCall}
use Rattle.deputy.specs.Rows.{held_of, served_of, place_of, hops_of}
use Rattle.protocol.specs.Gossip.{Entry, Gossip}
use Rattle.protocol.specs.Notes.{Kept, State, Running, Waiting, Asking, Believed, Progress, Done, Note, Call, Pause, Reply, Poke, Go, NotHere, Ask, Allow, Deny, Move, Landed, NoMove, Half, Post, letter, Body, Context, context, Called, Slot, Local}
use Rattle.node_machine.specs.Plan.{Plan}
use Rattle.node_machine.specs.Machine.{Policy, machine}
use Rattle.user_spec.specs.Fits.{child_of}
use Rattle.node_core.specs.declared.course.Course.{Course}
use Rattle.node_core.specs.declared.talk.Talk.{Talk}
use Rattle.node_core.specs.declared.node.Node.{Node}

abbrev pub kept_of : KeptMove → Kept
kept_of k = record { to = k.to; line = k.line }

abbrev pub state_of : Stance → State
state_of stance.Running = Running
state_of (stance.Waiting pause kept) = Waiting pause (option_map kept_of kept)
state_of (stance.Asking to line) = Asking to line

-- home believes that a process is there, after so many landings
abbrev pub believed_of : Option Row → Believed
believed_of row = record { place = place_of row; hops = hops_of row }

abbrev pub entry_of : code_entry.Entry → Entry
entry_of e = record { node = e.node; load = e.load; free = e.free; stamp = e.stamp }

abbrev pub places_of : List (Option code_entry.Entry) → List (Option Entry)
places_of places = map (option_map entry_of) places

abbrev pub gossip_of : Talk → Gossip
gossip_of t = record { vector = places_of t.vector; sent = t.sent; steps = t.steps; load = t.load; free = t.free }

-- the child that an answer brings: that of a fork
abbrev pub child_in : Option Answer → Option ℕ
child_in None = None
child_in (Some a) = child_of a

abbrev pub progress_of : Course → List Row → Progress
progress_of c rows = record { line = c.line; done = c.done; launched = reverse c.launched; served = λ q. served_of (at_pid rows q) }

module _ (policy : Policy) (plan : Plan) where
  abbrev pub done_of : code_done.Done → Done (machine policy plan)
  done_of d = record { answer = d.answer; child = child_in d.answer; taken = d.taken; ended = d.ended; more = d.more }

  abbrev pub note_of : Message → Note (machine policy plan)
  note_of (message.Call p r) = Call p r
  note_of (message.Pause p room) = Pause p room
  note_of (message.Reply p d) = Reply p (done_of d)
  note_of (message.Poke p) = Poke p
  note_of (message.Go p to hops line) = Go p to hops line
  note_of (message.NotHere p to hops line) = NotHere p to hops line
  note_of (message.Ask p need) = Ask p need
  note_of (message.Allow p) = Allow p
  note_of (message.Deny p need free) = Deny p need free
  note_of (message.Move p u hops line) = Move p u hops line
  note_of (message.Landed p source hops line) = Landed p source hops line
  note_of (message.NoMove line) = NoMove line
  note_of (message.Half places) = Half (places_of places)

  abbrev pub post_of : Letter → Post (machine policy plan)
  post_of l = letter (machine policy plan) l.from l.to l.stamp (note_of l.message)

  -- a letter as its node takes it: whatever its target was, it came here
  abbrev pub post_at : ℕ → Letter → Post (machine policy plan)
  post_at id l = letter (machine policy plan) l.from id l.stamp (note_of l.message)

  abbrev pub body_of : code_context.Context → Body (machine policy plan)
  body_of c = record { user = c.user; hops = c.hops; poked = c.poked }

  abbrev pub context_of : code_context.Context → Context (machine policy plan)
  context_of c = context (machine policy plan) (body_of c) (state_of c.state)

  abbrev pub called_of : HeldCall → Called (machine policy plan)
  called_of h = record { from = h.from; request = h.request }

  -- what a node keeps of one pid: its context, the pages that are reserved for it, and its held call
  abbrev pub slot_with : Option code_context.Context → Option ℕ → Option Row → Slot (machine policy plan)
  slot_with c need row = record { context = option_map context_of c; reserve = need; call = option_map called_of (held_of row) }

  abbrev pub slot_of : Node → ℕ → Slot (machine policy plan)
  slot_of n q = slot_with (lookup q n.hosted) (fin_map.get n.reserve q) (at_pid n.deputies.rows q)

  abbrev pub local : Node → Local (machine policy plan)
  local n = record {
    clock = n.clock;
    kernel = n.deputies.kernel;
    slots = slot_of n;
    believed = λ q. believed_of (at_pid n.deputies.rows q);
    progress = progress_of n.course n.deputies.rows;
    gossip = gossip_of n.talk;
  }
