-- The replies that the events of a run tell are those that the laws read in them.
use Rattle.std.proofs.Common.{◌≡◌, ℕ, ◌==◌, ℤ, Bool, true, false, cond, List, [], ◌∷◌, ◌++◌, map, reverse, filter_map, append-nil, refl, sym, ap, ◌∙◌, Option, Some, None}
use Rattle.std.specs.List.{cons_option}
use Rattle.std.proofs.lemmas.List.Elements.{filter_map-append}
use mathlib.Core.List.{reverse-cons}
use Rattle.call_table.specs.declared.process.End.{End}
use Rattle.call_table.specs.declared.process.Reply3.{Reply3}
use Rattle.node_event.specs.declared.event.Event.{Event}
use Rattle.node_event.specs.declared.event.Kept.{Kept}
use Rattle.node_event.specs.declared.event.Kept.TheVariants as kept
use Rattle.node_event.specs.declared.event.Unsent.{Unsent}
use Rattle.node_event.specs.declared.event.Unsent.TheVariants as unsent
use Rattle.node_event.specs.declared.event.Way.{Way}
use Rattle.node_event.specs.declared.event.What.{What}
use Rattle.node_event.specs.declared.event.What.TheVariants as what
use Rattle.node_event.specs.declared.script.Order.{Order}
use Rattle.node_event.specs.declared.script.Order.TheVariants as order
use Rattle.node_event.specs.declared.script.ScriptLine.{ScriptLine}
use Rattle.protocol.specs.Ops.{Ops}
use Rattle.protocol.specs.Deeds.{Input, Text, Finish, Nothing, order_at, runs_before, feeds_before, run_deed, kill_deed, move_deed, other_deed, order_deed, command_deed, manner_of, served_deed, got_deed, told_deed, half_deed, deed_of, Told, Strange, all_noted}
use Rattle.run_laws.specs.Machine.{ReplyGiven}
use Rattle.run_laws.specs.Schedule.{told_so, told_by, told}
use Rattle.run_laws.specs.ScriptLaw.{AtHome, ScriptLaw}
use Rattle.mosix_shell.specs.Headline.{reply_given, replies_given}
use Rattle.mosix_shell.specs.Left.{reply_in, reply_of, replies_in}

-- ---- one event

run_tells : (line i : ℕ) (launched : Option ℕ) (out : Option Unsent) (poked : Option ℕ) (rs : List ReplyGiven) → told_by (run_deed line i launched out poked) rs ≡ rs
run_tells line i None out poked rs = refl
run_tells line i (Some p) None None rs = refl
run_tells line i (Some p) None (Some q) rs = refl
run_tells line i (Some p) (Some u) poked rs = refl

kill_tells : (line p s : ℕ) (launched : Option ℕ) (out : Option Unsent) (poked : Option ℕ) (rs : List ReplyGiven) → told_by (kill_deed line p s launched out poked) rs ≡ rs
kill_tells line p s None None None rs = refl
kill_tells line p s None None (Some q) rs = refl
kill_tells line p s None (Some u) poked rs = refl
kill_tells line p s (Some l) out poked rs = refl

move_tells : (line p to : ℕ) (launched : Option ℕ) (out : Option Unsent) (poked : Option ℕ) (rs : List ReplyGiven) → told_by (move_deed line p to launched out poked) rs ≡ rs
move_tells line p to None None None rs = refl
move_tells line p to None None (Some q) rs = refl
move_tells line p to None (Some unsent.Ended) None rs = refl
move_tells line p to None (Some unsent.Ended) (Some q) rs = refl
move_tells line p to None (Some unsent.Never) None rs = refl
move_tells line p to None (Some unsent.Never) (Some q) rs = refl
move_tells line p to (Some l) out poked rs = refl

other_tells : (line : ℕ) (input : Input) (launched : Option ℕ) (out : Option Unsent) (poked : Option ℕ) (rs : List ReplyGiven) → told_by (other_deed line input launched out poked) rs ≡ rs
other_tells line input None None None rs = refl
other_tells line input None None (Some q) rs = refl
other_tells line input None (Some u) poked rs = refl
other_tells line input (Some l) out poked rs = refl

order_tells : (o : Order) (line i j : ℕ) (launched : Option ℕ) (out : Option Unsent) (poked : Option ℕ) (rs : List ReplyGiven) → told_by (order_deed o line i j launched out poked) rs ≡ rs
order_tells (order.Run words) line i j launched out poked rs = run_tells line i launched out poked rs
order_tells (order.Kill p s) line i j launched out poked rs = kill_tells line p s launched out poked rs
order_tells (order.Move p to) line i j launched out poked rs = move_tells line p to launched out poked rs
order_tells (order.Feed text) line i j launched out poked rs = other_tells line (Text j) launched out poked rs
order_tells order.Eof line i j launched out poked rs = other_tells line Finish launched out poked rs
order_tells (order.Wait p) line i j launched out poked rs = other_tells line Nothing launched out poked rs
order_tells (order.After p count) line i j launched out poked rs = other_tells line Nothing launched out poked rs
order_tells (order.Held p) line i j launched out poked rs = other_tells line Nothing launched out poked rs
order_tells (order.Slots count) line i j launched out poked rs = other_tells line Nothing launched out poked rs

command_tells : (o : Option Order) (line i j : ℕ) (launched : Option ℕ) (out : Option Unsent) (poked : Option ℕ) (rs : List ReplyGiven) → told_by (command_deed o line i j launched out poked) rs ≡ rs
command_tells None line i j launched out poked rs = refl
command_tells (Some o) line i j launched out poked rs = order_tells o line i j launched out poked rs

got_tells : (p : ℕ) (child : Option ℕ) (ended : Bool) (came : Option Kept) (to : Option ℕ) (rs : List ReplyGiven) → told_by (got_deed p child ended came to) rs ≡ rs
got_tells p child ended None None rs = refl
got_tells p child ended None (Some to) rs = refl
got_tells p child ended (Some kept.Begins) None rs = refl
got_tells p child ended (Some kept.Begins) (Some to) rs = refl
got_tells p child ended (Some kept.Ended) None rs = refl
got_tells p child ended (Some kept.Ended) (Some to) rs = refl

told_if : (b : Bool) (p at source hops : ℕ) (line : Option ℕ) (rs : List ReplyGiven) → told_by (cond b (Told p at source hops line true) (Strange p)) rs ≡ rs
told_if true p at source hops line rs = refl
told_if false p at source hops line rs = refl

told_tells : (p at source hops : ℕ) (line poked : Option ℕ) (rs : List ReplyGiven) → told_by (told_deed p at source hops line poked) rs ≡ rs
told_tells p at source hops line None rs = refl
told_tells p at source hops line (Some q) rs = told_if (q == p) p at source hops line rs

half_tells : (heard : Bool) (other : ℕ) (chosen to : Option ℕ) (rs : List ReplyGiven) → told_by (half_deed heard other chosen to) rs ≡ rs
half_tells heard other None None rs = refl
half_tells heard other None (Some t) rs = refl
half_tells heard other (Some p) None rs = refl
half_tells heard other (Some p) (Some t) rs = refl

abbrev with_reply : Option Reply3 → List ReplyGiven → List ReplyGiven
with_reply None rs = rs
with_reply (Some r) rs = reply_given r ∷ rs

so_tells : (p : ℕ) (way : Way) (number : Option ℕ) (value : Option ℤ) (taken : Option ℕ) (ended : Option End) (more : Bool) (poked poked_too : Option ℕ) (rs : List ReplyGiven)
    → told_so p number value rs ≡ with_reply (reply_in (what.Served p way number value taken ended more poked poked_too)) rs
so_tells p way None value taken ended more poked poked_too rs = refl
so_tells p way (Some n) None taken ended more poked poked_too rs = refl
so_tells p way (Some n) (Some v) taken ended more poked poked_too rs = refl

served_tells : (p : ℕ) (way : Way) (number : Option ℕ) (value : Option ℤ) (taken : Option ℕ) (ended : Option End) (more : Bool) (poked poked_too : Option ℕ) (node : ℕ) (rs : List ReplyGiven)
    → AtHome (served_deed p (manner_of way) number value taken ended more poked poked_too) node
    → told_by (served_deed p (manner_of way) number value taken ended more poked poked_too) rs ≡ with_reply (reply_in (what.Served p way number value taken ended more poked poked_too)) rs
served_tells p way number value taken ended more None None node rs h = so_tells p way number value taken ended more None None rs
served_tells p way number value taken ended more (Some q) None node rs h = so_tells p way number value taken ended more (Some q) None rs
served_tells p way number value taken ended more (Some q) (Some r) node rs h = so_tells p way number value taken ended more (Some q) (Some r) rs
served_tells p way number value taken ended more None (Some r) node rs h = absurd h

tells : (script : List ScriptLine) (w : What) (node : ℕ) (rs : List ReplyGiven) → AtHome (deed_of script w) node → told_by (deed_of script w) rs ≡ with_reply (reply_in w) rs
tells script (what.Command line launched out poked) node rs h = command_tells (order_at line script) line (runs_before line script) (feeds_before line script) launched out poked rs
tells script (what.Steps p k) node rs h = refl
tells script (what.Sent p number) node rs h = refl
tells script (what.Heed p) node rs h = refl
tells script (what.Held p number) node rs h = refl
tells script (what.Served p way number value taken ended more poked poked_too) node rs h = served_tells p way number value taken ended more poked poked_too node rs h
tells script (what.Got p child ended came to) node rs h = got_tells p child ended came to rs
tells script (what.Poked p used) node rs h = refl
tells script (what.Begin p to line) node rs h = refl
tells script (what.Keep p to line) node rs h = refl
tells script (what.Missed p to line) node rs h = refl
tells script (what.Again p to place line) node rs h = refl
tells script (what.Allow p from need) node rs h = refl
tells script (what.Deny p from need free) node rs h = refl
tells script (what.Depart p to) node rs h = refl
tells script (what.Stay p to need free) node rs h = refl
tells script (what.Land p source) node rs h = refl
tells script (what.Told p at source hops line poked) node rs h = told_tells p at source hops line poked rs
tells script (what.Refused p to why line) node rs h = refl
tells script (what.Closed line) node rs h = refl
tells script (what.Half other chosen to) node rs h = half_tells false other chosen to rs
tells script (what.Heard other chosen to) node rs h = half_tells true other chosen to rs
tells script what.Strange node rs h = refl

-- ---- all events

one_more : (o : Option Reply3) (rs : List Reply3) → map reply_given (cons_option o rs) ≡ with_reply o (map reply_given rs)
one_more None rs = refl
one_more (Some r) rs = refl

module _ (O : Ops) where
  told_in : (es : List Event) → ScriptLaw O (all_noted O.script es) → told (all_noted O.script es) ≡ map reply_given (filter_map reply_of es)
  told_in [] l = refl
  told_in (e ∷ es) l =
      tells O.script e.what e.node (told (all_noted O.script es)) l.0.at_home
      ∙ (ap (with_reply (reply_of e)) (told_in es l.1) ∙ sym (one_more (reply_of e) (filter_map reply_of es)))

  last_one : (o : Option Reply3) (rs : List Reply3) → reverse rs ++ cons_option o [] ≡ reverse (cons_option o rs)
  last_one None rs = append-nil (reverse rs)
  last_one (Some r) rs = sym (reverse-cons r rs)

  replies_reversed : (es : List Event) → filter_map reply_of (reverse es) ≡ reverse (filter_map reply_of es)
  replies_reversed [] = refl
  replies_reversed (e ∷ es) =
      ap (filter_map reply_of) (reverse-cons e es)
      ∙ (filter_map-append reply_of (reverse es) (e ∷ []) ∙ (ap (λ (rs : List Reply3). rs ++ cons_option (reply_of e) []) (replies_reversed es) ∙ last_one (reply_of e) (filter_map reply_of es)))

  pub replies_told : (events : List Event) → ScriptLaw O (all_noted O.script (reverse events)) → replies_given (replies_in events) ≡ told (all_noted O.script (reverse events))
  replies_told events l = ap (map reply_given) (sym (replies_reversed events)) ∙ sym (told_in (reverse events) l)
