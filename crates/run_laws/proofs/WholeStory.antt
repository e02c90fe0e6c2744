-- The whole history, turn by turn: such a run is made, and then it is done.
use Rattle.std.proofs.Common.{◌≡◌, ℕ, ◌+◌, ◌==◌, ◌&&◌, inl, Bool, true, false, cond, Some, None, List, [], ◌∷◌, refl, sym, ap, arith}
use Rattle.std.specs.Prelude.{ℤ, pos}
use Rattle.call_table.specs.declared.process.End.TheVariants as end
use Rattle.protocol.specs.Ops.{Acted, is_child}
use Rattle.protocol.specs.Gossip.{Entry, told_places, gossip_after}
use Rattle.protocol.specs.Deeds.{Did, ForLine, Run, Bid, Sent, Served, Got, Begin, Allows, Depart, Land, Told, Gossips}
use Rattle.protocol.specs.Notes.{Done, Call, Reply, Go, Half, Ask, Allow, Move, Landed, letter, Turn, Body, fresh, context, Running, Waiting, Asking, Slot, Local, served_one}
use Rattle.protocol.specs.Home.{First, last, done_of, returned, born_at}
use Rattle.protocol.specs.Does.{slot_pages, hosts, reserves, lands, same, got_context, child_context, place_told}
use Rattle.protocol.specs.Cluster.{World, Goes, Reached}
use Rattle.protocol.proofs.Process.{cond_off, cond_same}
use Rattle.protocol.proofs.Progress.{itself}
use Rattle.run_laws.specs.Schedule.{the_machine}
use Rattle.run_laws.specs.SmallMachine.{ExitCall, ForkCall, Table, new_table, grown, ended, exit_by, fork_by}
use Rattle.run_laws.specs.Histories.{read, move_script}
use Rattle.run_laws.specs.WholeStory.{traveller, travel_events, travel_done}
use Rattle.run_laws.proofs.EndRuns.{fresh_node, pair, pair_starts, home_only, away_only, take_all}

abbrev home0 : Local traveller
home0 = fresh_node traveller new_table

abbrev away0 : Local traveller
away0 = fresh_node traveller new_table

abbrev world0 : World traveller
world0 = pair traveller new_table home0 away0 0 0 []

abbrev body1 : Body traveller
body1 = fresh traveller (traveller.loaded 0 1)

abbrev home1 : Local traveller
home1 = record { clock = 1; kernel = grown new_table; slots = λ q. cond (q == 1) (hosts traveller (Some (context traveller body1 Running)) (home0.slots q)) (home0.slots q); believed = λ q. cond (q == 1) (record { place = 0; hops = 0 }) (home0.believed q); progress = record { line = 2; done = 1; launched = 1 ∷ []; served = λ p. 0 }; gossip = home0.gossip }

abbrev turn1 : Turn traveller
turn1 = record { event = record { stamp = 1; node = 0; what = Run 1 0 1 }; taken = None; posted = [] }

abbrev world1 : World traveller
world1 = pair traveller new_table home1 away0 0 0 ([])

goes1 : Goes traveller world0 turn1 world1
goes1 = record { makes = record { node = refl; below = omega arith; stamp_is = omega arith; clock = refl; does = record { home = refl; image = refl; launched = refl; next = refl; base = record { took = refl; posts = refl; slots = λ q. refl }; gossip = refl; believed = λ q. refl; words = []; order = record { next = refl; enabled = λ z. cc; rises = omega arith; is = itself _ } } }; elsewhere = λ m ne. home_only traveller new_table home0 home1 away0 m ne; rest = λ a b. []; takes = λ a b. cond_same ((a == 0) && (b == 0)) []; posts = λ a b. cond_same ((a == 0) && (b == 0)) [] }

abbrev own2 : Entry
own2 = record { node = 0; load = 1; free = 3; stamp = 2 }

abbrev own3 : Entry
own3 = record { node = 1; load = 0; free = 4; stamp = 3 }

abbrev home2 : Local traveller
home2 = record { clock = 2; kernel = home1.kernel; slots = home1.slots; believed = home1.believed; progress = home1.progress; gossip = gossip_after false own2 [] home1.gossip }

abbrev turn2 : Turn traveller
turn2 = record { event = record { stamp = 2; node = 0; what = Gossips false 1 }; taken = None; posted = letter traveller 0 1 2 (Half (told_places own2 home1.gossip)) ∷ [] }

abbrev world2 : World traveller
world2 = pair traveller new_table home2 away0 0 1 (letter traveller 0 1 2 (Half (told_places own2 home1.gossip)) ∷ [])

goes2 : Goes traveller world1 turn2 world2
goes2 = record { makes = record { node = refl; below = omega arith; stamp_is = omega arith; clock = refl; does = record { talks = record { own = own2; places = told_places own2 home1.gossip; stamp = 0; used = 1; in_use = record { bound = 2; beyond = λ p less. ap (λ (s : Slot traveller). slot_pages traveller s) (cond_off p 1 _ _ (λ e. omega (arith, less, e))); sum = refl }; loaded = record { bound = 2; beyond = λ p less. ap (λ (s : Slot traveller). s.context) (cond_off p 1 _ _ (λ e. omega (arith, less, e))); sum = refl }; own_is = refl; sends = (omega arith, inl (omega arith, refl), refl); gossip = refl; movable = record { pid = 1; pages = 1 } ∷ []; can_move = record { bound = 2; beyond = λ p less. ap (λ (s : Slot traveller). s.context) (cond_off p 1 _ _ (λ e. omega (arith, less, e))); is = refl }; chooses = refl }; base = record { took = refl; posts = refl; slots = λ q. sym (cond_same (q == 0) (home1.slots q)) }; still = record { kernel = refl; believed = λ q. refl; progress = refl } } }; elsewhere = λ m ne. home_only traveller new_table home1 home2 away0 m ne; rest = λ a b. []; takes = λ a b. cond_same ((a == 0) && (b == 0)) []; posts = λ a b. refl }

abbrev away1 : Local traveller
away1 = record { clock = 3; kernel = away0.kernel; slots = away0.slots; believed = away0.believed; progress = away0.progress; gossip = gossip_after true own3 (told_places own2 home1.gossip) away0.gossip }

abbrev turn3 : Turn traveller
turn3 = record { event = record { stamp = 3; node = 1; what = Gossips true 0 }; taken = Some (letter traveller 0 1 2 (Half (told_places own2 home1.gossip))); posted = [] }

abbrev world3 : World traveller
world3 = pair traveller new_table home2 away1 0 0 ([])

goes3 : Goes traveller world2 turn3 world3
goes3 = record { makes = record { node = refl; below = omega arith; stamp_is = omega arith; clock = refl; does = record { talks = record { own = own3; places = told_places own2 home1.gossip; stamp = 2; used = 0; in_use = record { bound = 0; beyond = λ p less. refl; sum = refl }; loaded = record { bound = 0; beyond = λ p less. refl; sum = refl }; own_is = refl; sends = tt; gossip = refl; movable = []; can_move = record { bound = 0; beyond = λ p less. refl; is = refl }; chooses = refl }; base = record { took = refl; posts = refl; slots = λ q. sym (cond_same (q == 0) (away0.slots q)) }; still = record { kernel = refl; believed = λ q. refl; progress = refl } } }; elsewhere = λ m ne. away_only traveller new_table home2 away0 away1 m ne; rest = λ a b. []; takes = λ a b. take_all traveller ((a == 0) && (b == 1)) _; posts = λ a b. cond_same ((a == 0) && (b == 0)) [] }

abbrev home3 : Local traveller
home3 = record { clock = 3; kernel = home2.kernel; slots = λ q. cond (q == 1) (hosts traveller (Some (context traveller body1 (Waiting false None))) (home2.slots q)) (home2.slots q); believed = home2.believed; progress = home2.progress; gossip = home2.gossip }

abbrev turn4 : Turn traveller
turn4 = record { event = record { stamp = 3; node = 0; what = Sent 1 4 }; taken = None; posted = letter traveller 0 0 3 (Call 1 (ForkCall)) ∷ [] }

abbrev world4 : World traveller
world4 = pair traveller new_table home3 away1 0 0 (letter traveller 0 0 3 (Call 1 (ForkCall)) ∷ [])

goes4 : Goes traveller world3 turn4 world4
goes4 = record { makes = record { node = refl; below = omega arith; stamp_is = omega arith; clock = refl; does = record { body = body1; request = ForkCall; was = refl; unpoked = refl; asks = refl; number_is = refl; base = record { took = refl; posts = refl; slots = λ q. refl }; still = record { kernel = refl; believed = λ q. refl; progress = refl; gossip = refl } } }; elsewhere = λ m ne. home_only traveller new_table home2 home3 away1 m ne; rest = λ a b. []; takes = λ a b. cond_same ((a == 0) && (b == 0)) []; posts = λ a b. refl }

abbrev acted5 : Acted Table ℤ
acted5 = fork_by true 1 home3.kernel

abbrev first5 : First traveller
first5 = record { kernel = acted5.kernel; answer = Some (acted5.answer); child = Some 2; raised = None }

abbrev done5 : Done traveller
done5 = done_of traveller 1 first5 (last traveller first5.kernel 1 true)

abbrev home4 : Local traveller
home4 = record { clock = 4; kernel = acted5.kernel; slots = λ q. cond (q == 1) (same traveller (home3.slots q)) (home3.slots q); believed = born_at traveller 0 (Some 2) home3.believed; progress = served_one 1 home3.progress; gossip = home3.gossip }

abbrev turn5 : Turn traveller
turn5 = record { event = record { stamp = 4; node = 0; what = Served 1 Did (Some 4) (Some (pos 2)) (Some 2) None None false [] }; taken = Some (letter traveller 0 0 3 (Call 1 (ForkCall))); posted = letter traveller 0 0 4 (Reply 1 done5) ∷ [] }

abbrev world5 : World traveller
world5 = pair traveller new_table home4 away1 0 0 (letter traveller 0 0 4 (Reply 1 done5) ∷ [])

goes5 : Goes traveller world4 turn5 world5
goes5 = record { makes = record { node = refl; below = omega arith; stamp_is = omega arith; clock = refl; does = inl (record { home = refl; from = 0; stamp = 3; request = ForkCall; first = first5; acts = (acted5, refl, λ z. omega (arith, z), refl); answers = record { kernel = refl; value_is = refl; child_is = refl; signal_is = refl; end_is = refl; more_is = refl }; number_is = refl; tells = refl; base = record { took = refl; posts = refl; slots = λ q. refl }; gossip = refl; believed = λ q. refl; progress = itself _ }) }; elsewhere = λ m ne. home_only traveller new_table home3 home4 away1 m ne; rest = λ a b. []; takes = λ a b. take_all traveller ((a == 0) && (b == 0)) _; posts = λ a b. refl }

abbrev home5 : Local traveller
home5 = record { clock = 5; kernel = home4.kernel; slots = λ q. cond (q == 1) (hosts traveller (got_context traveller body1 None done5) (home4.slots q)) (cond (is_child (Some 2) q) (hosts traveller (child_context traveller body1.user (Some 2)) (home4.slots q)) (home4.slots q)); believed = home4.believed; progress = home4.progress; gossip = home4.gossip }

abbrev turn6 : Turn traveller
turn6 = record { event = record { stamp = 5; node = 0; what = Got 1 (Some 2) false None }; taken = Some (letter traveller 0 0 4 (Reply 1 done5)); posted = [] }

abbrev world6 : World traveller
world6 = pair traveller new_table home5 away1 0 0 ([])

goes6 : Goes traveller world5 turn6 world6
goes6 = record { makes = record { node = refl; below = omega arith; stamp_is = omega arith; clock = refl; does = record { from = 0; stamp = 4; body = body1; pause = false; keeps = None; done = done5; was = refl; child_is = refl; ended_is = refl; kept_is = refl; base = record { took = refl; posts = refl; slots = λ q. refl }; still = record { kernel = refl; believed = λ q. refl; progress = refl; gossip = refl } } }; elsewhere = λ m ne. home_only traveller new_table home4 home5 away1 m ne; rest = λ a b. []; takes = λ a b. take_all traveller ((a == 0) && (b == 0)) _; posts = λ a b. cond_same ((a == 0) && (b == 0)) [] }

abbrev body2 : Body traveller
body2 = returned traveller body1 done5

abbrev child2 : Body traveller
child2 = fresh traveller (traveller.forked body1.user 2)

abbrev home6 : Local traveller
home6 = record { clock = 6; kernel = home5.kernel; slots = home5.slots; believed = home5.believed; progress = record { line = 3; done = 2; launched = home5.progress.launched; served = home5.progress.served }; gossip = home5.gossip }

abbrev turn7 : Turn traveller
turn7 = record { event = record { stamp = 6; node = 0; what = Bid 2 1 1 }; taken = None; posted = letter traveller 0 0 6 (Go 1 1 0 2) ∷ [] }

abbrev world7 : World traveller
world7 = pair traveller new_table home6 away1 0 0 (letter traveller 0 0 6 (Go 1 1 0 2) ∷ [])

goes7 : Goes traveller world6 turn7 world7
goes7 = record { makes = record { node = refl; below = omega arith; stamp_is = omega arith; clock = refl; does = record { home = refl; live = refl; base = record { took = refl; posts = refl; slots = λ q. sym (cond_same (q == 1) (home5.slots q)) }; kernel = refl; gossip = refl; believed = λ q. refl; order = record { next = refl; enabled = tt; rises = omega arith; is = itself _ } } }; elsewhere = λ m ne. home_only traveller new_table home5 home6 away1 m ne; rest = λ a b. []; takes = λ a b. cond_same ((a == 0) && (b == 0)) []; posts = λ a b. refl }

abbrev home7 : Local traveller
home7 = record { clock = 7; kernel = home6.kernel; slots = λ q. cond (q == 1) (hosts traveller (Some (context traveller body2 (Asking 1 (Some 2)))) (home6.slots q)) (home6.slots q); believed = home6.believed; progress = home6.progress; gossip = home6.gossip }

abbrev turn8 : Turn traveller
turn8 = record { event = record { stamp = 7; node = 0; what = Begin 1 1 (ForLine 2) }; taken = Some (letter traveller 0 0 6 (Go 1 1 0 2)); posted = letter traveller 0 1 7 (Ask 1 1) ∷ [] }

abbrev world8 : World traveller
world8 = pair traveller new_table home7 away1 0 1 (letter traveller 0 1 7 (Ask 1 1) ∷ [])

goes8 : Goes traveller world7 turn8 world8
goes8 = record { makes = record { node = refl; below = omega arith; stamp_is = omega arith; clock = refl; does = record { body = body2; was = refl; away = λ z. omega (arith, z); why = record { from = 0; stamp = 6; hops = 0; gossip = refl }; base = record { took = refl; posts = refl; slots = λ q. refl }; still = record { kernel = refl; believed = λ q. refl; progress = refl } } }; elsewhere = λ m ne. home_only traveller new_table home6 home7 away1 m ne; rest = λ a b. []; takes = λ a b. take_all traveller ((a == 0) && (b == 0)) _; posts = λ a b. refl }

abbrev away2 : Local traveller
away2 = record { clock = 8; kernel = away1.kernel; slots = λ q. cond (q == 1) (reserves traveller (Some 1) (away1.slots q)) (away1.slots q); believed = away1.believed; progress = away1.progress; gossip = away1.gossip }

abbrev turn9 : Turn traveller
turn9 = record { event = record { stamp = 8; node = 1; what = Allows 1 0 1 }; taken = Some (letter traveller 0 1 7 (Ask 1 1)); posted = letter traveller 1 0 8 (Allow 1) ∷ [] }

abbrev world9 : World traveller
world9 = pair traveller new_table home7 away2 1 0 (letter traveller 1 0 8 (Allow 1) ∷ [])

goes9 : Goes traveller world8 turn9 world9
goes9 = record { makes = record { node = refl; below = omega arith; stamp_is = omega arith; clock = refl; does = record { stamp = 7; used = 0; in_use = record { bound = 0; beyond = λ p less. refl; sum = refl }; room = omega arith; base = record { took = refl; posts = refl; slots = λ q. refl }; still = record { kernel = refl; believed = λ q. refl; progress = refl; gossip = refl } } }; elsewhere = λ m ne. away_only traveller new_table home7 away1 away2 m ne; rest = λ a b. []; takes = λ a b. take_all traveller ((a == 0) && (b == 1)) _; posts = λ a b. refl }

abbrev home8 : Local traveller
home8 = record { clock = 9; kernel = home7.kernel; slots = λ q. cond (q == 1) (hosts traveller None (home7.slots q)) (home7.slots q); believed = home7.believed; progress = home7.progress; gossip = home7.gossip }

abbrev turn10 : Turn traveller
turn10 = record { event = record { stamp = 9; node = 0; what = Depart 1 1 }; taken = Some (letter traveller 1 0 8 (Allow 1)); posted = letter traveller 0 1 9 (Move 1 body2.user body2.hops (Some 2)) ∷ [] }

abbrev world10 : World traveller
world10 = pair traveller new_table home8 away2 0 1 (letter traveller 0 1 9 (Move 1 body2.user body2.hops (Some 2)) ∷ [])

goes10 : Goes traveller world9 turn10 world10
goes10 = record { makes = record { node = refl; below = omega arith; stamp_is = omega arith; clock = refl; does = record { stamp = 8; body = body2; line = Some 2; was = refl; base = record { took = refl; posts = refl; slots = λ q. refl }; still = record { kernel = refl; believed = λ q. refl; progress = refl; gossip = refl } } }; elsewhere = λ m ne. home_only traveller new_table home7 home8 away2 m ne; rest = λ a b. []; takes = λ a b. take_all traveller ((a == 1) && (b == 0)) _; posts = λ a b. refl }

abbrev body3 : Body traveller
body3 = record { user = body2.user; hops = body2.hops + 1; poked = false }

abbrev away3 : Local traveller
away3 = record { clock = 10; kernel = away2.kernel; slots = λ q. cond (q == 1) (lands traveller (Some (context traveller body3 Running)) (away2.slots q)) (away2.slots q); believed = away2.believed; progress = away2.progress; gossip = away2.gossip }

abbrev turn11 : Turn traveller
turn11 = record { event = record { stamp = 10; node = 1; what = Land 1 0 }; taken = Some (letter traveller 0 1 9 (Move 1 body2.user body2.hops (Some 2))); posted = letter traveller 1 0 10 (Landed 1 0 (body2.hops + 1) (Some 2)) ∷ [] }

abbrev world11 : World traveller
world11 = pair traveller new_table home8 away3 1 0 (letter traveller 1 0 10 (Landed 1 0 (body2.hops + 1) (Some 2)) ∷ [])

goes11 : Goes traveller world10 turn11 world11
goes11 = record { makes = record { node = refl; below = omega arith; stamp_is = omega arith; clock = refl; does = record { stamp = 9; user = body2.user; hops = body2.hops; line = Some 2; base = record { took = refl; posts = refl; slots = λ q. refl }; still = record { kernel = refl; believed = λ q. refl; progress = refl; gossip = refl } } }; elsewhere = λ m ne. away_only traveller new_table home8 away2 away3 m ne; rest = λ a b. []; takes = λ a b. take_all traveller ((a == 0) && (b == 1)) _; posts = λ a b. refl }

abbrev home9 : Local traveller
home9 = record { clock = 11; kernel = home8.kernel; slots = home8.slots; believed = λ q. cond (q == 1) (place_told traveller 1 1 true (home8.believed 1)) (home8.believed q); progress = home8.progress; gossip = home8.gossip }

abbrev turn12 : Turn traveller
turn12 = record { event = record { stamp = 11; node = 0; what = Told 1 1 0 1 (Some 2) false }; taken = Some (letter traveller 1 0 10 (Landed 1 0 (body2.hops + 1) (Some 2))); posted = [] }

abbrev world12 : World traveller
world12 = pair traveller new_table home9 away3 0 0 ([])

goes12 : Goes traveller world11 turn12 world12
goes12 = record { makes = record { node = refl; below = omega arith; stamp_is = omega arith; clock = refl; does = record { home = refl; stamp = 10; later = true; later_is = omega arith; tells = refl; base = record { took = refl; posts = refl; slots = λ q. sym (cond_same (q == 1) (home8.slots q)) }; kernel = refl; gossip = refl; believed = λ q. refl; progress = refl } }; elsewhere = λ m ne. home_only traveller new_table home8 home9 away3 m ne; rest = λ a b. []; takes = λ a b. take_all traveller ((a == 1) && (b == 0)) _; posts = λ a b. cond_same ((a == 0) && (b == 0)) [] }

abbrev away4 : Local traveller
away4 = record { clock = 11; kernel = away3.kernel; slots = λ q. cond (q == 1) (hosts traveller (Some (context traveller body3 (Waiting false None))) (away3.slots q)) (away3.slots q); believed = away3.believed; progress = away3.progress; gossip = away3.gossip }

abbrev turn13 : Turn traveller
turn13 = record { event = record { stamp = 11; node = 1; what = Sent 1 1 }; taken = None; posted = letter traveller 1 0 11 (Call 1 (ExitCall 7)) ∷ [] }

abbrev world13 : World traveller
world13 = pair traveller new_table home9 away4 1 0 (letter traveller 1 0 11 (Call 1 (ExitCall 7)) ∷ [])

goes13 : Goes traveller world12 turn13 world13
goes13 = record { makes = record { node = refl; below = omega arith; stamp_is = omega arith; clock = refl; does = record { body = body3; request = ExitCall 7; was = refl; unpoked = refl; asks = refl; number_is = refl; base = record { took = refl; posts = refl; slots = λ q. refl }; still = record { kernel = refl; believed = λ q. refl; progress = refl; gossip = refl } } }; elsewhere = λ m ne. away_only traveller new_table home9 away3 away4 m ne; rest = λ a b. []; takes = λ a b. cond_same ((a == 0) && (b == 0)) []; posts = λ a b. refl }

abbrev acted14 : Acted Table ℤ
acted14 = exit_by 0 (ended 1 (end.Exit 7) home9.kernel)

abbrev first14 : First traveller
first14 = record { kernel = acted14.kernel; answer = Some (acted14.answer); child = None; raised = None }

abbrev done14 : Done traveller
done14 = done_of traveller 1 first14 (last traveller first14.kernel 1 true)

abbrev home10 : Local traveller
home10 = record { clock = 12; kernel = acted14.kernel; slots = λ q. cond (q == 1) (same traveller (home9.slots q)) (home9.slots q); believed = home9.believed; progress = served_one 1 home9.progress; gossip = home9.gossip }

abbrev turn14 : Turn traveller
turn14 = record { event = record { stamp = 12; node = 0; what = Served 1 Did (Some 1) (Some (pos 0)) None None (Some (end.Exit 7)) false [] }; taken = Some (letter traveller 1 0 11 (Call 1 (ExitCall 7))); posted = letter traveller 0 1 12 (Reply 1 done14) ∷ [] }

abbrev world14 : World traveller
world14 = pair traveller new_table home10 away4 0 1 (letter traveller 0 1 12 (Reply 1 done14) ∷ [])

goes14 : Goes traveller world13 turn14 world14
goes14 = record { makes = record { node = refl; below = omega arith; stamp_is = omega arith; clock = refl; does = inl (record { home = refl; from = 1; stamp = 11; request = ExitCall 7; first = first14; acts = (acted14, refl, λ z. omega (arith, z), refl); answers = record { kernel = refl; value_is = refl; child_is = refl; signal_is = refl; end_is = refl; more_is = refl }; number_is = refl; tells = refl; base = record { took = refl; posts = refl; slots = λ q. refl }; gossip = refl; believed = λ q. refl; progress = itself _ }) }; elsewhere = λ m ne. home_only traveller new_table home9 home10 away4 m ne; rest = λ a b. []; takes = λ a b. take_all traveller ((a == 1) && (b == 0)) _; posts = λ a b. refl }

abbrev away5 : Local traveller
away5 = record { clock = 13; kernel = away4.kernel; slots = λ q. cond (q == 1) (hosts traveller (got_context traveller body3 None done14) (away4.slots q)) (away4.slots q); believed = away4.believed; progress = away4.progress; gossip = away4.gossip }

abbrev turn15 : Turn traveller
turn15 = record { event = record { stamp = 13; node = 1; what = Got 1 (None) true None }; taken = Some (letter traveller 0 1 12 (Reply 1 done14)); posted = [] }

abbrev world15 : World traveller
world15 = pair traveller new_table home10 away5 0 0 ([])

goes15 : Goes traveller world14 turn15 world15
goes15 = record { makes = record { node = refl; below = omega arith; stamp_is = omega arith; clock = refl; does = record { from = 0; stamp = 12; body = body3; pause = false; keeps = None; done = done14; was = refl; child_is = refl; ended_is = refl; kept_is = refl; base = record { took = refl; posts = refl; slots = λ q. refl }; still = record { kernel = refl; believed = λ q. refl; progress = refl; gossip = refl } } }; elsewhere = λ m ne. away_only traveller new_table home10 away4 away5 m ne; rest = λ a b. []; takes = λ a b. take_all traveller ((a == 0) && (b == 1)) _; posts = λ a b. cond_same ((a == 0) && (b == 0)) [] }

abbrev home11 : Local traveller
home11 = record { clock = 13; kernel = home10.kernel; slots = λ q. cond (q == 2) (hosts traveller (Some (context traveller child2 (Waiting false None))) (home10.slots q)) (home10.slots q); believed = home10.believed; progress = home10.progress; gossip = home10.gossip }

abbrev turn16 : Turn traveller
turn16 = record { event = record { stamp = 13; node = 0; what = Sent 2 1 }; taken = None; posted = letter traveller 0 0 13 (Call 2 (ExitCall 7)) ∷ [] }

abbrev world16 : World traveller
world16 = pair traveller new_table home11 away5 0 0 (letter traveller 0 0 13 (Call 2 (ExitCall 7)) ∷ [])

goes16 : Goes traveller world15 turn16 world16
goes16 = record { makes = record { node = refl; below = omega arith; stamp_is = omega arith; clock = refl; does = record { body = child2; request = ExitCall 7; was = refl; unpoked = refl; asks = refl; number_is = refl; base = record { took = refl; posts = refl; slots = λ q. refl }; still = record { kernel = refl; believed = λ q. refl; progress = refl; gossip = refl } } }; elsewhere = λ m ne. home_only traveller new_table home10 home11 away5 m ne; rest = λ a b. []; takes = λ a b. cond_same ((a == 0) && (b == 0)) []; posts = λ a b. refl }

abbrev acted17 : Acted Table ℤ
acted17 = exit_by 1 (ended 2 (end.Exit 7) home11.kernel)

abbrev first17 : First traveller
first17 = record { kernel = acted17.kernel; answer = Some (acted17.answer); child = None; raised = None }

abbrev done17 : Done traveller
done17 = done_of traveller 2 first17 (last traveller first17.kernel 2 true)

abbrev home12 : Local traveller
home12 = record { clock = 14; kernel = acted17.kernel; slots = λ q. cond (q == 2) (same traveller (home11.slots q)) (home11.slots q); believed = home11.believed; progress = served_one 2 home11.progress; gossip = home11.gossip }

abbrev turn17 : Turn traveller
turn17 = record { event = record { stamp = 14; node = 0; what = Served 2 Did (Some 1) (Some (pos 0)) None None (Some (end.Exit 7)) false [] }; taken = Some (letter traveller 0 0 13 (Call 2 (ExitCall 7))); posted = letter traveller 0 0 14 (Reply 2 done17) ∷ [] }

abbrev world17 : World traveller
world17 = pair traveller new_table home12 away5 0 0 (letter traveller 0 0 14 (Reply 2 done17) ∷ [])

goes17 : Goes traveller world16 turn17 world17
goes17 = record { makes = record { node = refl; below = omega arith; stamp_is = omega arith; clock = refl; does = inl (record { home = refl; from = 0; stamp = 13; request = ExitCall 7; first = first17; acts = (acted17, refl, λ z. omega (arith, z), refl); answers = record { kernel = refl; value_is = refl; child_is = refl; signal_is = refl; end_is = refl; more_is = refl }; number_is = refl; tells = refl; base = record { took = refl; posts = refl; slots = λ q. refl }; gossip = refl; believed = λ q. refl; progress = itself _ }) }; elsewhere = λ m ne. home_only traveller new_table home11 home12 away5 m ne; rest = λ a b. []; takes = λ a b. take_all traveller ((a == 0) && (b == 0)) _; posts = λ a b. refl }

abbrev home13 : Local traveller
home13 = record { clock = 15; kernel = home12.kernel; slots = λ q. cond (q == 2) (hosts traveller (got_context traveller child2 None done17) (home12.slots q)) (home12.slots q); believed = home12.believed; progress = home12.progress; gossip = home12.gossip }

abbrev turn18 : Turn traveller
turn18 = record { event = record { stamp = 15; node = 0; what = Got 2 (None) true None }; taken = Some (letter traveller 0 0 14 (Reply 2 done17)); posted = [] }

abbrev world18 : World traveller
world18 = pair traveller new_table home13 away5 0 0 ([])

goes18 : Goes traveller world17 turn18 world18
goes18 = record { makes = record { node = refl; below = omega arith; stamp_is = omega arith; clock = refl; does = record { from = 0; stamp = 14; body = child2; pause = false; keeps = None; done = done17; was = refl; child_is = refl; ended_is = refl; kept_is = refl; base = record { took = refl; posts = refl; slots = λ q. refl }; still = record { kernel = refl; believed = λ q. refl; progress = refl; gossip = refl } } }; elsewhere = λ m ne. home_only traveller new_table home12 home13 away5 m ne; rest = λ a b. []; takes = λ a b. take_all traveller ((a == 0) && (b == 0)) _; posts = λ a b. cond_same ((a == 0) && (b == 0)) [] }

abbrev pub travel_turns : List (Turn traveller)
travel_turns = turn18 ∷ turn17 ∷ turn16 ∷ turn15 ∷ turn14 ∷ turn13 ∷ turn12 ∷ turn11 ∷ turn10 ∷ turn9 ∷ turn8 ∷ turn7 ∷ turn6 ∷ turn5 ∷ turn4 ∷ turn3 ∷ turn2 ∷ turn1 ∷ []

pub travel_reached : Reached traveller travel_turns world18
travel_reached = (world17, (world16, (world15, (world14, (world13, (world12, (world11, (world10, (world9, (world8, (world7, (world6, (world5, (world4, (world3, (world2, (world1, (world0, pair_starts traveller new_table refl, goes1), goes2), goes3), goes4), goes5), goes6), goes7), goes8), goes9), goes10), goes11), goes12), goes13), goes14), goes15), goes16), goes17), goes18)

pub travel_over : travel_done
travel_over = record { script = refl; ended = λ p. go p (p == 1) (p == 2) refl refl }
  where
    go : (p : ℕ) (a b : Bool) → (p == 1) ≡ a → (p == 2) ≡ b → (the_machine traveller (read move_script travel_events)).kernel.alive p ≡ false
    go p true true e f = rw (e, f) refl
    go p true false e f = rw (e, f) refl
    go p false true e f = rw (e, f) refl
    go p false false e f = rw (e, f) refl
