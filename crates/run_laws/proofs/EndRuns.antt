-- The worked ends, turn by turn: such runs are made, and then every link is empty and every node rests.
use Rattle.std.proofs.Common.{◌≡◌, ◌≢◌, ℕ, zero, suc, ◌<◌, ◌==◌, ◌&&◌, inl, inr, Bool, true, false, cond, Some, None, List, [], ◌∷◌, ◌++◌, refl, sym, ap, ◌∙◌, subst, arith}
use Rattle.std.specs.Prelude.{ℤ, pos, slice_get}
use Rattle.call_table.specs.declared.process.End.TheVariants as end
use Rattle.node_event.specs.declared.script.Order.TheVariants as order
use Rattle.node_event.specs.declared.script.ScriptLine.{ScriptLine}
use Rattle.protocol.specs.Ops.{Ops, Sound, Acted}
use Rattle.protocol.specs.Gossip.{Entry, no_gossip, one_step, told_places, gossip_after}
use Rattle.protocol.specs.Deeds.{order_at, Did, Run, Bid, Steps, Sent, Held, Served, Got, Keep, Gossips}
use Rattle.protocol.specs.Notes.{Done, Call, Reply, Go, Half, Slot, Post, letter, Turn, Body, fresh, context, Running, Waiting, Local, no_progress, served_one}
use Rattle.protocol.specs.Home.{First, last, done_of, returned}
use Rattle.protocol.specs.Does.{slot_pages, hosts, holds, same, got_context}
use Rattle.protocol.specs.Cluster.{World, Goes, Starts, Reached, events}
use Rattle.protocol.specs.Rests.{Kind, Applies, AllRest}
use Rattle.protocol.proofs.Process.{cond_off, cond_same}
use Rattle.run_laws.specs.Machine.{MachineState}
use Rattle.run_laws.specs.Due.{DueAs}
use Rattle.run_laws.specs.Ending.{Ending}
use Rattle.run_laws.specs.SmallMachine.{no_choice, ExitCall, ReadCall, WriteCall, Table, Goes as Step, Calls, new_table, grown, ended, plain, exit_by}
use Rattle.run_laws.specs.Histories.{program, hello_script, hello}
use Rattle.run_laws.specs.EndStories.{reader_script, reader, keeper_script, keeper}
use Rattle.run_laws.proofs.SmallMachine.{sound_of, sound}
use Rattle.run_laws.proofs.Ending.{end_of_runs}
use Rattle.run_laws.proofs.EndStories.{hello_end, hello_nothing, reader_end, reader_nothing, keeper_end, keeper_nothing}
use Rattle.protocol.proofs.Progress.{itself}

-- a script of one launch asks for no move
one_line : (k : ℕ) (s : ScriptLine) → slice_get reader_script k ≡ Some s → order_at s.line reader_script ≡ Some s.order
one_line zero s e = let same : record { line = 1; order = order.Run [] } ≡ s = cc in subst (λ (x : ScriptLine). order_at x.line reader_script ≡ Some x.order) same refl
one_line (suc k) s e = absurd cc

no_target : (l p to : ℕ) → order_at l reader_script ≡ Some (order.Move p to) → to < 1
no_target l p to e = go (1 == l) e
  where
    go : (a : Bool) → cond a (Some (order.Run [])) None ≡ Some (order.Move p to) → to < 1
    go true x = absurd cc
    go false x = absurd cc

two_lines : (k : ℕ) (s : ScriptLine) → slice_get keeper_script k ≡ Some s → order_at s.line keeper_script ≡ Some s.order
two_lines zero s e = let same : record { line = 1; order = order.Run [] } ≡ s = cc in subst (λ (x : ScriptLine). order_at x.line keeper_script ≡ Some x.order) same refl
two_lines (suc zero) s e = let same : record { line = 2; order = order.Move 1 1 } ≡ s = cc in subst (λ (x : ScriptLine). order_at x.line keeper_script ≡ Some x.order) same refl
two_lines (suc (suc k)) s e = absurd cc

one_target : (l p to : ℕ) → order_at l keeper_script ≡ Some (order.Move p to) → to < 2
one_target l p to e = go (1 == l) (2 == l) e
  where
    go : (a b : Bool) → cond a (Some (order.Run [])) (cond b (Some (order.Move 1 1)) None) ≡ Some (order.Move p to) → to < 2
    go true b x = absurd cc
    go false true x = let same : 1 ≡ to = cc in omega (arith, same)
    go false false x = absurd cc

pub hello_sound : Sound hello
hello_sound = sound_of 1 no_choice (omega arith) (λ s c e. absurd cc) hello_script (program (Step ∷ Step ∷ Step ∷ Step ∷ Step ∷ Calls (WriteCall 3) ∷ Step ∷ Step ∷ Calls (ExitCall 0) ∷ []) ∷ []) one_line no_target

reader_sound : Sound reader
reader_sound = sound_of 1 no_choice (omega arith) (λ s c e. absurd cc) reader_script (program (Calls ReadCall ∷ []) ∷ []) one_line no_target

keeper_sound : Sound keeper
keeper_sound = sound keeper_script (program (Calls ReadCall ∷ []) ∷ []) two_lines one_target

module _ (O : Ops) where
  some_machine : (a b : MachineState O) → Some a ≡ Some b → a ≡ b
  some_machine a b e = cc

  abbrev pub fresh_node : O.Kernel → Local O
  fresh_node k = record { clock = 0; kernel = k; slots = λ p. record { context = None; reserve = None; call = None }; believed = λ p. record { place = 0; hops = 0 }; progress = no_progress; gossip = no_gossip }

  -- home and its letters to itself, the other nodes being fresh
  abbrev pub alone : O.Kernel → Local O → List (Post O) → World O
  alone k home link = record { nodes = λ n. cond (n == 0) home (fresh_node k); links = λ a b. cond ((a == 0) && (b == 0)) link [] }

  starts : (k : O.Kernel) → k ≡ O.new_kernel → Starts O (alone k (fresh_node k) [])
  starts k e = record { nodes = λ n. go n (n == 0); links = λ a b. cond_same ((a == 0) && (b == 0)) [] }
    where
      go : (n : ℕ) (b : Bool) → Rattle.protocol.specs.Cluster.Fresh O n (cond b (fresh_node k) (fresh_node k))
      go n true = record { clock = refl; slots = λ p. refl; gossip = refl; home = λ x. record { kernel = e; progress = refl; believed = λ p. refl } }
      go n false = record { clock = refl; slots = λ p. refl; gossip = refl; home = λ x. record { kernel = e; progress = refl; believed = λ p. refl } }

  -- home and one more node, with one link between them
  abbrev pub pair : O.Kernel → Local O → Local O → ℕ → ℕ → List (Post O) → World O
  pair k home away a b link = record { nodes = λ n. cond (n == 0) home (cond (n == 1) away (fresh_node k)); links = λ x y. cond ((x == a) && (y == b)) link [] }

  pub pair_starts : (k : O.Kernel) → k ≡ O.new_kernel → Starts O (pair k (fresh_node k) (fresh_node k) 0 0 [])
  pair_starts k e = record { nodes = λ n. go n (n == 0) (n == 1); links = λ a b. cond_same ((a == 0) && (b == 0)) [] }
    where
      fresh_is : (n : ℕ) → Rattle.protocol.specs.Cluster.Fresh O n (fresh_node k)
      fresh_is n = record { clock = refl; slots = λ p. refl; gossip = refl; home = λ x. record { kernel = e; progress = refl; believed = λ p. refl } }

      go : (n : ℕ) (b c : Bool) → Rattle.protocol.specs.Cluster.Fresh O n (cond b (fresh_node k) (cond c (fresh_node k) (fresh_node k)))
      go n true c = fresh_is n
      go n false true = fresh_is n
      go n false false = fresh_is n

  pub home_only : (k : O.Kernel) (old new away : Local O) (m : ℕ) → m ≢ 0 → cond (m == 0) new (cond (m == 1) away (fresh_node k)) ≡ cond (m == 0) old (cond (m == 1) away (fresh_node k))
  home_only k old new away m ne = cond_off m 0 new _ ne ∙ sym (cond_off m 0 old _ ne)

  pub away_only : (k : O.Kernel) (home old new : Local O) (m : ℕ) → m ≢ 1 → cond (m == 0) home (cond (m == 1) new (fresh_node k)) ≡ cond (m == 0) home (cond (m == 1) old (fresh_node k))
  away_only k home old new m ne = ap (λ (x : Local O). cond (m == 0) home x) (cond_off m 1 new _ ne ∙ sym (cond_off m 1 old _ ne))

  pub take_all : (k : Bool) (l : Post O) → cond k (l ∷ []) [] ≡ cond k (l ∷ []) [] ++ []
  take_all true l = refl
  take_all false l = refl

  takes_one : (k : Bool) (l : Post O) → cond k (l ∷ []) [] ≡ cond k (l ∷ []) [] ++ cond k [] []
  takes_one true l = refl
  takes_one false l = refl

  posts_one : (k : Bool) (l : Post O) → cond k (l ∷ []) [] ≡ cond k [] [] ++ cond k (l ∷ []) []
  posts_one true l = refl
  posts_one false l = refl

  posts_none : (k : Bool) → cond {A = List (Post O)} k [] [] ≡ cond k [] [] ++ []
  posts_none true = refl
  posts_none false = refl

abbrev reader_home0 : Local reader
reader_home0 = fresh_node reader new_table

abbrev reader_world0 : World reader
reader_world0 = alone reader new_table reader_home0 []

abbrev reader_home1 : Local reader
reader_home1 = record { clock = 1; kernel = grown new_table; slots = λ q. cond (q == 1) (hosts reader (Some (context reader (fresh reader (reader.loaded 0 1)) Running)) (reader_home0.slots q)) (reader_home0.slots q); believed = λ q. cond (q == 1) (record { place = 0; hops = 0 }) (reader_home0.believed q); progress = record { line = 2; done = 1; launched = 1 ∷ []; served = λ p. 0 }; gossip = reader_home0.gossip }

abbrev reader_turn1 : Turn reader
reader_turn1 = record { event = record { stamp = 1; node = 0; what = Run 1 0 1 }; taken = None; posted = [] }

abbrev reader_world1 : World reader
reader_world1 = alone reader new_table reader_home1 ([])

reader_goes1 : Goes reader reader_world0 reader_turn1 reader_world1
reader_goes1 = record { makes = record { node = refl; below = omega arith; stamp_is = omega arith; clock = refl; does = record { home = refl; image = refl; launched = refl; next = refl; base = record { took = refl; posts = refl; slots = λ q. refl }; gossip = refl; believed = λ q. refl; words = []; order = record { next = refl; enabled = λ z. cc; rises = omega arith; is = itself _ } } }; elsewhere = λ m ne. cond_off m 0 reader_home1 _ ne ∙ sym (cond_off m 0 reader_home0 _ ne); rest = λ a b. cond ((a == 0) && (b == 0)) ([]) []; takes = λ a b. refl; posts = λ a b. posts_none reader ((a == 0) && (b == 0)) }

abbrev reader_home2 : Local reader
reader_home2 = record { clock = 2; kernel = reader_home1.kernel; slots = λ q. cond (q == 1) (hosts reader (Some (context reader (fresh reader (reader.loaded 0 1)) (Waiting false None))) (reader_home1.slots q)) (reader_home1.slots q); believed = reader_home1.believed; progress = reader_home1.progress; gossip = reader_home1.gossip }

abbrev reader_turn2 : Turn reader
reader_turn2 = record { event = record { stamp = 2; node = 0; what = Sent 1 8 }; taken = None; posted = letter reader 0 0 2 (Call 1 (ReadCall)) ∷ [] }

abbrev reader_world2 : World reader
reader_world2 = alone reader new_table reader_home2 (letter reader 0 0 2 (Call 1 (ReadCall)) ∷ [])

reader_goes2 : Goes reader reader_world1 reader_turn2 reader_world2
reader_goes2 = record { makes = record { node = refl; below = omega arith; stamp_is = omega arith; clock = refl; does = record { body = (fresh reader (reader.loaded 0 1)); request = ReadCall; was = refl; unpoked = refl; asks = refl; number_is = refl; base = record { took = refl; posts = refl; slots = λ q. refl }; still = record { kernel = refl; believed = λ q. refl; progress = refl; gossip = refl } } }; elsewhere = λ m ne. cond_off m 0 reader_home2 _ ne ∙ sym (cond_off m 0 reader_home1 _ ne); rest = λ a b. cond ((a == 0) && (b == 0)) ([]) []; takes = λ a b. refl; posts = λ a b. posts_one reader ((a == 0) && (b == 0)) _ }

abbrev reader_home3 : Local reader
reader_home3 = record { clock = 3; kernel = reader_home2.kernel; slots = λ q. cond (q == 1) (holds reader (Some (record { from = 0; request = ReadCall })) (reader_home2.slots q)) (reader_home2.slots q); believed = reader_home2.believed; progress = reader_home2.progress; gossip = reader_home2.gossip }

abbrev reader_turn3 : Turn reader
reader_turn3 = record { event = record { stamp = 3; node = 0; what = Held 1 8 }; taken = Some (letter reader 0 0 2 (Call 1 (ReadCall))); posted = [] }

abbrev reader_world3 : World reader
reader_world3 = alone reader new_table reader_home3 ([])

reader_goes3 : Goes reader reader_world2 reader_turn3 reader_world3
reader_goes3 = record { makes = record { node = refl; below = omega arith; stamp_is = omega arith; clock = refl; does = record { home = refl; from = 0; stamp = 2; request = ReadCall; number_is = refl; some = λ z. omega (arith, z); blocks = refl; quiet = refl; base = record { took = refl; posts = refl; slots = λ q. refl }; still = record { kernel = refl; believed = λ q. refl; progress = refl; gossip = refl } } }; elsewhere = λ m ne. cond_off m 0 reader_home3 _ ne ∙ sym (cond_off m 0 reader_home2 _ ne); rest = λ a b. cond ((a == 0) && (b == 0)) [] []; takes = λ a b. takes_one reader ((a == 0) && (b == 0)) _; posts = λ a b. posts_none reader ((a == 0) && (b == 0)) }

abbrev pub reader_turns : List (Turn reader)
reader_turns = reader_turn3 ∷ reader_turn2 ∷ reader_turn1 ∷ []

pub reader_reached : Reached reader reader_turns reader_world3
reader_reached = (reader_world2, (reader_world1, (reader_world0, starts reader new_table refl, reader_goes1), reader_goes2), reader_goes3)

pub reader_rest : AllRest reader reader_world3
reader_rest = record { links = λ a b x y. cond_same ((a == 0) && (b == 0)) []; nodes = λ k less kind x. rests kind k x }
  where
    ending : Ending reader (events reader reader_turns) reader_world3
    ending = end_of_runs reader reader_sound reader_turns reader_world3 reader_reached

    same_end : reader_end ≡ ending.machine
    same_end = some_machine reader reader_end ending.machine ending.plays

    rests : (kind : Kind) (k : ℕ) → Applies reader kind k (reader_world3.nodes k) → ⊥
    rests kind k x = reader_nothing kind k (subst (DueAs reader kind k (events reader reader_turns)) (sym same_end) ((ending.due kind k).0 x))

abbrev keeper_home0 : Local keeper
keeper_home0 = fresh_node keeper new_table

abbrev keeper_away0 : Local keeper
keeper_away0 = fresh_node keeper new_table

abbrev keeper_world0 : World keeper
keeper_world0 = pair keeper new_table keeper_home0 keeper_away0 0 0 []

abbrev keeper_home1 : Local keeper
keeper_home1 = record { clock = 1; kernel = grown new_table; slots = λ q. cond (q == 1) (hosts keeper (Some (context keeper (fresh keeper (keeper.loaded 0 1)) Running)) (keeper_home0.slots q)) (keeper_home0.slots q); believed = λ q. cond (q == 1) (record { place = 0; hops = 0 }) (keeper_home0.believed q); progress = record { line = 2; done = 1; launched = 1 ∷ []; served = λ p. 0 }; gossip = keeper_home0.gossip }

abbrev keeper_turn1 : Turn keeper
keeper_turn1 = record { event = record { stamp = 1; node = 0; what = Run 1 0 1 }; taken = None; posted = [] }

abbrev keeper_world1 : World keeper
keeper_world1 = pair keeper new_table keeper_home1 keeper_away0 0 0 ([])

keeper_goes1 : Goes keeper keeper_world0 keeper_turn1 keeper_world1
keeper_goes1 = record { makes = record { node = refl; below = omega arith; stamp_is = omega arith; clock = refl; does = record { home = refl; image = refl; launched = refl; next = refl; base = record { took = refl; posts = refl; slots = λ q. refl }; gossip = refl; believed = λ q. refl; words = []; order = record { next = refl; enabled = λ z. cc; rises = omega arith; is = itself _ } } }; elsewhere = λ m ne. home_only keeper new_table keeper_home0 keeper_home1 keeper_away0 m ne; rest = λ a b. []; takes = λ a b. cond_same ((a == 0) && (b == 0)) []; posts = λ a b. cond_same ((a == 0) && (b == 0)) [] }

abbrev keeper_own2 : Entry
keeper_own2 = record { node = 0; load = 1; free = 3; stamp = 2 }

abbrev keeper_home2 : Local keeper
keeper_home2 = record { clock = 2; kernel = keeper_home1.kernel; slots = keeper_home1.slots; believed = keeper_home1.believed; progress = keeper_home1.progress; gossip = gossip_after false keeper_own2 [] keeper_home1.gossip }

abbrev keeper_turn2 : Turn keeper
keeper_turn2 = record { event = record { stamp = 2; node = 0; what = Gossips false 1 }; taken = None; posted = letter keeper 0 1 2 (Half (told_places keeper_own2 keeper_home1.gossip)) ∷ [] }

abbrev keeper_world2 : World keeper
keeper_world2 = pair keeper new_table keeper_home2 keeper_away0 0 1 (letter keeper 0 1 2 (Half (told_places keeper_own2 keeper_home1.gossip)) ∷ [])

keeper_goes2 : Goes keeper keeper_world1 keeper_turn2 keeper_world2
keeper_goes2 = record { makes = record { node = refl; below = omega arith; stamp_is = omega arith; clock = refl; does = record { talks = record { own = keeper_own2; places = told_places keeper_own2 keeper_home1.gossip; stamp = 0; used = 1; in_use = record { bound = 2; beyond = λ p less. ap (λ (s : Slot keeper). slot_pages keeper s) (cond_off p 1 _ _ (λ e. omega (arith, less, e))); sum = refl }; loaded = record { bound = 2; beyond = λ p less. ap (λ (s : Slot keeper). s.context) (cond_off p 1 _ _ (λ e. omega (arith, less, e))); sum = refl }; own_is = refl; sends = (omega arith, inl (omega arith, refl), refl); gossip = refl; movable = record { pid = 1; pages = 1 } ∷ []; can_move = record { bound = 2; beyond = λ p less. ap (λ (s : Slot keeper). s.context) (cond_off p 1 _ _ (λ e. omega (arith, less, e))); is = refl }; chooses = refl }; base = record { took = refl; posts = refl; slots = λ q. sym (cond_same (q == 0) (keeper_home1.slots q)) }; still = record { kernel = refl; believed = λ q. refl; progress = refl } } }; elsewhere = λ m ne. home_only keeper new_table keeper_home1 keeper_home2 keeper_away0 m ne; rest = λ a b. []; takes = λ a b. cond_same ((a == 0) && (b == 0)) []; posts = λ a b. refl }

abbrev keeper_own3 : Entry
keeper_own3 = record { node = 1; load = 0; free = 4; stamp = 3 }

abbrev keeper_away1 : Local keeper
keeper_away1 = record { clock = 3; kernel = keeper_away0.kernel; slots = keeper_away0.slots; believed = keeper_away0.believed; progress = keeper_away0.progress; gossip = gossip_after true keeper_own3 (told_places keeper_own2 keeper_home1.gossip) keeper_away0.gossip }

abbrev keeper_turn3 : Turn keeper
keeper_turn3 = record { event = record { stamp = 3; node = 1; what = Gossips true 0 }; taken = Some (letter keeper 0 1 2 (Half (told_places keeper_own2 keeper_home1.gossip))); posted = [] }

abbrev keeper_world3 : World keeper
keeper_world3 = pair keeper new_table keeper_home2 keeper_away1 0 0 ([])

keeper_goes3 : Goes keeper keeper_world2 keeper_turn3 keeper_world3
keeper_goes3 = record { makes = record { node = refl; below = omega arith; stamp_is = omega arith; clock = refl; does = record { talks = record { own = keeper_own3; places = told_places keeper_own2 keeper_home1.gossip; stamp = 2; used = 0; in_use = record { bound = 0; beyond = λ p less. refl; sum = refl }; loaded = record { bound = 0; beyond = λ p less. refl; sum = refl }; own_is = refl; sends = tt; gossip = refl; movable = []; can_move = record { bound = 0; beyond = λ p less. refl; is = refl }; chooses = refl }; base = record { took = refl; posts = refl; slots = λ q. sym (cond_same (q == 0) (keeper_away0.slots q)) }; still = record { kernel = refl; believed = λ q. refl; progress = refl } } }; elsewhere = λ m ne. away_only keeper new_table keeper_home2 keeper_away0 keeper_away1 m ne; rest = λ a b. []; takes = λ a b. take_all keeper ((a == 0) && (b == 1)) _; posts = λ a b. cond_same ((a == 0) && (b == 0)) [] }

abbrev keeper_own4 : Entry
keeper_own4 = record { node = 1; load = 0; free = 4; stamp = 4 }

abbrev keeper_away2 : Local keeper
keeper_away2 = record { clock = 4; kernel = keeper_away1.kernel; slots = keeper_away1.slots; believed = keeper_away1.believed; progress = keeper_away1.progress; gossip = gossip_after false keeper_own4 [] keeper_away1.gossip }

abbrev keeper_turn4 : Turn keeper
keeper_turn4 = record { event = record { stamp = 4; node = 1; what = Gossips false 0 }; taken = None; posted = letter keeper 1 0 4 (Half (told_places keeper_own4 keeper_away1.gossip)) ∷ [] }

abbrev keeper_world4 : World keeper
keeper_world4 = pair keeper new_table keeper_home2 keeper_away2 1 0 (letter keeper 1 0 4 (Half (told_places keeper_own4 keeper_away1.gossip)) ∷ [])

keeper_goes4 : Goes keeper keeper_world3 keeper_turn4 keeper_world4
keeper_goes4 = record { makes = record { node = refl; below = omega arith; stamp_is = omega arith; clock = refl; does = record { talks = record { own = keeper_own4; places = told_places keeper_own4 keeper_away1.gossip; stamp = 0; used = 0; in_use = record { bound = 0; beyond = λ p less. refl; sum = refl }; loaded = record { bound = 0; beyond = λ p less. refl; sum = refl }; own_is = refl; sends = (omega arith, inl (omega arith, refl), refl); gossip = refl; movable = []; can_move = record { bound = 0; beyond = λ p less. refl; is = refl }; chooses = refl }; base = record { took = refl; posts = refl; slots = λ q. sym (cond_same (q == 0) (keeper_away1.slots q)) }; still = record { kernel = refl; believed = λ q. refl; progress = refl } } }; elsewhere = λ m ne. away_only keeper new_table keeper_home2 keeper_away1 keeper_away2 m ne; rest = λ a b. []; takes = λ a b. cond_same ((a == 0) && (b == 0)) []; posts = λ a b. refl }

abbrev keeper_own5 : Entry
keeper_own5 = record { node = 0; load = 1; free = 3; stamp = 5 }

abbrev keeper_home3 : Local keeper
keeper_home3 = record { clock = 5; kernel = keeper_home2.kernel; slots = keeper_home2.slots; believed = keeper_home2.believed; progress = keeper_home2.progress; gossip = gossip_after true keeper_own5 (told_places keeper_own4 keeper_away1.gossip) keeper_home2.gossip }

abbrev keeper_turn5 : Turn keeper
keeper_turn5 = record { event = record { stamp = 5; node = 0; what = Gossips true 1 }; taken = Some (letter keeper 1 0 4 (Half (told_places keeper_own4 keeper_away1.gossip))); posted = [] }

abbrev keeper_world5 : World keeper
keeper_world5 = pair keeper new_table keeper_home3 keeper_away2 0 0 ([])

keeper_goes5 : Goes keeper keeper_world4 keeper_turn5 keeper_world5
keeper_goes5 = record { makes = record { node = refl; below = omega arith; stamp_is = omega arith; clock = refl; does = record { talks = record { own = keeper_own5; places = told_places keeper_own4 keeper_away1.gossip; stamp = 4; used = 1; in_use = record { bound = 2; beyond = λ p less. ap (λ (s : Slot keeper). slot_pages keeper s) (cond_off p 1 _ _ (λ e. omega (arith, less, e))); sum = refl }; loaded = record { bound = 2; beyond = λ p less. ap (λ (s : Slot keeper). s.context) (cond_off p 1 _ _ (λ e. omega (arith, less, e))); sum = refl }; own_is = refl; sends = tt; gossip = refl; movable = record { pid = 1; pages = 1 } ∷ []; can_move = record { bound = 2; beyond = λ p less. ap (λ (s : Slot keeper). s.context) (cond_off p 1 _ _ (λ e. omega (arith, less, e))); is = refl }; chooses = refl }; base = record { took = refl; posts = refl; slots = λ q. sym (cond_same (q == 0) (keeper_home2.slots q)) }; still = record { kernel = refl; believed = λ q. refl; progress = refl } } }; elsewhere = λ m ne. home_only keeper new_table keeper_home2 keeper_home3 keeper_away2 m ne; rest = λ a b. []; takes = λ a b. take_all keeper ((a == 1) && (b == 0)) _; posts = λ a b. cond_same ((a == 0) && (b == 0)) [] }

abbrev keeper_home4 : Local keeper
keeper_home4 = record { clock = 6; kernel = keeper_home3.kernel; slots = λ q. cond (q == 1) (hosts keeper (Some (context keeper (fresh keeper (keeper.loaded 0 1)) (Waiting false None))) (keeper_home3.slots q)) (keeper_home3.slots q); believed = keeper_home3.believed; progress = keeper_home3.progress; gossip = keeper_home3.gossip }

abbrev keeper_turn6 : Turn keeper
keeper_turn6 = record { event = record { stamp = 6; node = 0; what = Sent 1 8 }; taken = None; posted = letter keeper 0 0 6 (Call 1 (ReadCall)) ∷ [] }

abbrev keeper_world6 : World keeper
keeper_world6 = pair keeper new_table keeper_home4 keeper_away2 0 0 (letter keeper 0 0 6 (Call 1 (ReadCall)) ∷ [])

keeper_goes6 : Goes keeper keeper_world5 keeper_turn6 keeper_world6
keeper_goes6 = record { makes = record { node = refl; below = omega arith; stamp_is = omega arith; clock = refl; does = record { body = (fresh keeper (keeper.loaded 0 1)); request = ReadCall; was = refl; unpoked = refl; asks = refl; number_is = refl; base = record { took = refl; posts = refl; slots = λ q. refl }; still = record { kernel = refl; believed = λ q. refl; progress = refl; gossip = refl } } }; elsewhere = λ m ne. home_only keeper new_table keeper_home3 keeper_home4 keeper_away2 m ne; rest = λ a b. []; takes = λ a b. cond_same ((a == 0) && (b == 0)) []; posts = λ a b. refl }

abbrev keeper_home5 : Local keeper
keeper_home5 = record { clock = 7; kernel = keeper_home4.kernel; slots = λ q. cond (q == 1) (holds keeper (Some (record { from = 0; request = ReadCall })) (keeper_home4.slots q)) (keeper_home4.slots q); believed = keeper_home4.believed; progress = keeper_home4.progress; gossip = keeper_home4.gossip }

abbrev keeper_turn7 : Turn keeper
keeper_turn7 = record { event = record { stamp = 7; node = 0; what = Held 1 8 }; taken = Some (letter keeper 0 0 6 (Call 1 (ReadCall))); posted = [] }

abbrev keeper_world7 : World keeper
keeper_world7 = pair keeper new_table keeper_home5 keeper_away2 0 0 ([])

keeper_goes7 : Goes keeper keeper_world6 keeper_turn7 keeper_world7
keeper_goes7 = record { makes = record { node = refl; below = omega arith; stamp_is = omega arith; clock = refl; does = record { home = refl; from = 0; stamp = 6; request = ReadCall; number_is = refl; some = λ z. omega (arith, z); blocks = refl; quiet = refl; base = record { took = refl; posts = refl; slots = λ q. refl }; still = record { kernel = refl; believed = λ q. refl; progress = refl; gossip = refl } } }; elsewhere = λ m ne. home_only keeper new_table keeper_home4 keeper_home5 keeper_away2 m ne; rest = λ a b. []; takes = λ a b. take_all keeper ((a == 0) && (b == 0)) _; posts = λ a b. cond_same ((a == 0) && (b == 0)) [] }

abbrev keeper_home6 : Local keeper
keeper_home6 = record { clock = 8; kernel = keeper_home5.kernel; slots = λ q. cond (q == 1) (same keeper (keeper_home5.slots q)) (keeper_home5.slots q); believed = keeper_home5.believed; progress = record { line = 3; done = 2; launched = keeper_home5.progress.launched; served = keeper_home5.progress.served }; gossip = keeper_home5.gossip }

abbrev keeper_turn8 : Turn keeper
keeper_turn8 = record { event = record { stamp = 8; node = 0; what = Bid 2 1 1 }; taken = None; posted = letter keeper 0 0 8 (Go 1 1 0 2) ∷ [] }

abbrev keeper_world8 : World keeper
keeper_world8 = pair keeper new_table keeper_home6 keeper_away2 0 0 (letter keeper 0 0 8 (Go 1 1 0 2) ∷ [])

keeper_goes8 : Goes keeper keeper_world7 keeper_turn8 keeper_world8
keeper_goes8 = record { makes = record { node = refl; below = omega arith; stamp_is = omega arith; clock = refl; does = record { home = refl; live = refl; base = record { took = refl; posts = refl; slots = λ q. refl }; kernel = refl; gossip = refl; believed = λ q. refl; order = record { next = refl; enabled = tt; rises = omega arith; is = itself _ } } }; elsewhere = λ m ne. home_only keeper new_table keeper_home5 keeper_home6 keeper_away2 m ne; rest = λ a b. []; takes = λ a b. cond_same ((a == 0) && (b == 0)) []; posts = λ a b. refl }

abbrev keeper_home7 : Local keeper
keeper_home7 = record { clock = 9; kernel = keeper_home6.kernel; slots = λ q. cond (q == 1) (hosts keeper (Some (context keeper (fresh keeper (keeper.loaded 0 1)) (Waiting false (Some (record { to = 1; line = 2 }))))) (keeper_home6.slots q)) (keeper_home6.slots q); believed = keeper_home6.believed; progress = keeper_home6.progress; gossip = keeper_home6.gossip }

abbrev keeper_turn9 : Turn keeper
keeper_turn9 = record { event = record { stamp = 9; node = 0; what = Keep 1 1 2 }; taken = Some (letter keeper 0 0 8 (Go 1 1 0 2)); posted = [] }

abbrev keeper_world9 : World keeper
keeper_world9 = pair keeper new_table keeper_home7 keeper_away2 0 0 ([])

keeper_goes9 : Goes keeper keeper_world8 keeper_turn9 keeper_world9
keeper_goes9 = record { makes = record { node = refl; below = omega arith; stamp_is = omega arith; clock = refl; does = record { from = 0; stamp = 8; hops = 0; body = (fresh keeper (keeper.loaded 0 1)); pause = false; was = refl; away = λ z. omega (arith, z); base = record { took = refl; posts = refl; slots = λ q. refl }; still = record { kernel = refl; believed = λ q. refl; progress = refl; gossip = refl } } }; elsewhere = λ m ne. home_only keeper new_table keeper_home6 keeper_home7 keeper_away2 m ne; rest = λ a b. []; takes = λ a b. take_all keeper ((a == 0) && (b == 0)) _; posts = λ a b. cond_same ((a == 0) && (b == 0)) [] }

abbrev pub keeper_turns : List (Turn keeper)
keeper_turns = keeper_turn9 ∷ keeper_turn8 ∷ keeper_turn7 ∷ keeper_turn6 ∷ keeper_turn5 ∷ keeper_turn4 ∷ keeper_turn3 ∷ keeper_turn2 ∷ keeper_turn1 ∷ []

pub keeper_reached : Reached keeper keeper_turns keeper_world9
keeper_reached = (keeper_world8, (keeper_world7, (keeper_world6, (keeper_world5, (keeper_world4, (keeper_world3, (keeper_world2, (keeper_world1, (keeper_world0, pair_starts keeper new_table refl, keeper_goes1), keeper_goes2), keeper_goes3), keeper_goes4), keeper_goes5), keeper_goes6), keeper_goes7), keeper_goes8), keeper_goes9)

pub keeper_rest : AllRest keeper keeper_world9
keeper_rest = record { links = λ a b x y. cond_same ((a == 0) && (b == 0)) []; nodes = λ k less kind x. rests kind k x }
  where
    ending : Ending keeper (events keeper keeper_turns) keeper_world9
    ending = end_of_runs keeper keeper_sound keeper_turns keeper_world9 keeper_reached

    same_end : keeper_end ≡ ending.machine
    same_end = some_machine keeper keeper_end ending.machine ending.plays

    rests : (kind : Kind) (k : ℕ) → Applies keeper kind k (keeper_world9.nodes k) → ⊥
    rests kind k x = keeper_nothing kind k (subst (DueAs keeper kind k (events keeper keeper_turns)) (sym same_end) ((ending.due kind k).0 x))

abbrev hello_home0 : Local hello
hello_home0 = fresh_node hello new_table

abbrev hello_world0 : World hello
hello_world0 = alone hello new_table hello_home0 []

abbrev hello_home1 : Local hello
hello_home1 = record { clock = 1; kernel = grown new_table; slots = λ q. cond (q == 1) (hosts hello (Some (context hello (fresh hello (hello.loaded 0 1)) Running)) (hello_home0.slots q)) (hello_home0.slots q); believed = λ q. cond (q == 1) (record { place = 0; hops = 0 }) (hello_home0.believed q); progress = record { line = 2; done = 1; launched = 1 ∷ []; served = λ p. 0 }; gossip = hello_home0.gossip }

abbrev hello_turn1 : Turn hello
hello_turn1 = record { event = record { stamp = 1; node = 0; what = Run 1 0 1 }; taken = None; posted = [] }

abbrev hello_world1 : World hello
hello_world1 = alone hello new_table hello_home1 ([])

hello_goes1 : Goes hello hello_world0 hello_turn1 hello_world1
hello_goes1 = record { makes = record { node = refl; below = omega arith; stamp_is = omega arith; clock = refl; does = record { home = refl; image = refl; launched = refl; next = refl; base = record { took = refl; posts = refl; slots = λ q. refl }; gossip = refl; believed = λ q. refl; words = []; order = record { next = refl; enabled = λ z. cc; rises = omega arith; is = itself _ } } }; elsewhere = λ m ne. cond_off m 0 hello_home1 _ ne ∙ sym (cond_off m 0 hello_home0 _ ne); rest = λ a b. cond ((a == 0) && (b == 0)) ([]) []; takes = λ a b. refl; posts = λ a b. posts_none hello ((a == 0) && (b == 0)) }

abbrev hello_body2 : Body hello
hello_body2 = record { user = record { pid = 1; pages = 1; todo = Calls (WriteCall 3) ∷ Step ∷ Step ∷ Calls (ExitCall 0) ∷ [] }; hops = 0; poked = false }

abbrev hello_home2 : Local hello
hello_home2 = record { clock = 2; kernel = hello_home1.kernel; slots = λ q. cond (q == 1) (hosts hello (Some (context hello hello_body2 Running)) (hello_home1.slots q)) (hello_home1.slots q); believed = hello_home1.believed; progress = hello_home1.progress; gossip = one_step hello_home1.gossip }

abbrev hello_turn2 : Turn hello
hello_turn2 = record { event = record { stamp = 2; node = 0; what = Steps 1 5 }; taken = None; posted = [] }

abbrev hello_world2 : World hello
hello_world2 = alone hello new_table hello_home2 ([])

hello_goes2 : Goes hello hello_world1 hello_turn2 hello_world2
hello_goes2 = record { makes = record { node = refl; below = omega arith; stamp_is = omega arith; clock = refl; does = record { body = (fresh hello (hello.loaded 0 1)); user = record { pid = 1; pages = 1; todo = Calls (WriteCall 3) ∷ Step ∷ Step ∷ Calls (ExitCall 0) ∷ [] }; was = refl; unpoked = refl; went = refl; bounds = record { least = omega arith; most = omega arith; whole = inr (inl refl) }; no_half = λ z. omega arith; base = record { took = refl; posts = refl; slots = λ q. refl }; still = record { kernel = refl; believed = λ q. refl; progress = refl; gossip = refl } } }; elsewhere = λ m ne. cond_off m 0 hello_home2 _ ne ∙ sym (cond_off m 0 hello_home1 _ ne); rest = λ a b. cond ((a == 0) && (b == 0)) ([]) []; takes = λ a b. refl; posts = λ a b. posts_none hello ((a == 0) && (b == 0)) }

abbrev hello_home3 : Local hello
hello_home3 = record { clock = 3; kernel = hello_home2.kernel; slots = λ q. cond (q == 1) (hosts hello (Some (context hello hello_body2 (Waiting false None))) (hello_home2.slots q)) (hello_home2.slots q); believed = hello_home2.believed; progress = hello_home2.progress; gossip = hello_home2.gossip }

abbrev hello_turn3 : Turn hello
hello_turn3 = record { event = record { stamp = 3; node = 0; what = Sent 1 9 }; taken = None; posted = letter hello 0 0 3 (Call 1 (WriteCall 3)) ∷ [] }

abbrev hello_world3 : World hello
hello_world3 = alone hello new_table hello_home3 (letter hello 0 0 3 (Call 1 (WriteCall 3)) ∷ [])

hello_goes3 : Goes hello hello_world2 hello_turn3 hello_world3
hello_goes3 = record { makes = record { node = refl; below = omega arith; stamp_is = omega arith; clock = refl; does = record { body = hello_body2; request = WriteCall 3; was = refl; unpoked = refl; asks = refl; number_is = refl; base = record { took = refl; posts = refl; slots = λ q. refl }; still = record { kernel = refl; believed = λ q. refl; progress = refl; gossip = refl } } }; elsewhere = λ m ne. cond_off m 0 hello_home3 _ ne ∙ sym (cond_off m 0 hello_home2 _ ne); rest = λ a b. cond ((a == 0) && (b == 0)) ([]) []; takes = λ a b. refl; posts = λ a b. posts_one hello ((a == 0) && (b == 0)) _ }

abbrev hello_acted4 : Acted Table ℤ
hello_acted4 = plain (hello_home3.kernel) (pos 3)

abbrev hello_first4 : First hello
hello_first4 = record { kernel = hello_acted4.kernel; answer = Some (hello_acted4.answer); child = None; raised = None }

abbrev hello_done4 : Done hello
hello_done4 = done_of hello 1 hello_first4 (last hello hello_first4.kernel 1 true)

abbrev hello_home4 : Local hello
hello_home4 = record { clock = 4; kernel = hello_acted4.kernel; slots = λ q. cond (q == 1) (same hello (hello_home3.slots q)) (hello_home3.slots q); believed = hello_home3.believed; progress = served_one 1 hello_home3.progress; gossip = hello_home3.gossip }

abbrev hello_turn4 : Turn hello
hello_turn4 = record { event = record { stamp = 4; node = 0; what = Served 1 Did (Some 9) (Some (pos 3)) None None None false [] }; taken = Some (letter hello 0 0 3 (Call 1 (WriteCall 3))); posted = letter hello 0 0 4 (Reply 1 hello_done4) ∷ [] }

abbrev hello_world4 : World hello
hello_world4 = alone hello new_table hello_home4 (letter hello 0 0 4 (Reply 1 hello_done4) ∷ [])

hello_goes4 : Goes hello hello_world3 hello_turn4 hello_world4
hello_goes4 = record { makes = record { node = refl; below = omega arith; stamp_is = omega arith; clock = refl; does = inl (record { home = refl; from = 0; stamp = 3; request = WriteCall 3; first = hello_first4; acts = (hello_acted4, refl, λ z. omega (arith, z), refl); answers = record { kernel = refl; value_is = refl; child_is = refl; signal_is = refl; end_is = refl; more_is = refl }; number_is = refl; tells = refl; base = record { took = refl; posts = refl; slots = λ q. refl }; gossip = refl; believed = λ q. refl; progress = itself _ }) }; elsewhere = λ m ne. cond_off m 0 hello_home4 _ ne ∙ sym (cond_off m 0 hello_home3 _ ne); rest = λ a b. cond ((a == 0) && (b == 0)) [] []; takes = λ a b. takes_one hello ((a == 0) && (b == 0)) _; posts = λ a b. posts_one hello ((a == 0) && (b == 0)) _ }

abbrev hello_home5 : Local hello
hello_home5 = record { clock = 5; kernel = hello_home4.kernel; slots = λ q. cond (q == 1) (hosts hello (got_context hello hello_body2 None hello_done4) (hello_home4.slots q)) (hello_home4.slots q); believed = hello_home4.believed; progress = hello_home4.progress; gossip = hello_home4.gossip }

abbrev hello_turn5 : Turn hello
hello_turn5 = record { event = record { stamp = 5; node = 0; what = Got 1 None false None }; taken = Some (letter hello 0 0 4 (Reply 1 hello_done4)); posted = [] }

abbrev hello_world5 : World hello
hello_world5 = alone hello new_table hello_home5 ([])

hello_goes5 : Goes hello hello_world4 hello_turn5 hello_world5
hello_goes5 = record { makes = record { node = refl; below = omega arith; stamp_is = omega arith; clock = refl; does = record { from = 0; stamp = 4; body = hello_body2; pause = false; keeps = None; done = hello_done4; was = refl; child_is = refl; ended_is = refl; kept_is = refl; base = record { took = refl; posts = refl; slots = λ q. refl }; still = record { kernel = refl; believed = λ q. refl; progress = refl; gossip = refl } } }; elsewhere = λ m ne. cond_off m 0 hello_home5 _ ne ∙ sym (cond_off m 0 hello_home4 _ ne); rest = λ a b. cond ((a == 0) && (b == 0)) [] []; takes = λ a b. takes_one hello ((a == 0) && (b == 0)) _; posts = λ a b. posts_none hello ((a == 0) && (b == 0)) }

abbrev hello_body5 : Body hello
hello_body5 = returned hello hello_body2 hello_done4

abbrev hello_body6 : Body hello
hello_body6 = record { user = record { pid = 1; pages = 1; todo = Calls (ExitCall 0) ∷ [] }; hops = 0; poked = false }

abbrev hello_home6 : Local hello
hello_home6 = record { clock = 6; kernel = hello_home5.kernel; slots = λ q. cond (q == 1) (hosts hello (Some (context hello hello_body6 Running)) (hello_home5.slots q)) (hello_home5.slots q); believed = hello_home5.believed; progress = hello_home5.progress; gossip = one_step hello_home5.gossip }

abbrev hello_turn6 : Turn hello
hello_turn6 = record { event = record { stamp = 6; node = 0; what = Steps 1 2 }; taken = None; posted = [] }

abbrev hello_world6 : World hello
hello_world6 = alone hello new_table hello_home6 ([])

hello_goes6 : Goes hello hello_world5 hello_turn6 hello_world6
hello_goes6 = record { makes = record { node = refl; below = omega arith; stamp_is = omega arith; clock = refl; does = record { body = hello_body5; user = record { pid = 1; pages = 1; todo = Calls (ExitCall 0) ∷ [] }; was = refl; unpoked = refl; went = refl; bounds = record { least = omega arith; most = omega arith; whole = inr (inl refl) }; no_half = λ z. omega arith; base = record { took = refl; posts = refl; slots = λ q. refl }; still = record { kernel = refl; believed = λ q. refl; progress = refl; gossip = refl } } }; elsewhere = λ m ne. cond_off m 0 hello_home6 _ ne ∙ sym (cond_off m 0 hello_home5 _ ne); rest = λ a b. cond ((a == 0) && (b == 0)) ([]) []; takes = λ a b. refl; posts = λ a b. posts_none hello ((a == 0) && (b == 0)) }

abbrev hello_home7 : Local hello
hello_home7 = record { clock = 7; kernel = hello_home6.kernel; slots = λ q. cond (q == 1) (hosts hello (Some (context hello hello_body6 (Waiting false None))) (hello_home6.slots q)) (hello_home6.slots q); believed = hello_home6.believed; progress = hello_home6.progress; gossip = hello_home6.gossip }

abbrev hello_turn7 : Turn hello
hello_turn7 = record { event = record { stamp = 7; node = 0; what = Sent 1 1 }; taken = None; posted = letter hello 0 0 7 (Call 1 (ExitCall 0)) ∷ [] }

abbrev hello_world7 : World hello
hello_world7 = alone hello new_table hello_home7 (letter hello 0 0 7 (Call 1 (ExitCall 0)) ∷ [])

hello_goes7 : Goes hello hello_world6 hello_turn7 hello_world7
hello_goes7 = record { makes = record { node = refl; below = omega arith; stamp_is = omega arith; clock = refl; does = record { body = hello_body6; request = ExitCall 0; was = refl; unpoked = refl; asks = refl; number_is = refl; base = record { took = refl; posts = refl; slots = λ q. refl }; still = record { kernel = refl; believed = λ q. refl; progress = refl; gossip = refl } } }; elsewhere = λ m ne. cond_off m 0 hello_home7 _ ne ∙ sym (cond_off m 0 hello_home6 _ ne); rest = λ a b. cond ((a == 0) && (b == 0)) ([]) []; takes = λ a b. refl; posts = λ a b. posts_one hello ((a == 0) && (b == 0)) _ }

abbrev hello_acted8 : Acted Table ℤ
hello_acted8 = exit_by 0 (ended 1 (end.Exit 0) hello_home7.kernel)

abbrev hello_first8 : First hello
hello_first8 = record { kernel = hello_acted8.kernel; answer = Some (hello_acted8.answer); child = None; raised = None }

abbrev hello_done8 : Done hello
hello_done8 = done_of hello 1 hello_first8 (last hello hello_first8.kernel 1 true)

abbrev hello_home8 : Local hello
hello_home8 = record { clock = 8; kernel = hello_acted8.kernel; slots = λ q. cond (q == 1) (same hello (hello_home7.slots q)) (hello_home7.slots q); believed = hello_home7.believed; progress = served_one 1 hello_home7.progress; gossip = hello_home7.gossip }

abbrev hello_turn8 : Turn hello
hello_turn8 = record { event = record { stamp = 8; node = 0; what = Served 1 Did (Some 1) (Some (pos 0)) None None (Some (end.Exit 0)) false [] }; taken = Some (letter hello 0 0 7 (Call 1 (ExitCall 0))); posted = letter hello 0 0 8 (Reply 1 hello_done8) ∷ [] }

abbrev hello_world8 : World hello
hello_world8 = alone hello new_table hello_home8 (letter hello 0 0 8 (Reply 1 hello_done8) ∷ [])

hello_goes8 : Goes hello hello_world7 hello_turn8 hello_world8
hello_goes8 = record { makes = record { node = refl; below = omega arith; stamp_is = omega arith; clock = refl; does = inl (record { home = refl; from = 0; stamp = 7; request = ExitCall 0; first = hello_first8; acts = (hello_acted8, refl, λ z. omega (arith, z), refl); answers = record { kernel = refl; value_is = refl; child_is = refl; signal_is = refl; end_is = refl; more_is = refl }; number_is = refl; tells = refl; base = record { took = refl; posts = refl; slots = λ q. refl }; gossip = refl; believed = λ q. refl; progress = itself _ }) }; elsewhere = λ m ne. cond_off m 0 hello_home8 _ ne ∙ sym (cond_off m 0 hello_home7 _ ne); rest = λ a b. cond ((a == 0) && (b == 0)) [] []; takes = λ a b. takes_one hello ((a == 0) && (b == 0)) _; posts = λ a b. posts_one hello ((a == 0) && (b == 0)) _ }

abbrev hello_home9 : Local hello
hello_home9 = record { clock = 9; kernel = hello_home8.kernel; slots = λ q. cond (q == 1) (hosts hello (got_context hello hello_body6 None hello_done8) (hello_home8.slots q)) (hello_home8.slots q); believed = hello_home8.believed; progress = hello_home8.progress; gossip = hello_home8.gossip }

abbrev hello_turn9 : Turn hello
hello_turn9 = record { event = record { stamp = 9; node = 0; what = Got 1 None true None }; taken = Some (letter hello 0 0 8 (Reply 1 hello_done8)); posted = [] }

abbrev hello_world9 : World hello
hello_world9 = alone hello new_table hello_home9 ([])

hello_goes9 : Goes hello hello_world8 hello_turn9 hello_world9
hello_goes9 = record { makes = record { node = refl; below = omega arith; stamp_is = omega arith; clock = refl; does = record { from = 0; stamp = 8; body = hello_body6; pause = false; keeps = None; done = hello_done8; was = refl; child_is = refl; ended_is = refl; kept_is = refl; base = record { took = refl; posts = refl; slots = λ q. refl }; still = record { kernel = refl; believed = λ q. refl; progress = refl; gossip = refl } } }; elsewhere = λ m ne. cond_off m 0 hello_home9 _ ne ∙ sym (cond_off m 0 hello_home8 _ ne); rest = λ a b. cond ((a == 0) && (b == 0)) [] []; takes = λ a b. takes_one hello ((a == 0) && (b == 0)) _; posts = λ a b. posts_none hello ((a == 0) && (b == 0)) }

abbrev pub hello_turns : List (Turn hello)
hello_turns = hello_turn9 ∷ hello_turn8 ∷ hello_turn7 ∷ hello_turn6 ∷ hello_turn5 ∷ hello_turn4 ∷ hello_turn3 ∷ hello_turn2 ∷ hello_turn1 ∷ []

pub hello_reached : Reached hello hello_turns hello_world9
hello_reached = (hello_world8, (hello_world7, (hello_world6, (hello_world5, (hello_world4, (hello_world3, (hello_world2, (hello_world1, (hello_world0, starts hello new_table refl, hello_goes1), hello_goes2), hello_goes3), hello_goes4), hello_goes5), hello_goes6), hello_goes7), hello_goes8), hello_goes9)

pub hello_rest : AllRest hello hello_world9
hello_rest = record { links = λ a b x y. cond_same ((a == 0) && (b == 0)) []; nodes = λ k less kind x. rests kind k x }
  where
    ending : Ending hello (events hello hello_turns) hello_world9
    ending = end_of_runs hello hello_sound hello_turns hello_world9 hello_reached

    same_end : hello_end ≡ ending.machine
    same_end = some_machine hello hello_end ending.machine ending.plays

    rests : (kind : Kind) (k : ℕ) → Applies hello kind k (hello_world9.nodes k) → ⊥
    rests kind k x = hello_nothing kind k (subst (DueAs hello kind k (events hello hello_turns)) (sym same_end) ((ending.due kind k).0 x))
