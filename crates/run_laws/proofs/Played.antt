-- Every run plays: the machine that plays its events agrees with the cluster at each prefix.
use Rattle.std.proofs.Common.{◌≡◌, ◌≢◌, ℕ, ◌==◌, Bool, true, false, Some, List, [], ◌∷◌, refl, sym, ap, ◌∙◌, subst}
use Rattle.std.specs.Prelude.{option_and_then}
use Rattle.protocol.specs.Ops.{Ops, Sound, is_child}
use Rattle.protocol.specs.Deeds.{pid_of, child_of}
use Rattle.protocol.specs.Notes.{Turn, Local}
use Rattle.protocol.specs.Spots.{Spot}
use Rattle.protocol.specs.Cluster.{World}
use Rattle.protocol.specs.Needs.{brings, user_at, born_spot, alive, Right}
use Rattle.run_laws.specs.Schedule.{told_by, told}
use Rattle.run_laws.specs.Machine.{MachineState, empty}
use Rattle.run_laws.proofs.Plays.{plays, replay}
use Rattle.protocol.specs.Cluster.{events}
use Rattle.protocol.proofs.Talk.{numbers_same, numbers_other}
use Rattle.protocol.proofs.Coupling.{Part, Own, Child, Rest, part, at_own, at_child, at_rest}
use Rattle.protocol.proofs.Stand.{Stands, Step, Path, child_apart, lives_next}
use Rattle.run_laws.proofs.Replay.{user_of, PlayedAt, played_at}

module _ (O : Ops) (S : Sound O) where
  -- the machine m is what the cluster does together
  pub record Agrees (h : List (Turn O)) (sp : ℕ → Spot O) (home : Local O) (m : MachineState O) : Type 0 where
    pub plays : replay O (events O h) ≡ Some m
    pub kernel : home.kernel ≡ m.kernel
    pub users : (p : ℕ) → m.users p ≡ user_of O S (sp p)
    pub alive : (p : ℕ) → O.live m.kernel p ≡ alive O (sp p)
    pub right : (p : ℕ) → Right O (sp p)
    pub replies : told (events O h) ≡ m.replies

  agrees_next : (h : List (Turn O)) (w : World O) (t : Turn O) (v : World O) (sp next : ℕ → Spot O) → Stands O S sp w → (st : Step O S sp w t next v) → (m : MachineState O) → Agrees h sp (w.nodes 0) m → PlayedAt O S t.event.what t.event.node (v.nodes 0).kernel (sp (pid_of t.event.what)) st.own m
      → (m2 : MachineState O) × Agrees (t ∷ h) next (v.nodes 0) m2
  agrees_next h w t v sp next stands st m before one = (
    one.machine,
    record {
      plays = ap (option_and_then (plays O t.event.what)) before.plays ∙ one.plays_it;
      kernel = sym one.kernel;
      users = λ q. user_at_q q (part O t.event.what t.event.node sp st.own q);
      alive = λ q. ap (λ (k : O.Kernel). O.live k q) one.kernel ∙ (lives_next O S w t v st.goes sp stands st.own st.needs next st.next_is q).0;
      right = λ q. (lives_next O S w t v st.goes sp stands st.own st.needs next st.next_is q).1;
      replies = ap (told_by t.event.what) before.replies ∙ one.replies;
    },
  )
    where
      is_own : (q : ℕ) → q ≡ pid_of t.event.what → next q ≡ st.own
      is_own q e = st.next_is q ∙ at_own O t.event.what t.event.node sp st.own q e

      is_child2 : (q c : ℕ) → child_of t.event.what ≡ Some c → q ≡ c → q ≢ pid_of t.event.what → next q ≡ born_spot O t.event.what t.event.node (sp (pid_of t.event.what)) q
      is_child2 q c h e ne = st.next_is q ∙ at_child O t.event.what t.event.node sp st.own q c h e ne

      is_rest : (q : ℕ) → q ≢ pid_of t.event.what → is_child (child_of t.event.what) q ≡ false → next q ≡ sp q
      is_rest q ne h = st.next_is q ∙ at_rest O t.event.what t.event.node sp st.own q ne h

      user_at_q : (q : ℕ) → Part O t.event.what t.event.node sp st.own q → one.machine.users q ≡ user_of O S (next q)
      user_at_q q (Own e) = ap one.machine.users e ∙ (one.user ∙ sym (ap (user_of O S) (is_own q e)))
      user_at_q q (Child c h e ne) = one.child q (h ∙ ap (λ (k : ℕ). Some k) (sym e)) ∙ sym (ap (user_of O S) (is_child2 q c h e ne))
      user_at_q q (Rest ne h) = one.others q ne h ∙ (before.users q ∙ sym (ap (user_of O S) (is_rest q ne h)))

  -- every run plays
  pub record Played (h : List (Turn O)) (sp : ℕ → Spot O) (home : Local O) : Type 0 where
    pub machine : MachineState O
    pub agrees : Agrees h sp home machine

  played_next : (h : List (Turn O)) (w : World O) (t : Turn O) (v : World O) (sp next : ℕ → Spot O) → Stands O S sp w → Step O S sp w t next v → (m : MachineState O) → Agrees h sp (w.nodes 0) m → Played (t ∷ h) next (v.nodes 0)
  played_next h w t v sp next stands st m before =
      let one = played_at O S t.event.node (w.nodes t.event.node) (v.nodes t.event.node) (sp (pid_of t.event.what)) st.own m (v.nodes 0).kernel home same t.event.what st.needs (child_apart O S w t v st.goes sp stands st.own st.needs) kid (before.users (pid_of t.event.what)) (before.alive (pid_of t.event.what)) (before.right (pid_of t.event.what)) in
      let all = agrees_next h w t v sp next stands st m before one in
      record { machine = all.0; agrees = all.1 }
    where
      home : t.event.node ≡ 0 → ((w.nodes t.event.node).kernel ≡ m.kernel) × ((v.nodes t.event.node).kernel ≡ (v.nodes 0).kernel)
      home e = (ap (λ (k : ℕ). (w.nodes k).kernel) e ∙ before.kernel, ap (λ (k : ℕ). (v.nodes k).kernel) e)

      same : (v.nodes t.event.node).kernel ≡ (w.nodes t.event.node).kernel → (v.nodes 0).kernel ≡ m.kernel
      same h = go (t.event.node == 0) refl
        where
          go : (b : Bool) → (t.event.node == 0) ≡ b → (v.nodes 0).kernel ≡ m.kernel
          go true e = let z = numbers_same t.event.node 0 e in ap (λ (k : ℕ). (v.nodes k).kernel) (sym z) ∙ (h ∙ (home z).0)
          go false e = ap (λ (k : Local O). k.kernel) (st.goes.elsewhere 0 (λ z. numbers_other t.event.node 0 e (sym z))) ∙ before.kernel

      kid : (c : ℕ) → brings O (sp (pid_of t.event.what)) ≡ Some c → m.users c ≡ Some (O.forked (user_at O (sp (pid_of t.event.what))) c)
      kid c e = let x = (stands.coupled.child (pid_of t.event.what) c e).0 in before.users c ∙ ap (user_of O S) x

  pub path_played : (h : List (Turn O)) (sp : ℕ → Spot O) (w : World O) → Path O S h sp w → Played h sp (w.nodes 0)
  path_played [] sp w r = record {
    machine = empty O;
    agrees = record {
      plays = refl;
      kernel = ((r.0.nodes 0).home refl).kernel;
      users = λ p. sym (ap (user_of O S) (r.1 p));
      alive = λ p. S.live_empty p ∙ sym (ap (alive O) (r.1 p));
      right = λ p. subst (Right O) (sym (r.1 p)) tt;
      replies = refl;
    };
  }
  path_played (t ∷ h) sp v r =
      let before = path_played h r.1 r.0 r.2 in
      played_next h r.0 t v r.1 sp r.3 r.4 before.machine before.agrees
