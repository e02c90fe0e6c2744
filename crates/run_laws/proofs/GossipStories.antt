-- The worked histories of gossip, and those that are not lawful.
use Rattle.std.proofs.Common.{◌≡◌, ◌≢◌, ℕ, ◌<◌, ◌≤◌, ◌⊎◌, ◌==◌, Bool, cond, true, false, Some, None, List, [], ◌∷◌, inl, inr, refl, ap, ◌∙◌, arith}
use Rattle.std.specs.Prelude.{pos}
use Rattle.node_event.specs.declared.script.Order.TheVariants as order
use Rattle.protocol.specs.Gossip.{Entry, Movable, Sight, Choice, IsKnown, IsMovable}
use Rattle.protocol.specs.Gossip.{no_gossip}
use Rattle.protocol.specs.Does.{HalfDueTo}
use Rattle.protocol.proofs.Talk.{numbers_other}
use Rattle.run_laws.specs.Loads.{IsFree}
use Rattle.run_laws.specs.Lawful.{Lawful}
use Rattle.run_laws.specs.Grounds.{Grounded}
use Rattle.run_laws.specs.Honest.{Honest}
use Rattle.run_laws.specs.Ends.{DoneOrStuck}
use Rattle.run_laws.specs.Schedule.{the_machine}
use Rattle.run_laws.specs.Histories.{read, hello_script, fork_script, forker, move_script, mover, poke_script, poker}
use Rattle.run_laws.specs.GossipStories.{push_to, push, pusher, push_events, heavy, denied_events, unchosen_events, unsent_events, invented, three, wrong_events, walker, walk_events, faulter, fault_events, valued_events, unpoked_events, loose_events, loose_not_over}
use Rattle.run_laws.proofs.EndStories.{first_or}

-- the policy moves what it may move, to another node that it knows
pub push_moves : (s : Sight) (c : Choice) → push s ≡ Some c → IsMovable c.pid s.movable × IsKnown c.to s.known × (c.to ≢ s.node)
push_moves s c e = go s.node s.movable s.known e
  where
    go : (n : ℕ) (xs : List Movable) (es : List Entry) → push_to n xs es ≡ Some c → IsMovable c.pid xs × IsKnown c.to es × (c.to ≢ n)
    go n [] es e = absurd cc
    go n (x ∷ xs) [] e = absurd cc
    go n (x ∷ xs) (y ∷ es) e = by (y.node == n) refl e
      where
        by : (b : Bool) → (y.node == n) ≡ b → cond b None (Some (record { pid = x.pid; to = y.node })) ≡ Some c → IsMovable c.pid (x ∷ xs) × IsKnown c.to (y ∷ es) × (c.to ≢ n)
        by true f g = absurd cc
        by false f g =
            let same : record { pid = x.pid; to = y.node } ≡ c = cc in
            (inl (ap (λ (k : Choice). k.pid) same), inl (ap (λ (k : Choice). k.to) same), λ z. numbers_other y.node n f (ap (λ (k : Choice). k.to) same ∙ z))

pub push_lawful : Lawful pusher (read hello_script push_events)
push_lawful = record {
  script = (record { below = omega arith; at_home = tt; command = tt }, (record { below = omega arith; at_home = refl; command = tt }, (record { below = omega arith; at_home = tt; command = tt }, (record { below = omega arith; at_home = tt; command = tt }, (record { below = omega arith; at_home = tt; command = tt }, (record { below = omega arith; at_home = tt; command = tt }, (record { below = omega arith; at_home = tt; command = tt }, (record { below = omega arith; at_home = tt; command = record { home = refl; asked = order.Run []; next = refl; suits = tt; enabled = λ z. cc; pid = refl } }, tt))))))));
  place = (refl, (tt, (refl, (refl, (tt, (refl, (tt, (refl, tt))))))));
  news = (tt, (tt, (tt, (tt, (tt, (tt, (tt, (tt, tt))))))));
  freeze = ((refl, refl), (tt, (tt, (refl, (tt, ((refl, refl), (tt, (tt, tt))))))));
  once = (record { least = omega arith; most = omega arith; user = _; has = refl; whole = inr (inl refl) }, (tt, (tt, (tt, (tt, (tt, (tt, (tt, tt))))))));
  signal = (tt, (tt, (tt, (tt, (tt, (tt, (tt, (tt, tt))))))));
  poke = (tt, (refl, (tt, (tt, (tt, (tt, (tt, (tt, tt))))))));
  heed = (refl, (tt, (tt, (tt, (tt, (tt, (tt, (tt, tt))))))));
  gossip = ((λ z. omega arith), (tt, (tt, (tt, (tt, ((λ z. cc), (record { here = omega arith; many = omega arith; below = omega arith; apart = λ z. omega (arith, z); due = inl (omega arith, refl) }, (tt, tt))))))));
  choice = (tt, (tt, (tt, (tt, (tt, (refl, (refl, (tt, tt))))))));
}

pub denied_lawful : Lawful heavy (read hello_script denied_events)
denied_lawful = record {
  script = (record { below = omega arith; at_home = tt; command = tt }, (record { below = omega arith; at_home = tt; command = tt }, (record { below = omega arith; at_home = tt; command = tt }, (record { below = omega arith; at_home = tt; command = tt }, (record { below = omega arith; at_home = tt; command = record { home = refl; asked = order.Run []; next = refl; suits = tt; enabled = λ z. cc; pid = refl } }, tt)))));
  place = (refl, (tt, (refl, (tt, (refl, tt)))));
  news = (tt, (tt, (tt, (tt, (tt, tt)))));
  freeze = (refl, (tt, ((refl, refl), (tt, (tt, tt)))));
  once = (tt, (tt, (tt, (tt, (tt, tt)))));
  signal = (tt, (tt, (tt, (tt, (tt, tt)))));
  poke = (tt, (tt, (tt, (tt, (tt, tt)))));
  heed = (tt, (tt, (tt, (tt, (tt, tt)))));
  gossip = (tt, (tt, ((λ z. cc), (record { here = omega arith; many = omega arith; below = omega arith; apart = λ z. omega (arith, z); due = inl (omega arith, refl) }, (tt, tt)))));
  choice = (tt, (tt, (refl, (refl, (tt, tt)))));
}

pub denied_grounded : Grounded heavy (read hello_script denied_events)
denied_grounded = (refl, (record { need_is = refl; free_is = refl; short = omega arith }, (tt, (tt, (tt, tt)))))

pub unchosen_not : Lawful pusher (read hello_script unchosen_events) → ⊥
unchosen_not l = let z : None ≡ Some (record { pid = 1; to = 1 }) = l.choice.0 in cc

pub unsent_not : Lawful pusher (read hello_script unsent_events) → ⊥
unsent_not l = l.gossip.0 refl

pub invented_not : Honest pusher invented (read hello_script push_events) → ⊥
invented_not x = go x
  where
    seven : (k : ℕ) → k ≤ 1 → 7 ≡ k → ⊥
    seven k less e = omega (arith, less, e)

    go : Honest pusher invented (read hello_script push_events) → ⊥
    go (inl e) = seven _ (omega arith) (ap (λ (k : Entry). k.load) e)
    go (inr (inl e)) = seven _ (omega arith) (ap (λ (k : Entry). k.load) e)
    go (inr (inr (inl e))) = seven _ (omega arith) (ap (λ (k : Entry). k.load) e)
    go (inr (inr (inr (inl e)))) = seven _ (omega arith) (ap (λ (k : Entry). k.load) e)
    go (inr (inr (inr (inr (inl e))))) = seven _ (omega arith) (ap (λ (k : Entry). k.load) e)
    go (inr (inr (inr (inr (inr (inl e)))))) = seven _ (omega arith) (ap (λ (k : Entry). k.load) e)
    go (inr (inr (inr (inr (inr (inr (inl e))))))) = seven _ (omega arith) (ap (λ (k : Entry). k.load) e)
    go (inr (inr (inr (inr (inr (inr (inr (inl e)))))))) = seven _ (omega arith) (ap (λ (k : Entry). k.load) e)
    go (inr (inr (inr (inr (inr (inr (inr (inr e)))))))) = e

pub wrong_not : Lawful three (read hello_script wrong_events) → ⊥
wrong_not l = go l.gossip.0.due
  where
    go : HalfDueTo three 0 2 0 4 ((p : ℕ) → IsFree three 0 p [] (the_machine three []) → ⊥) no_gossip → ⊥
    go (inl x) = let z : 2 ≡ 1 = x.1 in omega (arith, z)
    go (inr x) = let z : 2 ≤ 0 = x.0 in omega (arith, z)

pub walk_not : Lawful walker (read hello_script walk_events) → ⊥
walk_not l = let z : 16 < 16 = l.gossip.0 (omega arith) in omega (arith, z)

pub fault_not : Lawful faulter (read hello_script fault_events) → ⊥
fault_not l = l.once.0.call refl

pub valued_not : Lawful poker (read poke_script valued_events) → ⊥
valued_not l = let z : Some (pos 0) ≡ None = l.once.0.value_is in cc

pub unpoked_not : Lawful forker (read fork_script unpoked_events) → ⊥
unpoked_not l = let z : [] ≡ 1 ∷ [] = l.poke.0 in cc

pub loose_over : loose_not_over
loose_over = go
  where
    dead : (p : ℕ) → (p ≡ 1) ⊎ ((p == 1) ≡ false) → cond (p == 1) false (cond (p == 1) true false) ≡ false
    dead p (inl e) = ap (λ (k : ℕ). cond (k == 1) false (cond (k == 1) true false)) e
    dead p (inr e) = rw e refl

    go : DoneOrStuck mover (read move_script loose_events) (the_machine mover (read move_script loose_events)) → ⊥
    go (inl (done, settled)) = let z : 0 ≡ 1 = settled 2 1 1 refl in omega (arith, z)
    go (inr (stuck, lines)) = stuck.not_done (record { script = refl; ended = λ p. dead p (first_or p) })
