-- The worked histories: which are lawful, and which are not.
use Rattle.std.proofs.Common.{◌≡◌, ℕ, zero, suc, ◌+◌, ◌<◌, ◌≤◌, ◌⊎◌, ◌==◌, Bool, cond, true, false, Some, None, [], ◌∷◌, inl, inr, refl, subst, arith}
use Rattle.std.specs.Prelude.{slice_get}
use Rattle.node_event.specs.declared.script.Order.TheVariants as order
use Rattle.node_event.specs.declared.script.ScriptLine.{ScriptLine}
use Rattle.protocol.specs.Ops.{Sound}
use Rattle.protocol.specs.Deeds.{order_at}
use Rattle.run_laws.specs.SmallMachine.{ExitCall, ForkCall, ReadCall, WriteCall}
use Rattle.run_laws.specs.Facts.{Node, Link}
use Rattle.run_laws.specs.Lawful.{Lawful}
use Rattle.run_laws.specs.Grounds.{Grounded}
use Rattle.run_laws.specs.Outcomes.{outcomes}
use Rattle.run_laws.specs.Histories.{read, hello_script, hello, hello_events, writer, left_out, twice_events, fork_script, forker, fork_events, move_script, move_programs, mover, move_events, copy_events, refused_events, again_events, break_script, breaker, break_events, left_events, poke_script, poker, poke_events, unheeded_events}
use Rattle.run_laws.proofs.SmallMachine.{sound}

move_lines : (k : ℕ) (s : ScriptLine) → slice_get move_script k ≡ Some s → order_at s.line move_script ≡ Some s.order
move_lines zero s e = let same : record { line = 1; order = order.Run [] } ≡ s = cc in subst (λ (x : ScriptLine). order_at x.line move_script ≡ Some x.order) same refl
move_lines (suc zero) s e = let same : record { line = 2; order = order.Move 1 1 } ≡ s = cc in subst (λ (x : ScriptLine). order_at x.line move_script ≡ Some x.order) same refl
move_lines (suc (suc k)) s e = absurd cc

move_targets : (l p to : ℕ) → order_at l move_script ≡ Some (order.Move p to) → to < 2
move_targets l p to e = go (1 == l) (2 == l) e
  where
    go : (a b : Bool) → cond a (Some (order.Run [])) (cond b (Some (order.Move 1 1)) None) ≡ Some (order.Move p to) → to < 2
    go true b x = absurd cc
    go false true x = let same : 1 ≡ to = cc in omega (arith, same)
    go false false x = absurd cc

pub mover_sound : Sound mover
mover_sound = sound move_script move_programs move_lines move_targets

pub hello_lawful : Lawful hello (read hello_script hello_events)
hello_lawful = record {
  script = (record { below = omega arith; at_home = tt; command = tt }, (record { below = omega arith; at_home = refl; command = tt }, (record { below = omega arith; at_home = tt; command = tt }, (record { below = omega arith; at_home = tt; command = tt }, (record { below = omega arith; at_home = tt; command = tt }, (record { below = omega arith; at_home = refl; command = tt }, (record { below = omega arith; at_home = tt; command = tt }, (record { below = omega arith; at_home = tt; command = tt }, (record { below = omega arith; at_home = tt; command = record { home = refl; asked = order.Run []; next = refl; suits = tt; enabled = λ z. cc; pid = refl } }, tt)))))))));
  place = (refl, (tt, (refl, (refl, (refl, (tt, (refl, (refl, (refl, tt)))))))));
  news = (tt, (tt, (tt, (tt, (tt, (tt, (tt, (tt, (tt, tt)))))))));
  freeze = ((refl, refl, tt), (tt, ((refl, refl), ((refl, refl), ((refl, refl, tt), (tt, ((refl, refl), ((refl, refl), (tt, tt)))))))));
  once = ((refl, refl, refl), (record { waits = refl; kind = refl; first = refl; number_is = (1, refl, λ z. omega (arith, z), record { user = _; request = ExitCall 0; has = refl; asks = refl; number_is = refl }); value_is = tt; reply = refl; end_is = refl }, (record { user = _; request = ExitCall 0; has = refl; asks = refl; number_is = refl }, (record { least = omega arith; most = omega arith; user = _; has = refl; whole = inr (inl refl) }, ((refl, refl, refl), (record { waits = refl; kind = refl; first = refl; number_is = (9, refl, λ z. omega (arith, z), record { user = _; request = WriteCall 3; has = refl; asks = refl; number_is = refl }); value_is = tt; reply = refl; end_is = refl }, (record { user = _; request = WriteCall 3; has = refl; asks = refl; number_is = refl }, (record { least = omega arith; most = omega arith; user = _; has = refl; whole = inr (inl refl) }, (tt, tt)))))))));
  signal = (tt, (record { takes = refl; more_is = refl }, (tt, (tt, (tt, (record { takes = refl; more_is = refl }, (tt, (tt, (tt, tt)))))))));
  poke = (tt, (refl, (tt, (tt, (tt, (refl, (tt, (tt, (tt, tt)))))))));
  heed = (tt, (tt, (refl, (refl, (tt, (tt, (refl, (refl, (tt, tt)))))))));
  gossip = (tt, (tt, (tt, ((λ z. omega arith), (tt, (tt, (tt, ((λ z. omega arith), (tt, tt)))))))));
  choice = (tt, (tt, (tt, (tt, (tt, (tt, (tt, (tt, (tt, tt)))))))));
}

pub fork_lawful : Lawful forker (read fork_script fork_events)
fork_lawful = record {
  script = (record { below = omega arith; at_home = tt; command = tt }, (record { below = omega arith; at_home = refl; command = tt }, (record { below = omega arith; at_home = tt; command = tt }, (record { below = omega arith; at_home = tt; command = tt }, (record { below = omega arith; at_home = refl; command = tt }, (record { below = omega arith; at_home = tt; command = tt }, (record { below = omega arith; at_home = tt; command = record { home = refl; asked = order.Run []; next = refl; suits = tt; enabled = λ z. cc; pid = refl } }, tt)))))));
  place = (refl, (tt, (refl, (refl, (tt, (refl, (refl, tt)))))));
  news = (tt, (tt, (tt, (tt, (tt, (tt, (tt, tt)))))));
  freeze = ((refl, refl, tt), (tt, ((refl, refl), ((refl, refl, tt), (tt, ((refl, refl), (tt, tt)))))));
  once = ((refl, refl, refl), (record { waits = refl; kind = refl; first = refl; number_is = (1, refl, λ z. omega (arith, z), record { user = _; request = ExitCall 7; has = refl; asks = refl; number_is = refl }); value_is = tt; reply = refl; end_is = refl }, (record { user = _; request = ExitCall 7; has = refl; asks = refl; number_is = refl }, ((refl, refl, refl), (record { waits = refl; kind = refl; first = refl; number_is = (4, refl, λ z. omega (arith, z), record { user = _; request = ForkCall; has = refl; asks = refl; number_is = refl }); value_is = tt; reply = refl; end_is = refl }, (record { user = _; request = ForkCall; has = refl; asks = refl; number_is = refl }, (tt, tt)))))));
  signal = (tt, (record { takes = refl; more_is = refl }, (tt, (tt, (record { takes = refl; more_is = refl }, (tt, (tt, tt)))))));
  poke = (tt, (refl, (tt, (tt, (refl, (tt, (tt, tt)))))));
  heed = (tt, (tt, (refl, (tt, (tt, (refl, (tt, tt)))))));
  gossip = (tt, (tt, (tt, (tt, (tt, (tt, (tt, tt)))))));
  choice = (tt, (tt, (tt, (tt, (tt, (tt, (tt, tt)))))));
}

pub move_lawful : Lawful mover (read move_script move_events)
move_lawful = record {
  script = (record { below = omega arith; at_home = tt; command = tt }, (record { below = omega arith; at_home = refl; command = tt }, (record { below = omega arith; at_home = tt; command = tt }, (record { below = omega arith; at_home = tt; command = tt }, (record { below = omega arith; at_home = tt; command = tt }, (record { below = omega arith; at_home = tt; command = tt }, (record { below = omega arith; at_home = tt; command = record { home = refl; asked = order.Move 1 1; next = refl; suits = (refl, refl); enabled = tt; pid = tt } }, (record { below = omega arith; at_home = tt; command = record { home = refl; asked = order.Run []; next = refl; suits = tt; enabled = λ z. cc; pid = refl } }, tt))))))));
  place = (refl, (tt, (refl, (refl, (tt, (refl, (tt, (refl, tt))))))));
  news = (tt, (tt, (tt, (tt, (tt, (tt, (tt, (tt, tt))))))));
  freeze = ((refl, refl), (tt, (tt, (refl, (tt, ((refl, refl), (tt, (tt, tt))))))));
  once = (record { least = omega arith; most = omega arith; user = _; has = refl; whole = inr (inl refl) }, (tt, (tt, (tt, (tt, (tt, (tt, (tt, tt))))))));
  signal = (tt, (tt, (tt, (tt, (tt, (tt, (tt, (tt, tt))))))));
  poke = (tt, (refl, (tt, (tt, (tt, (tt, (tt, (tt, tt))))))));
  heed = (refl, (tt, (tt, (tt, (tt, (tt, (tt, (tt, tt))))))));
  gossip = ((λ z. omega arith), (tt, (tt, (tt, (tt, (tt, (tt, (tt, tt))))))));
  choice = (tt, (tt, (tt, (tt, (tt, (tt, (tt, (tt, tt))))))));
}

pub break_lawful : Lawful breaker (read break_script break_events)
break_lawful = record {
  script = (record { below = omega arith; at_home = tt; command = tt }, (record { below = omega arith; at_home = refl; command = tt }, (record { below = omega arith; at_home = tt; command = record { home = refl; asked = order.Kill 1 15; next = refl; suits = (refl, refl); enabled = tt; pid = tt } }, (record { below = omega arith; at_home = refl; command = tt }, (record { below = omega arith; at_home = tt; command = tt }, (record { below = omega arith; at_home = tt; command = record { home = refl; asked = order.Run []; next = refl; suits = tt; enabled = λ z. cc; pid = refl } }, tt))))));
  place = (refl, (tt, (tt, (tt, (refl, (refl, tt))))));
  news = (tt, (tt, (tt, (tt, (tt, (tt, tt))))));
  freeze = ((refl, refl, tt), (tt, (tt, (tt, ((refl, refl), (tt, tt))))));
  once = ((refl, refl, refl), (record { waits = refl; kind = refl; first = refl; number_is = (8, refl, λ z. omega (arith, z), record { user = _; request = ReadCall; has = refl; asks = refl; number_is = refl }); value_is = tt; reply = refl; end_is = refl }, (tt, (record { waits = refl; calls = refl; unserved = refl; first = refl; call = λ z. omega (arith, z); requests = record { user = _; request = ReadCall; has = refl; asks = refl; number_is = refl }; blocks = refl; quiet = refl }, (record { user = _; request = ReadCall; has = refl; asks = refl; number_is = refl }, (tt, tt))))));
  signal = (tt, (record { takes = refl; more_is = refl }, (tt, (tt, (tt, (tt, tt))))));
  poke = (tt, (refl, (refl, (tt, (tt, (tt, tt))))));
  heed = (tt, (tt, (tt, (tt, (refl, (tt, tt))))));
  gossip = (tt, (tt, (tt, (tt, (tt, (tt, tt))))));
  choice = (tt, (tt, (tt, (tt, (tt, (tt, tt))))));
}

pub poke_lawful : Lawful poker (read poke_script poke_events)
poke_lawful = record {
  script = (record { below = omega arith; at_home = tt; command = tt }, (record { below = omega arith; at_home = tt; command = tt }, (record { below = omega arith; at_home = refl; command = tt }, (record { below = omega arith; at_home = tt; command = tt }, (record { below = omega arith; at_home = tt; command = tt }, (record { below = omega arith; at_home = tt; command = record { home = refl; asked = order.Kill 1 15; next = refl; suits = (refl, refl); enabled = tt; pid = tt } }, (record { below = omega arith; at_home = tt; command = record { home = refl; asked = order.Run []; next = refl; suits = tt; enabled = λ z. cc; pid = refl } }, tt)))))));
  place = (refl, (refl, (tt, (refl, (tt, (tt, (refl, tt)))))));
  news = (tt, (tt, (tt, (tt, (tt, (tt, (tt, tt)))))));
  freeze = ((refl, refl), ((refl, refl, tt), (tt, ((refl, refl), (tt, (tt, (tt, tt)))))));
  once = (record { least = omega arith; most = omega arith; user = _; has = refl; whole = inr (inl refl) }, ((refl, refl, refl), (record { waits = refl; kind = refl; first = refl; number_is = refl; value_is = refl; reply = refl; end_is = refl }, (tt, (tt, (tt, (tt, tt)))))));
  signal = (tt, (tt, (record { takes = refl; more_is = refl }, (tt, (tt, (tt, (tt, tt)))))));
  poke = (tt, (tt, (refl, (tt, (tt, (refl, (tt, tt)))))));
  heed = (refl, (tt, (tt, (refl, ((refl, refl), (tt, (tt, tt)))))));
  gossip = ((λ z. omega arith), (tt, (tt, (tt, (tt, (tt, (tt, tt)))))));
  choice = (tt, (tt, (tt, (tt, (tt, (tt, (tt, tt)))))));
}

-- the last one may be left out: what is left is a beginning of the run
pub left_out_not : (k : ℕ) → k < 8 → Lawful hello (read hello_script (left_out k hello_events)) → ⊥
left_out_not zero less l = l.once.0
left_out_not (suc zero) less l = l.once.0
left_out_not (suc (suc zero)) less l = let z : false ≡ true = l.freeze.1.1.1.1.0.0 in cc
left_out_not (suc (suc (suc zero))) less l = l.once.0
left_out_not (suc (suc (suc (suc zero)))) less l = let z : true ≡ false = l.freeze.1.1.1.0.0 in cc
left_out_not (suc (suc (suc (suc (suc zero))))) less l = l.once.0
left_out_not (suc (suc (suc (suc (suc (suc zero)))))) less l = let z : false ≡ true = l.freeze.0.0 in cc
left_out_not (suc (suc (suc (suc (suc (suc (suc zero))))))) less l = let z : 0 ≡ 1 = l.once.0.1 in absurd (omega (arith, z))
left_out_not (suc (suc (suc (suc (suc (suc (suc (suc k)))))))) less l = absurd (omega (arith, less))

pub twice_not : Lawful writer (read hello_script twice_events) → ⊥
twice_not l = let z : 1 ≡ 0 = l.once.0.first in absurd (omega (arith, z))

pub copy_not : Lawful mover (read move_script copy_events) → ⊥
copy_not l = let z : Link 0 1 ∷ [] ≡ Node 0 ∷ [] = l.place.0 in cc

pub left_not : Lawful breaker (read break_script left_events) → ⊥
left_not l = let z : None ≡ Some 15 = l.signal.0.takes in absurd cc

pub unheeded_not : Lawful poker (read poke_script unheeded_events) → ⊥
unheeded_not l = let z : true ≡ false = l.heed.0 in cc

pub refused_not : Grounded mover (read move_script refused_events) → ⊥
refused_not g = go g.0
  where
    go : ((to : ℕ) × (None ≡ Some to)) ⊎ (0 + 0 < 0) → ⊥
    go (inl x) = let z : None ≡ Some x.0 = x.1 in cc
    go (inr x) = omega (arith, x)

pub again_not : outcomes 2 (read move_script again_events) ≤ 1 → ⊥
again_not x = let z : 2 ≤ 1 = x in omega (arith, z)
