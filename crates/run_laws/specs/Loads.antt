-- What a node has at a moment of a run, by the events and the machine: the processes that it holds, those that run there, and what it tells of itself.
use Rattle.std.specs.Prelude.{◌≡◌, ℕ, ◌+◌, true, false, cond, Option, List, [], ◌∷◌}
use Rattle.protocol.specs.Ops.{Ops, sum_below, one_if}
use Rattle.protocol.specs.Gossip.{Entry, Movable, listed_below}
use Rattle.protocol.specs.Deeds.{Noted}
use Rattle.run_laws.specs.Machine.{MachineState}
use Rattle.run_laws.specs.Facts.{Node, Facts, facts}
use Rattle.run_laws.specs.Pages.{is_at, pages_of, free_pages}

module _ (O : Ops) where
  -- n holds a live process that neither waits nor asks
  pub record IsFree (n p : ℕ) (es : List Noted) (m : MachineState O) : Type 0 where
    pub holder : (facts p es).places ≡ Node n ∷ []
    pub live : O.live m.kernel p ≡ true
    pub awake : (facts p es).waits ≡ false
    pub settled : (facts p es).asks ≡ false

  -- how many processes n holds
  abbrev pub load_at : ℕ → List Noted → MachineState O → ℕ
  load_at n es m = sum_below (O.count m.kernel + 1) (λ p. one_if (is_at n (facts p es).places))

  -- those of them that neither wait nor ask, by pid, with their pages
  abbrev pub movable_by : ℕ → ℕ → Facts → Option O.User → List Movable
  movable_by n p f u = cond (is_at n f.places) (cond f.waits [] (cond f.asks [] (record { pid = p; pages = pages_of O u } ∷ []))) []

  abbrev pub movable_at : ℕ → List Noted → MachineState O → List Movable
  movable_at n es m = listed_below (O.count m.kernel + 1) (λ p. movable_by n p (facts p es) (m.users p))

  -- what n tells of itself at an event of this stamp
  abbrev pub own_entry : ℕ → ℕ → List Noted → MachineState O → Entry
  own_entry n stamp es m = record { node = n; load = load_at n es m; free = free_pages O n es m; stamp = stamp }
