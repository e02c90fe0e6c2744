-- Pages in use at a node: of the processes that it holds, and of those that it has allowed to come and that have not landed.
use Rattle.std.specs.Prelude.{ℕ, ◌+◌, ◌-◌, ◌==◌, ◌&&◌, Bool, false, cond, Option, Some, None, List, [], ◌∷◌}
use Rattle.protocol.specs.Ops.{Ops}
use Rattle.protocol.specs.Deeds.{Deed, Allows, Land, Noted}
use Rattle.protocol.specs.Ops.{sum_below}
use Rattle.run_laws.specs.Machine.{MachineState}
use Rattle.run_laws.specs.Facts.{Place, Node, facts}

-- the needs that node n has allowed to p since p last landed there
abbrev pub allowed_by : Deed → Bool → ℕ → ℕ → ℕ
allowed_by (Allows q from need) here p x = cond (here && (q == p)) (x + need) x
allowed_by (Land q source) here p x = cond (here && (q == p)) 0 x
allowed_by _ here p x = x

abbrev pub allowed : ℕ → ℕ → List Noted → ℕ
allowed n p [] = 0
allowed n p (e ∷ before) = allowed_by e.what (e.node == n) p (allowed n p before)

-- the holder is this node
abbrev pub is_at : ℕ → List Place → Bool
is_at n (Node m ∷ []) = n == m
is_at n _ = false

module _ (O : Ops) where
  abbrev pub pages_of : Option O.User → ℕ
  pages_of None = 0
  pages_of (Some u) = O.pages u

  abbrev pub pages_at : ℕ → List Noted → MachineState O → ℕ → ℕ
  pages_at n es m p = cond (is_at n (facts p es).places) (pages_of (m.users p)) 0 + allowed n p es

  -- over all pids ever given
  abbrev pub used_pages : ℕ → List Noted → MachineState O → ℕ
  used_pages n es m = sum_below (O.count m.kernel + 1) (λ p. pages_at n es m p)

  abbrev pub free_pages : ℕ → List Noted → MachineState O → ℕ
  free_pages n es m = O.cap - used_pages n es m
