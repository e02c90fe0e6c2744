-- The taking of a signal, and the pokes, in the words of the laws.
use Rattle.std.proofs.Common.{◌≡◌, ℕ, ◌==◌, nat_lt, cond, Bool, true, false, Option, Some, None, List, [], ◌∷◌, refl, sym, ◌∙◌, arith}
use Rattle.std.specs.Prelude.{is_some, ℤ}
use Rattle.std.specs.Option.{option_map, option_and_then}
use Rattle.call_table.specs.declared.process.End.{End}
use Rattle.signal_set.specs.Signals.{SignalState, lowest_deliverable}
use Rattle.kernel_spec.specs.Processes.{live_signals, taken_of, take_of}
use Rattle.kernel_spec.specs.Kernel.{KernelState, AfterTake, after_took, deliverable, take_result}
use Rattle.deputy.specs.declared.pokes.Pokes.{Pokes}
use Rattle.deputy.specs.Calls as calls
use Rattle.protocol.specs.Deeds.{Manner, Served, born_of, served_deed}
use Rattle.protocol.specs.Notes as notes
use Rattle.protocol.specs.Home.{Last, last, both}
use Rattle.protocol.specs.Home as home
use Rattle.node_machine.specs.Plan.{Plan}
use Rattle.node_machine.specs.Machine.{Policy, machine, took_as}

pub is_some_same : (o : Option ℕ) → notes.is_some o ≡ is_some o
is_some_same None = refl
is_some_same (Some x) = refl

module _ (policy : Policy) (plan : Plan) where
  -- home's last part as the laws have it, by the signal and how it is taken
  taken_last : Option ℕ → Option AfterTake → KernelState → Last (machine policy plan)
  taken_last None t k = record { kernel = k; taken = None; signal = None; raised = None }
  taken_last (Some s) t k = record { kernel = (took_as k t).kernel; taken = Some (took_as k t).taken; signal = Some s; raised = (took_as k t).raised }

  abbrev as_last : Option ℕ → Option AfterTake → KernelState → Last (machine policy plan)
  as_last o t k = record { kernel = (calls.last_by t k).kernel; taken = (calls.last_by t k).taken; signal = o; raised = (calls.last_by t k).raised }

  abbrev pub last_in : KernelState → ℕ → Bool → Last (machine policy plan)
  last_in k p room = as_last (deliverable k p) (take_result k p room) k

  last_taken : (o : Option ℕ) (k : KernelState) (p : ℕ) (room : Bool) → home.last_by (machine policy plan) o k p room ≡ taken_last o (take_result k p room) k
  unfolding taken_last
  last_taken None k p room = refl
  last_taken (Some s) k p room = refl

  taken_is : (k : KernelState) (p : ℕ) (room : Bool) (x : Option SignalState) → taken_last (option_and_then lowest_deliverable x) (option_map (after_took k p) (option_and_then (take_of room) x)) k ≡ as_last (option_and_then lowest_deliverable x) (option_map (after_took k p) (option_and_then (take_of room) x)) k
  unfolding taken_last
  taken_is k p room None = refl
  taken_is k p room (Some state) = go (lowest_deliverable state)
    where
      go : (y : Option ℕ) → taken_last y (option_map (after_took k p) (option_map (taken_of room state) y)) k ≡ as_last y (option_map (after_took k p) (option_map (taken_of room state) y)) k
      go None = refl
      go (Some s) = refl

  pub last_is : (k : KernelState) (p : ℕ) (room : Bool) → last (machine policy plan) k p room ≡ last_in k p room
  last_is k p room = last_taken (deliverable k p) k p room ∙ taken_is k p room (live_signals k.processes p)

-- ---- pokes

-- the pids of at most two pokes, as a list
pub data ArePokes : Option ℕ → Option ℕ → List ℕ → Type 0 where
  no_poke : ArePokes None None []
  one_poke : (a : ℕ) → ArePokes (Some a) None (a ∷ [])
  two_pokes : (a b : ℕ) → ArePokes (Some a) (Some b) (a ∷ b ∷ [])

lower_other : (a b : ℕ) → nat_lt a b ≡ true → (a == b) ≡ false
lower_other a b h = grind arith

abbrev pokes_by : Bool → Bool → ℕ → ℕ → Pokes
pokes_by e l a b = cond e (record { first = Some a; second = None }) (cond l (record { first = Some a; second = Some b }) (record { first = Some b; second = Some a }))

pub ordered_pokes : (x y : Option ℕ) → ArePokes (calls.in_order x y).first (calls.in_order x y).second (both x y)
ordered_pokes None None = no_poke
ordered_pokes None (Some b) = one_poke b
ordered_pokes (Some a) None = one_poke a
ordered_pokes (Some a) (Some b) = go (a == b) (nat_lt a b) refl refl
  where
    go : (e l : Bool) → (a == b) ≡ e → nat_lt a b ≡ l → ArePokes (pokes_by e l a b).first (pokes_by e l a b).second (home.in_order l e a b)
    go true true s t = let z : true ≡ false = sym s ∙ lower_other a b t in absurd cc
    go true false s t = one_poke a
    go false true s t = two_pokes a b
    go false false s t = two_pokes b a

pub served_is : (p : ℕ) (manner : Manner) (number : Option ℕ) (value : Option ℤ) (signal : Option ℕ) (ends : Option End) (more : Bool) (a b : Option ℕ) (list : List ℕ) → ArePokes a b list
    → served_deed p manner number value signal ends more a b ≡ Served p manner number value (born_of manner number value) signal ends more list
served_is p manner number value signal ends more None None [] no_poke = refl
served_is p manner number value signal ends more (Some q) None (_ ∷ []) (one_poke _) = refl
served_is p manner number value signal ends more (Some q) (Some r) (_ ∷ _ ∷ []) (two_pokes _ _) = refl
served_is p manner number value signal ends more None None (_ ∷ _) x = elim x [ ]
served_is p manner number value signal ends more None (Some r) list x = elim x [ ]
served_is p manner number value signal ends more (Some q) None [] x = elim x [ ]
served_is p manner number value signal ends more (Some q) None (_ ∷ (_ ∷ _)) x = elim x [ ]
served_is p manner number value signal ends more (Some q) (Some r) [] x = elim x [ ]
served_is p manner number value signal ends more (Some q) (Some r) (_ ∷ []) x = elim x [ ]
served_is p manner number value signal ends more (Some q) (Some r) (_ ∷ (_ ∷ (_ ∷ _))) x = elim x [ ]
