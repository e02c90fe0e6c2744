-- When what is due can be done: what a machine, its script and its policy need so that a turn can be made wherever a kind of turn applies.
use Rattle.std.specs.Prelude.{◌≡◌, ◌≢◌, ◌≤◌, ◌<◌, ℕ, suc, ◌+◌, nat_lt, true, Option, Some, None, List, slice_get}
use Rattle.node_event.specs.declared.script.Order.TheVariants as order
use Rattle.node_event.specs.declared.script.ScriptLine.{ScriptLine}
use Rattle.protocol.specs.Gossip.{Sight, Choice}
use Rattle.protocol.specs.Ops.{Ops}
use Rattle.protocol.specs.Deeds.{runs_before, feeds_before}

-- the policy has an answer on all that it sees
abbrev pub HasAnswers : Ops → Type 0
HasAnswers O = (s : Sight) → (c : Option Choice) × O.Chooses s c

pub record Able (O : Ops) : Type 0 where
  -- the lines of the script rise
  pub rising : (k : ℕ) (a b : ScriptLine) → slice_get O.script k ≡ Some a → slice_get O.script (suc k) ≡ Some b → a.line < b.line
  -- the setup has an image for each `run` line and a text for each `type` line, and a `kill` line names a signal
  pub image : (k : ℕ) (s : ScriptLine) → slice_get O.script k ≡ Some s → (words : List (List ℕ)) → s.order ≡ order.Run words → nat_lt (runs_before s.line O.script) O.images ≡ true
  pub text : (k : ℕ) (s : ScriptLine) → slice_get O.script k ≡ Some s → (bytes : List ℕ) → s.order ≡ order.Feed bytes → nat_lt (feeds_before s.line O.script) O.texts ≡ true
  pub signal : (k : ℕ) (s : ScriptLine) → slice_get O.script k ≡ Some s → (p g : ℕ) → s.order ≡ order.Kill p g → O.is_signal g ≡ true
  -- a process that asks for nothing can step, step by step
  pub quantum : 1 ≤ O.quantum
  pub goes : (u : O.User) → O.asks u ≡ None → O.went u 1 ≢ None
  pub more : (u v : O.User) (k : ℕ) → O.went u k ≡ Some v → O.went u (k + 1) ≡ O.went v 1
  pub answers : HasAnswers O
