-- Letters that an event posts.
use Rattle.std.specs.Prelude.{ℕ, ◌==◌, ◌||◌, Bool, false, List, [], ◌∷◌}
use Rattle.call_forward.specs.declared.message.Message.{Message}
use Rattle.call_forward.specs.declared.letter.Letter.{Letter}

-- what an event posts goes out from its node with its stamp
abbrev pub posted_by : ℕ → ℕ → (ℕ × Message) → Letter
posted_by id stamp m = record { from = id; to = m.0; stamp = stamp; message = m.1 }

-- whether one of these letters goes to a node
abbrev pub any_to : ℕ → List Letter → Bool
any_to node [] = false
any_to node (l ∷ ls) = (l.to == node) || any_to node ls
