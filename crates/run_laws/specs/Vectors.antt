-- What the events tell of gossip: the vector of each node, how many halves it sent, and the halves that were sent and are not heard yet.
use Rattle.std.specs.Prelude.{ℕ, ◌==◌, ◌&&◌, true, false, cond, Option, List, [], ◌∷◌, ◌++◌}
use Rattle.protocol.specs.Ops.{Ops}
use Rattle.protocol.specs.Gossip.{Entry, Gossip, no_gossip, one_step, told_places, gossip_after, Talk, Silent, Stepping, Talking, talk_of}
use Rattle.protocol.specs.Deeds.{Noted}
use Rattle.run_laws.specs.Schedule.{the_machine}
use Rattle.run_laws.specs.Loads.{own_entry}

-- of two nodes, the places of the halves that the one sent to the other and that it has not heard yet, the first one first
pub record Exchange : Type 0 where
  pub nodes : ℕ → Gossip
  pub unheard : ℕ → ℕ → List (List (Option Entry))

abbrev pub no_exchange : Exchange
no_exchange = record { nodes = λ n. no_gossip; unheard = λ a b. [] }

abbrev pub in_front : List (List (Option Entry)) → List (Option Entry)
in_front [] = []
in_front (x ∷ xs) = x

abbrev pub behind_it : List (List (Option Entry)) → List (List (Option Entry))
behind_it [] = []
behind_it (x ∷ xs) = xs

-- the k-th half that is heard is the k-th that was sent
abbrev pub exchanged_by : Talk → ℕ → Entry → Exchange → Exchange
exchanged_by Silent n own k = k
exchanged_by Stepping n own k = record { nodes = λ a. cond (a == n) (one_step (k.nodes n)) (k.nodes a); unheard = k.unheard }
exchanged_by (Talking false other chosen) n own k = record {
  nodes = λ a. cond (a == n) (gossip_after false own [] (k.nodes n)) (k.nodes a);
  unheard = λ a b. cond ((a == n) && (b == other)) (k.unheard a b ++ told_places own (k.nodes n) ∷ []) (k.unheard a b);
}
exchanged_by (Talking true other chosen) n own k = record {
  nodes = λ a. cond (a == n) (gossip_after true own (in_front (k.unheard other n)) (k.nodes n)) (k.nodes a);
  unheard = λ a b. cond ((a == other) && (b == n)) (behind_it (k.unheard a b)) (k.unheard a b);
}

abbrev pub exchanged : (O : Ops) → List Noted → Exchange
exchanged O [] = no_exchange
exchanged O (e ∷ before) = exchanged_by (talk_of e.what) e.node (own_entry O e.node e.stamp before (the_machine O before)) (exchanged O before)

abbrev pub vector_of : (O : Ops) → ℕ → List Noted → List (Option Entry)
vector_of O n es = ((exchanged O es).nodes n).vector
