-- Choice: at each half that is sent or heard the choice is one that the policy gives on what its node then sees, and none where it gives none.
use Rattle.std.specs.Prelude.{List, [], ◌∷◌}
use Rattle.protocol.specs.Ops.{Ops}
use Rattle.protocol.specs.Gossip.{Sight, Talk, Silent, Stepping, Talking, talk_of}
use Rattle.protocol.specs.Deeds.{Noted}
use Rattle.protocol.specs.Does.{seen}
use Rattle.run_laws.specs.Schedule.{the_machine}
use Rattle.run_laws.specs.Loads.{own_entry, movable_at}
use Rattle.run_laws.specs.Vectors.{vector_of}

module _ (O : Ops) where
  -- what the node of an event sees after it; what it begins there does not count
  abbrev pub sight_of : Noted → List Noted → Sight
  sight_of e before = seen O e.node (own_entry O e.node e.stamp before (the_machine O before)) (vector_of O e.node (e ∷ before)) (movable_at O e.node before (the_machine O before))

  abbrev pub ChoiceAt : Talk → Noted → List Noted → Type 0
  ChoiceAt Silent e before = Unit {0}
  ChoiceAt Stepping e before = Unit {0}
  ChoiceAt (Talking heard other chosen) e before = O.Chooses (sight_of e before) chosen

  abbrev pub ChoiceLaw : List Noted → Type 0
  ChoiceLaw [] = Unit {0}
  ChoiceLaw (e ∷ before) = ChoiceAt (talk_of e.what) e before × ChoiceLaw before
