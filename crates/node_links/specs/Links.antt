-- The two ends of a link.
use Rattle.std.specs.Prelude.{ℕ, List}
use Rattle.rtrb.specs.Ring.{sent, received, known_free, known_items, IsPair, SameProducer, SameConsumer}
use Rattle.call_forward.specs.declared.letter.Letter.{Letter}
use Rattle.node_links.specs.declared.ends.Out.{Out}
use Rattle.node_links.specs.declared.ends.In.{In}

-- the letters that were put on a link, and those that were taken off it, since it was made, the first one first
abbrev pub letters_put : Out → List Letter
letters_put out = sent out.ring

abbrev pub letters_taken : In → List Letter
letters_taken back = received back.ring

-- the letters on the link that its taking end knows of
abbrev pub known_letters : In → List Letter
known_letters back = known_items back.ring

-- the slots of the link that its putting end knows to be free
abbrev pub free_slots : Out → ℕ
free_slots out = known_free out.ring

-- the two ends are of one link
abbrev pub IsLink : Out → In → Type 0
IsLink out back = IsPair out.ring back.ring

-- the same end of the same link
abbrev pub SameOut : Out → Out → Type 0
SameOut a b = SameProducer a.ring b.ring

abbrev pub SameIn : In → In → Type 0
SameIn a b = SameConsumer a.ring b.ring
