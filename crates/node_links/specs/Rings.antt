-- Carriers over rings.
use Rattle.std.specs.Prelude.{◌≡◌, []}
use Rattle.node_links.specs.Links.{letters_put, letters_taken, known_letters, free_slots, IsLink}
use Rattle.node_links.specs.declared.ring.RingCarrier.{RingCarrier}

abbrev pub ring_pair : RingCarrier → RingCarrier → Type 0
ring_pair c d = IsLink c.out d.back × IsLink d.out c.back

-- a carrier by which nothing has gone, over rings of 64 letters
pub record IsNew (c : RingCarrier) : Type 0 where
  pub put : letters_put c.out ≡ []
  pub taken : letters_taken c.back ≡ []
  pub known : known_letters c.back ≡ []
  pub count : c.count ≡ 0
  pub room : free_slots c.out ≡ 64
