-- Where a stamp stands.
use Rattle.std.specs.Prelude.{ℕ, ◌+◌, ◌-◌, ◌*◌, ◌/◌, min, max}

-- how many cells of a stamp there are
abbrev pub span_of : ℕ → ℕ → ℕ
span_of first last = last - first + 1

-- a stamp has 32 units where there are 25 to 50 of them
abbrev pub width_of : ℕ → ℕ
width_of span = max (min span 50) 25 * 32

-- each stamp has an equal share of the width, cut to a whole place
abbrev pub place_of : ℕ → ℕ → ℕ → ℕ → ℕ
place_of first span width stamp = min (stamp - first) span * width / span
