-- Which numbers a written register and a place in a page may be.
use Rattle.std.specs.Prelude.{ℕ, ◌<◌}

abbrev pub IsDestination : ℕ → Type 0
IsDestination n = (0 < n) × (n < 32)

abbrev pub IsPlace : ℕ → Type 0
IsPlace n = n < 1024
