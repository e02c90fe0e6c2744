-- Places on a scale.
use Rattle.std.proofs.Common.{◌≡◌, ◌≤◌, ◌<◌, ◌*◌, ◌/◌, ◌-◌, ◌+◌, ℕ, min, arith}
use Rattle.std.proofs.Math.Nat.{div-le_of_le-mul, div-mul-le_self, mul-le-mul_right, min-le_left, min-le_right, le-min, le_trans}
use Rattle.std.proofs.lemmas.Nat.{le-div}
use Rattle.event_picture.specs.Scales.{place_of}

least_rises : (a b s : ℕ) → a ≤ b → min a s ≤ min b s
least_rises a b s h = le-min (le_trans (min-le_left a s) h) (min-le_right a s)

passed_rises : (first earlier stamp : ℕ) → earlier ≤ stamp → earlier - first ≤ stamp - first
passed_rises first earlier stamp h = omega (arith, h)

-- nothing stands behind the end
pub place_within : (first span width stamp : ℕ) → place_of first span width stamp ≤ width
place_within first span width stamp = div-le_of_le-mul span (mul-le-mul_right width (min-le_right (stamp - first) span))

-- a later stamp stands no earlier
pub place_rises : (first span width earlier stamp : ℕ) → 0 < span → earlier ≤ stamp → place_of first span width earlier ≤ place_of first span width stamp
place_rises first span width earlier stamp some later =
    le-div (place_of first span width earlier) (min (stamp - first) span * width) span some
    (le_trans (div-mul-le_self (min (earlier - first) span * width) span)
    (mul-le-mul_right width (least_rises (earlier - first) (stamp - first) span (passed_rises first earlier stamp later))))
