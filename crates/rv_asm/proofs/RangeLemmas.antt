-- Numbers that are told apart only near 0 lie in the same ranges.
use Rattle.std.proofs.Common.{◌≡◌, ℕ, suc, ◌+◌, ◌*◌, ◌<◌, ◌≤◌, min, refl, ap, sym, ◌∙◌, arith, Option, Some, None, Bool, true, false, cond, ltb, leb, ℤ, pos, negsuc}
use Rattle.std.proofs.lemmas.Int.{ints}
use Rattle.std.specs.Int.{saturate_signed, w32}
use Rattle.std.specs.Option.{option_map}
use Rattle.rv_decode.specs.Operands.{immediate_of, shift_of, upper_of, branch_offset_of, jump_offset_of}
use Rattle.rv_asm.specs.Operands.{place_of}
use Rattle.rv_asm.specs.Numbers.{near, ranged, word_of_number, byte_of_number, size_of_number}

pub saturated_near : (z : ℤ) → saturate_signed w32 (near z) ≡ saturate_signed w32 z
saturated_near (pos n) = grind arith
saturated_near (negsuc n) = grind arith

-- what f makes of numbers that g has changed
ranged_through : {A : Type 0} (f : ℤ → Option A) (g : ℤ → ℤ) → ((z : ℤ) → f (g z) ≡ f z) → (o : Option ℤ) → ranged f (option_map g o) ≡ ranged f o
ranged_through f g same None = refl
ranged_through f g same (Some z) = rw (same z)

immediate_same : (z : ℤ) → immediate_of (saturate_signed w32 z) ≡ immediate_of z
immediate_same (pos n) = grind arith
immediate_same (negsuc n) = grind arith

shift_same : (z : ℤ) → shift_of (saturate_signed w32 z) ≡ shift_of z
shift_same (pos n) = grind arith
shift_same (negsuc n) = grind arith

upper_same : (z : ℤ) → upper_of (saturate_signed w32 z) ≡ upper_of z
upper_same (pos n) = grind arith
upper_same (negsuc n) = grind arith

word_same : (z : ℤ) → word_of_number (near z) ≡ word_of_number z
word_same (pos n) = grind arith
word_same (negsuc n) = grind arith

byte_same : (z : ℤ) → byte_of_number (near z) ≡ byte_of_number z
byte_same (pos n) = grind arith
byte_same (negsuc n) = grind arith

size_same : (z : ℤ) → size_of_number (near z) ≡ size_of_number z
size_same (pos n) = grind arith
size_same (negsuc n) = grind arith

pub ranged_immediate : (o : Option ℤ) → ranged immediate_of (option_map (saturate_signed w32) o) ≡ ranged immediate_of o
ranged_immediate o = ranged_through immediate_of (saturate_signed w32) immediate_same o

pub ranged_shift : (o : Option ℤ) → ranged shift_of (option_map (saturate_signed w32) o) ≡ ranged shift_of o
ranged_shift o = ranged_through shift_of (saturate_signed w32) shift_same o

pub ranged_upper : (o : Option ℤ) → ranged upper_of (option_map (saturate_signed w32) o) ≡ ranged upper_of o
ranged_upper o = ranged_through upper_of (saturate_signed w32) upper_same o

pub ranged_word : (o : Option ℤ) → ranged word_of_number (option_map near o) ≡ ranged word_of_number o
ranged_word o = ranged_through word_of_number near word_same o

pub ranged_byte : (o : Option ℤ) → ranged byte_of_number (option_map near o) ≡ ranged byte_of_number o
ranged_byte o = ranged_through byte_of_number near byte_same o

pub ranged_size : (o : Option ℤ) → ranged size_of_number (option_map near o) ≡ ranged size_of_number o
ranged_size o = ranged_through size_of_number near size_same o

pub place_same : (o : Option ℤ) (r : Option ℕ) → place_of (option_map (saturate_signed w32) o) r ≡ place_of o r
place_same None r = refl
place_same (Some z) None = refl
place_same (Some z) (Some r) = rw (immediate_same z)

pub branch_same : (z : ℤ) → branch_offset_of (saturate_signed w32 z) ≡ branch_offset_of z
branch_same (pos n) = grind arith
branch_same (negsuc n) = grind arith

pub jump_same : (z : ℤ) → jump_offset_of (saturate_signed w32 z) ≡ jump_offset_of z
jump_same (pos n) = grind arith
jump_same (negsuc n) = grind arith
