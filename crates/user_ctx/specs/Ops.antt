-- Instructions made ready, and what they do.
use Rattle.std.specs.Prelude.{ℕ, ◌+◌, ◌*◌, ◌/◌, ◌%◌, ◌≡◌, List, Bool, true, false, not, ◌==◌, bit_and, bit_or, bit_xor, nat_lt, nat_le}
use Rattle.user_spec.specs.Words.{sum_of, difference_of, is_below, one_if, shifted_left, shifted_right, shifted_signed}
use Rattle.user_spec.specs.declared.effect.Form.TheVariants.{SignedByte, SignedHalf, Word, Byte, Half}
use Rattle.user_spec.specs.declared.effect.Width.TheVariants.{One, Two, Four}
use Rattle.user_spec.specs.declared.effect.Effect.{Effect}
use Rattle.user_spec.specs.declared.effect.Effect.TheVariants as effect
use Rattle.user_spec.specs.Instruction.{value_of, jump, effect_of, next_effect}
use Rattle.page_set.specs.Pages.{PageMap}
use Rattle.rv_decode.specs.declared.instruction.Instr.{Instr}
use Rattle.user_ctx.specs.declared.op.Op.{Op}
use Rattle.user_ctx.specs.declared.op.Op.TheVariants.{Unknown, Slow, Nop, Set, Addi, Slti, Sltiu, Xori, Ori, Andi, Slli, Srli, Srai, Add, Sub, Sll, Slt, Sltu, Xor, Srl, Sra, Or, And, Lb, Lh, Lw, Lbu, Lhu, Sb, Sh, Sw, Beq, Bne, Blt, Bge, Bltu, Bgeu, Jump, Link, Leap, LeapLink, Return, Call}
use Rattle.user_ctx.specs.declared.op.Work.{Work}
use Rattle.user_ctx.specs.declared.op.Work.TheVariants as work

abbrev pub goes : Bool → ℕ → Work
goes true to = work.Goes to
goes false to = work.Falls

-- where a register and an offset lead: the lowest bit is dropped
abbrev pub led_to : List ℕ → ℕ → ℕ → ℕ
led_to x a imm = sum_of (value_of x a) imm / 2 * 2

-- what it does where x is x0 to x31
abbrev pub work_of : Op → List ℕ → Work
work_of Unknown x = work.Leaves
work_of Slow x = work.Leaves
work_of Nop x = work.Falls
work_of (Set rd value) x = work.Sets rd value
work_of (Addi rd a imm) x = work.Sets rd (sum_of (value_of x a) imm)
work_of (Slti rd a imm) x = work.Sets rd (one_if (is_below (value_of x a) imm))
work_of (Sltiu rd a imm) x = work.Sets rd (one_if (nat_lt (value_of x a) imm))
work_of (Xori rd a imm) x = work.Sets rd (bit_xor (value_of x a) imm)
work_of (Ori rd a imm) x = work.Sets rd (bit_or (value_of x a) imm)
work_of (Andi rd a imm) x = work.Sets rd (bit_and (value_of x a) imm)
work_of (Slli rd a k) x = work.Sets rd (shifted_left (value_of x a) k)
work_of (Srli rd a k) x = work.Sets rd (shifted_right (value_of x a) k)
work_of (Srai rd a k) x = work.Sets rd (shifted_signed (value_of x a) k)
work_of (Add rd a b) x = work.Sets rd (sum_of (value_of x a) (value_of x b))
work_of (Sub rd a b) x = work.Sets rd (difference_of (value_of x a) (value_of x b))
work_of (Sll rd a b) x = work.Sets rd (shifted_left (value_of x a) (value_of x b))
work_of (Slt rd a b) x = work.Sets rd (one_if (is_below (value_of x a) (value_of x b)))
work_of (Sltu rd a b) x = work.Sets rd (one_if (nat_lt (value_of x a) (value_of x b)))
work_of (Xor rd a b) x = work.Sets rd (bit_xor (value_of x a) (value_of x b))
work_of (Srl rd a b) x = work.Sets rd (shifted_right (value_of x a) (value_of x b))
work_of (Sra rd a b) x = work.Sets rd (shifted_signed (value_of x a) (value_of x b))
work_of (Or rd a b) x = work.Sets rd (bit_or (value_of x a) (value_of x b))
work_of (And rd a b) x = work.Sets rd (bit_and (value_of x a) (value_of x b))
work_of (Lb rd a imm) x = work.Loads rd (sum_of (value_of x a) imm) SignedByte
work_of (Lh rd a imm) x = work.Loads rd (sum_of (value_of x a) imm) SignedHalf
work_of (Lw rd a imm) x = work.Loads rd (sum_of (value_of x a) imm) Word
work_of (Lbu rd a imm) x = work.Loads rd (sum_of (value_of x a) imm) Byte
work_of (Lhu rd a imm) x = work.Loads rd (sum_of (value_of x a) imm) Half
work_of (Sb a b imm) x = work.Stores (sum_of (value_of x a) imm) (value_of x b) One
work_of (Sh a b imm) x = work.Stores (sum_of (value_of x a) imm) (value_of x b) Two
work_of (Sw a b imm) x = work.Stores (sum_of (value_of x a) imm) (value_of x b) Four
work_of (Beq a b to) x = goes (value_of x a == value_of x b) to
work_of (Bne a b to) x = goes (not (value_of x a == value_of x b)) to
work_of (Blt a b to) x = goes (is_below (value_of x a) (value_of x b)) to
work_of (Bge a b to) x = goes (not (is_below (value_of x a) (value_of x b))) to
work_of (Bltu a b to) x = goes (nat_lt (value_of x a) (value_of x b)) to
work_of (Bgeu a b to) x = goes (nat_le (value_of x b) (value_of x a)) to
work_of (Jump to) x = work.Goes to
work_of (Link rd to) x = work.Links rd to
work_of (Leap to) x = work.Leaps to
work_of (LeapLink rd to) x = work.LeapsFrom rd to
work_of (Return a imm) x = work.Leaps (led_to x a imm)
work_of (Call rd a imm) x = work.LeapsFrom rd (led_to x a imm)

-- the address of a place in the page of an address
abbrev pub place_at : ℕ → ℕ → ℕ
place_at at to = at / 4096 * 4096 + 4 * to

-- a step to an address that writes no register
pub record IsJump (e : Effect) (next : ℕ) : Type 0 where
  pub value : ℕ
  pub is : e ≡ effect.Sets 0 value next

-- a jump anywhere that writes no register
pub record IsLeap (e : Effect) (target : ℕ) : Type 0 where
  pub value : ℕ
  pub is : e ≡ jump 0 value target

-- that work at an address is this effect
abbrev pub IsWork : Work → ℕ → Effect → Type 0
IsWork work.Leaves at e = Unit {0}
IsWork (work.Sets rd value) at e = e ≡ effect.Sets rd value (sum_of at 4)
IsWork (work.Loads rd addr form) at e = e ≡ effect.Loads rd addr form
IsWork (work.Stores addr value width) at e = e ≡ effect.Stores addr value width
IsWork work.Falls at e = IsJump e (sum_of at 4)
IsWork (work.Goes to) at e = IsJump e (place_at at to)
IsWork (work.Links rd to) at e = e ≡ effect.Sets rd (sum_of at 4) (place_at at to)
IsWork (work.Leaps target) at e = IsLeap e target
IsWork (work.LeapsFrom rd target) at e = e ≡ jump rd (sum_of at 4) target

-- the instruction at an address made ready
pub record IsOpOf (op : Op) (instr : Instr) (at : ℕ) : Type 0 where
  pub each : (x : List ℕ) → IsWork (work_of op x) at (effect_of instr at x)

-- a target in the page of an address
pub record IsTarget (at distance to : ℕ) : Type 0 where
  pub aligned : sum_of at distance % 4 ≡ 0
  pub place : sum_of at distance ≡ place_at at to

-- what is ready for an address is so
pub record IsOp (pages : PageMap) (at : ℕ) (op : Op) : Type 0 where
  pub each : (x : List ℕ) → IsWork (work_of op x) at (next_effect at x pages)
