-- The word of an instruction is read as that instruction.
use Rattle.std.proofs.Common.{◌≡◌, ℕ, ◌+◌, ◌*◌, ◌%◌, ◌^◌, ◌<◌, refl, ap, ◌∙◌, arith, Some, ℤ, pos, negsuc, lit<}
use Rattle.std.proofs.lemmas.Int.{ints}
use Rattle.rv_decode.specs.Fields.{bits_at, sign_extended, twos_complement, opcode, rd, funct3, rs1, rs2, funct7, immediate_i, immediate_s, immediate_b, immediate_u, immediate_j, fence_bits}
use Rattle.rv_decode.specs.Operands.{IsImmediate, IsBranchOffset, IsJumpOffset}
use Rattle.rv_decode.specs.Instructions.{r_type, i_type, s_type, b_type, u_type, j_type, fence_type, word_of, instruction_of, IsInRange}
use Rattle.rv_decode.specs.declared.instruction.Instr.{Instr}
use Rattle.rv_decode.specs.declared.instruction.Instr.TheVariants.{Lui, Auipc, Jal, Jalr, Beq, Bne, Blt, Bge, Bltu, Bgeu, Lb, Lh, Lw, Lbu, Lhu, Sb, Sh, Sw, Addi, Slti, Sltiu, Xori, Ori, Andi, Slli, Srli, Srai, Add, Sub, Sll, Slt, Sltu, Xor, Srl, Sra, Or, And, Fence, Ecall, Ebreak}

-- ---- a signed number through a field

pub immediate_kept : (z : ℤ) → IsImmediate z → sign_extended 12 (twos_complement 12 z) ≡ z
immediate_kept (pos n) h = grind (arith, ints)
immediate_kept (negsuc n) h = grind (arith, ints)

pub branch_kept : (z : ℤ) → IsBranchOffset z → sign_extended 13 (twos_complement 13 z) ≡ z
branch_kept (pos n) h = grind (arith, ints)
branch_kept (negsuc n) h = grind (arith, ints)

pub jump_kept : (z : ℤ) → IsJumpOffset z → sign_extended 21 (twos_complement 21 z) ≡ z
jump_kept (pos n) h = grind (arith, ints)
jump_kept (negsuc n) h = grind (arith, ints)

pub immediate_fits : (z : ℤ) → IsImmediate z → twos_complement 12 z < 2 ^ 12
immediate_fits (pos n) h = omega (arith, ints)
immediate_fits (negsuc n) h = omega (arith, ints)

pub branch_fits : (z : ℤ) → IsBranchOffset z → (twos_complement 13 z < 2 ^ 13) × (twos_complement 13 z % 2 ≡ 0)
branch_fits (pos n) h = (omega (arith, ints), omega (arith, ints))
branch_fits (negsuc n) h = (omega (arith, ints), omega (arith, ints))

pub jump_fits : (z : ℤ) → IsJumpOffset z → (twos_complement 21 z < 2 ^ 21) × (twos_complement 21 z % 2 ≡ 0)
jump_fits (pos n) h = (omega (arith, ints), omega (arith, ints))
jump_fits (negsuc n) h = (omega (arith, ints), omega (arith, ints))

-- ---- what a word of each format is read as

record IsReadR (w f g r f3 d op : ℕ) : Type 0 where
  op-is : opcode w ≡ op
  f-is : funct7 w ≡ f
  f3-is : funct3 w ≡ f3
  d-is : rd w ≡ d
  r-is : rs1 w ≡ r
  g-is : rs2 w ≡ g

r-is_read : (f g r f3 d op : ℕ) → f < 128 → g < 32 → r < 32 → f3 < 8 → d < 32 → op < 128 → IsReadR (r_type f g r f3 d op) f g r f3 d op
r-is_read f g r f3 d op h1 h2 h3 h4 h5 h6 =
    record { op-is = omega arith; f-is = omega arith; f3-is = omega arith; d-is = omega arith; r-is = omega arith; g-is = omega arith }

record IsReadI (w : ℕ) (imm : ℤ) (r f3 d op : ℕ) : Type 0 where
  op-is : opcode w ≡ op
  f3-is : funct3 w ≡ f3
  d-is : rd w ≡ d
  r-is : rs1 w ≡ r
  imm-is : immediate_i w ≡ imm

i_fields : (t r f3 d op : ℕ) → t < 2 ^ 12 → r < 32 → f3 < 8 → d < 32 → op < 128 → IsReadI (t * 2 ^ 20 + r * 2 ^ 15 + f3 * 2 ^ 12 + d * 2 ^ 7 + op) (sign_extended 12 t) r f3 d op
i_fields t r f3 d op h1 h2 h3 h4 h5 =
    record { op-is = omega arith; f3-is = omega arith; d-is = omega arith; r-is = omega arith; imm-is = ap (sign_extended 12) (omega arith) }

i-is_read : (imm : ℤ) (r f3 d op : ℕ) → IsImmediate imm → r < 32 → f3 < 8 → d < 32 → op < 128 → IsReadI (i_type imm r f3 d op) imm r f3 d op
i-is_read imm r f3 d op h1 h2 h3 h4 h5 =
    let k = i_fields (twos_complement 12 imm) r f3 d op (immediate_fits imm h1) h2 h3 h4 h5 in
    record { op-is = k.op-is; f3-is = k.f3-is; d-is = k.d-is; r-is = k.r-is; imm-is = k.imm-is ∙ immediate_kept imm h1 }

record IsReadS (w : ℕ) (imm : ℤ) (g r f3 op : ℕ) : Type 0 where
  op-is : opcode w ≡ op
  f3-is : funct3 w ≡ f3
  r-is : rs1 w ≡ r
  g-is : rs2 w ≡ g
  imm-is : immediate_s w ≡ imm

s_fields : (t g r f3 op : ℕ) → t < 2 ^ 12 → g < 32 → r < 32 → f3 < 8 → op < 128 → IsReadS (bits_at t 5 7 * 2 ^ 25 + g * 2 ^ 20 + r * 2 ^ 15 + f3 * 2 ^ 12 + bits_at t 0 5 * 2 ^ 7 + op) (sign_extended 12 t) g r f3 op
s_fields t g r f3 op h1 h2 h3 h4 h5 =
    record { op-is = omega arith; f3-is = omega arith; r-is = omega arith; g-is = omega arith; imm-is = ap (sign_extended 12) (omega arith) }

s-is_read : (imm : ℤ) (g r f3 op : ℕ) → IsImmediate imm → g < 32 → r < 32 → f3 < 8 → op < 128 → IsReadS (s_type imm g r f3 op) imm g r f3 op
s-is_read imm g r f3 op h1 h2 h3 h4 h5 =
    let k = s_fields (twos_complement 12 imm) g r f3 op (immediate_fits imm h1) h2 h3 h4 h5 in
    record { op-is = k.op-is; f3-is = k.f3-is; r-is = k.r-is; g-is = k.g-is; imm-is = k.imm-is ∙ immediate_kept imm h1 }

record IsReadB (w : ℕ) (imm : ℤ) (g r f3 op : ℕ) : Type 0 where
  op-is : opcode w ≡ op
  f3-is : funct3 w ≡ f3
  r-is : rs1 w ≡ r
  g-is : rs2 w ≡ g
  imm-is : immediate_b w ≡ imm

b_word : ℕ → ℕ → ℕ → ℕ → ℕ → ℕ
b_word t g r f3 op =
    bits_at t 12 1 * 2 ^ 31 + bits_at t 5 6 * 2 ^ 25 + g * 2 ^ 20 + r * 2 ^ 15 + f3 * 2 ^ 12 + bits_at t 1 4 * 2 ^ 8 + bits_at t 11 1 * 2 ^ 7 + op

b_fields : (t g r f3 op : ℕ) → t < 2 ^ 13 → t % 2 ≡ 0 → g < 32 → r < 32 → f3 < 8 → op < 128 → IsReadB (b_word t g r f3 op) (sign_extended 13 t) g r f3 op
unfolding b_word
b_fields t g r f3 op h1 e h2 h3 h4 h5 =
    record { op-is = omega arith; f3-is = omega arith; r-is = omega arith; g-is = omega arith; imm-is = ap (sign_extended 13) (omega arith) }

b-is_read : (imm : ℤ) (g r f3 op : ℕ) → IsBranchOffset imm → g < 32 → r < 32 → f3 < 8 → op < 128 → IsReadB (b_type imm g r f3 op) imm g r f3 op
unfolding b_word
b-is_read imm g r f3 op h1 h2 h3 h4 h5 =
    let t = branch_fits imm h1 in
    let k = b_fields (twos_complement 13 imm) g r f3 op t.0 t.1 h2 h3 h4 h5 in
    record { op-is = k.op-is; f3-is = k.f3-is; r-is = k.r-is; g-is = k.g-is; imm-is = k.imm-is ∙ branch_kept imm h1 }

record IsReadU (w imm d op : ℕ) : Type 0 where
  op-is : opcode w ≡ op
  d-is : rd w ≡ d
  imm-is : immediate_u w ≡ imm

u-is_read : (imm d op : ℕ) → imm < 2 ^ 20 → d < 32 → op < 128 → IsReadU (u_type imm d op) imm d op
u-is_read imm d op h1 h2 h3 = record { op-is = omega arith; d-is = omega arith; imm-is = omega arith }

record IsReadJ (w : ℕ) (imm : ℤ) (d op : ℕ) : Type 0 where
  op-is : opcode w ≡ op
  d-is : rd w ≡ d
  imm-is : immediate_j w ≡ imm

j_word : ℕ → ℕ → ℕ → ℕ
j_word t d op =
    bits_at t 20 1 * 2 ^ 31 + bits_at t 1 10 * 2 ^ 21 + bits_at t 11 1 * 2 ^ 20 + bits_at t 12 8 * 2 ^ 12 + d * 2 ^ 7 + op

j_fields : (t d op : ℕ) → t < 2 ^ 21 → t % 2 ≡ 0 → d < 32 → op < 128 → IsReadJ (j_word t d op) (sign_extended 21 t) d op
unfolding j_word
j_fields t d op h1 e h2 h3 =
    record { op-is = omega arith; d-is = omega arith; imm-is = ap (sign_extended 21) (omega arith) }

j-is_read : (imm : ℤ) (d op : ℕ) → IsJumpOffset imm → d < 32 → op < 128 → IsReadJ (j_type imm d op) imm d op
unfolding j_word
j-is_read imm d op h1 h2 h3 =
    let t = jump_fits imm h1 in
    let k = j_fields (twos_complement 21 imm) d op t.0 t.1 h2 h3 in
    record { op-is = k.op-is; d-is = k.d-is; imm-is = k.imm-is ∙ jump_kept imm h1 }

record IsReadFence (w bits f3 op : ℕ) : Type 0 where
  op-is : opcode w ≡ op
  f3-is : funct3 w ≡ f3
  bits-is : fence_bits w ≡ bits

fence-is_read : (bits f3 op : ℕ) → bits < 2 ^ 22 → f3 < 8 → op < 128 → IsReadFence (fence_type bits f3 op) bits f3 op
fence-is_read bits f3 op h1 h2 h3 = record { op-is = omega arith; f3-is = omega arith; bits-is = omega arith }

-- ---- the rows

lui_row : (w d imm : ℕ) → IsReadU w imm d 0x37 → instruction_of w ≡ Some (Lui d imm)
lui_row w d imm h = rw (h.op-is, h.d-is, h.imm-is)

auipc_row : (w d imm : ℕ) → IsReadU w imm d 0x17 → instruction_of w ≡ Some (Auipc d imm)
auipc_row w d imm h = rw (h.op-is, h.d-is, h.imm-is)

jal_row : (w d : ℕ) (imm : ℤ) → IsReadJ w imm d 0x6F → instruction_of w ≡ Some (Jal d imm)
jal_row w d imm h = rw (h.op-is, h.d-is, h.imm-is)

jalr_row : (w d r : ℕ) (imm : ℤ) → IsReadI w imm r 0 d 0x67 → instruction_of w ≡ Some (Jalr d r imm)
jalr_row w d r imm h = rw (h.op-is, h.f3-is, h.d-is, h.r-is, h.imm-is)

beq_row : (w r g : ℕ) (imm : ℤ) → IsReadB w imm g r 0 0x63 → instruction_of w ≡ Some (Beq r g imm)
beq_row w r g imm h = rw (h.op-is, h.f3-is, h.r-is, h.g-is, h.imm-is)

bne_row : (w r g : ℕ) (imm : ℤ) → IsReadB w imm g r 1 0x63 → instruction_of w ≡ Some (Bne r g imm)
bne_row w r g imm h = rw (h.op-is, h.f3-is, h.r-is, h.g-is, h.imm-is)

blt_row : (w r g : ℕ) (imm : ℤ) → IsReadB w imm g r 4 0x63 → instruction_of w ≡ Some (Blt r g imm)
blt_row w r g imm h = rw (h.op-is, h.f3-is, h.r-is, h.g-is, h.imm-is)

bge_row : (w r g : ℕ) (imm : ℤ) → IsReadB w imm g r 5 0x63 → instruction_of w ≡ Some (Bge r g imm)
bge_row w r g imm h = rw (h.op-is, h.f3-is, h.r-is, h.g-is, h.imm-is)

bltu_row : (w r g : ℕ) (imm : ℤ) → IsReadB w imm g r 6 0x63 → instruction_of w ≡ Some (Bltu r g imm)
bltu_row w r g imm h = rw (h.op-is, h.f3-is, h.r-is, h.g-is, h.imm-is)

bgeu_row : (w r g : ℕ) (imm : ℤ) → IsReadB w imm g r 7 0x63 → instruction_of w ≡ Some (Bgeu r g imm)
bgeu_row w r g imm h = rw (h.op-is, h.f3-is, h.r-is, h.g-is, h.imm-is)

lb_row : (w d r : ℕ) (imm : ℤ) → IsReadI w imm r 0 d 0x03 → instruction_of w ≡ Some (Lb d r imm)
lb_row w d r imm h = rw (h.op-is, h.f3-is, h.d-is, h.r-is, h.imm-is)

lh_row : (w d r : ℕ) (imm : ℤ) → IsReadI w imm r 1 d 0x03 → instruction_of w ≡ Some (Lh d r imm)
lh_row w d r imm h = rw (h.op-is, h.f3-is, h.d-is, h.r-is, h.imm-is)

lw_row : (w d r : ℕ) (imm : ℤ) → IsReadI w imm r 2 d 0x03 → instruction_of w ≡ Some (Lw d r imm)
lw_row w d r imm h = rw (h.op-is, h.f3-is, h.d-is, h.r-is, h.imm-is)

lbu_row : (w d r : ℕ) (imm : ℤ) → IsReadI w imm r 4 d 0x03 → instruction_of w ≡ Some (Lbu d r imm)
lbu_row w d r imm h = rw (h.op-is, h.f3-is, h.d-is, h.r-is, h.imm-is)

lhu_row : (w d r : ℕ) (imm : ℤ) → IsReadI w imm r 5 d 0x03 → instruction_of w ≡ Some (Lhu d r imm)
lhu_row w d r imm h = rw (h.op-is, h.f3-is, h.d-is, h.r-is, h.imm-is)

sb_row : (w r g : ℕ) (imm : ℤ) → IsReadS w imm g r 0 0x23 → instruction_of w ≡ Some (Sb r g imm)
sb_row w r g imm h = rw (h.op-is, h.f3-is, h.r-is, h.g-is, h.imm-is)

sh_row : (w r g : ℕ) (imm : ℤ) → IsReadS w imm g r 1 0x23 → instruction_of w ≡ Some (Sh r g imm)
sh_row w r g imm h = rw (h.op-is, h.f3-is, h.r-is, h.g-is, h.imm-is)

sw_row : (w r g : ℕ) (imm : ℤ) → IsReadS w imm g r 2 0x23 → instruction_of w ≡ Some (Sw r g imm)
sw_row w r g imm h = rw (h.op-is, h.f3-is, h.r-is, h.g-is, h.imm-is)

addi_row : (w d r : ℕ) (imm : ℤ) → IsReadI w imm r 0 d 0x13 → instruction_of w ≡ Some (Addi d r imm)
addi_row w d r imm h = rw (h.op-is, h.f3-is, h.d-is, h.r-is, h.imm-is)

slti_row : (w d r : ℕ) (imm : ℤ) → IsReadI w imm r 2 d 0x13 → instruction_of w ≡ Some (Slti d r imm)
slti_row w d r imm h = rw (h.op-is, h.f3-is, h.d-is, h.r-is, h.imm-is)

sltiu_row : (w d r : ℕ) (imm : ℤ) → IsReadI w imm r 3 d 0x13 → instruction_of w ≡ Some (Sltiu d r imm)
sltiu_row w d r imm h = rw (h.op-is, h.f3-is, h.d-is, h.r-is, h.imm-is)

xori_row : (w d r : ℕ) (imm : ℤ) → IsReadI w imm r 4 d 0x13 → instruction_of w ≡ Some (Xori d r imm)
xori_row w d r imm h = rw (h.op-is, h.f3-is, h.d-is, h.r-is, h.imm-is)

ori_row : (w d r : ℕ) (imm : ℤ) → IsReadI w imm r 6 d 0x13 → instruction_of w ≡ Some (Ori d r imm)
ori_row w d r imm h = rw (h.op-is, h.f3-is, h.d-is, h.r-is, h.imm-is)

andi_row : (w d r : ℕ) (imm : ℤ) → IsReadI w imm r 7 d 0x13 → instruction_of w ≡ Some (Andi d r imm)
andi_row w d r imm h = rw (h.op-is, h.f3-is, h.d-is, h.r-is, h.imm-is)

slli_row : (w d r g : ℕ) → IsReadR w 0x00 g r 1 d 0x13 → instruction_of w ≡ Some (Slli d r g)
slli_row w d r g h = rw (h.op-is, h.f3-is, h.f-is, h.d-is, h.r-is, h.g-is)

srli_row : (w d r g : ℕ) → IsReadR w 0x00 g r 5 d 0x13 → instruction_of w ≡ Some (Srli d r g)
srli_row w d r g h = rw (h.op-is, h.f3-is, h.f-is, h.d-is, h.r-is, h.g-is)

srai_row : (w d r g : ℕ) → IsReadR w 0x20 g r 5 d 0x13 → instruction_of w ≡ Some (Srai d r g)
srai_row w d r g h = rw (h.op-is, h.f3-is, h.f-is, h.d-is, h.r-is, h.g-is)

add_row : (w d r g : ℕ) → IsReadR w 0x00 g r 0 d 0x33 → instruction_of w ≡ Some (Add d r g)
add_row w d r g h = rw (h.op-is, h.f-is, h.f3-is, h.d-is, h.r-is, h.g-is)

sub_row : (w d r g : ℕ) → IsReadR w 0x20 g r 0 d 0x33 → instruction_of w ≡ Some (Sub d r g)
sub_row w d r g h = rw (h.op-is, h.f-is, h.f3-is, h.d-is, h.r-is, h.g-is)

sll_row : (w d r g : ℕ) → IsReadR w 0x00 g r 1 d 0x33 → instruction_of w ≡ Some (Sll d r g)
sll_row w d r g h = rw (h.op-is, h.f-is, h.f3-is, h.d-is, h.r-is, h.g-is)

slt_row : (w d r g : ℕ) → IsReadR w 0x00 g r 2 d 0x33 → instruction_of w ≡ Some (Slt d r g)
slt_row w d r g h = rw (h.op-is, h.f-is, h.f3-is, h.d-is, h.r-is, h.g-is)

sltu_row : (w d r g : ℕ) → IsReadR w 0x00 g r 3 d 0x33 → instruction_of w ≡ Some (Sltu d r g)
sltu_row w d r g h = rw (h.op-is, h.f-is, h.f3-is, h.d-is, h.r-is, h.g-is)

xor_row : (w d r g : ℕ) → IsReadR w 0x00 g r 4 d 0x33 → instruction_of w ≡ Some (Xor d r g)
xor_row w d r g h = rw (h.op-is, h.f-is, h.f3-is, h.d-is, h.r-is, h.g-is)

srl_row : (w d r g : ℕ) → IsReadR w 0x00 g r 5 d 0x33 → instruction_of w ≡ Some (Srl d r g)
srl_row w d r g h = rw (h.op-is, h.f-is, h.f3-is, h.d-is, h.r-is, h.g-is)

sra_row : (w d r g : ℕ) → IsReadR w 0x20 g r 5 d 0x33 → instruction_of w ≡ Some (Sra d r g)
sra_row w d r g h = rw (h.op-is, h.f-is, h.f3-is, h.d-is, h.r-is, h.g-is)

or_row : (w d r g : ℕ) → IsReadR w 0x00 g r 6 d 0x33 → instruction_of w ≡ Some (Or d r g)
or_row w d r g h = rw (h.op-is, h.f-is, h.f3-is, h.d-is, h.r-is, h.g-is)

and_row : (w d r g : ℕ) → IsReadR w 0x00 g r 7 d 0x33 → instruction_of w ≡ Some (And d r g)
and_row w d r g h = rw (h.op-is, h.f-is, h.f3-is, h.d-is, h.r-is, h.g-is)

fence_row : (w bits : ℕ) → IsReadFence w bits 0 0x0F → instruction_of w ≡ Some (Fence bits)
fence_row w bits h = rw (h.op-is, h.f3-is, h.bits-is)

-- the word of each instruction in range is read as that instruction
pub reads_back : (i : Instr) → IsInRange i → instruction_of (word_of i) ≡ Some i
reads_back (Lui d imm) h = lui_row (u_type imm d 0x37) d imm (u-is_read imm d 0x37 h.1 h.0 (lit< tt))
reads_back (Auipc d imm) h = auipc_row (u_type imm d 0x17) d imm (u-is_read imm d 0x17 h.1 h.0 (lit< tt))
reads_back (Jal d imm) h = jal_row (j_type imm d 0x6F) d imm (j-is_read imm d 0x6F h.1 h.0 (lit< tt))
reads_back (Jalr d r imm) h = jalr_row (i_type imm r 0 d 0x67) d r imm (i-is_read imm r 0 d 0x67 h.2 h.1 (lit< tt) h.0 (lit< tt))
reads_back (Beq r g imm) h = beq_row (b_type imm g r 0 0x63) r g imm (b-is_read imm g r 0 0x63 h.2 h.1 h.0 (lit< tt) (lit< tt))
reads_back (Bne r g imm) h = bne_row (b_type imm g r 1 0x63) r g imm (b-is_read imm g r 1 0x63 h.2 h.1 h.0 (lit< tt) (lit< tt))
reads_back (Blt r g imm) h = blt_row (b_type imm g r 4 0x63) r g imm (b-is_read imm g r 4 0x63 h.2 h.1 h.0 (lit< tt) (lit< tt))
reads_back (Bge r g imm) h = bge_row (b_type imm g r 5 0x63) r g imm (b-is_read imm g r 5 0x63 h.2 h.1 h.0 (lit< tt) (lit< tt))
reads_back (Bltu r g imm) h = bltu_row (b_type imm g r 6 0x63) r g imm (b-is_read imm g r 6 0x63 h.2 h.1 h.0 (lit< tt) (lit< tt))
reads_back (Bgeu r g imm) h = bgeu_row (b_type imm g r 7 0x63) r g imm (b-is_read imm g r 7 0x63 h.2 h.1 h.0 (lit< tt) (lit< tt))
reads_back (Lb d r imm) h = lb_row (i_type imm r 0 d 0x03) d r imm (i-is_read imm r 0 d 0x03 h.2 h.1 (lit< tt) h.0 (lit< tt))
reads_back (Lh d r imm) h = lh_row (i_type imm r 1 d 0x03) d r imm (i-is_read imm r 1 d 0x03 h.2 h.1 (lit< tt) h.0 (lit< tt))
reads_back (Lw d r imm) h = lw_row (i_type imm r 2 d 0x03) d r imm (i-is_read imm r 2 d 0x03 h.2 h.1 (lit< tt) h.0 (lit< tt))
reads_back (Lbu d r imm) h = lbu_row (i_type imm r 4 d 0x03) d r imm (i-is_read imm r 4 d 0x03 h.2 h.1 (lit< tt) h.0 (lit< tt))
reads_back (Lhu d r imm) h = lhu_row (i_type imm r 5 d 0x03) d r imm (i-is_read imm r 5 d 0x03 h.2 h.1 (lit< tt) h.0 (lit< tt))
reads_back (Sb r g imm) h = sb_row (s_type imm g r 0 0x23) r g imm (s-is_read imm g r 0 0x23 h.2 h.1 h.0 (lit< tt) (lit< tt))
reads_back (Sh r g imm) h = sh_row (s_type imm g r 1 0x23) r g imm (s-is_read imm g r 1 0x23 h.2 h.1 h.0 (lit< tt) (lit< tt))
reads_back (Sw r g imm) h = sw_row (s_type imm g r 2 0x23) r g imm (s-is_read imm g r 2 0x23 h.2 h.1 h.0 (lit< tt) (lit< tt))
reads_back (Addi d r imm) h = addi_row (i_type imm r 0 d 0x13) d r imm (i-is_read imm r 0 d 0x13 h.2 h.1 (lit< tt) h.0 (lit< tt))
reads_back (Slti d r imm) h = slti_row (i_type imm r 2 d 0x13) d r imm (i-is_read imm r 2 d 0x13 h.2 h.1 (lit< tt) h.0 (lit< tt))
reads_back (Sltiu d r imm) h = sltiu_row (i_type imm r 3 d 0x13) d r imm (i-is_read imm r 3 d 0x13 h.2 h.1 (lit< tt) h.0 (lit< tt))
reads_back (Xori d r imm) h = xori_row (i_type imm r 4 d 0x13) d r imm (i-is_read imm r 4 d 0x13 h.2 h.1 (lit< tt) h.0 (lit< tt))
reads_back (Ori d r imm) h = ori_row (i_type imm r 6 d 0x13) d r imm (i-is_read imm r 6 d 0x13 h.2 h.1 (lit< tt) h.0 (lit< tt))
reads_back (Andi d r imm) h = andi_row (i_type imm r 7 d 0x13) d r imm (i-is_read imm r 7 d 0x13 h.2 h.1 (lit< tt) h.0 (lit< tt))
reads_back (Slli d r g) h = slli_row (r_type 0x00 g r 1 d 0x13) d r g (r-is_read 0x00 g r 1 d 0x13 (lit< tt) h.2 h.1 (lit< tt) h.0 (lit< tt))
reads_back (Srli d r g) h = srli_row (r_type 0x00 g r 5 d 0x13) d r g (r-is_read 0x00 g r 5 d 0x13 (lit< tt) h.2 h.1 (lit< tt) h.0 (lit< tt))
reads_back (Srai d r g) h = srai_row (r_type 0x20 g r 5 d 0x13) d r g (r-is_read 0x20 g r 5 d 0x13 (lit< tt) h.2 h.1 (lit< tt) h.0 (lit< tt))
reads_back (Add d r g) h = add_row (r_type 0x00 g r 0 d 0x33) d r g (r-is_read 0x00 g r 0 d 0x33 (lit< tt) h.2 h.1 (lit< tt) h.0 (lit< tt))
reads_back (Sub d r g) h = sub_row (r_type 0x20 g r 0 d 0x33) d r g (r-is_read 0x20 g r 0 d 0x33 (lit< tt) h.2 h.1 (lit< tt) h.0 (lit< tt))
reads_back (Sll d r g) h = sll_row (r_type 0x00 g r 1 d 0x33) d r g (r-is_read 0x00 g r 1 d 0x33 (lit< tt) h.2 h.1 (lit< tt) h.0 (lit< tt))
reads_back (Slt d r g) h = slt_row (r_type 0x00 g r 2 d 0x33) d r g (r-is_read 0x00 g r 2 d 0x33 (lit< tt) h.2 h.1 (lit< tt) h.0 (lit< tt))
reads_back (Sltu d r g) h = sltu_row (r_type 0x00 g r 3 d 0x33) d r g (r-is_read 0x00 g r 3 d 0x33 (lit< tt) h.2 h.1 (lit< tt) h.0 (lit< tt))
reads_back (Xor d r g) h = xor_row (r_type 0x00 g r 4 d 0x33) d r g (r-is_read 0x00 g r 4 d 0x33 (lit< tt) h.2 h.1 (lit< tt) h.0 (lit< tt))
reads_back (Srl d r g) h = srl_row (r_type 0x00 g r 5 d 0x33) d r g (r-is_read 0x00 g r 5 d 0x33 (lit< tt) h.2 h.1 (lit< tt) h.0 (lit< tt))
reads_back (Sra d r g) h = sra_row (r_type 0x20 g r 5 d 0x33) d r g (r-is_read 0x20 g r 5 d 0x33 (lit< tt) h.2 h.1 (lit< tt) h.0 (lit< tt))
reads_back (Or d r g) h = or_row (r_type 0x00 g r 6 d 0x33) d r g (r-is_read 0x00 g r 6 d 0x33 (lit< tt) h.2 h.1 (lit< tt) h.0 (lit< tt))
reads_back (And d r g) h = and_row (r_type 0x00 g r 7 d 0x33) d r g (r-is_read 0x00 g r 7 d 0x33 (lit< tt) h.2 h.1 (lit< tt) h.0 (lit< tt))
reads_back (Fence bits) h = fence_row (fence_type bits 0 0x0F) bits (fence-is_read bits 0 0x0F h (lit< tt) (lit< tt))
reads_back Ecall h = refl
reads_back Ebreak h = refl
