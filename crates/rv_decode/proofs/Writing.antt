-- A word that is read as an instruction is that instruction's word.
use Rattle.std.proofs.Common.{◌≡◌, ◌≢◌, ℕ, ◌+◌, ◌-◌, ◌*◌, ◌^◌, ◌<◌, refl, ap, sym, arith, Option, Some, None, pos, negsuc, eqb, ltb}
use Rattle.std.specs.Prelude.{IfSome, IfNone}
use Rattle.std.proofs.lemmas.Bool.{cond_both, eqb-true}
use Rattle.rv_decode.specs.Fields.{bits_at, sign_extended, twos_complement, opcode, rd, funct3, rs1, rs2, funct7, immediate_i, immediate_s, immediate_b, immediate_u, immediate_j, fence_bits}
use Rattle.rv_decode.specs.Instructions.{r_type, i_type, s_type, b_type, u_type, j_type, fence_type, word_of, instruction_of, jalr_of, branch_of, load_of, store_of, left_shift_of, right_shift_of, immediate_form_of, plain_form_of, other_form_of, register_form_of, fence_of, system_of, IsInRange}
use Rattle.rv_decode.proofs.Reading.{reads_back}
use Rattle.rv_decode.specs.declared.instruction.Instr.{Instr}

-- ---- a field through a signed number

field_kept : (n t : ℕ) → t < 2 ^ n → twos_complement n (sign_extended n t) ≡ t
field_kept n t h = cond_both (ltb t (2 ^ (n - 1))) (pos t) (negsuc (2 ^ n - 1 - t)) (λ z. twos_complement n z ≡ t) (λ _. refl) (λ _. omega arith)

-- ---- a word from the fields that are read in it

r_at : (w f f3 op : ℕ) → w < 2 ^ 32 → opcode w ≡ op → funct7 w ≡ f → funct3 w ≡ f3 → r_type f (rs2 w) (rs1 w) f3 (rd w) op ≡ w
r_at w f f3 op h e1 e2 e3 = omega arith

i_at : (w f3 op : ℕ) → w < 2 ^ 32 → opcode w ≡ op → funct3 w ≡ f3 → i_type (immediate_i w) (rs1 w) f3 (rd w) op ≡ w
i_at w f3 op h e1 e2 =
    let k : twos_complement 12 (immediate_i w) ≡ bits_at w 20 12 = field_kept 12 (bits_at w 20 12) (omega arith) in
    rw k (omega arith)

s_field : ℕ → ℕ
s_field w = bits_at w 25 7 * 2 ^ 5 + bits_at w 7 5

s_at : (w f3 op : ℕ) → w < 2 ^ 32 → opcode w ≡ op → funct3 w ≡ f3 → s_type (immediate_s w) (rs2 w) (rs1 w) f3 op ≡ w
unfolding s_field
s_at w f3 op h e1 e2 =
    let k : twos_complement 12 (immediate_s w) ≡ s_field w = field_kept 12 (s_field w) (omega arith) in
    rw k (omega arith)

b_field : ℕ → ℕ
b_field w = bits_at w 31 1 * 2 ^ 12 + bits_at w 7 1 * 2 ^ 11 + bits_at w 25 6 * 2 ^ 5 + bits_at w 8 4 * 2

b_at : (w f3 op : ℕ) → w < 2 ^ 32 → opcode w ≡ op → funct3 w ≡ f3 → b_type (immediate_b w) (rs2 w) (rs1 w) f3 op ≡ w
unfolding b_field
b_at w f3 op h e1 e2 =
    let k : twos_complement 13 (immediate_b w) ≡ b_field w = field_kept 13 (b_field w) (omega arith) in
    rw k (omega arith)

u_at : (w op : ℕ) → w < 2 ^ 32 → opcode w ≡ op → u_type (immediate_u w) (rd w) op ≡ w
u_at w op h e = omega arith

j_field : ℕ → ℕ
j_field w = bits_at w 31 1 * 2 ^ 20 + bits_at w 12 8 * 2 ^ 12 + bits_at w 20 1 * 2 ^ 11 + bits_at w 21 10 * 2

j_at : (w op : ℕ) → w < 2 ^ 32 → opcode w ≡ op → j_type (immediate_j w) (rd w) op ≡ w
unfolding j_field
j_at w op h e =
    let k : twos_complement 21 (immediate_j w) ≡ j_field w = field_kept 21 (j_field w) (omega arith) in
    rw k (omega arith)

fence_at : (w f3 op : ℕ) → w < 2 ^ 32 → opcode w ≡ op → funct3 w ≡ f3 → fence_type (fence_bits w) f3 op ≡ w
fence_at w f3 op h e1 e2 = omega arith

-- ---- the groups

-- where an instruction was read in w, w is its word
abbrev Writes : ℕ → Option Instr → Type 0
Writes w o = IfSome o (λ i. word_of i ≡ w)

jalr_back : (w : ℕ) → w < 2 ^ 32 → opcode w ≡ 0x67 → Writes w (jalr_of w)
jalr_back w h o =
    cond_both (eqb (funct3 w) 0) _ _ (Writes w) (λ e. i_at w 0 0x67 h o (eqb-true (funct3 w) 0 e)) (λ _.
    tt)

branch_back : (w : ℕ) → w < 2 ^ 32 → opcode w ≡ 0x63 → Writes w (branch_of w)
branch_back w h o =
    cond_both (eqb (funct3 w) 0) _ _ (Writes w) (λ e. b_at w 0 0x63 h o (eqb-true (funct3 w) 0 e)) (λ _.
    cond_both (eqb (funct3 w) 1) _ _ (Writes w) (λ e. b_at w 1 0x63 h o (eqb-true (funct3 w) 1 e)) (λ _.
    cond_both (eqb (funct3 w) 4) _ _ (Writes w) (λ e. b_at w 4 0x63 h o (eqb-true (funct3 w) 4 e)) (λ _.
    cond_both (eqb (funct3 w) 5) _ _ (Writes w) (λ e. b_at w 5 0x63 h o (eqb-true (funct3 w) 5 e)) (λ _.
    cond_both (eqb (funct3 w) 6) _ _ (Writes w) (λ e. b_at w 6 0x63 h o (eqb-true (funct3 w) 6 e)) (λ _.
    cond_both (eqb (funct3 w) 7) _ _ (Writes w) (λ e. b_at w 7 0x63 h o (eqb-true (funct3 w) 7 e)) (λ _.
    tt))))))

load_back : (w : ℕ) → w < 2 ^ 32 → opcode w ≡ 0x03 → Writes w (load_of w)
load_back w h o =
    cond_both (eqb (funct3 w) 0) _ _ (Writes w) (λ e. i_at w 0 0x03 h o (eqb-true (funct3 w) 0 e)) (λ _.
    cond_both (eqb (funct3 w) 1) _ _ (Writes w) (λ e. i_at w 1 0x03 h o (eqb-true (funct3 w) 1 e)) (λ _.
    cond_both (eqb (funct3 w) 2) _ _ (Writes w) (λ e. i_at w 2 0x03 h o (eqb-true (funct3 w) 2 e)) (λ _.
    cond_both (eqb (funct3 w) 4) _ _ (Writes w) (λ e. i_at w 4 0x03 h o (eqb-true (funct3 w) 4 e)) (λ _.
    cond_both (eqb (funct3 w) 5) _ _ (Writes w) (λ e. i_at w 5 0x03 h o (eqb-true (funct3 w) 5 e)) (λ _.
    tt)))))

store_back : (w : ℕ) → w < 2 ^ 32 → opcode w ≡ 0x23 → Writes w (store_of w)
store_back w h o =
    cond_both (eqb (funct3 w) 0) _ _ (Writes w) (λ e. s_at w 0 0x23 h o (eqb-true (funct3 w) 0 e)) (λ _.
    cond_both (eqb (funct3 w) 1) _ _ (Writes w) (λ e. s_at w 1 0x23 h o (eqb-true (funct3 w) 1 e)) (λ _.
    cond_both (eqb (funct3 w) 2) _ _ (Writes w) (λ e. s_at w 2 0x23 h o (eqb-true (funct3 w) 2 e)) (λ _.
    tt)))

left_shift_back : (w : ℕ) → w < 2 ^ 32 → funct3 w ≡ 1 → opcode w ≡ 0x13 → Writes w (left_shift_of w)
left_shift_back w h x o =
    cond_both (eqb (funct7 w) 0x00) _ _ (Writes w) (λ e. r_at w 0x00 1 0x13 h o (eqb-true (funct7 w) 0x00 e) x) (λ _.
    tt)

right_shift_back : (w : ℕ) → w < 2 ^ 32 → funct3 w ≡ 5 → opcode w ≡ 0x13 → Writes w (right_shift_of w)
right_shift_back w h x o =
    cond_both (eqb (funct7 w) 0x00) _ _ (Writes w) (λ e. r_at w 0x00 5 0x13 h o (eqb-true (funct7 w) 0x00 e) x) (λ _.
    cond_both (eqb (funct7 w) 0x20) _ _ (Writes w) (λ e. r_at w 0x20 5 0x13 h o (eqb-true (funct7 w) 0x20 e) x) (λ _.
    tt))

immediate_form_back : (w : ℕ) → w < 2 ^ 32 → opcode w ≡ 0x13 → Writes w (immediate_form_of w)
immediate_form_back w h o =
    cond_both (eqb (funct3 w) 0) _ _ (Writes w) (λ e. i_at w 0 0x13 h o (eqb-true (funct3 w) 0 e)) (λ _.
    cond_both (eqb (funct3 w) 1) _ _ (Writes w) (λ e. left_shift_back w h (eqb-true (funct3 w) 1 e) o) (λ _.
    cond_both (eqb (funct3 w) 2) _ _ (Writes w) (λ e. i_at w 2 0x13 h o (eqb-true (funct3 w) 2 e)) (λ _.
    cond_both (eqb (funct3 w) 3) _ _ (Writes w) (λ e. i_at w 3 0x13 h o (eqb-true (funct3 w) 3 e)) (λ _.
    cond_both (eqb (funct3 w) 4) _ _ (Writes w) (λ e. i_at w 4 0x13 h o (eqb-true (funct3 w) 4 e)) (λ _.
    cond_both (eqb (funct3 w) 5) _ _ (Writes w) (λ e. right_shift_back w h (eqb-true (funct3 w) 5 e) o) (λ _.
    cond_both (eqb (funct3 w) 6) _ _ (Writes w) (λ e. i_at w 6 0x13 h o (eqb-true (funct3 w) 6 e)) (λ _.
    cond_both (eqb (funct3 w) 7) _ _ (Writes w) (λ e. i_at w 7 0x13 h o (eqb-true (funct3 w) 7 e)) (λ _.
    tt))))))))

plain_form_back : (w : ℕ) → w < 2 ^ 32 → funct7 w ≡ 0x00 → opcode w ≡ 0x33 → Writes w (plain_form_of w)
plain_form_back w h x o =
    cond_both (eqb (funct3 w) 0) _ _ (Writes w) (λ e. r_at w 0x00 0 0x33 h o x (eqb-true (funct3 w) 0 e)) (λ _.
    cond_both (eqb (funct3 w) 1) _ _ (Writes w) (λ e. r_at w 0x00 1 0x33 h o x (eqb-true (funct3 w) 1 e)) (λ _.
    cond_both (eqb (funct3 w) 2) _ _ (Writes w) (λ e. r_at w 0x00 2 0x33 h o x (eqb-true (funct3 w) 2 e)) (λ _.
    cond_both (eqb (funct3 w) 3) _ _ (Writes w) (λ e. r_at w 0x00 3 0x33 h o x (eqb-true (funct3 w) 3 e)) (λ _.
    cond_both (eqb (funct3 w) 4) _ _ (Writes w) (λ e. r_at w 0x00 4 0x33 h o x (eqb-true (funct3 w) 4 e)) (λ _.
    cond_both (eqb (funct3 w) 5) _ _ (Writes w) (λ e. r_at w 0x00 5 0x33 h o x (eqb-true (funct3 w) 5 e)) (λ _.
    cond_both (eqb (funct3 w) 6) _ _ (Writes w) (λ e. r_at w 0x00 6 0x33 h o x (eqb-true (funct3 w) 6 e)) (λ _.
    cond_both (eqb (funct3 w) 7) _ _ (Writes w) (λ e. r_at w 0x00 7 0x33 h o x (eqb-true (funct3 w) 7 e)) (λ _.
    tt))))))))

other_form_back : (w : ℕ) → w < 2 ^ 32 → funct7 w ≡ 0x20 → opcode w ≡ 0x33 → Writes w (other_form_of w)
other_form_back w h x o =
    cond_both (eqb (funct3 w) 0) _ _ (Writes w) (λ e. r_at w 0x20 0 0x33 h o x (eqb-true (funct3 w) 0 e)) (λ _.
    cond_both (eqb (funct3 w) 5) _ _ (Writes w) (λ e. r_at w 0x20 5 0x33 h o x (eqb-true (funct3 w) 5 e)) (λ _.
    tt))

register_form_back : (w : ℕ) → w < 2 ^ 32 → opcode w ≡ 0x33 → Writes w (register_form_of w)
register_form_back w h o =
    cond_both (eqb (funct7 w) 0x00) _ _ (Writes w) (λ e. plain_form_back w h (eqb-true (funct7 w) 0x00 e) o) (λ _.
    cond_both (eqb (funct7 w) 0x20) _ _ (Writes w) (λ e. other_form_back w h (eqb-true (funct7 w) 0x20 e) o) (λ _.
    tt))

fence_back : (w : ℕ) → w < 2 ^ 32 → opcode w ≡ 0x0F → Writes w (fence_of w)
fence_back w h o =
    cond_both (eqb (funct3 w) 0) _ _ (Writes w) (λ e. fence_at w 0 0x0F h o (eqb-true (funct3 w) 0 e)) (λ _.
    tt)

system_back : (w : ℕ) → w < 2 ^ 32 → opcode w ≡ 0x73 → Writes w (system_of w)
system_back w h o =
    cond_both (eqb (w) 0x00000073) _ _ (Writes w) (λ e. sym (eqb-true w 0x00000073 e)) (λ _.
    cond_both (eqb (w) 0x00100073) _ _ (Writes w) (λ e. sym (eqb-true w 0x00100073 e)) (λ _.
    tt))

-- a word that is read as an instruction is that instruction's word
pub writes_back : (w : ℕ) → w < 2 ^ 32 → IfSome (instruction_of w) (λ i. word_of i ≡ w)
writes_back w h =
    cond_both (eqb (opcode w) 0x37) _ _ (Writes w) (λ e. u_at w 0x37 h (eqb-true (opcode w) 0x37 e)) (λ _.
    cond_both (eqb (opcode w) 0x17) _ _ (Writes w) (λ e. u_at w 0x17 h (eqb-true (opcode w) 0x17 e)) (λ _.
    cond_both (eqb (opcode w) 0x6F) _ _ (Writes w) (λ e. j_at w 0x6F h (eqb-true (opcode w) 0x6F e)) (λ _.
    cond_both (eqb (opcode w) 0x67) _ _ (Writes w) (λ e. jalr_back w h (eqb-true (opcode w) 0x67 e)) (λ _.
    cond_both (eqb (opcode w) 0x63) _ _ (Writes w) (λ e. branch_back w h (eqb-true (opcode w) 0x63 e)) (λ _.
    cond_both (eqb (opcode w) 0x03) _ _ (Writes w) (λ e. load_back w h (eqb-true (opcode w) 0x03 e)) (λ _.
    cond_both (eqb (opcode w) 0x23) _ _ (Writes w) (λ e. store_back w h (eqb-true (opcode w) 0x23 e)) (λ _.
    cond_both (eqb (opcode w) 0x13) _ _ (Writes w) (λ e. immediate_form_back w h (eqb-true (opcode w) 0x13 e)) (λ _.
    cond_both (eqb (opcode w) 0x33) _ _ (Writes w) (λ e. register_form_back w h (eqb-true (opcode w) 0x33 e)) (λ _.
    cond_both (eqb (opcode w) 0x0F) _ _ (Writes w) (λ e. fence_back w h (eqb-true (opcode w) 0x0F e)) (λ _.
    cond_both (eqb (opcode w) 0x73) _ _ (Writes w) (λ e. system_back w h (eqb-true (opcode w) 0x73 e)) (λ _.
    tt)))))))))))

-- where f finds each thing from what g gives of it, nothing gives a w at which f finds none
none_gives : (f : ℕ → Option Instr) (g : Instr → ℕ) (P : Instr → Type 0) → ((i : Instr) → P i → f (g i) ≡ Some i) → (w : ℕ) (o : Option Instr) → f w ≡ o → IfNone o ((i : Instr) → P i → g i ≢ w)
none_gives f g P back w None none = λ i r e. let found = back i r in let same = ap f e in cc
none_gives f g P back w (Some i) some = tt

-- a word that is read as none is the word of no instruction in range
pub has_no_row : (w : ℕ) → IfNone (instruction_of w) ((i : Instr) → IsInRange i → word_of i ≢ w)
has_no_row w = none_gives instruction_of word_of IsInRange reads_back w (instruction_of w) refl
