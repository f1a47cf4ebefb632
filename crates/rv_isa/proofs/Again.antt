-- Each instruction is found again in the slots of its word.
use Rattle.std.proofs.Common.{◌≡◌, ℕ, ◌+◌, ◌*◌, ◌/◌, ◌%◌, ◌^◌, ◌<◌, ℤ, pos, negsuc, arith, ap, ◌∙◌, refl, Some, nat_eq, cond, true, false}
use Rattle.std.specs.Option.{option_map}
use Rattle.std.proofs.lemmas.Int.{ints}
use Rattle.rv_isa.specs.Number.{residue, bits}
use Rattle.rv_isa.specs.Ranges.{IsImmediate, IsBranchOffset, IsJumpOffset}
use Rattle.rv_isa.specs.Word.{word_of, condition_funct3, load_funct3, store_funct3, immediate_funct3, shift_functs, operation_functs}
use Rattle.rv_isa.specs.Decoding.{Slots, slots, slots_of, register_at, immediate_at, amount_at, branch_at, jump_at, u_immediate, condition_at, load_at, store_at, immediate_operation_at, shift_at, operation_at, shift_of, compute_immediate_of, instr_of}
use Rattle.rv_isa.specs.Number.{extended}
use Rattle.rv_isa.specs.declared.register.Reg.{Reg}
use Rattle.rv_isa.specs.declared.operands.Immediate.{Immediate}
use Rattle.rv_isa.specs.declared.operands.BranchOffset.{BranchOffset}
use Rattle.rv_isa.specs.declared.operands.JumpOffset.{JumpOffset}
use Rattle.rv_isa.specs.declared.operands.Upper.{Upper}
use Rattle.rv_isa.specs.declared.operands.ShiftAmount.{ShiftAmount}
use Rattle.rv_isa.specs.declared.instruction.Condition.{Condition}
use Rattle.rv_isa.specs.declared.instruction.Condition.TheVariants.{Beq}
use Rattle.rv_isa.specs.declared.instruction.LoadKind.{LoadKind}
use Rattle.rv_isa.specs.declared.instruction.LoadKind.TheVariants.{Lb}
use Rattle.rv_isa.specs.declared.instruction.StoreKind.{StoreKind}
use Rattle.rv_isa.specs.declared.instruction.StoreKind.TheVariants.{Sb}
use Rattle.rv_isa.specs.declared.instruction.ImmediateOperation.{ImmediateOperation}
use Rattle.rv_isa.specs.declared.instruction.ImmediateOperation.TheVariants.{Addi}
use Rattle.rv_isa.specs.declared.instruction.Shift.{Shift}
use Rattle.rv_isa.specs.declared.instruction.Shift.TheVariants.{Slli}
use Rattle.rv_isa.specs.declared.instruction.Operation.{Operation}
use Rattle.rv_isa.specs.declared.instruction.Operation.TheVariants.{Add}
use Rattle.rv_isa.specs.declared.instruction.Instr.{Instr}
use Rattle.rv_isa.specs.declared.instruction.Instr.TheVariants.{Lui, Auipc, Jal, Jalr, Branch, Load, Store, ComputeImmediate, ShiftImmediate, Compute, Fence, Ecall, Ebreak}
use Rattle.rv_isa.proofs.Same.{same_register, same_immediate, same_branch, same_jump, same_upper, same_amount}
use Rattle.rv_isa.proofs.Slots.{slots-r_word, slots-i_word, slots-s_word, slots-b_word, slots-u_word, slots-j_word, j_top}

-- ---- operands

register_again : (r : Reg) → register_at r.number ≡ r
register_again r = same_register (register_at r.number) r (omega (arith, r.in_range))

amount_again : (m : ShiftAmount) → amount_at m.value ≡ m
amount_again m = same_amount (amount_at m.value) m (omega (arith, m.in_range))

upper_again : (m : Upper) (d op : ℕ) → u_immediate (slots (m.value / 2 ^ 13) (m.value / 2 ^ 8 % 2 ^ 5) (m.value / 2 ^ 3 % 2 ^ 5) (m.value % 2 ^ 3) d op) ≡ m
upper_again m d op = same_upper (u_immediate (slots (m.value / 2 ^ 13) (m.value / 2 ^ 8 % 2 ^ 5) (m.value / 2 ^ 3 % 2 ^ 5) (m.value % 2 ^ 3) d op)) m (omega (arith, m.in_range))

residue_below : (z : ℤ) → (residue 12 z < 2 ^ 12) × (residue 13 z < 2 ^ 13) × (residue 21 z < 2 ^ 21)
residue_below (pos n) = (omega arith, omega arith, omega arith)
residue_below (negsuc n) = (omega arith, omega arith, omega arith)

pub immediate_value : (z : ℤ) → IsImmediate z → extended 12 (residue 12 z % 2 ^ 12) ≡ z
immediate_value (pos n) h = grind (arith, ints)
immediate_value (negsuc n) h = grind (arith, ints)

-- an immediate, out of the two parts of a word that hold it
parts_again : (m : Immediate) (n : ℕ) → n ≡ residue 12 m.value → immediate_at n ≡ m
parts_again m n e = ap immediate_at e ∙ same_immediate (immediate_at (residue 12 m.value)) m (immediate_value m.value m.in_range)

i_again : (m : Immediate) → immediate_at (residue 12 m.value / 2 ^ 5 * 2 ^ 5 + residue 12 m.value % 2 ^ 5) ≡ m
i_again m = parts_again m (residue 12 m.value / 2 ^ 5 * 2 ^ 5 + residue 12 m.value % 2 ^ 5) (omega arith)

s_again : (m : Immediate) → immediate_at (bits (residue 12 m.value) 5 7 * 2 ^ 5 + bits (residue 12 m.value) 0 5) ≡ m
s_again m = parts_again m (bits (residue 12 m.value) 5 7 * 2 ^ 5 + bits (residue 12 m.value) 0 5) (omega (arith, (residue_below m.value).0))

-- half of a branch's offset, out of the slots that hold it
abbrev b_half : ℕ → ℕ → ℕ
b_half f7 d = f7 / 2 ^ 6 * 2 ^ 11 + d % 2 * 2 ^ 10 + f7 % 2 ^ 6 * 2 ^ 4 + d / 2

b_bits : (n : ℕ) → n < 2 ^ 13 → b_half (bits n 12 1 * 2 ^ 6 + bits n 5 6) (bits n 1 4 * 2 + bits n 11 1) ≡ n / 2
b_bits n h = omega arith

pub branch_value : (z : ℤ) → IsBranchOffset z → extended 13 (residue 13 z / 2 % 2 ^ 12 * 2) ≡ z
branch_value (pos n) h = grind (arith, ints)
branch_value (negsuc n) h = grind (arith, ints)

b_again : (m : BranchOffset) → branch_at (b_half (bits (residue 13 m.value) 12 1 * 2 ^ 6 + bits (residue 13 m.value) 5 6) (bits (residue 13 m.value) 1 4 * 2 + bits (residue 13 m.value) 11 1)) ≡ m
b_again m =
    ap branch_at (b_bits (residue 13 m.value) (residue_below m.value).1)
    ∙ same_branch (branch_at (residue 13 m.value / 2)) m (branch_value m.value m.in_range)

-- half of a jump's offset, out of the slots that hold it
abbrev j_half : ℕ → ℕ
j_half top = top / 2 ^ 13 / 2 ^ 6 * 2 ^ 19 + top / 2 ^ 3 % 2 ^ 5 * 2 ^ 14 + top % 2 ^ 3 * 2 ^ 11 + top / 2 ^ 8 % 2 ^ 5 % 2 * 2 ^ 10 + top / 2 ^ 13 % 2 ^ 6 * 2 ^ 4 + top / 2 ^ 8 % 2 ^ 5 / 2

j_bits : (n : ℕ) → n < 2 ^ 21 → j_half (j_top n) ≡ n / 2
j_bits n h = omega arith

pub jump_value : (z : ℤ) → IsJumpOffset z → extended 21 (residue 21 z / 2 % 2 ^ 20 * 2) ≡ z
jump_value (pos n) h = grind (arith, ints)
jump_value (negsuc n) h = grind (arith, ints)

j_again : (m : JumpOffset) → jump_at (j_half (j_top (residue 21 m.value))) ≡ m
j_again m =
    ap jump_at (j_bits (residue 21 m.value) (residue_below m.value).2)
    ∙ same_jump (jump_at (residue 21 m.value / 2)) m (jump_value m.value m.in_range)

-- ---- tables

condition_again : (c : Condition) → (condition_funct3 c < 8) × (condition_at (condition_funct3 c) ≡ Some c)
condition_again Beq = (omega arith, refl)
condition_again _ = (omega arith, refl)

load_again : (k : LoadKind) → (load_funct3 k < 8) × (load_at (load_funct3 k) ≡ Some k)
load_again Lb = (omega arith, refl)
load_again _ = (omega arith, refl)

store_again : (k : StoreKind) → (store_funct3 k < 8) × (store_at (store_funct3 k) ≡ Some k)
store_again Sb = (omega arith, refl)
store_again _ = (omega arith, refl)

immediate_again : (o : ImmediateOperation) → (immediate_funct3 o < 8) × (immediate_operation_at (immediate_funct3 o) ≡ Some o) × (nat_eq (immediate_funct3 o % 4) 1 ≡ false)
immediate_again Addi = (omega arith, refl, refl)
immediate_again _ = (omega arith, refl, refl)

shift_again : (o : Shift) → ((shift_functs o).1 < 8) × (shift_at (shift_functs o).0 (shift_functs o).1 ≡ Some o) × (nat_eq ((shift_functs o).1 % 4) 1 ≡ true)
shift_again Slli = (omega arith, refl, refl)
shift_again _ = (omega arith, refl, refl)

operation_again : (o : Operation) → ((operation_functs o).1 < 8) × (operation_at (operation_functs o).0 (operation_functs o).1 ≡ Some o)
operation_again Add = (omega arith, refl)
operation_again _ = (omega arith, refl)

-- ---- instructions

immediate_found : (o : ImmediateOperation) (rd source : Reg) (m : Immediate) → instr_of (slots_of (word_of (ComputeImmediate o rd source m))) ≡ Some (ComputeImmediate o rd source m)
unfolding instr_of
immediate_found o rd source m =
    let s : Slots = slots (residue 12 m.value / 2 ^ 5) (residue 12 m.value % 2 ^ 5) source.number (immediate_funct3 o) rd.number 0b0010011 in
    ap instr_of (slots-i_word m.value source.number (immediate_funct3 o) rd.number 0b0010011 source.in_range (immediate_again o).0 rd.in_range (omega arith))
    ∙ ap (λ b. cond b (shift_of s) (compute_immediate_of s)) (immediate_again o).2
    ∙ ap (option_map (λ k. ComputeImmediate k (register_at rd.number) (register_at source.number) (immediate_at (residue 12 m.value / 2 ^ 5 * 2 ^ 5 + residue 12 m.value % 2 ^ 5)))) (immediate_again o).1
    ∙ (let r = register_again rd in let b = register_again source in let i = i_again m in cc)

shift_found : (o : Shift) (rd source : Reg) (m : ShiftAmount) → instr_of (slots_of (word_of (ShiftImmediate o rd source m))) ≡ Some (ShiftImmediate o rd source m)
unfolding instr_of
shift_found o rd source m =
    let s : Slots = slots (shift_functs o).0 m.value source.number (shift_functs o).1 rd.number 0b0010011 in
    ap instr_of (slots-r_word (shift_functs o).0 m.value source.number (shift_functs o).1 rd.number 0b0010011 m.in_range source.in_range (shift_again o).0 rd.in_range (omega arith))
    ∙ ap (λ b. cond b (shift_of s) (compute_immediate_of s)) (shift_again o).2
    ∙ ap (option_map (λ k. ShiftImmediate k (register_at rd.number) (register_at source.number) (amount_at m.value))) (shift_again o).1
    ∙ (let r = register_again rd in let b = register_again source in let i = amount_again m in cc)

pub decoded_again : (x : Instr) → instr_of (slots_of (word_of x)) ≡ Some x
unfolding instr_of
decoded_again (Lui rd m) =
    ap instr_of (slots-u_word m.value rd.number 0b0110111 rd.in_range (omega arith))
    ∙ (let r = register_again rd in let i = upper_again m rd.number 0b0110111 in cc)
decoded_again (Auipc rd m) =
    ap instr_of (slots-u_word m.value rd.number 0b0010111 rd.in_range (omega arith))
    ∙ (let r = register_again rd in let i = upper_again m rd.number 0b0010111 in cc)
decoded_again (Jal rd m) =
    ap instr_of (slots-j_word m.value rd.number 0b1101111 rd.in_range (omega arith))
    ∙ (let r = register_again rd in let i = j_again m in cc)
decoded_again (Jalr rd base m) =
    ap instr_of (slots-i_word m.value base.number 0b000 rd.number 0b1100111 base.in_range (omega arith) rd.in_range (omega arith))
    ∙ (let r = register_again rd in let b = register_again base in let i = i_again m in cc)
decoded_again (Branch c left right m) =
    ap instr_of (slots-b_word m.value right.number left.number (condition_funct3 c) 0b1100011 right.in_range left.in_range (condition_again c).0 (omega arith))
    ∙ ap (option_map (λ k. Branch k (register_at left.number) (register_at right.number) (branch_at (b_half (bits (residue 13 m.value) 12 1 * 2 ^ 6 + bits (residue 13 m.value) 5 6) (bits (residue 13 m.value) 1 4 * 2 + bits (residue 13 m.value) 11 1))))) (condition_again c).1
    ∙ (let l = register_again left in let r = register_again right in let i = b_again m in cc)
decoded_again (Load kind rd base m) =
    ap instr_of (slots-i_word m.value base.number (load_funct3 kind) rd.number 0b0000011 base.in_range (load_again kind).0 rd.in_range (omega arith))
    ∙ ap (option_map (λ k. Load k (register_at rd.number) (register_at base.number) (immediate_at (residue 12 m.value / 2 ^ 5 * 2 ^ 5 + residue 12 m.value % 2 ^ 5)))) (load_again kind).1
    ∙ (let r = register_again rd in let b = register_again base in let i = i_again m in cc)
decoded_again (Store kind source base m) =
    ap instr_of (slots-s_word m.value source.number base.number (store_funct3 kind) 0b0100011 source.in_range base.in_range (store_again kind).0 (omega arith))
    ∙ ap (option_map (λ k. Store k (register_at source.number) (register_at base.number) (immediate_at (bits (residue 12 m.value) 5 7 * 2 ^ 5 + bits (residue 12 m.value) 0 5)))) (store_again kind).1
    ∙ (let r = register_again source in let b = register_again base in let i = s_again m in cc)
decoded_again (ComputeImmediate o rd source m) = immediate_found o rd source m
decoded_again (ShiftImmediate o rd source m) = shift_found o rd source m
decoded_again (Compute o rd left right) =
    ap instr_of (slots-r_word (operation_functs o).0 right.number left.number (operation_functs o).1 rd.number 0b0110011 right.in_range left.in_range (operation_again o).0 rd.in_range (omega arith))
    ∙ ap (option_map (λ k. Compute k (register_at rd.number) (register_at left.number) (register_at right.number))) (operation_again o).1
    ∙ (let d = register_again rd in let l = register_again left in let r = register_again right in cc)
decoded_again (Fence rd source m) =
    ap instr_of (slots-i_word m.value source.number 0b000 rd.number 0b0001111 source.in_range (omega arith) rd.in_range (omega arith))
    ∙ (let r = register_again rd in let b = register_again source in let i = i_again m in cc)
decoded_again Ecall = refl
decoded_again Ebreak = refl

pub one_word : (x y : Instr) → word_of x ≡ word_of y → x ≡ y
one_word x y e =
    let a : instr_of (slots_of (word_of x)) ≡ Some x = decoded_again x in
    let b : instr_of (slots_of (word_of y)) ≡ Some y = decoded_again y in
    cc
