-- The instruction of a word whose opcode and functs are known.
use Rattle.std.proofs.Common.{◌≡◌, ℕ, ◌%◌, ◌^◌, Some, refl}
use Rattle.rv_isa.specs.Decoded.{decoded}
use Rattle.rv_isa.specs.Decoding.{slots_of, instr_of, register_at, amount_at, i_immediate, s_immediate, b_offset, u_immediate, j_offset}
use Rattle.rv_isa.specs.Word.{condition_funct3, immediate_funct3, load_funct3, operation_functs, shift_functs, store_funct3}
use Rattle.rv_isa.specs.declared.instruction.Condition.{Condition}
use Rattle.rv_isa.specs.declared.instruction.Condition.TheVariants.{Beq}
use Rattle.rv_isa.specs.declared.instruction.ImmediateOperation.{ImmediateOperation}
use Rattle.rv_isa.specs.declared.instruction.ImmediateOperation.TheVariants.{Addi}
use Rattle.rv_isa.specs.declared.instruction.Instr.TheVariants.{Lui, Auipc, Jal, Jalr, Branch, Load, Store, ComputeImmediate, ShiftImmediate, Compute}
use Rattle.rv_isa.specs.declared.instruction.LoadKind.{LoadKind}
use Rattle.rv_isa.specs.declared.instruction.LoadKind.TheVariants.{Lb}
use Rattle.rv_isa.specs.declared.instruction.Operation.{Operation}
use Rattle.rv_isa.specs.declared.instruction.Operation.TheVariants.{Add}
use Rattle.rv_isa.specs.declared.instruction.Shift.{Shift}
use Rattle.rv_isa.specs.declared.instruction.Shift.TheVariants.{Slli}
use Rattle.rv_isa.specs.declared.instruction.StoreKind.{StoreKind}
use Rattle.rv_isa.specs.declared.instruction.StoreKind.TheVariants.{Sb}

pub named_lui : (w : ℕ) → w % 2 ^ 7 ≡ 0b0110111 → decoded w ≡ Some (Lui (register_at (slots_of w).rd) (u_immediate (slots_of w)))
unfolding decoded instr_of
named_lui w h = rw h refl

pub named_auipc : (w : ℕ) → w % 2 ^ 7 ≡ 0b0010111 → decoded w ≡ Some (Auipc (register_at (slots_of w).rd) (u_immediate (slots_of w)))
unfolding decoded instr_of
named_auipc w h = rw h refl

pub named_jal : (w : ℕ) → w % 2 ^ 7 ≡ 0b1101111 → decoded w ≡ Some (Jal (register_at (slots_of w).rd) (j_offset (slots_of w)))
unfolding decoded instr_of
named_jal w h = rw h refl

pub named_jalr : (w : ℕ) → w % 2 ^ 7 ≡ 0b1100111 → (slots_of w).funct3 ≡ 0b000 → decoded w ≡ Some (Jalr (register_at (slots_of w).rd) (register_at (slots_of w).rs1) (i_immediate (slots_of w)))
unfolding decoded instr_of
named_jalr w h e = rw (h, e) refl

pub named_branch : (w : ℕ) (condition : Condition) → w % 2 ^ 7 ≡ 0b1100011 → (slots_of w).funct3 ≡ condition_funct3 condition → decoded w ≡ Some (Branch condition (register_at (slots_of w).rs1) (register_at (slots_of w).rs2) (b_offset (slots_of w)))
unfolding decoded instr_of
named_branch w Beq h e = rw (h, e) refl
named_branch w condition h e = rw (h, e) refl

pub named_load : (w : ℕ) (kind : LoadKind) → w % 2 ^ 7 ≡ 0b0000011 → (slots_of w).funct3 ≡ load_funct3 kind → decoded w ≡ Some (Load kind (register_at (slots_of w).rd) (register_at (slots_of w).rs1) (i_immediate (slots_of w)))
unfolding decoded instr_of
named_load w Lb h e = rw (h, e) refl
named_load w kind h e = rw (h, e) refl

pub named_store : (w : ℕ) (kind : StoreKind) → w % 2 ^ 7 ≡ 0b0100011 → (slots_of w).funct3 ≡ store_funct3 kind → decoded w ≡ Some (Store kind (register_at (slots_of w).rs2) (register_at (slots_of w).rs1) (s_immediate (slots_of w)))
unfolding decoded instr_of
named_store w Sb h e = rw (h, e) refl
named_store w kind h e = rw (h, e) refl

pub named_immediate : (w : ℕ) (operation : ImmediateOperation) → w % 2 ^ 7 ≡ 0b0010011 → (slots_of w).funct3 ≡ immediate_funct3 operation → decoded w ≡ Some (ComputeImmediate operation (register_at (slots_of w).rd) (register_at (slots_of w).rs1) (i_immediate (slots_of w)))
unfolding decoded instr_of
named_immediate w Addi h e = rw (h, e) refl
named_immediate w operation h e = rw (h, e) refl

pub named_shift : (w : ℕ) (shift : Shift) → w % 2 ^ 7 ≡ 0b0010011 → (slots_of w).funct7 ≡ (shift_functs shift).0 → (slots_of w).funct3 ≡ (shift_functs shift).1 → decoded w ≡ Some (ShiftImmediate shift (register_at (slots_of w).rd) (register_at (slots_of w).rs1) (amount_at (slots_of w).rs2))
unfolding decoded instr_of
named_shift w Slli h e f = rw (h, e, f) refl
named_shift w shift h e f = rw (h, e, f) refl

pub named_compute : (w : ℕ) (operation : Operation) → w % 2 ^ 7 ≡ 0b0110011 → (slots_of w).funct7 ≡ (operation_functs operation).0 → (slots_of w).funct3 ≡ (operation_functs operation).1 → decoded w ≡ Some (Compute operation (register_at (slots_of w).rd) (register_at (slots_of w).rs1) (register_at (slots_of w).rs2))
unfolding decoded instr_of
named_compute w Add h e f = rw (h, e, f) refl
named_compute w operation h e f = rw (h, e, f) refl
