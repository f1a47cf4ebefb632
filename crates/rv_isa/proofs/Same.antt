-- Two operands with the same number are equal: so are the proofs of their ranges.
use Rattle.std.proofs.Common.{◌≡◌, ℕ, ℤ}
use mathlib.Core.HLevel.{is_prop→PathP}
use Rattle.std.proofs.Props.{props}
use Rattle.rv_isa.specs.Ranges.{IsRegister, IsImmediate, IsBranchOffset, IsJumpOffset, IsUpper, IsShiftAmount}
use Rattle.rv_isa.specs.declared.register.Reg.{Reg}
use Rattle.rv_isa.specs.declared.operands.Immediate.{Immediate}
use Rattle.rv_isa.specs.declared.operands.BranchOffset.{BranchOffset}
use Rattle.rv_isa.specs.declared.operands.JumpOffset.{JumpOffset}
use Rattle.rv_isa.specs.declared.operands.Upper.{Upper}
use Rattle.rv_isa.specs.declared.operands.ShiftAmount.{ShiftAmount}

pub same_register : (a b : Reg) → a.number ≡ b.number → a ≡ b
same_register a b e =
    let one : (n : ℕ) → IsProp (IsRegister n) = λ n. hlevel props in
    λ i. record { number = e i; in_range = is_prop→PathP (λ j. IsRegister (e j)) (λ j. one (e j)) a.in_range b.in_range i }

pub same_immediate : (a b : Immediate) → a.value ≡ b.value → a ≡ b
same_immediate a b e =
    let one : (z : ℤ) → IsProp (IsImmediate z) = λ z. hlevel props in
    λ i. record { value = e i; in_range = is_prop→PathP (λ j. IsImmediate (e j)) (λ j. one (e j)) a.in_range b.in_range i }

pub same_branch : (a b : BranchOffset) → a.value ≡ b.value → a ≡ b
same_branch a b e =
    let one : (z : ℤ) → IsProp (IsBranchOffset z) = λ z. hlevel props in
    λ i. record { value = e i; in_range = is_prop→PathP (λ j. IsBranchOffset (e j)) (λ j. one (e j)) a.in_range b.in_range i }

pub same_jump : (a b : JumpOffset) → a.value ≡ b.value → a ≡ b
same_jump a b e =
    let one : (z : ℤ) → IsProp (IsJumpOffset z) = λ z. hlevel props in
    λ i. record { value = e i; in_range = is_prop→PathP (λ j. IsJumpOffset (e j)) (λ j. one (e j)) a.in_range b.in_range i }

pub same_upper : (a b : Upper) → a.value ≡ b.value → a ≡ b
same_upper a b e =
    let one : (n : ℕ) → IsProp (IsUpper n) = λ n. hlevel props in
    λ i. record { value = e i; in_range = is_prop→PathP (λ j. IsUpper (e j)) (λ j. one (e j)) a.in_range b.in_range i }

pub same_amount : (a b : ShiftAmount) → a.value ≡ b.value → a ≡ b
same_amount a b e =
    let one : (n : ℕ) → IsProp (IsShiftAmount n) = λ n. hlevel props in
    λ i. record { value = e i; in_range = is_prop→PathP (λ j. IsShiftAmount (e j)) (λ j. one (e j)) a.in_range b.in_range i }
