-- Operands are read back from their numbers, and mnemonics from their words.
use Rattle.std.proofs.Common.{◌≡◌, ℕ, ◌<◌, ◌^◌, true, false, length, Some, Ok, ℤ, pos, negsuc, arith, refl, ap, sym, lit<}
use Rattle.std.specs.Prelude.{◌≤ℤ◌}
use Rattle.std.proofs.lemmas.Int.{ints}
use Rattle.std.specs.List.{list_any}
use Rattle.rv_isa.specs.Number.{residue}
use Rattle.rv_isa.specs.Decoding.{upper_at, amount_at}
use Rattle.rv_isa.specs.declared.operands.Immediate.{Immediate}
use Rattle.rv_isa.specs.declared.operands.BranchOffset.{BranchOffset}
use Rattle.rv_isa.specs.declared.operands.JumpOffset.{JumpOffset}
use Rattle.rv_isa.specs.declared.operands.Upper.{Upper}
use Rattle.rv_isa.specs.declared.operands.ShiftAmount.{ShiftAmount}
use Rattle.rv_isa.specs.declared.instruction.Condition.TheVariants.{Beq}
use Rattle.rv_isa.specs.declared.instruction.LoadKind.TheVariants.{Lb}
use Rattle.rv_isa.specs.declared.instruction.StoreKind.TheVariants.{Sb}
use Rattle.rv_isa.specs.declared.instruction.ImmediateOperation.TheVariants.{Addi}
use Rattle.rv_isa.specs.declared.instruction.Shift.TheVariants.{Slli}
use Rattle.rv_isa.specs.declared.instruction.Operation.TheVariants.{Add}
use Rattle.rv_names.specs.Mnemonics.{mnemonic, keyword_of}
use Rattle.rv_names.specs.Operands.{is_between, immediate_of, branch_offset_of, jump_offset_of, upper_of, amount_of, word_value_of}
use Rattle.rv_names.specs.declared.keywords.Keyword.{Keyword}
use Rattle.rv_names.specs.declared.keywords.Keyword.TheVariants.{Branch, Load, Store, ComputeImmediate, ShiftImmediate, Compute}
use Rattle.rv_isa.proofs.Same.{same_amount, same_upper}
use Rattle.rv_names.proofs.InRange.{held_branch_at, held_immediate_at, held_jump_at}
use Rattle.rv_text.proofs.Lines.{is_mark}

-- ---- operands

between : (low high z : ℤ) → low ≤ℤ z → z ≤ℤ high → is_between low high z ≡ true
between low high z h k = grind (arith, ints)

pub immediate_held : (m : Immediate) → immediate_of m.value ≡ Ok m
unfolding immediate_of
immediate_held m = rw (between (negsuc 2047) (pos 2047) m.value m.in_range.0 m.in_range.1) (ap Ok (sym (held_immediate_at m m.value refl m.in_range)))

pub branch_held : (m : BranchOffset) → branch_offset_of m.value ≡ Some m
unfolding branch_offset_of
branch_held m =
    rw (between (negsuc 4095) (pos 4094) m.value m.in_range.0 m.in_range.1, m.in_range.2) (ap Some (sym (held_branch_at m m.value refl m.in_range)))

pub jump_held : (m : JumpOffset) → jump_offset_of m.value ≡ Some m
unfolding jump_offset_of
jump_held m =
    rw (between (negsuc 1048575) (pos 1048574) m.value m.in_range.0 m.in_range.1, m.in_range.2) (ap Some (sym (held_jump_at m m.value refl m.in_range)))

pub upper_held : (m : Upper) → upper_of (pos m.value) ≡ Ok m
unfolding upper_of
upper_held m =
    rw (between (pos 0) (pos 1048575) (pos m.value) (omega (arith, ints)) (omega (arith, ints, m.in_range))) (ap Ok (same_upper (upper_at m.value) m (omega (arith, m.in_range))))

pub amount_held : (m : ShiftAmount) → amount_of (pos m.value) ≡ Ok m
unfolding amount_of
amount_held m =
    rw (between (pos 0) (pos 31) (pos m.value) (omega (arith, ints)) (omega (arith, ints, m.in_range))) (ap Ok (same_amount (amount_at m.value) m (omega (arith, m.in_range))))

word_residue : (word : ℕ) → word < 2 ^ 32 → residue 32 (pos word) ≡ word
word_residue word small = grind (arith, ints)

pub word_held : (word : ℕ) → word < 2 ^ 32 → word_value_of (pos word) ≡ Ok word
unfolding word_value_of
word_held word small =
    rw (between (negsuc 2147483647) (pos 4294967295) (pos word) (omega (arith, ints)) (omega (arith, ints))) (ap Ok (word_residue word small))

-- ---- mnemonics

pub record IsKnown (keyword : Keyword) : Type 0 where
  pub some : 0 < length (mnemonic keyword)
  pub marks : list_any is_mark (mnemonic keyword) ≡ false
  pub found : keyword_of (mnemonic keyword) ≡ Some keyword

pub known : (keyword : Keyword) → IsKnown keyword
unfolding mnemonic keyword_of
known (Branch Beq) = record { some = lit< tt; marks = refl; found = refl }
known (Load Lb) = record { some = lit< tt; marks = refl; found = refl }
known (Store Sb) = record { some = lit< tt; marks = refl; found = refl }
known (ComputeImmediate Addi) = record { some = lit< tt; marks = refl; found = refl }
known (ShiftImmediate Slli) = record { some = lit< tt; marks = refl; found = refl }
known (Compute Add) = record { some = lit< tt; marks = refl; found = refl }
known _ = record { some = lit< tt; marks = refl; found = refl }
