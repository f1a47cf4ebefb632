-- The text of a word.
use Rattle.std.specs.Prelude.{ℕ, ◌==◌, false, List, [], ◌∷◌, ◌++◌, codes, Option, Some, None, if◌then◌else◌}
use Rattle.std.specs.List.{join_with_byte}
use Rattle.std.specs.Fmt.{digits, signed_decimal, decimal}
use Rattle.std.specs.Int.{to_be_bytes, w32}
use Rattle.hex.specs.Hex.{encode_lower}
use Rattle.rv_isa.specs.declared.register.Reg.{Reg}
use Rattle.rv_isa.specs.declared.operands.Immediate.{Immediate}
use Rattle.rv_isa.specs.declared.operands.Upper.{Upper}
use Rattle.rv_isa.specs.declared.instruction.Instr.{Instr}
use Rattle.rv_isa.specs.declared.instruction.Instr.TheVariants.{Lui, Auipc, Jal, Jalr, Branch, Load, Store, ComputeImmediate, ShiftImmediate, Compute, Fence, Ecall, Ebreak}
use Rattle.rv_isa.specs.Word.{word_of}
use Rattle.rv_isa.specs.Decoded.{decoded}
use Rattle.rv_names.specs.Registers.{x_name}
use Rattle.rv_names.specs.Mnemonics.{mnemonic}
use Rattle.rv_names.specs.declared.keywords.Keyword.{Keyword}
use Rattle.rv_names.specs.declared.keywords.Keyword.TheVariants as keyword

-- a mnemonic, one blank, and the operands, separated by commas
abbrev pub command : Keyword → List (List ℕ) → List ℕ
command keyword operands = mnemonic keyword ++ 32 ∷ join_with_byte 44 operands

-- imm[31:12] in hex, without leading zeros
abbrev pub upper_text : Upper → List ℕ
upper_text immediate = codes "0x" ++ digits 16 false immediate.value

-- `N(REGISTER)`: an offset and the register that it is added to
abbrev pub place_text : Immediate → Reg → List ℕ
place_text offset base = signed_decimal offset.value ++ 40 ∷ (x_name base ++ 41 ∷ [])

-- `.word 0x` and the word in eight hex digits
abbrev pub word_directive : ℕ → List ℕ
word_directive word = command keyword.WordDirective ((codes "0x" ++ encode_lower (to_be_bytes w32 word)) ∷ [])

-- the text of a FENCE by its word: `fence` for 0x0ff0000f alone
abbrev pub fence_text : ℕ → List ℕ
fence_text word = if word == 0x0ff0000f then mnemonic keyword.Fence else word_directive word

unfoldable pub instruction_text : Instr → List ℕ
instruction_text (Lui rd immediate) = command keyword.Lui (x_name rd ∷ upper_text immediate ∷ [])
instruction_text (Auipc rd immediate) = command keyword.Auipc (x_name rd ∷ upper_text immediate ∷ [])
instruction_text (Jal rd offset) = command keyword.Jal (x_name rd ∷ signed_decimal offset.value ∷ [])
instruction_text (Jalr rd base offset) = command keyword.Jalr (x_name rd ∷ place_text offset base ∷ [])
instruction_text (Branch condition left right offset) =
    command (keyword.Branch condition) (x_name left ∷ x_name right ∷ signed_decimal offset.value ∷ [])
instruction_text (Load kind rd base offset) = command (keyword.Load kind) (x_name rd ∷ place_text offset base ∷ [])
instruction_text (Store kind source base offset) = command (keyword.Store kind) (x_name source ∷ place_text offset base ∷ [])
instruction_text (ComputeImmediate operation rd source immediate) =
    command (keyword.ComputeImmediate operation) (x_name rd ∷ x_name source ∷ signed_decimal immediate.value ∷ [])
instruction_text (ShiftImmediate shift rd source amount) =
    command (keyword.ShiftImmediate shift) (x_name rd ∷ x_name source ∷ decimal amount.value ∷ [])
instruction_text (Compute operation rd left right) =
    command (keyword.Compute operation) (x_name rd ∷ x_name left ∷ x_name right ∷ [])
instruction_text (Fence rd source immediate) = fence_text (word_of (Fence rd source immediate))
instruction_text Ecall = mnemonic keyword.Ecall
instruction_text Ebreak = mnemonic keyword.Ebreak

-- the text of a word: the text of its instruction, or `.word 0x` and eight hex digits if it has none
abbrev pub text_or_word : ℕ → Option Instr → List ℕ
text_or_word word None = word_directive word
text_or_word word (Some instr) = instruction_text instr

unfoldable pub disassembly : ℕ → List ℕ
disassembly word = text_or_word word (decoded word)
