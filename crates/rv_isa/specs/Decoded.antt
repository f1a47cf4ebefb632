-- Decoding as a function, for definitions that compute. The contract of `decode` says that for every 32-bit word it
-- gives Some of the instruction that has the word, or None if no instruction has it.
use Rattle.std.specs.Prelude.{ℕ, Option}
use Rattle.rv_isa.specs.declared.instruction.Instr.{Instr}
use Rattle.rv_isa.specs.Decoding.{instr_of, slots_of}

-- the instruction of a word
unfoldable pub decoded : ℕ → Option Instr
decoded word = instr_of (slots_of word)
