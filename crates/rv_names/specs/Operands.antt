-- The operands of a line of source, and their ranges.
use Rattle.std.specs.Prelude.{ℕ, ◌-◌, ◌/◌, ◌==◌, nat_le, Bool, not, ◌&&◌, ◌||◌, List, length, take, drop, slice_index, ℤ, pos, negsuc, int_le, unsigned_abs, Option, Some, None, Result, Ok, Err, if◌then◌else◌}
use Rattle.std.specs.List.{list_all, prefix_len, suffix_len, list_any, before_first, after_first}
use Rattle.std.specs.Option.{ok_or}
use Rattle.std.specs.Char.{is_ascii_digit, is_ascii_alphanumeric}
use Rattle.rv_isa.specs.Number.{residue}
use Rattle.rv_isa.specs.Decoding.{immediate_at, branch_at, jump_at, upper_at, amount_at}
use Rattle.rv_isa.specs.declared.register.Reg.{Reg}
use Rattle.rv_isa.specs.declared.operands.Immediate.{Immediate}
use Rattle.rv_isa.specs.declared.operands.BranchOffset.{BranchOffset}
use Rattle.rv_isa.specs.declared.operands.JumpOffset.{JumpOffset}
use Rattle.rv_isa.specs.declared.operands.Upper.{Upper}
use Rattle.rv_isa.specs.declared.operands.ShiftAmount.{ShiftAmount}
use Rattle.rv_names.specs.Registers.{register_of}
use Rattle.rv_names.specs.Numbers.{number_of}
use Rattle.rv_names.specs.declared.target.Target.{Target}
use Rattle.rv_names.specs.declared.target.Target.TheVariants.{Number, Label}
use Rattle.rv_names.specs.declared.lines.LineCause.{LineCause}
use Rattle.rv_names.specs.declared.lines.LineCause.TheVariants.{BadOperand, ImmediateRange}

-- continues with f if the first step gave a value; otherwise keeps its cause
infixl 10 ◌>>=◌
abbrev pub ◌>>=◌ : {A B : Type 0} → Result A LineCause → (A → Result B LineCause) → Result B LineCause
(Ok x) >>= f = f x
(Err cause) >>= f = Err cause

-- space and tab
abbrev pub is_blank : ℕ → Bool
is_blank b = b == 32 || b == 9

-- a text without the blanks at its beginning, at its end, and at both
abbrev pub without_blanks_before : List ℕ → List ℕ
without_blanks_before text = drop (prefix_len is_blank text) text

abbrev pub without_blanks_behind : List ℕ → List ℕ
without_blanks_behind text = take (length text - suffix_len is_blank text) text

unfoldable pub trimmed : List ℕ → List ℕ
trimmed text = without_blanks_behind (without_blanks_before text)

-- ---- operands, which are separated by commas

abbrev pub is_comma : ℕ → Bool
is_comma b = b == 44

-- the first of several operands, and the text of the others
abbrev pub first_operand : List ℕ → Result (List ℕ × List ℕ) LineCause
first_operand text =
    if list_any is_comma text then Ok (trimmed (before_first is_comma text), after_first is_comma text) else Err BadOperand

abbrev pub last_operand : List ℕ → Result (List ℕ) LineCause
last_operand text = if list_any is_comma text then Err BadOperand else Ok (trimmed text)

-- exactly this number of operands; an empty text has none
unfoldable pub no_operand : List ℕ → Result (Unit {0}) LineCause
no_operand text = if length text == 0 then Ok tt else Err BadOperand

unfoldable pub one_operand : List ℕ → Result (List ℕ) LineCause
one_operand text = if length text == 0 then Err BadOperand else last_operand text

unfoldable pub two_operands : List ℕ → Result (List ℕ × List ℕ) LineCause
two_operands text = do
  first ← first_operand text
  last ← last_operand first.1
  Ok (first.0, last)

unfoldable pub three_operands : List ℕ → Result (List ℕ × List ℕ × List ℕ) LineCause
three_operands text = do
  first ← first_operand text
  second ← first_operand first.1
  last ← last_operand second.1
  Ok (first.0, second.0, last)

-- ---- their forms

-- a name has one or more ASCII letters, ASCII digits and `_`, and the first is not a digit
abbrev pub is_name_byte : ℕ → Bool
is_name_byte b = is_ascii_alphanumeric b || b == 95

unfoldable pub is_name : List ℕ → Bool
is_name text = nat_le 1 (length text) && not (is_ascii_digit (slice_index text 0)) && list_all is_name_byte text

abbrev pub register_operand : List ℕ → Result Reg LineCause
register_operand text = ok_or (register_of text) BadOperand

abbrev pub number_operand : List ℕ → Result ℤ LineCause
number_operand text = ok_or (number_of text) BadOperand

-- `N(REGISTER)`, with nothing after the closing parenthesis
abbrev pub inside_parenthesis : List ℕ → Result (List ℕ) LineCause
inside_parenthesis rest = if slice_index rest (length rest - 1) == 41 then Ok (take (length rest - 1) rest) else Err BadOperand

unfoldable pub place_operand : List ℕ → Result (ℤ × Reg) LineCause
place_operand text = do
  number ← number_operand (before_first (λ b. b == 40) text)
  name ← inside_parenthesis (after_first (λ b. b == 40) text)
  base ← register_operand name
  Ok (number, base)

-- a number, or the name of a label
abbrev pub target_from : List ℕ → Option ℤ → Result (Target (List ℕ)) LineCause
target_from text (Some n) = Ok (Number n)
target_from text None = if is_name text then Ok (Label text) else Err BadOperand

unfoldable pub target_operand : List ℕ → Result (Target (List ℕ)) LineCause
target_operand text = target_from text (number_of text)

-- ---- the ranges of numbers

abbrev pub is_between : ℤ → ℤ → ℤ → Bool
is_between low high z = int_le low z && int_le z high

-- -2048 to 2047
unfoldable pub immediate_of : ℤ → Result Immediate LineCause
immediate_of z = if is_between (negsuc 2047) (pos 2047) z then Ok (immediate_at (residue 12 z)) else Err ImmediateRange

-- -4096 to 4094, and even
unfoldable pub branch_offset_of : ℤ → Option BranchOffset
branch_offset_of z =
    if is_between (negsuc 4095) (pos 4094) z && residue 1 z == 0 then Some (branch_at (residue 13 z / 2)) else None

-- -1048576 to 1048574, and even
unfoldable pub jump_offset_of : ℤ → Option JumpOffset
jump_offset_of z =
    if is_between (negsuc 1048575) (pos 1048574) z && residue 1 z == 0 then Some (jump_at (residue 21 z / 2)) else None

-- 0 to 1048575
unfoldable pub upper_of : ℤ → Result Upper LineCause
upper_of z = if is_between (pos 0) (pos 1048575) z then Ok (upper_at (unsigned_abs z)) else Err ImmediateRange

-- 0 to 31
unfoldable pub amount_of : ℤ → Result ShiftAmount LineCause
amount_of z = if is_between (pos 0) (pos 31) z then Ok (amount_at (unsigned_abs z)) else Err ImmediateRange

-- -2147483648 to 4294967295, modulo 2^32
unfoldable pub word_value_of : ℤ → Result ℕ LineCause
word_value_of z = if is_between (negsuc 2147483647) (pos 4294967295) z then Ok (residue 32 z) else Err ImmediateRange

-- 0 to `most`
unfoldable pub count_of : ℕ → ℤ → Result ℕ LineCause
count_of most z = if is_between (pos 0) (pos most) z then Ok (unsigned_abs z) else Err ImmediateRange
