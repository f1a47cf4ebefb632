-- The lines of a text, and their fields.
use Rattle.std.specs.Prelude.{ℕ, ◌+◌, ◌-◌, ◌*◌, ◌^◌, ◌==◌, nat_le, nat_lt, Bool, ◌&&◌, ◌||◌, List, [], ◌∷◌, length, slice_index, codes, Option, Some, None, Result, Ok, Err, if◌then◌else◌}
use Rattle.std.specs.List.{slice_split, list_all}
use Rattle.std.specs.Char.{is_ascii_digit}
use Rattle.std.specs.Option.{ok_or}
use Rattle.std.specs.Result.{result_ok}
use Rattle.std.specs.Str.{bytes_eq}
use Rattle.hex.specs.Hex.{decode_of}
use Rattle.block_file.specs.declared.fault.Cause.{Cause}
use Rattle.block_file.specs.declared.fault.Cause.TheVariants.{BadLine, BadHex}
use Rattle.block_file.specs.declared.fault.BlockFault.{BlockFault}

-- the second step if the first gave a value, otherwise the first one's cause
infixl 10 ◌>>=◌
abbrev pub ◌>>=◌ : {A B : Type 0} → Result A Cause → (A → Result B Cause) → Result B Cause
(Ok x) >>= f = f x
(Err cause) >>= f = Err cause

-- the parts of a text between the occurrences of a byte
abbrev pub cut : ℕ → List ℕ → List (List ℕ)
cut byte text = slice_split (λ b. b == byte) text

-- the number that digits write: each digit times the power of ten of its place
abbrev pub sum_of_digits : List ℕ → ℕ
sum_of_digits [] = 0
sum_of_digits (digit ∷ digits) = (digit - 48) * 10 ^ length digits + sum_of_digits digits

-- a decimal: 1 to 10 digits without a leading zero
abbrev pub decimal_of : List ℕ → Option ℕ
decimal_of text =
    if (length text == 0 || nat_lt 10 (length text)) then None else
    if (nat_lt 1 (length text) && slice_index text 0 == 48) then None else
    if list_all is_ascii_digit text then Some (sum_of_digits text) else None

-- a path has bytes from 0x21 to 0x7e
abbrev pub is_path_byte : ℕ → Bool
is_path_byte b = nat_le 0x21 b && nat_le b 0x7e

abbrev pub path_of : List ℕ → Result (List ℕ) Cause
path_of text = if list_all is_path_byte text then Ok text else Err BadLine

-- 0 to 9, a to f
abbrev pub is_lower_digit : ℕ → Bool
is_lower_digit b = is_ascii_digit b || (nat_le 97 b && nat_le b 102)

-- the bytes of pairs of lower-case hex digits
abbrev pub hex_of : List ℕ → Result (List ℕ) Cause
hex_of text = if list_all is_lower_digit text then ok_or (result_ok (decode_of text)) BadHex else Err BadHex

-- bytes: lower-case hex, `-` if there are none
abbrev pub field_bytes : List ℕ → Result (List ℕ) Cause
field_bytes text = if bytes_eq text (codes "-") then Ok [] else hex_of text

-- a key has 64 digits
abbrev pub field_key : List ℕ → Result (List ℕ) Cause
field_key text = if length text == 64 then hex_of text else Err BadHex

-- the second step if the first gave a value, otherwise the cause on line n
abbrev pub on_line : {A B : Type 0} → ℕ → Result A Cause → (A → Result B BlockFault) → Result B BlockFault
on_line n (Ok x) f = f x
on_line n (Err cause) f = Err (record { line = n; cause = cause })

-- the parts between the LFs, from line n on: each line is read after the one before it, and what
-- follows the last LF is refused as `unended` unless it is empty
abbrev pub read_parts : {S : Type 0} → (S → List ℕ → Result S Cause) → Cause → ℕ → S → List (List ℕ) → Result S BlockFault
read_parts read unended n s [] = Ok s
read_parts read unended n s (rest ∷ []) = if length rest == 0 then Ok s else Err (record { line = n; cause = unended })
read_parts read unended n s (line ∷ next ∷ more) = on_line n (read s line) (λ t. read_parts read unended (n + 1) t (next ∷ more))
