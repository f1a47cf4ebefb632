-- Numbers in source.
use Rattle.std.specs.Prelude.{ℕ, Bool, ◌&&◌, nat_eq, nat_le, List, length, drop, codes, ℤ, pos, neg_ℤ, Option, Some, None, if◌then◌else◌}
use Rattle.std.specs.Option.{option_map}
use Rattle.std.specs.List.{list_all, starts_with}
use Rattle.std.specs.Char.{is_digit}
use Rattle.std.specs.Str.Parse.{digits_value}

-- 1 to `most` digits of the radix
abbrev pub is_numeral : ℕ → ℕ → List ℕ → Bool
is_numeral radix most digits = nat_le 1 (length digits) && nat_le (length digits) most && list_all (λ c. is_digit c radix) digits

-- the number that the digits write; a hex digit is of either case
unfoldable pub numeral_of : ℕ → ℕ → List ℕ → Option ℕ
numeral_of radix most digits = if is_numeral radix most digits then Some (digits_value radix digits) else None

-- 1 to 8 hex digits after `0x`, 1 to 10 decimal digits after `-`, or 1 to 10 decimal digits
unfoldable pub number_of : List ℕ → Option ℤ
number_of text =
    if starts_with nat_eq text (codes "0x") then option_map pos (numeral_of 16 8 (drop 2 text)) else
    if starts_with nat_eq text (codes "-") then option_map (λ n. neg_ℤ (pos n)) (numeral_of 10 10 (drop 1 text)) else
    option_map pos (numeral_of 10 10 text)
