-- Paths are ASCII, and the sum of digits, one digit after the other.
use Rattle.std.proofs.Common.{◌≡◌, ◌<◌, ◌≤◌, ◌+◌, ◌-◌, ◌*◌, ◌^◌, ℕ, Bool, true, List, [], ◌∷◌, ◌++◌, length, take, get_or, refl, sym, ap, ◌∙◌, arith, rules, lit<, zero, suc}
use Rattle.std.proofs.Math.Nat.{mul_assoc, pow-suc}
use Rattle.std.proofs.lemmas.List.{length-take, length_push, take_more}
use Rattle.std.proofs.lemmas.List.Folds.{list_all_more}
use Rattle.std.specs.Char.{is_ascii_digit}
use Rattle.std.specs.List.{list_all}
use Rattle.std.specs.Str.{IsUtf8, IsAscii}
use Rattle.std.proofs.lemmas.Bool.{and_parts}
use Rattle.std.proofs.lemmas.Str.{IsUtf8-from_ascii}
use Rattle.std.proofs.lemmas.Str.Parse.{IsNumeralModel, numerals_by_weight, digits_value_short}
use Rattle.block_file.specs.Line.{sum_of_digits}

-- bytes that pass a test of ASCII bytes are text
pub text_of_passing : (p : ℕ → Bool) → ((b : ℕ) → p b ≡ true → b < 128) → (bytes : List ℕ) → list_all p bytes ≡ true → IsUtf8 bytes
text_of_passing p low bytes all = IsUtf8-from_ascii bytes (ascii p low bytes all)
  where
    ascii : (p : ℕ → Bool) → ((b : ℕ) → p b ≡ true → b < 128) → (bytes : List ℕ) → list_all p bytes ≡ true → IsAscii bytes
    ascii p low [] all i = lit< tt
    ascii p low (b ∷ bytes) all zero = low b ((and_parts (p b) _ all).0)
    ascii p low (b ∷ bytes) all (suc i) = ascii p low bytes ((and_parts (p b) _ all).1) i

pub own : IsNumeralModel (λ ds. list_all is_ascii_digit ds ≡ true) sum_of_digits
own = numerals_by_weight _ (search rules) sum_of_digits (search rules)

-- digits of a text of at most 10 bytes write less than 10 to the 10
pub sum_small : (text : List ℕ) (i : ℕ) → length text ≤ 10 → list_all is_ascii_digit (take i text) ≡ true → sum_of_digits (take i text) < 10 ^ 10
sum_small text i short all = digits_value_short own (take i text) 10 all (omega (arith, length-take i text))

pub sum_of_digits-push : (digits : List ℕ) (digit : ℕ) → sum_of_digits (digits ++ digit ∷ []) ≡ sum_of_digits digits * 10 + (digit - 48)
sum_of_digits-push [] digit = omega arith
sum_of_digits-push (first ∷ rest) digit =
    let ih = sum_of_digits-push rest digit in
    let long : length (rest ++ digit ∷ []) ≡ suc (length rest) = omega (arith, length_push rest digit) in
    let power : (first - 48) * 10 ^ suc (length rest) ≡ (first - 48) * 10 ^ length rest * 10 = ap (λ p. (first - 48) * p) (pow-suc 10 (length rest)) ∙ sym (mul_assoc (first - 48) (10 ^ length rest) 10) in
    rw (long, ih) (omega (arith, power))

-- one digit more
pub one_more : (text : List ℕ) (i : ℕ) → i < length text → list_all is_ascii_digit (take i text) ≡ true → is_ascii_digit (get_or text i 0) ≡ true
    → list_all is_ascii_digit (take (i + 1) text) ≡ true
one_more text i lt all digit = rw (list_all_more is_ascii_digit text i 0 lt, all, digit) refl

pub sum_more : (text : List ℕ) (i : ℕ) → i < length text → sum_of_digits (take (i + 1) text) ≡ sum_of_digits (take i text) * 10 + (get_or text i 0 - 48)
sum_more text i lt = ap sum_of_digits (take_more text i 0 lt) ∙ sum_of_digits-push (take i text) (get_or text i 0)
