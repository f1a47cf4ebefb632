-- Digits are ASCII, and what `from_str_radix` reads is their value.
use Rattle.std.proofs.Common.{◌≡◌, ℕ, zero, suc, ◌<◌, ◌≤◌, ◌^◌, true, List, [], ◌∷◌, length, Result, Ok, Err, OkIff, arith, refl, ap, lit<}
use Rattle.std.proofs.lemmas.Bool.{and_parts}
use Rattle.std.proofs.lemmas.Bool.Decides.{nat_tests}
use Rattle.std.proofs.lemmas.Int.Digits.{digits_value-lt}
use Rattle.std.proofs.Math.Nat.{pow-le-pow_left, pow-le-pow_right}
use Rattle.std.specs.Char.{is_digit}
use Rattle.std.specs.List.{list_all}
use Rattle.std.specs.Str.{IsUtf8, IsAscii}
use Rattle.std.specs.Str.Parse.{AllDigits, IsNumeral, digits_value, without_leading_plus, ParsesUnsigned}
use Rattle.std.proofs.lemmas.Str.{IsUtf8-from_ascii}
use Rattle.std.proofs.lemmas.Str.Parse.{without_leading_plus_none}

-- a digit in a radix up to 16 is ASCII, and no plus
digit_low : (radix c : ℕ) → radix ≤ 16 → is_digit c radix ≡ true → c < 128
digit_low radix c high h = grind (arith, nat_tests)

digit_no_plus : (radix c : ℕ) → radix ≤ 16 → is_digit c radix ≡ true → c ≡ 43 → 1 ≤ 0
digit_no_plus radix c high h e = grind (arith, nat_tests)

-- the test and the fact on digits
pub all_digits : (radix : ℕ) (ds : List ℕ) → list_all (λ c. is_digit c radix) ds ≡ true → AllDigits radix ds
all_digits radix [] h = tt
all_digits radix (c ∷ cs) h = let p = and_parts (is_digit c radix) _ h in (grind (arith, nat_tests, p.0), all_digits radix cs p.1)

-- digits are text
pub digits_are_text : (radix : ℕ) (ds : List ℕ) → radix ≤ 16 → list_all (λ c. is_digit c radix) ds ≡ true → IsUtf8 ds
digits_are_text radix ds high h = IsUtf8-from_ascii ds (ascii radix ds high h)
  where
    ascii : (radix : ℕ) (ds : List ℕ) → radix ≤ 16 → list_all (λ c. is_digit c radix) ds ≡ true → IsAscii ds
    ascii radix [] high h i = lit< tt
    ascii radix (c ∷ cs) high h zero = digit_low radix c high ((and_parts (is_digit c radix) _ h).0)
    ascii radix (c ∷ cs) high h (suc i) = ascii radix cs high ((and_parts (is_digit c radix) _ h).1) i

-- at most ten of them write a number below 2^40
pub digits_small : (radix : ℕ) (ds : List ℕ) → 2 ≤ radix → radix ≤ 16 → list_all (λ c. is_digit c radix) ds ≡ true → length ds ≤ 10 → digits_value radix ds < 2 ^ 40
digits_small radix ds low high h short =
    let a : digits_value radix ds < radix ^ length ds = digits_value-lt radix ds (all_digits radix ds h) in
    let b : radix ^ length ds ≤ 16 ^ length ds = pow-le-pow_left high (length ds) in
    let d : 16 ^ length ds ≤ 16 ^ 10 = pow-le-pow_right {n = 16} (lit< tt) short in
    omega arith

no_plus : (radix : ℕ) (ds : List ℕ) → radix ≤ 16 → list_all (λ c. is_digit c radix) ds ≡ true → without_leading_plus ds ≡ ds
no_plus radix [] high h = refl
no_plus radix (c ∷ cs) high h = without_leading_plus_none (c ∷ cs) (λ e. absurd (omega (arith, digit_no_plus radix c high ((and_parts (is_digit c radix) _ h).0) e)))

-- what is read of 1 to 10 digits
pub digits_read : {E : Type 0} (radix : ℕ) (ds text : List ℕ) (r : Result ℕ E) → text ≡ ds → ParsesUnsigned 64 radix text r → 2 ≤ radix → radix ≤ 16 → list_all (λ c. is_digit c radix) ds ≡ true → 0 < length ds → length ds ≤ 10 → r ≡ Ok (digits_value radix ds)
digits_read {E} radix ds text r e h low high all some short = go r (rw (e, no_plus radix ds high all) at h)
  where
    go : (r : Result ℕ E) → OkIff r (IsNumeral radix ds × (digits_value radix ds < 2 ^ 64)) (digits_value radix ds) → r ≡ Ok (digits_value radix ds)
    go (Ok x) p = ap Ok p.1
    go (Err x) p = absurd (p ((some, all_digits radix ds all), omega (arith, digits_small radix ds low high all short)))
