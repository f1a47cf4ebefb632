-- The fields of a line, written and read.
use Rattle.std.proofs.Common.{◌≡◌, ◌<◌, ◌≤◌, ◌*◌, ◌/◌, ◌%◌, ◌^◌, ◌==◌, ◌&&◌, ◌||◌, ℕ, zero, suc, Bool, true, false, cond, List, [], ◌∷◌, length, slice_index, Option, Some, None, Err, All, nat_lt, refl, ap, ◌∙◌, arith, lit<}
use Rattle.std.specs.Char.{is_ascii_digit}
use Rattle.std.specs.Fmt.{decimal}
use Rattle.std.specs.List.{list_all}
use Rattle.std.specs.Option.{ok_or}
use Rattle.std.specs.Result.{result_ok}
use Rattle.std.proofs.lemmas.Bool.{and_parts}
use Rattle.std.proofs.lemmas.Bool.Decides.{nat_tests}
use Rattle.std.proofs.lemmas.Fmt.{decimal_digit, decimal_nonempty, digits_decimal, digits_value-decimal, first_decimal, length-decimal-le}
use Rattle.std.proofs.lemmas.List.Elements.{All-head, All-tail}
use Rattle.std.proofs.lemmas.List.Sums.{AllPass-from_list_all}
use Rattle.hex.specs.Hex.{IsBytes, decode_of, encode_lower, encode_with, lower_digits}
use Rattle.hex.proofs.HexLemmas.{decode_of-encode_lower, length-encode_with}
use Rattle.block_file.specs.declared.fault.Cause.TheVariants.{BadHex}
use Rattle.block_file.specs.Line.{decimal_of, is_lower_digit, sum_of_digits}
use Rattle.block_file.proofs.FieldLemmas.{own}
use Rattle.session_requests.specs.Requests.{hex_name_of}
use Rattle.session_requests.specs.Written.{IsName, IsShort}

-- ---- decimals

-- a text of digits that a decimal is read from
pub record IsDecimal (n : ℕ) (ds : List ℕ) : Type 0 where
  pub digits : list_all is_ascii_digit ds ≡ true
  pub read : decimal_of ds ≡ Some n
  pub short : length ds ≤ 10

read_as : (ds : List ℕ) (n : ℕ) → 0 < length ds → length ds ≤ 10 → (nat_lt 1 (length ds) && slice_index ds 0 == 48) ≡ false → list_all is_ascii_digit ds ≡ true → sum_of_digits ds ≡ n → decimal_of ds ≡ Some n
read_as ds n some few first digits sum =
    let sized : (length ds == 0 || nat_lt 10 (length ds)) ≡ false = grind (arith, nat_tests) in
    rw (sized, first, digits, sum) refl

not_zero : (b : ℕ) (t : Bool) → 48 < b → (t && b == 48) ≡ false
not_zero b false h = refl
not_zero b true h = grind (arith, nat_tests)

no_leading_zero : (n : ℕ) → n < 2 ^ 64 → (nat_lt 1 (length (decimal n)) && slice_index (decimal n) 0 == 48) ≡ false
no_leading_zero zero h = ap (λ (ds : List ℕ). nat_lt 1 (length ds) && slice_index ds 0 == 48) (decimal_digit 0 (omega arith))
no_leading_zero (suc n) h = not_zero (slice_index (decimal (suc n)) 0) (nat_lt 1 (length (decimal (suc n)))) (first_decimal (suc n) (omega arith) h)

pub decimal_is : (n : ℕ) → IsShort n → IsDecimal n (decimal n)
decimal_is n h =
    let low : n < 2 ^ 64 = omega (arith, h.below) in
    let short : length (decimal n) ≤ 10 = length-decimal-le 10 n (omega arith) h.below low in
    let digits : list_all is_ascii_digit (decimal n) ≡ true = digits_decimal own n low in
    record {
      digits = digits;
      read = read_as (decimal n) n (decimal_nonempty n low) short (no_leading_zero n low) digits (digits_value-decimal own n low);
      short = short;
    }

-- ---- names

-- a name by its two tests
abbrev pub name_by_tests : List ℕ → Option (List ℕ)
name_by_tests text = cond (length text == 64) (cond (list_all is_lower_digit text) (result_ok (decode_of text)) None) None

without_cause : (sized lower : Bool) (o : Option (List ℕ)) → result_ok (cond sized (cond lower (ok_or o BadHex) (Err BadHex)) (Err BadHex)) ≡ cond sized (cond lower o None) None
without_cause true true None = refl
without_cause sized lower o = refl

pub name_is : (text : List ℕ) → hex_name_of text ≡ name_by_tests text
name_is text = without_cause (length text == 64) (list_all is_lower_digit text) (result_ok (decode_of text))

-- a text that a name is read from
pub record IsHex (name ds : List ℕ) : Type 0 where
  pub digits : list_all is_lower_digit ds ≡ true
  pub read : hex_name_of ds ≡ Some name
  pub long : length ds ≡ 64

bytes_at : (xs : List ℕ) → All (λ b. b < 256) xs → IsBytes xs
bytes_at [] h = λ i. lit< tt
bytes_at (x ∷ xs) h = places (bytes_at xs (All-tail (λ n. n < 256) x xs h))
  where
    places : IsBytes xs → (i : ℕ) → slice_index (x ∷ xs) i < 256
    places rest zero = All-head (λ n. n < 256) x xs h
    places rest (suc i) = rest i

lower_digit : (d : ℕ) → d < 16 → is_lower_digit (slice_index lower_digits d) ≡ true
lower_digit d h = AllPass-from_list_all is_lower_digit lower_digits refl d 0 h

lower : (xs : List ℕ) → All (λ b. b < 256) xs → list_all is_lower_digit (encode_lower xs) ≡ true
unfolding encode_with
lower [] h = refl
lower (x ∷ xs) h =
    let byte : x < 256 = All-head (λ n. n < 256) x xs h in
    rw (lower_digit (x / 16) (omega arith), lower_digit (x % 16) (omega arith)) (lower xs (All-tail (λ n. n < 256) x xs h))

pub hex_is : (name : List ℕ) → IsName name → IsHex name (encode_lower name)
hex_is name h =
    let long : length (encode_lower name) ≡ 64 = length-encode_with lower_digits name ∙ ap (λ n. 2 * n) h.long in
    let digits : list_all is_lower_digit (encode_lower name) ≡ true = lower name h.bytes in
    record {
      digits = digits;
      read = name_is (encode_lower name) ∙ ap (λ n. cond (n == 64) (cond (list_all is_lower_digit (encode_lower name)) (result_ok (decode_of (encode_lower name))) None) None) long
          ∙ ap (λ b. cond b (result_ok (decode_of (encode_lower name))) None) digits ∙ ap result_ok (decode_of-encode_lower name (bytes_at name h.bytes));
      long = long;
    }

-- ---- bytes that no line has

-- each byte is above another one
abbrev pub above : ℕ → List ℕ → Bool
above c text = list_all (λ b. nat_lt c b) text

digit_above : (c b : ℕ) → c ≤ 32 → is_ascii_digit b ≡ true → nat_lt c b ≡ true
digit_above c b low h = grind (arith, nat_tests)

lower_above : (c b : ℕ) → c ≤ 32 → is_lower_digit b ≡ true → nat_lt c b ≡ true
lower_above c b low h = grind (arith, nat_tests)

all_above : (p : ℕ → Bool) (c : ℕ) → ((b : ℕ) → p b ≡ true → nat_lt c b ≡ true) → (text : List ℕ) → list_all p text ≡ true → above c text ≡ true
all_above p c each [] h = refl
all_above p c each (b ∷ bs) h =
    let parts = and_parts (p b) (list_all p bs) h in
    rw (each b parts.0) (all_above p c each bs parts.1)

pub digits_above : (c : ℕ) (text : List ℕ) → c ≤ 32 → list_all is_ascii_digit text ≡ true → above c text ≡ true
digits_above c text low h = all_above is_ascii_digit c (λ b. digit_above c b low) text h

pub hex_above : (c : ℕ) (text : List ℕ) → c ≤ 32 → list_all is_lower_digit text ≡ true → above c text ≡ true
hex_above c text low h = all_above is_lower_digit c (λ b. lower_above c b low) text h
