-- Pairs of lower-case hex digits.
use Rattle.std.proofs.Common.{◌≡◌, ℕ, zero, suc, ◌+◌, ◌*◌, ◌%◌, ◌<◌, ◌≤◌, ◌==◌, Bool, true, false, ◌&&◌, List, [], ◌∷◌, ◌++◌, length, get_or, slice_index, Option, Some, None, unwrap_or, nat_lt, is_some, Ok, Err, refl, sym, ap, ◌∙◌, arith, inl, inr, if◌then◌else◌, length-append, length-drop, take, drop}
use Rattle.std.specs.List.{AllPass, list_all}
use Rattle.std.specs.Result.{result_map_both}
use Rattle.std.specs.Prelude.{codes}
use Rattle.std.specs.Str.{bytes_eq}
use Rattle.std.proofs.lemmas.Bool.{and_parts, cases_eq, eqb-true, lt-ltb}
use Rattle.std.proofs.lemmas.Bool.Decides.{nat_tests}
use Rattle.std.proofs.Math.Seq.{take-add}
use Rattle.std.proofs.lemmas.List.{get_or_default, length-take, take-append-drop}
use Rattle.std.proofs.lemmas.List.Folds.{list_all-append}
use Rattle.std.proofs.lemmas.List.Sums.{AllPass-from_list_all, list_all-from_AllPass}
use Rattle.hex.specs.Hex.{decode_of, decode_pairs, digit_or_error, hex_digit_value, is_hex_digit, pair_value, value_at}
use Rattle.hex.proofs.Pairs.{cons_byte, decode_pairs-ok_pair}
use Rattle.hex.proofs.HexLemmas.{decode_of-even, decode_of-digits, decode_of-ok}
use Rattle.block_file.specs.Line.{◌>>=◌, hex_of, field_bytes, is_lower_digit}
use Rattle.block_file.specs.declared.fault.Cause.TheVariants.{BadHex}

-- the number of a digit in lower case
abbrev pub lower_value : ℕ → Option ℕ
lower_value byte = if is_lower_digit byte then hex_digit_value byte else None

abbrev pub number_of : ℕ → ℕ
number_of byte = unwrap_or (lower_value byte) 255

-- ---- the table

-- a table has a number at each place below n
unfoldable pub has_numbers : List ℕ → ℕ → Bool
has_numbers table zero = true
has_numbers table (suc n) = (get_or table n 0 == number_of n) && has_numbers table n

pub number_at : (table : List ℕ) (n byte : ℕ) → has_numbers table n ≡ true → byte < n → get_or table byte 0 ≡ number_of byte
unfolding has_numbers
number_at table zero byte h lt = absurd (omega arith)
number_at table (suc n) byte h lt =
    let parts = and_parts (get_or table n 0 == number_of n) (has_numbers table n) h in
    elim (cases_eq byte n) [
      | inl same ↦ rw same (eqb-true _ _ parts.0)
      | inr other ↦ number_at table n byte parts.1 (omega arith)
    ]

-- ---- digits

pub is_digit : (byte n : ℕ) → n ≡ number_of byte → n ≤ 15 → is_lower_digit byte ≡ true
is_digit byte n h small = by (is_lower_digit byte) h
  where
    by : (b : Bool) → n ≡ unwrap_or (if b then hex_digit_value byte else None) 255 → b ≡ true
    by true h = refl
    by false h = absurd (omega arith)

pub digit_value : (byte n : ℕ) → n ≡ number_of byte → n ≤ 15 → hex_digit_value byte ≡ Some n
digit_value byte n h small = by (is_lower_digit byte) (hex_digit_value byte) h
  where
    by : (b : Bool) (o : Option ℕ) → n ≡ unwrap_or (if b then o else None) 255 → o ≡ Some n
    by true (Some v) h = ap Some (sym h)
    by true None h = absurd (omega arith)
    by false o h = absurd (omega arith)

pub pair_read : (a b high low i : ℕ) → high ≡ number_of a → low ≡ number_of b → high ≤ 15 → low ≤ 15 → pair_value a b i ≡ Ok (high * 16 + low)
pair_read a b high low i ha hb sa sb =
    let first = ap (digit_or_error a i) (digit_value a high ha sa) in
    let second = ap (digit_or_error b (i + 1)) (digit_value b low hb sb) in
    rw (first, second) refl

-- ---- texts

pub two_more : (text : List ℕ) (i : ℕ) → ((k : ℕ) → k < 2 * i → is_lower_digit (slice_index text k) ≡ true)
    → is_lower_digit (slice_index text (2 * i)) ≡ true → is_lower_digit (slice_index text (2 * i + 1)) ≡ true
    → (k : ℕ) → k < 2 * (i + 1) → is_lower_digit (slice_index text k) ≡ true
two_more text i before first second k lt =
    elim (cases_eq k (2 * i)) [
      | inl same ↦ rw same first
      | inr other ↦ elim (cases_eq k (2 * i + 1)) [ inl same ↦ rw same second | inr less ↦ before k (omega arith) ]
    ]

pub read_whole : (text bytes : List ℕ) → length text % 2 ≡ 0 → ((k : ℕ) → k < length text → is_lower_digit (slice_index text k) ≡ true)
    → decode_pairs 0 text ≡ Ok bytes → hex_of text ≡ Ok bytes
read_whole text bytes even digits h =
    let all : list_all is_lower_digit text ≡ true = list_all-from_AllPass is_lower_digit text (λ k d lt. rw (get_or_default text k d 0 lt) (digits k lt)) in
    let decoded : decode_of text ≡ Ok bytes = decode_of-even text even ∙ h in
    rw (all, decoded) refl

pub is_hex : (byte : ℕ) → is_lower_digit byte ≡ true → is_hex_digit byte ≡ true
is_hex byte h = grind (arith, nat_tests)

-- the bytes of a text in which each byte is a digit: more than n bytes if the text has more than 2 * n digits
pub read_long : (text : List ℕ) (n : ℕ) → length text % 2 ≡ 0 → list_all is_lower_digit text ≡ true → 2 * n < length text
    → (bytes : List ℕ) × (hex_of text ≡ Ok bytes) × (n < length bytes)
read_long text n even all long =
    let digits : AllPass is_hex_digit text = λ k d lt. is_hex (get_or text k d) (AllPass-from_list_all is_lower_digit text all k d lt) in
    let read = decode_of-digits text even digits in
    let sizes = decode_of-ok text read.0 read.1 in
    (read.0, rw (all, read.1) refl, omega (arith, sizes.2))

pub long_bytes : (text : List ℕ) (n : ℕ) → bytes_eq text (codes "-") ≡ false → (bytes : List ℕ) × (hex_of text ≡ Ok bytes) × (n < length bytes)
    → Ok None ≡ result_map_both (λ bytes. if nat_lt n (length bytes) then None else Some bytes) (λ cause. cause) (field_bytes text)
long_bytes text n other read =
    let long : nat_lt n (length read.0) ≡ true = lt-ltb _ _ read.2 in
    let same : field_bytes text ≡ Ok read.0 = rw other read.1 in
    rw (same, long) refl

-- ---- the bytes of a text in parts

-- the byte of two digits
abbrev pub byte_of : ℕ → ℕ → ℕ
byte_of high low = unwrap_or (hex_digit_value high) 0 * 16 + unwrap_or (hex_digit_value low) 0

-- the bytes of pairs of digits
unfoldable pub bytes_of : List ℕ → List ℕ
bytes_of [] = []
bytes_of (digit ∷ []) = []
bytes_of (high ∷ low ∷ text) = byte_of high low ∷ bytes_of text

value_read : (digit i : ℕ) → is_lower_digit digit ≡ true → value_at digit i ≡ Ok (unwrap_or (hex_digit_value digit) 0)
value_read digit i h = by (hex_digit_value digit) (is_hex digit h)
  where
    by : (o : Option ℕ) → is_some o ≡ true → digit_or_error digit i o ≡ Ok (unwrap_or o 0)
    by (Some v) h = refl
    by None h = cc

digits_read : (i : ℕ) (text : List ℕ) → length text % 2 ≡ 0 → list_all is_lower_digit text ≡ true → decode_pairs i text ≡ Ok (bytes_of text)
unfolding decode_pairs bytes_of
digits_read i [] even all = refl
digits_read i (digit ∷ []) even all = absurd (omega arith)
digits_read i (high ∷ low ∷ text) even all =
    let first = and_parts (is_lower_digit high) (list_all is_lower_digit (low ∷ text)) all in
    let second = and_parts (is_lower_digit low) (list_all is_lower_digit text) first.1 in
    let pair : pair_value high low i ≡ Ok (byte_of high low) = rw (value_read high i first.0, value_read low (i + 1) second.0) refl in
    decode_pairs-ok_pair i high low _ text pair ∙ ap (cons_byte (byte_of high low)) (digits_read (i + 2) text (omega arith) second.1)

pub hex_even : (text : List ℕ) → length text % 2 ≡ 0 → hex_of text ≡ (if list_all is_lower_digit text then Ok (bytes_of text) else Err BadHex)
hex_even text even = by (list_all is_lower_digit text) refl
  where
    by : (b : Bool) → list_all is_lower_digit text ≡ b → hex_of text ≡ (if b then Ok (bytes_of text) else Err BadHex)
    by true all = rw (all, decode_of-even text even, digits_read 0 text even all) refl
    by false other = rw other refl

pub length-bytes : (text : List ℕ) → length text % 2 ≡ 0 → length text ≡ 2 * length (bytes_of text)
unfolding bytes_of
length-bytes [] even = refl
length-bytes (digit ∷ []) even = absurd (omega arith)
length-bytes (high ∷ low ∷ text) even = omega (arith, length-bytes text (omega arith))

bytes-append : (front back : List ℕ) → length front % 2 ≡ 0 → bytes_of (front ++ back) ≡ bytes_of front ++ bytes_of back
unfolding bytes_of
bytes-append [] back even = refl
bytes-append (digit ∷ []) back even = absurd (omega arith)
bytes-append (high ∷ low ∷ front) back even = ap (λ bytes. byte_of high low ∷ bytes) (bytes-append front back (omega arith))

-- a text in two parts
pub hex-append : (front back : List ℕ) → length front % 2 ≡ 0 → length back % 2 ≡ 0
    → hex_of (front ++ back) ≡ (hex_of front >>= (λ before. hex_of back >>= (λ after. Ok (before ++ after))))
hex-append front back even_front even_back =
    let even : length (front ++ back) % 2 ≡ 0 = omega (arith, length-append front back) in
    let all = list_all-append is_lower_digit front back in
    rw (hex_even (front ++ back) even, hex_even front even_front, hex_even back even_back, all, bytes-append front back even_front)
    (by (list_all is_lower_digit front) (list_all is_lower_digit back) (bytes_of front) (bytes_of back))
  where
    by : (b d : Bool) (before after : List ℕ) → (if b && d then Ok (before ++ after) else Err BadHex)
        ≡ ((if b then Ok before else Err BadHex) >>= (λ before. (if d then Ok after else Err BadHex) >>= (λ after. Ok (before ++ after))))
    by true true before after = refl
    by true false before after = refl
    by false d before after = refl

-- `at` bytes of a text are read, and then the next ones
pub more_read : (text out new : List ℕ) (at count size : ℕ) (r : Bool) → count ≡ length new → size ≡ 2 * count → 2 * at + size ≤ length text
    → hex_of (take (2 * at) text) ≡ Ok (take at out) → hex_of (take size (drop (2 * at) text)) ≡ (if r then Ok new else Err BadHex)
    → hex_of (take (2 * (at + count)) text) ≡ (if r then Ok (take at out ++ new) else Err BadHex)
more_read text out new at count size r many pairs le first second =
    let front : length (take (2 * at) text) % 2 ≡ 0 = omega (arith, length-take (2 * at) text) in
    let back : length (take size (drop (2 * at) text)) % 2 ≡ 0 = omega (arith, length-take size (drop (2 * at) text), length-drop (2 * at) text) in
    let places : 2 * (at + count) ≡ 2 * at + size = omega arith in
    rw (places, take-add (2 * at) size text, hex-append _ _ front back, first, second) (by r)
  where
    by : (r : Bool) → ((if r then Ok new else Err BadHex) >>= (λ after. Ok (take at out ++ after))) ≡ (if r then Ok (take at out ++ new) else Err BadHex)
    by true = refl
    by false = refl

-- a text is refused if it is refused as far as a place
pub all_refused : (text : List ℕ) (at : ℕ) → at % 2 ≡ 0 → length text % 2 ≡ 0 → at ≤ length text → hex_of (take at text) ≡ Err BadHex → hex_of text ≡ Err BadHex
all_refused text at even_at even le h =
    let front : length (take at text) % 2 ≡ 0 = omega (arith, length-take at text) in
    let back : length (drop at text) % 2 ≡ 0 = omega (arith, length-drop at text) in
    let parts = hex-append (take at text) (drop at text) front back in
    let whole = take-append-drop at text in
    rw (whole, h) at parts
