-- Each field of a result's text determines what it was made of, and has no space.
use Rattle.std.proofs.Common.{◌≡◌, ℕ, zero, suc, ◌/◌, ◌%◌, ◌^◌, ◌<◌, ◌≤◌, true, false, List, [], ◌∷◌, map, slice_index, Some, nat_lt, if◌then◌else◌, refl, sym, ap, ◌∙◌, arith, lit<}
use Rattle.std.specs.Prelude.{◌==◌, codes}
use Rattle.std.specs.Str.{bytes_eq}
use Rattle.std.specs.Fmt.{decimal, digits, digits_onto, digit_glyph}
use Rattle.std.specs.Int.{to_be_bytes, w32}
use Rattle.std.proofs.lemmas.Fmt.{decimal_injective}
use Rattle.std.proofs.lemmas.Bool.Decides.{nat_tests}
use Rattle.std.proofs.lemmas.List.Elements.{All-cons, All-head, All-tail}
use Rattle.hex.specs.Hex.{encode_lower, encode_with, lower_digits, hex_digit_value, decode_of, IsBytes}
use Rattle.hex.proofs.HexLemmas.{decode_of-encode_lower, IsDigits-lower_digits}
use Rattle.rv_ledger.specs.Change.{ContentChange}
use Rattle.rv_ledger.specs.declared.change.Change.TheVariants as change
use Rattle.rv_ledger.specs.declared.end.End.{End}
use Rattle.rv_ledger.specs.declared.end.End.TheVariants.{Returned, Reverted, OutOfGas, Trapped}
use Rattle.rv_ledger.specs.declared.end.Trap.TheVariants.{Illegal, Misaligned, MemoryFault, FetchFault, Breakpoint, UnknownCall, BadLength, TooManyWrites}
use Rattle.receipts.specs.Text.{end_name, bytes_text, word_text, change_fields}
use Rattle.receipts.specs.Ranges.{AreBytes, AreWords, IsChangeInRange}
use Rattle.receipts.proofs.Cuts.{plain, all_plain}

-- ---- decimals

-- a digit is no space
last_digit : (n : ℕ) → nat_lt 32 (digit_glyph false (n % 10)) ≡ true
last_digit n = grind (arith, nat_tests)

-- digits have no space
digits_plain : (k n : ℕ) (acc : List ℕ) → plain acc ≡ true → plain (digits_onto k 10 false n acc) ≡ true
digits_plain zero n acc h = h
digits_plain (suc k) n acc h =
    let one : plain (digit_glyph false (n % 10) ∷ acc) ≡ true = rw (last_digit n) h in
    elim (n / 10 == 0) as (λ b. plain (if b then digit_glyph false (n % 10) ∷ acc else digits_onto k 10 false (n / 10) (digit_glyph false (n % 10) ∷ acc)) ≡ true) [
      | true ↦ one
      | false ↦ digits_plain k (n / 10) (digit_glyph false (n % 10) ∷ acc) one
    ]

-- a decimal has no space
pub decimal_plain : (n : ℕ) → plain (decimal n) ≡ true
unfolding digits
decimal_plain n = digits_plain 64 n [] refl

-- a decimal determines the gas
pub gas_tells : (m n : ℕ) → m < 2 ^ 32 → n < 2 ^ 32 → decimal m ≡ decimal n → m ≡ n
gas_tells m n h k e = decimal_injective m n (omega arith) (omega arith) e

-- ---- hex

-- bytes, place by place
pub are_bytes : (xs : List ℕ) → AreBytes xs → IsBytes xs
are_bytes [] h = λ i. lit< tt
are_bytes (x ∷ xs) h = places (are_bytes xs (All-tail (λ n. n < 256) x xs h))
  where
    places : IsBytes xs → (i : ℕ) → slice_index (x ∷ xs) i < 256
    places rest zero = All-head (λ n. n < 256) x xs h
    places rest (suc i) = rest i

-- a hex digit is above the space and at most f
value_plain : (c d : ℕ) → hex_digit_value c ≡ Some d → (nat_lt 32 c ≡ true) × (c ≤ 102)
value_plain c d h = grind (arith, nat_tests)

-- a digit of the table is no space
digit_plain : (d : ℕ) → d < 16 → nat_lt 32 (slice_index lower_digits d) ≡ true
digit_plain d h = (value_plain (slice_index lower_digits d) d (IsDigits-lower_digits d h)).0

-- a digit of the table is at most f
digit_low : (d : ℕ) → d < 16 → slice_index lower_digits d ≤ 102
digit_low d h = (value_plain (slice_index lower_digits d) d (IsDigits-lower_digits d h)).1

-- hex has no space
pub hex_plain : (xs : List ℕ) → AreBytes xs → plain (encode_lower xs) ≡ true
unfolding encode_with
hex_plain [] h = refl
hex_plain (x ∷ xs) h =
    let byte : x < 256 = All-head (λ n. n < 256) x xs h in
    rw (digit_plain (x / 16) (omega arith), digit_plain (x % 16) (omega arith)) (hex_plain xs (All-tail (λ n. n < 256) x xs h))

-- hex determines its bytes
pub hex_tells : (xs ys : List ℕ) → AreBytes xs → AreBytes ys → encode_lower xs ≡ encode_lower ys → xs ≡ ys
hex_tells xs ys h k e =
    let mine = decode_of-encode_lower xs (are_bytes xs h) in
    let other = decode_of-encode_lower ys (are_bytes ys k) in
    let same : decode_of (encode_lower xs) ≡ decode_of (encode_lower ys) = ap decode_of e in
    cc

-- ---- words

-- one byte more
one_byte : (b : ℕ) (bs : List ℕ) → b < 256 → AreBytes bs → AreBytes (b ∷ bs)
one_byte b bs h rest = All-cons (λ n. n < 256) b bs h rest

-- no bytes
no_byte : AreBytes []
no_byte k d h = absurd (omega arith)

-- the four bytes of a word
word_bytes : (x : ℕ) → AreBytes (to_be_bytes w32 x)
word_bytes x =
    one_byte (x / 16777216 % 256) (x / 65536 % 256 ∷ x / 256 % 256 ∷ x % 256 ∷ []) (omega arith) (
    one_byte (x / 65536 % 256) (x / 256 % 256 ∷ x % 256 ∷ []) (omega arith) (
    one_byte (x / 256 % 256) (x % 256 ∷ []) (omega arith) (one_byte (x % 256) [] (omega arith) no_byte)
    )
    )

-- four bytes determine a word
four_bytes_tell : (x y : ℕ) → x < 2 ^ 32 → y < 2 ^ 32 → x / 16777216 % 256 ≡ y / 16777216 % 256 → x / 65536 % 256 ≡ y / 65536 % 256 → x / 256 % 256 ≡ y / 256 % 256 → x % 256 ≡ y % 256 → x ≡ y
four_bytes_tell x y h k a b c d = omega arith

-- a word has no space
pub word_plain : (x : ℕ) → plain (word_text x) ≡ true
word_plain x = hex_plain (to_be_bytes w32 x) (word_bytes x)

-- eight digits determine a word
pub word_tells : (x y : ℕ) → x < 2 ^ 32 → y < 2 ^ 32 → word_text x ≡ word_text y → x ≡ y
word_tells x y h k e =
    let same : to_be_bytes w32 x ≡ to_be_bytes w32 y = hex_tells (to_be_bytes w32 x) (to_be_bytes w32 y) (word_bytes x) (word_bytes y) e in
    four_bytes_tell x y h k (cc) (cc) (cc) (cc)

-- nor have words
pub words_plain : (xs : List ℕ) → all_plain (map word_text xs) ≡ true
words_plain [] = refl
words_plain (x ∷ xs) = rw (word_plain x) (words_plain xs)

-- the fields of words determine the words
pub words_tell : (xs ys : List ℕ) → AreWords xs → AreWords ys → map word_text xs ≡ map word_text ys → xs ≡ ys
words_tell [] [] h k e = refl
words_tell [] (y ∷ ys) h k e = cc
words_tell (x ∷ xs) [] h k e = cc
words_tell (x ∷ xs) (y ∷ ys) h k e =
    let first : word_text x ≡ word_text y = cc in
    let others : map word_text xs ≡ map word_text ys = cc in
    let same = word_tells x y (All-head (λ n. n < 2 ^ 32) x xs h) (All-head (λ n. n < 2 ^ 32) y ys k) first in
    let rest = words_tell xs ys (All-tail (λ n. n < 2 ^ 32) x xs h) (All-tail (λ n. n < 2 ^ 32) y ys k) others in
    cc (same, rest)

-- ---- bytes, and what was done to a key

-- bytes have no space
pub bytes_plain : (xs : List ℕ) → AreBytes xs → plain (bytes_text xs) ≡ true
bytes_plain [] h = refl
bytes_plain (x ∷ xs) h = hex_plain (x ∷ xs) h

-- hex or a dash determines the bytes
pub bytes_tell : (xs ys : List ℕ) → AreBytes xs → AreBytes ys → bytes_text xs ≡ bytes_text ys → xs ≡ ys
unfolding encode_with
bytes_tell [] [] h k e = refl
bytes_tell [] (y ∷ ys) h k e = cc
bytes_tell (x ∷ xs) [] h k e = cc
bytes_tell (x ∷ xs) (y ∷ ys) h k e = hex_tells (x ∷ xs) (y ∷ ys) h k e

-- what was done to a key has no space in a field
pub change_plain : (c : ContentChange) → IsChangeInRange c → all_plain (change_fields c) ≡ true
change_plain (change.Value value) h = rw (bytes_plain value h) refl
change_plain change.Gone h = refl
change_plain (change.Sum amount) h = rw (decimal_plain amount) refl

-- `gone` is neither hex nor a dash
gone_apart : (xs : List ℕ) → AreBytes xs → bytes_text xs ≡ codes "gone" → ⊥
unfolding encode_with
gone_apart [] h e = cc
gone_apart (x ∷ xs) h e =
    let byte : x < 256 = All-head (λ n. n < 256) x xs h in
    let low = digit_low (x / 16) (omega arith) in
    let first : slice_index lower_digits (x / 16) ≡ 103 = cc in
    omega arith

-- the fields determine what was done: `gone` is no value, and an amount has one field more than either
pub change_tells : (a b : ContentChange) → IsChangeInRange a → IsChangeInRange b → change_fields a ≡ change_fields b → a ≡ b
change_tells (change.Value x) (change.Value y) h k e = ap (λ (value : List ℕ). change.Value value) (bytes_tell x y h k (cc))
change_tells (change.Value x) change.Gone h k e = absurd (gone_apart x h (cc))
change_tells (change.Value x) (change.Sum n) h k e = cc
change_tells change.Gone (change.Value y) h k e = absurd (gone_apart y k (cc))
change_tells change.Gone change.Gone h k e = refl
change_tells change.Gone (change.Sum n) h k e = cc
change_tells (change.Sum m) (change.Value y) h k e = cc
change_tells (change.Sum m) change.Gone h k e = cc
change_tells (change.Sum m) (change.Sum n) h k e = ap (λ (amount : ℕ). change.Sum amount) (decimal_injective m n h k (cc))

-- ---- names

-- the end of a name
abbrev end_by : List ℕ → End
end_by name =
    if bytes_eq name (codes "returned") then Returned
    else if bytes_eq name (codes "reverted") then Reverted
    else if bytes_eq name (codes "out-of-gas") then OutOfGas
    else if bytes_eq name (codes "illegal") then Trapped Illegal
    else if bytes_eq name (codes "misaligned") then Trapped Misaligned
    else if bytes_eq name (codes "memory-fault") then Trapped MemoryFault
    else if bytes_eq name (codes "fetch-fault") then Trapped FetchFault
    else if bytes_eq name (codes "breakpoint") then Trapped Breakpoint
    else if bytes_eq name (codes "unknown-call") then Trapped UnknownCall
    else if bytes_eq name (codes "bad-length") then Trapped BadLength
    else Trapped TooManyWrites

-- the end of a name is the end that has this name, and a name has no space
named : (end : End) → (end_by (end_name end) ≡ end) × (plain (end_name end) ≡ true)
named Returned = (refl, refl)
named (Trapped Illegal) = (refl, refl)
named end = (refl, refl)

-- a name determines its end
pub name_tells : (a b : End) → end_name a ≡ end_name b → a ≡ b
name_tells a b e = sym (named a).0 ∙ ap end_by e ∙ (named b).0

pub name_plain : (end : End) → plain (end_name end) ≡ true
name_plain end = (named end).1
