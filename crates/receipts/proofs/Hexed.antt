-- Bytes in hex, some at a time.
use Rattle.std.proofs.Common.{◌≡◌, ℕ, ◌-◌, ◌/◌, ◌%◌, ◌≤◌, List, [], ◌∷◌, ◌++◌, length, take, drop, slice_index, refl, sym, ap, arith}
use Rattle.std.proofs.lemmas.List.{take_all}
use Rattle.hex.specs.Hex.{encode_lower, encode_with, lower_digits}

-- the digits of a byte
abbrev two : ℕ → List ℕ → List ℕ
two b rest = slice_index lower_digits (b / 16) ∷ slice_index lower_digits (b % 16) ∷ rest

-- one byte
pub one_byte : (a : ℕ) → encode_lower (a ∷ []) ≡ two a []
unfolding encode_with
one_byte a = refl

-- none
pub no_bytes : (r : List ℕ) → length r ≤ 0 → encode_lower r ≡ []
unfolding encode_with
no_bytes [] h = refl
no_bytes (a ∷ r) h = absurd (omega arith)

-- the first byte apart
pub one_off : (r : List ℕ) → 1 ≤ length r → encode_lower r ≡ encode_lower (slice_index r 0 ∷ []) ++ encode_lower (take (length r - 1) (drop 1 r))
unfolding encode_with
one_off [] h = absurd (omega arith)
one_off (a ∷ r) h = ap (λ (t : List ℕ). two a (encode_lower t)) (sym (take_all (length (a ∷ r) - 1) r (omega arith)))

-- the first four bytes apart
pub four_off : (r : List ℕ) → 4 ≤ length r
    → encode_lower r ≡ encode_lower (slice_index r 0 ∷ slice_index r 1 ∷ slice_index r 2 ∷ slice_index r 3 ∷ []) ++ encode_lower (take (length r - 4) (drop 4 r))
unfolding encode_with
four_off [] h = absurd (omega arith)
four_off (a ∷ []) h = absurd (omega arith)
four_off (a ∷ b ∷ []) h = absurd (omega arith)
four_off (a ∷ b ∷ c ∷ []) h = absurd (omega arith)
four_off (a ∷ b ∷ c ∷ d ∷ r) h =
    ap (λ (t : List ℕ). two a (two b (two c (two d (encode_lower t))))) (sym (take_all (length (a ∷ b ∷ c ∷ d ∷ r) - 4) r (omega arith)))

-- some first bytes apart
pub hex_append : (xs ys : List ℕ) → encode_lower (xs ++ ys) ≡ encode_lower xs ++ encode_lower ys
unfolding encode_with
hex_append [] ys = refl
hex_append (x ∷ xs) ys = ap (two x) (hex_append xs ys)
