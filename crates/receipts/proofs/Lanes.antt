-- Hex digits, sixteen bytes at a time.
use Rattle.std.proofs.Common.{◌≡◌, ℕ, ◌/◌, ◌%◌, ◌^◌, ◌<◌, ap₂, List, [], ◌∷◌, ◌++◌, length, map, take, drop, get_or, replicate, slice_index, bit_and, refl, sym, ap, subst, ◌∙◌, arith, w8, Fits}
use Rattle.std.proofs.lemmas.List.{get_or-map, length-map, ext_get_or, take-append-drop, take_all}
use Rattle.std.proofs.lemmas.Nat.{and_le_r, and_mask}
use Rattle.std.proofs.lemmas.Simd.{Each1-all, Each1-weaker, Each1-get_or, Each1-zip2, Each2-splat, below_from_Fits, length-zip2, swz_l, SwzOk, SwzOk-from_below, length-swz_l, get_or-swz_l_below, zip2_splat, map-map, pick_l_whole}
use lib.Lanes.{zip2, chunk, pick_l, Each1}
use Rattle.hex.specs.Hex.{encode_lower, encode_with, lower_digits}

-- sixteen lanes of bytes
abbrev pub IsBlock : List ℕ → Type 0
IsBlock v = (length v ≡ 16) × Each1 (Fits w8) v

-- places below 16 are in the table
places_ok : (js : List ℕ) → length js ≡ 16 → Each1 (λ j. j < 16) js → SwzOk w8 16 16 0 js
places_ok js long small = SwzOk-from_below w8 16 1 16 0 js refl (omega arith) small

-- a table read at places below 16
read_at : (t js : List ℕ) → length js ≡ 16 → Each1 (λ j. j < 16) js → swz_l w8 16 t 0 js ≡ map (λ j. slice_index t j) js
read_at t js long small =
    ext_get_or 0 _ _ (length-swz_l w8 16 t 0 js ∙ sym (length-map js (λ j. slice_index t j))) (λ i h.
    let lt : i < length js = omega (arith, length-swz_l w8 16 t 0 js) in
    let below : get_or js i 0 < 16 = Each1-get_or (λ j. j < 16) js i 0 lt small in
    get_or-swz_l_below w8 16 t 0 js i lt below
    ∙ ap (λ k. get_or t k 0) (omega arith)
    ∙ sym (get_or-map (λ j. slice_index t j) js i 0 0 lt))

-- ---- the high four bits, and the low

-- the byte a without its low b bits
abbrev pub down : ℕ → ℕ → ℕ
down a b = a / 2 ^ b

-- the digits of the high four bits
abbrev pub high : ℕ → ℕ
high b = slice_index lower_digits (b / 16)

-- the digits of the low four bits
abbrev pub low : ℕ → ℕ
low b = slice_index lower_digits (b % 16)

-- the high four bits are below 16
high_small : (v : List ℕ) → IsBlock v → Each1 (λ j. j < 16) (zip2 down v (replicate 16 4))
high_small v fits =
    let small = Each1-weaker (λ a. a < 256) (λ a. a / 16 < 16) (λ a h. omega arith) v (below_from_Fits w8 v fits.1) in
    Each1-zip2 down (λ j. j < 16) v (replicate 16 4) (Each2-splat (λ a b. down a b < 16) v 16 4 small)

-- so are the low
low_small : (v : List ℕ) → Each1 (λ j. j < 16) (zip2 bit_and v (replicate 16 15))
low_small v =
    let small = Each1-all (λ a. bit_and a 15 < 16) (λ a. omega (arith, and_le_r a 15)) v in
    Each1-zip2 bit_and (λ j. j < 16) v (replicate 16 15) (Each2-splat (λ a b. bit_and a b < 16) v 16 15 small)

-- the high digits are read at places of the table
pub high_ok : (v : List ℕ) → IsBlock v → SwzOk w8 16 16 0 (zip2 down v (replicate 16 4))
high_ok v fits = places_ok _ (length-zip2 down v (replicate 16 4) fits.0 ∙ fits.0) (high_small v fits)

-- so are the low
pub low_ok : (v : List ℕ) → IsBlock v → SwzOk w8 16 16 0 (zip2 bit_and v (replicate 16 15))
low_ok v fits = places_ok _ (length-zip2 bit_and v (replicate 16 15) fits.0 ∙ fits.0) (low_small v)

-- the high digits
pub high_read : (v : List ℕ) → IsBlock v → swz_l w8 16 lower_digits 0 (zip2 down v (replicate 16 4)) ≡ map high v
high_read v fits =
    read_at lower_digits _ (length-zip2 down v (replicate 16 4) fits.0 ∙ fits.0) (high_small v fits)
    ∙ ap (map (λ j. slice_index lower_digits j)) (zip2_splat down v 16 4 fits.0)
    ∙ map-map (λ j. slice_index lower_digits j) (λ x. down x 4) v

-- the low four bits as a rest
low_bits : (v : List ℕ) → map (λ x. slice_index lower_digits (bit_and x 15)) v ≡ map low v
low_bits [] = refl
low_bits (x ∷ v) = ap₂ (λ (y : ℕ) (w : List ℕ). y ∷ w) (ap (λ (k : ℕ). slice_index lower_digits k) (and_mask x 4)) (low_bits v)

-- the low digits
pub low_read : (v : List ℕ) → IsBlock v → swz_l w8 16 lower_digits 0 (zip2 bit_and v (replicate 16 15)) ≡ map low v
low_read v fits =
    read_at lower_digits _ (length-zip2 bit_and v (replicate 16 15) fits.0 ∙ fits.0) (low_small v)
    ∙ ap (map (λ j. slice_index lower_digits j)) (zip2_splat bit_and v 16 15 fits.0)
    ∙ map-map (λ j. slice_index lower_digits j) (λ x. bit_and x 15) v
    ∙ low_bits v

-- ---- both in turn

-- the first of each half, the second of each half, and so on: the first eight of each
abbrev pub in_turn_front : List ℕ → List ℕ
in_turn_front l = pick_l 0 l (0 ∷ 16 ∷ 1 ∷ 17 ∷ 2 ∷ 18 ∷ 3 ∷ 19 ∷ 4 ∷ 20 ∷ 5 ∷ 21 ∷ 6 ∷ 22 ∷ 7 ∷ 23 ∷ [])

-- the last eight of each
abbrev pub in_turn_back : List ℕ → List ℕ
in_turn_back l = pick_l 0 l (8 ∷ 24 ∷ 9 ∷ 25 ∷ 10 ∷ 26 ∷ 11 ∷ 27 ∷ 12 ∷ 28 ∷ 13 ∷ 29 ∷ 14 ∷ 30 ∷ 15 ∷ 31 ∷ [])

-- high and low digits in turn are hex
woven : (v : List ℕ) → length v ≡ 16 → in_turn_front (map high v ++ map low v) ++ in_turn_back (map high v ++ map low v) ≡ encode_lower v
unfolding encode_with
woven v long =
    subst (λ (d : List ℕ). in_turn_front (map high d ++ map low d) ++ in_turn_back (map high d ++ map low d) ≡ encode_lower d)
    (pick_l_whole 0 v 16 long) refl

-- the first sixteen digits
pub woven_front : (v : List ℕ) → length v ≡ 16 → in_turn_front (map high v ++ map low v) ≡ take 16 (encode_lower v)
woven_front v long = ap (take 16) (woven v long)

-- and the others
pub woven_back : (v : List ℕ) → length v ≡ 16 → in_turn_back (map high v ++ map low v) ≡ drop 16 (encode_lower v)
woven_back v long = ap (drop 16) (woven v long)

-- sixteen bytes of a slice of sixteen
pub whole : (bs : List ℕ) → length bs ≡ 16
    → take 16 (encode_lower (chunk 0 16 bs)) ++ drop 16 (encode_lower (chunk 0 16 bs)) ≡ encode_lower bs
whole bs long = take-append-drop 16 (encode_lower (chunk 0 16 bs)) ∙ ap encode_lower (take_all 16 bs (omega arith))

-- the digits of four bytes, before those of twelve zeros
abbrev pub four : ℕ → ℕ → ℕ → ℕ → List ℕ
four a b c d = take 16 (encode_lower (a ∷ b ∷ c ∷ d ∷ replicate 12 0))

-- the first eight are those of the bytes
pub first_eight : (a b c d : ℕ) → take 8 (four a b c d) ≡ encode_lower (a ∷ b ∷ c ∷ d ∷ [])
unfolding encode_with
first_eight a b c d = refl

-- a space, and the first eight of sixteen digits
abbrev with_front : List ℕ → List ℕ
with_front v = pick_l 0 (v ++ replicate 16 32) (16 ∷ 0 ∷ 1 ∷ 2 ∷ 3 ∷ 4 ∷ 5 ∷ 6 ∷ 7 ∷ 8 ∷ 9 ∷ 10 ∷ 11 ∷ 12 ∷ 13 ∷ 14 ∷ [])

pub front_spaced : (v : List ℕ) → length v ≡ 16 → take 9 (with_front v) ≡ 32 ∷ take 8 v
front_spaced v long = subst (λ (d : List ℕ). take 9 (with_front d) ≡ 32 ∷ take 8 d) (pick_l_whole 0 v 16 long) refl

-- a space, and the last eight
abbrev with_back : List ℕ → List ℕ
with_back v = pick_l 0 (v ++ replicate 16 32) (16 ∷ 8 ∷ 9 ∷ 10 ∷ 11 ∷ 12 ∷ 13 ∷ 14 ∷ 15 ∷ 16 ∷ 16 ∷ 16 ∷ 16 ∷ 16 ∷ 16 ∷ 16 ∷ [])

pub back_spaced : (v : List ℕ) → length v ≡ 16 → take 9 (with_back v) ≡ 32 ∷ drop 8 v
back_spaced v long = subst (λ (d : List ℕ). take 9 (with_back d) ≡ 32 ∷ drop 8 d) (pick_l_whole 0 v 16 long) refl
