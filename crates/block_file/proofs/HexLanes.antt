-- Hex digits, sixteen at a time.
use Rattle.std.proofs.Common.{◌≡◌, ℕ, zero, suc, ◌+◌, ◌-◌, ◌%◌, ◌*◌, ◌<◌, ◌≤◌, ◌==◌, ◌⊎◌, Bool, true, false, not, ◌&&◌, List, [], ◌∷◌, ◌++◌, ◌^◌, map, Ok, Err, ◌∙◌, length, replicate, slice_index, Option, Some, None, nat_le, nat_lt, refl, ap, ap₂, take, drop, length-drop, subst, arith, inl, inr, is_some, sym, Fits, w8, if◌then◌else◌}
use Rattle.std.proofs.lemmas.Bool.{and_parts, cases_eq, eqb-true, le-leb, lt-leb, ne_eqb}
use Rattle.std.proofs.lemmas.Bool.Decides.{nat_tests}
use Rattle.std.specs.List.{list_all, range_with_len}
use Rattle.std.proofs.lemmas.Simd.{below_from_Fits, mask_l-mod, pick_l_whole, put_chunk_whole}
use Rattle.std.proofs.lemmas.List.{length-map, map-append, take-append-drop, take_all}
use lib.Lanes.{zip2, sel_l, top, chunk, mask_l, pick_l, put_chunk, Each1}
use mathlib.Core.Bool.{cond}
use Rattle.hex.specs.Hex.{hex_digit_value}
use Rattle.block_file.specs.Line.{hex_of, is_lower_digit}
use Rattle.block_file.specs.declared.fault.Cause.TheVariants.{BadHex}
use Rattle.block_file.proofs.HexText.{byte_of, bytes_of, hex_even, is_hex, length-bytes, lower_value}

-- ---- the number of one lane

-- sums and differences of bytes, and the test of a comparison's lane
abbrev plus : ℕ → ℕ → ℕ
plus a b = (a + b) % 256

abbrev minus : ℕ → ℕ → ℕ
minus a b = (a + (256 - b)) % 256

abbrev opposite : ℕ → ℕ
opposite a = 255 - a

abbrev is_less : ℕ → ℕ → ℕ
is_less a b = cond (nat_lt a b) 255 0

-- the lanes of `numbers`
abbrev pub numbers_of : ℕ → List ℕ → List ℕ
numbers_of n text =
    let six : List ℕ = replicate n 6 in
    let ten : List ℕ = replicate n 10 in
    let above : List ℕ = zip2 plus text (replicate n 198) in
    let digits : List ℕ = zip2 minus (zip2 minus (sel_l (map (top 7) (zip2 is_less above six)) six above) six) (replicate n 240) in
    let from_a : List ℕ = zip2 minus text (replicate n 97) in
    let room : List ℕ = map opposite from_a in
    let letters : List ℕ = zip2 plus from_a (sel_l (map (top 7) (zip2 is_less ten room)) ten room) in
    sel_l (map (top 7) (zip2 is_less digits letters)) digits letters

-- a lane's number, if it is one of a digit
abbrev pub read_lane : ℕ → Option ℕ
read_lane n = if nat_le n 15 then Some n else None

are_same : Option ℕ → Option ℕ → Bool
are_same (Some m) (Some n) = m == n
are_same None None = true
are_same _ _ = false

same_from_test : (a b : Option ℕ) → are_same a b ≡ true → a ≡ b
unfolding are_same
same_from_test (Some m) (Some n) h = ap Some (eqb-true m n h)
same_from_test None None h = refl
same_from_test (Some m) None h = cc
same_from_test None (Some n) h = cc

-- the lane of one byte
abbrev lane_of : ℕ → ℕ
lane_of byte = slice_index (numbers_of 1 (byte ∷ [])) 0

-- each byte below n is read as the digit that it is
unfoldable lanes_agree : ℕ → Bool
lanes_agree zero = true
lanes_agree (suc byte) = are_same (read_lane (lane_of byte)) (lower_value byte) && lanes_agree byte

agree_at : (n byte : ℕ) → lanes_agree n ≡ true → byte < n → read_lane (lane_of byte) ≡ lower_value byte
unfolding lanes_agree
agree_at zero byte h lt = absurd (omega arith)
agree_at (suc n) byte h lt =
    let parts = and_parts (are_same (read_lane (lane_of n)) (lower_value n)) (lanes_agree n) h in
    elim (cases_eq byte n) [
      | inl same ↦ rw same (same_from_test _ _ parts.0)
      | inr other ↦ agree_at n byte parts.1 (omega arith)
    ]

one_read : (byte : ℕ) → byte < 256 → read_lane (lane_of byte) ≡ lower_value byte
unfolding lanes_agree are_same
one_read byte lt = agree_at 256 byte refl lt

each_read : (text : List ℕ) → Each1 (λ byte. byte < 256) text → map read_lane (numbers_of (length text) text) ≡ map lower_value text
each_read [] small = refl
each_read (byte ∷ text) small = ap₂ (λ (o : Option ℕ) (os : List (Option ℕ)). o ∷ os) (one_read byte small.0) (each_read text small.1)

pub sixteen_read : (text : List ℕ) → (length text ≡ 16) × Each1 (Fits w8) text → map read_lane (numbers_of 16 text) ≡ map lower_value text
sixteen_read text fits = subst (λ n. map read_lane (numbers_of n text) ≡ map lower_value text) fits.0 (each_read text (below_from_Fits w8 text fits.1))

-- ---- the bytes of sixteen pairs of lanes

-- whether the greater of two lanes is above 15
abbrev is_fault : ℕ → ℕ → Bool
is_fault high low = top 7 (cond (nat_lt 15 (cond (top 7 (is_less high low)) low high)) 255 0)

abbrev pub faults_of : List ℕ → List Bool
faults_of [] = []
faults_of (lane ∷ []) = []
faults_of (high ∷ low ∷ lanes) = is_fault high low ∷ faults_of lanes

abbrev pub joined : List ℕ → List ℕ
joined [] = []
joined (lane ∷ []) = []
joined (high ∷ low ∷ lanes) = plus (high * 16 % 256) low ∷ joined lanes

small_pair : (high low : ℕ) → is_fault high low ≡ false → (high ≤ 15) × (low ≤ 15)
small_pair high low h = grind (arith, nat_tests)

large_pair : (high low : ℕ) → is_fault high low ≡ true → (15 < high) ⊎ (15 < low)
large_pair high low h = grind (arith, nat_tests)

is_read : (lane byte : ℕ) → read_lane lane ≡ lower_value byte → lane ≤ 15 → (is_lower_digit byte ≡ true) × (hex_digit_value byte ≡ Some lane)
is_read lane byte h small = by (is_lower_digit byte) (hex_digit_value byte) (rw (le-leb lane 15 small) at h)
  where
    by : (b : Bool) (o : Option ℕ) → Some lane ≡ (if b then o else None) → (b ≡ true) × (o ≡ Some lane)
    by true o h = (refl, sym h)
    by false o h = cc

is_refused : (lane byte : ℕ) → read_lane lane ≡ lower_value byte → 15 < lane → is_lower_digit byte ≡ false
is_refused lane byte h large = by (is_lower_digit byte) (hex_digit_value byte) (λ e. is_hex byte e) (rw (lt-leb lane 15 large) at h) refl
  where
    by : (b : Bool) (o : Option ℕ) → (is_lower_digit byte ≡ true → is_some o ≡ true) → None ≡ (if b then o else None) → is_lower_digit byte ≡ b → is_lower_digit byte ≡ false
    by true (Some v) digit h e = cc
    by true None digit h e = cc (digit e)
    by false o digit h e = e

pair_joined : (high low a b : ℕ) → read_lane high ≡ lower_value a → read_lane low ≡ lower_value b → is_fault high low ≡ false
    → (is_lower_digit a && is_lower_digit b ≡ true) × (plus (high * 16 % 256) low ≡ byte_of a b)
pair_joined high low a b first second h =
    let small = small_pair high low h in
    let one = is_read high a first small.0 in
    let two = is_read low b second small.1 in
    (rw (one.0, two.0) refl, rw (one.1, two.1) (omega (arith, small.0, small.1)))

pair_refused : (high low a b : ℕ) → read_lane high ≡ lower_value a → read_lane low ≡ lower_value b → is_fault high low ≡ true
    → (is_lower_digit a ≡ false) ⊎ (is_lower_digit b ≡ false)
pair_refused high low a b first second h =
    elim (large_pair high low h) [
      | inl large ↦ inl (is_refused high a first large)
      | inr large ↦ inr (is_refused low b second large)
    ]

both_hold : (x y z : Bool) → (x && y) ≡ true → (x && (y && z)) ≡ z
both_hold true true z h = refl
both_hold true false z h = cc
both_hold false y z h = cc

one_fails : (x y z : Bool) → (x ≡ false) ⊎ (y ≡ false) → (x && (y && z)) ≡ false
one_fails x y z (inl e) = rw e refl
one_fails true y z (inr e) = rw e refl
one_fails false y z (inr e) = refl

twice_none : (n : ℕ) → (0 + 2 * n == 0) ≡ (n == 0)
twice_none n = grind (arith, nat_tests)

pairs_joined : (lanes text : List ℕ) → length text % 2 ≡ 0 → map read_lane lanes ≡ map lower_value text
    → (list_all is_lower_digit text ≡ (mask_l (faults_of lanes) == 0)) × (mask_l (faults_of lanes) ≡ 0 → joined lanes ≡ bytes_of text)
unfolding bytes_of
pairs_joined [] [] even same = (refl, λ none. refl)
pairs_joined [] (byte ∷ text) even same = cc
pairs_joined (lane ∷ []) [] even same = cc
pairs_joined (lane ∷ []) (byte ∷ []) even same = absurd (omega arith)
pairs_joined (lane ∷ []) (a ∷ b ∷ text) even same = cc
pairs_joined (high ∷ low ∷ lanes) [] even same = cc
pairs_joined (high ∷ low ∷ lanes) (byte ∷ []) even same = absurd (omega arith)
pairs_joined (high ∷ low ∷ lanes) (a ∷ b ∷ text) even same =
    let first : read_lane high ≡ lower_value a = cc in
    let second : read_lane low ≡ lower_value b = cc in
    let rest : map read_lane lanes ≡ map lower_value text = cc in
    by first second (pairs_joined lanes text (omega arith) rest) (is_fault high low) refl
  where
    by : read_lane high ≡ lower_value a → read_lane low ≡ lower_value b
        → (list_all is_lower_digit text ≡ (mask_l (faults_of lanes) == 0)) × (mask_l (faults_of lanes) ≡ 0 → joined lanes ≡ bytes_of text)
        → (f : Bool) → is_fault high low ≡ f
        → ((is_lower_digit a && (is_lower_digit b && list_all is_lower_digit text)) ≡ (cond f 1 0 + 2 * mask_l (faults_of lanes) == 0))
        × (cond f 1 0 + 2 * mask_l (faults_of lanes) ≡ 0 → plus (high * 16 % 256) low ∷ joined lanes ≡ byte_of a b ∷ bytes_of text)
    by first second more true e = (
      one_fails _ _ _ (pair_refused high low a b first second e) ∙ sym (ne_eqb _ _ (λ (z : 1 + 2 * mask_l (faults_of lanes) ≡ 0). omega arith)),
      λ none. absurd (omega arith),
    )
    by first second more false e =
        let pair = pair_joined high low a b first second e in (
          both_hold _ _ _ pair.0 ∙ more.0 ∙ sym (twice_none (mask_l (faults_of lanes))),
          λ none. ap₂ (λ (v : ℕ) (vs : List ℕ). v ∷ vs) pair.1 (more.1 (omega arith)),
        )

length-faults : (lanes : List ℕ) → length (faults_of lanes) ≤ length lanes
length-faults [] = omega arith
length-faults (lane ∷ []) = omega arith
length-faults (high ∷ low ∷ lanes) = omega (arith, length-faults lanes)

-- what `decode_sixteen` gives
abbrev pub Decoded : List ℕ → List ℕ → List ℕ → Type 0
Decoded text out lanes =
    hex_of text ≡ (if not (not (mask_l (faults_of lanes) % 2 ^ 64 == 0)) then Ok (put_chunk 0 out (joined lanes)) else Err BadHex)

decoded : (text out lanes : List ℕ) → length text ≡ 32 → length lanes ≡ 32 → length out ≡ 16 → map read_lane lanes ≡ map lower_value text → Decoded text out lanes
decoded text out lanes long wide room same =
    let even : length text % 2 ≡ 0 = omega arith in
    let part = pairs_joined lanes text even same in
    let mask = mask_l-mod (faults_of lanes) 64 (omega (arith, length-faults lanes)) in
    rw (hex_even text even, mask, part.0) (by even part.1 (mask_l (faults_of lanes) == 0) refl)
  where
    by : length text % 2 ≡ 0 → (mask_l (faults_of lanes) ≡ 0 → joined lanes ≡ bytes_of text) → (b : Bool) → (mask_l (faults_of lanes) == 0) ≡ b
        → (if b then Ok (bytes_of text) else Err BadHex) ≡ (if not (not b) then Ok (put_chunk 0 out (joined lanes)) else Err BadHex)
    by even same true e =
        let bytes = same (eqb-true _ _ e) in
        ap Ok (sym (put_chunk_whole out (joined lanes) (omega (arith, ap length bytes, length-bytes text even)) ∙ bytes))
    by even same false e = refl

-- the same of lanes that are read one by one
pub decoded_lanes : (text out front back : List ℕ) → length text ≡ 32 → length out ≡ 16
    → map read_lane front ≡ map lower_value (chunk 0 16 text) → map read_lane back ≡ map lower_value (chunk 16 16 text)
    → Decoded text out (pick_l 0 (front ++ back) (range_with_len 0 32))
decoded_lanes text out front back long room first second =
    let whole : chunk 0 16 text ++ chunk 16 16 text ≡ text = ap (λ back. take 16 text ++ back) (take_all 16 (drop 16 text) (omega (arith, length-drop 16 text))) ∙ take-append-drop 16 text in
    let same : map read_lane (front ++ back) ≡ map lower_value text =
    map-append read_lane front back ∙ ap₂ (λ (a b : List (Option ℕ)). a ++ b) first second ∙ sym (map-append lower_value (chunk 0 16 text) (chunk 16 16 text)) ∙ ap (map lower_value) whole in
    let wide : length (front ++ back) ≡ 32 = sym (length-map (front ++ back) read_lane) ∙ ap length same ∙ length-map text lower_value ∙ long in
    subst (Decoded text out) (sym (pick_l_whole 0 (front ++ back) 32 wide)) (decoded text out (front ++ back) long wide room same)
