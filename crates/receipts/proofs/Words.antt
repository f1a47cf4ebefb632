-- Words in hex, four at a time.
use Rattle.std.proofs.Common.{◌≡◌, ℕ, ◌+◌, ◌*◌, ◌/◌, ◌%◌, ◌^◌, ◌<◌, ◌≤◌, List, [], ◌∷◌, ◌++◌, length, take, drop, map, get_or, slice_set, refl, sym, ap, ◌∙◌, arith, append_assoc, w32, Fits}
use Rattle.std.proofs.Math.Nat.{div-one}
use Rattle.std.proofs.Math.Seq.{take-add, take-append-add}
use Rattle.std.proofs.lemmas.Grind.{flat_map-append}
use Rattle.std.proofs.lemmas.List.{length-take, take-append-le, take_all, take_more_set}
use Rattle.std.proofs.lemmas.Simd.{get_or_narrower, Each1-from_get_or, put_chunk_is}
use Rattle.std.specs.Prelude.{codes}
use Rattle.std.specs.Int.{to_be_bytes}
use Rattle.std.specs.List.{flat_map}
use lib.Lanes.{Each1, chunk, digits_l, number_l, pick_l, put_chunk}
use Rattle.hex.specs.Hex.{encode_lower, encode_with}
use Rattle.receipts.specs.Text.{more_fields, regs_line, word_text}

-- the fields of words, each after a space
abbrev pub fields : List ℕ → List ℕ
fields words = flat_map (λ word. 32 ∷ word_text word) words

-- ---- the bytes of four words

-- all bytes of words, the lowest first
abbrev low_first : List ℕ → List ℕ
low_first words = digits_l 256 16 (number_l 4294967296 words)

-- those of one of four words, the highest first
one_turned : (bytes : List ℕ) (j word : ℕ) → ((i : ℕ) → i < 4 → get_or bytes (4 * j + i) 0 ≡ word / 256 ^ i % 256)
    → get_or bytes (4 * j + 3) 0 ∷ get_or bytes (4 * j + 2) 0 ∷ get_or bytes (4 * j + 1) 0 ∷ get_or bytes (4 * j + 0) 0 ∷ [] ≡ to_be_bytes w32 word
one_turned bytes j word at = rw (at 3 (omega arith), at 2 (omega arith), at 1 (omega arith), at 0 (omega arith), div-one word) refl

one_of_four : (words : List ℕ) (j : ℕ) → Each1 (λ word. word < 4294967296) words → j < 4
    → get_or (low_first words) (4 * j + 3) 0 ∷ get_or (low_first words) (4 * j + 2) 0 ∷ get_or (low_first words) (4 * j + 1) 0 ∷ get_or (low_first words) (4 * j + 0) 0 ∷ []
    ≡ to_be_bytes w32 (get_or words j 0)
one_of_four words j small four =
    one_turned (low_first words) j (get_or words j 0) (λ i lt. get_or_narrower 4294967296 4 256 16 words j i refl small lt (omega arith))

-- the places of bytes of four words, the highest byte of each first
abbrev turned : List ℕ
turned = 3 ∷ 2 ∷ 1 ∷ 0 ∷ 7 ∷ 6 ∷ 5 ∷ 4 ∷ 11 ∷ 10 ∷ 9 ∷ 8 ∷ 15 ∷ 14 ∷ 13 ∷ 12 ∷ []

four_turned : (words : List ℕ) → length words ≡ 4 → Each1 (λ word. word < 4294967296) words → pick_l 0 (low_first words) turned ≡ flat_map (to_be_bytes w32) words
four_turned [] long small = absurd (omega arith)
four_turned (a ∷ []) long small = absurd (omega arith)
four_turned (a ∷ b ∷ []) long small = absurd (omega arith)
four_turned (a ∷ b ∷ c ∷ []) long small = absurd (omega arith)
four_turned (a ∷ b ∷ c ∷ d ∷ []) long small =
    let words : List ℕ = a ∷ b ∷ c ∷ d ∷ [] in
    let one = λ (j : ℕ) (lt : j < 4). one_of_four words j small lt in
    λ i. one 0 (omega arith) i ++ (one 1 (omega arith) i ++ (one 2 (omega arith) i ++ (one 3 (omega arith) i ++ [])))
four_turned (a ∷ b ∷ c ∷ d ∷ e ∷ more) long small = absurd (omega arith)

pub words_turned : (words : List ℕ) → length words ≡ 4 → ((k : ℕ) → Fits w32 (get_or words k 0)) → pick_l 0 (low_first (chunk 0 4 words)) turned ≡ flat_map (to_be_bytes w32) words
words_turned words long fits =
    let small = Each1-from_get_or (λ word. word < 4294967296) words 0 (λ i lt. (fits i).fits) in
    rw (take_all 4 words (omega arith)) (four_turned words long small)

-- ---- the fields of four words

-- their digits are cut into fields
abbrev digits : List ℕ → List ℕ
digits words = encode_lower (flat_map (to_be_bytes w32) words)

four_fields : (words : List ℕ) → length words ≡ 4
    → (32 ∷ take 8 (take 16 (digits words))) ++ ((32 ∷ drop 8 (take 16 (digits words))) ++ ((32 ∷ take 8 (drop 16 (digits words))) ++ (32 ∷ drop 8 (drop 16 (digits words))))) ≡ fields words
unfolding encode_with
four_fields [] long = absurd (omega arith)
four_fields (a ∷ []) long = absurd (omega arith)
four_fields (a ∷ b ∷ []) long = absurd (omega arith)
four_fields (a ∷ b ∷ c ∷ []) long = absurd (omega arith)
four_fields (a ∷ b ∷ c ∷ d ∷ []) long = refl
four_fields (a ∷ b ∷ c ∷ d ∷ e ∷ more) long = absurd (omega arith)

pub four_cut : (words bytes front back : List ℕ) → length words ≡ 4 → bytes ≡ flat_map (to_be_bytes w32) words → front ≡ take 16 (encode_lower bytes) → back ≡ drop 16 (encode_lower bytes)
    → (32 ∷ take 8 front) ++ ((32 ∷ drop 8 front) ++ ((32 ∷ take 8 back) ++ (32 ∷ drop 8 back))) ≡ fields words
four_cut words bytes front back long e f b = rw (f, b, e) (four_fields words long)

-- ---- fields in a line

-- a field is put
pub field_put : (line field : List ℕ) (at : ℕ) → at + 16 ≤ length line → length field ≡ 16 → take (at + 9) (put_chunk at line field) ≡ take at line ++ take 9 field
field_put line field at room long =
    let front : length (take at line) ≡ at = omega (arith, length-take at line) in
    let rest : List ℕ = drop (length field) (drop at line) in
    ap (take (at + 9)) (put_chunk_is at line field (omega arith))
    ∙ ap (λ n. take (n + 9) (take at line ++ (field ++ rest))) (sym front)
    ∙ take-append-add (take at line) (field ++ rest) 9
    ∙ ap (λ t. take at line ++ t) (take-append-le 9 field rest (omega arith))

regrouped : (a b c d e : List ℕ) → (((a ++ b) ++ c) ++ d) ++ e ≡ a ++ (b ++ (c ++ (d ++ e)))
regrouped a b c d e = simp append_assoc

-- four fields are put, one after another
pub four_put : (at : ℕ) (line one two three four a b c d : List ℕ) → take (at + 9) one ≡ take at line ++ a → take (at + 9 + 9) two ≡ take (at + 9) one ++ b
    → take (at + 18 + 9) three ≡ take (at + 18) two ++ c → take (at + 27 + 9) four ≡ take (at + 27) three ++ d
    → take (at + 36) four ≡ take at line ++ (a ++ (b ++ (c ++ d)))
four_put at line one two three four a b c d first second third fourth =
    let second_at : at + 9 + 9 ≡ at + 18 = omega arith in
    let third_at : at + 18 + 9 ≡ at + 27 = omega arith in
    let fourth_at : at + 27 + 9 ≡ at + 36 = omega arith in
    let both = rw (second_at, first) at second in
    let most = rw (third_at, both) at third in
    rw (fourth_at, most) at fourth ∙ regrouped (take at line) a b c d

-- four words more are in the line
pub four_more : (line next start words : List ℕ) (i size : ℕ) → size ≡ 4 → take (4 + 36 * i) line ≡ take 4 start ++ fields (take (4 * i) words)
    → take (4 + 36 * i + 36) next ≡ take (4 + 36 * i) line ++ fields (take size (drop (4 * i) words))
    → take (4 + 36 * (i + 1)) next ≡ take 4 start ++ fields (take (4 * (i + 1)) words)
four_more line next start words i size four before more =
    let end : 4 + 36 * (i + 1) ≡ 4 + 36 * i + 36 = omega arith in
    let count : 4 * (i + 1) ≡ 4 * i + size = omega arith in
    let piece : List ℕ = take size (drop (4 * i) words) in
    let split : fields (take (4 * (i + 1)) words) ≡ fields (take (4 * i) words) ++ fields piece =
    ap (λ n. fields (take n words)) count ∙ ap fields (take-add (4 * i) size words) ∙ flat_map-append (λ word. 32 ∷ word_text word) (take (4 * i) words) piece in
    ap (λ n. take n next) end ∙ more ∙ ap (λ t. t ++ fields piece) before ∙ append_assoc (take 4 start) (fields (take (4 * i) words)) (fields piece)
    ∙ ap (λ t. take 4 start ++ t) (sym split)

-- all are
pub all_put : (line start words : List ℕ) (i : ℕ) → i ≡ 8 → length words ≡ 32 → take (4 + 36 * i) line ≡ take 4 start ++ fields (take (4 * i) words)
    → take 292 line ≡ take 4 start ++ fields words
all_put line start words i eight long h = rw eight at h ∙ ap (λ w. take 4 start ++ fields w) (take_all 32 words (omega arith))

fields_end : (words : List ℕ) → fields words ++ (10 ∷ []) ≡ more_fields (map word_text words)
fields_end [] = refl
fields_end (word ∷ words) =
    ap (λ t. 32 ∷ t) (append_assoc (word_text word) (fields words) (10 ∷ []) ∙ ap (λ t. word_text word ++ t) (fields_end words))

-- the line of the registers, once it is ended
pub ended : (line words name rest : List ℕ) → 292 < length line → name ≡ codes "regs" → take 292 line ≡ take 4 (name ++ rest) ++ fields words
    → take 293 (slice_set line 292 10) ≡ regs_line words
ended line words name rest room same h =
    let before : take 292 line ≡ codes "regs" ++ fields words = rw same at h in
    take_more_set line 292 10 room ∙ ap (λ t. t ++ (10 ∷ [])) before ∙ append_assoc (codes "regs") (fields words) (10 ∷ [])
    ∙ ap (λ t. codes "regs" ++ t) (fields_end words)
