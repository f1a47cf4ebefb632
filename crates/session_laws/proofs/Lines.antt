-- A `store` line, cut and read.
use Rattle.std.proofs.Common.{◌≡◌, ◌≤◌, ◌<◌, ◌/◌, ◌%◌, ◌*◌, ℕ, suc, true, false, ◌&&◌, List, [], ◌∷◌, ◌++◌, length, slice_index, Ok, Err, All, nat_lt, append_assoc, refl, ap, ◌∙◌, arith}
use Rattle.std.specs.Prelude.{◌==◌, codes, if◌then◌else◌}
use Rattle.std.specs.List.{list_all}
use Rattle.std.specs.Str.{bytes_eq}
use Rattle.std.proofs.lemmas.Bool.Decides.{nat_tests}
use Rattle.std.proofs.lemmas.List.Elements.{All-cons, All-head, All-tail, All-append}
use Rattle.std.proofs.lemmas.List.Splits.{slice_split_at, slice_split_none}
use Rattle.std.proofs.lemmas.List.Sums.{AllPass-from_list_all}
use Rattle.hex.specs.Hex.{encode_lower, encode_with, lower_digits}
use Rattle.hex.proofs.HexLemmas.{decode_of-encode_lower, length-encode_with}
use Rattle.rv_ledger.specs.declared.rules.Rules.{Rules}
use Rattle.receipts.specs.Ranges.{AreBytes}
use Rattle.receipts.specs.Text.{bytes_text, store_line}
use Rattle.receipts.proofs.Cuts.{plain, both}
use Rattle.receipts.proofs.Fields.{hex_plain, bytes_plain, are_bytes}
use Rattle.block_file.specs.declared.fault.Cause.TheVariants.{BadHex}
use Rattle.block_file.specs.Line.{cut, is_lower_digit, hex_of, field_bytes, field_key}
use Rattle.session_laws.specs.Chained.{IsEntry}
use Rattle.session_laws.proofs.Sorted.{Entry}

-- ---- places to cut at

abbrev Lacks : ℕ → List ℕ → Type 0
Lacks c xs = All (λ b. (b == c) ≡ false) xs

apart : (c x : ℕ) → c ≤ 32 → nat_lt 32 x ≡ true → (x == c) ≡ false
apart c x low h = grind (arith, nat_tests)

lacks : (c : ℕ) → c ≤ 32 → (xs : List ℕ) → plain xs ≡ true → Lacks c xs
lacks c low [] h = λ k d b. absurd (omega arith)
lacks c low (x ∷ xs) h =
    let parts = both (nat_lt 32 x) (plain xs) h in
    All-cons (λ b. (b == c) ≡ false) x xs (apart c x low parts.0) (lacks c low xs parts.1)

-- a `store` line without its end
abbrev pub content : Entry → List ℕ
content e = codes "store" ++ 32 ∷ (encode_lower e.0 ++ 32 ∷ bytes_text e.1)

ended : (e : Entry) (rest : List ℕ) → store_line e ++ rest ≡ content e ++ 10 ∷ rest
ended e rest = simp append_assoc

no_end : {rules : Rules} (e : Entry) → IsEntry rules e → Lacks 10 (content e)
no_end e h =
    All-append (λ b. (b == 10) ≡ false) (codes "store") (32 ∷ (encode_lower e.0 ++ 32 ∷ bytes_text e.1)) (lacks 10 (omega arith) (codes "store") refl)
    (All-cons (λ b. (b == 10) ≡ false) 32 (encode_lower e.0 ++ 32 ∷ bytes_text e.1) refl
    (All-append (λ b. (b == 10) ≡ false) (encode_lower e.0) (32 ∷ bytes_text e.1) (lacks 10 (omega arith) (encode_lower e.0) (hex_plain e.0 h.key))
    (All-cons (λ b. (b == 10) ≡ false) 32 (bytes_text e.1) refl (lacks 10 (omega arith) (bytes_text e.1) (bytes_plain e.1 h.value)))))

pub line_cut : {rules : Rules} (e : Entry) (rest : List ℕ) → IsEntry rules e → cut 10 (store_line e ++ rest) ≡ content e ∷ cut 10 rest
line_cut e rest h = ap (cut 10) (ended e rest) ∙ slice_split_at (λ b. b == 10) (content e) 10 rest (no_end e h) refl

pub fields_cut : {rules : Rules} (e : Entry) → IsEntry rules e → cut 32 (content e) ≡ codes "store" ∷ encode_lower e.0 ∷ bytes_text e.1 ∷ []
fields_cut e h =
    slice_split_at (λ b. b == 32) (codes "store") 32 (encode_lower e.0 ++ 32 ∷ bytes_text e.1) (lacks 32 (omega arith) (codes "store") refl) refl
    ∙ ap (λ (t : List (List ℕ)). codes "store" ∷ t)
    (slice_split_at (λ b. b == 32) (encode_lower e.0) 32 (bytes_text e.1) (lacks 32 (omega arith) (encode_lower e.0) (hex_plain e.0 h.key)) refl
    ∙ ap (λ (t : List (List ℕ)). encode_lower e.0 ∷ t) (slice_split_none (λ b. b == 32) (bytes_text e.1) (lacks 32 (omega arith) (bytes_text e.1) (bytes_plain e.1 h.value))))

-- ---- fields

digit : (d : ℕ) → d < 16 → is_lower_digit (slice_index lower_digits d) ≡ true
digit d h = AllPass-from_list_all is_lower_digit lower_digits refl d 0 h

digits : (xs : List ℕ) → AreBytes xs → list_all is_lower_digit (encode_lower xs) ≡ true
unfolding encode_with
digits [] h = refl
digits (x ∷ xs) h =
    let byte : x < 256 = All-head (λ n. n < 256) x xs h in
    rw (digit (x / 16) (omega arith), digit (x % 16) (omega arith)) (digits xs (All-tail (λ n. n < 256) x xs h))

hex_read : (xs : List ℕ) → AreBytes xs → hex_of (encode_lower xs) ≡ Ok xs
hex_read xs h = rw (digits xs h, decode_of-encode_lower xs (are_bytes xs h)) refl

sized : {rules : Rules} (e : Entry) → IsEntry rules e → length (encode_lower e.0) ≡ 64
sized e h = length-encode_with lower_digits e.0 ∙ ap (λ n. 2 * n) h.key_length

pub key_read : {rules : Rules} (e : Entry) → IsEntry rules e → field_key (encode_lower e.0) ≡ Ok e.0
key_read e h = ap (λ n. if n == 64 then hex_of (encode_lower e.0) else Err BadHex) (sized e h) ∙ hex_read e.0 h.key

no_dash : (a b : ℕ) (rest : List ℕ) → bytes_eq (a ∷ b ∷ rest) (codes "-") ≡ false
no_dash a b rest = elim (a == 45) as (λ t. (t && false) ≡ false) [ true ↦ refl | false ↦ refl ]

some_digits : (x : ℕ) (xs : List ℕ) → bytes_eq (encode_lower (x ∷ xs)) (codes "-") ≡ false
unfolding encode_with
some_digits x xs = no_dash (slice_index lower_digits (x / 16)) (slice_index lower_digits (x % 16)) (encode_lower xs)

pub value_read : (xs : List ℕ) → AreBytes xs → field_bytes (bytes_text xs) ≡ Ok xs
value_read [] h = refl
value_read (x ∷ xs) h = rw (some_digits x xs) (hex_read (x ∷ xs) h)

-- no field is empty
pub key_some : {rules : Rules} (e : Entry) → IsEntry rules e → (length (encode_lower e.0) == 0) ≡ false
key_some e h = ap (λ n. n == 0) (sized e h)

pub value_some : (xs : List ℕ) → (length (bytes_text xs) == 0) ≡ false
value_some [] = refl
value_some (x ∷ xs) = above_none (length (encode_lower (x ∷ xs))) (length xs) (length-encode_with lower_digits (x ∷ xs))
  where
    above_none : (n k : ℕ) → n ≡ 2 * suc k → (n == 0) ≡ false
    above_none n k h = grind (arith, nat_tests)
