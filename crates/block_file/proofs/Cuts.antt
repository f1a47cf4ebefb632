-- A text cut at the first occurrence of a byte.
use Rattle.std.proofs.Common.{◌≡◌, ◌<◌, ◌≤◌, ◌==◌, ◌+◌, ◌-◌, ℕ, Bool, true, false, not, List, [], ◌∷◌, length, take, drop, Some, None, Err, nat_lt, refl, ap, ◌∙◌, arith, length-drop, if◌then◌else◌}
use Rattle.std.specs.List.{position_or_len, position, list_all}
use Rattle.std.proofs.lemmas.Bool.Decides.{nat_tests}
use Rattle.std.proofs.lemmas.List.{take_all}
use Rattle.std.proofs.lemmas.List.Sums.{prefix_len_passes}
use Rattle.std.proofs.lemmas.List.Splits.{slice_split_first, slice_split_none, length-slice_split}
use Rattle.block_file.specs.declared.fault.Cause.TheVariants.{BadLine}
use Rattle.block_file.specs.Line.{cut}
use Rattle.block_file.specs.Block.{Parsed, with_fields, with_line}

abbrev first_of : ℕ → List ℕ → ℕ
first_of byte text = position_or_len (λ b. b == byte) text

past : (n m : ℕ) → nat_lt n m ≡ false → m ≤ n
past n m h = grind (arith, nat_tests)

within : (n m : ℕ) → nat_lt n m ≡ true → n < m
within n m h = grind (arith, nat_tests)

-- the byte is at a place
pub cut_at : (byte place : ℕ) (text : List ℕ) → Some place ≡ position (λ b. b == byte) text
    → cut byte text ≡ take place text ∷ cut byte (take (length text - (place + 1)) (drop (place + 1) text))
cut_at byte place text h = by (nat_lt (first_of byte text) (length text)) refl h
  where
    by : (b : Bool) → nat_lt (first_of byte text) (length text) ≡ b → Some place ≡ (if b then Some (first_of byte text) else None)
        → cut byte text ≡ take place text ∷ cut byte (take (length text - (place + 1)) (drop (place + 1) text))
    by true e h =
        let same : place ≡ first_of byte text = cc in
        let whole = take_all (length text - (place + 1)) (drop (place + 1) text) (omega (arith, length-drop (place + 1) text)) in
        rw (whole, same) (slice_split_first (λ b. b == byte) text 0 (within _ _ e))
    by false e h = cc

not_true : (b : Bool) → not b ≡ true → b ≡ false
not_true true h = cc
not_true false h = refl

-- the byte is nowhere
pub cut_nowhere : (byte : ℕ) (text : List ℕ) → None ≡ position (λ b. b == byte) text → cut byte text ≡ text ∷ []
cut_nowhere byte text h = by (nat_lt (first_of byte text) (length text)) refl h
  where
    by : (b : Bool) → nat_lt (first_of byte text) (length text) ≡ b → None ≡ (if b then Some (first_of byte text) else None) → cut byte text ≡ text ∷ []
    by true e h = cc
    by false e h = slice_split_none (λ b. b == byte) text (λ k d lt. not_true _ (prefix_len_passes (λ b. not (b == byte)) text k d (omega (arith, past _ _ e))))

-- ---- lines of more than four fields

both_ways : {X : Type 0} (b : Bool) (x : X) → (if b then x else x) ≡ x
both_ways true x = refl
both_ways false x = refl

many : (s : Parsed) (kind first second third : List ℕ) (rest : List (List ℕ)) → 0 < length rest → with_fields s (kind ∷ first ∷ second ∷ third ∷ rest) ≡ Err BadLine
many s kind first second third [] some = absurd (omega arith)
many s kind first second third (fourth ∷ rest) some = both_ways (list_all (λ field. not (length field == 0)) (kind ∷ first ∷ second ∷ third ∷ fourth ∷ rest)) (Err BadLine)

pub too_many : (s : Parsed) (line kind behind_kind first behind_first second behind_second third behind_third : List ℕ)
    → cut 32 line ≡ kind ∷ cut 32 behind_kind → cut 32 behind_kind ≡ first ∷ cut 32 behind_first → cut 32 behind_first ≡ second ∷ cut 32 behind_second
    → cut 32 behind_second ≡ third ∷ cut 32 behind_third → with_line s line ≡ Err BadLine
too_many s line kind behind_kind first behind_first second behind_second third behind_third a b c d =
    let fields : cut 32 line ≡ kind ∷ first ∷ second ∷ third ∷ cut 32 behind_third = cc in
    let some : 0 < length (cut 32 behind_third) = omega (arith, length-slice_split (λ b. b == 32) behind_third) in
    ap (with_fields s) fields ∙ many s kind first second third (cut 32 behind_third) some
