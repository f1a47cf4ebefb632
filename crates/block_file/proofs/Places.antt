-- The first place of a byte.
use Rattle.std.proofs.Common.{◌≡◌, ◌<◌, ◌≤◌, ◌==◌, ◌+◌, ℕ, true, false, not, List, length, get_or, Some, None, refl, arith, inl, inr}
use Rattle.std.specs.List.{position, prefix_len}
use Rattle.std.specs.Simd.Lanes.{chunk}
use Rattle.std.proofs.lemmas.Simd.{run_in_chunk_fails, run_in_chunk_stops}
use Rattle.std.proofs.lemmas.Bool.{cases_lt, lt-ltb, le-ltb}
use Rattle.std.proofs.lemmas.List.Sums.{position_or_len_is}

pub found_at : (byte place : ℕ) (text : List ℕ) → place < length text → ((k : ℕ) → k < place → (get_or text k 0 == byte) ≡ false)
    → (get_or text place 0 == byte) ≡ true → Some place ≡ position (λ b. b == byte) text
found_at byte place text lt before hit =
    let first = position_or_len_is (λ b. b == byte) text place 0 (omega arith) before (λ l. hit) in
    rw (first, lt-ltb place (length text) lt) refl

pub found_nowhere : (byte : ℕ) (text : List ℕ) → ((k : ℕ) → k < length text → (get_or text k 0 == byte) ≡ false) → None ≡ position (λ b. b == byte) text
found_nowhere byte text none =
    let first = position_or_len_is (λ b. b == byte) text (length text) 0 (omega arith) none (λ l. absurd (omega arith)) in
    rw (first, le-ltb (length text) (length text) (omega arith)) refl

-- the byte is at no place before `from`, nor at one of the next `free`
pub none_before : (byte from free : ℕ) (text : List ℕ) → from + 16 ≤ length text → free ≡ prefix_len (λ b. not (b == byte)) (chunk from 16 text)
    → ((k : ℕ) → k < from → (get_or text k 0 == byte) ≡ false) → (k : ℕ) → k < from + free → (get_or text k 0 == byte) ≡ false
none_before byte from free text room counted before k lt =
    elim (cases_lt k from) [
      | inl low ↦ before k low
      | inr high ↦ run_in_chunk_fails (λ b. b == byte) text from 16 free 0 room counted k high lt
    ]

pub found_in : (byte from free : ℕ) (text : List ℕ) → from + 16 ≤ length text → free ≡ prefix_len (λ b. not (b == byte)) (chunk from 16 text)
    → ((k : ℕ) → k < from → (get_or text k 0 == byte) ≡ false) → free < 16 → Some (from + free) ≡ position (λ b. b == byte) text
found_in byte from free text room counted before lt =
    found_at byte (from + free) text (omega arith) (none_before byte from free text room counted before)
    (run_in_chunk_stops (λ b. b == byte) text from 16 free 0 room counted lt)

pub none_in : (byte from free : ℕ) (text : List ℕ) → from + 16 ≤ length text → free ≡ prefix_len (λ b. not (b == byte)) (chunk from 16 text)
    → ((k : ℕ) → k < from → (get_or text k 0 == byte) ≡ false) → 16 ≤ free → (k : ℕ) → k < from + 16 → (get_or text k 0 == byte) ≡ false
none_in byte from free text room counted before le k lt = none_before byte from free text room counted before k (omega arith)
