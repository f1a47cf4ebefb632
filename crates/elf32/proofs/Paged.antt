-- What bytes written over memory make of one page of it, and memory put together from its pages.
use Rattle.std.proofs.Common.{◌≡◌, ℕ, suc, ◌+◌, ◌-◌, ◌*◌, ◌<◌, ◌≤◌, List, [], ◌∷◌, ◌++◌, length, get_or, take, drop, fold, min, max, All, refl, sym, ap, ◌∙◌, arith, length-append, length-drop}
use Rattle.std.specs.Prelude.{flat_map}
use native.Mathlib.Decide.{dec_lt}
use Rattle.std.proofs.lemmas.List.{get_or_append_left, get_or-append_right, get_or-take, get_or-drop, length-take-le, same_lists, drop-replicate, take-replicate, take-append-drop, drop-drop, length-replicate}
use Rattle.std.proofs.lemmas.List.Elements.{All-head, All-tail, All-take}
use Rattle.std.proofs.lemmas.List.Sums.{fold_more}
use Rattle.elf32.specs.declared.segment.Segment.{Segment}
use Rattle.elf32.specs.Layout.{IsPlaced}
use Rattle.elf32.specs.Pages.{overwritten_at, zeros, segment_bytes, with_segment, bytes_of_page}

-- ---- one place of a list over which another list is written

read_before : (xs new : List ℕ) (at i d : ℕ) → at ≤ length xs → i < at → get_or (overwritten_at xs at new) i d ≡ get_or xs i d
unfolding overwritten_at
read_before xs new at i d inside low =
    let front : length (take at xs) ≡ at = length-take-le at xs inside in
    get_or_append_left (take at xs ++ new) (drop (at + length new) xs) d i (omega (arith, length-append (take at xs) new))
    ∙ get_or_append_left (take at xs) new d i (omega arith)
    ∙ get_or-take at xs i d low

read_new : (xs new : List ℕ) (at i d : ℕ) → at ≤ length xs → at ≤ i → i < at + length new → get_or (overwritten_at xs at new) i d ≡ get_or new (i - at) d
unfolding overwritten_at
read_new xs new at i d inside low high =
    let front : length (take at xs) ≡ at = length-take-le at xs inside in
    get_or_append_left (take at xs ++ new) (drop (at + length new) xs) d i (omega (arith, length-append (take at xs) new))
    ∙ get_or-append_right (take at xs) new at i d front low

read_after : (xs new : List ℕ) (at i d : ℕ) → at ≤ length xs → at + length new ≤ i → get_or (overwritten_at xs at new) i d ≡ get_or xs i d
unfolding overwritten_at
read_after xs new at i d inside high =
    let front : length (take at xs) ≡ at = length-take-le at xs inside in
    get_or-append_right (take at xs ++ new) (drop (at + length new) xs) (at + length new) i d (omega (arith, length-append (take at xs) new)) high
    ∙ get_or-drop (at + length new) xs (i - (at + length new)) d
    ∙ ap (λ (j : ℕ). get_or xs j d) (omega arith)

pub length_over : (xs new : List ℕ) (at : ℕ) → at + length new ≤ length xs → length (overwritten_at xs at new) ≡ length xs
unfolding overwritten_at
length_over xs new at fits =
    let front : length (take at xs) ≡ at = length-take-le at xs (omega arith) in
    omega (arith, length-append (take at xs ++ new) (drop (at + length new) xs), length-append (take at xs) new, length-drop (at + length new) xs)

-- ---- n bytes from s on

read_part : (xs : List ℕ) (s n k d : ℕ) → k < n → get_or (take n (drop s xs)) k d ≡ get_or xs (s + k) d
read_part xs s n k d below = get_or-take n (drop s xs) k d below ∙ get_or-drop s xs k d

pub length_part : (xs : List ℕ) (s n : ℕ) → s + n ≤ length xs → length (take n (drop s xs)) ≡ n
length_part xs s n fits = length-take-le n (drop s xs) (omega (arith, length-drop s xs))

-- a part that has none of the bytes written over the list
module _ (xs new : List ℕ) (at s n : ℕ) (fits : at + length new ≤ length xs) (inside : s + n ≤ length xs) where
  size : length (take n (drop s (overwritten_at xs at new))) ≡ n
  size = length_part (overwritten_at xs at new) s n (omega (arith, length_over xs new at fits))

  pub over_elsewhere : min (at + length new) (s + n) ≤ max at s → take n (drop s (overwritten_at xs at new)) ≡ take n (drop s xs)
  over_elsewhere apart =
      same_lists _ _ (size ∙ sym (length_part xs s n inside)) (λ k d below.
      let low : k < n = omega (arith, size) in
      read_part (overwritten_at xs at new) s n k d low
      ∙ elim (dec_lt (s + k) at) [
        | yes before ↦ read_before xs new at (s + k) d (omega arith) before
        | no later ↦ read_after xs new at (s + k) d (omega arith) (omega arith)
      ]
      ∙ sym (read_part xs s n k d low))

  -- a part that has some of them
  pub over_here : (from to : ℕ) → from ≡ max at s → to ≡ min (at + length new) (s + n) → from < to → take n (drop s (overwritten_at xs at new)) ≡ overwritten_at (take n (drop s xs)) (from - s) (take (to - from) (drop (from - at) new))
  over_here from to first last some =
      let part = take n (drop s xs) in
      let piece = take (to - from) (drop (from - at) new) in
      let part_size : length part ≡ n = length_part xs s n inside in
      let piece_size : length piece ≡ to - from = length_part new (from - at) (to - from) (omega arith) in
      same_lists _ _ (size ∙ sym (length_over part piece (from - s) (omega arith) ∙ part_size)) (λ k d below.
      let low : k < n = omega (arith, size) in
      read_part (overwritten_at xs at new) s n k d low
      ∙ elim (dec_lt k (from - s)) [
        | yes before ↦
            read_before xs new at (s + k) d (omega arith) (omega arith)
            ∙ sym (read_before part piece (from - s) k d (omega arith) before ∙ read_part xs s n k d low)
        | no later ↦ elim (dec_lt (s + k) to) [
          | yes here ↦
              read_new xs new at (s + k) d (omega arith) (omega arith) (omega arith)
              ∙ sym (read_new part piece (from - s) k d (omega arith) (omega arith) (omega arith)
              ∙ read_part new (from - at) (to - from) (k - (from - s)) d (omega arith)
              ∙ ap (λ (j : ℕ). get_or new j d) (omega arith))
          | no after ↦
              read_after xs new at (s + k) d (omega arith) (omega arith)
              ∙ sym (read_after part piece (from - s) k d (omega arith) (omega arith) ∙ read_part xs s n k d low)
        ]
      ])

-- ---- zeros, and segments written over them

pub part_of_zeros : (m s n : ℕ) → s + n ≤ m → take n (drop s (zeros m)) ≡ zeros n
unfolding zeros
part_of_zeros m s n h = ap (take n) (drop-replicate s m 0) ∙ take-replicate n (m - s) 0 (omega arith)

pub length_zeros : (n : ℕ) → length (zeros n) ≡ n
unfolding zeros
length_zeros n = length-replicate n 0

pub length_segments : (memory : List ℕ) (segments : List Segment) → length memory ≡ 1048576 → All IsPlaced segments → length (fold with_segment memory segments) ≡ 1048576
length_segments memory [] h placed = h
length_segments memory (s ∷ segments) h placed =
    let first : IsPlaced s = All-head IsPlaced s segments placed in
    let fits : s.address - 65536 + length s.content ≤ length memory = omega arith in
    length_segments (with_segment memory s) segments (length_over memory s.content (s.address - 65536) fits ∙ h) (All-tail IsPlaced s segments placed)

-- one more segment
pub one_more : (memory : List ℕ) (segments : List Segment) (i : ℕ) (s : Segment) → i < length segments → s ≡ get_or segments i s → fold with_segment memory (take (i + 1) segments) ≡ with_segment (fold with_segment memory (take i segments)) s
one_more memory segments i s below is =
    fold_more with_segment memory segments i s below
    ∙ ap (with_segment (fold with_segment memory (take i segments))) (sym is)

pub length_before : (segments : List Segment) (i : ℕ) → All IsPlaced segments → length (fold with_segment (zeros 1048576) (take i segments)) ≡ 1048576
length_before segments i placed =
    length_segments (zeros 1048576) (take i segments) (length_zeros 1048576) (All-take IsPlaced i segments placed)

pub length_segment_bytes : (segments : List Segment) → All IsPlaced segments → length (segment_bytes segments) ≡ 1048576
unfolding segment_bytes
length_segment_bytes segments placed =
    length_segments (zeros 1048576) segments (length_zeros 1048576) placed

pub placed_item : (segments : List Segment) (i : ℕ) (s : Segment) → All IsPlaced segments → i < length segments → s ≡ get_or segments i s → IsPlaced s
placed_item segments i s placed below is = rw is (placed i s below)

-- ---- memory by its pages

module _ {X : Type 0} (bytes : X → List ℕ) where
  pub by_pages : (pages : List X) (memory : List ℕ) → length memory ≡ 4096 * length pages → ((i : ℕ) (d : X) → i < length pages → bytes (get_or pages i d) ≡ bytes_of_page i memory) → flat_map bytes pages ≡ memory
  by_pages [] [] h each = refl
  by_pages [] (x ∷ xs) h each = absurd (omega arith)
  by_pages (p ∷ pages) memory h each =
      let rest = by_pages pages (drop 4096 memory) (omega (arith, length-drop 4096 memory)) (λ i d below.
      each (suc i) d (omega arith)
      ∙ ap (take 4096) (ap (λ (j : ℕ). drop j memory) (omega arith) ∙ sym (drop-drop (i * 4096) 4096 memory))) in
      ap (λ (l : List ℕ). l ++ flat_map bytes pages) (each 0 p (omega arith))
      ∙ ap (λ (l : List ℕ). take 4096 memory ++ l) rest
      ∙ take-append-drop 4096 memory
