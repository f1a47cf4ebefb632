-- Bytes that are kept in pages, and what a write to one page makes of all of them.
use Rattle.std.proofs.Common.{◌≡◌, ℕ, suc, ◌+◌, ◌-◌, ◌*◌, ◌/◌, ◌%◌, ◌<◌, ◌≤◌, List, [], ◌∷◌, ◌++◌, length, get_or, set, take, drop, refl, sym, ap, ◌∙◌, arith, length-append, length-drop, append_assoc}
use Rattle.std.specs.Prelude.{flat_map}
use Rattle.std.proofs.Math.Seq.{take-append-add, drop-append-add}
use Rattle.std.proofs.lemmas.List.{take-append-le, drop-append-le, take-append-drop, set_split, set-get_or, take_at, drop-drop, length-take-le, take-take, drop_at, drop-take}
use Rattle.std.proofs.lemmas.List.Concat.{flat_map-append}
use Rattle.std.proofs.lemmas.List.Elements.{All-head, All-tail, All-take}
use Rattle.elf32.specs.Pages.{overwritten_at, ArePages}

-- ---- a list written over a part of another

-- over the second part
over_second : (xs ys new : List ℕ) (at : ℕ) → overwritten_at (xs ++ ys) (length xs + at) new ≡ xs ++ overwritten_at ys at new
unfolding overwritten_at
over_second xs ys new at =
    let e : length xs + at + length new ≡ length xs + (at + length new) = omega arith in
    rw (e, take-append-add xs ys at, drop-append-add xs ys (at + length new)) (simp append_assoc)

-- over the first part
over_first : (xs ys new : List ℕ) (at : ℕ) → at + length new ≤ length xs → overwritten_at (xs ++ ys) at new ≡ overwritten_at xs at new ++ ys
unfolding overwritten_at
over_first xs ys new at h =
    let a : at ≤ length xs = omega arith in
    rw (take-append-le at xs ys a, drop-append-le (at + length new) xs ys h) (simp append_assoc)

-- the later of two pieces first
pub over_pieces : (xs a b : List ℕ) (at k : ℕ) → k ≡ at + length a → k + length b ≤ length xs → overwritten_at (overwritten_at xs k b) at a ≡ overwritten_at xs at (a ++ b)
unfolding overwritten_at
over_pieces xs a b at k e h =
    let low : at ≤ k = omega arith in
    let inside : k ≤ length xs = omega arith in
    let size : length (take k xs) ≡ k = length-take-le k xs inside in
    let fits : at ≤ length (take k xs) = omega arith in
    let rest = b ++ drop (k + length b) xs in
    let front : take at (take k xs ++ rest) ≡ take at xs = take-append-le at (take k xs) rest fits ∙ take-take at k xs low in
    let back : drop k (take k xs ++ rest) ≡ rest = drop_at (take k xs) rest k size in
    let end : at + length (a ++ b) ≡ k + length b = omega (arith, length-append a b) in
    rw (append_assoc (take k xs) b (drop (k + length b) xs), ← e, front, back, end) (simp append_assoc)

-- ---- pages

module _ {X : Type 0} (bytes : X → List ℕ) where
  pub length_pages : (pages : List X) → ArePages bytes pages → length (flat_map bytes pages) ≡ 4096 * length pages
  length_pages [] h = refl
  length_pages (p ∷ ps) h =
      let here : length (bytes p) ≡ 4096 = All-head (λ p. length (bytes p) ≡ 4096) p ps h in
      let rest = length_pages ps (All-tail (λ p. length (bytes p) ≡ 4096) p ps h) in
      omega (arith, length-append (bytes p) (flat_map bytes ps))

  -- the bytes before a page
  before : (pages : List X) (k : ℕ) → ArePages bytes pages → k < length pages → length (flat_map bytes (take k pages)) ≡ 4096 * k
  before pages k h below =
      length_pages (take k pages) (All-take (λ p. length (bytes p) ≡ 4096) k pages h)
      ∙ ap (λ (n : ℕ). 4096 * n) (length-take-le k pages (omega arith))

  -- the bytes with a page set
  with_page : (pages : List X) (k : ℕ) (p : X) → k < length pages → flat_map bytes (set pages k p) ≡ flat_map bytes (take k pages) ++ (bytes p ++ flat_map bytes (drop (suc k) pages))
  with_page pages k p below =
      ap (flat_map bytes) (set_split pages k p below) ∙ flat_map-append bytes (take k pages) (p ∷ drop (suc k) pages)

  -- the bytes by one page
  by_page : (pages : List X) (k : ℕ) (d : X) → k < length pages → flat_map bytes pages ≡ flat_map bytes (take k pages) ++ (bytes (get_or pages k d) ++ flat_map bytes (drop (suc k) pages))
  by_page pages k d below = ap (flat_map bytes) (sym (set-get_or pages k d)) ∙ with_page pages k (get_or pages k d) below

  pub write_one : (pages : List X) (new : List ℕ) (at k : ℕ) (p d : X) → ArePages bytes pages → k ≡ at / 4096 → k < length pages → at % 4096 + length new ≤ 4096 → bytes p ≡ overwritten_at (bytes (get_or pages k d)) (at % 4096) new → flat_map bytes (set pages k p) ≡ overwritten_at (flat_map bytes pages) at new
  write_one pages new at k p d h e below room is =
      let front = flat_map bytes (take k pages) in
      let page = bytes (get_or pages k d) in
      let back = flat_map bytes (drop (suc k) pages) in
      let size : length page ≡ 4096 = h k d below in
      let place : at ≡ length front + at % 4096 = omega (arith, before pages k h below) in
      let fits : at % 4096 + length new ≤ length page = omega arith in
      with_page pages k p below
      ∙ ap (λ (l : List ℕ). front ++ (l ++ back)) is
      ∙ sym (ap (λ (l : List ℕ). overwritten_at l at new) (by_page pages k d below)
      ∙ ap (λ (n : ℕ). overwritten_at (front ++ (page ++ back)) n new) place
      ∙ over_second front (page ++ back) new (at % 4096)
      ∙ ap (λ (l : List ℕ). front ++ l) (over_first page back new (at % 4096) fits))

  pub rest_one : (pages : List X) (at k : ℕ) (d : X) → ArePages bytes pages → k ≡ at / 4096 → k < length pages → drop (at % 4096) (bytes (get_or pages k d)) ≡ take (4096 - at % 4096) (drop at (flat_map bytes pages))
  rest_one pages at k d h e below =
      let front = flat_map bytes (take k pages) in
      let page = bytes (get_or pages k d) in
      let back = flat_map bytes (drop (suc k) pages) in
      let size : length page ≡ 4096 = h k d below in
      let place : at ≡ length front + at % 4096 = omega (arith, before pages k h below) in
      let fits : at % 4096 ≤ length page = omega arith in
      let len : length (drop (at % 4096) page) ≡ 4096 - at % 4096 = length-drop (at % 4096) page ∙ ap (λ (n : ℕ). n - at % 4096) size in
      sym (ap (λ (l : List ℕ). take (4096 - at % 4096) (drop at l)) (by_page pages k d below)
      ∙ ap (λ (n : ℕ). take (4096 - at % 4096) (drop n (front ++ (page ++ back)))) place
      ∙ ap (take (4096 - at % 4096)) (drop-append-add front (page ++ back) (at % 4096) ∙ drop-append-le (at % 4096) page back fits)
      ∙ take_at (drop (at % 4096) page) back (4096 - at % 4096) len)

-- the rest of a page, and what follows it
pub take_pieces : (xs : List ℕ) (at m n : ℕ) → m ≤ n → take m (drop at xs) ++ take (n - m) (drop (at + m) xs) ≡ take n (drop at xs)
take_pieces xs at m n h =
    let e : m + (n - m) ≡ n = omega arith in
    ap (λ (l : List ℕ). take m (drop at xs) ++ take (n - m) l) (sym (drop-drop m at xs))
    ∙ ap (λ (l : List ℕ). take m (drop at xs) ++ l) (sym (drop-take m (n - m) (drop at xs)))
    ∙ ap (λ (j : ℕ). take m (drop at xs) ++ drop m (take j (drop at xs))) e
    ∙ ap (λ (l : List ℕ). l ++ drop m (take n (drop at xs))) (sym (take-take m n (drop at xs) h))
    ∙ take-append-drop m (take n (drop at xs))
