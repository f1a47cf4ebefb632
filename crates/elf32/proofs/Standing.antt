-- The words of a program are exactly those that its segments have.
use Rattle.std.proofs.Common.{◌≡◌, ℕ, zero, suc, ◌+◌, ◌-◌, ◌*◌, ◌/◌, ◌%◌, ◌<◌, ◌≤◌, Bool, true, false, cond, List, [], ◌∷◌, ◌++◌, length, map, refl, sym, ap, ◌∙◌, arith, zero-add, length-append}
use Rattle.std.specs.Prelude.{flat_map}
use native.Mathlib.Decide.{dec_lt}
use Rattle.std.proofs.lemmas.List.{get_or_append_left, get_or-append-add, get_or-append_right}
use Rattle.std.specs.List.{range_with_len, Any, Contains}
use Rattle.std.proofs.lemmas.List.FromFn.{length-map-range_with_len, get_or-map-range_with_len}
use Rattle.elf32.specs.declared.segment.Segment.{Segment}
use Rattle.elf32.specs.declared.words.PlacedWord.{PlacedWord}
use Rattle.elf32.specs.Header.{word}
use Rattle.elf32.specs.Layout.{Layout}
use Rattle.elf32.specs.Words.{StandsIn, StandInSegments, lead, word_count, word_of_segment, words_of_segment}

-- ---- membership

in_first : {X : Type 0} (xs ys : List X) (x : X) → Contains xs x → Contains (xs ++ ys) x
in_first xs ys x (k, below, is) =
    (k, omega (arith, length-append xs ys), rw (get_or_append_left xs ys x k) is)

in_second : {X : Type 0} (xs ys : List X) (x : X) → Contains ys x → Contains (xs ++ ys) x
in_second xs ys x (k, below, is) =
    (length xs + k, omega (arith, length-append xs ys), rw (get_or-append-add xs ys k x) is)

-- a place among the words of some segments is one among those of one segment
module _ (f : Segment → List PlacedWord) (w : PlacedWord) where
  gather : (ss : List Segment) → Any (λ s. Contains (f s) w) ss → Contains (flat_map f ss) w
  gather [] (k, s, below, is, has) = absurd (omega arith)
  gather (t ∷ ss) (zero, s, below, is, has) = in_first (f t) (flat_map f ss) w (rw is has)
  gather (t ∷ ss) (suc k, s, below, is, has) = in_second (f t) (flat_map f ss) w (gather ss (k, s, omega arith, is, has))

  find : (ss : List Segment) → Contains (flat_map f ss) w → Any (λ s. Contains (f s) w) ss
  find [] (k, below, is) = absurd (omega arith)
  find (t ∷ ss) (k, below, is) = elim (dec_lt k (length (f t))) [
    | yes here ↦ (0, t, omega arith, refl, (k, here, rw (get_or_append_left (f t) (flat_map f ss) w k) at is))
    | no later ↦
        let other : length (f t) ≤ k = omega arith in
        let (i, s, inside, at, has) = find ss (k - length (f t), omega (arith, length-append (f t) (flat_map f ss)), rw (get_or-append_right (f t) (flat_map f ss) (length (f t)) k w refl other) at is) in
        (suc i, s, omega arith, at, has)
  ]

-- ---- places

place : (a b n : ℕ) → a % 4 ≡ 0 → b ≤ a → a + 4 ≤ b + n → (k : ℕ) × (k < (n - (4 - b % 4) % 4) / 4) × (b + (4 - b % 4) % 4 + 4 * k ≡ a)
place a b n aligned first last = ((a - b) / 4, omega arith, omega arith)

abbrev placed_word : ℕ → ℕ → PlacedWord
placed_word address number = record { address = address; word = number }

same_word : (v w : PlacedWord) → v.address ≡ w.address → v.word ≡ w.word → v ≡ w
same_word v w a b = ap (λ n. placed_word n v.word) a ∙ ap (placed_word w.address) b

-- ---- one segment

module _ (s : Segment) (w : PlacedWord) where
  stands : (k : ℕ) → s.rights.executable ≡ true → k < word_count s → word_of_segment s k ≡ w → StandsIn w s
  stands k may below is = rw (← is) (record {
    executable = may;
    aligned = omega arith;
    first = omega arith;
    last = omega arith;
    bytes = ap (word s.content) (omega arith);
  })

  stood_by : (b : Bool) → s.rights.executable ≡ b → Contains (cond b (map (word_of_segment s) (range_with_len 0 (word_count s))) []) w → StandsIn w s
  stood_by true may (k, below, is) =
      let inside : k < word_count s = omega (arith, length-map-range_with_len (word_of_segment s) 0 (word_count s)) in
      stands k may inside (rw (get_or-map-range_with_len (word_of_segment s) 0 (word_count s) k k w inside (zero-add k)) at is)
  stood_by false may (k, below, is) = absurd (omega arith)

  stood : Contains (words_of_segment s) w → StandsIn w s
  unfolding words_of_segment
  stood h = stood_by s.rights.executable refl h

  listed_by : (k : ℕ) → StandsIn w s → k < word_count s → s.address + lead s + 4 * k ≡ w.address → Contains (map (word_of_segment s) (range_with_len 0 (word_count s))) w
  listed_by k h below is =
      let same : lead s + 4 * k ≡ w.address - s.address = omega arith in
      let bytes : word s.content (lead s + 4 * k) ≡ w.word = ap (word s.content) same ∙ sym h.bytes in (
        k,
        omega (arith, length-map-range_with_len (word_of_segment s) 0 (word_count s)),
        rw (get_or-map-range_with_len (word_of_segment s) 0 (word_count s) k k w below (zero-add k)) (same_word (word_of_segment s k) w is bytes),
      )

  listed : StandsIn w s → Contains (words_of_segment s) w
  unfolding words_of_segment
  listed h =
      let (k, below, is) = place w.address s.address (length s.content) h.aligned h.first h.last in
      rw h.executable (listed_by k h below is)

-- ---- all segments

some_other : {X : Type 0} (P Q : X → Type 0) → ((x : X) → P x → Q x) → (xs : List X) → Any P xs → Any Q xs
some_other P Q f xs (k, x, below, is, h) = (k, x, below, is, f x h)

pub standing : (layout : Layout) → StandInSegments layout
standing layout = λ w. (
  λ h. some_other (λ s. Contains (words_of_segment s) w) (StandsIn w) (λ s. stood s w) layout.segments (find words_of_segment w layout.segments h),
  λ h. gather words_of_segment w layout.segments (some_other (StandsIn w) (λ s. Contains (words_of_segment s) w) (λ s. listed s w) layout.segments h),
)
