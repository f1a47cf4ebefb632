-- The words of a program's text.
use Rattle.std.specs.Prelude.{◌≡◌, ◌≤◌, ◌↔◌, ℕ, ◌+◌, ◌-◌, ◌*◌, ◌/◌, ◌%◌, true, List, [], length, map, flat_map, if◌then◌else◌}
use Rattle.std.specs.List.{range_with_len, Any, Contains}
use Rattle.elf32.specs.declared.segment.Segment.{Segment}
use Rattle.elf32.specs.declared.words.PlacedWord.{PlacedWord}
use Rattle.elf32.specs.Header.{word}
use Rattle.elf32.specs.Layout.{Layout}

-- the number of bytes from the segment's address to the first multiple of 4
abbrev pub lead : Segment → ℕ
lead s = (4 - s.address % 4) % 4

-- how many multiples of 4 have their four bytes among the file bytes
abbrev pub word_count : Segment → ℕ
word_count s = (length s.content - lead s) / 4

-- the word at the k-th of these multiples of 4, counted from 0
abbrev pub word_of_segment : Segment → ℕ → PlacedWord
word_of_segment s k = record { address = s.address + lead s + 4 * k; word = word s.content (lead s + 4 * k) }

unfoldable pub words_of_segment : Segment → List PlacedWord
words_of_segment s = if s.rights.executable then map (word_of_segment s) (range_with_len 0 (word_count s)) else []

-- the words of the segments that may be executed, in the order of the segments
abbrev pub words_of : Layout → List PlacedWord
words_of layout = flat_map words_of_segment layout.segments

-- a segment that may be executed has this word in four of its file bytes, at a multiple of 4
pub record StandsIn (w : PlacedWord) (s : Segment) : Type 0 where
  pub executable : s.rights.executable ≡ true
  pub aligned : w.address % 4 ≡ 0
  pub first : s.address ≤ w.address
  pub last : w.address + 4 ≤ s.address + length s.content
  pub bytes : w.word ≡ word s.content (w.address - s.address)

-- the words of a program are exactly those that one of its segments has in this way
abbrev pub StandInSegments : Layout → Type 0
StandInSegments layout = (w : PlacedWord) → Contains (words_of layout) w ↔ Any (StandsIn w) layout.segments
