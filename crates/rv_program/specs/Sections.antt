-- What an assembled program consists of.
use Rattle.std.specs.Prelude.{ℕ, ◌*◌, ◌≤◌, ◌||◌, List, length, nat_lt, Option, Some, None, if◌then◌else◌}

-- the words of the text section and the bytes of the data section, in the order of their addresses
pub record Sections : Type 0 where
  pub text : List ℕ
  pub data_bytes : List ℕ

-- text has at most 65,536 bytes, four for each word, and data at most 61,440
pub record IsSized (p : Sections) : Type 0 where
  pub text : 4 * length p.text ≤ 65536
  pub data_bytes : length p.data_bytes ≤ 61440

-- the program of some words and bytes, or None if a section is too large
abbrev pub sections_of : List ℕ → List ℕ → Option Sections
sections_of text data_bytes =
    if (nat_lt 65536 (4 * length text) || nat_lt 61440 (length data_bytes)) then None else Some (record { text = text; data_bytes = data_bytes })
