-- The place of a page of a call's memory, as one number: its place among the pages of the program, or first_own plus its place
-- among the call's own.
use Rattle.std.specs.Prelude.{ℕ}

-- the number of the first of the call's own pages
abbrev pub first_own : ℕ
first_own = 512
