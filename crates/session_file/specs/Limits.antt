-- What a file of a session has no room for.
use Rattle.std.specs.Prelude.{ℕ, ◌<◌, ◌≤◌, ◌+◌, ◌^◌, List, length}
use Rattle.std.specs.Option.{ForSome}
use Rattle.rv_ledger.specs.Height.{greatest_height}
use Rattle.session_file.specs.declared.rows.SessionRow.{SessionRow}

-- the numbers of a session can be kept: those of a database are below 2^63, and no session is higher than this
pub record HasSmallNumbers (s : SessionRow) : Type 0 where
  pub frame_limit : s.frame_limit < 2 ^ 63
  pub frame_gas : ForSome s.frame_gas (λ n. n < 2 ^ 63)
  pub height : s.height ≤ greatest_height

-- the row of an answer has over a billion bytes, each of its four values taken with 18 more
abbrev pub IsLongAnswer : List ℕ × List ℕ → Type 0
IsLongAnswer answer = 10 ^ 9 < 72 + length answer.0 + length answer.1
