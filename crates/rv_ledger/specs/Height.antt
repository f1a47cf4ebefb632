-- How many blocks a session has taken (this project's own profile).
use Rattle.std.specs.Prelude.{ℕ}

-- the greatest height of a session
abbrev pub greatest_height : ℕ
greatest_height = 9999999999
