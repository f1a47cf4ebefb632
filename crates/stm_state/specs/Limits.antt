-- The limits of a run.
use Rattle.std.specs.Prelude.{ℕ}

-- the greatest number of writes that all recorded runs together may have
abbrev pub record_limit : ℕ
record_limit = 1048576

-- the highest incarnation; a step that records or parks a call at it is refused
abbrev pub incarnation_limit : ℕ
incarnation_limit = 65535
