-- The entries of a storage from a key on.
use Rattle.std.specs.Prelude.{ℕ, List, Bool, not}
use Rattle.std.specs.Ordering.{is_lt}
use Rattle.rv_ledger.specs.Key.{key_cmp}

-- whether an entry's key is this one or one after it
abbrev pub is_from : List ℕ → List ℕ × List ℕ → Bool
is_from key entry = not (is_lt (key_cmp entry.0 key))
