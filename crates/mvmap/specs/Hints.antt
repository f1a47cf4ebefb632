-- Buckets of keys, each with a hint of the position of one of its keys; only private functions use this.
use Rattle.std.specs.Prelude.{ℕ, ◌/◌, ◌^◌, ◌==◌, min, if◌then◌else◌, List, Option, Some, None, slice_get, slice_index, slice_set}
use Rattle.rv_ledger.specs.KeyHash.{key_hash}
use Rattle.mvmap.specs.declared.hints.Hint.{Hint}
use Rattle.mvmap.specs.declared.hints.Hint.TheVariants.{Nothing, At, Unknown}

-- the content of a bucket without a hint: 2^16 - 1
abbrev pub no_hint : ℕ
no_hint = 65535

-- the last position that a hint can say
abbrev pub last_hint : ℕ
last_hint = 65534

-- the bucket of a key: the highest fourteen bits of its hash
unfoldable pub bucket_of : List ℕ → ℕ
bucket_of key = key_hash key / 2 ^ 50

-- what the content of a bucket says
abbrev pub hint_in : Option ℕ → Hint
hint_in None = Unknown
hint_in (Some position) = if position == no_hint then Nothing else At position

-- what the buckets say of a key
abbrev pub hint_of : List ℕ → List ℕ → Hint
hint_of buckets key = hint_in (slice_get buckets (bucket_of key))

-- the content of a bucket after a position was noted in it
abbrev pub filled : ℕ → ℕ → ℕ
filled content position = if content == no_hint then min position last_hint else content

-- the buckets after the position of a key was noted
abbrev pub noted : List ℕ → List ℕ → ℕ → List ℕ
noted buckets key position = slice_set buckets (bucket_of key) (filled (slice_index buckets (bucket_of key)) position)
