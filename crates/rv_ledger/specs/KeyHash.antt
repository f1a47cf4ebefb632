-- A hash of keys, for hints of their positions.
use Rattle.std.specs.Prelude.{ℕ, ◌+◌, ◌*◌, ◌/◌, ◌%◌, ◌^◌, bit_xor, List, drop}
use Rattle.std.specs.Int.{from_le_bytes, w64}

-- the eight bytes of a key from byte word * 8 on, as a number, the lowest first
unfoldable pub key_word : List ℕ → ℕ → ℕ
key_word key word = from_le_bytes w64 (drop (word * 8) key)

-- the sum of a key's four words, modulo 2^64
abbrev pub sum_of : List ℕ → ℕ
sum_of key = (key_word key 0 + key_word key 1 + key_word key 2 + key_word key 3) % 2 ^ 64

-- a number with its higher half mixed into the lower, times an odd number near 2^64 over the golden ratio, modulo 2^64
unfoldable pub mixed : ℕ → ℕ
mixed n = bit_xor n (n / 2 ^ 32) * 11400714819323198485 % 2 ^ 64

-- the hash of a key: its sum, mixed twice
unfoldable pub key_hash : List ℕ → ℕ
key_hash key = mixed (mixed (sum_of key))
