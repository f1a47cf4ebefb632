-- The keys that a call asks the storage for.
use Rattle.std.specs.Prelude.{ℕ, zero, suc, List, [], ◌∷◌, Option, Some, None}
use Rattle.std.specs.FinMap as map
use Rattle.rv_ledger.specs.Call.{Invocation}
use Rattle.rv_ledger.specs.Key.{Storage, key_cmp}
use Rattle.rv_step.specs.Asked.{key_of}
use Rattle.rv_step.specs.Chain.{enough_steps}
use Rattle.rv_step.specs.Moment.{Reply, moment_over}
use Rattle.rv_step.specs.Step.{Progress, Going, Over, step}

-- a set of keys: a finite map with nothing at each key
abbrev pub Keys : Type 0
Keys = map.FinMap key_cmp (Unit {0})

-- the key that a call asks the storage for at this moment, if there is one
abbrev pub key_asked_at : Progress → Option (List ℕ)
key_asked_at (Going s) = key_of (step s)
key_asked_at (Over end out s) = None

-- some keys, and one more if there is one
abbrev pub with_key : Keys → Option (List ℕ) → Keys
with_key keys None = keys
with_key keys (Some key) = map.insert keys key tt

-- the keys that a call asks a storage for in its first n steps
unfoldable pub keys_until : Invocation → Storage → ℕ → Keys
keys_until call store zero = map.empty
keys_until call store (suc n) = with_key (keys_until call store n) (key_asked_at (moment_over call store n))

-- the keys that a call asks a storage for; it is over by then (`rv_step::call_ends`)
abbrev pub keys_read : Invocation → Storage → Keys
keys_read call store = keys_until call store (enough_steps call)

-- Private help of proofs: some keys, and those of answers.
abbrev pub keys_with : Keys → List Reply → Keys
keys_with keys [] = keys
keys_with keys (reply ∷ replies) = keys_with (map.insert keys reply.0 tt) replies

abbrev pub keys_in : List Reply → Keys
keys_in replies = keys_with map.empty replies
