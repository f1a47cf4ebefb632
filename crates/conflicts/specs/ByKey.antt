-- What each call of a block waits for, key by key: at a key it waits for each earlier call that changes the key, from one call
-- on.
use Rattle.std.specs.Prelude.{ℕ, List, [], ◌∷◌, length, map, reverse, Option, Some, None}
use Rattle.std.specs.FinMap as finite
use Rattle.std.specs.List.{flat_map, range_with_len, slice_get}
use Rattle.rv_ledger.specs.Call.{Invocation}
use Rattle.rv_ledger.specs.Key.{Storage}
use Rattle.rv_ledger.specs.declared.receipt.Receipt.{Receipt}
use Rattle.rv_step.specs.Fold.{receipts_of, store_before}
use Rattle.conflicts.specs.declared.key_waits.KeyWaits.{KeyWaits}
use Rattle.conflicts.specs.Reads.{Keys}
use Rattle.conflicts.specs.Waits.{gas_of_call, keys_read_by, writers_named}

-- the earliest call that a read of call j at a key waits for, if there is one
abbrev pub earliest_named : List Receipt → List ℕ → ℕ → Option ℕ
earliest_named receipts key j = slice_get (reverse (writers_named receipts key j)) 0

-- the waits at a key from a call on, if there is one
abbrev pub key_waits_from : List ℕ → Option ℕ → List KeyWaits
key_waits_from key (Some from) = record { from = from; key = key } ∷ []
key_waits_from key None = []

-- the waits of call j at a key
abbrev pub key_waits_at : List Receipt → ℕ → List ℕ → List KeyWaits
key_waits_at receipts j key = key_waits_from key (earliest_named receipts key j)

-- the waits of call j, which reads these keys: by ascending key
abbrev pub key_waits_over : List Receipt → ℕ → Keys → List KeyWaits
key_waits_over receipts j keys = flat_map (key_waits_at receipts j) (finite.keys keys)

-- the waits of call j of a block
abbrev pub key_waits_of : List Invocation → Storage → ℕ → List KeyWaits
key_waits_of block store j = key_waits_over (receipts_of block store) j (keys_read_by (slice_get block j) (store_before block j store))

-- what a call waits for, key by key, and its gas
pub record CallByKey : Type 0 where
  pub waits : List KeyWaits
  pub gas : ℕ

-- the same of call j of a block
abbrev pub call_by_key : List Invocation → Storage → ℕ → CallByKey
call_by_key block store j = record { waits = key_waits_of block store j; gas = gas_of_call block store j }

-- the same of each call of a block, in block order
abbrev pub calls_by_key : List Invocation → Storage → List CallByKey
calls_by_key block store = map (call_by_key block store) (range_with_len 0 (length block))
