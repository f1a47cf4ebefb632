-- Which calls of a block wait for which.
use Rattle.std.specs.Prelude.{ℕ, List, length, map, Option, Some, None}
use Rattle.std.specs.FinMap as finite
use Rattle.std.specs.List.{flat_map, range_with_len, slice_get}
use Rattle.rv_ledger.specs.Call.{Invocation}
use Rattle.rv_ledger.specs.Change.{ContentChange}
use Rattle.rv_ledger.specs.Key.{Storage}
use Rattle.rv_ledger.specs.declared.receipt.Receipt.{Receipt}
use Rattle.rv_step.specs.Fold.{receipts_of, store_before}
use Rattle.read_set.specs.Origin.{named}
use Rattle.mvmap.specs.Versions.{Entry, Stands}
use Rattle.mvmap.specs.Reading.{origin_in, visible_below}
use Rattle.conflicts.specs.Reads.{Keys, keys_read}

-- what a receipt does to a key; only a call that returned has writes
abbrev pub change_in : Option Receipt → List ℕ → Option ContentChange
change_in (Some receipt) key = finite.get receipt.writes key
change_in None key = None

-- the version of a change
abbrev pub change_version : Option ContentChange → Option Entry
change_version (Some change) = Some (Stands 0 change)
change_version None = None

-- the versions of a key that receipts leave, by their calls
abbrev pub versions_in : List Receipt → List ℕ → ℕ → Option Entry
versions_in receipts key i = change_version (change_in (slice_get receipts i) key)

-- the calls whose versions a read of call j names, from the nearest on: the sums that are passed, and the version below them
abbrev pub writers_named : List Receipt → List ℕ → ℕ → List ℕ
writers_named receipts key j = map (λ version. version.writer) (named (origin_in (visible_below (versions_in receipts key) j)))

-- a wait for an earlier call, at a key
pub record Wait : Type 0 where
  pub writer : ℕ
  pub key : List ℕ

-- the waits for some calls at a key
abbrev pub waits_for : List ℕ → List ℕ → List Wait
waits_for key writers = map (λ writer. record { writer = writer; key = key }) writers

-- the waits of call j at a key
abbrev pub waits_at : List Receipt → ℕ → List ℕ → List Wait
waits_at receipts j key = waits_for key (writers_named receipts key j)

-- the waits of call j, which reads these keys: by ascending key, and then from the nearest call on
abbrev pub waits_over : List Receipt → ℕ → Keys → List Wait
waits_over receipts j keys = flat_map (waits_at receipts j) (finite.keys keys)

-- the keys that a call reads, if there is one
abbrev pub keys_read_by : Option Invocation → Storage → Keys
keys_read_by (Some call) store = keys_read call store
keys_read_by None store = finite.empty

-- the waits of call j of a block
abbrev pub waits_of : List Invocation → Storage → ℕ → List Wait
waits_of block store j = waits_over (receipts_of block store) j (keys_read_by (slice_get block j) (store_before block j store))

-- the gas of a receipt, if there is one
abbrev pub gas_in : Option Receipt → ℕ
gas_in (Some receipt) = receipt.gas
gas_in None = 0

-- the gas of call j of a block
abbrev pub gas_of_call : List Invocation → Storage → ℕ → ℕ
gas_of_call block store j = gas_in (slice_get (receipts_of block store) j)

-- what a call waits for, and its gas
pub record CallView : Type 0 where
  pub waits : List Wait
  pub gas : ℕ

-- the same of call j of a block
abbrev pub call_view_of : List Invocation → Storage → ℕ → CallView
call_view_of block store j = record { waits = waits_of block store j; gas = gas_of_call block store j }

-- the same of each call of a block, in block order
abbrev pub calls_of : List Invocation → Storage → List CallView
calls_of block store = map (call_view_of block store) (range_with_len 0 (length block))
