-- The calls of a block in order, over one storage.
use Rattle.std.specs.Prelude.{ℕ, List, [], ◌∷◌, take}
use Rattle.rv_ledger.specs.Applied.{apply_writes}
use Rattle.rv_ledger.specs.Key.{Storage}
use Rattle.rv_ledger.specs.Call.{Invocation}
use Rattle.rv_ledger.specs.declared.receipt.Receipt.{Receipt}
use Rattle.rv_step.specs.Chain.{ends}

-- the storage after a call
abbrev pub store_after_call : Invocation → Storage → Storage
store_after_call call store = apply_writes store (ends call store).writes

-- the receipts of calls, each on the storage that the ones before it left
unfoldable pub receipts_of : List Invocation → Storage → List Receipt
receipts_of [] store = []
receipts_of (call ∷ calls) store = ends call store ∷ receipts_of calls (store_after_call call store)

-- the storage after the calls
unfoldable pub store_after : List Invocation → Storage → Storage
store_after [] store = store
store_after (call ∷ calls) store = store_after calls (store_after_call call store)

-- the storage before the call of an index
abbrev pub store_before : List Invocation → ℕ → Storage → Storage
store_before calls index store = store_after (take index calls) store
