-- A storage after changes.
use Rattle.std.specs.Prelude.{◌≡◌, ◌<◌, ℕ, List, Some, None, fold, length, take}
use Rattle.std.specs.FinMap as map
use Rattle.rv_ledger.specs.Change.{Content, ContentChange, add}
use Rattle.rv_ledger.specs.Key.{Storage, WriteMap}
use Rattle.rv_ledger.specs.declared.change.Change.TheVariants as change
use Rattle.rv_ledger.specs.declared.receipt.Receipt.{Receipt}

-- a storage in which a key has a content
abbrev pub set_content : Storage → List ℕ → Content → Storage
set_content store key (Some value) = map.insert store key value
set_content store key None = map.remove store key

-- a storage after a change of one key: a removal removes the key, and a sum is added to the key's number
abbrev pub apply_write : Storage → List ℕ → ContentChange → Storage
apply_write store key (change.Value value) = map.insert store key value
apply_write store key change.Gone = map.remove store key
apply_write store key (change.Sum amount) = map.insert store key (add (map.get store key) amount)

-- a storage after some writes, one after another
abbrev pub apply_each : Storage → List (List ℕ × ContentChange) → Storage
apply_each store writes = fold (λ before write. apply_write before write.0 write.1) store writes

-- a storage after the writes of a receipt, in the order of their keys
unfoldable pub apply_writes : Storage → WriteMap → Storage
apply_writes store writes = apply_each store (map.entries writes)

-- the first `count` writes of a receipt were applied, and not all of them
abbrev pub ArePartlyApplied : Storage → WriteMap → Storage → Type 0
ArePartlyApplied store writes after =
    (count : ℕ) × (count < length (map.entries writes))
    × (after ≡ apply_each store (take count (map.entries writes)))

-- a storage after the writes of receipts, one receipt after another
abbrev pub apply_receipts : Storage → List Receipt → Storage
apply_receipts store receipts = fold (λ before receipt. apply_writes before receipt.writes) store receipts
