-- Storages with the same entries.
use Rattle.std.proofs.Common.{◌≡◌}
use Rattle.std.specs.FinMap.{entries, same_entries_map}
use Rattle.rv_ledger.specs.Key.{Storage}

-- storages with the same entries are equal
pub same_storage : (left right : Storage) → entries left ≡ entries right → left ≡ right
same_storage left right same = same_entries_map left right same
