-- What the entries of a storage that is made in one pass stand for.
use Rattle.std.specs.Prelude.{ℕ, List}
use Rattle.std.specs.FinMap.{empty, insert}
use Rattle.std.specs.List.{fold}
use Rattle.rv_ledger.specs.Key.{Storage}

-- the storage that inserting the entries in turn gives
abbrev pub inserted : List (List ℕ × List ℕ) → Storage
inserted entries = fold (λ s e. insert s e.0 e.1) empty entries
