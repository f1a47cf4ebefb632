use Rattle.std.proofs.Common.{Ok, ◌≡◌, ◌≢◌, ℕ, map}
use Rattle.sqlite_trees.specs.View.{IsClean, OnlyWrites}
use Rattle.session_tree.specs.Tries.{Tries}
use Rattle.session_tree.specs.Entries.{entry_row, rows_of}
use Rattle.session_file.specs.Kept.{storage_tree}
use Rattle.session_file.proofs.Lists.{AreRising}
use Rattle.session_file.proofs.writing.remove_entries.Given as goal

abbrev pub invariant-loop-key : goal.invariant-loop-key
invariant-loop-key g l =
    let old = g.S.Store.view l.fn.store in
    let now = g.S.Store.view l.store in
    (IsClean now → old.trees storage_tree ≡ rows_of l.base → now.trees storage_tree ≡ map entry_row l.key-iterator)
    × (IsClean now → (t : ℕ) → t ≢ storage_tree → now.trees t ≡ old.trees t)
    × (IsClean now → OnlyWrites old now)
    × AreRising l.key-iterator
    × Tries {A = Unit {0}} g.S.Store ⊥ l.fn.store l.store (Ok tt)
