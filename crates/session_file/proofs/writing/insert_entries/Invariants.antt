use Rattle.std.proofs.Common.{Ok, ◌≡◌, ◌≢◌, ℕ, []}
use Rattle.std.specs.FinMap.{entries}
use Rattle.sqlite_trees.specs.View.{IsClean, OnlyWrites}
use Rattle.session_tree.specs.Tries.{Tries}
use Rattle.session_file.specs.Kept.{storage_tree}
use Rattle.session_file.proofs.Lists.{IsInserted}
use Rattle.session_file.proofs.writing.insert_entries.Given as goal

abbrev pub invariant-loop-key : goal.invariant-loop-key
invariant-loop-key g l =
    let old = g.S.Store.view l.fn.store in
    let now = g.S.Store.view l.store in
    IsInserted (entries l.storage) l.key-iterator (IsClean now × (old.trees storage_tree ≡ [])) (now.trees storage_tree)
    × (IsClean now → (t : ℕ) → t ≢ storage_tree → now.trees t ≡ old.trees t)
    × (IsClean now → OnlyWrites old now)
    × Tries {A = Unit {0}} g.S.Store ⊥ l.fn.store l.store (Ok tt)
