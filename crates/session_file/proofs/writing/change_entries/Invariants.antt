use Rattle.std.proofs.Common.{Ok, ◌≡◌, ◌≢◌, T, ℕ}
use Rattle.std.specs.FinMap.{is_sorted}
use Rattle.sqlite_trees.specs.View.{IsClean, OnlyWrites}
use Rattle.session_tree.specs.Tries.{Tries}
use Rattle.rv_ledger.specs.Key.{key_cmp}
use Rattle.session_tree.specs.Entries.{rows_of}
use Rattle.session_file.specs.Kept.{storage_tree}
use Rattle.overlay.specs.Overlay.{with_changes}
use Rattle.session_file.proofs.Changes.{IsPartWay}
use Rattle.session_file.proofs.writing.change_entries.Given as goal

abbrev pub invariant-loop-key : goal.invariant-loop-key
invariant-loop-key g l =
    let old = g.S.Store.view l.fn.store in
    let now = g.S.Store.view l.store in
    (IsClean now → old.trees storage_tree ≡ rows_of l.base → IsPartWay l.base (with_changes l.base l.changes) (now.trees storage_tree) l.key-iterator)
    × (IsClean now → (t : ℕ) → t ≢ storage_tree → now.trees t ≡ old.trees t)
    × (IsClean now → OnlyWrites old now)
    × T (is_sorted key_cmp l.key-iterator)
    × Tries {A = Unit {0}} g.S.Store ⊥ l.fn.store l.store (Ok tt)
