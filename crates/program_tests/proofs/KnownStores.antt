-- Stores in memory, of which it is known what they hold.
use Rattle.std.proofs.Common.{◌≡◌, ◌∙◌, Bool, true, false, ap, refl, sym}
use Rattle.std.specs.Prelude.{Some, None, IfSome, if◌then◌else◌}
use Rattle.engines.specs.Stores.{HoldsCommitted}
use Rattle.session_file.specs.Opening.{IsFresh}
use Rattle.sqlite_trees.proofs.Doubt.{no_doubt}
use Rattle.sqlite_trees.specs.Memory.{memory_is_unaltered, memory_view}
use Rattle.sqlite_trees.specs.Objects.{catalog_tree}
use Rattle.sqlite_trees.specs.View.{IsRolledBack}
use Rattle.sqlite_trees.specs.declared.memory.MemStore.{MemStore}

-- one with no change since its last commit
pub as_committed : (s : MemStore) → (memory_view s).is_broken ≡ false → (memory_view s).trees ≡ (memory_view s).committed → IsFresh (memory_view s)
as_committed s sound settled =
    let same = memory_is_unaltered s (ap (λ trees. trees catalog_tree) settled) in record { sound = sound; settled = settled; shaped = same.0; typed = same.1 }

-- and one whose changes were given up
pub given_up : (old new : MemStore) → IsRolledBack (memory_view old) (memory_view new) → IsFresh (memory_view new)
given_up old new back =
    let undone = back.undone refl in let kept = back.kept (no_doubt true refl) in as_committed new undone.1 (undone.0 ∙ sym (kept.committed refl))

-- one that is closed holds its last commit, if it is known what its path holds
pub if_known : (is_known : Bool) (s : MemStore) → IfSome (if is_known then Some (memory_view s).committed else None) (HoldsCommitted (memory_view s))
if_known true s = record { clean = no_doubt true refl; is_open = refl; same = refl }
if_known false s = tt
