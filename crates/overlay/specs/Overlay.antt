-- Changes of a storage that are not made yet.
use Rattle.std.specs.Prelude.{ℕ, List, [], ◌∷◌}
use Rattle.std.specs.FinMap as map
use Rattle.rv_ledger.specs.Change.{Content}
use Rattle.rv_ledger.specs.Applied.{set_content}
use Rattle.rv_ledger.specs.Key.{Storage, key_cmp}

-- the new contents of some keys: a value, or None if the key will be absent
abbrev pub Changes : Type 0
Changes = map.FinMap key_cmp Content

-- a storage in which keys have contents, one set after another, the first of the list last
abbrev pub with_contents : Storage → List (List ℕ × Content) → Storage
with_contents store [] = store
with_contents store (e ∷ es) = set_content (with_contents store es) e.0 e.1

-- a storage with all changes made
unfoldable pub with_changes : Storage → Changes → Storage
with_changes store changes = with_contents store (map.entries changes)
