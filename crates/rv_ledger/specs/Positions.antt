-- Positions of keys in a list of entries; only the model of `Store` and private functions use this.
use Rattle.std.specs.Prelude.{◌≡◌, ◌<◌, ℕ, List, [], Option, Some, None, cond, length, map, slice_get}
use Rattle.std.specs.BTreeMap.{is_at}
use Rattle.std.specs.List.{All}
use Rattle.std.specs.Map.{lookup}
use Rattle.std.specs.Option.{option_map, unwrap_or}
use Rattle.rv_ledger.specs.Key.{key_cmp}
use Rattle.rv_ledger.specs.declared.entry_table.EntryTable.{EntryTable}

-- keys with their values
abbrev pub EntryList : Type 0
EntryList = List (List ℕ × List ℕ)

-- positions of keys, by key
abbrev pub Positions : Type 0
Positions = List (List ℕ × ℕ)

abbrev pub position_of : Positions → List ℕ → Option ℕ
position_of positions key = lookup (is_at (key_cmp key)) positions

-- the key at a position of a list
abbrev pub key_at : EntryList → ℕ → Option (List ℕ)
key_at list position = option_map (λ e. e.0) (slice_get list position)

-- the value at a position of a list, none past its end
abbrev pub value_in : EntryList → ℕ → List ℕ
value_in list position = unwrap_or (option_map (λ e. e.1) (slice_get list position)) []

-- each key with the value at its position
abbrev pub in_order : Positions → EntryList → EntryList
in_order positions list = map (λ e. (e.0, value_in list e.1)) positions

-- each key is in the list at its position and nowhere else
pub record AreIndexed (positions : Positions) (list : EntryList) : Type 0 where
  pub listed : (key : List ℕ) (position : ℕ) → position_of positions key ≡ Some position → key_at list position ≡ Some key
  pub indexed : (key : List ℕ) (position : ℕ) → key_at list position ≡ Some key → position_of positions key ≡ Some position

-- the positions are within the list
abbrev pub AreWithin : Positions → EntryList → Type 0
AreWithin positions list = All (λ e. e.1 < length list) positions

-- each key of a table is once in its list, at the position that its tree has
abbrev pub IsIndexed : EntryTable → Type 0
IsIndexed table = AreIndexed table.tree.entries table.list.items

-- the entries by key, ascending
abbrev pub by_key : EntryTable → EntryList
by_key table = in_order table.tree.entries table.list.items

-- the entries after one key was given this value
abbrev pub IsSetAt : EntryList → EntryList → List ℕ → List ℕ → Type 0
IsSetAt old new key value = (q : List ℕ) → lookup (is_at (key_cmp q)) new ≡ cond (is_at (key_cmp key) q) (Some value) (lookup (is_at (key_cmp q)) old)

-- the entries after one key was removed
abbrev pub IsGoneAt : EntryList → EntryList → List ℕ → Type 0
IsGoneAt old new key = (q : List ℕ) → lookup (is_at (key_cmp q)) new ≡ cond (is_at (key_cmp key) q) None (lookup (is_at (key_cmp q)) old)
