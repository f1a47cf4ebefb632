-- A table of the slots at each key; only private functions use this.
use Rattle.std.specs.Prelude.{◌≡◌, ◌⊎◌, ℕ, suc, List, [], ◌∷◌, Option, Some, None, cond, map, slice_get}
use Rattle.std.specs.BTreeMap.{is_at}
use Rattle.std.specs.FinMap.{entries, from_entries}
use Rattle.std.specs.List.Sorted.{IsStrictlySortedBy}
use Rattle.std.specs.Map.{keys_of, lookup}
use Rattle.std.specs.Option.{option_map, unwrap_or}
use Rattle.rv_ledger.specs.Key.{key_cmp}
use Rattle.rv_ledger.specs.Positions.{Positions, position_of}
use Rattle.mvmap.specs.Hints.{hint_of}
use Rattle.mvmap.specs.Slots.{ByKey}
use Rattle.mvmap.specs.Writers.{ByWriter}
use Rattle.mvmap.specs.declared.hints.Hint.TheVariants.{At, Nothing}
use Rattle.mvmap.specs.declared.key_table.KeySlots.{KeySlots}
use Rattle.mvmap.specs.declared.key_table.KeyTable.{KeyTable}

-- the keys of a list, the first one at position p
abbrev pub numbered : ℕ → List KeySlots → Positions
numbered p [] = []
numbered p (s ∷ list) = (s.key, p) ∷ numbered (suc p) list

-- the position of each key in a list, by key in order; if a key is there twice, its first position
unfoldable pub positions_of : List KeySlots → Positions
positions_of list = entries (from_entries {R = key_cmp} (numbered 0 list))

abbrev pub slot_key_at : List KeySlots → ℕ → Option (List ℕ)
slot_key_at list position = option_map (λ s. s.key) (slice_get list position)

-- the slots at a position of a list, none past its end
abbrev pub slots_in : List KeySlots → ℕ → ByWriter
slots_in list position = unwrap_or (option_map (λ s. s.writers) (slice_get list position)) []

-- each key with the slots at its position
abbrev pub slots_in_order : Positions → List KeySlots → ByKey
slots_in_order positions list = map (λ e. (e.0, slots_in list e.1)) positions

-- the slots at a key; none if the key is not there
abbrev pub writers_at : ByKey → List ℕ → ByWriter
writers_at es key = unwrap_or (lookup (is_at (key_cmp key)) es) []

-- the keys ascend, and each one is in the list at its position and nowhere else
pub record AreSlotsIndexed (positions : Positions) (list : List KeySlots) : Type 0 where
  pub ordered : IsStrictlySortedBy key_cmp (keys_of positions)
  pub listed : (key : List ℕ) (position : ℕ) → position_of positions key ≡ Some position → slot_key_at list position ≡ Some key
  pub indexed : (key : List ℕ) (position : ℕ) → slot_key_at list position ≡ Some key → position_of positions key ≡ Some position

-- what buckets and a tree of other keys say of keys with these positions: a key whose bucket is empty is none of them; the
-- position of each is its bucket's hint or is in the tree; and the tree has no other position
pub record AreFound (buckets : List ℕ) (others positions : Positions) : Type 0 where
  pub hinted : (key : List ℕ) → hint_of buckets key ≡ Nothing → position_of positions key ≡ None
  pub found : (key : List ℕ) (position : ℕ) → position_of positions key ≡ Some position → (hint_of buckets key ≡ At position) ⊎ (position_of others key ≡ Some position)
  pub sound : (key : List ℕ) (position : ℕ) → position_of others key ≡ Some position → position_of positions key ≡ Some position

-- each key of a table is in its list once, and its buckets and its tree say its position
pub record IsKeyTableIndexed (table : KeyTable) : Type 0 where
  pub positions : AreSlotsIndexed (positions_of table.list.items) table.list.items
  pub searched : AreFound table.hints.buckets.items table.others.entries (positions_of table.list.items)

-- the slots by key, ascending
abbrev pub slots_by_key : KeyTable → ByKey
slots_by_key table = slots_in_order (positions_of table.list.items) table.list.items

-- the slots at each key after one key got these
abbrev pub AreSlotsSetAt : ByKey → ByKey → List ℕ → ByWriter → Type 0
AreSlotsSetAt es fs key ws = (q : List ℕ) → lookup (is_at (key_cmp q)) fs ≡ cond (is_at (key_cmp key) q) (Some ws) (lookup (is_at (key_cmp q)) es)
