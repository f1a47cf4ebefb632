-- Private help of contracts: positions of keys in the list of slots.
use Rattle.std.specs.Prelude.{◌≡◌, ◌<◌, ℕ, List, Option, Some, None, cond, length, map, slice_get}
use Rattle.std.specs.BTreeMap.{is_at}
use Rattle.std.specs.List.{All}
use Rattle.std.specs.Map.{lookup}
use Rattle.std.specs.Option.{option_map, unwrap_or}
use Rattle.rv_ledger.specs.Change.{Content, ContentChange}
use Rattle.rv_ledger.specs.Key.{key_cmp}
use Rattle.rv_ledger.specs.Positions.{Positions, position_of}
use Rattle.host_block.specs.declared.slot.Slot.{Slot}
use Rattle.host_block.specs.declared.slot_table.SlotTable.{SlotTable}

-- keys with their slots
abbrev pub SlotList : Type 0
SlotList = List (List ℕ × Slot)

abbrev pub slot_at_key : SlotList → List ℕ → Option Slot
slot_at_key slots key = lookup (is_at (key_cmp key)) slots

-- the key at a position of a list
abbrev pub listed_key_at : SlotList → ℕ → Option (List ℕ)
listed_key_at list position = option_map (λ e. e.0) (slice_get list position)

-- a slot with nothing in it
abbrev pub no_slot : Slot
no_slot = record { base = None; change = None }

-- the slot at a position of a list, with nothing in it past its end
abbrev pub slot_in : SlotList → ℕ → Slot
slot_in list position = unwrap_or (option_map (λ e. e.1) (slice_get list position)) no_slot

-- each key with the slot at its position
abbrev pub ascending_slots : Positions → SlotList → SlotList
ascending_slots positions list = map (λ e. (e.0, slot_in list e.1)) positions

-- each key is in the list at its position and nowhere else
pub record HavePositions (positions : Positions) (list : SlotList) : Type 0 where
  pub listed : (key : List ℕ) (position : ℕ) → position_of positions key ≡ Some position → listed_key_at list position ≡ Some key
  pub indexed : (key : List ℕ) (position : ℕ) → listed_key_at list position ≡ Some key → position_of positions key ≡ Some position

-- the positions are within the list
abbrev pub AreSlotsWithin : Positions → SlotList → Type 0
AreSlotsWithin positions list = All (λ e. e.1 < length list) positions

-- each key of a table is once in its list, at the position that its tree has
abbrev pub IsTableIndexed : SlotTable → Type 0
IsTableIndexed table = HavePositions table.tree.entries table.list.items

-- the slots by key, ascending
abbrev pub table_slots : SlotTable → SlotList
table_slots table = ascending_slots table.tree.entries table.list.items

-- the slot of a key, with nothing in it if it has none
abbrev pub slot_or_none : Option Slot → Slot
slot_or_none slot = unwrap_or slot no_slot

-- a slot with this base, and with the change that it had
abbrev pub with_base : Content → Option Slot → Slot
with_base content slot = record { base = Some content; change = (slot_or_none slot).change }

-- a slot with this change, and with the base that it had
abbrev pub with_change : ContentChange → Option Slot → Slot
with_change change slot = record { base = (slot_or_none slot).base; change = Some change }

-- the slots after one key was given this one
abbrev pub IsSlotSetAt : SlotList → SlotList → List ℕ → Slot → Type 0
IsSlotSetAt old new key slot = (q : List ℕ) → slot_at_key new q ≡ cond (is_at (key_cmp key) q) (Some slot) (slot_at_key old q)

-- the slots after a key got one, if it had none
abbrev pub IsSlotPlaced : SlotList → SlotList → List ℕ → Type 0
IsSlotPlaced old new key = IsSlotSetAt old new key (slot_or_none (slot_at_key old key))
