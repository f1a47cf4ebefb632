-- What a block keeps of the keys that its calls touched.
use Rattle.std.specs.Prelude.{◌≡◌, ℕ, List, [], ◌∷◌, Option, Some, None}
use Rattle.std.specs.FinMap as map
use Rattle.overlay.specs.Overlay.{Changes}
use Rattle.rv_ledger.specs.Change.{Content, ContentChange}
use Rattle.rv_ledger.specs.Key.{WriteMap, key_cmp}
use Rattle.host_block.specs.declared.slot.Slot.{Slot}

-- what the host answered, and what the calls changed
pub record TouchedView : Type 0 where
  pub bases : Changes
  pub changes : WriteMap

-- ---- private help: the slots of the keys

abbrev pub SlotMap : Type 0
SlotMap = map.FinMap key_cmp Slot

abbrev pub slot_base : Option Slot → Option Content
slot_base None = None
slot_base (Some slot) = slot.base

abbrev pub slot_change : Option Slot → Option ContentChange
slot_change None = None
slot_change (Some slot) = slot.change

-- an entry of a key, if there is a value for it, before others
abbrev pub with_part : {X : Type 0} → List ℕ → Option X → List (List ℕ × X) → List (List ℕ × X)
with_part key None entries = entries
with_part key (Some value) entries = (key, value) ∷ entries

-- the keys that have a part, each with it
abbrev pub slot_parts : {X : Type 0} → (Option Slot → Option X) → List (List ℕ × Slot) → List (List ℕ × X)
slot_parts part [] = []
slot_parts part (e ∷ es) = with_part e.0 (part (Some e.1)) (slot_parts part es)

abbrev pub part_map : {X : Type 0} → (Option Slot → Option X) → SlotMap → map.FinMap key_cmp X
part_map part slots = map.from_entries (slot_parts part (map.entries slots))

abbrev pub touched_view : SlotMap → TouchedView
touched_view slots = record { bases = part_map slot_base slots; changes = part_map slot_change slots }

-- the entries of slots: ascending, each key once
abbrev pub AreSlots : List (List ℕ × Slot) → TouchedView → Type 0
AreSlots entries touched = (slots : SlotMap) × (entries ≡ map.entries slots) × (touched ≡ touched_view slots)
