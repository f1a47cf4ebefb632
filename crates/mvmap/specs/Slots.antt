-- The versions that a map of slots stands for; only `MvMap`'s view and private functions use this.
use Rattle.std.specs.Prelude.{◌≡◌, ◌<◌, ◌⊎◌, ℕ, Bool, false, List, [], ◌∷◌, ◌++◌, length, map, Option, None, Some, slice_get, if◌then◌else◌}
use Rattle.std.specs.Option.{option_and_then, option_map}
use Rattle.std.specs.Map.{lookup, keys_of}
use Rattle.std.specs.BTreeMap.{is_at}
use Rattle.std.specs.FinMap.{empty}
use Rattle.std.specs.Ordering.{eq_by_cmp}
use Rattle.rv_ledger.specs.Change.{Content, apply_change}
use Rattle.rv_ledger.specs.Key.{key_cmp}
use Rattle.std.specs.FinSet.{FinSet, from_list}
use Rattle.version_arena.specs.ArenaState.{Record}
use Rattle.read_set.specs.declared.origin.Version.{Version}
use Rattle.mvmap.specs.Reading.{Visible, is_walk, visible_below}
use Rattle.mvmap.specs.Versions.{Entry, Stands, Estimate, Place, Versions, changed, place_cmp}
use Rattle.mvmap.specs.Writers.{ByWriter, slot_of}
use Rattle.mvmap.specs.declared.slot.Slot.{Slot}
use Rattle.mvmap.specs.declared.slot.Slot.TheVariants as slot

-- slots, by their places in order
abbrev pub SlotsByPlace : Type 0
SlotsByPlace = List (Place × Slot)

-- slots by key, and then by writer
abbrev pub ByKey : Type 0
ByKey = List (List ℕ × ByWriter)

-- the slots at a key, by their places
abbrev pub at_places : List ℕ → ByWriter → SlotsByPlace
at_places key ws = map (λ s. ((key, s.0), s.1)) ws

-- the slots at all keys, by their places
abbrev pub flat : ByKey → SlotsByPlace
flat [] = []
flat (e ∷ es) = at_places e.0 e.1 ++ flat es

abbrev pub slot_at : SlotsByPlace → Place → Option Slot
slot_at slots place = lookup (is_at (place_cmp place)) slots

-- the entry that a slot stands for among the records
abbrev pub entry_of : List Record → Slot → Option Entry
entry_of records slot.Vacant = None
entry_of records slot.Estimate = Some Estimate
entry_of records (slot.Placed id) = option_map (λ r. Stands r.incarnation r.change) (slice_get records id)

-- the entries that the slots at a key stand for, by their writers
abbrev pub entries_in : List Record → ByWriter → ℕ → Option Entry
entries_in records ws writer = option_and_then (entry_of records) (slot_of ws writer)

-- what call i sees of a key with these slots
abbrev pub seen_in : List Record → ByWriter → ℕ → Visible
seen_in records ws i = visible_below (entries_in records ws) i

-- the versions that slots stand for
abbrev pub versions_of : List Record → SlotsByPlace → Versions
versions_of records [] = empty
versions_of records (s ∷ slots) = changed (versions_of records slots) s.0 (entry_of records s.1)

-- the places that have a slot
abbrev pub places_of : SlotsByPlace → FinSet place_cmp
places_of slots = from_list (keys_of slots)

-- each slot that names a record names one of these records
abbrev pub AreSlotsPlaced : List Record → SlotsByPlace → Type 0
AreSlotsPlaced records slots = (place : Place) (id : ℕ) → slot_at slots place ≡ Some (slot.Placed id) → id < length records

-- the same of the slots at one key
abbrev pub ArePlacedIn : List Record → ByWriter → Type 0
ArePlacedIn records ws = (writer id : ℕ) → slot_of ws writer ≡ Some (slot.Placed id) → id < length records

-- each slot that was there is unchanged; elsewhere there is still none, or now a vacant one
abbrev pub AreSlotsOpened : SlotsByPlace → SlotsByPlace → Type 0
AreSlotsOpened old new = (place : Place) → (slot_at new place ≡ slot_at old place) ⊎ ((slot_at old place ≡ None) × (slot_at new place ≡ Some slot.Vacant))

-- the value of a key after an entry is applied to the value that it had
abbrev pub value_over : Content → Option Entry → Content
value_over base None = base
value_over base (Some (Stands incarnation change)) = apply_change change base
value_over base (Some Estimate) = base

-- the value of a key after the slots at it are applied in turn to the value that it had
abbrev pub value_over_slots : List Record → SlotsByPlace → List ℕ → Content → Content
value_over_slots records [] key base = base
value_over_slots records (s ∷ slots) key base = value_over_slots records slots key (if eq_by_cmp key_cmp key s.0.0 then value_over base (entry_of records s.1) else base)

-- whether the rest of an origin is what is seen below a version that was passed; there is no rest if that version is not the next
-- one of the origin
abbrev pub walk_after : Option (List Version) → Option Version → Visible → Bool
walk_after None bottom below = false
walk_after (Some rest) bottom below = is_walk rest bottom below
