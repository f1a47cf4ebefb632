-- The versions of a block's keys (Block-STM, the multi-version memory).
use Rattle.std.specs.Prelude.{◌≡◌, ◌≢◌, ℕ, List, Option, None, Some, refl}
use Rattle.std.specs.Coded.{Coded, code_by, coded×, coded_list, coded_option, coded_ℕ}
use Rattle.rv_ledger.specs.Change.{ContentChange, coded_change}
use Rattle.std.specs.FinMap.{FinMap, get, insert, remove}
use Rattle.std.specs.Ordering.{nat_cmp, ordering_then}
use Rattle.std.specs.declared.cmp.Ordering.{Ordering}
use Rattle.rv_ledger.specs.Key.{key_cmp}

-- a key, and the index of a call that writes it
abbrev pub Place : Type 0
Place = List ℕ × ℕ

-- places are ordered by key, and then by writer
abbrev pub place_cmp : Place → Place → Ordering
place_cmp p q = ordering_then (key_cmp p.0 q.0) (nat_cmp p.1 q.1)

-- what is at a place: what the writer's run of an incarnation did to the key; or an estimate, if the writer is expected to write
-- again
pub data Entry : Type 0 where
  Stands : ℕ → ContentChange → Entry
  Estimate : Entry

-- the entries of a block, by key and writer
abbrev pub Versions : Type 0
Versions = FinMap place_cmp Entry

abbrev pub entry_at : Versions → List ℕ → ℕ → Option Entry
entry_at versions key writer = get versions (key, writer)

-- the versions with one entry changed: to another, or to none
abbrev pub changed : Versions → Place → Option Entry → Versions
changed versions place (Some entry) = insert versions place entry
changed versions place None = remove versions place

-- no entry is an estimate
abbrev pub HasNoEstimate : Versions → Type 0
HasNoEstimate versions = (place : Place) → get versions place ≢ Some Estimate

abbrev pub coded_place : Coded Place
coded_place = coded× (coded_list coded_ℕ) coded_ℕ

-- an entry as data: an incarnation with a change, or nothing for an estimate
abbrev pub entry_data : Entry → Option (ℕ × ContentChange)
entry_data (Stands incarnation change) = Some (incarnation, change)
entry_data Estimate = None

-- the entry of such data
abbrev pub restored : Option (ℕ × ContentChange) → Entry
restored (Some told) = Stands told.0 told.1
restored None = Estimate

-- an entry that is restored from its data is the same
pub restored_is : (e : Entry) → restored (entry_data e) ≡ e
restored_is (Stands incarnation change) = refl
restored_is Estimate = refl

abbrev pub coded_entry : Coded Entry
coded_entry = code_by (Option (ℕ × ContentChange)) (coded_option (coded× coded_ℕ coded_change)) entry_data restored restored_is
