-- What a call does to a key, and what the key has then.
use Rattle.std.specs.Prelude.{◌≡◌, ℕ, ◌+◌, ◌%◌, ◌^◌, ◌==◌, if◌then◌else◌, List, [], length, Option, None, Some, refl}
use Rattle.std.specs.Borrow.{Bor}
use Rattle.std.specs.Coded.{Coded, code_by, coded×, coded_list, coded_option, coded_ℕ}
use Rattle.std.specs.Int.{w64, from_le_bytes, to_le_bytes}
use Rattle.rv_ledger.specs.declared.change.Change.{Change}
use Rattle.rv_ledger.specs.declared.change.Change.TheVariants as change

-- what a key has: a value, or None if the key is absent
abbrev pub Content : Type 0
Content = Option (List ℕ)

-- a change of a key: a value, the key's removal, or an amount that is added
abbrev pub ContentChange : Type 0
ContentChange = Change (List ℕ)

-- the number in a content: that of a value of exactly eight bytes, the least first; any other value counts as 0, and so
-- does absence
unfoldable pub number_in : Content → ℕ
number_in None = 0
number_in (Some value) = if length value == 8 then from_le_bytes w64 value else 0

-- the sum of two amounts, which wraps at 2^64
abbrev pub wrapping_sum : ℕ → ℕ → ℕ
wrapping_sum left right = (left + right) % 2 ^ 64

-- the value of eight bytes that a content has after an amount is added to its number
unfoldable pub add : Content → ℕ → List ℕ
add content amount = to_le_bytes w64 (wrapping_sum (number_in content) amount)

-- what a key has after a change
abbrev pub apply_change : ContentChange → Content → Content
apply_change (change.Value value) content = Some value
apply_change change.Gone content = None
apply_change (change.Sum amount) content = Some (add content amount)

-- the same change with f applied to its value
abbrev pub change_map : {V W : Type 0} → (V → W) → Change V → Change W
change_map f (change.Value value) = change.Value (f value)
change_map f change.Gone = change.Gone
change_map f (change.Sum amount) = change.Sum amount

-- the change whose value is borrowed by c
abbrev pub change_copied : {V : Type 0} → Change (Bor V) → Change V
change_copied c = change_map (λ value. value.now) c

-- P of the value, if a change has one
abbrev pub IfValue : {V : Type 0} → Change V → (V → Type 0) → Type 0
IfValue (change.Value value) P = P value
IfValue change.Gone P = Unit {0}
IfValue (change.Sum amount) P = Unit {0}

-- a change as data: a value; or none, and an amount or none
abbrev pub stored_change : ContentChange → List ℕ × Option (Option ℕ)
stored_change (change.Value value) = (value, None)
stored_change change.Gone = ([], Some None)
stored_change (change.Sum amount) = ([], Some (Some amount))

-- the change of such data
abbrev pub restored_change : List ℕ × Option (Option ℕ) → ContentChange
restored_change (value, None) = change.Value value
restored_change (value, Some None) = change.Gone
restored_change (value, Some (Some amount)) = change.Sum amount

-- a change is restored from its data
pub restored_change_is : (c : ContentChange) → restored_change (stored_change c) ≡ c
restored_change_is (change.Value value) = refl
restored_change_is change.Gone = refl
restored_change_is (change.Sum amount) = refl

-- the code of a change, by its data
abbrev pub coded_change : Coded ContentChange
coded_change = code_by (List ℕ × Option (Option ℕ)) (coded× (coded_list coded_ℕ) (coded_option (coded_option coded_ℕ))) stored_change restored_change restored_change_is
