-- Entries in the order of their keys; only private functions, of mvmap too, and the model of `Writes` use this.
use Rattle.std.specs.Prelude.{◌≡◌, ◌<◌, ◌≤◌, ℕ, List, length, slice_get, Some}
use Rattle.std.specs.declared.cmp.Ordering.{Ordering}
use Rattle.std.specs.declared.cmp.Ordering.TheVariants.{Greater, Less}
use Rattle.std.specs.List.{HoldsAt}
use Rattle.std.specs.List.Sorted.{IsStrictlySortedBy}
use Rattle.std.specs.Map.{keys_of}
use Rattle.rv_ledger.specs.Change.{ContentChange}
use Rattle.rv_ledger.specs.Key.{key_cmp}

-- the keys rise, so none comes twice
abbrev pub AreAscending : {X : Type 0} → List (List ℕ × X) → Type 0
AreAscending entries = IsStrictlySortedBy key_cmp (keys_of entries)

-- the entries of what a call has written
pub record IsWriteList (entries : List (List ℕ × ContentChange)) : Type 0 where
  pub ascending : AreAscending entries
  pub few : length entries ≤ 256

-- the entry at position i is the key's
pub record IsAt {K X : Type 0} (entries : List (K × X)) (key : K) (i : ℕ) : Type 0 where
  pub in_range : i < length entries
  pub of_key : HoldsAt (λ e. e.0 ≡ key) entries i

-- by the order cmp of keys, the key's entry would go at position i: lower keys before it, and a higher one at it
pub record IsGapBy {K X : Type 0} (cmp : K → K → Ordering) (entries : List (K × X)) (key : K) (i : ℕ) : Type 0 where
  pub in_range : i ≤ length entries
  pub lower_before : (j : ℕ) (e : K × X) → j < i → slice_get entries j ≡ Some e → cmp key e.0 ≡ Greater
  pub higher_at : (e : K × X) → slice_get entries i ≡ Some e → cmp key e.0 ≡ Less

abbrev pub IsGapFor : {X : Type 0} → List (List ℕ × X) → List ℕ → ℕ → Type 0
IsGapFor entries key i = IsGapBy key_cmp entries key i
