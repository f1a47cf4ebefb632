-- Why a write of an entry may fail.
use Rattle.std.proofs.Common.{◌≡◌, ◌≤◌, ◌+◌, ◌^◌, ℕ, suc, zero, false, List, length, Some, refl, arith}
use Rattle.std.proofs.Math.Nat.{lt_of_not-le}
use Rattle.std.specs.Float.{NotNan}
use lib.Ieee.{is_nan}
use Rattle.std.specs.Int.{bit_at}
use Rattle.std.proofs.lemmas.List.Elements.{All-from_recursion}
use Rattle.sqlite_value.specs.Order.{Row, column, number}
use Rattle.sqlite_disk.specs.Disk.{MoreFaults}
use Rattle.sqlite_trees.specs.View.{View, HasCause, IsStorable, is_int}
use Rattle.sqlite_trees.specs.declared.error.StoreError.{StoreError}
use Rattle.sqlite_trees.specs.declared.error.StoreError.TheVariants.{OutOfMemory, Io, Corrupt, Full, Broken, Unstorable}
use Rattle.session_tree.specs.Entries.{IsTooLong, entry_row}

-- the failure of a later call, as the cause of all calls from an earlier moment on
pub later_cause : (old mid : View) (a b c : ℕ) (U V : Type 0) (e : StoreError) → a ≤ b → mid.is_broken ≡ old.is_broken → (U → V)
    → HasCause mid (MoreFaults b c) U e → HasCause old (MoreFaults a c) V e
later_cause old mid a b c U V OutOfMemory up same weaker h = tt
later_cause old mid a b c U V Broken up same weaker h = rw same at h
later_cause old mid a b c U V Unstorable up same weaker h = weaker h
later_cause old mid a b c U V e up same weaker h = omega (arith, h)

-- the same cause, if another limit is met
pub other_limit : (old : View) (F U V : Type 0) (e : StoreError) → (U → V) → HasCause old F U e → HasCause old F V e
other_limit old F U V Unstorable weaker h = weaker h
other_limit old F U V e weaker h = h

-- the failure of an earlier call
pub earlier_cause : (old : View) (a b c : ℕ) (U : Type 0) (e : StoreError) → b ≤ c → HasCause old (MoreFaults a b) U e → HasCause old (MoreFaults a c) U e
earlier_cause old a b c U Io up h = omega (arith, h)
earlier_cause old a b c U Corrupt up h = omega (arith, h)
earlier_cause old a b c U Full up h = omega (arith, h)
earlier_cause old a b c U e up h = h

-- an entry that is not too long can be stored
storable : (reals : ℕ) (key value : List ℕ) → 36 + length key + length value ≤ 10 ^ 9 → IsStorable reals (entry_row (key, value))
unfolding is_nan
storable reals key value short = record {
  typed = go;
  columns = (omega arith, omega arith);
  numbers = All-from_recursion (λ v. NotNan (number v)) (entry_row (key, value)) (tt, (tt, tt));
  short = omega (arith, short);
}
  where
    go : (c : ℕ) → bit_at reals c ≡ 1 → is_int (column (entry_row (key, value)) c) ≡ false
    go zero one = refl
    go (suc zero) one = refl
    go (suc (suc c)) one = refl

too_long : (reals : ℕ) (key value : List ℕ) → ¬ IsStorable reals (entry_row (key, value)) → IsTooLong key (Some value)
too_long reals key value not = lt_of_not-le (λ short. not (storable reals key value short))

-- the cause of a refused insert, by its new entry
pub insert_cause : (old : View) (F : Type 0) (reals : ℕ) (key value : List ℕ) (row : Row) (e : StoreError) → row ≡ entry_row (key, value)
    → HasCause old F (¬ IsStorable reals row) e → HasCause old F (IsTooLong key (Some value)) e
insert_cause old F reals key value row e is why = other_limit old F _ _ e (λ not. too_long reals key value (rw is at not)) why
