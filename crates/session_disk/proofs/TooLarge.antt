-- Writes that would make a file too large, counted beside those that found no room.
use Rattle.std.proofs.Common.{◌≡◌, ◌+◌, ◌-◌, ◌^◌, ◌&&◌, not, min, ℕ, Bool, true, false, IsTrue, MatchBool, Result, refl, ap₂, arith}
use Rattle.std.specs.declared.io.Error.{Error}
use Rattle.sqlite_disk.specs.Disk.{MoreFaults}
use Rattle.sqlite_disk.specs.Refusal.{finds_no_room}
use Rattle.sqlite_disk.specs.Tally.{CountsRefusal}
use Rattle.sqlite_disk.specs.declared.tally.Tally.{Tally}
use Rattle.session_disk.specs.Named.{with_limit}

abbrev top : ℕ
top = 2 ^ 64 - 1

-- both counts together rise exactly if one of them does
both_rise : (found shown : Bool) (r s m n : ℕ) → (IsTrue found → IsTrue shown) → MatchBool found (MoreFaults r s) (s ≡ r) → MatchBool (shown && not found) (MoreFaults m n) (n ≡ m)
    → MatchBool shown (MoreFaults (min (r + m) top) (min (s + n) top)) (min (s + n) top ≡ min (r + m) top)
both_rise true true r s m n keeps more same = omega arith
both_rise true false r s m n keeps more same = let never : false ≡ true = keeps refl in cc
both_rise false true r s m n keeps same more = omega arith
both_rise false false r s m n keeps same too = ap₂ (λ (a b : ℕ). min (a + b) top) same too

pub counts_both : {T : Type 0} (answer result : Result T Error) (old new : Tally) (m n : ℕ) → (IsTrue (finds_no_room answer) → IsTrue (finds_no_room result)) → CountsRefusal answer old new
    → MatchBool (finds_no_room result && not (finds_no_room answer)) (MoreFaults m n) (n ≡ m) → CountsRefusal result (with_limit old m) (with_limit new n)
counts_both answer result old new m n keeps counted more = record {
  caught = counted.caught;
  refused = both_rise (finds_no_room answer) (finds_no_room result) old.refused new.refused m n keeps counted.refused more;
}
