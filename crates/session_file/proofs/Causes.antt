-- Why a part of a session may not be stored.
use Rattle.std.proofs.Common.{◌≡◌, ◌≤◌, ◌+◌, ◌^◌, ℕ, List, length, Option, Some, None, arith}
use Rattle.std.proofs.Math.Nat.{lt_of_not-le}
use Rattle.std.specs.Float.{NotNan}
use lib.Ieee.{is_nan}
use Rattle.std.proofs.lemmas.List.Elements.{All-from_recursion}
use Rattle.sqlite_value.specs.Order.{Row, number}
use Rattle.sqlite_trees.specs.View.{IsStorableRow}
use Rattle.session_file.specs.Kept.{answer_row, session_row}
use Rattle.session_file.specs.Limits.{IsLongAnswer}
use Rattle.session_file.specs.declared.rows.SessionRow.{SessionRow}

session_storable : (s : SessionRow) → length s.digest ≡ 32 → IsStorableRow 0 (session_row s)
unfolding is_nan
session_storable s digest = go s.frame_gas
  where
    go : (gas : Option ℕ) → IsStorableRow 0 (session_row (record s { frame_gas = gas }))
    go None = (
      record {
        typed = λ c one. absurd (grind arith);
        columns = (omega arith, omega arith);
        numbers = All-from_recursion (λ v. NotNan (number v)) (session_row (record s { frame_gas = None })) (tt, (tt, (tt, (tt, (tt, (tt, (tt, (tt, (tt, tt)))))))));
        short = omega (arith, digest);
      },
      omega arith,
    )
    go (Some n) = (
      record {
        typed = λ c one. absurd (grind arith);
        columns = (omega arith, omega arith);
        numbers = All-from_recursion (λ v. NotNan (number v)) (session_row (record s { frame_gas = Some n })) (tt, (tt, (tt, (tt, (tt, (tt, (tt, (tt, (tt, tt)))))))));
        short = omega (arith, digest);
      },
      omega arith,
    )

-- a session with small numbers has a row that can be stored
pub session_stored : (s : SessionRow) (reals : ℕ) (row : Row) → length s.digest ≡ 32 → reals ≡ 0 → row ≡ session_row s → ¬ IsStorableRow reals row → ⊥
session_stored s reals row digest none is not = not (rw (none, is) (session_storable s digest))

answer_storable : (a : List ℕ × List ℕ) → 72 + length a.0 + length a.1 ≤ 10 ^ 9 → IsStorableRow 0 (answer_row a)
unfolding is_nan
answer_storable a short = (
  record {
    typed = λ c one. absurd (grind arith);
    columns = (omega arith, omega arith);
    numbers = All-from_recursion (λ v. NotNan (number v)) (answer_row a) (tt, (tt, (tt, (tt, tt))));
    short = omega (arith, short);
  },
  omega arith,
)

-- an answer whose row can't be stored is long
pub long_answer : (a : List ℕ × List ℕ) (reals : ℕ) (row : Row) → reals ≡ 0 → row ≡ answer_row a → ¬ IsStorableRow reals row → IsLongAnswer a
long_answer a reals row none is not = lt_of_not-le (λ short. not (rw (none, is) (answer_storable a short)))
