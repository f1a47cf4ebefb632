-- The tables of a session can be made, in this order.
use Rattle.std.proofs.Common.{◌≡◌, ℕ, ◌+◌, ◌<◌, ◌≤◌, List, [], ◌∷◌, length, pos, true, refl, lit<, lit≤, arith}
use Rattle.std.proofs.lemmas.List.Elements.{All-from_recursion}
use Rattle.std.proofs.lemmas.List.Sums.{sum_by-cons}
use Rattle.std.proofs.lemmas.Nat.Bits.{bit_at-zero}
use Rattle.std.specs.Float.{NotNan}
use lib.Ieee.{is_nan, lt}
use Rattle.sqlite_value.specs.declared.value.Value.TheVariants.{Int, Text}
use Rattle.sqlite_value.specs.Order.{number, value_cmp}
use Rattle.sqlite_trees.specs.View.{IsStorable}
use Rattle.sqlite_trees.specs.Sound.{begins, fits_kind, is_free_name, may_follow, same_name}
use Rattle.sqlite_store.specs.Build.{CanBuild, are_listable, listing}
use Rattle.sqlite_store.specs.Catalog.{describes, is_about, is_plain}
use Rattle.session_disk.specs.Tables.{session_schema}

short_listing : (kind name table sql : List ℕ) (root : ℕ) → length kind + length name + length table + length sql ≤ 999999874
    → IsStorable 0 (Text kind ∷ Text name ∷ Text table ∷ Int (pos root) ∷ Text sql ∷ [])
unfolding is_nan
short_listing kind name table sql root short =
    record {
      typed = λ c set. absurd (omega (arith, bit_at-zero c));
      columns = omega arith;
      numbers = All-from_recursion (λ v. NotNan (number v)) (Text kind ∷ Text name ∷ Text table ∷ Int (pos root) ∷ Text sql ∷ []) (tt, (tt, (tt, (tt, (tt, tt)))));
      short = simp sum_by-cons (omega arith);
    }

listable : are_listable session_schema ≡ true
unfolding session_schema describes is_about fits_kind is_free_name may_follow same_name begins value_cmp is_nan lt
listable = refl

pub few_tables : length session_schema < 65536
unfolding session_schema
few_tables = lit< tt

pub can_build : CanBuild session_schema
unfolding session_schema
can_build = record {
  distinct = listable;
  shaped = All-from_recursion (λ wanted. is_plain wanted.shape ≡ true) session_schema (refl, (refl, (refl, (refl, tt))));
  short = All-from_recursion (λ wanted. (root : ℕ) → IsStorable 0 (listing wanted root)) session_schema (
    (λ root. short_listing _ _ _ _ root (lit≤ tt)),
    ((λ root. short_listing _ _ _ _ root (lit≤ tt)), ((λ root. short_listing _ _ _ _ root (lit≤ tt)), ((λ root. short_listing _ _ _ _ root (lit≤ tt)), tt))),
  );
}
