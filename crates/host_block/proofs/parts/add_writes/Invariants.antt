use Rattle.std.proofs.Common.{◌≡◌, ◌-◌, ◌⊎◌, ℕ, List, length, true}
use Rattle.std.specs.FinMap as map
use Rattle.rv_ledger.specs.Key.{Storage}
use Rattle.host_block.specs.Ordered.{now_with}
use Rattle.host_block.proofs.parts.add_writes.Given as goal

abbrev pub invariant-loop-count : goal.invariant-loop-count
invariant-loop-count l = record {
  bases : l.touched.bases ≡ l.fn.touched.bases;
  same : (store : Storage) → now_with l.touched.changes l.writes l.count store ≡ now_with l.fn.touched.changes l.writes l.fn.count store;
  written : (key : List ℕ) → map.contains_key l.touched.changes key ≡ true → (map.contains_key l.fn.touched.changes key ≡ true) ⊎ (map.contains_key l.writes key ≡ true);
}

abbrev pub decreases-loop-count : goal.decreases-loop-count
decreases-loop-count l = length (map.entries l.writes) - l.count
