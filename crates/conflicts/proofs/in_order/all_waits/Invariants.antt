use Rattle.std.proofs.Common.{◌≡◌, ◌≤◌, ◌*◌, ◌^◌, All, length, map}
use Rattle.std.specs.List.{range_with_len}
use Rattle.rv_step.specs.Fold.{receipts_of, store_before}
use Rattle.conflicts.specs.ByKey.{call_by_key}
use Rattle.conflicts.specs.Paths.{ArePaths}
use Rattle.conflicts.specs.Waits.{calls_of}
use Rattle.conflicts.proofs.Counted.{AreWriters, counts_of}
use Rattle.conflicts.proofs.Noted.{Names}
use Rattle.conflicts.proofs.in_order.all_waits.Given as goal

abbrev pub invariant-loop-index : goal.invariant-loop-index
invariant-loop-index l = record {
  all : l.all.items ≡ map (call_by_key l.fn.calls l.fn.store) (range_with_len 0 l.index);
  store : l.progress.store ≡ store_before l.fn.calls l.index l.fn.store;
  named : Names l.progress.named (receipts_of l.fn.calls l.fn.store) l.index;
  writers : AreWriters l.progress.writers (receipts_of l.fn.calls l.fn.store) l.index;
  waits : l.progress.waits ≡ counts_of l.fn.calls l.fn.store l.index;
  count : length l.progress.paths.items ≡ l.index;
  paths : ArePaths (calls_of l.fn.calls l.fn.store) l.progress.paths.items;
  bound : All (λ path. path ≤ l.index * 2 ^ 32) l.progress.paths.items;
}
