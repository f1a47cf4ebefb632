use Rattle.std.proofs.Common.{◌≡◌, ◌++◌, length}
use Rattle.std.specs.Vec.Iter.{into_iter_items, into_iter_len}
use Rattle.rv_ledger.specs.Inserted.{inserted}
use Rattle.rv_ledger.proofs.store.Store.of_entries.Given as goal

abbrev pub invariant-loop-key : goal.invariant-loop-key
invariant-loop-key l = record {
  yielded : l.yielded ++ into_iter_items l.key-iterator ≡ l.fn.entries.items;
  left : into_iter_len l.key-iterator ≡ length (into_iter_items l.key-iterator);
  made : l.store ≡ inserted l.yielded;
}
