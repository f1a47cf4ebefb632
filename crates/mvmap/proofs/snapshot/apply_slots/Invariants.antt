use Rattle.std.proofs.Common.{◌≡◌, ◌<◌, ℕ, List}
use Rattle.std.specs.FinMap as map
use Rattle.mvmap.specs.KeyTable.{positions_of, slots_in}
use Rattle.mvmap.specs.Slots.{at_places, value_over_slots}
use Rattle.mvmap.specs.Writers.{AreWritersAscending}
use Rattle.mvmap.proofs.Applied.{writers_before}
use Rattle.mvmap.proofs.snapshot.apply_slots.Given as goal

abbrev pub invariant-loop-at_key : goal.invariant-loop-at_key
invariant-loop-at_key l =
    let list = l.at_key-items in record {
      values : (key : List ℕ) → map.get l.store key ≡ value_over_slots l.arena.records (at_places key (writers_before (positions_of list) list l.at_key-index key)) key (map.get l.fn.store key);
      ascending : (p : ℕ) → p < l.at_key-index → AreWritersAscending (slots_in list p);
    }
