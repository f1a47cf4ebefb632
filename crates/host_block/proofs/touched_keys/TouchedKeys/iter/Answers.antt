use Rattle.std.proofs.Common.{sym, ◌∙◌}
use Rattle.std.specs.FinMap as map
use Rattle.rv_ledger.proofs.Entries.{entries_in_order}
use Rattle.host_block.specs.Positions.{table_slots}
use Rattle.host_block.proofs.touched_keys.TouchedKeys.iter.Goals as goal

pub returns : goal.returns
returns c = (map.from_entries (table_slots c.self.inside.table), c.iter.ensures.all ∙ sym (entries_in_order (table_slots c.self.inside.table) c.iter.ensures.ascending), sym c.self.view_is)
