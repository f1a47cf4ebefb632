use Rattle.host_block.specs.Positions.{table_slots}
use Rattle.host_block.proofs.Slots.{base_found, change_found}
use Rattle.host_block.proofs.touched_keys.TouchedKeys.get.Goals as goal

pub returns-clause-base : goal.returns-clause-base
returns-clause-base c = base_found (table_slots c.self.inside.table) c.args.self.now c.args.key.now _ c.get.ensures c.self.view_is

pub returns-clause-change : goal.returns-clause-change
returns-clause-change c = change_found (table_slots c.self.inside.table) c.args.self.now c.args.key.now _ c.get.ensures c.self.view_is
