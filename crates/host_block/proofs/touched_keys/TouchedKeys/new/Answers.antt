use Rattle.host_block.specs.Positions.{table_slots}
use Rattle.host_block.proofs.Slots.{none_touched}
use Rattle.host_block.proofs.touched_keys.TouchedKeys.new.Goals as goal

pub returns : goal.returns
returns c = none_touched (table_slots c.new.result) c.new.ensures.none
