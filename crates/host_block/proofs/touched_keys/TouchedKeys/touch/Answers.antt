use Rattle.std.proofs.Common.{◌∙◌}
use Rattle.host_block.specs.Positions.{table_slots}
use Rattle.host_block.proofs.Slots.{placed_or_same}
use Rattle.host_block.proofs.touched_keys.TouchedKeys.touch.Goals as goal

pub returns : goal.returns
returns c = placed_or_same c.place.result (table_slots c.self.inside.table) (table_slots c.place.new.self) c.args.key.now c.place.ensures.stays c.place.ensures.unchanged ∙ c.self.view_is
