use Rattle.std.proofs.Common.{ap, ◌∙◌}
use Rattle.std.specs.FinMap as map
use Rattle.std.proofs.lemmas.Result.{on_ok_weaker}
use Rattle.host_block.specs.Positions.{table_slots}
use Rattle.host_block.specs.Slots.{TouchedView}
use Rattle.host_block.proofs.Slots.{change_set}
use Rattle.host_block.proofs.touched_keys.TouchedKeys.set_change.Goals as goal

pub returns-clause-ok : goal.returns-clause-ok
returns-clause-ok c = on_ok_weaker c.set_change.result (λ h. change_set (table_slots c.self.inside.table) (table_slots c.set_change.new.self) c.args.key c.args.change h ∙ ap (λ (t : TouchedView). record t { changes = map.insert t.changes c.args.key c.args.change }) c.self.view_is) c.set_change.ensures.set
