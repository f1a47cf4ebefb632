use Rattle.std.proofs.Common.{ap, ◌∙◌}
use Rattle.std.specs.FinMap as map
use Rattle.std.proofs.lemmas.Result.{on_ok_weaker}
use Rattle.host_block.specs.Positions.{table_slots}
use Rattle.host_block.specs.Slots.{TouchedView}
use Rattle.host_block.proofs.Slots.{base_set}
use Rattle.host_block.proofs.touched_keys.TouchedKeys.set_base.Goals as goal

pub returns-clause-ok : goal.returns-clause-ok
returns-clause-ok c = on_ok_weaker c.set_base.result (λ h. base_set (table_slots c.self.inside.table) (table_slots c.set_base.new.self) c.args.key c.args.content h ∙ ap (λ (t : TouchedView). record t { bases = map.insert t.bases c.args.key c.args.content }) c.self.view_is) c.set_base.ensures.set
