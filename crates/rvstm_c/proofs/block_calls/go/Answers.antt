use Rattle.std.proofs.Common.{Ok, ap, ◌∙◌}
use Rattle.rvstm_c.specs.Blocks.{block_view}
use Rattle.rvstm_c.proofs.Going.{at_end, at_key, at_pause}
use Rattle.rvstm_c.proofs.block_calls.go.Goals as goal

pub returns-in-Ok-Some : goal.returns-in-Ok-Some
returns-in-Ok-Some c = at_key (block_view c.args.block.now) (block_view c.go.new.self) c.go.result _ c.args.key.now.bytes _ c.go.ensures (c.in-Ok-Some.is ∙ ap Ok c.in-Ok-Some.field-0-is) c.key_for_c.ensures

pub returns-in-Ok-None : goal.returns-in-Ok-None
returns-in-Ok-None c = at_end (block_view c.args.block.now) (block_view c.go.new.self) c.go.result c.result-result.result c.args.key.now.bytes c.go.ensures (c.in-Ok-None.is ∙ ap Ok c.in-Ok-None.field-0-is) c.result-result.ensures

pub returns-in-Err : goal.returns-in-Err
returns-in-Err c = at_pause (block_view c.args.block.now) (block_view c.go.new.self) c.go.result _ c.args.key.now.bytes c.go.ensures c.in-Err.is
