use Rattle.std.proofs.Common.{◌≡◌, Some, rules}
use Rattle.rvstm_c.specs.Blocks.{IsBased}
use Rattle.rvstm_c.proofs.Calls.{on_block}
use Rattle.rvstm_c.proofs.block_calls.rvstm_run_base.Goals as goal

pub returns : goal.returns
returns c =
    let had : Some c.deref_mut.result.now ≡ c.args.handle.now.value = search rules in
    let has : c.put_block.new.handle.value ≡ Some c.answer-status.new.self = search rules in
    on_block (IsBased c.args.present c.args.value.now) c.args.handle.now.value c.put_block.new.handle.value c.deref_mut.result.now c.answer-status.new.self c.answer-status.result had has c.answer-status.ensures
