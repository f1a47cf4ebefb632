use Rattle.std.proofs.Common.{◌≡◌, Some, rules}
use Rattle.rvstm_c.specs.Blocks.{AddsCallOf}
use Rattle.rvstm_c.specs.Entries.{program_in}
use Rattle.rvstm_c.proofs.Calls.{on_block}
use Rattle.rvstm_c.proofs.block_calls.rvstm_calls_add.Goals as goal

pub returns-clause-added : goal.returns-clause-added
returns-clause-added c =
    let had : Some c.deref_mut.result.now ≡ c.args.handle.now.value = search rules in
    let has : c.put_block.new.handle.value ≡ Some c.add_call-status.new.block = search rules in
    on_block (AddsCallOf (program_in c.args.image.now.value) c.args.gas c.args.input.now) c.args.handle.now.value c.put_block.new.handle.value c.deref_mut.result.now c.add_call-status.new.block c.add_call-status.result had has c.add_call-status.ensures.added
