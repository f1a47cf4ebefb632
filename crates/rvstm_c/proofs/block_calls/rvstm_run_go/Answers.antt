use Rattle.std.proofs.Common.{◌≡◌, Some, rules}
use Rattle.rvstm_c.specs.Blocks.{RunsOn}
use Rattle.rvstm_c.proofs.Calls.{on_block}
use Rattle.rvstm_c.proofs.block_calls.rvstm_run_go.Goals as goal

pub returns-clause-gone : goal.returns-clause-gone
returns-clause-gone c =
    let had : Some c.deref_mut.result.now ≡ c.args.handle.now.value = search rules in
    let has : c.put_block.new.handle.value ≡ Some c.go-status.new.block = search rules in
    on_block (RunsOn c.args.key.now.bytes c.go-status.new.key.bytes) c.args.handle.now.value c.put_block.new.handle.value c.deref_mut.result.now c.go-status.new.block c.go-status.result had has c.go-status.ensures
