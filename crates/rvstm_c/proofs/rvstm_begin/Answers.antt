use Rattle.std.proofs.Common.{◌≡◌, Some, rules}
use Rattle.rvstm_c.specs.Asked.{begin_asked}
use Rattle.rvstm_c.specs.Embedding.{IsCalled}
use Rattle.rvstm_c.proofs.Calls.{on_session}
use Rattle.rvstm_c.proofs.rvstm_begin.Goals as goal

pub returns : goal.returns
returns c =
    let had : Some c.deref_mut.result.now ≡ c.args.handle.now.value = search rules in
    let has : c.put_session.new.handle.value ≡ Some c.begin-status.new.self = search rules in
    on_session (IsCalled (begin_asked c.args.height c.args.digest.now c.args.block.now)) c.args.handle.now.value c.put_session.new.handle.value c.deref_mut.result.now c.begin-status.new.self c.begin-status.result had has c.begin-status.ensures
