use Rattle.std.proofs.Common.{◌≡◌, Some, rules}
use Rattle.session_requests.specs.Requests.{Frame}
use Rattle.rvstm_c.specs.Asked.{with_bytes}
use Rattle.rvstm_c.specs.Embedding.{IsCalled}
use Rattle.rvstm_c.proofs.Calls.{on_session}
use Rattle.rvstm_c.proofs.rvstm_frame.Goals as goal

pub returns : goal.returns
returns c =
    let had : Some c.deref_mut.result.now ≡ c.args.handle.now.value = search rules in
    let has : c.put_session.new.handle.value ≡ Some c.run_frame-status.new.self = search rules in
    on_session (IsCalled (with_bytes c.args.block.now (Frame c.args.block.now))) c.args.handle.now.value c.put_session.new.handle.value c.deref_mut.result.now c.run_frame-status.new.self c.run_frame-status.result had has c.run_frame-status.ensures
