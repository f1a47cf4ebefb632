use Rattle.std.proofs.Common.{◌≡◌, Some, rules}
use Rattle.session_requests.specs.Requests.{State}
use Rattle.rvstm_c.specs.Embedding.{IsCalled}
use Rattle.rvstm_c.proofs.Calls.{on_session}
use Rattle.rvstm_c.proofs.rvstm_state.Goals as goal

pub returns : goal.returns
returns c =
    let had : Some c.deref_mut.result.now ≡ c.args.handle.now.value = search rules in
    let has : c.put_session.new.handle.value ≡ Some c.tell_state-status.new.self = search rules in
    on_session (IsCalled (Some State)) c.args.handle.now.value c.put_session.new.handle.value c.deref_mut.result.now c.tell_state-status.new.self c.tell_state-status.result had has c.tell_state-status.ensures
