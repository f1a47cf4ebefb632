use Rattle.std.proofs.Common.{◌≡◌, Some, rules}
use Rattle.session_requests.specs.Requests.{Forget}
use Rattle.rvstm_c.specs.Asked.{with_name}
use Rattle.rvstm_c.specs.Embedding.{IsCalled}
use Rattle.rvstm_c.proofs.Calls.{on_session}
use Rattle.rvstm_c.proofs.rvstm_forget.Goals as goal

pub returns : goal.returns
returns c =
    let had : Some c.deref_mut.result.now ≡ c.args.handle.now.value = search rules in
    let has : c.put_session.new.handle.value ≡ Some c.forget-status.new.self = search rules in
    on_session (IsCalled (with_name Forget c.args.name.now)) c.args.handle.now.value c.put_session.new.handle.value c.deref_mut.result.now c.forget-status.new.self c.forget-status.result had has c.forget-status.ensures
