use Rattle.std.proofs.Common.{◌≡◌, Some, rules}
use Rattle.session_requests.specs.Requests.{Get}
use Rattle.rvstm_c.specs.Asked.{with_name}
use Rattle.rvstm_c.specs.Embedding.{IsCalled}
use Rattle.rvstm_c.proofs.Calls.{on_session}
use Rattle.rvstm_c.proofs.rvstm_get.Goals as goal

pub returns : goal.returns
returns c =
    let had : Some c.deref_mut.result.now ≡ c.args.handle.now.value = search rules in
    let has : c.put_session.new.handle.value ≡ Some c.get-status.new.self = search rules in
    on_session (IsCalled (with_name Get c.args.key.now)) c.args.handle.now.value c.put_session.new.handle.value c.deref_mut.result.now c.get-status.new.self c.get-status.result had has c.get-status.ensures
