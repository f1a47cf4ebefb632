use Rattle.std.proofs.Common.{◌≡◌, Some, rules}
use Rattle.session_requests.specs.Requests.{Dump}
use Rattle.rvstm_c.specs.Embedding.{IsCalled}
use Rattle.rvstm_c.proofs.Calls.{on_session}
use Rattle.rvstm_c.proofs.rvstm_dump.Goals as goal

pub returns : goal.returns
returns c =
    let had : Some c.deref_mut.result.now ≡ c.args.handle.now.value = search rules in
    let has : c.put_session.new.handle.value ≡ Some c.dump-status.new.self = search rules in
    on_session (IsCalled (Some Dump)) c.args.handle.now.value c.put_session.new.handle.value c.deref_mut.result.now c.dump-status.new.self c.dump-status.result had has c.dump-status.ensures
