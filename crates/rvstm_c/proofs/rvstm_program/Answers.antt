use Rattle.std.proofs.Common.{◌≡◌, Some, rules}
use Rattle.session_requests.specs.Requests.{Program}
use Rattle.rvstm_c.specs.Asked.{with_bytes}
use Rattle.rvstm_c.specs.Embedding.{IsCalled}
use Rattle.rvstm_c.proofs.Calls.{on_session}
use Rattle.rvstm_c.proofs.rvstm_program.Goals as goal

pub returns : goal.returns
returns c =
    let had : Some c.deref_mut.result.now ≡ c.args.handle.now.value = search rules in
    let has : c.put_session.new.handle.value ≡ Some c.load_program-status.new.self = search rules in
    on_session (IsCalled (with_bytes c.args.file.now (Program c.args.file.now))) c.args.handle.now.value c.put_session.new.handle.value c.deref_mut.result.now c.load_program-status.new.self c.load_program-status.result had has c.load_program-status.ensures
