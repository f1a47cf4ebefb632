use Rattle.std.proofs.Common.{◌≡◌, Some, rules}
use Rattle.rvstm_c.specs.Asked.{list_asked}
use Rattle.rvstm_c.specs.Embedding.{IsCalled}
use Rattle.rvstm_c.proofs.Calls.{on_session}
use Rattle.rvstm_c.proofs.rvstm_list.Goals as goal

pub returns : goal.returns
returns c =
    let had : Some c.deref_mut.result.now ≡ c.args.handle.now.value = search rules in
    let has : c.put_session.new.handle.value ≡ Some c.list-status.new.self = search rules in
    on_session (IsCalled (list_asked c.args.from.now c.args.count)) c.args.handle.now.value c.put_session.new.handle.value c.deref_mut.result.now c.list-status.new.self c.list-status.result had has c.list-status.ensures
