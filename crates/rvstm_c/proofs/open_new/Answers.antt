use Rattle.std.proofs.Common.{◌≡◌, Some, inl, refl, rules}
use Rattle.rvstm_c.proofs.open_new.Goals as goal

pub returns-in-Ok : goal.returns-in-Ok
returns-in-Ok c =
    let has : c.put_session.new.handle.value ≡ Some c.new.result = search rules in
    inl (refl, c.new.result, has, c.new.ensures)
