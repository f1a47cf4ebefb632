use Rattle.std.proofs.Common.{inl, refl}
use Rattle.rvstm_c.proofs.block.keep_base.Goals as goal

pub returns-in-Ok : goal.returns-in-Ok
returns-in-Ok c = inl (refl, c.answer.new.self, refl, c.in-Ok.ensures.ok)
