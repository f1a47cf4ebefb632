use Rattle.std.proofs.Common.{refl, inl}
use Rattle.engines.proofs.dis.dis_to.Goals as goal

-- a fault of the file
pub returns-in-Err-clause-refused : goal.returns-in-Err-clause-refused
returns-in-Err-clause-refused g c = inl (refl, (c.in-Err.fault, c.from.ensures, c.in-Err.ensures.err))
