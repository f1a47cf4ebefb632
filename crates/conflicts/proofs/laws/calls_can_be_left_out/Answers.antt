use Rattle.conflicts.specs.Waits.{calls_of}
use Rattle.conflicts.proofs.LeftOut.{left_out, needed_closed}
use Rattle.conflicts.proofs.laws.calls_can_be_left_out.Goals as goal

pub returns-clause-closed : goal.returns-clause-closed
returns-clause-closed c = λ block store stays closed. left_out stays block store closed

pub returns-clause-one_call : goal.returns-clause-one_call
returns-clause-one_call c = λ block store stays j h. left_out stays block store (needed_closed stays (calls_of block store) j h)
