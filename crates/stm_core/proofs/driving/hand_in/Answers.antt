use Rattle.stm_core.proofs.Fits.{own_run}
use Rattle.stm_core.proofs.driving.hand_in.Goals as goal

pub unreachable-requires : goal.unreachable-requires
unreachable-requires c =
    let own = own_run c.args.worker c.args.core.now c.args.run c.finish-run.result c.finish-run.ensures.call c.finish-run.ensures.answers c.requires.due.due_step c.requires.fits in
    (c.in-Err.ensures.own c.finish-run.result c.of-ready.ensures).1 own c.in-Foreign.is
