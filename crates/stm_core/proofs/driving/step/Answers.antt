use Rattle.std.proofs.Common.{refl}
use Rattle.stm_state.specs.State.{task_at}
use Rattle.stm_state.specs.Steps.{Ask}
use Rattle.stm_core.specs.CoreState.{block_in, step_of}
use Rattle.stm_core.proofs.Fits.{next_fits, no_record, rests_after}
use Rattle.stm_core.proofs.TaskChanges.{turn_own}
use Rattle.stm_core.proofs.driving.step.Goals as goal

pub returns-in-Ask-clause-fits : goal.returns-in-Ask-clause-fits
returns-in-Ask-clause-fits c =
    let b = c.args.core.now in
    next_fits b.job.block c.args.run.now (task_at b.state c.args.worker) _ (no_record b.state _ _ c.in-Ask.ensures.doing refl) c.requires.fits
    (turn_own (block_in b) c.args.worker Ask b.state c.ask.new.self.state c.ask.ensures.makes.0 c.requires.worker).0

pub returns-in_ok-make-in-Make-clause-fits : goal.returns-in_ok-make-in-Make-clause-fits
returns-in_ok-make-in-Make-clause-fits c =
    let b = c.args.core.now in
    let kind = c.in-Make.kind in
    next_fits b.job.block c.args.run.now (task_at b.state c.args.worker) _ (no_record b.state _ _ c.in-Make.ensures.doing refl) c.requires.fits
    (rests_after kind _ (turn_own (block_in b) c.args.worker (step_of kind) b.state c.make.new.core.state c.in_ok-make-in-Make.ensures.makes.0 c.requires.worker))
