use Rattle.stm_core.proofs.driving.drive.Goals as goal

pub returns-in-Ok-clause-counts : goal.returns-in-Ok-clause-counts
returns-in-Ok-clause-counts c = rw c.in-Ok.ensures.job at c.drive_core.ensures.counts
