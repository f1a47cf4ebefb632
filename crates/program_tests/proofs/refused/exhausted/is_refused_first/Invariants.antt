use Rattle.std.specs.Prelude.{None}
use Rattle.program_tests.proofs.refused.exhausted.is_refused_first.Given as goal

abbrev pub ghosts-tried_on_spare : goal.ghosts-tried_on_spare
ghosts-tried_on_spare g a = record { job = a.job.now; work_limit = None }
