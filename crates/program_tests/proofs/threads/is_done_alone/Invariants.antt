use Rattle.std.specs.Prelude.{None}
use Rattle.program_tests.proofs.threads.is_done_alone.Given as goal

abbrev pub ghosts-is_alone : goal.ghosts-is_alone
ghosts-is_alone g a = record { job = a.job.now; work_limit = None }
