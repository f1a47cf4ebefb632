use Rattle.std.specs.Prelude.{None}
use Rattle.program_tests.proofs.threads.is_foreign_without_one.Given as goal

abbrev pub ghosts-is_foreign : goal.ghosts-is_foreign
ghosts-is_foreign g a = record { job = a.job.now; work_limit = None }
