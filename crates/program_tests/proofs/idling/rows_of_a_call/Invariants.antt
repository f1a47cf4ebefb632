use Rattle.std.specs.Prelude.{None}
use Rattle.program_tests.proofs.idling.rows_of_a_call.Given as goal

abbrev pub ghosts-rows_and_looks : goal.ghosts-rows_and_looks
ghosts-rows_and_looks g a = record { job = a.job.now; work_limit = None }
