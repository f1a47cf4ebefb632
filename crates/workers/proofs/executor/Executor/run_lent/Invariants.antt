use Rattle.workers.proofs.executor.Executor.run_lent.Given as goal

abbrev pub ghosts-run_on_threads : goal.ghosts-run_on_threads
ghosts-run_on_threads g a = record { job = record { block = a.block.calls.now; store = g.S.Contents.storage a.contents.now }; work_limit = a.work_limit }
